-- The reading of statements from the left.
use Rattle.std.specs.Prelude.{◌≡◌, ℕ, zero, suc, List, [], ◌∷◌, ◌++◌, length, Option, Some, None, Result, Ok, Err}
use Rattle.nova_value.specs.declared.value.Kind.{Kind}
use Rattle.nova_pig_tree.specs.declared.expression.Field.{Field}
use Rattle.nova_pig_tree.specs.declared.statement.Item.{Item}
use Rattle.nova_pig_tree.specs.declared.statement.Item.TheVariants as item
use Rattle.nova_pig_tree.specs.declared.statement.Op.{Op}
use Rattle.nova_pig_tree.specs.declared.statement.Op.TheVariants as op
use Rattle.nova_pig_tree.specs.declared.statement.Body.{Body}
use Rattle.nova_pig_tree.specs.declared.statement.Body.TheVariants as body
use Rattle.nova_pig_tree.specs.declared.token.Token.{Token}
use Rattle.nova_pig_tree.specs.declared.token.Token.TheVariants.{Ident, Word, Group, Literal, Symbol}
use Rattle.nova_pig_tree.specs.declared.token.Word.TheVariants as w
use Rattle.nova_pig_tree.specs.declared.token.Symbol.TheVariants as s
use Rattle.nova_pig_grammar.specs.declared.operators.Mark.{Mark}
use Rattle.nova_pig_grammar.specs.declared.operators.Mark.TheVariants as m
use Rattle.nova_pig_grammar.specs.declared.fault.Fault.{Fault}
use Rattle.nova_pig_grammar.specs.declared.fault.Fault.TheVariants.{Syntax, NoMemory}
use Rattle.nova_pig_grammar.specs.Expression.{whole}
use Rattle.nova_pig_grammar.specs.Statement.{kind_of}
use Rattle.nova_pig_grammar.specs.ExpressionReading.{Reading, Reader, and_then, ◌>>=◌, pure, read, At, expected, followed, closed, field_at}

-- one or more, with commas between; no more than so many after the first
module _ {A : Type 0} (one : Reader A) where
  unfoldable pub more_by : ℕ → Reader (List A)
  more_by zero ts = None
  more_by (suc n) (Symbol s.Comma ∷ ts) = (one >>= (λ a. more_by n >>= (λ as'. pure (a ∷ as')))) ts
  more_by (suc n) ts = Some ([], ts)

  unfoldable pub more : Reader (List A)
  more ts = more_by (suc (length ts)) ts

  abbrev pub listed : Reader (List A)
  listed = one >>= (λ a. more >>= (λ as'. pure (a ∷ as')))

-- after some that were read
abbrev pub ahead : {A : Type 0} → List A → Reading (List A) → Reading (List A)
ahead prefix r = and_then r (λ as'. pure (prefix ++ as'))

abbrev pub name_at : Reader (List ℕ)
name_at (Ident a ∷ ts) = Some (a, ts)
name_at _ = None

abbrev pub columns_at : Reader (List Field)
columns_at (Symbol s.Open ∷ ts) = (listed field_at >>= closed) ts
columns_at ts = (field_at >>= (λ a. pure (a ∷ []))) ts

abbrev pub some_kind : Option Kind → Reader (Option Kind)
some_kind (Some k) ts = Some (Some k, ts)
some_kind None ts = None

-- `: kind`, or nothing
abbrev pub kind_at : Reader (Option Kind)
kind_at (Symbol s.Colon ∷ Ident k ∷ ts) = some_kind (kind_of k) ts
kind_at (Symbol s.Colon ∷ ts) = None
kind_at ts = Some (None, ts)

-- `AS name` with a kind or without, or nothing
abbrev pub label_at : Reader (Option (List ℕ) × Option Kind)
label_at (Word w.As ∷ Ident a ∷ ts) = (kind_at >>= (λ k. pure (Some a, k))) ts
label_at (Word w.As ∷ ts) = None
label_at ts = Some ((None, None), ts)

abbrev pub flatten_at : Reader Item
flatten_at = expected m.Open >>= (λ _. expected m.Group >>= (λ _. closed item.Flatten))

abbrev pub value_at : Reader Item
value_at = read (At whole) >>= (λ x. label_at >>= (λ l. pure (item.Value x l.0 l.1)))

abbrev pub item_at : Reader Item
item_at (Symbol s.Star ∷ ts) = Some (item.All, ts)
item_at (Word w.Flatten ∷ ts) = flatten_at ts
item_at ts = value_at ts

-- `ident BY`, `ident GENERATE` and `ident INTO`
abbrev pub name_then : Mark → Reader (List ℕ)
name_then mark = name_at >>= followed mark

abbrev pub text_at : Reader (List ℕ)
text_at (Literal c ∷ ts) = Some (c, ts)
text_at _ = None

abbrev pub filter_at : Reader Op
filter_at = name_then m.By >>= (λ a. read (At whole) >>= (λ x. pure (op.Filter a x)))

abbrev pub foreach_at : Reader Op
foreach_at = name_then m.Generate >>= (λ a. listed item_at >>= (λ is. pure (op.Foreach a is)))

abbrev pub group_at : Reader Op
group_at = name_then m.By >>= (λ a. columns_at >>= (λ fs. pure (op.Group a fs)))

abbrev pub join_at : Reader Op
join_at = name_then m.By >>= (λ a. columns_at >>= (λ fs. followed m.Comma fs >>= (λ fs. name_then m.By >>= (λ b. columns_at >>= (λ gs. pure (op.Join a fs b gs))))))

abbrev pub two : List (List ℕ) → Reader Op
two (a ∷ b ∷ cs) ts = Some (op.Union (a ∷ b ∷ cs), ts)
two _ ts = None

abbrev pub union_at : Reader Op
union_at = listed name_at >>= two

abbrev pub op_at : Reader Op
op_at (Word w.Load ∷ ts) = (text_at >>= (λ c. pure (op.Load c))) ts
op_at (Word w.Filter ∷ ts) = filter_at ts
op_at (Word w.Foreach ∷ ts) = foreach_at ts
op_at (Group b ∷ ts) = group_at ts
op_at (Word w.Join ∷ ts) = join_at ts
op_at (Word w.Union ∷ ts) = union_at ts
op_at (Word w.Distinct ∷ ts) = (name_at >>= (λ a. pure (op.Distinct a))) ts
op_at _ = None

abbrev pub ended : {A : Type 0} → A → Reader A
ended = followed m.Semicolon

abbrev pub define_at : List ℕ → Reader Body
define_at a = expected m.Assign >>= (λ _. op_at >>= (λ o. ended (body.Define a o)))

abbrev pub store_at : Reader Body
store_at = name_then m.Into >>= (λ a. text_at >>= (λ c. ended (body.Store a c)))

abbrev pub cut_at : Reader Body
cut_at (Ident a ∷ ts) = define_at a ts
cut_at (Word w.Store ∷ ts) = store_at ts
cut_at _ = None

abbrev pub all_of : {A : Type 0} → Reading A → Option A
all_of (Some (a, [])) = Some a
all_of _ = None

-- the statement that a whole cut is
abbrev pub body_of : List Token → Option Body
body_of cut = all_of (cut_at cut)

abbrev pub IsBodyOf : List Token → Result Body Fault → Type 0
IsBodyOf cut (Ok b) = body_of cut ≡ Some b
IsBodyOf cut (Err Syntax) = body_of cut ≡ None
IsBodyOf cut (Err NoMemory) = Unit {0}
