-- The reading of tokens from the left, which a script has one of.
use Rattle.std.specs.Prelude.{◌≡◌, ℕ, zero, suc, ◌+◌, ◌*◌, ◌<◌, Bool, true, false, List, [], ◌∷◌, length, Option, Some, None, Result, Ok, Err, if◌then◌else◌}
use Rattle.nova_pig_grammar.specs.declared.fault.Fault.{Fault}
use Rattle.nova_pig_grammar.specs.declared.fault.Fault.TheVariants.{Syntax, NoMemory}
use Rattle.nova_pig_tree.specs.declared.expression.Field.{Field}
use Rattle.nova_pig_tree.specs.declared.expression.Field.TheVariants as f
use Rattle.nova_pig_tree.specs.declared.expression.CallKind.{CallKind}
use Rattle.nova_pig_tree.specs.declared.expression.CompareOp.{CompareOp}
use Rattle.nova_pig_tree.specs.declared.expression.Expr.{Expr}
use Rattle.nova_pig_tree.specs.declared.expression.Expr.TheVariants as e
use Rattle.nova_pig_tree.specs.declared.token.Token.{Token}
use Rattle.nova_pig_tree.specs.declared.token.Token.TheVariants.{Ident, Word, Group, Number, Position, Literal, Symbol}
use Rattle.nova_pig_tree.specs.declared.token.Word.TheVariants as w
use Rattle.nova_pig_tree.specs.declared.token.Symbol.TheVariants as s
use Rattle.nova_pig_grammar.specs.declared.operators.Mark.{Mark}
use Rattle.nova_pig_grammar.specs.declared.operators.Mark.TheVariants as m
use Rattle.nova_pig_grammar.specs.declared.operators.Level.{Level}
use Rattle.nova_pig_grammar.specs.declared.operators.Level.TheVariants as l
use Rattle.nova_pig_grammar.specs.declared.operators.BinaryOp.{BinaryOp}
use Rattle.nova_pig_grammar.specs.Operators.{is, operator, comparison, combine, call_kind, group_word}
use Rattle.nova_pig_grammar.specs.Expression.{Part, Left, Neg, Comp, Unary, Primary, operand, whole}

-- what is left after a part was read
abbrev pub Reading : Type 0 → Type 0
Reading A = Option (A × List Token)

abbrev pub Reader : Type 0 → Type 0
Reader A = List Token → Reading A

abbrev pub and_then : {A B : Type 0} → Reading A → (A → Reader B) → Reading B
and_then (Some p) k = k p.0 p.1
and_then None k = None

infixl 10 ◌>>=◌
abbrev pub ◌>>=◌ : {A B : Type 0} → Reader A → (A → Reader B) → Reader B
p >>= k = λ ts. and_then (p ts) k

abbrev pub pure : {A : Type 0} → A → Reader A
pure a = λ ts. Some (a, ts)

-- reading goes on with a part, or after the operands of a level so far
pub data Goal : Type 0 where
  At : Part → Goal
  After : Level → Expr → Goal

-- this token, of which nothing is kept
abbrev pub expected : Mark → Reader (Unit {0})
expected mark [] = None
expected mark (t ∷ ts) = if is mark t then Some (tt, ts) else None

-- a part that was read, where this token follows it
abbrev pub followed : {A : Type 0} → Mark → A → Reader A
followed mark x = expected mark >>= (λ _. pure x)

abbrev pub closed : {A : Type 0} → A → Reader A
closed = followed m.Close

-- what follows the first name of a field
abbrev pub field_after : List ℕ → Reader Field
field_after a (Symbol s.ColonColon ∷ Ident b ∷ ts) = Some (f.Of a b, ts)
field_after a (Symbol s.ColonColon ∷ ts) = None
field_after a ts = Some (f.Plain a, ts)

abbrev pub group_after : Reader Field
group_after (Symbol s.Dot ∷ Ident b ∷ ts) = Some (f.GroupOf b, ts)
group_after (Symbol s.Dot ∷ ts) = None
group_after ts = field_after group_word ts

abbrev pub field_at : Reader Field
field_at (Ident a ∷ ts) = field_after a ts
field_at (Group true ∷ ts) = group_after ts
field_at (Position n ∷ ts) = Some (f.At n, ts)
field_at _ = None

abbrev pub refer : Reader Field → Reader Expr
refer r = r >>= (λ a. pure (e.Ref a))

-- the field of a call, if a dot follows its name
abbrev pub call_field : Reader (Option Field)
call_field (Symbol s.Dot ∷ ts) = (field_at >>= (λ a. pure (Some a))) ts
call_field ts = Some (None, ts)

-- what follows the name of a call and its `(`
abbrev pub call_after : CallKind → Reader Expr
call_after k (Ident a ∷ ts) = (call_field >>= (λ o. closed (e.Call k a o))) ts
call_after k _ = None

abbrev pub named_by : Option CallKind → List ℕ → Reader Expr
named_by (Some k) a (Symbol s.Open ∷ ts) = call_after k ts
named_by _ a ts = refer (field_after a) ts

abbrev pub named : List ℕ → Reader Expr
named a = named_by (call_kind a) a

-- a primary that is no expression in parentheses
abbrev pub single : Reader Expr
single (Number n ∷ ts) = Some (e.Num n, ts)
single (Literal a ∷ ts) = Some (e.Lit a, ts)
single (Position n ∷ ts) = Some (e.Ref (f.At n), ts)
single (Group true ∷ ts) = refer group_after ts
single (Ident a ∷ ts) = named a ts
single _ = None

module _ (read : Goal → Reader Expr) where
  abbrev pub left : Level → Reader Expr
  left l = read (At (operand l)) >>= (λ x. read (After l x))

  abbrev pub after_by : Level → Expr → Token → List Token → Option BinaryOp → Reading Expr
  after_by l x t ts (Some op) = (read (At (operand l)) >>= (λ y. read (After l (combine op x y)))) ts
  after_by l x t ts None = Some (x, t ∷ ts)

  abbrev pub after : Level → Expr → Reader Expr
  after l x [] = Some (x, [])
  after l x (t ∷ ts) = after_by l x t ts (operator l t)

  abbrev pub neg : Reader Expr
  neg (Word w.Not ∷ ts) = (read (At Neg) >>= (λ x. pure (e.Not x))) ts
  neg ts = read (At Comp) ts

  abbrev pub compared_by : Expr → Token → List Token → Option CompareOp → Reading Expr
  compared_by x t ts (Some op) = (read (At (Left l.Sum)) >>= (λ y. pure (e.Compare op x y))) ts
  compared_by x t ts None = Some (x, t ∷ ts)

  abbrev pub compared : Expr → Reader Expr
  compared x [] = Some (x, [])
  compared x (t ∷ ts) = compared_by x t ts (comparison t)

  abbrev pub comp : Reader Expr
  comp = read (At (Left l.Sum)) >>= compared

  abbrev pub unary : Reader Expr
  unary (Symbol s.Minus ∷ ts) = (read (At Unary) >>= (λ x. pure (e.Neg x))) ts
  unary ts = read (At Primary) ts

  abbrev pub third : Reader Expr
  third = expected m.Colon >>= (λ _. read (At whole) >>= closed)

  -- the two values of a choice
  abbrev pub branches : Reader (Expr × Expr)
  branches = read (At whole) >>= (λ y. third >>= (λ z. pure (y, z)))

  abbrev pub opened : Expr → Reader Expr
  opened x (Symbol s.Close ∷ ts) = Some (x, ts)
  opened x (Symbol s.Question ∷ ts) = (branches >>= (λ b. pure (e.If x b.0 b.1))) ts
  opened x _ = None

  abbrev pub primary : Reader Expr
  primary (Symbol s.Open ∷ ts) = (read (At whole) >>= opened) ts
  primary ts = single ts

  unfoldable pub step : Goal → Reader Expr
  step (At (Left l)) = left l
  step (At Neg) = neg
  step (At Comp) = comp
  step (At Unary) = unary
  step (At Primary) = primary
  step (After l x) = after l x

-- with at most n steps inside each other
unfoldable pub read_by : ℕ → Goal → Reader Expr
read_by zero g ts = None
read_by (suc n) g ts = step (read_by n) g ts

abbrev pub rank : Goal → ℕ
rank (At (Left l.Or)) = 7
rank (At (Left l.And)) = 6
rank (At Neg) = 5
rank (At Comp) = 4
rank (At (Left l.Sum)) = 3
rank (At (Left l.Prod)) = 2
rank (At Unary) = 1
rank (At Primary) = 0
rank (After l x) = 8

abbrev pub fuel : Goal → List Token → ℕ
fuel g ts = 9 * length ts + rank g

unfoldable pub read : Goal → Reader Expr
read g ts = read_by (suc (fuel g ts)) g ts

-- What a function that reads ensures: the reading, or nothing of the kind, unless memory fails. After an error
-- the tokens that are left are open.
abbrev pub Answers : {A : Type 0} → Reading A → Result A Fault → List Token → Type 0
Answers reading (Ok x) rest = reading ≡ Some (x, rest)
Answers reading (Err Syntax) rest = reading ≡ None
Answers reading (Err NoMemory) rest = Unit {0}

-- what reading goes on with after operands of the level, where this operator was next and taken, or none was
abbrev pub Next : Level → Option BinaryOp → List Token → List Token → Type 0
Next l (Some op) old new = (length new < length old) × ((x : Expr) → read (After l x) old ≡ (read (At (operand l)) >>= (λ y. read (After l (combine op x y)))) new)
Next l None old new = (new ≡ old) × ((x : Expr) → read (After l x) old ≡ Some (x, old))

abbrev pub NextNot : Bool → List Token → List Token → Type 0
NextNot true old new = (length new < length old) × (read (At Neg) old ≡ (read (At Neg) >>= (λ x. pure (e.Not x))) new)
NextNot false old new = (new ≡ old) × (read (At Neg) old ≡ read (At Comp) old)

abbrev pub NextMinus : Bool → List Token → List Token → Type 0
NextMinus true old new = (length new < length old) × (read (At Unary) old ≡ (read (At Unary) >>= (λ x. pure (e.Neg x))) new)
NextMinus false old new = (new ≡ old) × (read (At Unary) old ≡ read (At Primary) old)

abbrev pub NextComparison : Option CompareOp → List Token → List Token → Type 0
NextComparison (Some op) old new = (length new < length old) × ((x : Expr) → compared read x old ≡ (read (At (Left l.Sum)) >>= (λ y. pure (e.Compare op x y))) new)
NextComparison None old new = (new ≡ old) × ((x : Expr) → compared read x old ≡ Some (x, old))

abbrev pub NextOpen : Bool → List Token → List Token → Type 0
NextOpen true old new = (length new < length old) × (read (At Primary) old ≡ (read (At whole) >>= opened read) new)
NextOpen false old new = (new ≡ old) × (read (At Primary) old ≡ single old)

-- this token was next and was taken, or another one or none was and stays
abbrev pub Eats : Mark → Bool → List Token → List Token → Type 0
Eats mark true old new = (length new < length old) × (expected mark old ≡ Some (tt, new))
Eats mark false old new = (new ≡ old) × (expected mark old ≡ None)

-- whether a comma is next
abbrev pub begins_comma : List Token → Bool
begins_comma [] = false
begins_comma (t ∷ ts) = is m.Comma t

abbrev pub NextComma : Bool → List Token → List Token → Type 0
NextComma true old new = old ≡ Symbol s.Comma ∷ new
NextComma false old new = (new ≡ old) × (begins_comma old ≡ false)

-- what reading goes on with where NOT, `-`, `(` or a comma was taken or stays; no other token decides it
abbrev pub Decides : Mark → Bool → List Token → List Token → Type 0
Decides m.Not = NextNot
Decides m.Minus = NextMinus
Decides m.Open = NextOpen
Decides m.Comma = NextComma
Decides _ = λ taken old new. Unit {0}

-- after the first expression in parentheses: whether it is a condition
abbrev pub NextMark : Result Bool Fault → List Token → List Token → Type 0
NextMark (Ok true) old new = (length new < length old) × ((x : Expr) → opened read x old ≡ (branches read >>= (λ b. pure (e.If x b.0 b.1))) new)
NextMark (Ok false) old new = (length new < length old) × ((x : Expr) → opened read x old ≡ Some (x, new))
NextMark (Err Syntax) old new = (x : Expr) → opened read x old ≡ None
NextMark (Err NoMemory) old new = Unit {0}
