-- The grammar of statements, one case per production.
use Rattle.std.specs.Prelude.{if◌then◌else◌, ◌≡◌, ℕ, Bool, true, false, List, [], ◌∷◌, ◌++◌, Option, Some, None, codes}
use Rattle.nova_value.specs.declared.value.Kind.{Kind}
use Rattle.nova_pig_tree.specs.declared.expression.Field.{Field}
use Rattle.nova_pig_tree.specs.declared.statement.Item.{Item}
use Rattle.nova_pig_tree.specs.declared.statement.Item.TheVariants as item
use Rattle.nova_pig_tree.specs.declared.statement.Op.{Op}
use Rattle.nova_pig_tree.specs.declared.statement.Op.TheVariants as op
use Rattle.nova_pig_tree.specs.declared.statement.Body.{Body}
use Rattle.nova_pig_tree.specs.declared.statement.Body.TheVariants as body
use Rattle.nova_pig_tree.specs.declared.expression.Expr.{Expr}
use Rattle.nova_pig_tree.specs.declared.token.Token.{Token}
use Rattle.nova_pig_tree.specs.declared.token.Token.TheVariants.{Ident, Word, Group, Literal, Symbol}
use Rattle.nova_pig_tree.specs.declared.token.Word.TheVariants as w
use Rattle.nova_pig_tree.specs.declared.token.Symbol.TheVariants as s
use Rattle.nova_pig_grammar.specs.Expression.{Derives, IsField, whole}
use Rattle.nova_value.specs.declared.value.Kind.TheVariants as kind
use Rattle.std.specs.Str.{bytes_eq}

-- { "," one }, for each sort of parts
pub data Tail {A : Type 0} (One : List Token → A → Type 0) : List Token → List A → Type 0 where
  none : Tail One [] []
  next : {ts us : List Token} {a : A} {as' : List A} → One ts a → Tail One us as' → Tail One (Symbol s.Comma ∷ ts ++ us) (a ∷ as')

-- one { "," one }
pub data Listed {A : Type 0} (One : List Token → A → Type 0) : List Token → List A → Type 0 where
  begin : {ts us : List Token} {a : A} {as' : List A} → One ts a → Tail One us as' → Listed One (ts ++ us) (a ∷ as')

-- kind = the identifier long, int or chararray
unfoldable pub kind_of : List ℕ → Option Kind
kind_of a =
    if bytes_eq a (codes "long") then Some kind.Long else
    (if bytes_eq a (codes "int") then Some kind.Long else
    (if bytes_eq a (codes "chararray") then Some kind.Text else None))

-- [ AS ident [ ":" kind ] ]
pub data IsLabel : List Token → Option (List ℕ) × Option Kind → Type 0 where
  bare : IsLabel [] (None, None)
  called : {a : List ℕ} → IsLabel (Word w.As ∷ Ident a ∷ []) (Some a, None)
  typed : {a k : List ℕ} (found : Kind) → kind_of k ≡ Some found → IsLabel (Word w.As ∷ Ident a ∷ Symbol s.Colon ∷ Ident k ∷ []) (Some a, Some found)

-- item = "*" | FLATTEN "(" group ")" | expr [ AS ident [ ":" kind ] ]
pub data IsItem : List Token → Item → Type 0 where
  all : IsItem (Symbol s.Star ∷ []) item.All
  flatten : IsItem (Word w.Flatten ∷ Symbol s.Open ∷ Group true ∷ Symbol s.Close ∷ []) item.Flatten
  value : {ts us : List Token} {x : Expr} {l : Option (List ℕ) × Option Kind} → Derives whole ts x → IsLabel us l → IsItem (ts ++ us) (item.Value x l.0 l.1)

-- cols = field | "(" field { "," field } ")"
pub data IsColumns : List Token → List Field → Type 0 where
  single : {ts : List Token} {a : Field} → IsField ts a → IsColumns ts (a ∷ [])
  several : {ts : List Token} {fs : List Field} → Listed IsField ts fs → IsColumns (Symbol s.Open ∷ ts ++ Symbol s.Close ∷ []) fs

pub data IsName : List Token → List ℕ → Type 0 where
  name : {a : List ℕ} → IsName (Ident a ∷ []) a

-- op: one case an operator; GROUP as the keyword goes in any spelling, as a field only as `group`
pub data IsOp : List Token → Op → Type 0 where
  load : {c : List ℕ} → IsOp (Word w.Load ∷ Literal c ∷ []) (op.Load c)
  filter : {a : List ℕ} {ts : List Token} {x : Expr} → Derives whole ts x → IsOp (Word w.Filter ∷ Ident a ∷ Word w.By ∷ ts) (op.Filter a x)
  foreach : {a : List ℕ} {ts : List Token} {is : List Item} → Listed IsItem ts is → IsOp (Word w.Foreach ∷ Ident a ∷ Word w.Generate ∷ ts) (op.Foreach a is)
  group : {a : List ℕ} {ts : List Token} {fs : List Field} (spelled : Bool) → IsColumns ts fs → IsOp (Group spelled ∷ Ident a ∷ Word w.By ∷ ts) (op.Group a fs)
  distinct : {a : List ℕ} → IsOp (Word w.Distinct ∷ Ident a ∷ []) (op.Distinct a)
  join : {a b : List ℕ} {ts us : List Token} {fs gs : List Field} → IsColumns ts fs → IsColumns us gs
      → IsOp (Word w.Join ∷ Ident a ∷ Word w.By ∷ ts ++ Symbol s.Comma ∷ Ident b ∷ Word w.By ∷ us) (op.Join a fs b gs)
  union : {a b : List ℕ} {ts : List Token} {cs : List (List ℕ)} → Listed IsName ts (a ∷ b ∷ cs) → IsOp (Word w.Union ∷ ts) (op.Union (a ∷ b ∷ cs))

-- a `,`, a `;` or a `)` ends a part of a statement
abbrev pub ends : Token → Bool
ends (Symbol s.Comma) = true
ends (Symbol s.Semicolon) = true
ends (Symbol s.Close) = true
ends _ = false

abbrev pub Ended : List Token → Type 0
Ended [] = ⊥
Ended (t ∷ ts) = ends t ≡ true

abbrev pub is_semicolon : Token → Bool
is_semicolon (Symbol s.Semicolon) = true
is_semicolon _ = false

-- a statement with its `;`: ident "=" op ";", or STORE ident INTO literal ";"
pub data IsStatement : List Token → Body → Type 0 where
  define : {a : List ℕ} {ts : List Token} {o : Op} → IsOp ts o → IsStatement (Ident a ∷ Symbol s.Assign ∷ ts ++ Symbol s.Semicolon ∷ []) (body.Define a o)
  store : {a c : List ℕ} → IsStatement (Word w.Store ∷ Ident a ∷ Word w.Into ∷ Literal c ∷ Symbol s.Semicolon ∷ []) (body.Store a c)

-- tokens are one statement at most
abbrev pub OneStatement : Type 0
OneStatement = (ts : List Token) (a b : Body) → IsStatement ts a → IsStatement ts b → a ≡ b
