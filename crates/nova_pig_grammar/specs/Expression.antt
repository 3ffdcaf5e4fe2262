-- The grammar of expressions, one case per production.
use Rattle.std.specs.Prelude.{◌≡◌, ℕ, true, List, [], ◌∷◌, ◌++◌, Some, None, ℤ}
use Rattle.nova_pig_tree.specs.declared.expression.Field.{Field}
use Rattle.nova_pig_tree.specs.declared.expression.Field.TheVariants as f
use Rattle.nova_pig_tree.specs.declared.expression.CallKind.{CallKind}
use Rattle.nova_pig_tree.specs.declared.expression.CompareOp.{CompareOp}
use Rattle.nova_pig_tree.specs.declared.expression.Expr.{Expr}
use Rattle.nova_pig_tree.specs.declared.expression.Expr.TheVariants as e
use Rattle.nova_pig_tree.specs.declared.token.Token.{Token}
use Rattle.nova_pig_tree.specs.declared.token.Token.TheVariants.{Ident, Word, Group, Number, Position, Literal, Symbol}
use Rattle.nova_pig_tree.specs.declared.token.Word.TheVariants as w
use Rattle.nova_pig_tree.specs.declared.token.Symbol.TheVariants as s
use Rattle.nova_pig_grammar.specs.declared.operators.Level.{Level}
use Rattle.nova_pig_grammar.specs.declared.operators.Level.TheVariants as l
use Rattle.nova_pig_grammar.specs.declared.operators.BinaryOp.{BinaryOp}
use Rattle.nova_pig_grammar.specs.Operators.{operator, combine, call_kind, group_word}

-- field = ident ["::" ident] | group [("::" | ".") ident] | position
pub data IsField : List Token → Field → Type 0 where
  plain : {a : List ℕ} → IsField (Ident a ∷ []) (f.Plain a)
  of : {a b : List ℕ} → IsField (Ident a ∷ Symbol s.ColonColon ∷ Ident b ∷ []) (f.Of a b)
  group : IsField (Group true ∷ []) (f.Plain group_word)
  group_of : {b : List ℕ} → IsField (Group true ∷ Symbol s.ColonColon ∷ Ident b ∷ []) (f.Of group_word b)
  of_group : {b : List ℕ} → IsField (Group true ∷ Symbol s.Dot ∷ Ident b ∷ []) (f.GroupOf b)
  position : {n : ℕ} → IsField (Position n ∷ []) (f.At n)

-- the parts of an expression, from the loosest
pub data Part : Type 0 where
  -- expr, conj, sum and prod: operands with operators of the level between them
  Left : Level → Part
  Neg : Part
  Comp : Part
  Unary : Part
  Primary : Part

abbrev pub operand : Level → Part
operand l.Or = Left l.And
operand l.And = Neg
operand l.Sum = Left l.Prod
operand l.Prod = Unary

abbrev pub whole : Part
whole = Left l.Or

-- expr = conj { OR conj }; conj = neg { AND neg }; neg = NOT neg | comp; comp = sum [ comparison sum ];
-- sum = prod { ("+" | "-") prod }; prod = unary { "*" unary }; unary = "-" unary | primary;
-- primary = number | literal | call | field | "(" expr [ "?" expr ":" expr ] ")"; call = a name of four "(" ident [ "." field ] ")".
-- `one` and `more` are the first operand and a further one, so operators of a level group to the left.
pub data Derives : Part → List Token → Expr → Type 0 where
  one : {l : Level} {ts : List Token} {x : Expr} → Derives (operand l) ts x → Derives (Left l) ts x
  more : {l : Level} {ts us : List Token} (t : Token) {x y : Expr} (op : BinaryOp)
      → Derives (Left l) ts x → operator l t ≡ Some op → Derives (operand l) us y
      → Derives (Left l) (ts ++ t ∷ us) (combine op x y)
  not : {ts : List Token} {x : Expr} → Derives Neg ts x → Derives Neg (Word w.Not ∷ ts) (e.Not x)
  positive : {ts : List Token} {x : Expr} → Derives Comp ts x → Derives Neg ts x
  alone : {ts : List Token} {x : Expr} → Derives (Left l.Sum) ts x → Derives Comp ts x
  compare : {ts us : List Token} {x y : Expr} (op : CompareOp)
      → Derives (Left l.Sum) ts x → Derives (Left l.Sum) us y
      → Derives Comp (ts ++ Symbol (s.Compare op) ∷ us) (e.Compare op x y)
  minus : {ts : List Token} {x : Expr} → Derives Unary ts x → Derives Unary (Symbol s.Minus ∷ ts) (e.Neg x)
  primary : {ts : List Token} {x : Expr} → Derives Primary ts x → Derives Unary ts x
  number : {n : ℤ} → Derives Primary (Number n ∷ []) (e.Num n)
  literal : {a : List ℕ} → Derives Primary (Literal a ∷ []) (e.Lit a)
  field : {ts : List Token} {a : Field} → IsField ts a → Derives Primary ts (e.Ref a)
  call : {a b : List ℕ} (k : CallKind) → call_kind a ≡ Some k
      → Derives Primary (Ident a ∷ Symbol s.Open ∷ Ident b ∷ Symbol s.Close ∷ []) (e.Call k b None)
  call_of : {a b : List ℕ} {ts : List Token} {x : Field} (k : CallKind) → call_kind a ≡ Some k → IsField ts x
      → Derives Primary (Ident a ∷ Symbol s.Open ∷ Ident b ∷ Symbol s.Dot ∷ ts ++ Symbol s.Close ∷ []) (e.Call k b (Some x))
  inside : {ts : List Token} {x : Expr} → Derives whole ts x → Derives Primary (Symbol s.Open ∷ ts ++ Symbol s.Close ∷ []) x
  choose : {ts us vs : List Token} {x y z : Expr} → Derives whole ts x → Derives whole us y → Derives whole vs z
      → Derives Primary (Symbol s.Open ∷ ts ++ Symbol s.Question ∷ us ++ Symbol s.Colon ∷ vs ++ Symbol s.Close ∷ []) (e.If x y z)
