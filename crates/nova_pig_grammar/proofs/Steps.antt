-- The bound on steps is never met: `read` is its own step.
use Rattle.std.proofs.Common.{◌≡◌, true, ℕ, zero, suc, ◌+◌, ◌*◌, ◌<◌, ◌≤◌, List, [], ◌∷◌, length, Option, Some, None, refl, ap, ◌∙◌, arith}
use Rattle.nova_pig_tree.specs.declared.expression.CallKind.{CallKind}
use Rattle.nova_pig_tree.specs.declared.expression.Field.{Field}
use Rattle.nova_pig_tree.specs.declared.expression.CompareOp.{CompareOp}
use Rattle.nova_pig_tree.specs.declared.expression.Expr.{Expr}
use Rattle.nova_pig_tree.specs.declared.expression.Expr.TheVariants as e
use Rattle.nova_pig_tree.specs.declared.token.Token.{Token}
use Rattle.nova_pig_tree.specs.declared.token.Token.TheVariants.{Ident, Word, Group, Number, Position, Literal, Symbol}
use Rattle.nova_pig_tree.specs.declared.token.Word.TheVariants as w
use Rattle.nova_pig_tree.specs.declared.token.Symbol.TheVariants as s
use Rattle.nova_pig_grammar.specs.declared.operators.Level.{Level}
use Rattle.nova_pig_grammar.specs.declared.operators.Level.TheVariants as l
use Rattle.nova_pig_grammar.specs.declared.operators.BinaryOp.{BinaryOp}
use Rattle.nova_pig_grammar.specs.Operators.{operator, comparison, combine, call_kind, group_word}
use Rattle.nova_pig_grammar.specs.Expression.{Part, Left, Neg, Comp, Unary, Primary, operand, whole}
use Rattle.nova_pig_grammar.specs.ExpressionReading.{Reading, Reader, and_then, Goal, At, After, left, after_by, after, neg, compared_by, compared, comp, unary, closed, third, branches, opened, field_after, group_after, field_at, refer, call_field, call_after, named_by, primary, step, read_by, rank, fuel, read}

-- a reading of two parts that succeeded
pub bound : {A B : Type 0} (r : Reading A) (k : A → Reader B) {y : B} {rest : List Token} → and_then r k ≡ Some (y, rest)
    → (x : A) × (mid : List Token) × (r ≡ Some (x, mid)) × (k x mid ≡ Some (y, rest))
bound (Some p) k eq = (p.0, p.1, refl, eq)
bound None k eq = absurd cc

same_pair : {A : Type 0} {p q : A × List Token} → Some p ≡ Some q → p ≡ q
same_pair eq = cc

pub same_value : {A : Type 0} {x y : A} {r s : List Token} → ◌≡◌ {A = Reading A} (Some (x, r)) (Some (y, s)) → x ≡ y
same_value eq = ap (λ p. p.0) (same_pair eq)

pub same_rest : {A : Type 0} {x y : A} {r s : List Token} → ◌≡◌ {A = Reading A} (Some (x, r)) (Some (y, s)) → r ≡ s
same_rest eq = ap (λ p. p.1) (same_pair eq)

-- what a goal leaves is shorter than what it was given, or no longer after an operand
abbrev pub Within : Goal → List Token → List Token → Type 0
Within (At p) ts rest = length rest < length ts
Within (After l x) ts rest = length rest ≤ length ts

abbrev pub Shrinks : (Goal → Reader Expr) → Type 0
Shrinks p = (g : Goal) (ts : List Token) (x : Expr) (rest : List Token) → p g ts ≡ Some (x, rest) → Within g ts rest

closed-shrinks : (x : Expr) (ts : List Token) (y : Expr) (rest : List Token) → closed x ts ≡ Some (y, rest) → length rest < length ts
closed-shrinks x (Symbol s.Close ∷ ts) y rest eq = let same : ts ≡ rest = same_rest eq in rw (← same) (omega arith)
closed-shrinks x _ y rest eq = absurd cc

module _ (p : Goal → Reader Expr) (shrinks : Shrinks p) where
  left-shrinks : (l : Level) (ts : List Token) (x : Expr) (rest : List Token) → left p l ts ≡ Some (x, rest) → length rest < length ts
  left-shrinks l ts x rest eq =
      let (y, mid, first, then) = bound (p (At (operand l)) ts) (λ x. p (After l x)) eq in
      let a : length mid < length ts = shrinks (At (operand l)) ts y mid first in
      let b : length rest ≤ length mid = shrinks (After l y) mid x rest then in
      omega arith

  after_by-shrinks : (l : Level) (x : Expr) (t : Token) (ts : List Token) (o : Option BinaryOp) (y : Expr) (rest : List Token)
      → after_by p l x t ts o ≡ Some (y, rest) → length rest ≤ suc (length ts)
  after_by-shrinks l x t ts None y rest eq = let same : t ∷ ts ≡ rest = same_rest eq in rw (← same) (omega arith)
  after_by-shrinks l x t ts (Some op) y rest eq =
      let (z, mid, first, then) = bound (p (At (operand l)) ts) (λ y. p (After l (combine op x y))) eq in
      let a : length mid < length ts = shrinks (At (operand l)) ts z mid first in
      let b : length rest ≤ length mid = shrinks (After l (combine op x z)) mid y rest then in
      omega arith

  after-shrinks : (l : Level) (x : Expr) (ts : List Token) (y : Expr) (rest : List Token) → after p l x ts ≡ Some (y, rest) → length rest ≤ length ts
  after-shrinks l x [] y rest eq = let same : [] ≡ rest = same_rest eq in rw (← same) (omega arith)
  after-shrinks l x (t ∷ ts) y rest eq = after_by-shrinks l x t ts (operator l t) y rest eq

  -- a first token, a part and what is made of it
  prefixed : (f : Expr → Expr) (g : Part) (ts : List Token) (x : Expr) (rest : List Token)
      → and_then (p (At g) ts) (λ x us. Some (f x, us)) ≡ Some (x, rest) → length rest < suc (length ts)
  prefixed f g ts x rest eq =
      let (y, mid, first, then) = bound (p (At g) ts) (λ x us. Some (f x, us)) eq in
      let a : length mid < length ts = shrinks (At g) ts y mid first in
      let same : mid ≡ rest = same_rest then in
      rw (← same) (omega arith)

  neg-shrinks : (ts : List Token) (x : Expr) (rest : List Token) → neg p ts ≡ Some (x, rest) → length rest < length ts
  neg-shrinks (Word w.Not ∷ ts) x rest eq = prefixed e.Not Neg ts x rest eq
  neg-shrinks ts x rest eq = shrinks (At Comp) ts x rest eq

  unary-shrinks : (ts : List Token) (x : Expr) (rest : List Token) → unary p ts ≡ Some (x, rest) → length rest < length ts
  unary-shrinks (Symbol s.Minus ∷ ts) x rest eq = prefixed e.Neg Unary ts x rest eq
  unary-shrinks ts x rest eq = shrinks (At Primary) ts x rest eq

  compared_by-shrinks : (x : Expr) (t : Token) (ts : List Token) (o : Option CompareOp) (y : Expr) (rest : List Token)
      → compared_by p x t ts o ≡ Some (y, rest) → length rest ≤ suc (length ts)
  compared_by-shrinks x t ts None y rest eq = let same : t ∷ ts ≡ rest = same_rest eq in rw (← same) (omega arith)
  compared_by-shrinks x t ts (Some op) y rest eq = let h = prefixed (e.Compare op x) (Left l.Sum) ts y rest eq in omega arith

  compared-shrinks : (x : Expr) (ts : List Token) (y : Expr) (rest : List Token) → compared p x ts ≡ Some (y, rest) → length rest ≤ length ts
  compared-shrinks x [] y rest eq = let same : [] ≡ rest = same_rest eq in rw (← same) (omega arith)
  compared-shrinks x (t ∷ ts) y rest eq = compared_by-shrinks x t ts (comparison t) y rest eq

  comp-shrinks : (ts : List Token) (x : Expr) (rest : List Token) → comp p ts ≡ Some (x, rest) → length rest < length ts
  comp-shrinks ts x rest eq =
      let (y, mid, first, then) = bound (p (At (Left l.Sum)) ts) (compared p) eq in
      let a : length mid < length ts = shrinks (At (Left l.Sum)) ts y mid first in
      let b : length rest ≤ length mid = compared-shrinks y mid x rest then in
      omega arith

  third-shrinks : (ts : List Token) (z : Expr) (rest : List Token) → third p ts ≡ Some (z, rest) → length rest < length ts
  third-shrinks (Symbol s.Colon ∷ ts) z rest eq =
      let (v, mid, first, then) = bound (p (At whole) ts) closed eq in
      let a : length mid < length ts = shrinks (At whole) ts v mid first in
      let b : length rest < length mid = closed-shrinks v mid z rest then in
      omega arith
  third-shrinks _ z rest eq = absurd cc

  branches-shrinks : (ts : List Token) (z : Expr × Expr) (rest : List Token) → branches p ts ≡ Some (z, rest) → length rest < length ts
  branches-shrinks ts z rest eq =
      let (y, mid, first, then) = bound (p (At whole) ts) (λ y us. and_then (third p us) (λ z us. Some ((y, z), us))) eq in
      let (v, end, second, last) = bound (third p mid) (λ z us. Some ((y, z), us)) then in
      let a : length mid < length ts = shrinks (At whole) ts y mid first in
      let b : length end < length mid = third-shrinks mid v end second in
      let same : end ≡ rest = same_rest last in
      rw (← same) (omega arith)

  opened-shrinks : (x : Expr) (ts : List Token) (y : Expr) (rest : List Token) → opened p x ts ≡ Some (y, rest) → length rest < length ts
  opened-shrinks x (Symbol s.Close ∷ ts) y rest eq = let same : ts ≡ rest = same_rest eq in rw (← same) (omega arith)
  opened-shrinks x (Symbol s.Question ∷ ts) y rest eq =
      let (v, mid, first, then) = bound (branches p ts) (λ b us. Some (e.If x b.0 b.1, us)) eq in
      let a : length mid < length ts = branches-shrinks ts v mid first in
      let same : mid ≡ rest = same_rest then in
      rw (← same) (omega arith)
  opened-shrinks x _ y rest eq = absurd cc

field_after-shrinks : (a : List ℕ) (ts : List Token) (y : Field) (rest : List Token) → field_after a ts ≡ Some (y, rest) → length rest ≤ length ts
field_after-shrinks a (Symbol s.ColonColon ∷ Ident b ∷ ts) y rest eq = let same : ts ≡ rest = same_rest eq in rw (← same) (omega arith)
field_after-shrinks a (Symbol s.ColonColon ∷ ts) y rest eq = absurd cc
field_after-shrinks a ts y rest eq = let same : ts ≡ rest = same_rest eq in rw (← same) (omega arith)

group_after-shrinks : (ts : List Token) (y : Field) (rest : List Token) → group_after ts ≡ Some (y, rest) → length rest ≤ length ts
group_after-shrinks (Symbol s.Dot ∷ Ident b ∷ ts) y rest eq = let same : ts ≡ rest = same_rest eq in rw (← same) (omega arith)
group_after-shrinks (Symbol s.Dot ∷ ts) y rest eq = absurd cc
group_after-shrinks ts y rest eq = field_after-shrinks group_word ts y rest eq

pub field_at-shrinks : (ts : List Token) (y : Field) (rest : List Token) → field_at ts ≡ Some (y, rest) → length rest ≤ length ts
field_at-shrinks (Ident a ∷ ts) y rest eq = let h = field_after-shrinks a ts y rest eq in omega arith
field_at-shrinks (Group true ∷ ts) y rest eq = let h = group_after-shrinks ts y rest eq in omega arith
field_at-shrinks (Position n ∷ ts) y rest eq = let same : ts ≡ rest = same_rest eq in rw (← same) (omega arith)
field_at-shrinks _ y rest eq = absurd cc

refer-shrinks : (r : Reader Field) (ts : List Token) → ((y : Field) (rest : List Token) → r ts ≡ Some (y, rest) → length rest ≤ length ts)
    → (x : Expr) (rest : List Token) → refer r ts ≡ Some (x, rest) → length rest ≤ length ts
refer-shrinks r ts shrinks x rest eq =
    let (y, mid, first, then) = bound (r ts) (λ a us. Some (e.Ref a, us)) eq in
    let same : mid ≡ rest = same_rest then in rw (← same) (shrinks y mid first)

call_field-shrinks : (ts : List Token) (y : Option Field) (rest : List Token) → call_field ts ≡ Some (y, rest) → length rest ≤ length ts
call_field-shrinks (Symbol s.Dot ∷ ts) y rest eq =
    let (z, mid, first, then) = bound (field_at ts) (λ a us. Some (Some a, us)) eq in
    let same : mid ≡ rest = same_rest then in let h = field_at-shrinks ts z mid first in rw (← same) (omega arith)
call_field-shrinks ts y rest eq = let same : ts ≡ rest = same_rest eq in rw (← same) (omega arith)

call_after-shrinks : (k : CallKind) (ts : List Token) (y : Expr) (rest : List Token) → call_after k ts ≡ Some (y, rest) → length rest ≤ length ts
call_after-shrinks k (Ident a ∷ ts) y rest eq =
    let (o, mid, first, then) = bound (call_field ts) (λ o. closed (e.Call k a o)) eq in
    let h = call_field-shrinks ts o mid first in
    let h' = closed-shrinks (e.Call k a o) mid y rest then in
    omega arith
call_after-shrinks k _ y rest eq = absurd cc

named_by-shrinks : (o : Option CallKind) (a : List ℕ) (ts : List Token) (y : Expr) (rest : List Token) → named_by o a ts ≡ Some (y, rest) → length rest ≤ length ts
named_by-shrinks (Some k) a (Symbol s.Open ∷ ts) y rest eq = let h = call_after-shrinks k ts y rest eq in omega arith
named_by-shrinks _ a ts y rest eq = refer-shrinks (field_after a) ts (field_after-shrinks a ts) y rest eq

module _ (p : Goal → Reader Expr) (shrinks : Shrinks p) where
  primary-shrinks : (ts : List Token) (x : Expr) (rest : List Token) → primary p ts ≡ Some (x, rest) → length rest < length ts
  primary-shrinks (Number n ∷ ts) x rest eq = let same : ts ≡ rest = same_rest eq in rw (← same) (omega arith)
  primary-shrinks (Literal a ∷ ts) x rest eq = let same : ts ≡ rest = same_rest eq in rw (← same) (omega arith)
  primary-shrinks (Position n ∷ ts) x rest eq = let same : ts ≡ rest = same_rest eq in rw (← same) (omega arith)
  primary-shrinks (Group true ∷ ts) x rest eq = let h = refer-shrinks group_after ts (group_after-shrinks ts) x rest eq in omega arith
  primary-shrinks (Ident a ∷ ts) x rest eq = let h = named_by-shrinks (call_kind a) a ts x rest eq in omega arith
  primary-shrinks (Symbol s.Open ∷ ts) x rest eq =
      let (y, mid, first, then) = bound (p (At whole) ts) (opened p) eq in
      let a : length mid < length ts = shrinks (At whole) ts y mid first in
      let b : length rest < length mid = opened-shrinks p shrinks y mid x rest then in
      omega arith
  primary-shrinks _ x rest eq = absurd cc

  step-shrinks : Shrinks (step p)
  unfolding step
  step-shrinks (At (Left l)) = left-shrinks p shrinks l
  step-shrinks (At Neg) = neg-shrinks p shrinks
  step-shrinks (At Comp) = comp-shrinks p shrinks
  step-shrinks (At Unary) = unary-shrinks p shrinks
  step-shrinks (At Primary) = primary-shrinks
  step-shrinks (After l x) = after-shrinks p shrinks l x

pub read_by-shrinks : (n : ℕ) → Shrinks (read_by n)
unfolding read_by
read_by-shrinks zero g ts x rest eq = absurd cc
read_by-shrinks (suc n) g ts x rest eq = step-shrinks (read_by n) (read_by-shrinks n) g ts x rest eq

-- two readers that agree where a step may ask
pub bind-same : {A B : Type 0} (r : Reading A) {r' : Reading A} (k k' : A → Reader B) → r ≡ r'
    → ((x : A) (rest : List Token) → r ≡ Some (x, rest) → k x rest ≡ k' x rest) → and_then r k ≡ and_then r' k'
bind-same (Some p) k k' eq same = same p.0 p.1 refl ∙ ap (λ r. and_then r k') eq
bind-same None k k' eq same = ap (λ r. and_then r k') eq

abbrev Agree : (Goal → Reader Expr) → (Goal → Reader Expr) → ℕ → Type 0
Agree p q n = (h : Goal) (us : List Token) → fuel h us < n → p h us ≡ q h us

pub operand-lower : (l : Level) → rank (At (operand l)) < rank (At (Left l))
operand-lower l.Or = omega arith
operand-lower l.And = omega arith
operand-lower l.Sum = omega arith
operand-lower l.Prod = omega arith

rank-below : (g : Goal) → rank g < 9
rank-below (At (Left l.Or)) = omega arith
rank-below (At (Left l.And)) = omega arith
rank-below (At (Left l.Sum)) = omega arith
rank-below (At (Left l.Prod)) = omega arith
rank-below (At Neg) = omega arith
rank-below (At Comp) = omega arith
rank-below (At Unary) = omega arith
rank-below (At Primary) = omega arith
rank-below (After l x) = omega arith

-- a reading of fewer tokens takes fewer steps
shorter : (g h : Goal) (ts us : List Token) → length us < length ts → fuel h us < fuel g ts
shorter g h ts us less = let b = rank-below h in omega arith

module _ (p q : Goal → Reader Expr) (shrinks : Shrinks p) where
  left-same : (l : Level) (ts : List Token) → Agree p q (fuel (At (Left l)) ts) → left p l ts ≡ left q l ts
  left-same l ts agree =
      let b = operand-lower l in
      let first : p (At (operand l)) ts ≡ q (At (operand l)) ts = agree (At (operand l)) ts (omega arith) in
      bind-same (p (At (operand l)) ts) (λ x. p (After l x)) (λ x. q (After l x)) first
      (λ x rest eq. let less : length rest < length ts = shrinks (At (operand l)) ts x rest eq in
      agree (After l x) rest (shorter (At (Left l)) (After l x) ts rest less))

  after_by-same : (l : Level) (x : Expr) (t : Token) (ts : List Token) (o : Option BinaryOp)
      → Agree p q (fuel (After l x) (t ∷ ts)) → after_by p l x t ts o ≡ after_by q l x t ts o
  after_by-same l x t ts None agree = refl
  after_by-same l x t ts (Some op) agree =
      bind-same (p (At (operand l)) ts) (λ y. p (After l (combine op x y))) (λ y. q (After l (combine op x y)))
      (agree (At (operand l)) ts (shorter (After l x) (At (operand l)) (t ∷ ts) ts (omega arith)))
      (λ y rest eq. let less : length rest < length ts = shrinks (At (operand l)) ts y rest eq in
      agree (After l (combine op x y)) rest (shorter (After l x) (After l (combine op x y)) (t ∷ ts) rest (omega arith)))

  after-same : (l : Level) (x : Expr) (ts : List Token) → Agree p q (fuel (After l x) ts) → after p l x ts ≡ after q l x ts
  after-same l x [] agree = refl
  after-same l x (t ∷ ts) agree = after_by-same l x t ts (operator l t) agree

  prefixed-same : (f : Expr → Expr) (g : Part) (t : Token) (ts : List Token) (h : Goal) → Agree p q (fuel h (t ∷ ts))
      → and_then (p (At g) ts) (λ x us. Some (f x, us)) ≡ and_then (q (At g) ts) (λ x us. Some (f x, us))
  prefixed-same f g t ts h agree =
      bind-same (p (At g) ts) (λ x us. Some (f x, us)) (λ x us. Some (f x, us)) (agree (At g) ts (shorter h (At g) (t ∷ ts) ts (omega arith))) (λ x rest eq. refl)

  neg-same : (ts : List Token) → Agree p q (fuel (At Neg) ts) → neg p ts ≡ neg q ts
  neg-same (Word w.Not ∷ ts) agree = prefixed-same e.Not Neg (Word w.Not) ts (At Neg) agree
  neg-same ts agree = agree (At Comp) ts (omega arith)

  unary-same : (ts : List Token) → Agree p q (fuel (At Unary) ts) → unary p ts ≡ unary q ts
  unary-same (Symbol s.Minus ∷ ts) agree = prefixed-same e.Neg Unary (Symbol s.Minus) ts (At Unary) agree
  unary-same ts agree = agree (At Primary) ts (omega arith)

  compared_by-same : (x : Expr) (t : Token) (ts : List Token) (o : Option CompareOp) (n : ℕ) → 9 * length ts + 8 < n → Agree p q n → compared_by p x t ts o ≡ compared_by q x t ts o
  compared_by-same x t ts None n room agree = refl
  compared_by-same x t ts (Some op) n room agree =
      bind-same (p (At (Left l.Sum)) ts) (λ y us. Some (e.Compare op x y, us)) (λ y us. Some (e.Compare op x y, us))
      (agree (At (Left l.Sum)) ts (omega arith)) (λ y rest eq. refl)

  compared-same : (x : Expr) (ts : List Token) (n : ℕ) → 9 * length ts ≤ n → Agree p q n → compared p x ts ≡ compared q x ts
  compared-same x [] n room agree = refl
  compared-same x (t ∷ ts) n room agree = compared_by-same x t ts (comparison t) n (omega arith) agree

  comp-same : (ts : List Token) → Agree p q (fuel (At Comp) ts) → comp p ts ≡ comp q ts
  comp-same ts agree =
      bind-same (p (At (Left l.Sum)) ts) (compared p) (compared q) (agree (At (Left l.Sum)) ts (omega arith))
      (λ x rest eq. let less : length rest < length ts = shrinks (At (Left l.Sum)) ts x rest eq in
      compared-same x rest (fuel (At Comp) ts) (omega arith) agree)

  third-same : (ts : List Token) (n : ℕ) → 9 * length ts ≤ n → Agree p q n → third p ts ≡ third q ts
  third-same (Symbol s.Colon ∷ ts) n room agree = bind-same (p (At whole) ts) closed closed (agree (At whole) ts (omega arith)) (λ z rest eq. refl)
  third-same _ n room agree = refl

  branches-same : (ts : List Token) (n : ℕ) → 9 * length ts + 8 ≤ n → Agree p q n → branches p ts ≡ branches q ts
  branches-same ts n room agree =
      bind-same (p (At whole) ts) (λ y us. and_then (third p us) (λ z us. Some ((y, z), us))) (λ y us. and_then (third q us) (λ z us. Some ((y, z), us)))
      (agree (At whole) ts (omega arith))
      (λ y rest eq. let less : length rest < length ts = shrinks (At whole) ts y rest eq in
      ap (λ r. and_then r (λ z us. Some ((y, z), us))) (third-same rest n (omega arith) agree))

  opened-same : (x : Expr) (ts : List Token) (n : ℕ) → 9 * length ts ≤ n → Agree p q n → opened p x ts ≡ opened q x ts
  opened-same x (Symbol s.Question ∷ ts) n room agree = ap (λ r. and_then r (λ b us. Some (e.If x b.0 b.1, us))) (branches-same ts n (omega arith) agree)
  opened-same x _ n room agree = refl

  primary-same : (ts : List Token) → Agree p q (fuel (At Primary) ts) → primary p ts ≡ primary q ts
  primary-same (Symbol s.Open ∷ ts) agree =
      bind-same (p (At whole) ts) (opened p) (opened q) (agree (At whole) ts (omega arith))
      (λ x rest eq. let less : length rest < length ts = shrinks (At whole) ts x rest eq in
      opened-same x rest (fuel (At Primary) (Symbol s.Open ∷ ts)) (omega arith) agree)
  primary-same _ agree = refl

  step-same : (g : Goal) (ts : List Token) → Agree p q (fuel g ts) → step p g ts ≡ step q g ts
  unfolding step
  step-same (At (Left l)) = left-same l
  step-same (At Neg) = neg-same
  step-same (At Comp) = comp-same
  step-same (At Unary) = unary-same
  step-same (At Primary) = primary-same
  step-same (After l x) = after-same l x

-- more steps than enough change nothing
enough : (n m : ℕ) (g : Goal) (ts : List Token) → fuel g ts < n → fuel g ts < m → read_by n g ts ≡ read_by m g ts
unfolding read_by
enough zero m g ts a b = absurd (omega arith)
enough (suc n) zero g ts a b = absurd (omega arith)
enough (suc n) (suc m) g ts a b =
    step-same (read_by n) (read_by m) (read_by-shrinks n) g ts (λ h us less. enough n m h us (omega arith) (omega arith))

pub read-shrinks : Shrinks read
unfolding read
read-shrinks g ts x rest eq = read_by-shrinks (suc (fuel g ts)) g ts x rest eq

pub read-step : (g : Goal) (ts : List Token) → read g ts ≡ step read g ts
unfolding read read_by
read-step g ts =
    step-same (read_by (fuel g ts)) read (read_by-shrinks (fuel g ts)) g ts
    (λ h us less. enough (fuel g ts) (suc (fuel h us)) h us less (omega arith))
