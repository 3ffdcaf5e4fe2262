-- What is read is derived by the grammar.
use Rattle.std.proofs.Common.{◌≡◌, true, ℕ, zero, suc, List, [], ◌∷◌, ◌++◌, Option, Some, None, refl, ap, sym, subst, ◌∙◌, append_assoc}
use Rattle.std.proofs.lemmas.List.{append-nil}
use Rattle.nova_pig_tree.specs.declared.expression.CallKind.{CallKind}
use Rattle.nova_pig_tree.specs.declared.expression.Field.{Field}
use Rattle.nova_pig_tree.specs.declared.expression.CompareOp.{CompareOp}
use Rattle.nova_pig_tree.specs.declared.expression.Expr.{Expr}
use Rattle.nova_pig_tree.specs.declared.expression.Expr.TheVariants as e
use Rattle.nova_pig_tree.specs.declared.token.Token.{Token}
use Rattle.nova_pig_tree.specs.declared.token.Token.TheVariants.{Ident, Word, Group, Number, Position, Literal, Symbol}
use Rattle.nova_pig_tree.specs.declared.token.Word.TheVariants as w
use Rattle.nova_pig_tree.specs.declared.token.Symbol.TheVariants as s
use Rattle.nova_pig_grammar.specs.declared.operators.Level.{Level}
use Rattle.nova_pig_grammar.specs.declared.operators.Level.TheVariants as l
use Rattle.nova_pig_grammar.specs.declared.operators.BinaryOp.{BinaryOp}
use Rattle.nova_pig_grammar.specs.Operators.{operator, comparison, combine, call_kind}
use Rattle.nova_pig_grammar.specs.Expression as g
use Rattle.nova_pig_grammar.specs.Expression.{Part, Left, Neg, Comp, Unary, Primary, operand, whole, Derives, IsField}
use Rattle.nova_pig_grammar.specs.ExpressionReading.{Reading, Reader, and_then, Goal, At, After, left, after_by, after, neg, compared_by, compared, comp, unary, closed, third, branches, opened, field_after, group_after, field_at, refer, call_field, call_after, named_by, primary, step, read_by, fuel, read}
use Rattle.nova_pig_grammar.proofs.Steps.{bound, same_value, same_rest}

-- the tokens that were read derive the tree, and those of a goal after operands go on with them
abbrev pub Reads : Goal → List Token → Expr → List Token → Type 0
Reads (At p) ts x rest = (prefix : List Token) × (ts ≡ prefix ++ rest) × Derives p prefix x
Reads (After l a) ts x rest = (prefix : List Token) × (ts ≡ prefix ++ rest) × ((before : List Token) → Derives (Left l) before a → Derives (Left l) (before ++ prefix) x)

abbrev pub Sound : (Goal → Reader Expr) → Type 0
Sound p = (g : Goal) (ts : List Token) (x : Expr) (rest : List Token) → p g ts ≡ Some (x, rest) → Reads g ts x rest

derives-along : {p : Part} {x y : Expr} (ts : List Token) → Derives p ts x → x ≡ y → Derives p ts y
derives-along {p} ts d eq = subst (λ z. Derives p ts z) eq d

-- the tokens of two parts
pub joined : (a b rest : List Token) {ts mid : List Token} → ts ≡ a ++ mid → mid ≡ b ++ rest → ts ≡ (a ++ b) ++ rest
joined a b rest first then = first ∙ ap (λ m. a ++ m) then ∙ sym (append_assoc a b rest)

-- nothing more was read
ended : (l : Level) (x y : Expr) (ts rest : List Token) → ◌≡◌ {A = Reading Expr} (Some (x, ts)) (Some (y, rest)) → Reads (After l x) ts y rest
ended l x y ts rest eq = ([], same_rest eq, λ before d. derives-along (before ++ []) (subst (λ ts. Derives (Left l) ts x) (sym (append-nil before)) d) (same_value eq))

comparison-is : (t : Token) {op : CompareOp} → comparison t ≡ Some op → t ≡ Symbol (s.Compare op)
comparison-is (Symbol (s.Compare op)) eq = cc
comparison-is _ eq = absurd cc

-- the tokens of a choice after its condition
choice : List Token → List Token → List Token
choice b c = Symbol s.Question ∷ b ++ Symbol s.Colon ∷ c ++ Symbol s.Close ∷ []

choice-prefix : (b c rest : List Token) {ts mid : List Token} → ts ≡ b ++ mid → mid ≡ Symbol s.Colon ∷ c ++ Symbol s.Close ∷ rest → Symbol s.Question ∷ ts ≡ choice b c ++ rest
unfolding choice
choice-prefix b c rest first then = rw first (rw then (simp append_assoc))

choice-derives : {a b c : List Token} {x y z : Expr} → Derives whole a x → Derives whole b y → Derives whole c z → Derives Primary (Symbol s.Open ∷ a ++ choice b c) (e.If x y z)
unfolding choice
choice-derives {a} {b} {c} {x} {y} {z} d d' d'' =
    let made : Derives Primary (Symbol s.Open ∷ a ++ Symbol s.Question ∷ b ++ Symbol s.Colon ∷ c ++ Symbol s.Close ∷ []) (e.If x y z) = g.choose d d' d'' in
    let same : Symbol s.Open ∷ a ++ Symbol s.Question ∷ b ++ Symbol s.Colon ∷ c ++ Symbol s.Close ∷ [] ≡ Symbol s.Open ∷ a ++ (Symbol s.Question ∷ b ++ Symbol s.Colon ∷ c ++ Symbol s.Close ∷ []) = simp append_assoc in
    subst (λ us. Derives Primary us (e.If x y z)) same made

-- the tokens of a field, the first of which was read before
abbrev Fielded : Token → List Token → Field → List Token → Type 0
Fielded t ts x rest = (prefix : List Token) × (ts ≡ prefix ++ rest) × IsField (t ∷ prefix) x

field-along : {x y : Field} (ts : List Token) → IsField ts x → x ≡ y → IsField ts y
field-along ts d eq = subst (λ z. IsField ts z) eq d

field_after-sound : (a : List ℕ) (ts : List Token) (x : Field) (rest : List Token) → field_after a ts ≡ Some (x, rest) → Fielded (Ident a) ts x rest
field_after-sound a (Symbol s.ColonColon ∷ Ident b ∷ ts) x rest eq =
    (Symbol s.ColonColon ∷ Ident b ∷ [], ap (λ us. Symbol s.ColonColon ∷ Ident b ∷ us) (same_rest eq), field-along (Ident a ∷ Symbol s.ColonColon ∷ Ident b ∷ []) g.of (same_value eq))
field_after-sound a (Symbol s.ColonColon ∷ ts) x rest eq = absurd cc
field_after-sound a ts x rest eq = ([], same_rest eq, field-along (Ident a ∷ []) g.plain (same_value eq))

group_after-sound : (ts : List Token) (x : Field) (rest : List Token) → group_after ts ≡ Some (x, rest) → Fielded (Group true) ts x rest
group_after-sound (Symbol s.Dot ∷ Ident b ∷ ts) x rest eq =
    (Symbol s.Dot ∷ Ident b ∷ [], ap (λ us. Symbol s.Dot ∷ Ident b ∷ us) (same_rest eq), field-along (Group true ∷ Symbol s.Dot ∷ Ident b ∷ []) g.of_group (same_value eq))
group_after-sound (Symbol s.Dot ∷ ts) x rest eq = absurd cc
group_after-sound (Symbol s.ColonColon ∷ Ident b ∷ ts) x rest eq =
    (Symbol s.ColonColon ∷ Ident b ∷ [], ap (λ us. Symbol s.ColonColon ∷ Ident b ∷ us) (same_rest eq), field-along (Group true ∷ Symbol s.ColonColon ∷ Ident b ∷ []) g.group_of (same_value eq))
group_after-sound (Symbol s.ColonColon ∷ ts) x rest eq = absurd cc
group_after-sound ts x rest eq = ([], same_rest eq, field-along (Group true ∷ []) g.group (same_value eq))

pub field_at-sound : (ts : List Token) (x : Field) (rest : List Token) → field_at ts ≡ Some (x, rest) → (prefix : List Token) × (ts ≡ prefix ++ rest) × IsField prefix x
field_at-sound (Ident a ∷ ts) x rest eq = let (b, is, d) = field_after-sound a ts x rest eq in (Ident a ∷ b, ap (λ us. Ident a ∷ us) is, d)
field_at-sound (Group true ∷ ts) x rest eq = let (b, is, d) = group_after-sound ts x rest eq in (Group true ∷ b, ap (λ us. Group true ∷ us) is, d)
field_at-sound (Position n ∷ ts) x rest eq = (Position n ∷ [], ap (λ us. Position n ∷ us) (same_rest eq), field-along (Position n ∷ []) g.position (same_value eq))
field_at-sound _ x rest eq = absurd cc

refer-sound : (t : Token) (r : Reader Field) (ts : List Token) → ((x : Field) (rest : List Token) → r ts ≡ Some (x, rest) → Fielded t ts x rest)
    → (x : Expr) (rest : List Token) → refer r ts ≡ Some (x, rest) → Reads (At Primary) (t ∷ ts) x rest
refer-sound t r ts sound x rest eq =
    let (y, mid, first, then) = bound (r ts) (λ a us. Some (e.Ref a, us)) eq in
    let (b, is, d) = sound y mid first in
    (t ∷ b, ap (λ us. t ∷ us) (is ∙ ap (λ r. b ++ r) (same_rest then)), derives-along (t ∷ b) (g.field d) (same_value then))

pub closed-sound : {A : Type 0} (x : A) (ts : List Token) (y : A) (rest : List Token) → closed x ts ≡ Some (y, rest) → (ts ≡ Symbol s.Close ∷ rest) × (x ≡ y)
closed-sound x (Symbol s.Close ∷ ts) y rest eq = (ap (λ us. Symbol s.Close ∷ us) (same_rest eq), same_value eq)
closed-sound x _ y rest eq = absurd cc

call_of-sound : (k : CallKind) (n a : List ℕ) → call_kind n ≡ Some k → (ts : List Token) (x : Expr) (rest : List Token)
    → and_then (call_field ts) (λ o. closed (e.Call k a o)) ≡ Some (x, rest)
    → (b : List Token) × (ts ≡ b ++ rest) × Derives Primary (Ident n ∷ Symbol s.Open ∷ Ident a ∷ b) x
call_of-sound k n a is (Symbol s.Dot ∷ ts) x rest eq =
    let (o, mid, first, then) = bound (call_field (Symbol s.Dot ∷ ts)) (λ o. closed (e.Call k a o)) eq in
    let (y, mid2, second, last) = bound (field_at ts) (λ a us. Some (Some a, us)) first in
    let (b, b-is, d) = field_at-sound ts y mid2 second in
    let (end-is, x-is) = closed-sound (e.Call k a o) mid x rest then in
    let made : Derives Primary (Ident n ∷ Symbol s.Open ∷ Ident a ∷ Symbol s.Dot ∷ b ++ Symbol s.Close ∷ []) (e.Call k a (Some y)) = g.call_of k is d in
    let all : ts ≡ b ++ Symbol s.Close ∷ rest = b-is ∙ ap (λ r. b ++ r) (same_rest last ∙ end-is) in (
      Symbol s.Dot ∷ b ++ Symbol s.Close ∷ [],
      ap (λ us. Symbol s.Dot ∷ us) (all ∙ sym (append_assoc b (Symbol s.Close ∷ []) rest)),
      derives-along (Ident n ∷ Symbol s.Open ∷ Ident a ∷ Symbol s.Dot ∷ b ++ Symbol s.Close ∷ []) made (ap (e.Call k a) (same_value last) ∙ x-is),
    )
call_of-sound k n a is (Symbol s.Close ∷ ts) x rest eq =
    (Symbol s.Close ∷ [], ap (λ us. Symbol s.Close ∷ us) (same_rest eq), derives-along (Ident n ∷ Symbol s.Open ∷ Ident a ∷ Symbol s.Close ∷ []) (g.call k is) (same_value eq))
call_of-sound k n a is _ x rest eq = absurd cc

call_after-sound : (k : CallKind) (n : List ℕ) → call_kind n ≡ Some k → (ts : List Token) (x : Expr) (rest : List Token) → call_after k ts ≡ Some (x, rest)
    → (b : List Token) × (ts ≡ b ++ rest) × Derives Primary (Ident n ∷ Symbol s.Open ∷ b) x
call_after-sound k n is (Ident a ∷ ts) x rest eq = let (b, b-is, d) = call_of-sound k n a is ts x rest eq in (Ident a ∷ b, ap (λ us. Ident a ∷ us) b-is, d)
call_after-sound k n is _ x rest eq = absurd cc

named_by-sound : (o : Option CallKind) (a : List ℕ) → call_kind a ≡ o → (ts : List Token) (x : Expr) (rest : List Token) → named_by o a ts ≡ Some (x, rest) → Reads (At Primary) (Ident a ∷ ts) x rest
named_by-sound (Some k) a is (Symbol s.Open ∷ ts) x rest eq =
    let (b, b-is, d) = call_after-sound k a is ts x rest eq in (Ident a ∷ Symbol s.Open ∷ b, ap (λ us. Ident a ∷ Symbol s.Open ∷ us) b-is, d)
named_by-sound _ a is ts x rest eq = refer-sound (Ident a) (field_after a) ts (field_after-sound a ts) x rest eq

module _ (p : Goal → Reader Expr) (sound : Sound p) where
  left-sound : (l : Level) (ts : List Token) (x : Expr) (rest : List Token) → left p l ts ≡ Some (x, rest) → Reads (At (Left l)) ts x rest
  left-sound l ts x rest eq =
      let (y, mid, first, then) = bound (p (At (operand l)) ts) (λ x. p (After l x)) eq in
      let (a, a-is, d) = sound (At (operand l)) ts y mid first in
      let (b, b-is, more) = sound (After l y) mid x rest then in
      (a ++ b, joined a b rest a-is b-is, more a (g.one d))

  after_by-sound : (l : Level) (x : Expr) (t : Token) (ts : List Token) (o : Option BinaryOp) (y : Expr) (rest : List Token)
      → operator l t ≡ o → after_by p l x t ts o ≡ Some (y, rest) → Reads (After l x) (t ∷ ts) y rest
  after_by-sound l x t ts None y rest op-is eq = ended l x y (t ∷ ts) rest eq
  after_by-sound l x t ts (Some op) y rest op-is eq =
      let (z, mid, first, then) = bound (p (At (operand l)) ts) (λ y. p (After l (combine op x y))) eq in
      let (a, a-is, d) = sound (At (operand l)) ts z mid first in
      let (b, b-is, more) = sound (After l (combine op x z)) mid y rest then in (
        t ∷ a ++ b,
        ap (λ us. t ∷ us) (joined a b rest a-is b-is),
        λ before d'. subst (λ us. Derives (Left l) us y) (append_assoc before (t ∷ a) b) (more (before ++ t ∷ a) (g.more t op d' op-is d)),
      )

  after-sound : (l : Level) (x : Expr) (ts : List Token) (y : Expr) (rest : List Token) → after p l x ts ≡ Some (y, rest) → Reads (After l x) ts y rest
  after-sound l x [] y rest eq = ended l x y [] rest eq
  after-sound l x (t ∷ ts) y rest eq = after_by-sound l x t ts (operator l t) y rest refl eq

  neg-sound : (ts : List Token) (x : Expr) (rest : List Token) → neg p ts ≡ Some (x, rest) → Reads (At Neg) ts x rest
  neg-sound (Word w.Not ∷ ts) x rest eq =
      let (y, mid, first, then) = bound (p (At Neg) ts) (λ x us. Some (e.Not x, us)) eq in
      let (a, a-is, d) = sound (At Neg) ts y mid first in
      (Word w.Not ∷ a, ap (λ us. Word w.Not ∷ us) (a-is ∙ ap (λ r. a ++ r) (same_rest then)), derives-along (Word w.Not ∷ a) (g.not d) (same_value then))
  neg-sound ts x rest eq = let (a, a-is, d) = sound (At Comp) ts x rest eq in (a, a-is, g.positive d)

  unary-sound : (ts : List Token) (x : Expr) (rest : List Token) → unary p ts ≡ Some (x, rest) → Reads (At Unary) ts x rest
  unary-sound (Symbol s.Minus ∷ ts) x rest eq =
      let (y, mid, first, then) = bound (p (At Unary) ts) (λ x us. Some (e.Neg x, us)) eq in
      let (a, a-is, d) = sound (At Unary) ts y mid first in
      (Symbol s.Minus ∷ a, ap (λ us. Symbol s.Minus ∷ us) (a-is ∙ ap (λ r. a ++ r) (same_rest then)), derives-along (Symbol s.Minus ∷ a) (g.minus d) (same_value then))
  unary-sound ts x rest eq = let (a, a-is, d) = sound (At Primary) ts x rest eq in (a, a-is, g.primary d)

  -- after the first sum of a comparison, whose tokens are a
  compared_by-sound : (a : List Token) (x : Expr) → Derives (Left l.Sum) a x → (t : Token) (ts : List Token) (o : Option CompareOp) (y : Expr) (rest : List Token)
      → comparison t ≡ o → compared_by p x t ts o ≡ Some (y, rest) → (b : List Token) × (t ∷ ts ≡ b ++ rest) × Derives Comp (a ++ b) y
  compared_by-sound a x d t ts None y rest op-is eq =
      ([], same_rest eq, derives-along (a ++ []) (subst (λ us. Derives Comp us x) (sym (append-nil a)) (g.alone d)) (same_value eq))
  compared_by-sound a x d t ts (Some op) y rest op-is eq =
      let (z, mid, first, then) = bound (p (At (Left l.Sum)) ts) (λ y us. Some (e.Compare op x y, us)) eq in
      let (b, b-is, d') = sound (At (Left l.Sum)) ts z mid first in
      let made = subst (λ t. Derives Comp (a ++ t ∷ b) (e.Compare op x z)) (sym (comparison-is t op-is)) (g.compare op d d') in
      (t ∷ b, ap (λ us. t ∷ us) (b-is ∙ ap (λ r. b ++ r) (same_rest then)), derives-along (a ++ t ∷ b) made (same_value then))

  comp-sound : (ts : List Token) (x : Expr) (rest : List Token) → comp p ts ≡ Some (x, rest) → Reads (At Comp) ts x rest
  comp-sound ts x rest eq =
      let (y, mid, first, then) = bound (p (At (Left l.Sum)) ts) (compared p) eq in
      let (a, a-is, d) = sound (At (Left l.Sum)) ts y mid first in
      let (b, b-is, d') = compared-sound a y d mid x rest then in
      (a ++ b, joined a b rest a-is b-is, d')
    where
      compared-sound : (a : List Token) (x : Expr) → Derives (Left l.Sum) a x → (ts : List Token) (y : Expr) (rest : List Token)
          → compared p x ts ≡ Some (y, rest) → (b : List Token) × (ts ≡ b ++ rest) × Derives Comp (a ++ b) y
      compared-sound a x d [] y rest eq =
          let (b, b-is, more) = ended l.Sum x y [] rest eq in (b, b-is, g.alone (more a d))
      compared-sound a x d (t ∷ ts) y rest eq = compared_by-sound a x d t ts (comparison t) y rest refl eq

  third-sound : (ts : List Token) (v : Expr) (rest : List Token) → third p ts ≡ Some (v, rest)
      → (a : List Token) × (ts ≡ Symbol s.Colon ∷ a ++ Symbol s.Close ∷ rest) × Derives whole a v
  third-sound (Symbol s.Colon ∷ ts) v rest eq =
      let (z, mid, first, then) = bound (p (At whole) ts) closed eq in
      let (a, a-is, d) = sound (At whole) ts z mid first in
      let (mid-is, v-is) = closed-sound z mid v rest then in
      (a, ap (λ us. Symbol s.Colon ∷ us) (a-is ∙ ap (λ m. a ++ m) mid-is), derives-along a d v-is)
  third-sound _ v rest eq = absurd cc

  branches-sound : (x : Expr) (ts : List Token) (v : Expr × Expr) (rest : List Token) → branches p ts ≡ Some (v, rest)
      → (b c : List Token) × (Symbol s.Question ∷ ts ≡ choice b c ++ rest) × (y z : Expr) × Derives whole b y × Derives whole c z × (e.If x y z ≡ e.If x v.0 v.1)
  branches-sound x ts v rest eq =
      let (y, mid, first, then) = bound (p (At whole) ts) (λ y us. and_then (third p us) (λ z us. Some ((y, z), us))) eq in
      let (z, end, second, last) = bound (third p mid) (λ z us. Some ((y, z), us)) then in
      let (b, b-is, d) = sound (At whole) ts y mid first in
      let (c, c-is, d') = third-sound mid z end second in
      let c-at : mid ≡ Symbol s.Colon ∷ c ++ Symbol s.Close ∷ rest = c-is ∙ ap (λ r. Symbol s.Colon ∷ c ++ Symbol s.Close ∷ r) (same_rest last) in
      (b, c, choice-prefix b c rest b-is c-at, y, z, d, d', ap (λ v. e.If x v.0 v.1) (same_value last))

  opened-sound : (a : List Token) (x : Expr) → Derives whole a x → (ts : List Token) (v : Expr) (rest : List Token) → opened p x ts ≡ Some (v, rest)
      → (b : List Token) × (ts ≡ b ++ rest) × Derives Primary (Symbol s.Open ∷ a ++ b) v
  opened-sound a x d (Symbol s.Close ∷ ts) v rest eq =
      (Symbol s.Close ∷ [], ap (λ us. Symbol s.Close ∷ us) (same_rest eq), derives-along (Symbol s.Open ∷ a ++ Symbol s.Close ∷ []) (g.inside d) (same_value eq))
  opened-sound a x d (Symbol s.Question ∷ ts) v rest eq =
      let (w, mid, first, then) = bound (branches p ts) (λ b us. Some (e.If x b.0 b.1, us)) eq in
      let (b, c, is, y, z, d', d'', v-is) = branches-sound x ts w mid first in
      (choice b c, is ∙ ap (λ r. choice b c ++ r) (same_rest then), derives-along (Symbol s.Open ∷ a ++ choice b c) (choice-derives d d' d'') (v-is ∙ same_value then))
  opened-sound a x d _ v rest eq = absurd cc

  primary-sound : (ts : List Token) (x : Expr) (rest : List Token) → primary p ts ≡ Some (x, rest) → Reads (At Primary) ts x rest
  primary-sound (Number n ∷ ts) x rest eq = (Number n ∷ [], ap (λ us. Number n ∷ us) (same_rest eq), derives-along (Number n ∷ []) g.number (same_value eq))
  primary-sound (Literal a ∷ ts) x rest eq = (Literal a ∷ [], ap (λ us. Literal a ∷ us) (same_rest eq), derives-along (Literal a ∷ []) g.literal (same_value eq))
  primary-sound (Position n ∷ ts) x rest eq = (Position n ∷ [], ap (λ us. Position n ∷ us) (same_rest eq), derives-along (Position n ∷ []) (g.field g.position) (same_value eq))
  primary-sound (Group true ∷ ts) x rest eq = refer-sound (Group true) group_after ts (group_after-sound ts) x rest eq
  primary-sound (Ident a ∷ ts) x rest eq = named_by-sound (call_kind a) a refl ts x rest eq
  primary-sound (Symbol s.Open ∷ ts) x rest eq =
      let (y, mid, first, then) = bound (p (At whole) ts) (opened p) eq in
      let (a, a-is, d) = sound (At whole) ts y mid first in
      let (b, b-is, d') = opened-sound a y d mid x rest then in
      (Symbol s.Open ∷ a ++ b, ap (λ us. Symbol s.Open ∷ us) (joined a b rest a-is b-is), d')
  primary-sound _ x rest eq = absurd cc

  step-sound : Sound (step p)
  unfolding step
  step-sound (At (Left l)) = left-sound l
  step-sound (At Neg) = neg-sound
  step-sound (At Comp) = comp-sound
  step-sound (At Unary) = unary-sound
  step-sound (At Primary) = primary-sound
  step-sound (After l x) = after-sound l x

read_by-sound : (n : ℕ) → Sound (read_by n)
unfolding read_by
read_by-sound zero g ts x rest eq = absurd cc
read_by-sound (suc n) g ts x rest eq = step-sound (read_by n) (read_by-sound n) g ts x rest eq

pub read-sound : Sound read
unfolding read
read-sound g ts x rest eq = read_by-sound (suc (fuel g ts)) g ts x rest eq
