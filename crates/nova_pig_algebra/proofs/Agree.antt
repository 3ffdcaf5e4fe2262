-- An expression depends only on what the calls that stand in it give.
use Rattle.std.proofs.Common.{◌≡◌, ◌+ℤ◌, ◌-ℤ◌, ◌*ℤ◌, neg_ℤ, not, ◌&&◌, ◌||◌, if◌then◌else◌, List, [], ◌∷◌, ◌++◌, refl, sym, subst}
use Rattle.std.specs.List.{AllByRecursion}
use Rattle.nova_value.specs.declared.value.Value.TheVariants.{Long}
use Rattle.nova_pig_algebra.specs.declared.node.PlanExpr.{PlanExpr}
use Rattle.nova_pig_algebra.specs.declared.node.PlanExpr.TheOpen.{PlanExpr-F}
use Rattle.nova_pig_algebra.specs.declared.node.PlanExpr.TheFolds.{fold-roll-PlanExpr, ind-PlanExpr, map-PlanExpr}
use Rattle.nova_pig_algebra.specs.declared.node.PlanExpr.TheViews.{roll-PlanExpr}
use Rattle.nova_value.specs.Order.{value_cmp}
use Rattle.nova_value.specs.Wrapped.{wrapped}
use Rattle.nova_pig_algebra.specs.Meaning.{Row, Call, Calls, Given, given, given_step, calls, calls_step, long_of, passes}

abbrev Agrees : Given → List Call → Type 0
Agrees v cs = (row : Row) (f g : Calls) → AllByRecursion (λ c. f c ≡ g c) cs → (v.value row f ≡ v.value row g) × (v.holds row f ≡ v.holds row g)

abbrev IsSame : PlanExpr → Type 0
IsSame x = Agrees (given x) (calls x)

all-left : (P : Call → Type 0) (cs ds : List Call) → AllByRecursion P (cs ++ ds) → AllByRecursion P cs
all-left P [] ds h = tt
all-left P (c ∷ cs) ds h = (h.0, all-left P cs ds h.1)

all-right : (P : Call → Type 0) (cs ds : List Call) → AllByRecursion P (cs ++ ds) → AllByRecursion P ds
all-right P [] ds h = h
all-right P (c ∷ cs) ds h = all-right P cs ds h.1

abbrev Layer : Type 0
Layer = PlanExpr-F ((x : PlanExpr) × IsSame x)

abbrev bare : Layer → PlanExpr-F PlanExpr
bare y = map-PlanExpr ((x : PlanExpr) × IsSame x) PlanExpr (λ e. e.0) y

by_layer : (y : Layer) → Agrees (given_step (map-PlanExpr PlanExpr Given given (bare y))) (calls_step (map-PlanExpr PlanExpr (List Call) calls (bare y)))
by_layer (PlanExpr-F.Num n) = λ row f g h. (refl, refl)
by_layer (PlanExpr-F.Lit t) = λ row f g h. (refl, refl)
by_layer (PlanExpr-F.Column k) = λ row f g h. (refl, refl)
by_layer (PlanExpr-F.GroupColumn k) = λ row f g h. (refl, refl)
by_layer (PlanExpr-F.Agg kind column) = λ row f g h. (h.0, refl)
by_layer (PlanExpr-F.Neg a) = λ row f g h. let x = a.1 row f g h in (λ i. Long (wrapped (neg_ℤ (long_of (x.0 i)))), refl)
by_layer (PlanExpr-F.Not a) = λ row f g h. let x = a.1 row f g h in (refl, λ i. not (x.1 i))
by_layer (PlanExpr-F.Compare op a b) = λ row f g h.
    let x = a.1 row f g (all-left (λ (c : Call). f c ≡ g c) (calls a.0) (calls b.0) h) in
    let y = b.1 row f g (all-right (λ (c : Call). f c ≡ g c) (calls a.0) (calls b.0) h) in
    (refl, λ i. passes op (value_cmp (x.0 i) (y.0 i)))
by_layer (PlanExpr-F.If cond a b) = λ row f g h.
    let c = cond.1 row f g (all-left (λ (c : Call). f c ≡ g c) (calls cond.0) (calls a.0 ++ calls b.0) h) in
    let ab = all-right (λ (d : Call). f d ≡ g d) (calls cond.0) (calls a.0 ++ calls b.0) h in
    let x = a.1 row f g (all-left (λ (c : Call). f c ≡ g c) (calls a.0) (calls b.0) ab) in
    let y = b.1 row f g (all-right (λ (c : Call). f c ≡ g c) (calls a.0) (calls b.0) ab) in
    (λ i. if c.1 i then x.0 i else y.0 i, refl)
by_layer (PlanExpr-F.Add a b) = λ row f g h.
    let x = a.1 row f g (all-left (λ (c : Call). f c ≡ g c) (calls a.0) (calls b.0) h) in
    let y = b.1 row f g (all-right (λ (c : Call). f c ≡ g c) (calls a.0) (calls b.0) h) in
    (λ i. Long (wrapped (long_of (x.0 i) +ℤ long_of (y.0 i))), refl)
by_layer (PlanExpr-F.Sub a b) = λ row f g h.
    let x = a.1 row f g (all-left (λ (c : Call). f c ≡ g c) (calls a.0) (calls b.0) h) in
    let y = b.1 row f g (all-right (λ (c : Call). f c ≡ g c) (calls a.0) (calls b.0) h) in
    (λ i. Long (wrapped (long_of (x.0 i) -ℤ long_of (y.0 i))), refl)
by_layer (PlanExpr-F.Mul a b) = λ row f g h.
    let x = a.1 row f g (all-left (λ (c : Call). f c ≡ g c) (calls a.0) (calls b.0) h) in
    let y = b.1 row f g (all-right (λ (c : Call). f c ≡ g c) (calls a.0) (calls b.0) h) in
    (λ i. Long (wrapped (long_of (x.0 i) *ℤ long_of (y.0 i))), refl)
by_layer (PlanExpr-F.And a b) = λ row f g h.
    let x = a.1 row f g (all-left (λ (c : Call). f c ≡ g c) (calls a.0) (calls b.0) h) in
    let y = b.1 row f g (all-right (λ (c : Call). f c ≡ g c) (calls a.0) (calls b.0) h) in
    (refl, λ i. x.1 i && y.1 i)
by_layer (PlanExpr-F.Or a b) = λ row f g h.
    let x = a.1 row f g (all-left (λ (c : Call). f c ≡ g c) (calls a.0) (calls b.0) h) in
    let y = b.1 row f g (all-right (λ (c : Call). f c ≡ g c) (calls a.0) (calls b.0) h) in
    (refl, λ i. x.1 i || y.1 i)

rolled : (z : PlanExpr-F PlanExpr) → Agrees (given_step (map-PlanExpr PlanExpr Given given z)) (calls_step (map-PlanExpr PlanExpr (List Call) calls z)) → IsSame (roll-PlanExpr z)
unfolding given calls
rolled z h =
    subst (λ v. Agrees v (calls (roll-PlanExpr z))) (sym (fold-roll-PlanExpr Given given_step z))
    (subst (λ cs. Agrees (given_step (map-PlanExpr PlanExpr Given given z)) cs) (sym (fold-roll-PlanExpr (List Call) calls_step z)) h)

pub same_by_calls : (x : PlanExpr) → IsSame x
same_by_calls = ind-PlanExpr IsSame (λ x y is. subst (λ z. IsSame (roll-PlanExpr z)) is (rolled (bare y) (by_layer y)))
