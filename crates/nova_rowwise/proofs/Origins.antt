-- An output key of a row plan comes from one key.
use Rattle.std.specs.Prelude.{◌≡◌, ◌⊎◌, ◌==◌, ℕ, suc, true, false, if◌then◌else◌, List, [], ◌∷◌, map, length, nat_eq, refl}
use Rattle.std.proofs.Common.{ap, sym, ◌∙◌, inl, inr, subst, arith}
use Rattle.std.proofs.lemmas.Bool.Decides.{nat_tests}
use Rattle.std.specs.List.{AllByRecursion, IsDistinct}
use Rattle.nova_value.specs.declared.value.Value.{Value}
use Rattle.nova_value.specs.declared.value.Kind.{Kind}
use Rattle.nova_value.specs.Rows.{Shape, IsShape, FitKinds, value_at, key_kinds}
use Rattle.nova_pig_algebra.specs.Tree.{Tree, Nothing, Load, Filter, Foreach, Grouped, Join, Union, Distinct, End, Arm}
use Rattle.nova_pig_algebra.specs.Keys.{Plain, Column, column_set, shape_at}
use Rattle.nova_pig_algebra.specs.Plan.{Plan, tree_of_plan}
use Rattle.nova_pig_algebra.specs.Statements.{In}
use Rattle.nova_pig_algebra.proofs.Lists.{in_mapped}
use Rattle.nova_pig_algebra.proofs.Sets.{in_with}
use Rattle.nova_pig_pattern.specs.Shapes.{IsStateless, IsLookup}
use Rattle.nova_pig_pattern.specs.Tests.{has_join}
use Rattle.nova_admit.specs.Shaped.{IsRowPlan}
use Rattle.nova_rowwise.specs.Sources.{Key, place_in, field, as_fields, sources, source_keys}
use Rattle.nova_rowwise.specs.Derived.{main_of}
use Rattle.nova_rowwise.specs.Rule.{Origin}
use Rattle.nova_rowwise.proofs.Paths.{IsPath, by_path, Same, SameKey, same_stateless, same_lookup}

pub set_from : (c : ℕ) (ks : List ℕ) → In c (column_set ks) → In c ks
set_from c [] i = i
set_from c (k ∷ ks) i = go (λ j. set_from c ks j) (in_with c k (column_set ks) i)
  where
    go : (In c (column_set ks) → In c ks) → (c ≡ k) ⊎ In c (column_set ks) → In c (k ∷ ks)
    go rest (inl e) = inl e
    go rest (inr j) = inr (rest j)

abbrev head_of : Value → List Value → Value
head_of d [] = d
head_of d (v ∷ vs) = v

abbrev tail_of : List Value → List Value
tail_of [] = []
tail_of (v ∷ vs) = vs

at_each : (a b : Plain → Value) (f g : Plain → Plain) (key : List ℕ) → map a (map f (as_fields key)) ≡ map b (map g (as_fields key)) → (c : ℕ) → In c key → a (f (Column c)) ≡ b (g (Column c))
at_each a b f g [] e c i = absurd i
at_each a b f g (k ∷ key) e c (inl same) =
    ap (λ n. a (f (Column n))) same ∙ ap (head_of (a (f (Column k)))) e ∙ ap (λ n. b (g (Column n))) (sym same)
at_each a b f g (k ∷ key) e c (inr i) = at_each a b f g key (ap tail_of e) c i

pub fit_long : (ks : List Kind) (vs : List Value) → FitKinds ks vs → length vs ≡ length ks
fit_long [] [] fit = refl
fit_long [] (v ∷ vs) fit = absurd fit
fit_long (k ∷ ks) [] fit = absurd fit
fit_long (k ∷ ks) (v ∷ vs) fit = ap suc (fit_long ks vs fit.1)

pub mapped_long : {X Y : Type 0} (f : X → Y) (xs : List X) → length (map f xs) ≡ length xs
mapped_long f [] = refl
mapped_long f (x ∷ xs) = ap suc (mapped_long f xs)

unlike : (p j : ℕ) (ps : List ℕ) → AllByRecursion (λ x. nat_eq p x ≡ false) ps → In j ps → (p == j) ≡ false
unlike p j [] all i = absurd i
unlike p j (q ∷ ps) all (inl e) = subst (λ z. (p == z) ≡ false) (sym e) (grind (arith, nat_tests, all.0))
unlike p j (q ∷ ps) all (inr i) = unlike p j ps all.1 i

same_place : (p : ℕ) → (p == p) ≡ true
same_place p = grind (arith, nat_tests)

one_key : (key : List ℕ) (k l : Key) → length k ≡ length key → length l ≡ length key → IsDistinct nat_eq key
    → ((j : ℕ) → In j key → value_at k (place_in key j) ≡ value_at l (place_in key j)) → k ≡ l
unfolding IsDistinct
one_key [] [] [] a b d h = refl
one_key [] [] (w ∷ l) a b d h = absurd cc
one_key [] (v ∷ k) l a b d h = absurd cc
one_key (p ∷ ps) [] l a b d h = absurd cc
one_key (p ∷ ps) (v ∷ k) [] a b d h = absurd cc
one_key (p ∷ ps) (v ∷ k) (w ∷ l) a b d h =
    let here : place_in (p ∷ ps) p ≡ 0 = ap (λ t. if t then 0 else suc (place_in ps p)) (same_place p) in
    let first : v ≡ w = ap (value_at (v ∷ k)) (sym here) ∙ h p (inl refl) ∙ ap (value_at (w ∷ l)) here in
    let rest : k ≡ l = one_key ps k l (omega arith) (omega arith) d.1 (λ j i.
    let past : place_in (p ∷ ps) j ≡ suc (place_in ps j) = ap (λ t. if t then 0 else suc (place_in ps j)) (unlike p j ps d.0 i) in
    ap (value_at (v ∷ k)) (sym past) ∙ h j (inr i) ∙ ap (value_at (w ∷ l)) past) in
    λ i. first i ∷ rest i

-- by what paths tell
origin_by : (inputs : List Shape) (main : ℕ) (o : Shape) (t : Tree) → IsShape (shape_at inputs main)
    → ((k l : Key) (f g : Plain → Plain) → IsPath t f → IsPath t g → Same inputs main k l (column_set o.key) f g → SameKey inputs main k l)
    → Origin (shape_at inputs main) (source_keys (shape_at inputs main) o t)
origin_by inputs main o t shape tell k l q fit_k fit_l i j =
    let s = shape_at inputs main in
    let x = in_mapped (λ fields. map (field s.key k) fields) q (sources t (as_fields o.key)) i in
    let y = in_mapped (λ fields. map (field s.key l) fields) q (sources t (as_fields o.key)) j in
    let f = by_path t (as_fields o.key) x.0 x.1 in
    let g = by_path t (as_fields o.key) y.0 y.1 in
    let e : map (field s.key k) (map f.0 (as_fields o.key)) ≡ map (field s.key l) (map g.0 (as_fields o.key)) = sym (x.2 ∙ ap (map (field s.key k)) f.2) ∙ (y.2 ∙ ap (map (field s.key l)) g.2) in
    let same = tell k l f.0 g.0 f.1 g.1 (λ c at. at_each (field s.key k) (field s.key l) f.0 g.0 o.key e c (set_from c o.key at)) in
    one_key s.key k l (fit_long (key_kinds s) k fit_k ∙ mapped_long _ s.key) (fit_long (key_kinds s) l fit_l ∙ mapped_long _ s.key) shape.distinct same

mutual
  pub stateless_main : (t : Tree) → IsStateless 0 t → main_of t ≡ 0
  stateless_main (Load i) w = w
  stateless_main (Filter from cond) w = stateless_main from w
  stateless_main (Foreach from items) w = stateless_main from w
  stateless_main (Union End) w = refl
  stateless_main (Union (Arm arm arms)) w = stateless_main arm w.0
  stateless_main Nothing w = absurd w
  stateless_main (Grouped from columns items) w = absurd w
  stateless_main (Join left left_by right right_by) w = absurd w
  stateless_main (Distinct from) w = absurd w

pub lookup_main : (inputs : List Shape) (main : ℕ) (t : Tree) → IsLookup inputs main t → main_of t ≡ main
lookup_main inputs main (Load i) w = w
lookup_main inputs main (Filter from cond) w = lookup_main inputs main from w
lookup_main inputs main (Foreach from items) w = lookup_main inputs main from w
lookup_main inputs main (Join left left_by right right_by) w = lookup_main inputs main left w.0
lookup_main inputs main (Union arms) w = absurd w
lookup_main inputs main Nothing w = absurd w
lookup_main inputs main (Grouped from columns items) w = absurd w
lookup_main inputs main (Distinct from) w = absurd w

abbrev At : Plan → ℕ → Type 0
At p main = IsShape (shape_at p.inputs main) → Origin (shape_at p.inputs main) (source_keys (shape_at p.inputs main) p.output (tree_of_plan p))

pub sources_tell : (p : Plan) → IsRowPlan p → At p (main_of (tree_of_plan p))
sources_tell p is = go is.shape
  where
    go : IsStateless 0 (tree_of_plan p) ⊎ ((main : ℕ) × IsLookup p.inputs main (tree_of_plan p) × (has_join (tree_of_plan p) ≡ true)) → At p (main_of (tree_of_plan p))
    go (inl w) = subst (At p) (sym (stateless_main (tree_of_plan p) w))
        (λ shape. origin_by p.inputs 0 p.output (tree_of_plan p) shape (λ k l f g i j same. same_stateless p.inputs 0 k l (tree_of_plan p) w (column_set p.output.key) is.key f g i j same))
    go (inr w) = subst (At p) (sym (lookup_main p.inputs w.0 (tree_of_plan p) w.1))
        (λ shape. origin_by p.inputs w.0 p.output (tree_of_plan p) shape (λ k l f g i j same. same_lookup p.inputs w.0 k l (tree_of_plan p) w.1 (column_set p.output.key) is.key f g i j same))
