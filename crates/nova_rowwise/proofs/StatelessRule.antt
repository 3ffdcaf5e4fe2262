-- A stateless plan is a rule.
use Rattle.std.specs.Prelude.{◌≡◌, ◌⊎◌, ◌==◌, ℕ, suc, Bool, true, false, if◌then◌else◌, List, [], ◌∷◌, map, refl}
use Rattle.std.proofs.Common.{ap, sym, ◌∙◌, inl, inr, subst, eqb-true, arith}
use Rattle.std.proofs.lemmas.Bool.Decides.{nat_tests}
use Rattle.nova_value.specs.declared.value.Value.{Value}
use Rattle.nova_value.specs.Rows.{FitsRow, value_at, key_at}
use Rattle.nova_pig_algebra.specs.Meaning.{Row}
use Rattle.nova_pig_algebra.specs.Tree.{Tree, Nothing, Load, Filter, Foreach, Grouped, Join, Union, Distinct, Arms, End, Arm, rows}
use Rattle.nova_pig_algebra.specs.Keys.{Plain, Column, By, Constant, Computed, column_set, shape_at}
use Rattle.nova_pig_algebra.specs.Plan.{Plan, IsPlan, tree_of_plan}
use Rattle.nova_pig_algebra.specs.Statements.{In, AreTables}
use Rattle.nova_pig_algebra.proofs.Apart.{keys_tell}
use Rattle.nova_pig_algebra.proofs.Even.{plan_even}
use Rattle.nova_pig_algebra.proofs.Lists.{in_left}
use Rattle.nova_pig_algebra.proofs.Sets.{set_in, agree_by, by_agree}
use Rattle.nova_pig_pattern.specs.OutputKey.{HasOutputKey}
use Rattle.nova_pig_pattern.specs.Shapes.{IsStateless}
use Rattle.nova_rowwise.specs.Sources.{through, sources, arm_sources, place_in, field, as_fields, source_keys}
use Rattle.nova_rowwise.specs.Derived.{with_main}
use Rattle.nova_rowwise.specs.Rule.{Rule}
use Rattle.nova_rowwise.proofs.Members.{in_right, in_map, sole_keyed}
use Rattle.nova_rowwise.proofs.Origins.{set_from}
use Rattle.nova_rowwise.proofs.Paths.{IsPath, IsArmPath}
use Rattle.nova_rowwise.proofs.Kept.{Shown, Traced, traced}
use Rattle.nova_rowwise.proofs.Spread.{main_is}

map_same : (f : Plain → Plain) → ((p : Plain) → f p ≡ p) → (ps : List Plain) → map f ps ≡ ps
map_same f is [] = refl
map_same f is (p ∷ ps) = let first = is p in let rest = map_same f is ps in λ i. first i ∷ rest i

map_through : (f g h : Plain → Plain) → ((p : Plain) → f p ≡ g (h p)) → (ps : List Plain) → map f ps ≡ map g (map h ps)
map_through f g h is [] = refl
map_through f g h is (p ∷ ps) = let first = is p in let rest = map_through f g h is ps in λ i. first i ∷ rest i

-- a path's list of fields is one of the sources
mutual
  path_in : (t : Tree) (f : Plain → Plain) → IsPath t f → (ps : List Plain) → In (map f ps) (sources t ps)
  path_in (Load n) f is ps = inl (map_same f is ps)
  path_in (Filter from cond) f is ps = path_in from f is ps
  path_in (Foreach from items) f is ps = subst (λ qs. In qs (sources from (map (through items) ps))) (sym (map_through f is.0 (through items) is.2 ps)) (path_in from is.0 is.1 (map (through items) ps))
  path_in (Join left left_by right right_by) f is ps = path_in left f is ps
  path_in (Union arms) f is ps = arm_path_in arms f is ps
  path_in Nothing f is ps = absurd is
  path_in (Grouped from columns items) f is ps = absurd is
  path_in (Distinct from) f is ps = absurd is

  arm_path_in : (arms : Arms) (f : Plain → Plain) → IsArmPath arms f → (ps : List Plain) → In (map f ps) (arm_sources arms ps)
  arm_path_in End f is ps = absurd is
  arm_path_in (Arm arm arms) f (inl is) ps = in_left (map f ps) (sources arm ps) (arm_sources arms ps) (path_in arm f is ps)
  arm_path_in (Arm arm arms) f (inr is) ps = in_right (map f ps) (sources arm ps) (arm_sources arms ps) (arm_path_in arms f is ps)

-- the key of a row has the row's values
value_in_key : (key : List ℕ) (r : Row) (j : ℕ) → In j key → value_at (key_at key r) (place_in key j) ≡ value_at r j
value_in_key [] r j i = absurd i
value_in_key (p ∷ ps) r j i = go (p == j) refl i (λ h. value_in_key ps r j h)
  where
    at_place : (b : Bool) → (p == j) ≡ b → place_in (p ∷ ps) j ≡ (if b then 0 else suc (place_in ps j))
    at_place b e = ap (λ t. if t then 0 else suc (place_in ps j)) e

    unlike_self : (p == j) ≡ false → j ≡ p → ⊥
    unlike_self e same = grind (arith, nat_tests, e, same)

    go : (b : Bool) → (p == j) ≡ b → (j ≡ p) ⊎ In j ps → (In j ps → value_at (key_at ps r) (place_in ps j) ≡ value_at r j) → value_at (key_at (p ∷ ps) r) (place_in (p ∷ ps) j) ≡ value_at r j
    go true e h rest = ap (value_at (key_at (p ∷ ps) r)) (at_place true e) ∙ ap (value_at r) (eqb-true p j e)
    go false e (inl same) rest = absurd (unlike_self e same)
    go false e (inr h) rest = ap (value_at (key_at (p ∷ ps) r)) (at_place false e) ∙ rest h

shown_is : (key : List ℕ) (r : Row) (p : Plain) (v : Value) → Shown key r p v → field key (key_at key r) p ≡ v
shown_is key r (Column j) v h = value_in_key key r j h.0 ∙ h.1
shown_is key r (Constant w) v h = h
shown_is key r (By j) v h = absurd h
shown_is key r Computed v h = absurd h

key_shown : (a : Plain → Value) (f : Plain → Plain) (x : Row) (key : List ℕ) → ((c : ℕ) → In c key → a (f (Column c)) ≡ value_at x c) → map a (map f (as_fields key)) ≡ key_at key x
key_shown a f x [] h = refl
key_shown a f x (c ∷ key) h = let first = h c (inl refl) in let rest = key_shown a f x key (λ d i. h d (inr i)) in λ i. first i ∷ rest i

pub rule_by : (p : Plan) → IsPlan p → HasOutputKey p → (main : ℕ) (of : Row → List (List Row))
    → ((r x : Row) → (tables : AreTables p.inputs (with_main main (of r) (r ∷ []))) → In x (rows (tree_of_plan p) (with_main main (of r) (r ∷ []))) → Traced p.inputs main (with_main main (of r) (r ∷ [])) tables r (main_is main (of r) (r ∷ [])) (tree_of_plan p) (column_set p.output.key) x)
    → ((r : Row) → FitsRow (shape_at p.inputs main) r → AreTables p.inputs (with_main main (of r) (r ∷ [])))
    → Rule (shape_at p.inputs main) p.output (source_keys (shape_at p.inputs main) p.output (tree_of_plan p)) (λ r. rows (tree_of_plan p) (with_main main (of r) (r ∷ [])))
rule_by p is key main of trace are =
    let s = shape_at p.inputs main in
    let o = p.output in
    let t = tree_of_plan p in
    record {
      one = λ r fit x y i j e.
          sole_keyed (column_set o.key) (rows t (with_main main (of r) (r ∷ []))) (keys_tell p is.kinded (column_set o.key) key (with_main main (of r) (r ∷ [])) (are r fit)) x y i j
          (by_agree (column_set o.key) x y (λ c k. agree_by o.key x y e c (set_from c o.key k)));
      kept = λ r x fit i.
          let f = trace r x (are r fit) i in
          let k = key_at s.key r in
          subst (λ q. In q (source_keys s o t k)) (key_shown (field s.key k) f.0 x o.key (λ c at. shown_is s.key r (f.0 (Column c)) (value_at x c) (f.2 c (set_in c o.key at))))
          (in_map (λ fields. map (field s.key k) fields) (map f.0 (as_fields o.key)) (sources t (as_fields o.key)) (path_in t f.0 f.1 (as_fields o.key)));
    }

-- with any lookup tables, which may hang on the row
pub stateless_rule : (p : Plan) → IsPlan p → HasOutputKey p → (main : ℕ) → IsStateless main (tree_of_plan p) → (of : Row → List (List Row))
    → ((r : Row) → FitsRow (shape_at p.inputs main) r → AreTables p.inputs (with_main main (of r) (r ∷ [])))
    → Rule (shape_at p.inputs main) p.output (source_keys (shape_at p.inputs main) p.output (tree_of_plan p)) (λ r. rows (tree_of_plan p) (with_main main (of r) (r ∷ [])))
stateless_rule p is key main w of are =
    rule_by p is key main of (λ r x tables i. traced p.inputs main (with_main main (of r) (r ∷ [])) tables r (main_is main (of r) (r ∷ [])) (tree_of_plan p) w (plan_even p is.kinded) (column_set p.output.key) key x i) are
