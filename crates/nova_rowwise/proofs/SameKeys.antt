-- The output keys of a row plan by where their fields come from, and by the row with the key.
use Rattle.std.specs.Prelude.{◌≡◌, ◌⊎◌, ◌==◌, ℕ, zero, suc, ◌<◌, Bool, true, false, if◌then◌else◌, List, [], ◌∷◌, ◌++◌, map, pos, length, slice_set, slice_index_or, Some, refl}
use Rattle.std.proofs.Common.{ap, sym, ◌∙◌, inl, inr, subst, eqb-true, arith}
use Rattle.std.proofs.lemmas.Bool.Decides.{nat_tests}
use Rattle.std.proofs.lemmas.List.{get_or-set_same, get_or-set_other, length-set, length-map}
use Rattle.nova_value.specs.declared.value.Value.{Value}
use Rattle.nova_value.specs.declared.value.Value.TheVariants.{Long}
use Rattle.nova_value.specs.declared.schema.Column as schema
use Rattle.nova_value.specs.Rows.{Shape, IsShape, FitsKey, value_at, key_at, key_kinds}
use Rattle.nova_pig_algebra.specs.declared.node.PlanExpr.{PlanExpr}
use Rattle.nova_pig_algebra.specs.Meaning.{Row, made, no_calls}
use Rattle.nova_pig_algebra.specs.Tree.{Tree, Nothing, Load, Filter, Foreach, Grouped, Join, Union, Distinct, Arms, End, Arm, rows, arm_rows, rows_at}
use Rattle.nova_pig_algebra.specs.Keys.{Plain, Column, By, Constant, Computed, constant_at, item_constant, item_constants, shape_at}
use Rattle.nova_pig_algebra.specs.Plan.{Plan, tree_of_plan}
use Rattle.nova_pig_algebra.specs.Statements.{In, Every}
use Rattle.nova_pig_algebra.proofs.Items.{made_has}
use Rattle.nova_pig_algebra.proofs.Values.{constant_is}
use Rattle.nova_pig_pattern.specs.OutputKeys.{only_at, bare, bare_arms, zero_of, placed, row_with, output_keys}
use Rattle.nova_admit.specs.Shaped.{IsRowPlan}
use Rattle.nova_rowwise.specs.Sources.{Key, item_at, through, sources, arm_sources, place_in, field, as_fields, source_keys}
use Rattle.nova_rowwise.specs.Derived.{main_of}
use Rattle.nova_rowwise.specs.Statements.{main_shape}
use Rattle.nova_rowwise.proofs.Kept.{made_at}
use Rattle.nova_rowwise.proofs.Origins.{fit_long, mapped_long}
use Rattle.nova_rowwise.proofs.KeyFields.{IsPlain, IsKeyField, Leads, LeadArms, plan_leads}

-- ---- lists
map_each : {X Y : Type 0} (f g : X → Y) → ((x : X) → f x ≡ g x) → (xs : List X) → map f xs ≡ map g xs
map_each f g h [] = refl
map_each f g h (x ∷ xs) = let a = h x in let b = map_each f g h xs in λ i. a i ∷ b i

map_append : {X Y : Type 0} (f : X → Y) (xs ys : List X) → map f (xs ++ ys) ≡ map f xs ++ map f ys
map_append f [] ys = refl
map_append f (x ∷ xs) ys = ap (λ zs. f x ∷ zs) (map_append f xs ys)

both_append : {X : Type 0} (ws xs ys zs : List X) → ws ≡ xs → ys ≡ zs → ws ++ ys ≡ xs ++ zs
both_append ws xs ys zs a b = λ i. a i ++ b i

main_there : (main : ℕ) (m : List Row) → rows_at (only_at main m) main ≡ m
main_there zero m = refl
main_there (suc k) m = main_there k m

-- ---- the row with a key
placed_long : (ps : List ℕ) (vs : List Value) (row : Row) → length (placed ps vs row) ≡ length row
placed_long [] vs row = refl
placed_long (p ∷ ps) [] row = refl
placed_long (p ∷ ps) (v ∷ vs) row = length-set (placed ps vs row) p v ∙ placed_long ps vs row

placed_there : (ps : List ℕ) (vs : List Value) (row : Row) → length vs ≡ length ps → ((p : ℕ) → In p ps → p < length row) → (j : ℕ) → In j ps → value_at (placed ps vs row) j ≡ value_at vs (place_in ps j)
placed_there [] vs row long below j i = absurd i
placed_there (p ∷ ps) [] row long below j i = absurd (omega (arith, long))
placed_there (p ∷ ps) (v ∷ vs) row long below j i = go (p == j) refl i (λ h. placed_there ps vs row (omega (arith, long)) (λ q k. below q (inr k)) j h)
  where
    whole : Row
    whole = placed ps vs row

    short : p < length whole
    short = let a = placed_long ps vs row in let b = below p (inl refl) in omega (arith, a, b)

    at_place : (b : Bool) → (p == j) ≡ b → place_in (p ∷ ps) j ≡ (if b then 0 else suc (place_in ps j))
    at_place b e = ap (λ t. if t then 0 else suc (place_in ps j)) e

    go : (b : Bool) → (p == j) ≡ b → (j ≡ p) ⊎ In j ps → (In j ps → value_at whole j ≡ value_at vs (place_in ps j)) → value_at (slice_set whole p v) j ≡ value_at (v ∷ vs) (place_in (p ∷ ps) j)
    go true e h rest = ap (value_at (slice_set whole p v)) (sym (eqb-true p j e)) ∙ get_or-set_same whole p v (Long (pos 0)) short ∙ sym (ap (value_at (v ∷ vs)) (at_place true e))
    go false e (inl same) rest = absurd (grind (arith, nat_tests, e, same))
    go false e (inr h) rest =
        get_or-set_other whole p j v (Long (pos 0)) (λ same. grind (arith, nat_tests, e, same))
        ∙ rest h ∙ sym (ap (value_at (v ∷ vs)) (at_place false e))

pub in_range_of : (key : List ℕ) (n : ℕ) → ((i : ℕ) → i < length key → slice_index_or key i 0 < n) → (c : ℕ) → In c key → c < n
in_range_of [] n h c i = absurd i
in_range_of (k ∷ key) n h c (inl e) = subst (λ z. z < n) (sym e) (h 0 (omega arith))
in_range_of (k ∷ key) n h c (inr i) = in_range_of key n (λ j l. h (suc j) (omega (arith, l))) c i

pub key_there : (s : Shape) → IsShape s → (k : Key) → FitsKey s k → (j : ℕ) → In j s.key → value_at (row_with s k) j ≡ value_at k (place_in s.key j)
key_there s shape k fit j i =
    let zeros = map (λ (c : schema.Column). zero_of c.kind) s.columns in
    let wide : length zeros ≡ length s.columns = length-map s.columns (λ (c : schema.Column). zero_of c.kind) in
    placed_there s.key k zeros (fit_long (key_kinds s) k fit ∙ mapped_long _ s.key) (λ p h. let l = in_range_of s.key (length s.columns) shape.in_range p h in omega (arith, wide, l)) j i

-- ---- fields of rows
-- a field of a row: a column or a constant
abbrev valued : Row → Plain → Value
valued row (Column c) = value_at row c
valued row (Constant v) = v
valued row (By c) = Long (pos 0)
valued row Computed = Long (pos 0)

item_constant_at : (items : List PlanExpr) (c : ℕ) (v : Value) → item_at items c ≡ Constant v → constant_at (item_constants [] items) c ≡ Some v
item_constant_at [] c v e = absurd cc
item_constant_at (x ∷ items) zero v e = ap (item_constant []) e
item_constant_at (x ∷ items) (suc c) v e = item_constant_at items c v e

made_plain : (items : List PlanExpr) (z : Row) (c : ℕ) (q : Plain) → item_at items c ≡ q → IsPlain q → value_at (made items z no_calls) c ≡ valued z q
made_plain items z c (Column k) e h = made_at items z c k e
made_plain items z c (Constant v) e h = constant_is (item_constants [] items) (made items z no_calls) c v (made_has [] z no_calls (λ k w none. absurd cc) items) (item_constant_at items c v e)
made_plain items z c (By k) e h = absurd h
made_plain items z c Computed e h = absurd h

field_through : (items : List PlanExpr) (z : Row) (p : Plain) → IsPlain (through items p) → valued (made items z no_calls) p ≡ valued z (through items p)
field_through items z (Column c) h = made_plain items z c (item_at items c) refl h
field_through items z (Constant v) h = refl
field_through items z (By c) h = absurd h
field_through items z Computed h = absurd h

fields_through : (items : List PlanExpr) (z : Row) (fs : List Plain) → Every (λ p. IsPlain (through items p)) fs → map (valued (made items z no_calls)) fs ≡ map (valued z) (map (through items) fs)
fields_through items z [] all = refl
fields_through items z (p ∷ fs) all = let a = field_through items z p all.0 in let b = fields_through items z fs all.1 in λ i. a i ∷ b i

all_through : (items : List PlanExpr) (fs : List Plain) → Every (λ p. IsPlain (through items p)) fs → (zs : List Row)
    → map (λ x. map (valued x) fs) (map (λ z. made items z no_calls) zs) ≡ map (λ z. map (valued z) (map (through items) fs)) zs
all_through items fs all [] = refl
all_through items fs all (z ∷ zs) = let a = fields_through items z fs all in let b = all_through items fs all zs in λ i. a i ∷ b i

as_fields_of : (x : Row) (key : List ℕ) → key_at key x ≡ map (valued x) (as_fields key)
as_fields_of x [] = refl
as_fields_of x (c ∷ key) = ap (λ vs. value_at x c ∷ vs) (as_fields_of x key)

module _ (inputs : List Shape) (main : ℕ) (k : Key) (tables : List (List Row)) (r : Row) (one : rows_at tables main ≡ r ∷ [])
    (shows : (j : ℕ) → In j (shape_at inputs main).key → value_at r j ≡ value_at k (place_in (shape_at inputs main).key j)) where
  abbrev by_key : Plain → Value
  by_key = field (shape_at inputs main).key k

  field_shown : (p : Plain) → IsKeyField inputs main p → valued r p ≡ by_key p
  field_shown (Column c) h = shows c h
  field_shown (Constant v) h = refl
  field_shown (By c) h = absurd h
  field_shown Computed h = absurd h

  fields_shown : (fs : List Plain) → Every (IsKeyField inputs main) fs → map (valued r) fs ≡ map by_key fs
  fields_shown [] all = refl
  fields_shown (p ∷ fs) all = let a = field_shown p all.0 in let b = fields_shown fs all.1 in λ i. a i ∷ b i

  mutual
    sourced : (t : Tree) (fs : List Plain) → Leads inputs main t fs → map (λ x. map (valued x) fs) (rows (bare t) tables) ≡ map (λ gs. map by_key gs) (sources t fs)
    sourced (Load n) fs lead =
        ap (λ xs. map (λ x. map (valued x) fs) xs) (ap (rows_at tables) lead.0 ∙ one) ∙ ap (λ vs. vs ∷ []) (fields_shown fs lead.1)
    sourced (Filter from cond) fs lead = sourced from fs lead
    sourced (Foreach from items) fs lead = all_through items fs lead.0 (rows (bare from) tables) ∙ sourced from (map (through items) fs) lead.1
    sourced (Join left left_by right right_by) fs lead = sourced left fs lead
    sourced (Union arms) fs lead = arms_sourced arms fs lead
    sourced Nothing fs lead = refl
    sourced (Grouped from columns items) fs lead = refl
    sourced (Distinct from) fs lead = refl

    arms_sourced : (arms : Arms) (fs : List Plain) → LeadArms inputs main arms fs → map (λ x. map (valued x) fs) (arm_rows (bare_arms arms) tables) ≡ map (λ gs. map by_key gs) (arm_sources arms fs)
    arms_sourced End fs lead = refl
    arms_sourced (Arm arm arms) fs lead =
        map_append (λ x. map (valued x) fs) (rows (bare arm) tables) (arm_rows (bare_arms arms) tables)
        ∙ both_append _ _ _ _ (sourced arm fs lead.0) (arms_sourced arms fs lead.1)
        ∙ sym (map_append (λ gs. map by_key gs) (sources arm fs) (arm_sources arms fs))

pub same_keys : (p : Plan) → IsRowPlan p → IsShape (main_shape p) → (k : Key) → FitsKey (main_shape p) k → output_keys p (main_of (tree_of_plan p)) k ≡ source_keys (main_shape p) p.output (tree_of_plan p) k
same_keys p is shape k fit =
    let main = main_of (tree_of_plan p) in
    let r = row_with (main_shape p) k in
    let tables = only_at main (r ∷ []) in
    map_each (key_at p.output.key) (λ x. map (valued x) (as_fields p.output.key)) (λ x. as_fields_of x p.output.key) (rows (bare (tree_of_plan p)) tables)
    ∙ sourced p.inputs main k tables r (main_there main (r ∷ [])) (key_there (main_shape p) shape k fit) (tree_of_plan p) (as_fields p.output.key) (plan_leads p is)
