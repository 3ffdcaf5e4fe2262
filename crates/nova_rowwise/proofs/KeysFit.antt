-- Output keys fit the output.
use Rattle.std.specs.Prelude.{◌≡◌, ◌⊎◌, ◌==◌, ℕ, zero, suc, ◌≤◌, Bool, true, false, if◌then◌else◌, List, [], ◌∷◌, map, length, slice_get, slice_index_or, Some, None, refl}
use Rattle.std.proofs.Common.{ap, sym, ◌∙◌, inl, inr, subst, eqb-true, arith}
use Rattle.std.proofs.lemmas.Bool.Decides.{nat_tests}
use Rattle.std.proofs.lemmas.List.{length-map}
use Rattle.nova_value.specs.declared.value.Kind.{Kind}
use Rattle.nova_value.specs.declared.value.Kind.TheVariants as kind
use Rattle.nova_value.specs.declared.schema.Column as schema
use Rattle.nova_value.specs.Rows.{Shape, IsShape, IsOf, FitKinds, FitsKey, value_at, kinds}
use Rattle.nova_pig_algebra.specs.Tree.{Tree, Nothing, Load, Filter, Foreach, Grouped, Join, Union, Distinct, Arms, End, Arm}
use Rattle.nova_pig_algebra.specs.Keys.{Plain, Column, By, Constant, Computed, shape_at}
use Rattle.nova_pig_algebra.specs.Plan.{Plan, IsPlan, tree_of_plan}
use Rattle.nova_pig_algebra.specs.Statements.{In, Every}
use Rattle.nova_pig_algebra.proofs.Lists.{in_mapped}
use Rattle.nova_admit.specs.Shaped.{IsRowPlan}
use Rattle.nova_rowwise.specs.Sources.{Key, through, sources, place_in, field, as_fields, source_keys}
use Rattle.nova_rowwise.specs.Derived.{main_of}
use Rattle.nova_rowwise.specs.Statements.{main_shape}
use Rattle.nova_rowwise.proofs.KeyFields.{IsKeyField, Leads, LeadArms, plan_leads}
use Rattle.nova_rowwise.proofs.PathKinds.{HasKind, fields_have_kinds}
use Rattle.nova_rowwise.proofs.Paths.{IsPath, IsArmPath, by_path}
use Rattle.nova_rowwise.proofs.RowPlans.{rowwise}
use Rattle.nova_rowwise.proofs.SameKeys.{in_range_of}

module _ (inputs : List Shape) (main : ℕ) where
  abbrev Lands : (Plain → Plain) → List Plain → Type 0
  Lands f fs = Every (λ p. IsKeyField inputs main (f p)) fs

  landed : (f : Plain → Plain) → ((p : Plain) → f p ≡ p) → (fs : List Plain) → Every (IsKeyField inputs main) fs → Lands f fs
  landed f is [] all = tt
  landed f is (p ∷ fs) all = (subst (IsKeyField inputs main) (sym (is p)) all.0, landed f is fs all.1)

  landed_through : (f g h : Plain → Plain) → ((p : Plain) → f p ≡ g (h p)) → (fs : List Plain) → Lands g (map h fs) → Lands f fs
  landed_through f g h is [] all = tt
  landed_through f g h is (p ∷ fs) all = (subst (IsKeyField inputs main) (sym (is p)) all.0, landed_through f g h is fs all.1)

  mutual
    lands : (t : Tree) (fs : List Plain) → Leads inputs main t fs → (f : Plain → Plain) → IsPath t f → Lands f fs
    lands (Load n) fs lead f path = landed f path fs lead.1
    lands (Filter from cond) fs lead f path = lands from fs lead f path
    lands (Foreach from items) fs lead f path = landed_through f path.0 (through items) path.2 fs (lands from (map (through items) fs) lead.1 path.0 path.1)
    lands (Join left left_by right right_by) fs lead f path = lands left fs lead f path
    lands (Union arms) fs lead f path = arms_land arms fs lead f path
    lands Nothing fs lead f path = absurd path
    lands (Grouped from columns items) fs lead f path = absurd path
    lands (Distinct from) fs lead f path = absurd path

    arms_land : (arms : Arms) (fs : List Plain) → LeadArms inputs main arms fs → (f : Plain → Plain) → IsArmPath arms f → Lands f fs
    arms_land End fs lead f path = absurd path
    arms_land (Arm arm arms) fs lead f (inl path) = lands arm fs lead.0 f path
    arms_land (Arm arm arms) fs lead f (inr path) = arms_land arms fs lead.1 f path

-- ---- kinds at places
kind_there : (ks : List Kind) (c : ℕ) → (slice_get ks c ≡ Some (slice_index_or ks c kind.Long)) ⊎ (slice_get ks c ≡ None)
kind_there [] c = inr refl
kind_there (k ∷ ks) zero = inl refl
kind_there (k ∷ ks) (suc c) = kind_there ks c

kind_is : (ks : List Kind) (c : ℕ) (κ : Kind) → slice_get ks c ≡ Some κ → slice_index_or ks c kind.Long ≡ κ
kind_is [] c κ e = absurd cc
kind_is (k ∷ ks) zero κ e = cc
kind_is (k ∷ ks) (suc c) κ e = kind_is ks c κ e

past_them : (ks : List Kind) (c : ℕ) → slice_get ks c ≡ None → length ks ≤ c
past_them [] c e = omega arith
past_them (k ∷ ks) zero e = absurd cc
past_them (k ∷ ks) (suc c) e = let r = past_them ks c e in omega (arith, r)

-- the value of a key column is of its kind
value_fits : (ks : List Kind) (key : List ℕ) (k : Key) → FitKinds (map (λ p. slice_index_or ks p kind.Long) key) k → (j : ℕ) → In j key → IsOf (slice_index_or ks j kind.Long) (value_at k (place_in key j))
value_fits ks [] k fit j i = absurd i
value_fits ks (p ∷ key) [] fit j i = absurd fit
value_fits ks (p ∷ key) (v ∷ k) fit j i = go (p == j) refl i (λ h. value_fits ks key k fit.1 j h)
  where
    at_place : (b : Bool) → (p == j) ≡ b → place_in (p ∷ key) j ≡ (if b then 0 else suc (place_in key j))
    at_place b e = ap (λ t. if t then 0 else suc (place_in key j)) e

    go : (b : Bool) → (p == j) ≡ b → (j ≡ p) ⊎ In j key → (In j key → IsOf (slice_index_or ks j kind.Long) (value_at k (place_in key j))) → IsOf (slice_index_or ks j kind.Long) (value_at (v ∷ k) (place_in (p ∷ key) j))
    go true e h rest = subst (λ n. IsOf (slice_index_or ks j kind.Long) (value_at (v ∷ k) n)) (sym (at_place true e)) (subst (λ n. IsOf (slice_index_or ks n kind.Long) v) (eqb-true p j e) fit.0)
    go false e (inl same) rest = absurd (grind (arith, nat_tests, e, same))
    go false e (inr h) rest = subst (λ n. IsOf (slice_index_or ks j kind.Long) (value_at (v ∷ k) n)) (sym (at_place false e)) (rest h)

module _ (inputs : List Shape) (main : ℕ) (shape : IsShape (shape_at inputs main)) (k : Key) (fit : FitsKey (shape_at inputs main) k) where
  abbrev s : Shape
  s = shape_at inputs main

  field_fits : (κ : Kind) (q : Plain) → IsKeyField inputs main q → HasKind (kinds s.columns) κ q → IsOf κ (field s.key k q)
  field_fits κ (Column j) i (inl e) = subst (λ z. IsOf z (value_at k (place_in s.key j))) (kind_is (kinds s.columns) j κ e) (value_fits (kinds s.columns) s.key k fit j i)
  field_fits κ (Column j) i (inr e) =
      let below = in_range_of s.key (length s.columns) shape.in_range j i in
      let past = past_them (kinds s.columns) j e in
      let wide = length-map s.columns (λ (c : schema.Column). c.kind) in
      absurd (omega (arith, below, past, wide))
  field_fits κ (Constant v) i h = h
  field_fits κ (By c) i h = absurd i
  field_fits κ Computed i h = absurd i

  fields_fit : (ks : List Kind) (f : Plain → Plain) → ((κ : Kind) (q : Plain) → HasKind ks κ q → HasKind (kinds s.columns) κ (f q)) → (key : List ℕ) → Every (λ p. IsKeyField inputs main (f p)) (as_fields key)
      → FitKinds (map (λ p. slice_index_or ks p kind.Long) key) (map (field s.key k) (map f (as_fields key)))
  fields_fit ks f leads [] all = tt
  fields_fit ks f leads (c ∷ key) all = (
    field_fits (slice_index_or ks c kind.Long) (f (Column c)) all.0 (leads (slice_index_or ks c kind.Long) (Column c) (kind_there ks c)),
    fields_fit ks f leads key all.1,
  )

pub keys_fit : (p : Plan) → IsPlan p → IsRowPlan p → IsShape (main_shape p) → (k : Key) → FitsKey (main_shape p) k → (q : Key) → In q (source_keys (main_shape p) p.output (tree_of_plan p) k) → FitsKey p.output q
keys_fit p is row shape k fit q i =
    let main = main_of (tree_of_plan p) in
    let t = tree_of_plan p in
    let x = in_mapped (λ fields. map (field (main_shape p).key k) fields) q (sources t (as_fields p.output.key)) i in
    let f = by_path t (as_fields p.output.key) x.0 x.1 in
    let all = lands p.inputs main t (as_fields p.output.key) (plan_leads p row) f.0 f.1 in
    let fits = fields_fit p.inputs main shape k fit (kinds p.output.columns) f.0 (fields_have_kinds p is main (rowwise p row) f.0 f.1) p.output.key all in
    subst (FitsKey p.output) (sym (x.2 ∙ ap (map (field (main_shape p).key k)) f.2)) fits
