-- What the kinds of a node say of the nodes that it names.
use Rattle.std.specs.Prelude.{◌≡◌, ℕ, Bool, true, false, if◌then◌else◌, List, [], ◌∷◌, ◌++◌, Option, Some, None, refl}
use Rattle.std.proofs.Common.{ap, sym}
use Rattle.nova_value.specs.declared.value.Kind.{Kind}
use Rattle.nova_value.specs.declared.value.Kind.TheVariants as kind
use Rattle.nova_pig_algebra.specs.declared.node.PlanExpr.{PlanExpr}
use Rattle.nova_pig_algebra.specs.Sorts.{Over, Row as OverRows, Bag, has, is_condition, sort_of}
use Rattle.nova_pig_algebra.specs.Kinds.{same_kind, item_kinds, kinds_at, as_rows, as_bag, filter_over, foreach_over, group_over, distinct_over, same_list, join_over, are_rows, all_rows, union_over}
use Rattle.nova_pig_algebra.proofs.Sets.{both_true}

-- ---- kinds that are the same
pub one_kind : (k j : Kind) → same_kind k j ≡ true → k ≡ j
one_kind kind.Long kind.Long e = refl
one_kind kind.Text kind.Text e = refl
one_kind kind.Long kind.Text e = absurd cc
one_kind kind.Text kind.Long e = absurd cc

pub one_list : (ks js : List Kind) → same_list (Some ks) (Some js) ≡ true → ks ≡ js
one_list [] [] e = refl
one_list [] (j ∷ js) e = absurd cc
one_list (k ∷ ks) [] e = absurd cc
one_list (k ∷ ks) (j ∷ js) e =
    let p = both_true (same_kind k j) (same_list (Some ks) (Some js)) e in
    let a = one_kind k j p.0 in
    let b = one_list ks js p.1 in
    λ i. a i ∷ b i

pub rows_of_kinds : (ks : List Kind) (x : Option Over) → are_rows ks x ≡ true → x ≡ Some (OverRows ks)
rows_of_kinds ks (Some (OverRows js)) e = ap (λ (hs : List Kind). let o : Option Over = Some (OverRows hs) in o) (sym (one_list ks js e))
rows_of_kinds ks (Some (Bag bs js)) e = absurd cc
rows_of_kinds ks None e = absurd cc

-- ---- what a node's kinds say of what it names
pub filter_from : (c : PlanExpr) (x : Option Over) (o : Over) → filter_over c x ≡ Some o → (ks : List Kind) × (x ≡ Some (OverRows ks)) × (o ≡ OverRows ks)
filter_from c (Some (OverRows ks)) o e = step (has is_condition (sort_of (OverRows ks) c)) e
  where
    step : (b : Bool) → (if b then Some (OverRows ks) else None) ≡ Some o → (js : List Kind) × (Some (OverRows ks) ≡ Some (OverRows js)) × (o ≡ OverRows js)
    step true f = let is : OverRows ks ≡ o = cc in (ks, refl, sym is)
    step false f = absurd cc
filter_from c (Some (Bag bs ks)) o e = absurd cc
filter_from c None o e = absurd cc

pub distinct_from : (x : Option Over) (o : Over) → distinct_over x ≡ Some o → (ks : List Kind) × (x ≡ Some (OverRows ks)) × (o ≡ OverRows ks)
distinct_from (Some (OverRows ks)) o e = let is : OverRows ks ≡ o = cc in (ks, refl, sym is)
distinct_from (Some (Bag bs ks)) o e = absurd cc
distinct_from None o e = absurd cc

pub record Items (items : List PlanExpr) (x : Option Over) (o : Over) : Type 0 where
  pub source : Over
  pub made_of : List Kind
  pub from : x ≡ Some source
  pub each : item_kinds source items ≡ Some made_of
  pub is : o ≡ OverRows made_of

pub foreach_from : (items : List PlanExpr) (x : Option Over) (o : Over) → foreach_over items x ≡ Some o → Items items x o
foreach_from items None o e = absurd cc
foreach_from items (Some p) o e = step (item_kinds p items) refl e
  where
    step : (r : Option (List Kind)) → item_kinds p items ≡ r → as_rows r ≡ Some o → Items items (Some p) o
    step None a f = absurd cc
    step (Some ks) a f = let is : OverRows ks ≡ o = cc in record { source = p; made_of = ks; from = refl; each = a; is = sym is }

pub record Groups (columns : List ℕ) (x : Option Over) (o : Over) : Type 0 where
  pub bys : List Kind
  pub own : List Kind
  pub from : x ≡ Some (OverRows own)
  pub each : kinds_at own columns ≡ Some bys
  pub is : o ≡ Bag bys own

pub group_from : (columns : List ℕ) (x : Option Over) (o : Over) → group_over columns x ≡ Some o → Groups columns x o
group_from columns (Some (OverRows ks)) o e = step (kinds_at ks columns) refl e
  where
    step : (r : Option (List Kind)) → kinds_at ks columns ≡ r → as_bag ks r ≡ Some o → Groups columns (Some (OverRows ks)) o
    step None a f = absurd cc
    step (Some bs) a f = let is : Bag bs ks ≡ o = cc in record { bys = bs; own = ks; from = refl; each = a; is = sym is }
group_from columns (Some (Bag bs ks)) o e = absurd cc
group_from columns None o e = absurd cc

pub record Sides (x y : Option Over) (o : Over) : Type 0 where
  pub left : List Kind
  pub right : List Kind
  pub on_left : x ≡ Some (OverRows left)
  pub on_right : y ≡ Some (OverRows right)
  pub is : o ≡ OverRows (left ++ right)

pub join_from : (lb rb : List ℕ) (x y : Option Over) (o : Over) → join_over lb rb x y ≡ Some o → Sides x y o
join_from lb rb (Some (OverRows ks)) (Some (OverRows js)) o e = step (same_list (kinds_at ks lb) (kinds_at js rb)) e
  where
    step : (b : Bool) → (if b then Some (OverRows (ks ++ js)) else None) ≡ Some o → Sides (Some (OverRows ks)) (Some (OverRows js)) o
    step true f = let is : OverRows (ks ++ js) ≡ o = cc in record { left = ks; right = js; on_left = refl; on_right = refl; is = sym is }
    step false f = absurd cc
join_from lb rb (Some (OverRows ks)) (Some (Bag bs js)) o e = absurd cc
join_from lb rb (Some (OverRows ks)) None o e = absurd cc
join_from lb rb (Some (Bag bs ks)) y o e = absurd cc
join_from lb rb None y o e = absurd cc

pub record AllArms (done : List Over) (arms : List ℕ) (x : Option Over) (o : Over) : Type 0 where
  pub own : List Kind
  pub first : x ≡ Some (OverRows own)
  pub all : all_rows done own arms ≡ true
  pub is : o ≡ OverRows own

pub union_from : (done : List Over) (arms : List ℕ) (x : Option Over) (o : Over) → union_over done arms x ≡ Some o → AllArms done arms x o
union_from done arms (Some (OverRows ks)) o e = step (all_rows done ks arms) refl e
  where
    step : (b : Bool) → all_rows done ks arms ≡ b → (if b then Some (OverRows ks) else None) ≡ Some o → AllArms done arms (Some (OverRows ks)) o
    step true a f = let is : OverRows ks ≡ o = cc in record { own = ks; first = refl; all = a; is = sym is }
    step false a f = absurd cc
union_from done arms (Some (Bag bs ks)) o e = absurd cc
union_from done arms None o e = absurd cc
