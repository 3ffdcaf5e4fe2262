-- The kinds of expressions: of their values, and of what their calls take.
use Rattle.std.specs.Prelude.{◌≡◌, ℕ, zero, suc, Bool, true, false, ◌&&◌, if◌then◌else◌, List, [], ◌∷◌, ◌++◌, map, flat_map, fold, slice_get, Option, Some, None, refl}
use Rattle.std.proofs.Common.{ap, sym, ◌∙◌, subst}
use Rattle.std.specs.List.{AllByRecursion, list_any}
use Rattle.nova_value.specs.declared.value.Kind.{Kind}
use Rattle.nova_value.specs.declared.value.Kind.TheVariants as kind
use Rattle.nova_pig_tree.specs.declared.expression.CallKind.{CallKind}
use Rattle.nova_pig_tree.specs.declared.expression.CallKind.TheVariants as call
use Rattle.nova_pig_algebra.specs.declared.node.PlanExpr.{PlanExpr}
use Rattle.nova_pig_algebra.specs.declared.node.PlanExpr.TheOpen.{PlanExpr-F}
use Rattle.nova_pig_algebra.specs.declared.node.PlanExpr.TheFolds.{fold-roll-PlanExpr, ind-PlanExpr, map-PlanExpr}
use Rattle.nova_pig_algebra.specs.declared.node.PlanExpr.TheViews.{roll-PlanExpr}
use Rattle.nova_pig_algebra.specs.declared.node.Sort.{Sort}
use Rattle.nova_pig_algebra.specs.declared.node.Sort.TheVariants.{Of, Condition}
use Rattle.nova_pig_algebra.specs.Meaning.{Call, calls_step, calls}
use Rattle.nova_pig_algebra.specs.Sorts.{Over, Row as OverRows, Bag, long, is_long, is_condition, are_alike, of_kind, when, has, are, chosen, column_agg, agg_sort, sort_step, sort_of}
use Rattle.nova_pig_algebra.specs.Kinds.{with_kind, item_kinds}
use Rattle.nova_pig_algebra.proofs.Sets.{both_true}
use Rattle.nova_pig_rows.specs.Outcomes.{same_call}
use Rattle.nova_group_codec.specs.Pieces.{kind_at, kind_of}
use Rattle.nova_state.specs.Plan.{with_call, calls_in}
use Rattle.nova_state.specs.Sorts.{kind_step, kind_in}

-- ---- what a sort says of its parts
of_when : (b : Bool) (s r : Sort) → when b s ≡ Some r → b ≡ true
of_when true s r e = refl
of_when false s r e = absurd cc

when_is : (b : Bool) (s r : Sort) → when b s ≡ Some r → s ≡ r
when_is true s r e = cc
when_is false s r e = absurd cc

of_has : (test : Sort → Bool) (o : Option Sort) → has test o ≡ true → (s : Sort) × (o ≡ Some s)
of_has test None e = absurd cc
of_has test (Some s) e = (s, refl)

of_are : (test : Sort → Sort → Bool) (a b : Option Sort) → are test a b ≡ true → ((s : Sort) × (a ≡ Some s)) × ((r : Sort) × (b ≡ Some r))
of_are test None b e = absurd cc
of_are test (Some s) None e = absurd cc
of_are test (Some s) (Some r) e = ((s, refl), (r, refl))

of_chosen : (b : Bool) (o : Option Sort) (s : Sort) → chosen b o ≡ Some s → (b ≡ true) × (o ≡ Some s)
of_chosen true o s e = (refl, e)
of_chosen false o s e = absurd cc

-- ---- the kind of a value
pub column_kind : (ks : List Kind) (j : ℕ) (k : Kind) → of_kind (slice_get ks j) ≡ Some (Of k) → kind_at ks j ≡ k
column_kind [] j k e = absurd cc
column_kind (h ∷ ks) zero k e = cc
column_kind (h ∷ ks) (suc j) k e = column_kind ks j k e

module _ (ks : List Kind) where
  abbrev Kinded : PlanExpr → Type 0
  Kinded x = (k : Kind) → sort_of (OverRows ks) x ≡ Some (Of k) → kind_in ks x ≡ k

  abbrev Layer : Type 0
  Layer = PlanExpr-F ((x : PlanExpr) × Kinded x)

  abbrev bare : Layer → PlanExpr-F PlanExpr
  bare y = map-PlanExpr ((x : PlanExpr) × Kinded x) PlanExpr (λ e. e.0) y

  no_kind : (b : Bool) (k : Kind) → when b Condition ≡ Some (Of k) → ⊥
  no_kind b k e = let is = when_is b Condition (Of k) e in cc

  is_number : (b : Bool) (k : Kind) → when b long ≡ Some (Of k) → kind.Long ≡ k
  is_number b k e = let is = when_is b long (Of k) e in cc

  by_layer : (y : Layer) (k : Kind) → sort_step (OverRows ks) (map-PlanExpr PlanExpr (Option Sort) (sort_of (OverRows ks)) (bare y)) ≡ Some (Of k) → kind_step ks (map-PlanExpr PlanExpr Kind (kind_in ks) (bare y)) ≡ k
  by_layer (PlanExpr-F.Num n) k e = cc
  by_layer (PlanExpr-F.Lit t) k e = cc
  by_layer (PlanExpr-F.Column j) k e = column_kind ks j k e
  by_layer (PlanExpr-F.GroupColumn j) k e = absurd cc
  by_layer (PlanExpr-F.Agg c column) k e = absurd cc
  by_layer (PlanExpr-F.Neg a) k e = is_number _ k e
  by_layer (PlanExpr-F.Add a b) k e = is_number _ k e
  by_layer (PlanExpr-F.Sub a b) k e = is_number _ k e
  by_layer (PlanExpr-F.Mul a b) k e = is_number _ k e
  by_layer (PlanExpr-F.Compare op a b) k e = absurd (no_kind _ k e)
  by_layer (PlanExpr-F.And a b) k e = absurd (no_kind _ k e)
  by_layer (PlanExpr-F.Or a b) k e = absurd (no_kind _ k e)
  by_layer (PlanExpr-F.Not a) k e = absurd (no_kind _ k e)
  by_layer (PlanExpr-F.If c a b) k e = a.1 k (of_chosen _ (sort_of (OverRows ks) a.0) (Of k) e).1

  rolled : (z : PlanExpr-F PlanExpr)
      → ((k : Kind) → sort_step (OverRows ks) (map-PlanExpr PlanExpr (Option Sort) (sort_of (OverRows ks)) z) ≡ Some (Of k) → kind_step ks (map-PlanExpr PlanExpr Kind (kind_in ks) z) ≡ k)
      → Kinded (roll-PlanExpr z)
  unfolding sort_of kind_in
  rolled z go k e = fold-roll-PlanExpr Kind (kind_step ks) z ∙ go k (sym (fold-roll-PlanExpr (Option Sort) (sort_step (OverRows ks)) z) ∙ e)

  pub kind_is : (x : PlanExpr) → Kinded x
  kind_is = ind-PlanExpr Kinded (λ x y is. subst (λ z. Kinded (roll-PlanExpr z)) is (rolled (bare y) (by_layer y)))

  with_kinds : (x : PlanExpr) (items : List PlanExpr) → ((hs : List Kind) → item_kinds (OverRows ks) items ≡ Some hs → map (kind_in ks) items ≡ hs)
      → (t : Option Sort) (r : Option (List Kind)) (js : List Kind) → sort_of (OverRows ks) x ≡ t → item_kinds (OverRows ks) items ≡ r → with_kind t r ≡ Some js → map (kind_in ks) (x ∷ items) ≡ js
  with_kinds x items rest (Some (Of k)) (Some hs) js a b g =
      let is : k ∷ hs ≡ js = cc in
      let first = kind_is x k a in
      let others = rest hs b in
      (λ i. first i ∷ others i) ∙ is
  with_kinds x items rest (Some (Of k)) None js a b g = absurd cc
  with_kinds x items rest (Some Condition) r js a b g = absurd cc
  with_kinds x items rest None r js a b g = absurd cc

  -- the kinds of items
  pub items_are : (items : List PlanExpr) (js : List Kind) → item_kinds (OverRows ks) items ≡ Some js → map (kind_in ks) items ≡ js
  items_are [] js e = cc
  items_are (x ∷ items) js e = with_kinds x items (items_are items) (sort_of (OverRows ks) x) (item_kinds (OverRows ks) items) js refl refl e

-- ---- what calls take
-- a sum is one of numbers
abbrev pub Sums : List Kind → Call → Type 0
Sums ks c = c.kind ≡ call.Sum → kind_of ks c.column ≡ kind.Long

abbrev pub AllSum : List Kind → List Call → Type 0
AllSum ks cs = AllByRecursion (Sums ks) cs

pub all_both : (P : Call → Type 0) (cs ds : List Call) → AllByRecursion P cs → AllByRecursion P ds → AllByRecursion P (cs ++ ds)
all_both P [] ds a b = b
all_both P (c ∷ cs) ds a b = (a.0, all_both P cs ds a.1 b)

column_sums : (ks : List Kind) (j : ℕ) (o : Option Kind) → slice_get ks j ≡ o → (s : Sort) → column_agg call.Sum o ≡ Some s → kind_at ks j ≡ kind.Long
column_sums ks j None is s e = absurd cc
column_sums ks j (Some kind.Long) is s e = column_kind ks j kind.Long (ap of_kind is)
column_sums ks j (Some kind.Text) is s e = absurd cc

agg_sums : (bs ks : List Kind) (c : CallKind) (column : Option ℕ) (s : Sort) → agg_sort (Bag bs ks) c column ≡ Some s → Sums ks (record { kind = c; column = column })
agg_sums bs ks c None s e = λ h. refl
agg_sums bs ks c (Some j) s e = λ h. column_sums ks j (slice_get ks j) refl s (ap (λ d. column_agg d (slice_get ks j)) (sym h) ∙ e)

module _ (bs ks : List Kind) where
  abbrev Fine : PlanExpr → Type 0
  Fine x = (s : Sort) → sort_of (Bag bs ks) x ≡ Some s → AllSum ks (calls x)

  abbrev Layers : Type 0
  Layers = PlanExpr-F ((x : PlanExpr) × Fine x)

  abbrev inner : Layers → PlanExpr-F PlanExpr
  inner y = map-PlanExpr ((x : PlanExpr) × Fine x) PlanExpr (λ e. e.0) y

  one : (test : Sort → Bool) (a : (x : PlanExpr) × Fine x) → has test (sort_of (Bag bs ks) a.0) ≡ true → AllSum ks (calls a.0)
  one test a h = let s = of_has test (sort_of (Bag bs ks) a.0) h in a.1 s.0 s.1

  two : (test : Sort → Bool) (a b : (x : PlanExpr) × Fine x) → (has test (sort_of (Bag bs ks) a.0) && has test (sort_of (Bag bs ks) b.0)) ≡ true → AllSum ks (calls a.0 ++ calls b.0)
  two test a b h =
      let p = both_true (has test (sort_of (Bag bs ks) a.0)) (has test (sort_of (Bag bs ks) b.0)) h in
      all_both (Sums ks) (calls a.0) (calls b.0) (one test a p.0) (one test b p.1)

  alike : (a b : (x : PlanExpr) × Fine x) → are are_alike (sort_of (Bag bs ks) a.0) (sort_of (Bag bs ks) b.0) ≡ true → AllSum ks (calls a.0 ++ calls b.0)
  alike a b h =
      let p = of_are are_alike (sort_of (Bag bs ks) a.0) (sort_of (Bag bs ks) b.0) h in
      all_both (Sums ks) (calls a.0) (calls b.0) (a.1 p.0.0 p.0.1) (b.1 p.1.0 p.1.1)

  call_layer : (y : Layers) (s : Sort) → sort_step (Bag bs ks) (map-PlanExpr PlanExpr (Option Sort) (sort_of (Bag bs ks)) (inner y)) ≡ Some s → AllSum ks (calls_step (map-PlanExpr PlanExpr (List Call) calls (inner y)))
  call_layer (PlanExpr-F.Num n) s e = tt
  call_layer (PlanExpr-F.Lit t) s e = tt
  call_layer (PlanExpr-F.Column j) s e = tt
  call_layer (PlanExpr-F.GroupColumn j) s e = tt
  call_layer (PlanExpr-F.Agg c column) s e = (agg_sums bs ks c column s e, tt)
  call_layer (PlanExpr-F.Neg a) s e = one is_long a (of_when _ _ s e)
  call_layer (PlanExpr-F.Add a b) s e = two is_long a b (of_when _ _ s e)
  call_layer (PlanExpr-F.Sub a b) s e = two is_long a b (of_when _ _ s e)
  call_layer (PlanExpr-F.Mul a b) s e = two is_long a b (of_when _ _ s e)
  call_layer (PlanExpr-F.Compare op a b) s e = alike a b (of_when _ _ s e)
  call_layer (PlanExpr-F.And a b) s e = two is_condition a b (of_when _ _ s e)
  call_layer (PlanExpr-F.Or a b) s e = two is_condition a b (of_when _ _ s e)
  call_layer (PlanExpr-F.Not a) s e = one is_condition a (of_when _ _ s e)
  call_layer (PlanExpr-F.If c a b) s e =
      let p = both_true (has is_condition (sort_of (Bag bs ks) c.0)) (are are_alike (sort_of (Bag bs ks) a.0) (sort_of (Bag bs ks) b.0)) (of_chosen _ (sort_of (Bag bs ks) a.0) s e).0 in
      all_both (Sums ks) (calls c.0) (calls a.0 ++ calls b.0) (one is_condition c p.0) (alike a b p.1)

  call_rolled : (z : PlanExpr-F PlanExpr)
      → ((s : Sort) → sort_step (Bag bs ks) (map-PlanExpr PlanExpr (Option Sort) (sort_of (Bag bs ks)) z) ≡ Some s → AllSum ks (calls_step (map-PlanExpr PlanExpr (List Call) calls z)))
      → Fine (roll-PlanExpr z)
  unfolding sort_of calls
  call_rolled z go s e =
      subst (AllSum ks) (sym (fold-roll-PlanExpr (List Call) calls_step z)) (go s (sym (fold-roll-PlanExpr (Option Sort) (sort_step (Bag bs ks)) z) ∙ e))

  sums : (x : PlanExpr) → Fine x
  sums = ind-PlanExpr Fine (λ x y is. subst (λ z. Fine (roll-PlanExpr z)) is (call_rolled (inner y) (call_layer y)))

  with_sums : (x : PlanExpr) (items : List PlanExpr) → ((hs : List Kind) → item_kinds (Bag bs ks) items ≡ Some hs → AllSum ks (flat_map calls items))
      → (t : Option Sort) (r : Option (List Kind)) (js : List Kind) → sort_of (Bag bs ks) x ≡ t → item_kinds (Bag bs ks) items ≡ r → with_kind t r ≡ Some js → AllSum ks (calls x ++ flat_map calls items)
  with_sums x items rest (Some (Of k)) (Some hs) js a b g = all_both (Sums ks) (calls x) (flat_map calls items) (sums x (Of k) a) (rest hs b)
  with_sums x items rest (Some (Of k)) None js a b g = absurd cc
  with_sums x items rest (Some Condition) r js a b g = absurd cc
  with_sums x items rest None r js a b g = absurd cc

  -- the calls of items
  pub items_sum : (items : List PlanExpr) (js : List Kind) → item_kinds (Bag bs ks) items ≡ Some js → AllSum ks (flat_map calls items)
  items_sum [] js e = tt
  items_sum (x ∷ items) js e = with_sums x items (items_sum items) (sort_of (Bag bs ks) x) (item_kinds (Bag bs ks) items) js refl refl e

-- each once
all_with : (P : Call → Type 0) (cs : List Call) (c : Call) → AllByRecursion P cs → P c → AllByRecursion P (with_call cs c)
all_with P cs c all here = go (list_any (λ d. same_call d c) cs)
  where
    go : (b : Bool) → AllByRecursion P (if b then cs else cs ++ c ∷ [])
    go true = all
    go false = all_both P cs (c ∷ []) all (here, tt)

all_folded : (P : Call → Type 0) (ds cs : List Call) → AllByRecursion P cs → AllByRecursion P ds → AllByRecursion P (fold with_call cs ds)
all_folded P [] cs all more = all
all_folded P (d ∷ ds) cs all more = all_folded P ds (with_call cs d) (all_with P cs d all more.0) more.1

pub all_in : (ks : List Kind) (items : List PlanExpr) → AllSum ks (flat_map calls items) → AllSum ks (calls_in items)
unfolding calls_in
all_in ks items all = all_folded (Sums ks) (flat_map calls items) [] tt all
