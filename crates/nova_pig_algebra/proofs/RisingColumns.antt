-- The key of a node is a rising list of its columns.
use Rattle.std.specs.Prelude.{◌≡◌, ◌<◌, ◌≤◌, ℕ, zero, suc, ◌+◌, ◌==◌, nat_lt, Bool, true, false, if◌then◌else◌, List, [], ◌∷◌, ◌++◌, map, length, slice_index_or, Option, Some, None, refl}
use Rattle.std.proofs.Common.{sym, subst, arith, length-append}
use Rattle.std.proofs.lemmas.Bool.{ltb-true, ltb-false, eqb-false}
use Rattle.std.proofs.lemmas.List.{length-map}
use Rattle.nova_value.specs.declared.value.Value.{Value}
use Rattle.nova_value.specs.Rows.{Shape, IsShape}
use Rattle.nova_pig_algebra.specs.declared.node.PlanExpr.{PlanExpr}
use Rattle.nova_pig_algebra.specs.declared.facts.Facts.{Facts}
use Rattle.nova_pig_algebra.specs.Tree.{Tree, Nothing, Load, Filter, Foreach, Grouped, Join, Union, Distinct, End, Arm, tree_at, trees}
use Rattle.nova_pig_algebra.specs.Keys.{with_column, column_set, columns_from, Plain, plain, is_column, is_by, place_from, places_of, item_constant, unknowns, foreach_key, all_have, and_column, union_key, first_apart, in_arms, are_apart, or_all, shape_at, facts, arm_facts}
use Rattle.nova_pig_algebra.specs.Statements.{Every, RisingColumns, KeysRise}
use Rattle.nova_pig_algebra.proofs.Items.{both_of}
use Rattle.nova_pig_algebra.proofs.Keyed.{JoinParts, Covered, Both, join_parts}

-- ---- lists
above : (j c : ℕ) → j ≤ c → (c == j) ≡ false → j < c
above j c h e = step (nat_lt j c) refl
  where
    step : (b : Bool) → nat_lt j c ≡ b → j < c
    step true is = ltb-true j c is
    step false is = let le = ltb-false j c is in let same : c ≡ j = omega (arith, h, le) in absurd (eqb-false c j e same)

with_rises : (n c a : ℕ) (ks : List ℕ) → a ≤ c → c < n → RisingColumns a n ks → RisingColumns a n (with_column c ks)
with_rises n c a [] h l r = (h, l, tt)
with_rises n c a (j ∷ js) h l r = by_less (λ up. with_rises n c (suc j) js (omega (arith, up)) l r.2) (nat_lt c j) refl (c == j) refl
  where
    by_less : (j < c → RisingColumns (suc j) n (with_column c js)) → (x : Bool) → nat_lt c j ≡ x → (y : Bool) → (c == j) ≡ y
        → RisingColumns a n (if x then c ∷ j ∷ js else (if y then j ∷ js else j ∷ with_column c js))
    by_less go true is y same = let up = ltb-true c j is in (h, l, (omega (arith, up), r.1, r.2))
    by_less go false is true same = r
    by_less go false is false same = (r.0, r.1, go (above j c (ltb-false c j is) same))

from_lower : (a b n : ℕ) (ks : List ℕ) → a ≤ b → RisingColumns b n ks → RisingColumns a n ks
from_lower a b n [] h r = tt
from_lower a b n (k ∷ ks) h r = let low = r.0 in (omega (arith, h, low), r.1, r.2)

within : (a m n : ℕ) (ks : List ℕ) → m ≤ n → RisingColumns a m ks → RisingColumns a n ks
within a m n [] h r = tt
within a m n (k ∷ ks) h r = let up = r.1 in (r.0, omega (arith, h, up), within (suc k) m n ks h r.2)

moved_rise : (w a n : ℕ) (ks : List ℕ) → RisingColumns a n ks → RisingColumns (w + a) (w + n) (map (λ k. w + k) ks)
moved_rise w a n [] r = tt
moved_rise w a n (k ∷ ks) r =
    let low = r.0 in
    let up = r.1 in
    let next : w + suc k ≡ suc (w + k) = omega arith in
    (omega (arith, low), omega (arith, up), subst (λ z. RisingColumns z (w + n) (map (λ j. w + j) ks)) next (moved_rise w (suc k) n ks r.2))

both_rise : (a m n : ℕ) (ks js : List ℕ) → a ≤ m → m ≤ n → RisingColumns a m ks → RisingColumns m n js → RisingColumns a n (ks ++ js)
both_rise a m n [] js l h r s = from_lower a m n js l s
both_rise a m n (k ∷ ks) js l h r s = let up = r.1 in (r.0, omega (arith, h, up), both_rise (suc k) m n ks js (omega (arith, up)) h r.2 s)

columns_rise : (a n m : ℕ) → a + n ≤ m → RisingColumns a m (columns_from a n)
columns_rise a zero m h = tt
columns_rise a (suc n) m h = (omega arith, omega (arith, h), columns_rise (suc a) n m (omega (arith, h)))

set_rises : (n : ℕ) (ks : List ℕ) → ((i : ℕ) → i < length ks → slice_index_or ks i 0 < n) → RisingColumns 0 n (column_set ks)
set_rises n [] h = tt
set_rises n (k ∷ ks) h = with_rises n k 0 (column_set ks) (omega arith) (h 0 (omega arith)) (set_rises n ks (λ i l. h (suc i) (omega (arith, l))))

unknown_count : (n : ℕ) → length (unknowns n) ≡ n
unknown_count zero = refl
unknown_count (suc n) = let rest = unknown_count n in omega (arith, rest)

-- ---- operators
place_in : (test : Plain → Bool) (n : ℕ) (items : List PlanExpr) (p : ℕ) → place_from test n items ≡ Some p → p < n + length items
place_in test n [] p e = absurd cc
place_in test n (x ∷ items) p e = step (test (plain x)) e (place_in test (suc n) items p)
  where
    step : (b : Bool) → (if b then Some n else place_from test (suc n) items) ≡ Some p → (place_from test (suc n) items ≡ Some p → p < suc n + length items) → p < n + length (x ∷ items)
    step true h go = let same : n ≡ p = cc in omega (arith, same)
    step false h go = let r = go h in omega (arith, r)

places_rise : (test : ℕ → Plain → Bool) (items : List PlanExpr) (key places : List ℕ) → places_of test items key ≡ Some places → RisingColumns 0 (length items) places
places_rise test items [] places e = let is : [] ≡ places = cc in subst (RisingColumns 0 (length items)) is tt
places_rise test items (k ∷ key) places e =
    let b = both_of test items k key places e in
    let up = place_in (test k) 0 items b.0 b.2 in
    subst (RisingColumns 0 (length items)) b.4 (with_rises (length items) b.0 0 b.1 (omega arith) (omega (arith, up)) (places_rise test items key b.1 b.3))

foreach_rises : (items : List PlanExpr) (own : Option (List ℕ)) (key : List ℕ) → foreach_key items own ≡ Some key → RisingColumns 0 (length items) key
foreach_rises items None key e = absurd cc
foreach_rises items (Some own) key e = places_rise is_column items own key e

made_rises : (cs : List (Option Value)) (items : List PlanExpr) (key : List ℕ) → RisingColumns 0 (length items) key → RisingColumns 0 (length (map (λ e. item_constant cs (plain e)) items)) key
made_rises cs items key r = subst (λ n. RisingColumns 0 n key) (sym (length-map items (λ e. item_constant cs (plain e)))) r

apart_in : (fs : List Facts) (k n c : ℕ) → first_apart fs k n ≡ Some c → c < k + n
apart_in fs k zero c e = absurd cc
apart_in fs k (suc n) c e = step (are_apart (in_arms k fs)) e (apart_in fs (suc k) n c)
  where
    step : (b : Bool) → (if b then Some k else first_apart fs (suc k) n) ≡ Some c → (first_apart fs (suc k) n ≡ Some c → c < suc k + n) → c < k + suc n
    step true h go = let same : k ≡ c = cc in omega (arith, same)
    step false h go = let r = go h in omega (arith, r)

union_rises : (n : ℕ) (own : Option (List ℕ)) (fs : List Facts) (apart : Option ℕ) (key : List ℕ) → ((c : ℕ) → apart ≡ Some c → c < n)
    → ((k : List ℕ) → own ≡ Some k → RisingColumns 0 n k) → union_key own fs apart ≡ Some key → RisingColumns 0 n key
union_rises n None fs apart key low rise e = absurd cc
union_rises n (Some own) fs apart key low rise e = step (all_have own fs) apart low e
  where
    step : (b : Bool) (o : Option ℕ) → ((c : ℕ) → o ≡ Some c → c < n) → (if b then and_column o own else None) ≡ Some key → RisingColumns 0 n key
    step true (Some c) l f = let is : with_column c own ≡ key = cc in subst (RisingColumns 0 n) is (with_rises n c 0 own (omega arith) (l c refl) (rise own refl))
    step true None l f = absurd cc
    step false o l f = absurd cc

distinct_rises : (n : ℕ) (own : Option (List ℕ)) (key : List ℕ) → ((k : List ℕ) → own ≡ Some k → RisingColumns 0 n k) → or_all (columns_from 0 n) own ≡ Some key → RisingColumns 0 n key
distinct_rises n None key rise e = let is : columns_from 0 n ≡ key = cc in subst (RisingColumns 0 n) is (columns_rise 0 n n (omega arith))
distinct_rises n (Some own) key rise e = rise key e

join_rises : (right_by : List ℕ) (w m : ℕ) (left right : Option (List ℕ)) (key : List ℕ) → ((k : List ℕ) → left ≡ Some k → RisingColumns 0 w k) → ((k : List ℕ) → right ≡ Some k → RisingColumns 0 m k)
    → JoinParts right_by w left right key → RisingColumns 0 (w + m) key
join_rises right_by w m left right key rise other (Covered r a b cover) = within 0 w (w + m) key (omega arith) (rise key a)
join_rises right_by w m left right key rise other (Both l r a b is) =
    let from : w + 0 ≡ w = omega arith in
    let moved = subst (λ z. RisingColumns z (w + m) (map (λ k. w + k) r)) from (moved_rise w 0 m r (other r b)) in
    subst (RisingColumns 0 (w + m)) is (both_rise 0 w (w + m) l (map (λ k. w + k) r) (omega arith) (omega arith) (rise l a) moved)

module _ (inputs : List Shape) where
  load_rises : Every IsShape inputs → (i : ℕ) → RisingColumns 0 (length (shape_at inputs i).columns) (column_set (shape_at inputs i).key)
  load_rises h i = at inputs h i
    where
      at : (ss : List Shape) → Every IsShape ss → (i : ℕ) → RisingColumns 0 (length (shape_at ss i).columns) (column_set (shape_at ss i).key)
      at [] h i = tt
      at (s ∷ ss) h zero = set_rises (length s.columns) s.key h.0.in_range
      at (s ∷ ss) h (suc i) = at ss h.1 i

  tree_rises : Every IsShape inputs → (t : Tree) (key : List ℕ) → (facts inputs t).key ≡ Some key → RisingColumns 0 (length (facts inputs t).constants) key
  tree_rises h Nothing key e = absurd cc
  tree_rises h (Load i) key e =
      let is : column_set (shape_at inputs i).key ≡ key = cc in
      subst (λ n. RisingColumns 0 n key) (sym (unknown_count (length (shape_at inputs i).columns))) (subst (RisingColumns 0 (length (shape_at inputs i).columns)) is (load_rises h i))
  tree_rises h (Filter from cond) key e = tree_rises h from key e
  tree_rises h (Foreach from items) key e = made_rises (facts inputs from).constants items key (foreach_rises items (facts inputs from).key key e)
  tree_rises h (Grouped from columns items) key e = made_rises [] items key (places_rise (is_by columns) items columns key e)
  tree_rises h (Join left left_by right right_by) key e =
      let w = length (facts inputs left).constants in
      let m = length (facts inputs right).constants in
      subst (λ n. RisingColumns 0 n key) (sym (length-append (facts inputs left).constants (facts inputs right).constants))
      (join_rises right_by w m (facts inputs left).key (facts inputs right).key key (λ k is. tree_rises h left k is) (λ k is. tree_rises h right k is)
      (join_parts right_by w (facts inputs left).key (facts inputs right).key key e))
  tree_rises h (Union End) key e = absurd cc
  tree_rises h (Union (Arm arm arms)) key e =
      let f = facts inputs arm in
      let fs = arm_facts inputs arms in
      let n = length f.constants in
      subst (λ z. RisingColumns 0 z key) (sym (unknown_count n))
      (union_rises n f.key fs (first_apart (f ∷ fs) 0 n) key (λ c is. let r = apart_in (f ∷ fs) 0 n c is in omega (arith, r)) (λ k is. tree_rises h arm k is) e)
  tree_rises h (Distinct from) key e = distinct_rises (length (facts inputs from).constants) (facts inputs from).key key (λ k is. tree_rises h from k is) e

pub keys_rise : KeysRise
keys_rise p h k key e = tree_rises p.inputs h (tree_at (trees p.nodes) k) key e
