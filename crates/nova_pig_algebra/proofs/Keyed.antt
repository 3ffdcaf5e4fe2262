-- The rows of a tree have its constants, and no two of them are equal at its key.
use Rattle.std.specs.Prelude.{◌≡◌, ◌⊎◌, ◌+◌, ℕ, zero, suc, Bool, true, false, not, if◌then◌else◌, List, [], ◌∷◌, ◌++◌, map, filter, length, Option, Some, None, refl}
use Rattle.std.proofs.Common.{ap, sym, ◌∙◌, inl, inr, subst, arith, zero-add}
use Rattle.std.specs.Ordering.{eq_by_cmp}
use Rattle.nova_value.specs.declared.value.Value.{Value}
use Rattle.nova_value.specs.Order.{value_cmp}
use Rattle.nova_value.specs.Orders.{same_values, same_keys}
use Rattle.nova_value.specs.Rows.{Shape, value_at, key_at}
use Rattle.nova_pig_algebra.specs.declared.node.PlanExpr.{PlanExpr}
use Rattle.nova_pig_algebra.specs.Meaning.{Row, same_row, value_of, holds, made, no_calls, calls_over}
use Rattle.nova_pig_algebra.specs.Tree.{Tree, Nothing, Load, Filter, Foreach, Grouped, Join, Union, Distinct, Arms, End, Arm, rows, arm_rows, rows_at, rising, members, joined, distinct}
use Rattle.nova_pig_algebra.specs.declared.facts.Facts.{Facts}
use Rattle.nova_pig_algebra.specs.Keys.{with_column, column_set, covers, columns_from, is_column, is_by, item_constants, places_of, constant_at, foreach_key, join_key, in_arms, all_other, are_apart, first_apart, has_key, all_have, and_column, union_key, union_facts, or_all, shape_at, facts, arm_facts}
use Rattle.nova_pig_algebra.specs.Statements.{In, Apart, Keyed, AreRowsOf, AreTables}
use Rattle.nova_pig_algebra.proofs.Lists.{in_left, in_either, in_filtered, in_mapped, in_flattened, apart_filter, apart_within, apart_append, apart_map, apart_flat}
use Rattle.nova_pig_algebra.proofs.Sets.{with_in, set_in, same_set, both_true, covered, in_columns, Agree, Unlike, agree_by, by_agree}
use Rattle.nova_pig_algebra.proofs.Values.{at_either, at_right, same_values_at, HasConstants, width_of, constant_is, none_has, append_has, fit_width}
use Rattle.nova_pig_algebra.proofs.Items.{refers, refers_by, made_agree, made_has}
use Rattle.nova_pig_algebra.proofs.Rising.{rising_differ, in_rising, in_distinct, distinct_apart, distinct_differ}

-- ---- trees whose UNIONs have arms of one width
abbrev pub AreWide : ℕ → List Facts → Type 0
AreWide n [] = Unit {0}
AreWide n (f ∷ fs) = (length f.constants ≡ n) × AreWide n fs

abbrev pub AreOneWidth : List Facts → Type 0
AreOneWidth [] = Unit {0}
AreOneWidth (f ∷ fs) = AreWide (length f.constants) fs

abbrev mutual
  pub IsEven : List Shape → Tree → Type 0
  IsEven inputs Nothing = Unit {0}
  IsEven inputs (Load input) = Unit {0}
  IsEven inputs (Filter from cond) = IsEven inputs from
  IsEven inputs (Foreach from items) = IsEven inputs from
  IsEven inputs (Grouped from columns items) = IsEven inputs from
  IsEven inputs (Join left left_by right right_by) = IsEven inputs left × IsEven inputs right
  IsEven inputs (Union arms) = AreEven inputs arms × AreOneWidth (arm_facts inputs arms)
  IsEven inputs (Distinct from) = IsEven inputs from

  pub AreEven : List Shape → Arms → Type 0
  AreEven inputs End = Unit {0}
  AreEven inputs (Arm arm arms) = IsEven inputs arm × AreEven inputs arms

-- ---- tables
no_rows : {X : Type 0} (R : X → X → Type 0) (xs : List X) → xs ≡ [] → Apart R xs
no_rows R xs e = subst (λ z. Apart R z) (sym e) tt

empty_table : (s : Shape) → AreRowsOf s []
empty_table s = record { fit = λ row i. absurd i; keyed = tt }

table_at : (inputs : List Shape) (tables : List (List Row)) → AreTables inputs tables → (i : ℕ) → AreRowsOf (shape_at inputs i) (rows_at tables i)
table_at [] [] are i = empty_table _
table_at [] (t ∷ tables) are i = absurd are
table_at (s ∷ inputs) [] are i = absurd are
table_at (s ∷ inputs) (t ∷ tables) are zero = are.0
table_at (s ∷ inputs) (t ∷ tables) are (suc i) = table_at inputs tables are.1 i

-- ---- keys of UNION and JOIN
pub record Parts (f : Facts) (fs : List Facts) (key : List ℕ) : Type 0 where
  pub own : List ℕ
  pub column : ℕ
  pub first_key : f.key ≡ Some own
  pub others : all_have own fs ≡ true
  pub apart : are_apart (in_arms column (f ∷ fs)) ≡ true
  pub is : with_column column own ≡ key

first_is_apart : (fs : List Facts) (k n c : ℕ) → first_apart fs k n ≡ Some c → are_apart (in_arms c fs) ≡ true
first_is_apart fs k zero c e = absurd cc
first_is_apart fs k (suc n) c e = step (are_apart (in_arms k fs)) refl e (first_is_apart fs (suc k) n c)
  where
    step : (b : Bool) → are_apart (in_arms k fs) ≡ b → (if b then Some k else first_apart fs (suc k) n) ≡ Some c
        → (first_apart fs (suc k) n ≡ Some c → are_apart (in_arms c fs) ≡ true) → are_apart (in_arms c fs) ≡ true
    step true is f go = let same : k ≡ c = cc in subst (λ z. are_apart (in_arms z fs) ≡ true) same is
    step false is f go = go f

pub union_parts : (f : Facts) (fs : List Facts) (key : List ℕ) → (union_facts (f ∷ fs)).key ≡ Some key → Parts f fs key
union_parts f fs key e = step f.key refl e
  where
    column : (own : List ℕ) → f.key ≡ Some own → all_have own fs ≡ true → (o : Option ℕ) → first_apart (f ∷ fs) 0 (length f.constants) ≡ o → and_column o own ≡ Some key → Parts f fs key
    column own a b None c h = absurd cc
    column own a b (Some k) c h =
        let same : with_column k own ≡ key = cc in
        record { own = own; column = k; first_key = a; others = b; apart = first_is_apart (f ∷ fs) 0 (length f.constants) k c; is = same }

    had : (own : List ℕ) → f.key ≡ Some own → (b : Bool) → all_have own fs ≡ b → (if b then and_column (first_apart (f ∷ fs) 0 (length f.constants)) own else None) ≡ Some key → Parts f fs key
    had own a true b h = column own a b (first_apart (f ∷ fs) 0 (length f.constants)) refl h
    had own a false b h = absurd cc

    step : (o : Option (List ℕ)) → f.key ≡ o → union_key o fs (first_apart (f ∷ fs) 0 (length f.constants)) ≡ Some key → Parts f fs key
    step None a h = absurd cc
    step (Some own) a h = had own a (all_have own fs) refl h

pub data JoinParts (right_by : List ℕ) (width : ℕ) (left right : Option (List ℕ)) (key : List ℕ) : Type 0 where
  Covered : (r : List ℕ) → left ≡ Some key → right ≡ Some r → covers right_by r ≡ true → JoinParts right_by width left right key
  Both : (l r : List ℕ) → left ≡ Some l → right ≡ Some r → l ++ map (λ k. width + k) r ≡ key → JoinParts right_by width left right key

pub join_parts : (right_by : List ℕ) (width : ℕ) (left right : Option (List ℕ)) (key : List ℕ) → join_key right_by width left right ≡ Some key → JoinParts right_by width left right key
join_parts right_by width None right key e = absurd cc
join_parts right_by width (Some l) None key e = absurd cc
join_parts right_by width (Some l) (Some r) key e = step (covers right_by r) refl e
  where
    step : (b : Bool) → covers right_by r ≡ b → (if b then Some l else Some (l ++ map (λ k. width + k) r)) ≡ Some key → JoinParts right_by width (Some l) (Some r) key
    step true is f = let same : l ≡ key = cc in Covered r (ap Some same) refl is
    step false is f = let same : l ++ map (λ k. width + k) r ≡ key = cc in Both l r refl refl same

in_back : {X : Type 0} (x : X) (xs ys : List X) → In x ys → In x (xs ++ ys)
in_back x [] ys h = h
in_back x (y ∷ xs) ys h = inr (in_back x xs ys h)

in_map : {X Y : Type 0} (f : X → Y) (x : X) (xs : List X) → In x xs → In (f x) (map f xs)
in_map f x [] h = absurd h
in_map f x (y ∷ xs) (inl e) = inl (ap f e)
in_map f x (y ∷ xs) (inr h) = inr (in_map f x xs h)

-- pairs that agree at columns have left rows that do
left_agree : (key : List ℕ) (a b c d : Row) → length a ≡ length c → Agree key (a ++ b) (c ++ d) → Agree key a c
left_agree key a b c d e h k i = at_either a b c d k e (h k i)

right_agree : (n : ℕ) (key : List ℕ) (a b c d : Row) → length a ≡ n → length c ≡ n → Agree (map (λ k. n + k) key) (a ++ b) (c ++ d) → Agree key b d
right_agree n key a b c d e f h k i = sym (at_right a b n k e) ∙ h (n + k) (in_map (λ z. n + z) k key i) ∙ at_right c d n k f

pub has_is : (key : List ℕ) (o : Option (List ℕ)) → has_key key o ≡ true → o ≡ Some key
has_is key None e = absurd cc
has_is key (Some other) e = ap Some (same_set other key e)

pub differs : (v w : Value) → not (eq_by_cmp value_cmp v w) ≡ true → v ≡ w → ⊥
differs v w e same = not_both (eq_by_cmp value_cmp v w) ((same_values v w).1 same) e
  where
    not_both : (b : Bool) → b ≡ true → not b ≡ true → ⊥
    not_both true f g = cc
    not_both false f g = cc

either_of : {A B C : Type 0} → (A → C) → (B → C) → A ⊎ B → C
either_of f g (inl a) = f a
either_of f g (inr b) = g b

pub foreach_parts : (items : List PlanExpr) (o : Option (List ℕ)) (key : List ℕ) → foreach_key items o ≡ Some key → (own : List ℕ) × (o ≡ Some own) × (places_of is_column items own ≡ Some key)
foreach_parts items None key e = absurd cc
foreach_parts items (Some own) key e = (own, refl, e)

pub distinct_parts : (all : List ℕ) (o : Option (List ℕ)) (key : List ℕ) → or_all all o ≡ Some key → (o ≡ Some key) ⊎ (all ≡ key)
distinct_parts all None key e = let same : all ≡ key = cc in inr same
distinct_parts all (Some own) key e = inl e

-- a first arm's constant, and the others
pub apart_parts : (o : Option Value) (os : List (Option Value)) → are_apart (o ∷ os) ≡ true → (v : Value) × (o ≡ Some v) × (all_other v os ≡ true) × (are_apart os ≡ true)
apart_parts None os e = absurd cc
apart_parts (Some v) os e = let p = both_true (all_other v os) (are_apart os) e in (v, refl, p.0, p.1)

pub other_parts : (v : Value) (o : Option Value) (os : List (Option Value)) → all_other v (o ∷ os) ≡ true → (w : Value) × (o ≡ Some w) × (not (eq_by_cmp value_cmp v w) ≡ true) × (all_other v os ≡ true)
other_parts v None os e = absurd cc
other_parts v (Some w) os e = let p = both_true (not (eq_by_cmp value_cmp v w)) (all_other v os) e in (w, refl, p.0, p.1)

module _ (left right : List Row) (left_by right_by : List ℕ) where
  abbrev matching : Row → List Row
  matching a = filter (λ b. same_row (key_at left_by a) (key_at right_by b)) right

  matched : (a b : Row) → In b (matching a) → key_at left_by a ≡ key_at right_by b
  matched a b i = (same_keys (key_at left_by a) (key_at right_by b)).0 (in_filtered (λ b. same_row (key_at left_by a) (key_at right_by b)) b right i).1

  -- pairs are apart at a key where those of one left row are, and left rows at columns that the key includes
  pairs_apart : (key own : List ℕ) → ((c : ℕ) → In c own → In c key) → Apart (Unlike own) left → ((x y : Row) → In x left → In y left → length x ≡ length y)
      → ((a : Row) → In a left → Apart (Unlike key) (map (λ b. a ++ b) (matching a))) → Apart (Unlike key) (joined left_by right_by left right)
  pairs_apart key own within apart same each =
      apart_flat (Unlike own) (Unlike key) (λ a. map (λ b. a ++ b) (matching a)) left apart each (λ a c i j differ p q ip iq agree.
      let s = in_mapped (λ b. a ++ b) p (matching a) ip in
      let t = in_mapped (λ b. c ++ b) q (matching c) iq in
      differ (left_agree own a s.0 c t.0 (same a c i j) (λ k z. ap (λ w. value_at w k) (sym s.2) ∙ agree k (within k z) ∙ ap (λ w. value_at w k) t.2)))

  -- where the BY columns on the right include the right key, a left row has one partner
  covered_keyed : (key own : List ℕ) → Apart (Unlike key) left → Apart (Unlike own) right → covers right_by own ≡ true
      → ((x y : Row) → In x left → In y left → length x ≡ length y) → Apart (Unlike key) (joined left_by right_by left right)
  covered_keyed key own apart others cover same = pairs_apart key key (λ c i. i) apart same (λ a i.
      apart_map (Unlike key) (λ b. a ++ b) (matching a) (apart_within (Unlike own) (λ b d. Unlike key (a ++ b) (a ++ d)) (matching a)
      (apart_filter (Unlike own) (λ b. same_row (key_at left_by a) (key_at right_by b)) right others)
      (λ b d ib id differ agree. differ (λ c z. agree_by right_by b d (sym (matched a b ib) ∙ matched a d id) c (covered right_by own cover c z)))))

  both_keyed : (n : ℕ) (l r : List ℕ) → Apart (Unlike l) left → Apart (Unlike r) right → ((x : Row) → In x left → length x ≡ n)
      → Apart (Unlike (l ++ map (λ k. n + k) r)) (joined left_by right_by left right)
  both_keyed n l r apart others wide =
      let key = l ++ map (λ k. n + k) r in
      pairs_apart key l (λ c i. in_left c l (map (λ k. n + k) r) i) apart (λ x y i j. wide x i ∙ sym (wide y j)) (λ a i.
      apart_map (Unlike key) (λ b. a ++ b) (matching a) (apart_within (Unlike r) (λ b d. Unlike key (a ++ b) (a ++ d)) (matching a)
      (apart_filter (Unlike r) (λ b. same_row (key_at left_by a) (key_at right_by b)) right others)
      (λ b d ib id differ agree. differ (right_agree n r a b a d (wide a i) (wide a i) (λ c z. agree c (in_back c l (map (λ k. n + k) r) z))))))

module _ (inputs : List Shape) (tables : List (List Row)) (are : AreTables inputs tables) where
  -- the left and the right row of a pair
  record Pair (left right : List Row) (left_by right_by : List ℕ) (x : Row) : Type 0 where
    a : Row
    b : Row
    in_left : In a left
    in_right : In b right
    matches : key_at left_by a ≡ key_at right_by b
    is : x ≡ a ++ b

  pair_in : (left right : List Row) (left_by right_by : List ℕ) (a x : Row) → In a left
      → In x (map (λ b. a ++ b) (filter (λ b. same_row (key_at left_by a) (key_at right_by b)) right)) → Pair left right left_by right_by x
  pair_in left right left_by right_by a x i j =
      let q = in_mapped (λ b. a ++ b) x (filter (λ b. same_row (key_at left_by a) (key_at right_by b)) right) j in
      let r = in_filtered (λ b. same_row (key_at left_by a) (key_at right_by b)) q.0 right q.1 in
      record { a = a; b = q.0; in_left = i; in_right = r.0; matches = (same_keys (key_at left_by a) (key_at right_by q.0)).0 r.1; is = q.2 }

  pair_of : (left right : List Row) (left_by right_by : List ℕ) (x : Row) → In x (joined left_by right_by left right) → Pair left right left_by right_by x
  pair_of left right left_by right_by x i =
      let p = in_flattened (λ a. map (λ b. a ++ b) (filter (λ b. same_row (key_at left_by a) (key_at right_by b)) right)) x left i in
      pair_in left right left_by right_by p.0 x p.1 p.2

  mutual
    -- each row of a tree has one value per column, and its constants
    pub has_constants : (t : Tree) → IsEven inputs t → (x : Row) → In x (rows t tables) → HasConstants (facts inputs t).constants x
    has_constants Nothing e x i = absurd i
    has_constants (Load k) e x i = none_has (shape_at inputs k).columns x (fit_width (shape_at inputs k).columns x ((table_at inputs tables are k).fit x i))
    has_constants (Filter from cond) e x i = has_constants from e x (in_filtered (λ row. holds cond row no_calls) x (rows from tables) i).0
    has_constants (Foreach from items) e x i =
        let p = in_mapped (λ row. made items row no_calls) x (rows from tables) i in
        subst (λ z. HasConstants (facts inputs (Foreach from items)).constants z) (sym p.2) (made_has (facts inputs from).constants p.0 no_calls (λ k w is. constant_is (facts inputs from).constants p.0 k w (has_constants from e p.0 p.1) is) items)
    has_constants (Grouped from columns items) e x i =
        let p = in_mapped (λ by. made items by (calls_over (members columns (rows from tables) by))) x (rising (map (key_at columns) (rows from tables))) i in
        subst (λ z. HasConstants (item_constants [] items) z) (sym p.2) (made_has [] p.0 (calls_over (members columns (rows from tables) p.0)) (λ k w is. absurd cc) items)
    has_constants (Join left left_by right right_by) e x i =
        let p = pair_of (rows left tables) (rows right tables) left_by right_by x i in
        subst (λ z. HasConstants (facts inputs (Join left left_by right right_by)).constants z) (sym p.is) (append_has (facts inputs left).constants (facts inputs right).constants p.a p.b (has_constants left e.0 p.a p.in_left) (has_constants right e.1 p.b p.in_right))
    has_constants (Union End) e x i = absurd i
    has_constants (Union (Arm arm arms)) e x i = none_has (facts inputs arm).constants x (either_of
        (λ j. width_of (facts inputs arm).constants x (has_constants arm e.0.0 x j))
        (λ j. has_width arms e.0.1 (length (facts inputs arm).constants) e.1 x j)
        (in_either x (rows arm tables) (arm_rows arms tables) i))
    has_constants (Distinct from) e x i = has_constants from e x (in_distinct x (rows from tables) i)

    has_width : (arms : Arms) → AreEven inputs arms → (n : ℕ) → AreWide n (arm_facts inputs arms) → (x : Row) → In x (arm_rows arms tables) → length x ≡ n
    has_width End e n wide x i = absurd i
    has_width (Arm arm arms) e n wide x i = either_of
        (λ j. width_of (facts inputs arm).constants x (has_constants arm e.0 x j) ∙ wide.0)
        (λ j. has_width arms e.1 n wide.1 x j)
        (in_either x (rows arm tables) (arm_rows arms tables) i)

  width : (t : Tree) → IsEven inputs t → (x : Row) → In x (rows t tables) → length x ≡ length (facts inputs t).constants
  width t e x i = width_of (facts inputs t).constants x (has_constants t e x i)

  -- no row of these arms has a value at a column where they all have others
  others : (arms : Arms) → AreEven inputs arms → (v : Value) (c : ℕ) → all_other v (in_arms c (arm_facts inputs arms)) ≡ true → (y : Row) → In y (arm_rows arms tables) → value_at y c ≡ v → ⊥
  others End e v c a y i same = absurd i
  others (Arm arm arms) e v c a y i same =
      let q = other_parts v (constant_at (facts inputs arm).constants c) (in_arms c (arm_facts inputs arms)) a in
      either_of
      (λ j. differs v q.0 q.2 (sym same ∙ constant_is (facts inputs arm).constants y c q.0 (has_constants arm e.0 y j) q.1))
      (λ j. others arms e.1 v c q.3 y j same)
      (in_either y (rows arm tables) (arm_rows arms tables) i)

  -- one arm more, which a constant tells from the others
  with_arm : (arm : Tree) (arms : Arms) → IsEven inputs arm → AreEven inputs arms → (own : List ℕ) (c : ℕ) (v : Value)
      → constant_at (facts inputs arm).constants c ≡ Some v → all_other v (in_arms c (arm_facts inputs arms)) ≡ true
      → Apart (Unlike own) (rows arm tables) → Apart (Unlike (with_column c own)) (arm_rows arms tables) → Apart (Unlike (with_column c own)) (rows arm tables ++ arm_rows arms tables)
  with_arm arm arms e es own c v is other apart rest =
      apart_append (Unlike (with_column c own)) (rows arm tables) (arm_rows arms tables)
      (apart_within (Unlike own) (Unlike (with_column c own)) (rows arm tables) apart (λ x y i j differ agree. differ (λ k z. agree k (with_in k c own (inr z)))))
      rest
      (λ x y i j agree. others arms es v c other y j (sym (agree c (with_in c c own (inl refl))) ∙ constant_is (facts inputs arm).constants x c v (has_constants arm e x i) is))

  load_keyed : (i : ℕ) (key : List ℕ) → column_set (shape_at inputs i).key ≡ key → Apart (Unlike key) (rows_at tables i)
  load_keyed i key is =
      let own = (shape_at inputs i).key in
      apart_within (λ a b. key_at own a ≡ key_at own b → ⊥) (Unlike key) (rows_at tables i) (table_at inputs tables are i).keyed
      (λ a b u w differ agree. differ (by_agree own a b (λ c j. agree c (subst (In c) is (set_in c own j)))))

  grouped_keyed : (from : List Row) (columns : List ℕ) (items : List PlanExpr) (key : List ℕ) → places_of (is_by columns) items columns ≡ Some key
      → Apart (Unlike key) (map (λ by. made items by (calls_over (members columns from by))) (rising (map (key_at columns) from)))
  grouped_keyed from columns items key k =
      apart_map (Unlike key) (λ by. made items by (calls_over (members columns from by))) (rising (map (key_at columns) from))
      (apart_within (λ a b. a ≡ b → ⊥) (λ a b. Unlike key (made items a (calls_over (members columns from a))) (made items b (calls_over (members columns from b)))) (rising (map (key_at columns) from)) (rising_differ (map (key_at columns) from))
      (λ a b i j differ agree.
      let p = in_mapped (key_at columns) a from (in_rising (map (key_at columns) from) a i) in
      let q = in_mapped (key_at columns) b from (in_rising (map (key_at columns) from) b j) in
      let f = calls_over (members columns from a) in
      let g = calls_over (members columns from b) in
      differ (p.2 ∙ by_agree columns p.0 q.0 (made_agree (is_by columns) items columns key k a b p.0 q.0 f g
      (λ n x t. ap (λ z. value_of x z f) p.2 ∙ refers_by columns n x t p.0 f)
      (λ n x t. ap (λ z. value_of x z g) q.2 ∙ refers_by columns n x t q.0 g) agree) ∙ sym q.2)))

  all_keyed : (from : Tree) → IsEven inputs from → Apart (Unlike (columns_from 0 (length (facts inputs from).constants))) (distinct (rows from tables))
  all_keyed from e =
      let n = length (facts inputs from).constants in
      apart_within (λ x y. x ≡ y → ⊥) (Unlike (columns_from 0 n)) (distinct (rows from tables)) (distinct_differ (rows from tables))
      (λ x y i j differ agree.
      let a = width from e x (in_distinct x (rows from tables) i) in
      let b = width from e y (in_distinct y (rows from tables) j) in
      differ (same_values_at x y (a ∙ sym b) (λ k lt. agree k (subst (λ z. In z (columns_from 0 n)) (zero-add k) (in_columns 0 n k (omega arith))))))

  join_keyed : (left right : Tree) (left_by right_by : List ℕ) → IsEven inputs left → (key : List ℕ)
      → ((l : List ℕ) → (facts inputs left).key ≡ Some l → Apart (Unlike l) (rows left tables))
      → ((r : List ℕ) → (facts inputs right).key ≡ Some r → Apart (Unlike r) (rows right tables))
      → JoinParts right_by (length (facts inputs left).constants) (facts inputs left).key (facts inputs right).key key
      → Apart (Unlike key) (joined left_by right_by (rows left tables) (rows right tables))
  join_keyed left right left_by right_by e key apart others (Covered r a b cover) =
      covered_keyed (rows left tables) (rows right tables) left_by right_by key r (apart key a) (others r b) cover (λ x y i j. width left e x i ∙ sym (width left e y j))
  join_keyed left right left_by right_by e key apart others (Both l r a b is) =
      subst (λ z. Apart (Unlike z) (joined left_by right_by (rows left tables) (rows right tables))) is
      (both_keyed (rows left tables) (rows right tables) left_by right_by (length (facts inputs left).constants) l r (apart l a) (others r b) (λ x i. width left e x i))

  mutual
    -- no two rows of a tree agree at its key
    pub keyed_tree : (t : Tree) → IsEven inputs t → (key : List ℕ) → (facts inputs t).key ≡ Some key → Apart (Unlike key) (rows t tables)
    keyed_tree Nothing e key k = tt
    keyed_tree (Load i) e key k = let is : column_set (shape_at inputs i).key ≡ key = cc in load_keyed i key is
    keyed_tree (Filter from cond) e key k = apart_filter (Unlike key) (λ row. holds cond row no_calls) (rows from tables) (keyed_tree from e key k)
    keyed_tree (Foreach from items) e key k =
        let p = foreach_parts items (facts inputs from).key key k in
        apart_map (Unlike key) (λ row. made items row no_calls) (rows from tables)
        (apart_within (Unlike p.0) (λ a b. Unlike key (made items a no_calls) (made items b no_calls)) (rows from tables) (keyed_tree from e p.0 p.1)
        (λ a b i j differ agree. differ (made_agree is_column items p.0 key p.2 a b a b no_calls no_calls (λ n x t. refers n x t a no_calls) (λ n x t. refers n x t b no_calls) agree)))
    keyed_tree (Grouped from columns items) e key k = grouped_keyed (rows from tables) columns items key k
    keyed_tree (Join left left_by right right_by) e key k =
        join_keyed left right left_by right_by e.0 key (λ l is. keyed_tree left e.0 l is) (λ r is. keyed_tree right e.1 r is)
        (join_parts right_by (length (facts inputs left).constants) (facts inputs left).key (facts inputs right).key key k)
    keyed_tree (Union End) e key k = tt
    keyed_tree (Union (Arm arm arms)) e key k =
        let p = union_parts (facts inputs arm) (arm_facts inputs arms) key k in
        let q = apart_parts (constant_at (facts inputs arm).constants p.column) (in_arms p.column (arm_facts inputs arms)) p.apart in
        subst (λ z. Apart (Unlike z) (rows arm tables ++ arm_rows arms tables)) p.is
        (with_arm arm arms e.0.0 e.0.1 p.own p.column q.0 q.1 q.2 (keyed_tree arm e.0.0 p.own p.first_key) (keyed_arms arms e.0.1 p.own p.column p.others q.3))
    keyed_tree (Distinct from) e key k = either_of
        (λ own. distinct_apart (Unlike key) (rows from tables) (keyed_tree from e key own))
        (λ all. subst (λ z. Apart (Unlike z) (distinct (rows from tables))) all (all_keyed from e))
        (distinct_parts (columns_from 0 (length (facts inputs from).constants)) (facts inputs from).key key k)

    keyed_arms : (arms : Arms) → AreEven inputs arms → (own : List ℕ) (c : ℕ) → all_have own (arm_facts inputs arms) ≡ true → are_apart (in_arms c (arm_facts inputs arms)) ≡ true
        → Apart (Unlike (with_column c own)) (arm_rows arms tables)
    keyed_arms End e own c h a = tt
    keyed_arms (Arm arm arms) e own c h a =
        let p = both_true (has_key own (facts inputs arm).key) (all_have own (arm_facts inputs arms)) h in
        let q = apart_parts (constant_at (facts inputs arm).constants c) (in_arms c (arm_facts inputs arms)) a in
        with_arm arm arms e.0 e.1 own c q.0 q.1 q.2 (keyed_tree arm e.0 own (has_is own (facts inputs arm).key p.0)) (keyed_arms arms e.1 own c p.1 q.3)

  pub keyed_at : (t : Tree) → IsEven inputs t → (key : List ℕ) → (facts inputs t).key ≡ Some key → Keyed key (rows t tables)
  keyed_at t e key k = apart_within (Unlike key) (λ a b. key_at key a ≡ key_at key b → ⊥) (rows t tables) (keyed_tree t e key k) (λ a b i j differ same. differ (agree_by key a b same))
