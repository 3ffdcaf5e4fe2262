-- The test of a schema.
use Rattle.std.proofs.Common.{◌≡◌, ℕ, zero, suc, ◌<◌, true, false, not, ◌&&◌, nat_lt, nat_le, nat_eq, List, [], ◌∷◌, length, slice_index_or, refl, arith, ap}
use Rattle.std.proofs.lemmas.Bool.{and_parts, and_from, not-true, ltb-true, leb-true, lt-ltb, le-leb}
use Rattle.std.proofs.lemmas.Bool.Decides.{nat_tests}
use Rattle.std.specs.List.{IsDistinct, AllByRecursion}
use Rattle.nova_value.specs.declared.limit.TheConstants.{MAX_COLUMNS, MAX_KEY_COLUMNS}
use Rattle.nova_value.specs.Rows.{Shape, IsShape, is_shape, all_below, none_is, all_distinct}

below : (n : ℕ) (ps : List ℕ) → all_below n ps ≡ true → (i : ℕ) → i < length ps → slice_index_or ps i 0 < n
below n [] h i lt = absurd (omega arith)
below n (p ∷ ps) h zero lt = grind (arith, nat_tests, (and_parts (nat_lt p n) (all_below n ps) h).0)
below n (p ∷ ps) h (suc i) lt = below n ps (and_parts (nat_lt p n) (all_below n ps) h).1 i (omega arith)

differ : (p : ℕ) (ps : List ℕ) → none_is p ps ≡ true → AllByRecursion (λ q. nat_eq p q ≡ false) ps
differ p [] h = tt
differ p (q ∷ qs) h = let parts = and_parts (not (nat_eq p q)) (none_is p qs) h in (not-true (nat_eq p q) parts.0, differ p qs parts.1)

distinct : (ps : List ℕ) → all_distinct ps ≡ true → IsDistinct nat_eq ps
unfolding IsDistinct
distinct [] h = tt
distinct (p ∷ ps) h = (differ p ps (and_parts (none_is p ps) (all_distinct ps) h).0, distinct ps (and_parts (none_is p ps) (all_distinct ps) h).1)

pub shape_from_test : (s : Shape) → is_shape s ≡ true → IsShape s
shape_from_test s h =
    let n = length s.columns in
    let k = length s.key in
    let e = and_parts (nat_lt 0 n && nat_le n MAX_COLUMNS && nat_lt 0 k && nat_le k MAX_KEY_COLUMNS && all_below n s.key) (all_distinct s.key) h in
    let d = and_parts (nat_lt 0 n && nat_le n MAX_COLUMNS && nat_lt 0 k && nat_le k MAX_KEY_COLUMNS) (all_below n s.key) e.0 in
    let c = and_parts (nat_lt 0 n && nat_le n MAX_COLUMNS && nat_lt 0 k) (nat_le k MAX_KEY_COLUMNS) d.0 in
    let b = and_parts (nat_lt 0 n && nat_le n MAX_COLUMNS) (nat_lt 0 k) c.0 in
    let a = and_parts (nat_lt 0 n) (nat_le n MAX_COLUMNS) b.0 in
    record {
      some_column = ltb-true 0 n a.0;
      few_columns = leb-true n MAX_COLUMNS a.1;
      some_key = ltb-true 0 k b.1;
      few_keys = leb-true k MAX_KEY_COLUMNS c.1;
      in_range = below n s.key d.1;
      distinct = distinct s.key e.1;
    }

all_below_from : (n : ℕ) (ps : List ℕ) → ((i : ℕ) → i < length ps → slice_index_or ps i 0 < n) → all_below n ps ≡ true
all_below_from n [] h = refl
all_below_from n (p ∷ ps) h = and_from (nat_lt p n) (all_below n ps) (let first : p < n = h 0 (omega arith) in grind (arith, nat_tests, first)) (all_below_from n ps (λ i lt. h (suc i) (omega arith)))

none_is_from : (p : ℕ) (ps : List ℕ) → AllByRecursion (λ q. nat_eq p q ≡ false) ps → none_is p ps ≡ true
none_is_from p [] h = refl
none_is_from p (q ∷ qs) h = and_from (not (nat_eq p q)) (none_is p qs) (ap not h.0) (none_is_from p qs h.1)

all_distinct_from : (ps : List ℕ) → IsDistinct nat_eq ps → all_distinct ps ≡ true
unfolding IsDistinct
all_distinct_from [] h = refl
all_distinct_from (p ∷ ps) h = and_from (none_is p ps) (all_distinct ps) (none_is_from p ps h.0) (all_distinct_from ps h.1)

pub test_from_shape : (s : Shape) → IsShape s → is_shape s ≡ true
test_from_shape s is =
    and_from _ _ (and_from _ _ (and_from _ _ (and_from _ _ (and_from _ _
    (lt-ltb 0 (length s.columns) is.some_column)
    (le-leb (length s.columns) MAX_COLUMNS is.few_columns))
    (lt-ltb 0 (length s.key) is.some_key))
    (le-leb (length s.key) MAX_KEY_COLUMNS is.few_keys))
    (all_below_from (length s.columns) s.key is.in_range))
    (all_distinct_from s.key is.distinct)
