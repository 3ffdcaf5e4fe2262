-- The rows of a plan over tables are rows of a table.
use Rattle.std.specs.Prelude.{◌≡◌, ◌⊎◌, ℕ, Bool, true, false, T, ◌&&◌, List, [], ◌∷◌, map, refl}
use Rattle.std.proofs.Common.{ap, sym, ◌∙◌, inl, inr, subst}
use Rattle.std.specs.List.{AllByRecursion, IsDistinct}
use Rattle.std.specs.declared.cmp.Ordering.TheVariants.{Equal}
use Rattle.std.specs.Ordering.{is_lt, eq_by_cmp}
use Rattle.std.proofs.lemmas.Cmp.{tied_itself}
use Rattle.std.specs.FinMap.Entries.{below_all}
use Rattle.nova_value.specs.Order.{key_cmp}
use Rattle.nova_value.specs.Orders.{keys_total, same_keys}
use Rattle.nova_value.specs.Rows.{Shape, FitsRow, key_at}
use Rattle.nova_delta.specs.Merge.{TableValue, IsTable}
use Rattle.nova_delta.specs.Seen.{AreRows}
use Rattle.nova_delta.specs.Listed as delta
use Rattle.nova_delta.specs.Statements.{RowsFit, RowsRise}
use Rattle.nova_pig_algebra.specs.Meaning.{Row}
use Rattle.nova_pig_algebra.specs.Keys.{column_set}
use Rattle.nova_pig_algebra.specs.Plan.{Plan, IsPlan, rows_of}
use Rattle.nova_pig_algebra.specs.Statements.{In, Every, Keyed, AreTables, KeysTellRowsApart}
use Rattle.nova_pig_algebra.proofs.Lists.{apart_within}
use Rattle.nova_pig_algebra.proofs.Sets.{in_with, agree_by, by_agree}
use Rattle.nova_pig_algebra.specs.Statements.{RowsFitTheirKinds}
use Rattle.nova_pig_eval.specs.Stored.{HasOutputKey}

-- ---- each of a list
each_in : (P : Row → Type 0) (xs : List Row) → AllByRecursion P xs → (x : Row) → In x xs → P x
each_in P [] all x i = absurd i
each_in P (y ∷ xs) all x (inl e) = subst P (sym e) all.0
each_in P (y ∷ xs) all x (inr i) = each_in P xs all.1 x i

all_of : (P : Row → Type 0) (xs : List Row) → ((x : Row) → In x xs → P x) → AllByRecursion P xs
all_of P [] h = tt
all_of P (x ∷ xs) h = (h x (inl refl), all_of P xs (λ y i. h y (inr i)))

-- ---- rows whose keys rise have distinct keys
t_first : (a b : Bool) → T (a && b) → T a
t_first true b p = tt
t_first false b p = p

t_second : (a b : Bool) → T (a && b) → T b
t_second true b p = p
t_second false b p = absurd p

less_differs : (k y : Row) → T (is_lt (key_cmp k y)) → k ≡ y → ⊥
less_differs k y h e = let eq : key_cmp k y ≡ Equal = ap (key_cmp k) (sym e) ∙ tied_itself keys_total k in subst (λ o. T (is_lt o)) eq h

below_differ : (key : List ℕ) (k : Row) (xs : List Row) → T (below_all key_cmp k (delta.at_keys (key_at key) xs)) → Every (λ b. k ≡ key_at key b → ⊥) xs
below_differ key k [] h = tt
below_differ key k (x ∷ xs) h = (less_differs k (key_at key x) (t_first _ _ h), below_differ key k xs (t_second (is_lt (key_cmp k (key_at key x))) _ h))

risen_keyed : (s : Shape) (xs : List Row) → T (delta.rows_rise s xs) → Keyed s.key xs
risen_keyed s [] h = tt
risen_keyed s (x ∷ xs) h =
    (below_differ s.key (key_at s.key x) xs (t_first _ _ h), risen_keyed s xs (t_second (below_all key_cmp (key_at s.key x) (delta.at_keys (key_at s.key) xs)) _ h))

abbrev schemas : List TableValue → List Shape
schemas ts = map (λ t. t.schema) ts

tables_are : RowsFit → RowsRise → (ts : List TableValue) → AllByRecursion IsTable ts → AreTables (schemas ts) (map delta.rows_of ts)
tables_are fit rise [] all = tt
tables_are fit rise (t ∷ ts) all = (
  record { fit = λ row i. each_in (FitsRow t.schema) (delta.rows_of t) (fit t all.0) row i; keyed = risen_keyed t.schema (delta.rows_of t) (rise t all.0) },
  tables_are fit rise ts all.1,
)

-- ---- from the set of the key's columns to the key
set_from : (c : ℕ) (ks : List ℕ) → In c (column_set ks) → In c ks
set_from c [] i = i
set_from c (k ∷ ks) i = go (λ j. set_from c ks j) (in_with c k (column_set ks) i)
  where
    go : (In c (column_set ks) → In c ks) → (c ≡ k) ⊎ In c (column_set ks) → In c (k ∷ ks)
    go rest (inl e) = inl e
    go rest (inr j) = inr (rest j)

keyed_by : (key : List ℕ) (xs : List Row) → Keyed (column_set key) xs → Keyed key xs
keyed_by key xs h =
    apart_within (λ a b. key_at (column_set key) a ≡ key_at (column_set key) b → ⊥) (λ a b. key_at key a ≡ key_at key b → ⊥) xs h
    (λ x y i j differ same. differ (by_agree (column_set key) x y (λ c k. agree_by key x y same c (set_from c key k))))

differ : (a b : Row) → (a ≡ b → ⊥) → eq_by_cmp key_cmp a b ≡ false
differ a b h = go (eq_by_cmp key_cmp a b) refl
  where
    go : (t : Bool) → eq_by_cmp key_cmp a b ≡ t → t ≡ false
    go true e = absurd (h ((same_keys a b).0 e))
    go false e = refl

distinct_keys : (key : List ℕ) (xs : List Row) → Keyed key xs → IsDistinct (eq_by_cmp key_cmp) (map (key_at key) xs)
unfolding IsDistinct
distinct_keys key [] h = tt
distinct_keys key (x ∷ xs) h = (others xs h.0, distinct_keys key xs h.1)
  where
    others : (ys : List Row) → Every (λ b. key_at key x ≡ key_at key b → ⊥) ys → AllByRecursion (λ k. eq_by_cmp key_cmp (key_at key x) k ≡ false) (map (key_at key) ys)
    others [] f = tt
    others (y ∷ ys) f = (differ (key_at key x) (key_at key y) f.0, others ys f.1)

pub are_rows : KeysTellRowsApart → RowsFitTheirKinds → RowsFit → RowsRise → (p : Plan) → IsPlan p → HasOutputKey p
    → (ts : List TableValue) → AllByRecursion IsTable ts → schemas ts ≡ p.inputs → AreRows p.output (rows_of p (map delta.rows_of ts))
are_rows tell fit rows_fit rows_rise p is key ts all same =
    let tables = map delta.rows_of ts in
    let are : AreTables p.inputs tables = subst (λ z. AreTables z tables) same (tables_are rows_fit rows_rise ts all) in
    record {
      fit = all_of (FitsRow p.output) (rows_of p tables) (fit p is tables are);
      distinct = distinct_keys p.output.key (rows_of p tables) (keyed_by p.output.key (rows_of p tables) (tell p is.kinded (column_set p.output.key) key tables are));
    }
