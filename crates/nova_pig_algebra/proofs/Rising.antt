-- The distinct lists of BY values, and lists without repeats.
use Rattle.std.specs.Prelude.{◌≡◌, ◌⊎◌, Bool, true, false, not, T, ◌&&◌, List, [], ◌∷◌, map, length}
use Rattle.std.proofs.Common.{ap, sym, ◌∙◌, inl, inr, subst, arith}
use Rattle.std.specs.declared.cmp.Ordering.{Ordering}
use Rattle.std.specs.declared.cmp.Ordering.TheVariants.{Less, Equal, Greater}
use Rattle.std.specs.Ordering.{is_lt}
use Rattle.std.proofs.lemmas.Cmp.{tied_itself}
use Rattle.std.specs.FinMap.{FinMap, entries, entries_sorted, entries-insert, from_entries, empty, is_sorted, put, len-empty, len-entries}
use Rattle.std.specs.FinMap.Entries.{below_all, by_order}
use Rattle.nova_value.specs.Order.{key_cmp}
use Rattle.nova_value.specs.Orders.{keys_total, same_keys}
use Rattle.nova_pig_algebra.specs.Meaning.{Row, same_row}
use Rattle.nova_pig_algebra.specs.Tree.{rising, distinct}
use Rattle.nova_pig_algebra.specs.Statements.{In, Every, Apart}
use Rattle.nova_pig_algebra.proofs.Lists.{in_filtered, every_in, every_of, apart_filter}

abbrev Pairs : Type 0
Pairs = List (Row × Row)

abbrev firsts : Pairs → List Row
firsts es = map (λ e. e.0) es

t_first : (a b : Bool) → T (a && b) → T a
t_first true b p = tt
t_first false b p = p

t_second : (a b : Bool) → T (a && b) → T b
t_second true b p = p
t_second false b p = absurd p

less_differs : (k y : Row) → T (is_lt (key_cmp k y)) → k ≡ y → ⊥
less_differs k y h e = let eq : key_cmp k y ≡ Equal = ap (key_cmp k) (sym e) ∙ tied_itself keys_total k in subst (λ o. T (is_lt o)) eq h

below_differ : (k : Row) (es : Pairs) → T (below_all key_cmp k es) → Every (λ y. k ≡ y → ⊥) (firsts es)
below_differ k [] h = tt
below_differ k (e ∷ es) h = (less_differs k e.0 (t_first _ _ h), below_differ k es (t_second (is_lt (key_cmp k e.0)) _ h))

sorted_differ : (es : Pairs) → T (is_sorted key_cmp es) → Apart (λ x y. x ≡ y → ⊥) (firsts es)
sorted_differ [] h = tt
sorted_differ (e ∷ es) h = (below_differ e.0 es (t_first _ _ h), sorted_differ es (t_second (below_all key_cmp e.0 es) _ h))

pub rising_differ : (bys : List Row) → Apart (λ x y. x ≡ y → ⊥) (rising bys)
rising_differ bys = sorted_differ _ (entries_sorted (from_entries {R = key_cmp} (map (λ by. (by, by)) bys)))

in_put : (q k v : Row) (es : Pairs) → In q (firsts (put key_cmp k v es)) → (q ≡ k) ⊎ In q (firsts es)
in_put q k v [] i = i
in_put q k v (e ∷ es) i = step (key_cmp k e.0) (in_put q k v es) i
  where
    past : (q ≡ k) ⊎ In q (firsts es) → (q ≡ k) ⊎ In q (firsts (e ∷ es))
    past (inl a) = inl a
    past (inr b) = inr (inr b)

    step : (o : Ordering) → (In q (firsts (put key_cmp k v es)) → (q ≡ k) ⊎ In q (firsts es))
        → In q (firsts (by_order o ((k, v) ∷ e ∷ es) ((e.0, v) ∷ es) (e ∷ put key_cmp k v es))) → (q ≡ k) ⊎ In q (firsts (e ∷ es))
    step Less go j = j
    step Equal go j = inr j
    step Greater go (inl a) = inr (inl a)
    step Greater go (inr b) = past (go b)

nothing_in : (q : Row) (es : Pairs) → length es ≡ 0 → In q (firsts es) → ⊥
nothing_in q [] e i = i
nothing_in q (x ∷ es) e i = absurd (omega arith)

pub in_rising : (bys : List Row) (q : Row) → In q (rising bys) → In q bys
in_rising [] q i =
    let none : FinMap key_cmp Row = empty in
    nothing_in q (entries none) (sym (len-entries none) ∙ len-empty key_cmp Row) i
in_rising (b ∷ bys) q i =
    let m : FinMap key_cmp Row = from_entries (map (λ by. (by, by)) bys) in
    either (in_rising bys q) (in_put q b b (entries m) (subst (λ es. In q (firsts es)) (entries-insert keys_total m b b) i))
  where
    either : (In q (rising bys) → In q bys) → (q ≡ b) ⊎ In q (rising bys) → In q (b ∷ bys)
    either go (inl e) = inl e
    either go (inr j) = inr (go j)

pub in_distinct : (x : Row) (rows : List Row) → In x (distinct rows) → In x rows
in_distinct x [] i = i
in_distinct x (r ∷ rows) (inl e) = inl e
in_distinct x (r ∷ rows) (inr i) = inr (in_distinct x rows (in_filtered (λ other. not (same_row r other)) x (distinct rows) i).0)

pub distinct_apart : (R : Row → Row → Type 0) (rows : List Row) → Apart R rows → Apart R (distinct rows)
distinct_apart R [] h = tt
distinct_apart R (r ∷ rows) h = (
  every_of (R r) _ (λ x i. every_in (R r) rows x h.0 (in_distinct x rows (in_filtered (λ other. not (same_row r other)) x (distinct rows) i).0)),
  apart_filter R (λ other. not (same_row r other)) (distinct rows) (distinct_apart R rows h.1),
)

not_both : (b : Bool) → b ≡ true → not b ≡ true → ⊥
not_both true e f = cc
not_both false e f = cc

pub distinct_differ : (rows : List Row) → Apart (λ x y. x ≡ y → ⊥) (distinct rows)
distinct_differ [] = tt
distinct_differ (r ∷ rows) = (
  every_of (λ y. r ≡ y → ⊥) _ (λ x i e. not_both (same_row r x) ((same_keys r x).1 e) (in_filtered (λ other. not (same_row r other)) x (distinct rows) i).1),
  apart_filter (λ x y. x ≡ y → ⊥) (λ other. not (same_row r other)) (distinct rows) (distinct_differ rows),
)
