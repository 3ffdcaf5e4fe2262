-- Entries whose keys rise.
use Rattle.std.proofs.Common.{◌≡◌, ℕ, zero, suc, ◌+◌, ◌-◌, ◌<◌, ◌≤◌, pos, slice_index_or, slice_get, Bool, true, false, cond, List, [], ◌∷◌, ◌++◌, length, drop, get_or, Option, Some, None, refl, ap, sym, subst, ◌∙◌, arith, add-one, drop-cons}
use Rattle.std.specs.Prelude.{T, ◌&&◌}
use Rattle.std.specs.List.{AllByRecursion}
use Rattle.std.specs.declared.cmp.Ordering.{Ordering}
use Rattle.std.specs.declared.cmp.Ordering.TheVariants.{Less, Equal, Greater}
use Rattle.std.specs.Ordering.{eq_by_cmp, is_eq, is_lt, ordering_then}
use Rattle.std.specs.Cmp.{Equal-is, eq_by_cmp_equiv}
use Rattle.nova_delta.proofs.InTurn.{later_cond}
use Rattle.nova_delta.proofs.Merging.{later_none}
use Rattle.nova_delta.proofs.Conditions.{first, second, less}
use Rattle.std.specs.Map.{lookup, update_all, update}
use Rattle.std.specs.BTreeMap.{is_at}
use Rattle.std.specs.FinMap.{is_sorted}
use Rattle.std.specs.FinMap.Entries.{below_all}
use Rattle.nova_value.specs.declared.value.Value.{Value}
use Rattle.nova_value.specs.declared.schema.Entry.{Entry}
use Rattle.nova_value.specs.Order.{value_cmp, key_cmp}
use Rattle.nova_value.specs.Orders.{keys_total, exact_keys}
use Rattle.std.proofs.lemmas.List.{length-map, get_or-map, get_or_default}
use Rattle.nova_value.specs.declared.value.Value.TheVariants.{Long}
use Rattle.nova_value.specs.declared.value.Kind.{Kind}
use Rattle.nova_value.specs.declared.value.Kind.TheVariants as kind
use Rattle.nova_value.specs.declared.schema.Entry.TheVariants.{Put, Removal}
use Rattle.nova_value.specs.Rows.{Shape, FitKinds, FitsRow, kinds, key_kinds, key_at, value_at}
use Rattle.nova_value.specs.declared.schema.Column.{Column}
use Rattle.nova_value.specs.Entries.{FitsEntry, entry_key}
use Rattle.nova_delta.specs.Merge.{IsDelta, later}
use Rattle.nova_delta.specs.ActionLaws.{same_entries}
use Rattle.nova_delta.specs.Listed.{at_keys, rises, delta_of}
use Rattle.nova_delta.specs.Seen.{entry_map}
use Rattle.nova_delta.proofs.OrderedMap.{get-seen}

-- ---- a map of pairs that rise

past : (q k : List Value) (es : List (List Value × Entry)) → eq_by_cmp key_cmp q k ≡ true → T (below_all key_cmp k es) → lookup (is_at (key_cmp q)) es ≡ None
past q k [] ties h = refl
past q k (e ∷ es) ties h = ap (λ o. cond (is_eq o) (Some e.1) (lookup (is_at (key_cmp q)) es)) (keys_total.congr q k e.0 ((Equal-is _).0 ties) ∙ less _ (first _ _ h)) ∙ past q k es ties (second _ _ h)

-- each of them is the only one of its key
updated : (es : List (List Value × Entry)) (f : List Value → Option Entry) → T (is_sorted key_cmp es) → (q : List Value) → update_all (eq_by_cmp key_cmp) f es q ≡ later (lookup (is_at (key_cmp q)) es) (f q)
updated [] f h q = refl
updated (e ∷ es) f h q =
    updated es (update (eq_by_cmp key_cmp) f e.0 (Some e.1)) (second _ _ h) q
    ∙ ap (λ b. later (lookup (is_at (key_cmp q)) es) (cond b (Some e.1) (f q))) ((eq_by_cmp_equiv keys_total).symm e.0 q)
    ∙ later_cond (eq_by_cmp key_cmp q e.0) e.1 (lookup (is_at (key_cmp q)) es) (f q) (λ ties. past q e.0 es ties (first _ _ h))

-- pairs that rise make the map that setting them in turn makes
pub map_of_rising : (es fs : List (List Value × Entry)) → T (is_sorted key_cmp es) → ((q : List Value) → lookup (is_at (key_cmp q)) fs ≡ update_all (eq_by_cmp key_cmp) (λ _. None) es q) → entry_map fs ≡ entry_map es
map_of_rising es fs h is = same_entries _ _ (λ q. get-seen keys_total fs q ∙ is q ∙ updated es (λ _. None) h q ∙ later_none _ ∙ sym (get-seen keys_total es q))

-- ---- one entry more

-- the last of some entries
abbrev pub last_of : Entry → List Entry → Entry
last_of d [] = d
last_of d (e ∷ es) = last_of e es

-- the entry at the last place is the last
pub last_is : (d e : Entry) (es : List Entry) → get_or (d ∷ es) (length es) e ≡ last_of d es
last_is d e [] = refl
last_is d e (f ∷ es) = last_is f e es

module _ (s : Shape) (e : Entry) where
  abbrev key : Entry → List Value
  key f = entry_key s f

  -- what is below all of some entries is below what is above their last
  reaches : (k : List Value) (d : Entry) (es : List Entry) → T (below_all key_cmp k (at_keys (entry_key s) (d ∷ es))) → T (is_lt (key_cmp (key (last_of d es)) (key e))) → T (is_lt (key_cmp k (key e)))
  reaches k d [] h lt = subst (λ o. T (is_lt o)) (sym (keys_total.trans k (key d) (key e) (less _ (first _ _ h)) (less _ lt))) tt
  reaches k d (f ∷ es) h lt = reaches k f es (second _ _ h) lt

  below_more : (k : List Value) (es : List Entry) → below_all key_cmp k (at_keys (entry_key s) (es ++ e ∷ [])) ≡ (below_all key_cmp k (at_keys (entry_key s) es) && is_lt (key_cmp k (key e)))
  below_more k [] = one (is_lt (key_cmp k (key e)))
    where
      one : (b : Bool) → (b && true) ≡ b
      one true = refl
      one false = refl
  below_more k (f ∷ es) = elim (is_lt (key_cmp k (key f))) as (λ b. (b && below_all key_cmp k (at_keys (entry_key s) (es ++ e ∷ []))) ≡ ((b && below_all key_cmp k (at_keys (entry_key s) es)) && is_lt (key_cmp k (key e)))) [ true ↦ below_more k es | false ↦ refl ]

  -- entries that rise still rise with one more exactly where its key is above the last one's
  pub rises_more : (d : Entry) (es : List Entry) → T (rises s (d ∷ es)) → rises s ((d ∷ es) ++ e ∷ []) ≡ is_lt (key_cmp (key (last_of d es)) (key e))
  rises_more d [] h = one (is_lt (key_cmp (key d) (key e)))
    where
      one : (b : Bool) → ((b && true) && true) ≡ b
      one true = refl
      one false = refl
  rises_more d (f ∷ es) h =
      ap (λ b. below_all key_cmp (key d) (at_keys (entry_key s) ((f ∷ es) ++ e ∷ [])) && b) (rises_more f es (second _ _ h))
      ∙ ap (λ b. b && is_lt (key_cmp (key (last_of f es)) (key e))) (below_more (key d) (f ∷ es))
      ∙ both _ _ _ (first _ _ h) (reaches (key d) f es (first _ _ h))
    where
      both : (a b c : Bool) → T a → (T c → T b) → ((a && b) && c) ≡ c
      both true true c p q = refl
      both true false true p q = absurd (q tt)
      both true false false p q = refl
      both false b c p q = absurd p

-- ---- the order of two keys, value by value

-- where values at a place are equal, the values after it decide
pub then_equal : (i : ℕ) (xs ys : List Value) (d : Value) → i < length xs → i < length ys → value_cmp (get_or xs i d) (get_or ys i d) ≡ Equal → key_cmp (drop i xs) (drop i ys) ≡ key_cmp (drop (i + 1) xs) (drop (i + 1) ys)
then_equal i xs ys d in_xs in_ys same =
    ap (λ (zs : List Value). key_cmp zs (drop i ys)) (drop-cons xs i d in_xs) ∙ ap (key_cmp (get_or xs i d ∷ drop (suc i) xs)) (drop-cons ys i d in_ys)
    ∙ ap (λ o. ordering_then o (key_cmp (drop (suc i) xs) (drop (suc i) ys))) same
    ∙ ap (λ (j : ℕ). key_cmp (drop j xs) (drop j ys)) (sym (add-one i))

-- where they are not, they decide
pub then_decided : (o : Ordering) (i : ℕ) (xs ys : List Value) (d : Value) → i < length xs → i < length ys → value_cmp (get_or xs i d) (get_or ys i d) ≡ o → (o ≡ Equal → ⊥) → key_cmp (drop i xs) (drop i ys) ≡ o
then_decided o i xs ys d in_xs in_ys is isnt =
    ap (λ (zs : List Value). key_cmp zs (drop i ys)) (drop-cons xs i d in_xs) ∙ ap (key_cmp (get_or xs i d ∷ drop (suc i) xs)) (drop-cons ys i d in_ys)
    ∙ ap (λ o. ordering_then o (key_cmp (drop (suc i) xs) (drop (suc i) ys))) is
    ∙ decided o isnt (key_cmp (drop (suc i) xs) (drop (suc i) ys))
  where
    decided : (o : Ordering) → (o ≡ Equal → ⊥) → (p : Ordering) → ordering_then o p ≡ o
    decided Less h p = refl
    decided Equal h p = absurd (h refl)
    decided Greater h p = refl

-- ---- how many values a key has

-- values that fit are as many as the kinds
pub length_fit : (ks : List Kind) (vs : List Value) → FitKinds ks vs → length vs ≡ length ks
length_fit [] [] h = refl
length_fit [] (v ∷ vs) h = absurd h
length_fit (k ∷ ks) [] h = absurd h
length_fit (k ∷ ks) (v ∷ vs) h = ap suc (length_fit ks vs h.1)

-- a row has a value for each column, and a key one for each place
pub length_row : (s : Shape) (row : List Value) → FitsRow s row → length row ≡ length s.columns
length_row s row h = length_fit (kinds s.columns) row h ∙ length-map s.columns (λ (c : Column). c.kind)

pub length_key : (s : Shape) (e : Entry) → FitsEntry s e → length (entry_key s e) ≡ length s.key
length_key s (Put row) h = length-map s.key (value_at row)
length_key s (Removal key) h = length_fit (key_kinds s) key h ∙ length-map s.key (λ p. slice_index_or (kinds s.columns) p kind.Long)

-- a value of the key of a row is the one at its place
pub key_value_put : (s : Shape) (row : List Value) (i : ℕ) (v : Value) → i < length s.key → slice_index_or s.key i 0 < length row → v ≡ get_or row (slice_index_or s.key i 0) v → v ≡ get_or (key_at s.key row) i (Long (pos 0))
key_value_put s row i v within in_row is = is ∙ get_or_default row (slice_index_or s.key i 0) v (Long (pos 0)) in_row ∙ sym (get_or-map (value_at row) s.key i 0 (Long (pos 0)) within)

drop_past : {A : Type 0} (i : ℕ) (xs : List A) → length xs ≤ i → drop i xs ≡ []
drop_past zero [] h = refl
drop_past zero (x ∷ xs) h = absurd (omega arith)
drop_past (suc i) [] h = refl
drop_past (suc i) (x ∷ xs) h = drop_past i xs (omega arith)

-- where both have no value left they are equal
pub ends_equal : (i : ℕ) (xs ys : List Value) → length xs ≤ i → length ys ≤ i → key_cmp (drop i xs) (drop i ys) ≡ Equal
ends_equal i xs ys h g = ap (λ (zs : List Value). key_cmp zs (drop i ys)) (drop_past i xs h) ∙ ap (key_cmp []) (drop_past i ys g)

-- ---- the last entry, as the code finds it

last_get : (d : Entry) (es : List Entry) → slice_get (d ∷ es) (length es) ≡ Some (last_of d es)
last_get d [] = refl
last_get d (e ∷ es) = last_get e es

-- entries that rise still rise with one more exactly where its key is above that of the last
pub above_last : (s : Shape) (es : List Entry) (e last : Entry) → T (rises s es) → Some last ≡ slice_get es (length es - 1) → rises s (es ++ e ∷ []) ≡ is_lt (key_cmp (entry_key s last) (entry_key s e))
above_last s [] e last h is = absurd cc
above_last s (d ∷ es) e last h is =
    let n : length (d ∷ es) - 1 ≡ length es = omega arith in
    let found : Some last ≡ Some (last_of d es) = is ∙ ap (slice_get (d ∷ es)) n ∙ last_get d es in
    let same : last_of d es ≡ last = cc in
    rises_more s e d es h ∙ ap (λ (f : Entry). is_lt (key_cmp (entry_key s f) (entry_key s e))) same

-- ---- the delta of entries that rise

found : (s : Shape) (es : List Entry) → AllByRecursion (FitsEntry s) es → (q : List Value) (e : Entry) → lookup (is_at (key_cmp q)) (at_keys (entry_key s) es) ≡ Some e → FitsEntry s e × (entry_key s e ≡ q)
found s [] fit q e is = cc
found s (x ∷ xs) fit q e is =
    elim (eq_by_cmp key_cmp q (entry_key s x)) as (λ b. eq_by_cmp key_cmp q (entry_key s x) ≡ b → cond b (Some x) (lookup (is_at (key_cmp q)) (at_keys (entry_key s) xs)) ≡ Some e → FitsEntry s e × (entry_key s e ≡ q)) [
      | true ↦ λ ties is.
          let same : x ≡ e = cc in
          subst (λ (y : Entry). FitsEntry s y × (entry_key s y ≡ q)) same (fit.0, sym (exact_keys q (entry_key s x) ((Equal-is _).0 ties)))
      | false ↦ λ apart is. found s xs fit.1 q e is
    ] refl is

-- entries that fit make a delta
pub rising_delta : (s : Shape) (es : List Entry) → AllByRecursion (FitsEntry s) es → IsDelta (delta_of s es)
rising_delta s es fit = record { each = λ k e got. found s es fit k e (sym (get-seen keys_total (at_keys (entry_key s) es) k) ∙ got) }
