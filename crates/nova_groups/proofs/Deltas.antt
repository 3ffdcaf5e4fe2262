-- The state of a table, when a whole delta is merged into it.
use Rattle.std.proofs.Common.{◌≡◌, suc, ◌+◌, ◌<◌, ◌^◌, length, List, [], ◌∷◌, map, Option, refl, ap, sym, ◌∙◌, arith}
use Rattle.std.specs.Prelude.{T}
use Rattle.std.specs.declared.cmp.Ordering.TheVariants.{Less}
use Rattle.std.specs.Ordering.{is_lt}
use Rattle.std.specs.List.{AllByRecursion}
use Rattle.std.specs.List.Sorted.{IsStrictlySortedBy}
use Rattle.std.specs.Map.{keys_of}
use Rattle.std.specs.FinMap.{FinMap, values, entries, entries_sorted, is_sorted, same_map, get-entries, get-from_entries, len, len-entries}
use Rattle.std.specs.FinMap.Entries.{below_all}
use Rattle.nova_value.specs.declared.value.Value.{Value}
use Rattle.nova_value.specs.declared.schema.Entry.{Entry}
use Rattle.nova_value.specs.Order.{key_cmp}
use Rattle.nova_value.specs.Orders.{exact_keys, keys_total}
use Rattle.nova_delta.specs.Merge.{RowMap, EntryMap, merged}
use Rattle.nova_delta.specs.Seen.{entry_map}
use Rattle.nova_delta.proofs.Conditions.{first, second, less}
use Rattle.nova_delta.specs.Mapped.{mapped}
use Rattle.nova_delta.proofs.Mapped.{get-mapped, values-mapped}
use Rattle.nova_groups.specs.declared.group.Share.{Share}
use Rattle.nova_groups.specs.State.{ShareMap, share_map, shares_of, state_of}
use Rattle.nova_groups.specs.Statements.{StatesFollowDeltas}
use Rattle.nova_groups.proofs.Steps.{get-share_map, state_merged}

length-values : {K X : Type 0} (es : List (K × X)) → length (map (λ (e : K × X). e.1) es) ≡ length es
length-values [] = refl
length-values (e ∷ es) = ap suc (length-values es)

values-length : {X : Type 0} (m : FinMap key_cmp X) → length (values m) ≡ len m
values-length m = length-values (entries m) ∙ sym (len-entries m)

-- there are as many shares as the map of them has
pub shares_counted : (share : List Value → Option Share) (m : RowMap) → length (shares_of share m) ≡ len (share_map share m)
shares_counted share m =
    let same : mapped key_cmp share m ≡ share_map share m = same_map keys_total exact_keys (mapped key_cmp share m) (share_map share m) (λ q. get-mapped key_cmp share keys_total m q ∙ sym (get-share_map share m q)) in
    ap (λ (ss : List Share). length ss) (sym (values-mapped key_cmp share m)) ∙ values-length (mapped key_cmp share m) ∙ ap (λ (n : ShareMap). len n) same

below : (k : List Value) (es : List (List Value × Entry)) → T (below_all key_cmp k es) → AllByRecursion (λ y. key_cmp k y ≡ Less) (keys_of es)
below k [] h = tt
below k (e ∷ es) h = (less (key_cmp k e.0) (first (is_lt (key_cmp k e.0)) (below_all key_cmp k es) h), below k es (second (is_lt (key_cmp k e.0)) (below_all key_cmp k es) h))

-- the entries of a map have rising keys
pub strict : (es : List (List Value × Entry)) → T (is_sorted key_cmp es) → IsStrictlySortedBy key_cmp (keys_of es)
unfolding IsStrictlySortedBy
strict [] h = tt
strict (e ∷ es) h = (below e.0 es (first (below_all key_cmp e.0 es) (is_sorted key_cmp es) h), strict es (second (below_all key_cmp e.0 es) (is_sorted key_cmp es) h))

again : (d : EntryMap) → entry_map (entries d) ≡ d
again d = same_map keys_total exact_keys (entry_map (entries d)) d (λ q. get-from_entries keys_total (entries d) q ∙ sym (get-entries d q))

few : (share : List Value → Option Share) (m : RowMap) (d : EntryMap) → len (share_map share m) + len d < 2 ^ 64 → length (shares_of share m) + length (entries d) < 2 ^ 64
few share m d h = omega (arith, h, shares_counted share m, len-entries d)

pub states_follow_deltas : StatesFollowDeltas
states_follow_deltas share ks m d h =
    state_merged share ks m (entries d) (strict (entries d) (entries_sorted d)) (few share m d h)
    ∙ ap (λ (e : EntryMap). state_of share ks (merged m e)) (again d)
