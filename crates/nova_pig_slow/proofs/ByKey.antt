-- A map of lists of values, each at itself.
use Rattle.std.proofs.Common.{◌≡◌, cond, List, ◌∷◌, map, Some, ap, sym, ◌∙◌}
use Rattle.std.specs.FinMap.{from_entries, get-from_entries, get-insert, insert, keys, same_map}
use Rattle.std.specs.List.Sorted.{IsStrictlySortedBy}
use Rattle.std.specs.Map.{keys_of, lookup}
use Rattle.std.specs.BTreeMap.{is_at}
use Rattle.std.specs.Ordering.{eq_by_cmp}
use Rattle.nova_value.specs.declared.value.Value.{Value}
use Rattle.nova_value.specs.Order.{key_cmp}
use Rattle.nova_value.specs.Orders.{exact_keys, keys_total}
use Rattle.nova_delta.proofs.OrderedMap.{entries-seen, insert-seen}

abbrev By : Type 0
By = List Value

in_front : (es : List (By × By)) (k v : By) → from_entries {R = key_cmp} ((k, v) ∷ es) ≡ insert (from_entries es) k v
in_front es k v = same_map keys_total exact_keys _ _ (λ q.
    get-from_entries keys_total ((k, v) ∷ es) q
    ∙ sym (get-insert keys_total (from_entries es) k v q ∙ ap (cond (eq_by_cmp key_cmp q k) (Some v)) (get-from_entries keys_total es q)))

-- a map with one more, where it was that of the lists behind
pub one_more_list : (old new : List (By × By)) (key by : By) (bys : List By) → key ≡ by
    → ((q : By) → lookup (is_at (key_cmp q)) new ≡ cond (is_at (key_cmp key) q) (Some by) (lookup (is_at (key_cmp q)) old))
    → from_entries {R = key_cmp} old ≡ from_entries (map (λ (b : By). (b, b)) bys)
    → from_entries {R = key_cmp} new ≡ from_entries (map (λ (b : By). (b, b)) (by ∷ bys))
one_more_list old new key by bys key_is updates same =
    insert-seen keys_total exact_keys old new key by updates
    ∙ (λ i. insert (same i) (key_is i) by)
    ∙ sym (in_front (map (λ (b : By). (b, b)) bys) by by)

-- the keys of a list in order are those of its map
pub keys_seen : (es : List (By × By)) → IsStrictlySortedBy key_cmp (keys_of es) → keys (from_entries {R = key_cmp} es) ≡ keys_of es
keys_seen es ordered = ap keys_of (entries-seen keys_total exact_keys es ordered)
