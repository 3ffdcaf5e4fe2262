-- The entries of a delta without its removals, one after the other.
use Rattle.std.proofs.Common.{◌≡◌, ◌≤◌, List, [], ◌∷◌, length, map, refl, ap, sym, ◌∙◌, arith}
use Rattle.std.specs.Prelude.{T}
use Rattle.std.specs.declared.cmp.Ordering.TheVariants.{Less}
use Rattle.std.specs.List.{AllByRecursion, filter}
use Rattle.std.specs.List.Sorted.{IsStrictlySortedBy}
use Rattle.std.specs.Map.{keys_of}
use Rattle.std.specs.FinMap as fin
use Rattle.std.specs.FinMap.{is_sorted, entries, entries_sorted, same_map, get-entries, get-from_entries}
use Rattle.std.specs.FinMap.Entries.{below_all}
use Rattle.nova_value.specs.declared.value.Value.{Value}
use Rattle.nova_value.specs.declared.schema.Entry.{Entry}
use Rattle.nova_value.specs.declared.schema.Entry.TheVariants.{Put, Removal}
use Rattle.nova_value.specs.Order.{key_cmp}
use Rattle.nova_value.specs.Orders.{keys_total, exact_keys}
use Rattle.nova_delta.specs.Merge.{EntryMap, puts}
use Rattle.nova_delta.specs.Seen.{entry_map}
use Rattle.nova_block.specs.Puts.{brings}
use Rattle.nova_delta.proofs.Conditions.{first, second, less}
use Rattle.nova_delta.proofs.OrderedMap.{entries-seen}
use Rattle.nova_delta.proofs.Puts.{filter_puts, is_put}

below : (k : List Value) (es : List (List Value × Entry)) → T (below_all key_cmp k es) → AllByRecursion (λ q. key_cmp k q ≡ Less) (keys_of es)
below k [] h = tt
below k (e ∷ es) h = (less _ (first _ _ h), below k es (second _ _ h))

strict : (es : List (List Value × Entry)) → T (is_sorted key_cmp es) → IsStrictlySortedBy key_cmp (keys_of es)
unfolding IsStrictlySortedBy
strict [] h = tt
strict (e ∷ es) h = (below e.0 es (first _ _ h), strict es (second _ _ h))

kept_below : (k : List Value) (es : List (List Value × Entry)) → AllByRecursion (λ q. key_cmp k q ≡ Less) (keys_of es) → AllByRecursion (λ q. key_cmp k q ≡ Less) (keys_of (filter is_put es))
kept_below k [] h = tt
kept_below k ((q, Put row) ∷ es) h = (h.0, kept_below k es h.1)
kept_below k ((q, Removal key) ∷ es) h = kept_below k es h.1

kept_strict : (es : List (List Value × Entry)) → IsStrictlySortedBy key_cmp (keys_of es) → IsStrictlySortedBy key_cmp (keys_of (filter is_put es))
unfolding IsStrictlySortedBy
kept_strict [] h = tt
kept_strict ((q, Put row) ∷ es) h = (kept_below q es h.0, kept_strict es h.1)
kept_strict ((q, Removal key) ∷ es) h = kept_strict es h.1

seconds : (es : List (List Value × Entry)) → map (λ (p : List Value × Entry). p.1) (filter is_put es) ≡ filter brings (map (λ (p : List Value × Entry). p.1) es)
seconds [] = refl
seconds ((q, Put row) ∷ es) = ap (λ (fs : List Entry). Put row ∷ fs) (seconds es)
seconds ((q, Removal key) ∷ es) = seconds es

-- they are its puts, in their order
pub values_puts : (d : EntryMap) → fin.values (puts d) ≡ filter brings (fin.values d)
values_puts d =
    let es : List (List Value × Entry) = entries d in
    let in_order = strict es (entries_sorted d) in
    let whole : entry_map es ≡ d = same_map keys_total exact_keys _ _ (λ q. get-from_entries keys_total (entries d) q ∙ sym (get-entries d q)) in
    let made : entry_map (filter is_put es) ≡ puts d = filter_puts es (filter is_put es) in_order refl ∙ ap puts whole in
    ap (λ (m : EntryMap). fin.values m) (sym made) ∙ ap (map (λ (p : List Value × Entry). p.1)) (entries-seen keys_total exact_keys (filter is_put es) (kept_strict es in_order)) ∙ seconds es

-- and not more than its entries
pub fewer_puts : (es : List Entry) → length (filter brings es) ≤ length es
fewer_puts [] = omega arith
fewer_puts (Put row ∷ es) = omega (arith, fewer_puts es)
fewer_puts (Removal key ∷ es) = omega (arith, fewer_puts es)
