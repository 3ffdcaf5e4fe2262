use Rattle.std.proofs.Common.{◌≡◌, ℕ, List, ◌++◌, sym, ap, ◌∙◌}
use Rattle.std.proofs.lemmas.Result.{on_ok_weaker}
use Rattle.std.specs.List.Sorted.{IsStrictlySortedBy}
use Rattle.std.specs.Map.{keys_of}
use Rattle.std.specs.FinMap as fin
use Rattle.nova_value.specs.declared.value.Value.{Value}
use Rattle.nova_value.specs.Order.{value_cmp}
use Rattle.nova_value.specs.Orders.{values_total, exact_values}
use Rattle.nova_delta.proofs.OrderedMap.{entries-seen}
use Rattle.nova_groups.specs.declared.item.Item.TheVariants.{Counts}
use Rattle.nova_groups.specs.Numbers.{CountMap, count_seen}
use Rattle.nova_group_codec.specs.Spelling.{list_bytes, count_bytes, item_bytes}
use Rattle.nova_group_codec.proofs.encoding.put_item.Goals as goal

-- a map of counts is written as its entries
counted : (m : CountMap) (es : List (Value × ℕ)) → count_seen es ≡ m → IsStrictlySortedBy value_cmp (keys_of es) → list_bytes count_bytes es ≡ item_bytes (Counts m)
unfolding item_bytes
counted m es seen ordered = ap (list_bytes count_bytes) (sym (entries-seen values_total exact_values es ordered) ∙ ap fin.entries seen)

pub returns-in-Counts : goal.returns-in-Counts
returns-in-Counts c =
    on_ok_weaker c.put_counts.result (λ p. p
    ∙ ap (λ (b : List ℕ). c.args.out.now.items ++ b) (counted c.in-Counts.numbers c.map.result.now.entries c.map.ensures c.put_counts.ensures.ordered ∙ ap item_bytes (sym c.in-Counts.is)))
    c.put_counts.ensures.done
