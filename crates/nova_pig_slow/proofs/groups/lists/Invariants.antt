use Rattle.std.proofs.Common.{◌≡◌, ◌≤◌, drop, length, map}
use Rattle.std.specs.FinMap.{from_entries}
use Rattle.std.specs.List.Sorted.{IsStrictlySortedBy}
use Rattle.std.specs.Map.{keys_of}
use Rattle.nova_value.specs.Order.{key_cmp}
use Rattle.nova_value.specs.Rows.{key_at}
use Rattle.nova_pig_slow.proofs.groups.lists.Given as goal

abbrev pub invariant-loop-left : goal.invariant-loop-left
invariant-loop-left l = record {
  within : l.left ≤ length l.rows;
  ordered : IsStrictlySortedBy key_cmp (keys_of l.lists.entries);
  rest : from_entries l.lists.entries ≡ from_entries {R = key_cmp} (map (λ by. (by, by)) (map (key_at l.columns) (drop l.left l.rows)));
}

abbrev pub decreases-loop-left : goal.decreases-loop-left
decreases-loop-left l = l.left
