use Rattle.std.proofs.Common.{◌≡◌, ◌++◌, length}
use Rattle.std.specs.Vec.Iter.{into_iter_items, into_iter_len}
use Rattle.nova_groups.specs.State.{each, change}
use Rattle.nova_groups.proofs.item.change_each.Given as goal

abbrev pub invariant-loop-item : goal.invariant-loop-item
invariant-loop-item l = record {
  len : into_iter_len l.item-iterator ≡ length (into_iter_items l.item-iterator);
  rest : l.changed.items ++ each (change l.grows) (into_iter_items l.item-iterator) l.left ≡ each (change l.grows) l.fn.items.items l.fn.args;
}
