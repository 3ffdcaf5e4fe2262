use Rattle.std.proofs.Common.{◌≡◌, map, take}
use Rattle.nova_state.specs.Sorts.{kind_in}
use Rattle.nova_state.proofs.kinds.kinds_of_items.Given as goal

abbrev pub invariant-loop-item : goal.invariant-loop-item
invariant-loop-item l = l.all.items ≡ map (kind_in l.kinds) (take l.item-index l.items)
