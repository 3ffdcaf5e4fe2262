use Rattle.std.proofs.Common.{◌≡◌, take}
use Rattle.nova_pig_algebra.specs.Keys as spec
use Rattle.nova_pig_algebra.proofs.constants.item_constants.Given as goal

abbrev pub invariant-loop-item : goal.invariant-loop-item
invariant-loop-item l = l.out ≡ spec.item_constants l.constants (take l.item-index l.items)
