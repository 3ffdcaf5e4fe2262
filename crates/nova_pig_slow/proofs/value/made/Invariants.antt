use Rattle.std.proofs.Common.{◌≡◌, take}
use Rattle.nova_pig_algebra.specs.Meaning as meaning
use Rattle.nova_pig_slow.proofs.value.made.Given as goal

abbrev pub invariant-loop-item : goal.invariant-loop-item
invariant-loop-item l = l.values.items ≡ meaning.made (take l.item-index l.items) l.row (meaning.calls_over l.members)
