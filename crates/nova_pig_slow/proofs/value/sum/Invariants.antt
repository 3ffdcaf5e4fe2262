use Rattle.std.proofs.Common.{◌≡◌, map, take}
use Rattle.nova_value.specs.Wrapped.{wrapped}
use Rattle.nova_pig_algebra.specs.Meaning as meaning
use Rattle.nova_pig_slow.proofs.value.sum.Given as goal

abbrev pub invariant-loop-value : goal.invariant-loop-value
invariant-loop-value l = l.sum ≡ wrapped (meaning.total (map meaning.long_of (take l.value-index l.values)))
