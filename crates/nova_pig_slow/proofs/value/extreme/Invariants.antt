use Rattle.std.proofs.Common.{◌≡◌, drop}
use Rattle.nova_pig_algebra.specs.Meaning as meaning
use Rattle.nova_pig_slow.specs.Bests.{best_with, order_of}
use Rattle.nova_pig_slow.proofs.value.extreme.Given as goal

abbrev pub invariant-loop-value : goal.invariant-loop-value
invariant-loop-value l = best_with (order_of l.is_greatest) l.best (drop l.value-index l.values) ≡ meaning.best (order_of l.is_greatest) l.values
