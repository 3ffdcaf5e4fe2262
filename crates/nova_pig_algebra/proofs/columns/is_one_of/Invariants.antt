use Rattle.std.proofs.Common.{◌≡◌, drop}
use Rattle.nova_pig_algebra.specs.Keys as spec
use Rattle.nova_pig_algebra.proofs.columns.is_one_of.Given as goal

abbrev pub invariant-loop-other : goal.invariant-loop-other
invariant-loop-other l = spec.is_one_of l.column l.columns ≡ spec.is_one_of l.column (drop l.other-index l.columns)
