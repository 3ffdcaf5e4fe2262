use Rattle.std.proofs.Common.{◌≡◌, ◌++◌, drop}
use Rattle.nova_pig_algebra.specs.Keys as spec
use Rattle.nova_pig_algebra.proofs.columns.with_column.Given as goal

abbrev pub invariant-loop-at : goal.invariant-loop-at
invariant-loop-at l = spec.with_column l.column l.set ≡ l.out ++ spec.with_column l.column (drop l.at l.set)
