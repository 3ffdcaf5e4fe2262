use Rattle.std.proofs.Common.{◌≡◌, drop}
use Rattle.nova_pig_algebra.specs.Keys as spec
use Rattle.nova_pig_algebra.proofs.columns.covers.Given as goal

abbrev pub invariant-loop-column : goal.invariant-loop-column
invariant-loop-column l = spec.covers l.columns l.these ≡ spec.covers l.columns (drop l.column-index l.these)
