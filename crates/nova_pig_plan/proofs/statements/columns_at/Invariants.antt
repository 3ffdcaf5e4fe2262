use Rattle.std.proofs.Common.{◌≡◌, take}
use Rattle.nova_pig_plan.specs.Plans as spec
use Rattle.nova_pig_plan.proofs.statements.columns_at.Given as goal

abbrev pub invariant-loop-place : goal.invariant-loop-place
invariant-loop-place l = l.all ≡ spec.columns_at l.columns (take l.place-index l.places)
