use Rattle.std.proofs.Common.{◌≡◌, drop}
use Rattle.nova_pig_plan.specs.Plans as spec
use Rattle.nova_pig_plan.proofs.joins.input_of.Given as goal

abbrev pub invariant-loop-at : goal.invariant-loop-at
invariant-loop-at l = spec.find l.name 0 l.inputs ≡ spec.find l.name l.at (drop l.at l.inputs)
