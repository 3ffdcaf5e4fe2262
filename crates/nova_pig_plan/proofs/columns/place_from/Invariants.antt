use Rattle.nova_pig_plan.specs.Columns as spec
use Rattle.nova_pig_plan.proofs.Places.{Sought}
use Rattle.nova_pig_plan.proofs.columns.place_from.Given as goal

abbrev pub invariant-loop-at : goal.invariant-loop-at
invariant-loop-at l = Sought (spec.comes_from l.alias l.name) l.columns l.found l.at
