use Rattle.std.proofs.Common.{◌≡◌, drop, []}
use Rattle.nova_pig_plan.specs.Plans as spec
use Rattle.nova_pig_plan.proofs.statements.fields_of.Given as goal

abbrev pub invariant-loop-field : goal.invariant-loop-field
invariant-loop-field l = spec.fields_of l.columns [] l.fields ≡ spec.fields_of l.columns l.places (drop l.field-index l.fields)
