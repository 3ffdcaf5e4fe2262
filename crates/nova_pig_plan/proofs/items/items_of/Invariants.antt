use Rattle.std.proofs.Common.{◌≡◌, drop}
use Rattle.nova_pig_plan.specs.Items as spec
use Rattle.nova_pig_plan.specs.Kept as kept
use Rattle.nova_pig_plan.proofs.items.items_of.Given as goal

abbrev pub invariant-loop-item : goal.invariant-loop-item
invariant-loop-item l = kept.items_of l.scope spec.nothing l.items ≡ kept.items_of l.scope l.made (drop l.item-index l.items)
