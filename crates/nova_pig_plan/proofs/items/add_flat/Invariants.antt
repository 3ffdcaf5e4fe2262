use Rattle.std.proofs.Common.{◌≡◌, drop}
use Rattle.nova_pig_plan.specs.Kept as kept
use Rattle.nova_pig_plan.proofs.items.add_flat.Given as goal

abbrev pub invariant-loop-at : goal.invariant-loop-at
invariant-loop-at l = kept.with_flat 0 l.fn.made l.by ≡ kept.with_flat l.at l.made (drop l.at l.by)
