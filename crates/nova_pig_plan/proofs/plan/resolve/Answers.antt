use Rattle.nova_pig_plan.proofs.Planned.{plan_has_kinds}
use Rattle.nova_pig_plan.proofs.plan.resolve.Goals as goal

pub with_schemas-requires : goal.with_schemas-requires
with_schemas-requires c = plan_has_kinds c.statements.result.now c.args.channels.now c.in-Ok.graph c.in-Ok.ensures
