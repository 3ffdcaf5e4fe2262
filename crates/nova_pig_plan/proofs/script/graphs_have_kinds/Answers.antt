use Rattle.nova_pig_plan.proofs.PlanKinds.{plan_kinded}
use Rattle.nova_pig_plan.proofs.script.graphs_have_kinds.Goals as goal

pub returns : goal.returns
returns c = plan_kinded
