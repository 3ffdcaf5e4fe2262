use Rattle.nova_pig_plan.proofs.Uneven.{uneven}
use Rattle.nova_pig_plan.proofs.joins.same_kinds.Goals as goal

pub returns-then-a-b : goal.returns-then-a-b
returns-then-a-b c = uneven c.args.a.now c.args.b.now (λ e. c.if-a-b.true e)
