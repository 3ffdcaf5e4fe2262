use Rattle.std.proofs.Common.{sym, subst}
use Rattle.nova_pig_plan.specs.Answers.{AnswersAs}
use Rattle.nova_pig_plan.proofs.Wide.{foreach_same}
use Rattle.nova_pig_plan.proofs.statements.foreach.Goals as goal

pub returns : goal.returns
returns c = subst (λ z. AnswersAs c.foreach_kept.result z) (sym (foreach_same c.args.done.now c.args.from.now c.args.items.now)) c.foreach_kept.ensures
