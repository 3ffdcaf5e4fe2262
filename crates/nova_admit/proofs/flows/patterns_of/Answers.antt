use Rattle.std.proofs.Common.{arith}
use Rattle.std.proofs.lemmas.Result.{err_from_is_err_and}
use Rattle.nova_admit.proofs.Patterned.{next_pattern, fault_at}
use Rattle.nova_admit.proofs.flows.patterns_of.Goals as goal

pub returns-in_err-pattern : goal.returns-in_err-pattern
returns-in_err-pattern c =
    let p = err_from_is_err_and c.from_residual.result c.from_residual.ensures.1 in
    rw (p.1, p.2) (λ told. fault_at c.args.flow.now c.args.tasks.now c.loop-task.patterns c.loop-task.task-index c.task-item.result c.in_err-pattern.field-0.0 (omega arith) c.task-item.is c.loop-task.invariant (c.in_err-pattern.ensures told))

pub loop-task-preserved : goal.loop-task-preserved
loop-task-preserved c =
    rw c.in_ok-push.ensures.ok (next_pattern c.args.flow.now c.args.tasks.now c.loop-task.patterns c.loop-task.task-index c.task-item.result c.in_ok-pattern.pattern (omega arith) c.task-item.is c.loop-task.invariant c.in_ok-pattern.ensures)
