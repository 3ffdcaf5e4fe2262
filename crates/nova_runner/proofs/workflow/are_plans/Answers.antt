use Rattle.std.proofs.Common.{◌≡◌, ◌+◌, suc, length, take, subst, ap, arith}
use Rattle.nova_workflow.specs.declared.flow.Flow.{Flow}
use Rattle.nova_admit.proofs.Patterned.{same_count}
use Rattle.nova_runner.specs.Texts.{ArePlans}
use Rattle.nova_runner.proofs.Planned.{all_plans, next_plan}
use Rattle.nova_runner.proofs.workflow.are_plans.Goals as goal

pub loop-task-preserved : goal.loop-task-preserved
loop-task-preserved c =
    let qs = c.args.admitted.now.patterns in
    let next : suc c.loop-task.task ≡ c.loop-task.task + 1 = omega arith in
    subst (λ n. ArePlans (take n qs)) next (next_plan qs c.loop-task.task c.pattern.result.now c.loop-task.invariant c.pattern.ensures.pattern c.is_plan.ensures)

pub returns : goal.returns
returns c =
    let count = same_count c.args.admitted.now.flow c.args.admitted.now.flow.tasks c.args.admitted.now.patterns c.requires in
    let same = ap (λ (f : Flow). length f.tasks) c.flow.ensures.flow in
    all_plans c.args.admitted.now.patterns c.loop-task.task (omega (arith, count, same, c.len-task-end.ensures, c.loop-task-test.false)) c.loop-task.invariant
