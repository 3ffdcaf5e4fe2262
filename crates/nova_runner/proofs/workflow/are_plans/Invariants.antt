use Rattle.std.proofs.Common.{take}
use Rattle.nova_runner.specs.Texts.{ArePlans}
use Rattle.nova_runner.proofs.workflow.are_plans.Given as goal

abbrev pub invariant-loop-task : goal.invariant-loop-task
invariant-loop-task l = ArePlans (take l.task l.fn.admitted.patterns)
