use Rattle.std.proofs.Common.{take}
use Rattle.nova_admit.specs.Flows.{HavePatterns}
use Rattle.nova_admit.proofs.flows.patterns_of.Given as goal

abbrev pub invariant-loop-task : goal.invariant-loop-task
invariant-loop-task l = HavePatterns l.flow (take l.task-index l.tasks) l.patterns
