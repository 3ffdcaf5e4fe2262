use Rattle.std.proofs.Common.{◌≡◌, drop}
use Rattle.nova_workflow.specs.Writers as writers
use Rattle.nova_flow.proofs.wiring.is_based.Given as goal

abbrev pub invariant-loop-task : goal.invariant-loop-task
invariant-loop-task l = writers.is_based l.tasks l.channel ≡ writers.is_based (drop l.task-index l.tasks) l.channel
