use Rattle.std.proofs.Common.{◌≡◌, ◌++◌, drop, map}
use Rattle.nova_runner.specs.Texts.{task_plan}
use Rattle.nova_runner.specs.Workflow.{wires_of}
use Rattle.nova_runner.proofs.wiring.wires.Given as goal

abbrev pub invariant-loop-task : goal.invariant-loop-task
invariant-loop-task l = record {
  number : l.number ≡ l.task-index;
  rest : wires_of l.fn.admitted.flow.tasks (map task_plan l.fn.admitted.patterns) ≡ l.wires.items ++ wires_of (drop l.task-index l.fn.admitted.flow.tasks) (map task_plan (drop l.task-index l.fn.admitted.patterns));
}
