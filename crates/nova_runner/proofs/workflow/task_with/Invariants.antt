use Rattle.std.proofs.Common.{◌≡◌, map, drop}
use Rattle.nova_script.specs.Session.{place_from}
use Rattle.nova_workflow.specs.declared.flow.Task.{Task}
use Rattle.nova_runner.proofs.workflow.task_with.Given as goal

abbrev pub invariant-loop-task : goal.invariant-loop-task
invariant-loop-task l = record {
  same : l.tasks ≡ l.fn.tasks;
  place : l.place ≡ l.task-index;
  rest : place_from 0 (map (λ (x : Task). x.name) l.fn.tasks) l.fn.name ≡ place_from l.task-index (map (λ (x : Task). x.name) (drop l.task-index l.fn.tasks)) l.fn.name;
}
