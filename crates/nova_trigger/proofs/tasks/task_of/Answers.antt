use Rattle.std.proofs.Common.{◌<◌, ◌≤◌, length, sym, subst}
use Rattle.std.specs.List.{All}
use Rattle.nova_workflow.specs.declared.flow.Input.{Input}
use Rattle.nova_workflow.specs.declared.flow.Task.{Task}
use Rattle.nova_trigger.specs.Due.{NamesTask}
use Rattle.nova_trigger.proofs.Known.{known}
use Rattle.nova_trigger.proofs.tasks.task_of.Goals as goal

pub returns-clause-few : goal.returns-clause-few
returns-clause-few c =
    let is = known c.args.flow.now c.args.catalog.now c.args.flight.now c.args.task c.requires.one c.requires.in_range in
    subst (λ (t : Task). length t.inputs ≤ 16) (sym c.nth_task.ensures) is.few

pub returns-clause-channels : goal.returns-clause-channels
returns-clause-channels c =
    let is = known c.args.flow.now c.args.catalog.now c.args.flight.now c.args.task c.requires.one c.requires.in_range in
    subst (λ (t : Task). All (λ (i : Input). i.channel < length c.args.catalog.now.channels) t.inputs) (sym c.nth_task.ensures) is.channels

pub returns-clause-named : goal.returns-clause-named
returns-clause-named c =
    let is = known c.args.flow.now c.args.catalog.now c.args.flight.now c.args.task c.requires.one c.requires.in_range in
    subst (λ (t : Task). NamesTask (length c.args.catalog.now.tasks) t.trigger) (sym c.nth_task.ensures) is.named
