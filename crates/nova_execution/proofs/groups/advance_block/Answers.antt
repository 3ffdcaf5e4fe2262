use Rattle.std.proofs.Common.{◌≡◌, refl, ap, ◌∙◌}
use Rattle.nova_outside.specs.History.{current}
use Rattle.nova_workflow.specs.declared.flow.Task.{Task}
use Rattle.nova_pig_pattern.specs.declared.task.PatternKind.TheVariants.{Stateful}
use Rattle.nova_meta.specs.Catalog.{shelf_at}
use Rattle.nova_trigger.specs.Due.{task_at}
use Rattle.nova_execution.specs.Groups.{group_read}
use Rattle.nova_execution.specs.Rows.{block_behind}
use Rattle.nova_execution.proofs.Admission.{first_within, task_is}
use Rattle.nova_execution.proofs.Damages.{undamaged_both}
use Rattle.nova_execution.proofs.groups.advance_block.Goals as goal

pub read_new-requires-clause-within : goal.read_new-requires-clause-within
read_new-requires-clause-within g c =
    let f = c.args.flow.now in
    let written : c.index-as_slice-task.result ≡ task_at f c.args.task = task_is f c.args.task c.as_slice.result.now c.index-as_slice-task.result c.requires.in_range c.as_slice.ensures c.index-as_slice-task.is in
    let inputs : c.as_slice-2.result.now ≡ (task_at f c.args.task).inputs = c.as_slice-2.ensures ∙ ap (λ (u : Task). u.inputs) written in
    rw (c.as_slice-channels.ensures, inputs) (first_within f c.args.task c.requires.whole c.requires.in_range c.requires.one)

pub returns-clause-made : goal.returns-clause-made
returns-clause-made g c honest =
    let f = c.args.flow.now in
    let t = c.args.task in
    let cat = c.args.catalog.now in
    let written : c.index-as_slice-task.result ≡ task_at f t = task_is f t c.as_slice.result.now c.index-as_slice-task.result c.requires.in_range c.as_slice.ensures c.index-as_slice-task.is in
    let inputs : c.as_slice-2.result.now ≡ (task_at f t).inputs = c.as_slice-2.ensures ∙ ap (λ (u : Task). u.inputs) written in
    let version : c.version.result ≡ (shelf_at cat (task_at f t).output).version = c.version.ensures ∙ ap (λ (u : Task). (shelf_at cat u.output).version) written in (
      c.in_ok-state.state,
      refl,
      record {
        new = c.in_ok-new.new;
        before = c.in_ok-before.before;
        read = rw (c.as_slice-channels.ensures, inputs, c.as_slice-3.ensures, c.cursor-from.ensures) at (c.in_ok-new.ensures.reads honest);
        kept = rw (c.in_ok-new.ensures.same honest) at (c.in_ok-before.ensures.found honest);
        block = λ m of_table table schema. c.block_of-block.ensures ∙ (λ n. block_behind (version n) (c.in_ok-state.ensures.delta m of_table table schema n));
        state = c.in_ok-state.ensures.state;
      },
    )

pub returns-clause-undamaged : goal.returns-clause-undamaged
returns-clause-undamaged g c honest =
    let f = c.args.flow.now in
    let t = c.args.task in
    let cat = c.args.catalog.now in
    let files = current (g.H.Host.history c.args.host.now) in
    let written : c.index-as_slice-task.result ≡ task_at f t = task_is f t c.as_slice.result.now c.index-as_slice-task.result c.requires.in_range c.as_slice.ensures c.index-as_slice-task.is in
    let inputs : c.as_slice-2.result.now ≡ (task_at f t).inputs = c.as_slice-2.ensures ∙ ap (λ (u : Task). u.inputs) written in
    undamaged_both f.channels (record { plan = c.args.plan.now; pattern = Stateful }) cat files t (group_read cat t (task_at f t).inputs c.args.run.now.versions)
    (rw (c.as_slice-channels.ensures, inputs, c.as_slice-3.ensures, c.cursor-from.ensures) at (c.in_ok-new.ensures.undamaged honest))
    (rw (c.in_ok-new.ensures.same honest) at (c.in_ok-before.ensures.undamaged honest))
