use Rattle.std.proofs.Common.{◌≡◌, suc, List, ◌++◌, map, take, drop, get_or, refl, ap, sym, ◌∙◌}
use Rattle.nova_outside.specs.History.{current}
use Rattle.nova_delta.specs.Listed.{rows_of}
use Rattle.nova_delta.specs.Merge.{DeltaValue, TableValue}
use Rattle.nova_workflow.specs.declared.flow.Input.{Input}
use Rattle.nova_workflow.specs.declared.flow.Task.{Task}
use Rattle.nova_pig_algebra.specs.Plan.{tree_of_plan}
use Rattle.nova_meta.specs.Catalog.{captured, progress_at, shelf_at}
use Rattle.nova_machine.specs.Workflow.{no_input}
use Rattle.nova_rowwise.specs.Derived.{derived, main_of}
use Rattle.nova_trigger.specs.Due.{task_at}
use Rattle.nova_execution.specs.Reads.{schema_at}
use Rattle.nova_execution.specs.Rows.{block_behind}
use Rattle.nova_execution.proofs.Admission.{inputs_within}
use Rattle.nova_execution.proofs.Deriving.{derived_schema}
use Rattle.nova_execution.proofs.RowReads.{placed}
use Rattle.nova_execution.proofs.runs.derive_block.Goals as goal

pub read_row_inputs-requires-clause-within : goal.read_row_inputs-requires-clause-within
read_row_inputs-requires-clause-within g c = rw (c.as_slice-channels.ensures, c.as_slice-inputs.ensures, c.task_of-written.ensures) (inputs_within c.args.flow.now c.args.task c.requires.whole c.requires.in_range)

pub read_row_inputs-requires-clause-paths : goal.read_row_inputs-requires-clause-paths
read_row_inputs-requires-clause-paths g c = rw (c.as_slice-versions.ensures, c.as_slice-inputs.ensures, c.task_of-written.ensures, c.cursor-from.ensures, c.main_place-main.ensures) c.requires.paths

pub derive-requires : goal.derive-requires
derive-requires g c =
    let f = c.args.flow.now in
    let is = (task_at f c.args.task).inputs in
    let place = c.main_place-main.ensures in
    let inputs : c.as_slice-inputs.result.now ≡ is = c.as_slice-inputs.ensures ∙ ap (λ (t : Task). t.inputs) c.task_of-written.ensures in
    let main : c.in_ok-read.read.new.schema ≡ schema_at f.channels (get_or is (main_of (tree_of_plan c.args.plan.now)) no_input).channel =
    c.in_ok-read.ensures.schema ∙ (λ n. schema_at (c.as_slice-channels.ensures n) (get_or (inputs n) (place n) no_input).channel) in
    let others : map (λ (t : TableValue). t.schema) c.deref.result.now ≡ map (λ (i : Input). schema_at f.channels i.channel) (take (main_of (tree_of_plan c.args.plan.now)) is ++ drop (suc (main_of (tree_of_plan c.args.plan.now))) is) =
    ap (map (λ (t : TableValue). t.schema)) c.deref.ensures.value ∙ c.in_ok-read.ensures.schemas
    ∙ (λ n. map (λ (i : Input). schema_at (c.as_slice-channels.ensures n) i.channel) (take (place n) (inputs n) ++ drop (suc (place n)) (inputs n))) in
    placed f.channels is (main_of (tree_of_plan c.args.plan.now)) c.in_ok-read.read.new.schema (map (λ (t : TableValue). t.schema) c.deref.result.now) c.requires.main main others
    ∙ sym c.requires.schemas.inputs

pub returns-clause-made : goal.returns-clause-made
returns-clause-made g c honest =
    let f = c.args.flow.now in
    let t = c.args.task in
    let cat = c.args.catalog.now in
    let files = current (g.H.Host.history c.args.host.now) in
    let k = main_of (tree_of_plan c.args.plan.now) in
    let place = c.main_place-main.ensures in
    let inputs : c.as_slice-inputs.result.now ≡ (task_at f t).inputs = c.as_slice-inputs.ensures ∙ ap (λ (u : Task). u.inputs) c.task_of-written.ensures in
    let from : c.cursor-from.result ≡ captured (progress_at cat t).last k = c.cursor-from.ensures ∙ ap (captured (progress_at cat t).last) place in
    let version : c.version.result ≡ (shelf_at cat (task_at f t).output).version = c.version.ensures ∙ ap (λ (u : Task). (shelf_at cat u.output).version) c.task_of-written.ensures in
    let delta : c.in_ok-delta.delta ≡ derived c.args.plan.now (map rows_of c.in_ok-read.read.lookups.items) c.in_ok-read.read.new =
    c.in_ok-delta.ensures ∙ ap (λ (ts : List TableValue). derived c.args.plan.now (map rows_of ts) c.in_ok-read.read.new) c.deref.ensures.value in (
      record {
        new = c.in_ok-read.read.new;
        lookups = c.in_ok-read.read.lookups.items;
        are = rw (c.as_slice-channels.ensures, inputs, c.as_slice-versions.ensures, from, place) at (c.in_ok-read.ensures.reads honest);
        block = c.block_of-block.ensures ∙ (λ n. block_behind (version n) (delta n));
      },
      refl,
    )

pub returns-clause-schema : goal.returns-clause-schema
returns-clause-schema g c =
    ap (λ (d : DeltaValue). d.schema) c.block_of-block.ensures
    ∙ ap (λ (d : DeltaValue). d.schema) c.in_ok-delta.ensures
    ∙ derived_schema c.args.plan.now (map rows_of c.deref.result.now) c.in_ok-read.read.new
