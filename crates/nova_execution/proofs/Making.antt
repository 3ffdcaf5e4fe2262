-- The block that a run makes is the state's.
use Rattle.std.proofs.Common.{◌≡◌, ℕ, zero, suc, ◌+◌, ◌<◌, Bool, true, List, [], ◌∷◌, length, map, get_or, Some, refl, ap, sym, ◌∙◌, subst, arith}
use Rattle.std.specs.Prelude.{slice_get}
use Rattle.std.specs.List.{All}
use Rattle.std.specs.FinMap.{values}
use Rattle.std.proofs.lemmas.List.Elements.{All-head, All-tail}
use Rattle.nova_outside.specs.Disk.{Files}
use Rattle.nova_delta.specs.Merge.{RowMap, TableValue}
use Rattle.nova_delta.specs.Seen.{table_of}
use Rattle.nova_delta.specs.Listed as delta
use Rattle.nova_workflow.specs.declared.flow.Channel.{Channel}
use Rattle.nova_workflow.specs.declared.flow.Input.{Input}
use Rattle.nova_workflow.specs.declared.flow.Task.{Task}
use Rattle.nova_workflow.specs.Whole.{IsFlow}
use Rattle.nova_pig_algebra.specs.Plan.{Plan, rows_of}
use Rattle.nova_pig_pattern.specs.declared.task.PatternKind.{PatternKind}
use Rattle.nova_pig_pattern.specs.declared.task.PatternKind.TheVariants.{NonIncremental}
use Rattle.nova_pig_eval.specs.Stored.{stored}
use Rattle.nova_admit.specs.Flows.{Admission, HasSchemas}
use Rattle.nova_admit.specs.declared.plans.Pattern.{Pattern}
use Rattle.nova_admit.specs.declared.plans.Pattern.TheVariants.{N}
use Rattle.nova_meta.specs.declared.captured.Captured.{Captured}
use Rattle.nova_meta.specs.Catalog.{Entered}
use Rattle.nova_machine.specs.Workflow.{TaskPlan, no_channel, no_plan, output_in, plan_in, schema_in, is_based, task_in, no_task}
use Rattle.nova_machine.specs.Versions.{rows_in}
use Rattle.nova_machine.specs.State.{Capture, State, block_at, done_at, kept_at, newest}
use Rattle.nova_machine.specs.Results.{captured_rows, inputs_at, result_rows}
use Rattle.nova_machine.specs.Writing.{made_version}
use Rattle.nova_machine.specs.Steps.{add_run, next_span}
use Rattle.nova_machine.proofs.Making.{runs_make_bases}
use Rattle.nova_channel.proofs.Routes.{tables_are_versions}
use Rattle.nova_trigger.specs.Due.{capture_in, task_at}
use Rattle.nova_execution.specs.Base.{base_of, puts_of}
use Rattle.nova_execution.specs.Made.{IsHeld, IsHeldFor, run_block, task_plan}
use Rattle.nova_execution.specs.Reads.{AreTables, IsTable, edges_of, run_reads, whole, whole_reads}
use Rattle.nova_machine.proofs.Counted.{channels_are_kept}
use Rattle.nova_execution.proofs.Admission.{IsAnew, is_task, reads_whole, written_anew}
use Rattle.nova_execution.proofs.Bases.{leads, no_removals}

-- ---- the tables are those that the run captured

module _ (channels : List Channel) (cat : Entered) (files : Files) (s : State) (same : s.flow.channels ≡ channels) where
  rows_are : (i : Input) (v : ℕ) (t : TableValue) → IsTable channels cat files (whole i v) t → IsHeld cat files s (whole i v) → t.rows ≡ rows_in (kept_at s i.channel).versions v
  rows_are i v t is held =
      tables_are_versions (schema_in s.flow i.channel) files (kept_at s i.channel).versions _ v t.rows held.gives held.there
      (subst (λ (cs : List Channel). IsTable cs cat files (whole i v) t) (sym same) is)

  pub all_rows : (is : List Input) (vs : List ℕ) (ts : List TableValue) → AreTables channels cat files (whole_reads is vs) ts → All (IsHeld cat files s) (whole_reads is vs) → map delta.rows_of ts ≡ inputs_at s is vs
  all_rows [] vs [] are held = refl
  all_rows [] vs (t ∷ ts) are held = absurd are
  all_rows (i ∷ is) [] [] are held = refl
  all_rows (i ∷ is) [] (t ∷ ts) are held = absurd are
  all_rows (i ∷ is) (v ∷ vs) [] are held = absurd are
  all_rows (i ∷ is) (v ∷ vs) (t ∷ ts) are held =
      let first = ap (λ (m : RowMap). values m) (rows_are i v t are.0 (All-head (IsHeld cat files s) (whole i v) (whole_reads is vs) held)) in
      let rest = all_rows is vs ts are.1 (All-tail (IsHeld cat files s) (whole i v) (whole_reads is vs) held) in
      λ n. first n ∷ rest n

-- ---- the version that it makes

-- the plan of a task, as the machine has it
pub plan_there : (qs : List Pattern) (t : ℕ) (q : Pattern) → slice_get qs t ≡ Some q → get_or (map task_plan qs) t no_plan ≡ task_plan q
plan_there [] t q is = absurd (cc)
plan_there (p ∷ qs) zero q is = ap task_plan (one p q is)
  where
    one : (x y : Pattern) → Some x ≡ Some y → x ≡ y
    one x y e = cc
plan_there (p ∷ qs) (suc t) q is = plan_there qs t q is

made_rows : (s : State) (t : ℕ) (run : Capture) → (plan_in s.flow t).pattern ≡ NonIncremental →
    (made_version s t run).rows ≡ (table_of (schema_in s.flow (output_in s.flow t)) (rows_of (plan_in s.flow t).plan (captured_rows s t run))).rows
unfolding made_version
made_rows s t run is = ap (λ (kind : PatternKind). (table_of (schema_in s.flow (output_in s.flow t)) (result_rows kind s t (done_at s t).runs run)).rows) is

-- the block of a run whose result is this table, where the output is written anew
run_of_base : (s : State) (t : ℕ) (run : Capture) (table : TableValue) → output_in s.flow t < length s.channels → is_based s.flow (output_in s.flow t) ≡ true →
    table.schema ≡ schema_in s.flow (output_in s.flow t) → (made_version s t run).rows ≡ table.rows → base_of table ≡ run_block s t run
run_of_base s t run table below based schema rows =
    let c = output_in s.flow t in
    let block = runs_make_bases s t run (puts_of table.rows) below (rows ∙ leads table.rows) in
    let whole : base_of table ≡ block_at (add_run s t run) c 0 (newest s c + 1) = λ n. record { schema = schema n; entries = (sym (no_removals table.rows) ∙ sym block) n } in
    whole ∙ ap (λ (b : Bool). block_at (add_run s t run) c (next_span b (newest s c)).from (next_span b (newest s c)).to) (sym based)

module _ (a : Admission) (cat : Entered) (files : Files) (t : ℕ) (run : Captured) (p : Plan) (ts : List TableValue)
    (whole : IsFlow a.flow) (lt : t < length a.flow.tasks) (pattern : slice_get a.patterns t ≡ Some (N p)) (schemas : HasSchemas a.flow (task_at a.flow t) p)
    (anew : IsAnew a.flow (task_at a.flow t))
    (are : AreTables a.flow.channels cat files (whole_reads (task_at a.flow t).inputs run.versions) ts) where
  pub made_in : (s : State) → IsHeldFor a cat files t run s → base_of (stored p ts) ≡ run_block s t (capture_in run)
  made_in s held =
      let task : task_in s.flow t ≡ task_at a.flow t = ap (λ (us : List Task). get_or us t no_task) held.flow.tasks in
      let plan : plan_in s.flow t ≡ task_plan (N p) = ap (λ (ps : List TaskPlan). get_or ps t no_plan) held.flow.plans ∙ plan_there a.patterns t (N p) pattern in
      let out : output_in s.flow t ≡ (task_at a.flow t).output = ap (λ (u : Task). u.output) task in
      let reads : run_reads (edges_of (task_in s.flow t)) cat t run.versions ≡ whole_reads (task_at a.flow t).inputs run.versions =
      ap (λ (u : Task). run_reads (edges_of u) cat t run.versions) task ∙ reads_whole a.flow t cat run.versions anew in
      let rows : map delta.rows_of ts ≡ captured_rows s t (capture_in run) =
      all_rows a.flow.channels cat files s held.flow.channels (task_at a.flow t).inputs run.versions ts are (subst (All (IsHeld cat files s)) reads held.inputs)
      ∙ ap (λ (u : Task). inputs_at s u.inputs run.versions) (sym task) in
      let schema : p.output ≡ schema_in s.flow (output_in s.flow t) =
      schemas.output ∙ (λ n. (get_or (sym held.flow.channels n) (sym out n) no_channel).schema) in
      let based : is_based s.flow (output_in s.flow t) ≡ true =
      (λ n. (get_or (held.flow.channels n) (out n) no_channel).based) ∙ written_anew a.flow t whole lt anew.anew in
      let below : output_in s.flow t < length s.channels =
      let kept = channels_are_kept s held.reached in
      let many = ap (λ (cs : List Channel). length cs) held.flow.channels in
      let low = (is_task a.flow t whole lt).output in
      omega (arith, kept, many, low, out) in
      let made : (made_version s t (capture_in run)).rows ≡ (stored p ts).rows =
      made_rows s t (capture_in run) (ap (λ (x : TaskPlan). x.pattern) plan)
      ∙ (λ n. (table_of (sym schema n) (rows_of (plan n).plan (sym rows n))).rows) in
      run_of_base s t (capture_in run) (stored p ts) below based schema made
