-- The block that a run of a grouping task makes, and the state that it leaves, are the state's.
use Rattle.std.proofs.Common.{◌≡◌, inr, ℕ, ◌<◌, Bool, false, if◌then◌else◌, List, [], ◌∷◌, length, get_or, Option, Some, None, ap, sym, ◌∙◌, subst, arith}
use Rattle.std.specs.Prelude.{slice_get}
use Rattle.std.specs.List.{All}
use Rattle.std.proofs.lemmas.List.Elements.{All-head}
use Rattle.nova_outside.specs.Disk.{Files}
use Rattle.nova_delta.specs.Merge.{DeltaValue, RowMap, TableValue, merged}
use Rattle.nova_workflow.specs.declared.flow.Input.{Input}
use Rattle.nova_workflow.specs.declared.flow.Task.{Task}
use Rattle.nova_pig_algebra.specs.Plan.{Plan}
use Rattle.nova_pig_pattern.specs.declared.task.PatternKind.TheVariants.{Stateful}
use Rattle.nova_admit.specs.Flows.{Admission}
use Rattle.nova_admit.specs.declared.plans.Pattern.TheVariants.{F}
use Rattle.nova_groups.specs.State.{StateValue}
use Rattle.nova_meta.specs.declared.captured.Captured.{Captured}
use Rattle.nova_meta.specs.Catalog.{Entered, progress_at, shelf_at}
use Rattle.nova_machine.specs.Workflow.{TaskPlan, is_based, main_place, no_channel, no_input, no_plan, no_task, output_in, plan_in, task_in}
use Rattle.nova_machine.specs.Versions.{rows_in}
use Rattle.nova_machine.specs.State.{State, block_at, done_at, kept_at, newest, table_at}
use Rattle.nova_machine.specs.Due.{cursor, seen_at}
use Rattle.nova_machine.specs.Steps.{add_run, next_span}
use Rattle.nova_trigger.specs.Due.{capture_in, task_at}
use Rattle.nova_rowwise.specs.Runs.{main_channel}
use Rattle.nova_state.specs.Advance.{IsInputTable, IsStateOf, delta_of, state_of}
use Rattle.nova_state.specs.Sorts.{plan_sorts}
use Rattle.nova_state.proofs.WholeStates.{is_state, state_is}
use Rattle.nova_histories.specs.Made.{group_delta}
use Rattle.nova_histories.specs.Statements.{IsRunDelta, KeepsGroups}
use Rattle.nova_histories.proofs.Standing.{blocks_lead, groups_are_kept}
use Rattle.nova_histories.proofs.Writes.{group_runs}
use Rattle.nova_execution.specs.Groups.{HasState, IsAdvanced, group_read, keeps_state, part_file, run_state, task_plan}
use Rattle.nova_execution.specs.Made.{IsHeld, IsHeldFor, IsRunOf, run_block}
use Rattle.nova_execution.specs.Reads.{Read, edges_of, run_reads}
use Rattle.nova_execution.specs.Rows.{block_behind}
use Rattle.nova_execution.specs.declared.made.Made.{Made}
use Rattle.nova_execution.proofs.Admission.{IsByGroup, first_is_main, reads_one}
use Rattle.nova_execution.proofs.Deriving.{cursor_of, new_is}
use Rattle.nova_execution.proofs.Making.{plan_there}

module _ (a : Admission) (cat : Entered) (files : Files) (t : ℕ) (run : Captured) (p : Plan)
    (lt : t < length a.flow.tasks) (pattern : slice_get a.patterns t ≡ Some (F p)) (each : length run.versions ≡ length (task_at a.flow t).inputs)
    (by : IsByGroup a.flow (task_at a.flow t)) (changes : (get_or a.flow.channels (task_at a.flow t).output no_channel).based ≡ false)
    (s : State) (held : IsHeldFor a cat files t run s) where
  abbrev is : List Input
  is = (task_at a.flow t).inputs

  abbrev r : Read
  r = group_read cat t is run.versions

  abbrev c : ℕ
  c = output_in s.flow t

  abbrev main : ℕ
  main = main_channel s t

  abbrev k : ℕ
  k = main_place (task_in s.flow t).inputs

  abbrev from : ℕ
  from = cursor s t k

  abbrev to : ℕ
  to = seen_at (capture_in run) k

  abbrev before : RowMap
  before = rows_in (kept_at s main).versions from

  task : task_in s.flow t ≡ task_at a.flow t
  task = ap (λ (us : List Task). get_or us t no_task) held.flow.tasks

  plan : plan_in s.flow t ≡ task_plan (F p)
  plan = ap (λ (ps : List TaskPlan). get_or ps t no_plan) held.flow.plans ∙ plan_there a.patterns t (F p) pattern

  there : t < length s.flow.tasks
  there = let many = ap (λ (us : List Task). length us) held.flow.tasks in omega (arith, lt, many)

  grouping : (plan_in s.flow t).pattern ≡ Stateful
  grouping = ap (λ (x : TaskPlan). x.pattern) plan

  first : k ≡ 0
  first = ap (λ (u : Task). main_place u.inputs) task ∙ first_is_main a.flow is by.one by.main

  reads : run_reads (edges_of (task_in s.flow t)) cat t run.versions ≡ r ∷ []
  reads = ap (λ (u : Task). run_reads (edges_of u) cat t run.versions) task ∙ reads_one a.flow t cat run.versions each by

  held_there : IsHeld cat files s r
  held_there = All-head (IsHeld cat files s) r [] (subst (All (IsHeld cat files s)) reads held.inputs)

  -- the read is of the main input, from its cursor to what was captured
  channel : r.channel ≡ main
  channel = λ n. (get_or (sym task n).inputs (sym first n) no_input).channel

  starts : r.from ≡ from
  starts = cursor_of (progress_at cat t).last 0 ∙ (λ n. seen_at (sym held.last n) (sym first n))

  ends : r.to ≡ to
  ends = λ n. get_or run.versions (sym first n) 0

  law : IsRunDelta s t (capture_in run) (group_delta s t (done_at s t).runs (capture_in run))
  law = group_runs s held.planned held.reached t there grouping (capture_in run) held.current

  kept : KeepsGroups s t
  kept = groups_are_kept s held.planned held.reached t there grouping

  module _ (x : Made) (after : StateValue) (some : x.state ≡ Some after) (made : IsAdvanced a.flow.channels cat files t is run.versions p (shelf_at cat (task_at a.flow t).output).version x.block after) where
    new : made.new ≡ block_at s main from to
    new = new_is a.flow.channels cat files s held.flow.channels r made.new made.read held_there ∙ (λ n. block_at s (channel n) (starts n) (ends n))

    was : made.before ≡ state_of p before
    was =
        held.state grouping made.before (subst (λ (x : TaskPlan). HasState (plan_sorts x.plan) (part_file cat t) files made.before) (sym plan) made.kept)
        ∙ ap (λ (x : TaskPlan). state_of x.plan before) plan

    of_before : IsStateOf p made.before before
    of_before = is_state p made.before before was

    block : x.block ≡ run_block s t (capture_in run)
    block =
        let version : (shelf_at cat (task_at a.flow t).output).version ≡ newest s c = (λ n. (shelf_at cat (sym task n).output).version) ∙ sym held.newest in
        let based : is_based s.flow c ≡ false = (λ n. (get_or (held.flow.channels n) (task n).output no_channel).based) ∙ changes in
        let table = subst (λ (x : TaskPlan). IsInputTable x.plan (table_at s main from)) plan (kept.inputs from) in
        made.block (table_at s main from) of_before table (ap (λ (d : DeltaValue). d.schema) new)
        ∙ (λ n. block_behind (version n) (delta_of (sym plan n).plan before (new n).entries)) ∙ sym law.writes
        ∙ ap (λ (b : Bool). block_at (add_run s t (capture_in run)) c (next_span b (newest s c)).from (next_span b (newest s c)).to) (sym based)

    state : x.state ≡ run_state s t (capture_in run)
    state =
        let leads = blocks_lead s held.planned held.reached t there (inr grouping) (capture_in run) held.current in
        let merged_is : merged before made.new.entries ≡ rows_in (kept_at s main).versions to = ap (λ (d : DeltaValue). merged before d.entries) new ∙ ap (λ (x : TableValue). x.rows) leads in
        let is : after ≡ state_of p (merged before made.new.entries) = state_is p after (merged before made.new.entries) (made.state before of_before) in
        some ∙ ap (λ (x : StateValue). Some x) (is ∙ ap (state_of p) merged_is)
        ∙ ap (λ (x : TaskPlan). let o : Option StateValue = if keeps_state x.pattern then Some (state_of x.plan (rows_in (kept_at s main).versions to)) else None in o) (sym plan)

    pub advanced_in : IsRunOf s t (capture_in run) x
    advanced_in = (block, state)
