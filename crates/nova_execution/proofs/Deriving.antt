-- The block that a run makes row by row is the state's.
use Rattle.std.proofs.Common.{◌≡◌, ℕ, zero, suc, ◌<◌, Bool, false, List, [], ◌∷◌, ◌++◌, length, map, take, drop, get_or, Option, Some, None, refl, ap, sym, ◌∙◌, subst, arith}
use Rattle.std.specs.Prelude.{slice_get}
use Rattle.std.specs.FinMap.{values}
use Rattle.std.specs.List.{All, flat_map}
use Rattle.std.proofs.lemmas.List.{map-append}
use Rattle.nova_outside.specs.Disk.{Files}
use Rattle.nova_delta.specs.Merge.{DeltaValue, TableValue, no_change}
use Rattle.nova_delta.specs.Listed.{entries_of}
use Rattle.nova_delta.specs.Listed as delta
use Rattle.nova_workflow.specs.declared.flow.Channel.{Channel}
use Rattle.nova_workflow.specs.declared.flow.Input.{Input}
use Rattle.nova_workflow.specs.declared.flow.Task.{Task}
use Rattle.nova_pig_algebra.specs.Meaning.{Row}
use Rattle.nova_pig_algebra.specs.Plan.{Plan, tree_of_plan}
use Rattle.nova_pig_pattern.specs.Table.{IsMain}
use Rattle.nova_admit.specs.Flows.{Admission, input_of}
use Rattle.nova_admit.specs.TaskPlans.{kind_of, plan_of}
use Rattle.nova_admit.specs.declared.plans.Pattern.{Pattern}
use Rattle.nova_meta.specs.declared.captured.Captured.{Captured}
use Rattle.nova_meta.specs.Catalog.{Entered, captured, progress_at, shelf_at}
use Rattle.nova_machine.specs.Workflow.{TaskPlan, is_based, main_place, no_channel, no_input, no_plan, no_task, output_in, plan_in, schema_in, task_in}
use Rattle.nova_machine.specs.Versions.{rows_in}
use Rattle.nova_machine.specs.State.{State, block_at, done_at, kept_at, newest}
use Rattle.nova_machine.specs.Due.{last_run, seen_at}
use Rattle.nova_machine.specs.Results.{inputs_at}
use Rattle.nova_machine.specs.Steps.{add_run, next_span}
use Rattle.nova_channel.specs.Reading.{HasRead}
use Rattle.nova_channel.proofs.Routes.{reads_are_blocks}
use Rattle.nova_trigger.specs.Due.{capture_in, last_or, task_at}
use Rattle.nova_rowwise.specs.Derived.{answers, derived, made_of, main_of, plan_keys}
use Rattle.nova_rowwise.proofs.Folds.{set_schema}
use Rattle.nova_rowwise.specs.Runs.{run_delta, without}
use Rattle.nova_histories.specs.Statements.{IsRowPattern}
use Rattle.nova_histories.proofs.Writes.{row_runs}
use Rattle.nova_histories.proofs.Taken.{row_runs_take_tables}
use Rattle.nova_execution.specs.Made.{IsHeld, IsHeldFor, run_block, task_plan}
use Rattle.nova_execution.specs.Reads.{Read, edges_of, intervals_at, run_reads, schema_at}
use Rattle.nova_execution.specs.Rows.{AreRowInputs, IsDerived, IsNew, block_behind, row_reads, since}
use Rattle.nova_execution.proofs.Making.{all_rows, plan_there}
use Rattle.nova_execution.proofs.RowReads.{all_before, all_behind, at_main, first_row_reads, main_within}

-- where an input stands is where the task's last run captured it
pub cursor_of : (o : Option Captured) (k : ℕ) → captured o k ≡ seen_at (last_or o) k
cursor_of None k = refl
cursor_of (Some run) k = refl

-- what is derived is a delta of the output
pub derived_schema : (p : Plan) (lookups : List (List Row)) (d : DeltaValue) → (derived p lookups d).schema ≡ p.output
derived_schema p lookups d = set_schema (flat_map (answers d.schema p.output (plan_keys p) (λ (r : Row). made_of (tree_of_plan p) lookups (r ∷ []))) (entries_of d)) (no_change p.output)

-- the rows of all inputs but one
without_one : (s : State) (is : List Input) (vs : List ℕ) (k : ℕ) → length vs ≡ length is → k < length is → without k (inputs_at s is vs) ≡ inputs_at s (take k is) (take k vs) ++ inputs_at s (drop (suc k) is) (drop (suc k) vs)
without_one s [] vs k long lt = absurd (omega (arith, lt))
without_one s (i ∷ is) [] k long lt = absurd (omega (arith, long))
without_one s (i ∷ is) (v ∷ vs) zero long lt = refl
without_one s (i ∷ is) (v ∷ vs) (suc k) long lt =
    ap (λ (rs : List (List Row)). values (rows_in (kept_at s i.channel).versions v) ∷ rs) (without_one s is vs k (omega (arith, long)) (omega (arith, lt)))

-- ---- what was read is what the run captured

module _ (channels : List Channel) (cat : Entered) (files : Files) (s : State) (same : s.flow.channels ≡ channels) where
  pub new_is : (r : Read) (d : DeltaValue) → IsNew channels cat files r d → IsHeld cat files s r → d ≡ block_at s r.channel r.from r.to
  new_is r d is held =
      let entries = reads_are_blocks (schema_in s.flow r.channel) files (kept_at s r.channel).versions (intervals_at cat r.channel) r.from r.to d.entries held.gives held.there
      (subst (λ (cs : List Channel). HasRead (schema_at cs r.channel) files (intervals_at cat r.channel) r.from r.to d.entries) (sym same) is.1) in
      let schema : d.schema ≡ schema_in s.flow r.channel = is.0 ∙ (λ n. schema_at (sym same n) r.channel) in
      λ n. record { schema = schema n; entries = entries n }

  module _ (k from : ℕ) (is : List Input) (vs : List ℕ) (long : length vs ≡ length is) (low : k < length is) (held : All (IsHeld cat files s) (row_reads k from is vs))
      (new : DeltaValue) (lookups : List TableValue) (are : AreRowInputs channels cat files k from is vs new lookups) where
    lookups_are : map delta.rows_of lookups ≡ without k (inputs_at s is vs)
    lookups_are =
        let before = all_rows channels cat files s same (take k is) (take k vs) are.before are.first (all_before (IsHeld cat files s) k from is vs held) in
        let behind = all_rows channels cat files s same (drop (suc k) is) (drop (suc k) vs) are.behind are.rest (all_behind (IsHeld cat files s) k from is vs held) in
        ap (map delta.rows_of) are.parts ∙ map-append delta.rows_of are.before are.behind ∙ (λ n. before n ++ behind n) ∙ sym (without_one s is vs k long low)

    new_block : new ≡ block_at s (get_or is k no_input).channel from (get_or vs k 0)
    new_block = new_is (since (get_or is k no_input) from (get_or vs k 0)) new are.main (at_main (IsHeld cat files s) k from is vs held)

-- ---- so its delta is the run's

module _ (a : Admission) (cat : Entered) (files : Files) (t : ℕ) (run : Captured) (q : Pattern) (row : IsRowPattern (kind_of q))
    (lt : t < length a.flow.tasks) (pattern : slice_get a.patterns t ≡ Some q) (each : length run.versions ≡ length (task_at a.flow t).inputs)
    (main : IsMain (map (input_of a.flow) (task_at a.flow t).inputs) (main_of (tree_of_plan (plan_of q))))
    (changes : (get_or a.flow.channels (task_at a.flow t).output no_channel).based ≡ false) (s : State) (held : IsHeldFor a cat files t run s) where
  abbrev k : ℕ
  k = main_of (tree_of_plan (plan_of q))

  abbrev is : List Input
  is = (task_at a.flow t).inputs

  abbrev from : ℕ
  from = captured (progress_at cat t).last k

  abbrev c : ℕ
  c = output_in s.flow t

  task : task_in s.flow t ≡ task_at a.flow t
  task = ap (λ (us : List Task). get_or us t no_task) held.flow.tasks

  plan : plan_in s.flow t ≡ task_plan q
  plan = ap (λ (ps : List TaskPlan). get_or ps t no_plan) held.flow.plans ∙ plan_there a.patterns t q pattern

  there : t < length s.flow.tasks
  there = let many = ap (λ (us : List Task). length us) held.flow.tasks in omega (arith, lt, many)

  by_row : IsRowPattern (plan_in s.flow t).pattern
  by_row = subst (λ (x : TaskPlan). IsRowPattern x.pattern) (sym plan) row

  place : k ≡ main_place (task_in s.flow t).inputs
  place = ap (λ (x : TaskPlan). main_of (tree_of_plan x.plan)) (sym plan) ∙ (row_runs_take_tables s held.planned held.reached t there by_row (capture_in run) held.current).0.main

  stands : from ≡ seen_at (last_run s t) (main_place (task_in s.flow t).inputs)
  stands = cursor_of (progress_at cat t).last k ∙ (λ n. seen_at (sym held.last n) (place n))

  reads : run_reads (edges_of (task_in s.flow t)) cat t run.versions ≡ row_reads k from is run.versions
  reads = ap (λ (u : Task). run_reads (edges_of u) cat t run.versions) task ∙ first_row_reads a.flow (captured (progress_at cat t).last) is run.versions k each main

  module _ (new : DeltaValue) (lookups : List TableValue) (are : AreRowInputs a.flow.channels cat files k from is run.versions new lookups) where
    delta_is : derived (plan_of q) (map delta.rows_of lookups) new ≡ run_delta s t (done_at s t).runs (capture_in run)
    delta_is =
        let low = main_within a.flow is k main in
        let all = subst (All (IsHeld cat files s)) reads held.inputs in
        let rows = lookups_are a.flow.channels cat files s held.flow.channels k from is run.versions each low all new lookups are in
        let block = new_block a.flow.channels cat files s held.flow.channels k from is run.versions each low all new lookups are in
        (λ n. derived (plan_of q) (rows n) (block n))
        ∙ (λ n. derived (sym plan n).plan (without (place n) (inputs_at s (sym task n).inputs run.versions)) (block_at s (get_or (sym task n).inputs (place n) no_input).channel (stands n) (get_or run.versions (place n) 0)))

  pub derived_in : (d : DeltaValue) → IsDerived a.flow.channels cat files t is run.versions (plan_of q) (shelf_at cat (task_at a.flow t).output).version d → d ≡ run_block s t (capture_in run)
  derived_in d made =
      let out : output_in s.flow t ≡ (task_at a.flow t).output = ap (λ (u : Task). u.output) task in
      let version : (shelf_at cat (task_at a.flow t).output).version ≡ newest s c = (λ n. (shelf_at cat (sym out n)).version) ∙ sym held.newest in
      let based : is_based s.flow c ≡ false = (λ n. (get_or (held.flow.channels n) (out n) no_channel).based) ∙ changes in
      let delta = delta_is made.new made.lookups made.are in
      let law = row_runs s held.planned held.reached t there by_row (capture_in run) held.current in
      made.block ∙ (λ n. block_behind (version n) (delta n)) ∙ sym law.writes
      ∙ ap (λ (b : Bool). block_at (add_run s t (capture_in run)) c (next_span b (newest s c)).from (next_span b (newest s c)).to) (sym based)
