-- What the laws of this crate say.
use Rattle.std.specs.Prelude.{◌≡◌, ◌⊎◌, ℕ, ◌+◌, ◌==◌, ◌<◌, ◌≤◌, true, List, [], ◌∷◌, ◌++◌, length, map, Some, is_some, if◌then◌else◌}
use Rattle.std.specs.List.{AllByRecursion}
use Rattle.std.specs.FinMap as fin
use Rattle.nova_value.specs.declared.value.Value.{Value}
use Rattle.nova_value.specs.declared.schema.Entry.TheVariants.{Removal}
use Rattle.nova_value.specs.Rows.{Shape, FitsKey}
use Rattle.nova_delta.specs.Merge.{DeltaValue, EntryMap, TableValue, IsTable, IsDelta, merge_of, merged, puts}
use Rattle.nova_delta.specs.Listed.{rows_of}
use Rattle.nova_path.specs.Lists.{IsOneOf}
use Rattle.nova_path.specs.Shelf.{Span, IsPath}
use Rattle.nova_pig_algebra.specs.Plan.{tree_of_plan}
use Rattle.nova_pig_pattern.specs.declared.task.PatternKind.{PatternKind}
use Rattle.nova_pig_pattern.specs.declared.task.PatternKind.TheVariants.{Stateless, Lookup, Stateful}
use Rattle.nova_machine.specs.Workflow.{Workflow, task_in, input_in, output_in, plan_in, schema_in, main_place}
use Rattle.nova_machine.specs.Versions.{block, blocks_along, has, read_of, rows_in, version_in}
use Rattle.nova_machine.specs.State.{State, Capture, kept_at, done_at, newest, newest_table, table_at, block_at}
use Rattle.nova_machine.specs.Due.{cursor, seen_at}
use Rattle.nova_machine.specs.Results.{captured_rows, result_of}
use Rattle.nova_machine.specs.Writing.{made_version}
use Rattle.nova_machine.specs.Steps.{add_run}
use Rattle.nova_machine.specs.Keeping.{KeepsAll, RunsKeep}
use Rattle.nova_machine.specs.Sound.{IsWired}
use Rattle.nova_machine.specs.Reachable.{IsReachable}
use Rattle.nova_machine.specs.RunLaws.{Rise}
use Rattle.nova_rowwise.specs.Runs.{IsNextRun, IsRowTask, main_channel, run_delta, without}
use Rattle.nova_rowwise.specs.Derived.{main_of, with_main_schema}
use Rattle.nova_admit.specs.Shaped.{IsGroupPlan}
use Rattle.nova_state.specs.Advance.{IsInputTable, stored}
use Rattle.nova_histories.specs.Planned.{IsPlannedFlow}
use Rattle.nova_histories.specs.Made.{IsCurrent, group_delta, lookup_tables}

-- ---- tables and deltas

-- each version of a channel is a table of the channel's schema
abbrev pub VersionsAreTables : Type 0
VersionsAreTables = (s : State) → IsPlannedFlow s.flow → IsReachable s → (c n : ℕ) → IsTable (table_at s c n)

-- the keys that a version wrote fit the schema, whether or not it has rows there
abbrev pub WrittenKeysFit : Type 0
WrittenKeysFit = (s : State) → IsPlannedFlow s.flow → IsReachable s → (c n : ℕ) (q : List Value) → has (version_in (kept_at s c).versions n).wrote q ≡ true → FitsKey (schema_in s.flow c) q

-- each block is a delta of the schema
abbrev pub BlocksAreDeltas : Type 0
BlocksAreDeltas = (s : State) → IsPlannedFlow s.flow → IsReachable s → (c i j : ℕ) → IsDelta (block_at s c i j)

-- ---- captures

-- a version of each input is captured
abbrev pub IsWhole : State → ℕ → Capture → Type 0
IsWhole s t run = length run.versions ≡ length (task_in s.flow t).inputs

-- no captured version is above the newest
abbrev pub IsThere : State → ℕ → Capture → Type 0
IsThere s t run = (k : ℕ) → k < length (task_in s.flow t).inputs → seen_at run k ≤ newest s (input_in s.flow t k).channel

-- what the runs of a task captured never falls, and what is in flight is between the last run's and the newest
pub record HasRisen (s : State) (t : ℕ) : Type 0 where
  pub whole : AllByRecursion (IsWhole s t) (done_at s t).runs
  pub rise : (k : ℕ) → Rise k (done_at s t).runs
  pub there : (run : Capture) → IsOneOf (done_at s t).runs run → IsThere s t run
  pub current : (run : Capture) → IsCurrent s t run → IsWhole s t run × ((k : ℕ) → cursor s t k ≤ seen_at run k) × IsThere s t run

abbrev pub CapturesRise : Type 0
CapturesRise = (s : State) → IsPlannedFlow s.flow → IsReachable s → (t : ℕ) → t < length s.flow.tasks → HasRisen s t

-- so each run follows those before it: a run of a task begins, or finishes, as the laws on deltas of runs ask
abbrev pub RunsFollow : Type 0
RunsFollow = (s : State) → IsPlannedFlow s.flow → IsReachable s → (t : ℕ) → t < length s.flow.tasks → (run : Capture) → IsCurrent s t run → IsNextRun s t (done_at s t).runs run

-- ---- outputs

-- no rows
abbrev pub no_table : Shape → TableValue
no_table o = record { schema = o; rows = fin.empty }

-- the newest version of a task's output is the result of its last run behind those before it; its inputs stand where that run captured them
pub record IsLastResult (s : State) (t : ℕ) : Type 0 where
  pub none : (done_at s t).runs ≡ [] → newest_table s (output_in s.flow t) ≡ no_table (schema_in s.flow (output_in s.flow t))
  pub last : (before : List Capture) (run : Capture) → (done_at s t).runs ≡ before ++ run ∷ [] → newest_table s (output_in s.flow t) ≡ result_of s t before run
  pub stands : (before : List Capture) (run : Capture) → (done_at s t).runs ≡ before ++ run ∷ [] → (k : ℕ) → cursor s t k ≡ seen_at run k

abbrev pub OutputsAreResults : Type 0
OutputsAreResults = (s : State) → IsPlannedFlow s.flow → IsReachable s → (t : ℕ) → t < length s.flow.tasks → IsLastResult s t

-- ---- what runs write

-- a run makes the newest version merged with this delta, and writes its keys and no others; each of its removals is of its key
pub record IsMadeBy (s : State) (t : ℕ) (run : Capture) (d : EntryMap) : Type 0 where
  pub rows : (made_version s t run).rows ≡ merged (rows_in (kept_at s (output_in s.flow t)).versions (newest s (output_in s.flow t))) d
  pub keys : (q : List Value) → has (made_version s t run).wrote q ≡ is_some (fin.get d q)
  pub removes : (q k : List Value) → fin.get d q ≡ Some (Removal k) → k ≡ q

-- the block of the version that a run makes is this delta, for the first version without its removals
abbrev pub WritesDelta : State → ℕ → Capture → DeltaValue → Type 0
WritesDelta s t run d =
    let c = output_in s.flow t in
    let n = newest s c in
    block_at (add_run s t run) c n (n + 1) ≡ record { schema = d.schema; entries = if n == 0 then puts d.entries else d.entries }

-- it is the delta by which the run is made, and a delta of the output's schema
pub record IsRunDelta (s : State) (t : ℕ) (run : Capture) (d : DeltaValue) : Type 0 where
  pub delta : IsDelta d
  pub schema : d.schema ≡ schema_in s.flow (output_in s.flow t)
  pub made : IsMadeBy s t run d.entries
  pub writes : WritesDelta s t run d

-- row by row
abbrev pub IsRowPattern : PatternKind → Type 0
IsRowPattern kind = (kind ≡ Stateless) ⊎ (kind ≡ Lookup)

-- a run of a stateless or of a lookup task, begun now or in flight, writes the delta of its rule: of its main input's block from the cursor to what it captured, over the other inputs as it captured them
abbrev pub RowRunsWriteTheirDelta : Type 0
RowRunsWriteTheirDelta = (s : State) → IsPlannedFlow s.flow → IsReachable s → (t : ℕ) → t < length s.flow.tasks → IsRowPattern (plan_in s.flow t).pattern
    → (run : Capture) → IsCurrent s t run → IsRunDelta s t run (run_delta s t (done_at s t).runs run)

-- so does a run of a grouping task, from the table at its cursor
abbrev pub GroupRunsWriteTheirDelta : Type 0
GroupRunsWriteTheirDelta = (s : State) → IsPlannedFlow s.flow → IsReachable s → (t : ℕ) → t < length s.flow.tasks → (plan_in s.flow t).pattern ≡ Stateful
    → (run : Capture) → IsCurrent s t run → IsRunDelta s t run (group_delta s t (done_at s t).runs run)

-- ---- what keeps

-- runs of a planned workflow that write deltas keep what they don't write
abbrev pub PlannedRunsKeep : Type 0
PlannedRunsKeep = (w : Workflow) → IsPlannedFlow w → IsWired w × RunsKeep w

-- so do the channels of its reachable states
abbrev pub ChannelsKeep : Type 0
ChannelsKeep = (s : State) → IsPlannedFlow s.flow → IsReachable s → KeepsAll s

-- so reading the blocks of a path gives the block of its ends, and that leads from the table of its start to that of its end
abbrev pub PlannedReadsAreBlocks : Type 0
PlannedReadsAreBlocks = (s : State) → IsPlannedFlow s.flow → IsReachable s → (c i j : ℕ) (path : List Span) → IsPath (kept_at s c).shelf i j path → j ≤ newest s c →
    let vs = (kept_at s c).versions in
    (read_of i (blocks_along vs path) ≡ block vs i j) × (merge_of (table_at s c i) (block_at s c i j) ≡ table_at s c j)

-- ---- the inputs of runs

-- the rule of a row plan takes the main input's block, and beside it these tables: their schemas are those of the plan's inputs, and their rows what the run captured
pub record TakesTables (s : State) (t : ℕ) (run : Capture) : Type 0 where
  pub schemas : with_main_schema (main_of (tree_of_plan (plan_in s.flow t).plan)) (map (λ (x : TableValue). x.schema) (lookup_tables s t run)) (schema_in s.flow (main_channel s t)) ≡ (plan_in s.flow t).plan.inputs
  pub rows : map rows_of (lookup_tables s t run) ≡ without (main_place (task_in s.flow t).inputs) (captured_rows s t run)

abbrev pub RowRunsTakeTables : Type 0
RowRunsTakeTables = (s : State) → IsPlannedFlow s.flow → IsReachable s → (t : ℕ) → t < length s.flow.tasks → IsRowPattern (plan_in s.flow t).pattern
    → (run : Capture) → IsCurrent s t run → IsRowTask s.flow t × TakesTables s t run

-- the main input's block leads from the table at the cursor to the one that was captured
abbrev pub BlocksLead : Type 0
BlocksLead = (s : State) → IsPlannedFlow s.flow → IsReachable s → (t : ℕ) → t < length s.flow.tasks → IsRowPattern (plan_in s.flow t).pattern ⊎ ((plan_in s.flow t).pattern ≡ Stateful)
    → (run : Capture) → IsCurrent s t run →
    let k = main_place (task_in s.flow t).inputs in
    let c = main_channel s t in
    merge_of (table_at s c (cursor s t k)) (block_at s c (cursor s t k) (seen_at run k)) ≡ table_at s c (seen_at run k)

-- a grouping task's plan is one, each table of its input is such as the rule takes, and its output is what the plan stores of the table at its cursor
pub record KeepsGroups (s : State) (t : ℕ) : Type 0 where
  pub plan : IsGroupPlan (plan_in s.flow t).plan
  pub inputs : (n : ℕ) → IsInputTable (plan_in s.flow t).plan (table_at s (main_channel s t) n)
  pub output : newest_table s (output_in s.flow t) ≡ stored (plan_in s.flow t).plan (rows_in (kept_at s (main_channel s t)).versions (cursor s t (main_place (task_in s.flow t).inputs)))

abbrev pub GroupsAreKept : Type 0
GroupsAreKept = (s : State) → IsPlannedFlow s.flow → IsReachable s → (t : ℕ) → t < length s.flow.tasks → (plan_in s.flow t).pattern ≡ Stateful → KeepsGroups s t
