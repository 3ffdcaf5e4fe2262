-- The state that a grouping task keeps between its runs: where it lies, what files have of it, and what a run makes of it.
use Rattle.std.specs.Prelude.{◌≡◌, ℕ, Bool, true, false, if◌then◌else◌, List, Option, Some, None, map, slice_index_or}
use Rattle.std.specs.FinMap as fin
use Rattle.nova_outside.specs.Disk.{Files}
use Rattle.nova_delta.specs.Merge.{DeltaValue, RowMap, TableValue, merged}
use Rattle.nova_workflow.specs.declared.flow.Channel.{Channel}
use Rattle.nova_workflow.specs.declared.flow.Input.{Input}
use Rattle.nova_pig_algebra.specs.Plan.{Plan}
use Rattle.nova_pig_pattern.specs.declared.task.PatternKind.{PatternKind}
use Rattle.nova_pig_pattern.specs.declared.task.PatternKind.TheVariants.{NonIncremental, Stateless, Lookup, Stateful}
use Rattle.nova_block.specs.declared.fault.BlockFault.{BlockFault}
use Rattle.nova_block.specs.declared.fault.BlockFault.TheVariants.{Disk, Damaged, NoMemory}
use Rattle.nova_admit.specs.Flows.{Admission}
use Rattle.nova_group_codec.specs.Sorts.{SortsValue}
use Rattle.nova_groups.specs.State.{StateValue}
use Rattle.nova_meta.specs.declared.progress.StateFile.{StateFile}
use Rattle.nova_meta.specs.Catalog.{Entered, captured, progress_at}
use Rattle.nova_machine.specs.Workflow.{TaskPlan, main_place, no_input, no_plan, plan_in, task_in}
use Rattle.nova_machine.specs.Versions.{rows_in}
use Rattle.nova_machine.specs.State.{Capture, State, kept_at}
use Rattle.nova_machine.specs.Due.{seen_at}
use Rattle.nova_channel.specs.Reading.{block_file}
use Rattle.nova_rowwise.specs.Runs.{main_channel}
use Rattle.nova_state.specs.Advance.{IsInputTable, IsStateOf, delta_of, state_of}
use Rattle.nova_state.specs.Sorts.{plan_sorts}
use Rattle.nova_state_part.specs.Files.{HoldsPart, DamagedPartAt}
use Rattle.nova_execution.specs.Reads.{Read}
use Rattle.nova_execution.specs.Rows.{IsNew, block_behind, since}
pub use Rattle.nova_histories.specs.Planned.{task_plan}

-- ---- where it lies

-- the plan of a task of an admitted workflow, with its pattern
abbrev pub plan_at : Admission → ℕ → TaskPlan
plan_at a t = slice_index_or (map task_plan a.patterns) t no_plan

-- whether tasks of a pattern keep a state
abbrev pub keeps_state : PatternKind → Bool
keeps_state NonIncremental = false
keeps_state Stateless = false
keeps_state Lookup = false
keeps_state Stateful = true

-- the part of a task's state that a catalog names: until states are spread over sixteen parts all is in the first
abbrev pub part_file : Entered → ℕ → Option StateFile
part_file cat t = slice_index_or (progress_at cat t).parts 0 None

-- the state that a run of a task with this plan reads: none before the first run
abbrev pub state_file : TaskPlan → Entered → ℕ → Option StateFile
state_file p cat t = if keeps_state p.pattern then part_file cat t else None

-- how many bytes it has
abbrev pub file_size : Option StateFile → ℕ
file_size None = 0
file_size (Some f) = f.size

-- ---- what files have of it

-- the state of no rows
abbrev pub no_state : StateValue
no_state = record { shares = fin.empty; groups = fin.empty }

-- its file spells it; without a file it is that of no rows
abbrev pub HasState : SortsValue → Option StateFile → Files → StateValue → Type 0
HasState sorts None files st = st ≡ no_state
HasState sorts (Some f) files st = HoldsPart sorts f.size (files (block_file f.block)) st

-- its file spells none, from this place on
abbrev pub IsStateDamage : SortsValue → Option StateFile → Files → ℕ → ℕ → Type 0
IsStateDamage sorts None files file at = ⊥
IsStateDamage sorts (Some f) files file at = (file ≡ block_file f.block) × DamagedPartAt sorts f.size (files file) at

-- what is told of a state that wasn't read, where the host tells its files
abbrev pub StateTold : SortsValue → Option StateFile → Files → BlockFault → Type 0
StateTold sorts part files Disk = Unit {0}
StateTold sorts part files (Damaged file at) = IsStateDamage sorts part files file at
StateTold sorts part files NoMemory = Unit {0}

-- ---- a run

-- the one input of a grouping task, what is new of it
abbrev pub group_read : Entered → ℕ → List Input → List ℕ → Read
group_read cat t is vs = since (slice_index_or is 0 no_input) (captured (progress_at cat t).last 0) (slice_index_or vs 0 0)

-- a block and a state are those that a plan makes of what is new of the input and of the state before, behind version n of the output: where that is the state of a table, the block has the delta of the table's changes, and the new state is that of the merged table
pub record IsAdvanced (channels : List Channel) (cat : Entered) (files : Files) (t : ℕ) (is : List Input) (vs : List ℕ) (p : Plan) (n : ℕ) (d : DeltaValue) (after : StateValue) : Type 0 where
  pub new : DeltaValue
  pub before : StateValue
  pub read : IsNew channels cat files (group_read cat t is vs) new
  pub kept : HasState (plan_sorts p) (part_file cat t) files before
  pub block : (m : TableValue) → IsStateOf p before m.rows → IsInputTable p m → new.schema ≡ m.schema → d ≡ block_behind n (delta_of p m.rows new.entries)
  pub state : (m : RowMap) → IsStateOf p before m → IsStateOf p after (merged m new.entries)

-- ---- on the plain machine

-- the state of a task at a version of its main input
abbrev pub state_at : State → ℕ → ℕ → StateValue
state_at s t n = state_of (plan_in s.flow t).plan (rows_in (kept_at s (main_channel s t)).versions n)

-- the state that a run leaves: of a grouping task that of the version which it captured
abbrev pub run_state : State → ℕ → Capture → Option StateValue
run_state s t run = if keeps_state (plan_in s.flow t).pattern then Some (state_at s t (seen_at run (main_place (task_in s.flow t).inputs))) else None
