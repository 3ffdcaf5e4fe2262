-- What a run makes, on the plain machine.
use Rattle.std.specs.Prelude.{◌≡◌, ℕ, ◌<◌, ◌≤◌, length, map}
use Rattle.std.specs.List.{All}
use Rattle.nova_outside.specs.Disk.{Files}
use Rattle.nova_delta.specs.Merge.{DeltaValue}
use Rattle.nova_path.specs.Shelf.{Span}
use Rattle.nova_workflow.specs.declared.flow.Flow.{Flow}
use Rattle.nova_admit.specs.Flows.{Admission}
use Rattle.nova_channel.specs.Laws.{GivesBlocks}
use Rattle.nova_meta.specs.declared.captured.Captured.{Captured}
use Rattle.nova_meta.specs.Catalog.{Entered, shelf_at}
use Rattle.nova_meta.specs.Wired.{wire_at}
use Rattle.nova_machine.specs.Workflow.{Workflow, is_based, main_place, output_in, plan_in, schema_in, task_in}
use Rattle.nova_machine.specs.State.{Capture, State, block_at, kept_at, newest}
use Rattle.nova_machine.specs.Due.{cursor, last_run}
use Rattle.nova_machine.specs.Steps.{add_run, next_span}
use Rattle.nova_machine.specs.Reachable.{IsReachable}
use Rattle.nova_trigger.specs.Due.{capture_in, last_in, task_at}
use Rattle.nova_histories.specs.Made.{IsCurrent}
pub use Rattle.nova_histories.specs.Planned.{IsPlannedFlow, task_plan}
use Rattle.nova_pig_pattern.specs.declared.task.PatternKind.TheVariants.{Stateful}
use Rattle.nova_groups.specs.State.{StateValue}
use Rattle.nova_state.specs.Sorts.{plan_sorts}
use Rattle.nova_execution.specs.Groups.{HasState, part_file, run_state, state_at}
use Rattle.nova_execution.specs.declared.made.Made.{Made}
use Rattle.nova_execution.specs.Reads.{Read, edges_of, intervals_at, run_reads}

-- a catalog knows the inputs and the output of a task
pub record HasTask (f : Flow) (cat : Entered) (t : ℕ) : Type 0 where
  pub there : t < length cat.tasks
  pub inputs : (wire_at cat.wiring t).inputs ≡ edges_of (task_at f t)
  pub output : (task_at f t).output < length cat.channels

-- a workflow is the admitted one
pub record IsOf (a : Admission) (w : Workflow) : Type 0 where
  pub channels : w.channels ≡ a.flow.channels
  pub tasks : w.tasks ≡ a.flow.tasks
  pub plans : w.plans ≡ map task_plan a.patterns

-- what files have of the channel of a read is the state's, up to where the read ends
pub record IsHeld (cat : Entered) (files : Files) (s : State) (r : Read) : Type 0 where
  pub gives : GivesBlocks (schema_in s.flow r.channel) files (kept_at s r.channel).versions (intervals_at cat r.channel)
  pub there : r.to ≤ newest s r.channel

-- A state of the admitted workflow that commands reach, where this run begins or is in flight: the files have all that it reads there and no other state than that of the version at its cursor, and the task's last run and the newest version of its output are the catalog's.
pub record IsHeldFor (a : Admission) (cat : Entered) (files : Files) (t : ℕ) (run : Captured) (s : State) : Type 0 where
  pub flow : IsOf a s.flow
  pub planned : IsPlannedFlow s.flow
  pub reached : IsReachable s
  pub current : IsCurrent s t (capture_in run)
  pub last : last_run s t ≡ last_in cat t
  pub newest : newest s (output_in s.flow t) ≡ (shelf_at cat (output_in s.flow t)).version
  pub inputs : All (IsHeld cat files s) (run_reads (edges_of (task_in s.flow t)) cat t run.versions)
  pub state : (plan_in s.flow t).pattern ≡ Stateful → (st : StateValue) → HasState (plan_sorts (plan_in s.flow t).plan) (part_file cat t) files st → st ≡ state_at s t (cursor s t (main_place (task_in s.flow t).inputs))

-- the span of the version that a run makes
abbrev pub run_span : State → ℕ → Span
run_span s t = next_span (is_based s.flow (output_in s.flow t)) (newest s (output_in s.flow t))

-- the block of that version: from the version before it, or from 0 where the channel is written anew
abbrev pub run_block : State → ℕ → Capture → DeltaValue
run_block s t run = block_at (add_run s t run) (output_in s.flow t) (run_span s t).from (run_span s t).to

-- a run makes this: the block of its version, and the state that it leaves
abbrev pub IsRunOf : State → ℕ → Capture → Made → Type 0
IsRunOf s t run x = (x.block ≡ run_block s t run) × (x.state ≡ run_state s t run)
