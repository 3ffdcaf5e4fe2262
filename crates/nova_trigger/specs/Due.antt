-- When a task is due, by its workflow, its catalog and the executions in flight: the plain machine's rule, on what these have of a state.
use Rattle.std.specs.Prelude.{◌≡◌, ℕ, ◌<◌, Bool, true, false, not, ◌&&◌, List, length, map, Option, Some, None, is_some, slice_index_or}
use Rattle.nova_workflow.specs.Whole.{IsFlow}
use Rattle.nova_workflow.specs.declared.flow.Flow.{Flow}
use Rattle.nova_workflow.specs.declared.flow.Input.{Input}
use Rattle.nova_workflow.specs.declared.flow.Task.{Task}
use Rattle.nova_workflow.specs.declared.flow.Trigger.{Trigger}
use Rattle.nova_workflow.specs.declared.flow.Trigger.TheVariants.{OnData, Every, After}
use Rattle.nova_meta.specs.declared.captured.Captured.{Captured}
use Rattle.nova_meta.specs.Catalog.{Entered, progress_at, shelf_at}
use Rattle.nova_machine.specs.Workflow.{no_task}
use Rattle.nova_machine.specs.State.{Capture, State, is_in_flight, newest, run_count}
use Rattle.nova_machine.specs.Due.{is_ready, last_run, no_capture}

-- ---- what a catalog and slots have of a state

-- a capture, as the machine has it
abbrev pub capture_in : Captured → Capture
capture_in run = record { versions = run.versions; moment = run.moment; seen = run.seen }

abbrev pub last_or : Option Captured → Capture
last_or None = no_capture
last_or (Some run) = capture_in run

-- what the task's last run captured
abbrev pub last_in : Entered → ℕ → Capture
last_in cat t = last_or (progress_at cat t).last

-- the newest version of an input's channel
abbrev pub newest_in : Entered → Input → ℕ
newest_in cat i = (shelf_at cat i.channel).version

-- the run count of the task that a cascade names
abbrev pub runs_named : Entered → Trigger → ℕ
runs_named cat OnData = 0
runs_named cat (Every period) = 0
runs_named cat (After task) = (progress_at cat task).runs

-- what an execution of a task that begins now captures
abbrev pub captured_of : Entered → Task → Captured
captured_of cat task = record { versions = map (newest_in cat) task.inputs; moment = cat.moment; seen = runs_named cat task.trigger }

abbrev pub task_at : Flow → ℕ → Task
task_at flow t = slice_index_or flow.tasks t no_task

abbrev pub in_flight : List (Option Captured) → ℕ → Bool
in_flight slots t = is_some (slice_index_or slots t None)

-- ---- the rule

-- not in flight, and its trigger is ready
abbrev pub is_due : Flow → Entered → List (Option Captured) → ℕ → Bool
is_due flow cat slots t = not (in_flight slots t) && is_ready (task_at flow t).trigger (last_in cat t) (capture_in (captured_of cat (task_at flow t)))

-- the least due task, or None where no task is due
abbrev pub IsFirstDue : Flow → Entered → List (Option Captured) → Option ℕ → Type 0
IsFirstDue flow cat slots None = (t : ℕ) → t < length flow.tasks → is_due flow cat slots t ≡ false
IsFirstDue flow cat slots (Some t) = (t < length flow.tasks) × (is_due flow cat slots t ≡ true) × ((k : ℕ) → k < t → is_due flow cat slots k ≡ false)

-- ---- what the calls ask

-- the catalog and the slots are of the workflow
pub record IsOneWorkflow (flow : Flow) (cat : Entered) (slots : List (Option Captured)) : Type 0 where
  pub whole : IsFlow flow
  pub channels : length cat.channels ≡ length flow.channels
  pub tasks : length cat.tasks ≡ length flow.tasks
  pub flights : length slots ≡ length flow.tasks

-- a cascade names one of so many tasks
abbrev pub NamesTask : ℕ → Trigger → Type 0
NamesTask tasks OnData = Unit {0}
NamesTask tasks (Every period) = Unit {0}
NamesTask tasks (After task) = task < tasks

-- ---- the machine

-- The workflow, the catalog and the slots have of a state all that triggers see.
pub record StandFor (flow : Flow) (cat : Entered) (slots : List (Option Captured)) (s : State) : Type 0 where
  pub tasks : s.flow.tasks ≡ flow.tasks
  pub versions : (c : ℕ) → newest s c ≡ (shelf_at cat c).version
  pub runs : (t : ℕ) → run_count s t ≡ (progress_at cat t).runs
  pub last : (t : ℕ) → last_run s t ≡ last_in cat t
  pub flights : (t : ℕ) → is_in_flight s t ≡ in_flight slots t
  pub moment : s.moment ≡ cat.moment
