-- What the laws of this crate say. Each statement is the contract of a function of `laws`.
use Rattle.std.specs.Prelude.{◌≡◌, ◌↔◌, ℕ, ◌≤◌, true, List, [], ◌∷◌, length, Option, Some, None, replicate, slice_set}
use Rattle.nova_value.specs.declared.schema.Entry.{Entry}
use Rattle.nova_commit.specs.declared.commit.PartFile.{PartFile}
use Rattle.nova_commit.specs.declared.commit.Commit.{Commit}
use Rattle.nova_commit.specs.declared.commit.Commit.TheVariants as commit
use Rattle.nova_workflow.specs.declared.flow.Flow.{Flow}
use Rattle.nova_meta.specs.declared.captured.Captured.{Captured}
use Rattle.nova_meta.specs.declared.wiring.Wiring.{Wiring}
use Rattle.nova_meta.specs.Catalog.{Entered, applied, blank}
use Rattle.nova_meta.specs.Wired.{wire_at}
use Rattle.nova_machine.specs.Workflow.{Workflow, is_input, output_in}
use Rattle.nova_machine.specs.State.{State, start}
use Rattle.nova_machine.specs.Due.{IsDue, capture_of}
use Rattle.nova_machine.specs.Needed.{indices}
use Rattle.nova_machine.specs.Steps.{Step, Load, Tick, Run, Begin, Drop, Worked, after, may_begin}
use Rattle.nova_machine.specs.Commands.{work_steps}
use Rattle.nova_trigger.specs.Due.{IsFirstDue, StandFor, captured_of, capture_in, is_due, task_at}

-- a task is due exactly where it is in the state
abbrev pub DueIsTheMachines : Type 0
DueIsTheMachines = (flow : Flow) (cat : Entered) (slots : List (Option Captured)) (s : State) (t : ℕ) → StandFor flow cat slots s → (is_due flow cat slots t ≡ true) ↔ IsDue s t

-- and what its execution captures is what it captures there
abbrev pub CapturesAreTheMachines : Type 0
CapturesAreTheMachines = (flow : Flow) (cat : Entered) (slots : List (Option Captured)) (s : State) (t : ℕ) → StandFor flow cat slots s → capture_in (captured_of cat (task_at flow t)) ≡ capture_of s t

-- what `work` does first: it runs this task, or it runs none
abbrev pub WorkBegins : State → Option ℕ → Type 0
WorkBegins s None = work_steps s 0 (indices (length s.flow.tasks)) ≡ Worked 0 ∷ []
WorkBegins s (Some t) = (rest : List Step) × (work_steps s 0 (indices (length s.flow.tasks)) ≡ Run t ∷ rest)

-- the first task that is due is the one that `work` runs first in the state
abbrev pub FirstDueIsTheMachines : Type 0
FirstDueIsTheMachines = (flow : Flow) (cat : Entered) (slots : List (Option Captured)) (s : State) (first : Option ℕ) → StandFor flow cat slots s → IsFirstDue flow cat slots first → WorkBegins s first

-- the catalog of no commits and no executions stand for the state before the first step
abbrev pub StartsStand : Type 0
StartsStand = (flow : Flow) (wiring : Wiring) (w : Workflow) → w.tasks ≡ flow.tasks → StandFor flow (blank wiring) (replicate (length flow.tasks) None) (start w)

-- The catalog and the slots have as many channels and tasks as the state, and each task's output is the workflow's.
pub record AreAlike (cat : Entered) (slots : List (Option Captured)) (s : State) : Type 0 where
  pub channels : length cat.channels ≡ length s.channels
  pub tasks : length cat.tasks ≡ length s.tasks
  pub flights : length slots ≡ length s.tasks
  pub outputs : (t : ℕ) → (wire_at cat.wiring t).output ≡ output_in s.flow t

-- the commit that an execution which begins now makes when it ends
abbrev pub run_commit : Flow → Entered → ℕ → ℕ → ℕ → List PartFile → Commit
run_commit flow cat t block size parts =
    let now = captured_of cat (task_at flow t) in
    commit.Run t now.versions now.moment now.seen block size parts

-- They go on to stand for the state: behind the commits of a load, of a tick and of a run, and with the slots of executions that begin and are dropped.
pub record StandsOn (flow : Flow) (cat : Entered) (slots : List (Option Captured)) (s : State) : Type 0 where
  pub loads : (c block size : ℕ) (entries : List Entry) → is_input s.flow c ≡ true → StandFor flow (applied cat (commit.Load c block size)) slots (after s (Load c entries))
  pub ticks : (m : ℕ) → s.moment ≤ m → StandFor flow (applied cat (commit.Tick m)) slots (after s (Tick m))
  pub runs : (t block size : ℕ) (parts : List PartFile) → may_begin s t ≡ true → StandFor flow (applied cat (run_commit flow cat t block size parts)) slots (after s (Run t))
  pub begins : (t : ℕ) → may_begin s t ≡ true → StandFor flow cat (slice_set slots t (Some (captured_of cat (task_at flow t)))) (after s (Begin t))
  pub drops : (t : ℕ) → StandFor flow cat (slice_set slots t None) (after s (Drop t))

abbrev pub StandingGoesOn : Type 0
StandingGoesOn = (flow : Flow) (cat : Entered) (slots : List (Option Captured)) (s : State) → StandFor flow cat slots s → AreAlike cat slots s → StandsOn flow cat slots s
