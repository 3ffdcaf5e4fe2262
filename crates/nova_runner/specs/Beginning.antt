-- Executions that begin and are dropped, and the tasks that are due.
use Rattle.std.specs.Prelude.{ℕ, Bool, List, Option, slice_set}
use Rattle.nova_outside.specs.History.{Event}
use Rattle.nova_commit.specs.declared.commit.Commit.{Commit}
use Rattle.nova_meta.specs.declared.captured.Captured.{Captured}
use Rattle.nova_machine.specs.State.{State}
use Rattle.nova_machine.specs.Steps.{Step, after}
use Rattle.nova_machine.specs.Reachable.{IsMade}
use Rattle.nova_trigger.specs.Due.{captured_of, is_due, task_at}
use Rattle.nova_runner.specs.Flights.{flow_of}
use Rattle.nova_runner.specs.Held.{Held}
use Rattle.nova_runner.specs.Steps.{StoreStands}

-- the trigger's rule, on what the store has
abbrev pub is_due_in : Held → ℕ → Bool
is_due_in store t = is_due (flow_of store.flow) store.catalog store.flight t

-- what an execution of the task captures that begins now
abbrev pub captured_in : Held → ℕ → Captured
captured_in store t = captured_of store.catalog (task_at (flow_of store.flow) t)

-- the store with this in a task's slot: the other slots, the journal, the workflow and the catalog are as they were
abbrev pub with_slot : Held → ℕ → Option Captured → Held
with_slot store t slot = record store { flight = slice_set store.flight t slot }

-- in each state that the store stands for
abbrev pub InEach : Held → (State → Type 0) → Type 0
InEach store P = (commits : List Commit) (h : List Event) (s : State) → StoreStands store commits h s → P s

-- A step without a call of the host: from each state that the store stood for, the new one stands for the state behind the step, by the same commits and in the same host.
abbrev pub MovesAlone : Step → Held → Held → Type 0
MovesAlone x store new = (commits : List Commit) (h : List Event) (s : State) → StoreStands store commits h s → IsMade s x → StoreStands new commits h (after s x)
