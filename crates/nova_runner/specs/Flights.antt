-- Executions in flight.
use Rattle.std.specs.Prelude.{◌≡◌, List, Option, None, length, map, option_map, replicate}
use Rattle.nova_workflow.specs.declared.flow.Flow.{Flow}
use Rattle.nova_meta.specs.declared.captured.Captured.{Captured}
use Rattle.nova_machine.specs.Workflow.{Workflow}
use Rattle.nova_machine.specs.State.{State, Done, Capture}
use Rattle.nova_trigger.specs.Due.{capture_in}

-- what a state has in flight of each task, or none
abbrev pub flights_of : State → List (Option Capture)
flights_of s = map (λ (d : Done). d.flight) s.tasks

-- the slots hold exactly that
abbrev pub HoldFlights : List (Option Captured) → State → Type 0
HoldFlights slots s = map (option_map capture_in) slots ≡ flights_of s

-- slots of a workflow's tasks with nothing in flight
abbrev pub idle_slots : Workflow → List (Option Captured)
idle_slots w = replicate (length w.tasks) None

-- the workflow as triggers see it: without its text and its plans
abbrev pub flow_of : Workflow → Flow
flow_of w = record { channels = w.channels; tasks = w.tasks }
