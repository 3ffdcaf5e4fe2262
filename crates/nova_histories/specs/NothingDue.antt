-- What `work` leaves.
use Rattle.std.specs.Prelude.{◌≡◌, ℕ, ◌<◌, false, length}
use Rattle.nova_workflow.specs.Whole.{IsFlow}
use Rattle.nova_machine.specs.State.{State}
use Rattle.nova_machine.specs.Due.{is_due}
use Rattle.nova_machine.specs.Needed.{indices}
use Rattle.nova_machine.specs.Steps.{after_all}
use Rattle.nova_machine.specs.Commands.{work_steps}
use Rattle.nova_machine.specs.Reachable.{IsReachable}

-- after `work` no task is due
abbrev pub WorkLeavesNothingDue : Type 0
WorkLeavesNothingDue = (s : State) → IsFlow (record { channels = s.flow.channels; tasks = s.flow.tasks }) → IsReachable s → (t : ℕ) → t < length s.flow.tasks →
    is_due (after_all s (work_steps s 0 (indices (length s.flow.tasks)))) t ≡ false
