-- What follows from what an execution gives.
use Rattle.std.specs.Prelude.{◌≡◌, ℕ, ◌<◌, length}
use Rattle.nova_outside.specs.Disk.{Files}
use Rattle.nova_workflow.specs.Whole.{IsFlow}
use Rattle.nova_admit.specs.Flows.{Admission, HavePatterns}
use Rattle.nova_meta.specs.declared.captured.Captured.{Captured}
use Rattle.nova_meta.specs.Catalog.{Entered}
use Rattle.nova_machine.specs.State.{State}
use Rattle.nova_trigger.specs.Due.{capture_in, task_at}
use Rattle.nova_execution.specs.Executed.{IsExecuted}
use Rattle.nova_execution.specs.Made.{IsHeldFor, IsRunOf}
use Rattle.nova_execution.specs.declared.made.Made.{Made}

-- What a run makes of the blocks of an admitted workflow is, in each state of which the files have its inputs, the block of the version that the run makes there, and the state that it leaves.
abbrev pub ExecutionsAreRuns : Type 0
ExecutionsAreRuns = (a : Admission) (cat : Entered) (files : Files) (t : ℕ) (run : Captured) (s : State) (x : Made) →
    IsFlow a.flow → HavePatterns a.flow a.flow.tasks a.patterns → t < length a.flow.tasks → length run.versions ≡ length (task_at a.flow t).inputs
    → IsHeldFor a cat files t run s → IsExecuted a cat files t run.versions x → IsRunOf s t (capture_in run) x
