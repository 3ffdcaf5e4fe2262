-- What a run makes of the blocks that the files have, whatever these stand for: by the pattern of its task.
use Rattle.std.specs.Prelude.{◌≡◌, ℕ, List, Some, None, slice_get}
use Rattle.nova_outside.specs.Disk.{Files}
use Rattle.nova_workflow.specs.declared.flow.Flow.{Flow}
use Rattle.nova_admit.specs.Flows.{Admission}
use Rattle.nova_admit.specs.declared.plans.Pattern.{Pattern}
use Rattle.nova_admit.specs.declared.plans.Pattern.TheVariants.{N, S, L, F}
use Rattle.nova_groups.specs.State.{StateValue}
use Rattle.nova_meta.specs.Catalog.{Entered, shelf_at}
use Rattle.nova_trigger.specs.Due.{task_at}
use Rattle.nova_execution.specs.Base.{IsComputed}
use Rattle.nova_execution.specs.Groups.{IsAdvanced}
use Rattle.nova_execution.specs.Reads.{whole_reads}
use Rattle.nova_execution.specs.Rows.{IsDerived}
use Rattle.nova_execution.specs.declared.made.Made.{Made}

-- no state is kept but by a grouping task
abbrev pub IsExecutedBy : Pattern → Flow → Entered → Files → ℕ → List ℕ → Made → Type 0
IsExecutedBy (N p) f cat files t vs x = IsComputed f.channels cat files (whole_reads (task_at f t).inputs vs) p x.block × (x.state ≡ None)
IsExecutedBy (S p) f cat files t vs x = IsDerived f.channels cat files t (task_at f t).inputs vs p (shelf_at cat (task_at f t).output).version x.block × (x.state ≡ None)
IsExecutedBy (L p) f cat files t vs x = IsDerived f.channels cat files t (task_at f t).inputs vs p (shelf_at cat (task_at f t).output).version x.block × (x.state ≡ None)
IsExecutedBy (F p) f cat files t vs x =
    (after : StateValue) × (x.state ≡ Some after) × IsAdvanced f.channels cat files t (task_at f t).inputs vs p (shelf_at cat (task_at f t).output).version x.block after

-- where the run captured these versions
abbrev pub IsExecuted : Admission → Entered → Files → ℕ → List ℕ → Made → Type 0
IsExecuted a cat files t vs x = (q : Pattern) × (slice_get a.patterns t ≡ Some q) × IsExecutedBy q a.flow cat files t vs x
