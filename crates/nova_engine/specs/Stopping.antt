-- Why a session stops.
use Rattle.std.specs.Prelude.{ℕ, ◌≤◌, Bool, List, IsTrue, Result, IsErrOf}
use Rattle.nova_outside.specs.declared.Host as host
use Rattle.nova_outside.specs.Causes.{Rose}
use Rattle.nova_outside.specs.History.{Begins, Event, current, replies}
use Rattle.nova_runner.specs.Steps.{Why}
use Rattle.nova_runner.specs.Steps as step
use Rattle.nova_engine.specs.Damage.{IsBadRead}
use Rattle.nova_engine.specs.declared.stop.Stop.{Stop}
use Rattle.nova_engine.specs.declared.stop.Stop.TheVariants as stop

abbrev pub why : Stop → Why
why stop.Disk = step.Disk
why stop.Reply = step.Reply
why (stop.Damaged file at) = step.Damaged file at
why (stop.Full length) = step.Full length
why stop.NoMemory = step.NoMemory

-- replies were added at most, where the host is honest
abbrev pub RepliesGrow : Bool → List Event → List Event → Type 0
RepliesGrow is_honest a b = IsTrue is_honest → Begins (replies a) (replies b)

-- Counts don't fall, and a failed reply or call on a file is told only where its count rose. Damage is that of a block of the store, whatever the files stand for.
pub record HasStopCause {D T : Type 0} (H : host.Ghosts D) (old new : D) (result : Result T Stop) : Type 0 where
  pub disk_later : H.disk_faults old ≤ H.disk_faults new
  pub reply_later : H.reply_faults old ≤ H.reply_faults new
  pub disk_rose : IsErrOf result stop.Disk → Rose (H.disk_faults old) (H.disk_faults new)
  pub reply_rose : IsErrOf result stop.Reply → Rose (H.reply_faults old) (H.reply_faults new)
  pub damage : (file at : ℕ) → IsErrOf result (stop.Damaged file at) → IsTrue H.is_honest → IsBadRead (current (H.history new)) file at
