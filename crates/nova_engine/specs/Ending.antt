-- How a call ends that opened no store, and one whose session stopped.
use Rattle.std.specs.Prelude.{◌≡◌, ℕ, Bool, length}
use Rattle.nova_outside.specs.Replies.{Gives, GivesInPart}
use Rattle.nova_script.specs.Replies as line
use Rattle.nova_runner.specs.declared.opening.OpenFault.{OpenFault}
use Rattle.nova_runner.specs.declared.opening.OpenFault.TheVariants as fault
use Rattle.nova_machine.specs.Workflow.{Workflow}
use Rattle.nova_runner.specs.declared.text.TextFault.{TextFault}
use Rattle.nova_engine.specs.Refused.{refused_line}
use Rattle.nova_engine.specs.Seen.{Seen}
use Rattle.nova_engine.specs.declared.status.Status.{Status}
use Rattle.nova_engine.specs.declared.status.Status.TheVariants.{Done, ReadFault, DiskFault, ReplyFault, NoMemory, NoStore, FlowRefused, Damaged, Full}
use Rattle.nova_engine.specs.declared.text.Unread.{Unread}
use Rattle.nova_engine.specs.declared.text.Unread.TheVariants as unread
use Rattle.nova_engine.specs.declared.stop.Stop.{Stop}
use Rattle.nova_engine.specs.declared.stop.Stop.TheVariants as stop

-- only replies were given, and nothing was read
pub record OnlyGave (a b : Seen) (Given : Type 0) : Type 0 where
  pub given : Given
  pub reads : b.read ≡ a.read

-- how a call ends that wasn't handed a text
abbrev pub unread_end : Unread → Status
unread_end unread.Source = ReadFault
unread_end unread.NoMemory = NoMemory

-- how a call ends that was
abbrev pub IsEndOfText : Status → Type 0
IsEndOfText Done = Unit {0}
IsEndOfText FlowRefused = Unit {0}
IsEndOfText ReplyFault = Unit {0}
IsEndOfText DiskFault = Unit {0}
IsEndOfText NoMemory = Unit {0}
IsEndOfText _ = ⊥

-- the line of a store that was made, whole or in part
abbrev pub ReadyGiven : Bool → Workflow → Status → Seen → Seen → Type 0
ReadyGiven is_honest flow Done a b = OnlyGave a b (Gives is_honest a.history b.history (line.ready (length flow.channels) (length flow.tasks)))
ReadyGiven is_honest flow ReplyFault a b = OnlyGave a b (GivesInPart is_honest a.history b.history (line.ready (length flow.channels) (length flow.tasks)))
ReadyGiven is_honest flow _ a b = ⊥

-- the line that tells why a text is refused, whole or in part
abbrev pub RefusalGiven : Bool → TextFault → Status → Seen → Seen → Type 0
RefusalGiven is_honest why FlowRefused a b = OnlyGave a b (Gives is_honest a.history b.history (refused_line why))
RefusalGiven is_honest why ReplyFault a b = OnlyGave a b (GivesInPart is_honest a.history b.history (refused_line why))
RefusalGiven is_honest why _ a b = ⊥

-- the line that tells where a file is damaged, whole or in part
abbrev pub DamageTold : Bool → ℕ → ℕ → Status → Seen → Seen → Type 0
DamageTold is_honest file at Damaged a b = OnlyGave a b (Gives is_honest a.history b.history (line.damaged file at))
DamageTold is_honest file at ReplyFault a b = OnlyGave a b (GivesInPart is_honest a.history b.history (line.damaged file at))
DamageTold is_honest file at _ a b = ⊥

abbrev pub EndsUnopened : Bool → OpenFault → Status → Seen → Seen → Type 0
EndsUnopened is_honest fault.Disk status a b = (status ≡ DiskFault) × (b ≡ a)
EndsUnopened is_honest fault.NoStore status a b = (status ≡ NoStore) × (b ≡ a)
EndsUnopened is_honest (fault.Damaged file at) status a b = DamageTold is_honest file at status a b
EndsUnopened is_honest fault.NoMemory status a b = (status ≡ NoMemory) × (b ≡ a)

abbrev pub EndsStopped : Bool → Stop → Status → Seen → Seen → Type 0
EndsStopped is_honest stop.Disk status a b = (status ≡ DiskFault) × (b ≡ a)
EndsStopped is_honest stop.Reply status a b = (status ≡ ReplyFault) × (b ≡ a)
EndsStopped is_honest (stop.Damaged file at) status a b = DamageTold is_honest file at status a b
EndsStopped is_honest (stop.Full length) status a b = (status ≡ Full) × (b ≡ a)
EndsStopped is_honest stop.NoMemory status a b = (status ≡ NoMemory) × (b ≡ a)
