-- What a step leaves of a store and of its host, whether it was done or stopped.
use Rattle.std.specs.Prelude.{◌≡◌, ◌⊎◌, ℕ, ◌+◌, ◌≤◌, ◌^◌, Bool, List, [], ◌∷◌, ◌++◌, length, map, Option, Some, IsTrue}
use Rattle.nova_outside.specs.Causes.{Rose}
use Rattle.nova_outside.specs.Disk.{Files, Only}
use Rattle.nova_outside.specs.History.{Event, Begins, Outcome, current, replies}
use Rattle.nova_journal.specs.Log.{LogTo, records}
use Rattle.nova_journal.specs.Marks.{IsIn}
use Rattle.nova_journal.specs.declared.fault.LogFault.{LogFault}
use Rattle.nova_journal.specs.declared.fault.LogFault.TheVariants as log
use Rattle.nova_value.specs.declared.schema.Entry.{Entry}
use Rattle.nova_delta.specs.Merge.{DeltaValue}
use Rattle.nova_commit.specs.Commits.{commit_bytes}
use Rattle.nova_meta.specs.Catalog.{Entered, applied}
use Rattle.nova_commit.specs.declared.commit.Commit.{Commit}
use Rattle.nova_machine.specs.Workflow.{Workflow, schema_in}
use Rattle.nova_machine.specs.State.{State, ended}
use Rattle.nova_machine.specs.Steps.{Step, Load, Run, Show, Tick, after, load_delta}
use Rattle.nova_machine.specs.Reachable.{IsMade, IsReachable}
use Rattle.nova_machine.specs.Replies.{reply_to}
use Rattle.nova_runner.specs.Acts.{IsFull, IsStepDamage, LeavesOthers, behind, catalog_behind, own_commit}
use Rattle.nova_runner.specs.Files.{IsNamed, IsSettled, Piece, journal_file}
use Rattle.nova_runner.specs.Flights.{HoldFlights}
use Rattle.nova_runner.specs.Stands.{StandsBut, IsLost}
use Rattle.nova_runner.specs.Held.{Held}
use Rattle.nova_runner.specs.declared.stop.Stopped.{Stopped as StoppedCall}
use Rattle.nova_runner.specs.declared.stop.Stopped.TheVariants as stopped

-- A store in memory stands for a state, in this host, by these commits, but for lost blocks. Nothing is pending on its journal. The files know of no execution in flight: those of the state are in memory alone.
pub record StoreStands (store : Held) (commits : List Commit) (h : List Event) (s : State) : Type 0 where
  pub flow : store.flow ≡ s.flow
  pub reached : IsReachable s
  pub flights : HoldFlights store.flight s
  pub by : StandsBut store.journal.generation commits store.catalog (current h) (ended s)
  pub long : LogTo store.journal.length (map commit_bytes commits) (current h (journal_file store.journal.generation))
  pub settled : Only (current h (journal_file store.journal.generation)) (Outcome h (journal_file store.journal.generation))

-- the store's journal is in the host, where that is honest
abbrev pub InHost : Bool → Held → List Event → Type 0
InHost is_honest store h = IsTrue is_honest → IsIn store.journal.generation store.journal.length (current h)

-- No block was lost: what this catalog names that is lost in these files was named and lost before.
abbrev pub LosesNone : Workflow → Entered → Entered → Files → Files → Type 0
LosesNone flow was cat old new = (p : Piece) → IsNamed cat p → IsLost flow new p → IsNamed was p × IsLost flow old p

-- The files stand for a state by these commits, and no block was lost.
pub record IsKeptBy (x : ℕ) (commits : List Commit) (was cat : Entered) (old new : Files) (s : State) : Type 0 where
  pub stands : StandsBut x commits cat new (ended s)
  pub no_loss : LosesNone s.flow was cat old new

-- a journal of these commits has at most 2^62 bytes
abbrev pub IsShortLog : List Commit → Type 0
IsShortLog commits = length (records (map commit_bytes commits)) + 1 ≤ 2 ^ 62

-- where a step adds a commit, the journal that has it too is so short
abbrev pub HasKeptRoom : List Commit → Option Commit → Type 0
HasKeptRoom commits own = (c : Commit) → own ≡ Some c → IsShortLog (commits ++ c ∷ [])

-- ---- done

-- A step was done: the store stands for the state behind it, by the commits from before and its own; no other file changed, and no block was lost; of what was settled nothing is pending; these bytes were replied.
pub record Done (store new : Held) (commits : List Commit) (s : State) (x : Step) (given : List ℕ) (a b : List Event) : Type 0 where
  pub stands : StoreStands new (behind commits (own_commit store.catalog s x)) b (after s x)
  pub generation : new.journal.generation ≡ store.journal.generation
  pub others : LeavesOthers store.journal.generation (own_commit store.catalog s x) (current a) (current b)
  pub no_loss : LosesNone s.flow store.catalog new.catalog (current a) (current b)
  pub settled : IsSettled store.journal.generation store.catalog a → IsSettled new.journal.generation new.catalog b
  pub replied : replies b ≡ replies a ++ given
  -- each block that it read was one
  pub undamaged : (file at : ℕ) → IsStepDamage s.flow store.catalog (current a) x file at → ⊥
  pub room : HasKeptRoom commits (own_commit store.catalog s x)

-- ---- stopped

-- why a step stopped
pub data Why : Type 0 where
  Disk : Why
  Reply : Why
  Damaged : (file at : ℕ) → Why
  Full : (end : ℕ) → Why
  NoMemory : Why

-- The journal has the commits from before, and the files stand by them for s; or it has the step's own too, and they stand by all for t.
abbrev pub IsLeft : ℕ → List Commit → Entered → Option Commit → Files → Files → State → State → Type 0
IsLeft x commits cat own old new s t =
    IsKeptBy x commits cat cat old new s ⊎ ((c : Commit) × (own ≡ Some c) × IsKeptBy x (commits ++ c ∷ []) cat (applied cat c) old new t)

-- a call on a file failed: nothing of the line was replied
pub record BrokeOff (store : Held) (commits : List Commit) (s : State) (x : Step) (a b : List Event) : Type 0 where
  pub left : IsLeft store.journal.generation commits store.catalog (own_commit store.catalog s x) (current a) (current b) s (after s x)
  pub others : LeavesOthers store.journal.generation (own_commit store.catalog s x) (current a) (current b)
  pub silent : replies b ≡ replies a
  pub room : HasKeptRoom commits (own_commit store.catalog s x)

-- a reply failed: the step's commit is kept, and a front of its line was given
pub record HeldBack (store : Held) (commits : List Commit) (s : State) (x : Step) (a b : List Event) : Type 0 where
  pub kept : IsKeptBy store.journal.generation (behind commits (own_commit store.catalog s x)) store.catalog (catalog_behind store.catalog (own_commit store.catalog s x)) (current a) (current b) (after s x)
  pub others : LeavesOthers store.journal.generation (own_commit store.catalog s x) (current a) (current b)
  pub given : List ℕ
  pub front : Begins given (reply_to s x)
  pub replied : replies b ≡ replies a ++ given
  pub undamaged : (file at : ℕ) → IsStepDamage s.flow store.catalog (current a) x file at → ⊥
  pub room : HasKeptRoom commits (own_commit store.catalog s x)

-- the step's commit has no room, in a journal of this length
pub record NoRoom (store : Held) (s : State) (x : Step) (end : ℕ) : Type 0 where
  pub own : Commit
  pub is : own_commit store.catalog s x ≡ Some own
  pub full : IsFull store.journal.length store.catalog own
  pub length : end ≡ store.journal.length

-- A step stopped, over a store that stood for s by these commits. But for a failed call on a file and a failed reply, nothing was done to the host.
abbrev pub Stopped : Why → Held → List Commit → State → Step → List Event → List Event → Type 0
Stopped Disk store commits s x a b = BrokeOff store commits s x a b
Stopped Reply store commits s x a b = HeldBack store commits s x a b
Stopped (Damaged file at) store commits s x a b = (b ≡ a) × IsStepDamage s.flow store.catalog (current a) x file at
Stopped (Full end) store commits s x a b = (b ≡ a) × NoRoom store s x end
Stopped NoMemory store commits s x a b = b ≡ a

-- ---- as clauses: from each state that the store stood for, and each step of it that was asked for

abbrev pub Does : Bool → (State → Step → Type 0) → (State → Step → List ℕ) → Held → Held → List Event → List Event → Type 0
Does is_honest asks given store new a b =
    IsTrue is_honest → (commits : List Commit) (s : State) (x : Step) → StoreStands store commits a s → asks s x → Done store new commits s x (given s x) a b

abbrev pub Stops : Why → Bool → (State → Step → Type 0) → Held → List Event → List Event → Type 0
Stops why is_honest asks store a b =
    IsTrue is_honest → (commits : List Commit) (s : State) (x : Step) → StoreStands store commits a s → asks s x → Stopped why store commits s x a b

-- the step that a load of a delta asks for
abbrev pub AsksLoad : ℕ → DeltaValue → State → Step → Type 0
AsksLoad c delta s x = (entries : List Entry) × (x ≡ Load c entries) × (delta ≡ record { schema = schema_in s.flow c; entries = load_delta (schema_in s.flow c) entries }) × IsMade s x

abbrev pub AsksTick : ℕ → State → Step → Type 0
AsksTick m s x = (x ≡ Tick m) × IsMade s x

abbrev pub AsksRun : ℕ → State → Step → Type 0
AsksRun t s x = (x ≡ Run t) × IsMade s x

abbrev pub AsksShow : ℕ → State → Step → Type 0
AsksShow c s x = (x ≡ Show c) × IsMade s x

abbrev pub silent : State → Step → List ℕ
silent s x = []

-- ---- without a state

-- why a call stopped
abbrev pub why_of : StoppedCall → Why
why_of stopped.Disk = Disk
why_of (stopped.Damaged file at) = Damaged file at
why_of (stopped.Full end) = Full end
why_of (stopped.NoMemory store) = NoMemory

-- it was a failed call only where the disk's count rose, and for want of memory the store is handed back as it was
abbrev pub StopCause : Held → ℕ → ℕ → StoppedCall → Type 0
StopCause store before now stopped.Disk = Rose before now
StopCause store before now (stopped.Damaged file at) = Unit {0}
StopCause store before now (stopped.Full end) = end ≡ store.journal.length
StopCause store before now (stopped.NoMemory again) = again ≡ store

abbrev pub IsStopFull : StoppedCall → Type 0
IsStopFull (stopped.Full end) = Unit {0}
IsStopFull _ = ⊥

-- It stopped before any call of the host: over a bound, or for want of memory.
abbrev pub IsStopEarly : StoppedCall → Type 0
IsStopEarly (stopped.Full end) = Unit {0}
IsStopEarly (stopped.NoMemory store) = Unit {0}
IsStopEarly _ = ⊥

-- it stopped otherwise than by a failed call on a file
abbrev pub IsNoFailedCall : StoppedCall → Type 0
IsNoFailedCall stopped.Disk = ⊥
IsNoFailedCall _ = Unit {0}

-- damage was told
abbrev pub IsStopDamage : StoppedCall → Type 0
IsStopDamage (stopped.Damaged file at) = Unit {0}
IsStopDamage _ = ⊥

-- what is told of a record that wasn't appended
abbrev pub append_stop : LogFault → StoppedCall
append_stop (log.Full end) = stopped.Full end
append_stop _ = stopped.Disk

-- want of memory is never told
abbrev pub TakesNoMemory : StoppedCall → Type 0
TakesNoMemory (stopped.NoMemory store) = ⊥
TakesNoMemory _ = Unit {0}
