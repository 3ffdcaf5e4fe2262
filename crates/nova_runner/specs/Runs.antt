-- A run of a store.
use Rattle.std.specs.Prelude.{◌≡◌, ◌⊎◌, ◌&&◌, nat_lt, ℕ, ◌+◌, Bool, false, List, length, Option, Some, None, IsTrue}
use Rattle.nova_outside.specs.Disk.{Files}
use Rattle.nova_outside.specs.History.{Event}
use Rattle.nova_row_codec.specs.Spelling.{spelling_of}
use Rattle.nova_journal.specs.Log.{frame}
use Rattle.nova_block.specs.declared.fault.BlockFault.{BlockFault}
use Rattle.nova_block.specs.declared.fault.BlockFault.TheVariants as block
use Rattle.nova_commit.specs.Commits.{Fits, commit_bytes}
use Rattle.nova_commit.specs.declared.commit.Commit.{Commit}
use Rattle.nova_meta.specs.Catalog.{Entered, allows, bound, progress_at, shelf_at}
use Rattle.nova_meta.specs.Wired.{wire_at}
use Rattle.nova_meta.specs.Prepared.{IsPrepared}
use Rattle.nova_machine.specs.State.{State}
use Rattle.nova_machine.specs.Due.{capture_of}
use Rattle.nova_machine.specs.Steps.{Run}
use Rattle.nova_trigger.specs.Due.{capture_in}
use Rattle.nova_admit.specs.Flows.{Admission}
use Rattle.nova_execution.specs.Executed.{IsExecuted}
use Rattle.nova_execution.specs.Made.{IsRunOf}
use Rattle.nova_execution.specs.declared.made.Made.{Made}
use Rattle.nova_runner.specs.Acts.{IsFull, IsStepDamage, keeps_in, kept_spelling, own_run, parts_of}
use Rattle.nova_runner.specs.Beginning.{captured_in}
use Rattle.nova_runner.specs.Committing.{AreSpare, IsReady}
use Rattle.nova_runner.specs.Held.{Held}
use Rattle.nova_runner.specs.RunFiles.{AreRunFiles}
use Rattle.nova_runner.specs.Steps.{StoreStands}
use Rattle.nova_runner.specs.Texts.{workflow_of}
use Rattle.nova_runner.specs.declared.ready.Fresh.{Fresh}
use Rattle.nova_runner.specs.declared.ready.Ready.{Ready}
use Rattle.nova_runner.specs.declared.stop.Stopped.{Stopped as StoppedCall}
use Rattle.nova_runner.specs.declared.stop.Stopped.TheVariants as stopped

-- what a run captures that begins now, and its commit where its block and its state have these sizes
abbrev pub run_commit : Held → ℕ → ℕ → ℕ → Commit
run_commit store t size state = own_run store.catalog t (capture_in (captured_in store t)) (keeps_in store.flow t) size state

-- and that of what an execution made
abbrev pub made_commit : Held → ℕ → Made → Commit
made_commit store t x = run_commit store t (length (spelling_of x.block)) (length (kept_spelling x.state))

-- each number that a run counts up has room: its output's version, its runs, the numbers of its blocks
abbrev pub run_counters : Entered → ℕ → Bool → Bool
run_counters cat t keeps = nat_lt (shelf_at cat (wire_at cat.wiring t).output).version bound && (nat_lt (progress_at cat t).runs bound && nat_lt (cat.next + length (parts_of keeps cat.next 0)) bound)

-- whatever the files stand for, it is what a run makes of what they have
abbrev pub IsGiven : Held → ℕ → Files → Made → Type 0
IsGiven store t files x = (a : Admission) × (workflow_of store.flow.text a.flow a.patterns ≡ store.flow) × IsExecuted a store.catalog files t (captured_in store t).versions x

-- it has no room whatever it makes, or none for what it makes
abbrev pub RunFull : Bool → Held → ℕ → Files → Type 0
RunFull is_honest store t files =
    IsFull store.journal.length store.catalog (run_commit store t 0 0)
    ⊎ ((x : Made) × (IsTrue is_honest → IsGiven store t files x) × IsFull store.journal.length store.catalog (made_commit store t x))

-- in each state that the store stands for it is what the run makes there
abbrev pub GivesRun : Bool → Held → ℕ → Made → List Event → Type 0
GivesRun is_honest store t x a = IsTrue is_honest → (commits : List Commit) (s : State) → StoreStands store commits a s → IsRunOf s t (capture_of s t) x

-- the frame of a commit and what it makes of the catalog, or the commit breaks a rule
abbrev pub IsPreparedFor : Held → Commit → Option Ready → Type 0
IsPreparedFor store c None = allows store.catalog c ≡ false
IsPreparedFor store c (Some ready) = (ready.framed.items ≡ frame (commit_bytes c)) × IsPrepared store.catalog c ready.prepared

-- What was made ready of what a run made: its files, and its commit.
pub record IsRunReady (store : Held) (t : ℕ) (x : Made) (fresh : List Fresh) (made : Ready) : Type 0 where
  pub ready : IsReady store (made_commit store t x) made
  pub fits : Fits (made_commit store t x)
  pub spare : AreSpare store.catalog (made_commit store t x) fresh
  pub files : AreRunFiles store.catalog.next x.block x.state fresh

-- or it has no room
abbrev pub RunReady : Held → ℕ → Made → Option (List Fresh × Ready) → Type 0
RunReady store t x None = IsFull store.journal.length store.catalog (made_commit store t x)
RunReady store t x (Some made) = IsRunReady store t x made.0 made.1

-- what is told of inputs that weren't read
abbrev pub read_stop : Held → BlockFault → StoppedCall
read_stop store block.Disk = stopped.Disk
read_stop store (block.Damaged file at) = stopped.Damaged file at
read_stop store block.NoMemory = stopped.NoMemory store

-- damage is that of the first input on whose path there is one, or else of the state
abbrev pub StopDamage : Held → ℕ → Files → StoppedCall → Type 0
StopDamage store t files (stopped.Damaged file at) = IsStepDamage store.flow store.catalog files (Run t) file at
StopDamage store t files _ = Unit {0}
