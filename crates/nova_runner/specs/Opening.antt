-- How a store is opened.
use Rattle.std.specs.Prelude.{◌≡◌, ◌⊎◌, ℕ, ◌+◌, Bool, true, List, [], ◌∷◌, ◌++◌, length, map, Option, Some, None, Result, Ok, Err, false, IsTrue}
use Rattle.nova_outside.specs.Causes.{Rose}
use Rattle.nova_outside.specs.Disk.{Files}
use Rattle.nova_outside.specs.History.{Event, current}
use Rattle.nova_journal.specs.Fault.{IsDamaged}
use Rattle.nova_journal.specs.Log.{IsReadTo, LogTo, records}
use Rattle.nova_journal.specs.Marks.{IsMark}
use Rattle.nova_commit.specs.Commits.{Fits, commit_bytes}
use Rattle.nova_meta.specs.Catalog.{Entered, allows}
use Rattle.nova_meta.specs.Named.{IsCatalogOf}
use Rattle.nova_commit.specs.declared.commit.Commit.{Commit}
use Rattle.nova_meta.specs.declared.wiring.Wiring.{Wiring}
use Rattle.nova_commit.specs.declared.commit.Commit.TheVariants as commit
use Rattle.nova_machine.specs.Workflow.{Workflow}
use Rattle.nova_machine.specs.State.{State, ended}
use Rattle.nova_machine.specs.Reachable.{IsReachable}
use Rattle.nova_journal.specs.declared.fault.LogFault.{LogFault}
use Rattle.nova_journal.specs.declared.fault.LogFault.TheVariants as log
use Rattle.std.specs.declared.alloc.AllocError.{AllocError}
use Rattle.nova_meta.specs.Catalog.{applied}
use Rattle.nova_runner.specs.Readable.{IsReadable}
use Rattle.nova_runner.specs.declared.opening.NotRead.{NotRead}
use Rattle.nova_runner.specs.declared.opening.NotRead.TheVariants as not_read
use Rattle.nova_runner.specs.Files.{journal_file}
use Rattle.nova_runner.specs.Held.{Held}
use Rattle.nova_runner.specs.Stands.{FilesStandBut, StandsBut}
use Rattle.nova_runner.specs.Steps.{StoreStands}
use Rattle.nova_runner.specs.Texts.{HasFlow}
use Rattle.nova_runner.specs.Workflow.{wiring_of}
use Rattle.nova_runner.specs.declared.opening.OpenFault.{OpenFault}
use Rattle.nova_runner.specs.declared.opening.OpenFault.TheVariants as open_fault

-- ---- opening

-- commits in order: the workflow's, and what its catalog allows
abbrev pub AreInOrder : List Commit → Workflow → Entered → Type 0
AreInOrder (commit.Flow text ∷ cs) flow cat = HasFlow text flow × IsCatalogOf (wiring_of flow) (commit.Flow text ∷ cs) cat
AreInOrder _ flow cat = ⊥

-- the store in memory is what the journal of the greatest mark says
pub record IsRead (store : Held) (commits : List Commit) (files : Files) : Type 0 where
  pub marked : IsMark files (Some store.journal.generation)
  pub log : LogTo store.journal.length (map commit_bytes commits) (files (journal_file store.journal.generation))
  pub in_order : AreInOrder commits store.flow store.catalog

-- files that stood for a state by this generation, these commits and this catalog stood by the store's own
pub record IsOpenedBy (store : Held) (commits : List Commit) (x : ℕ) (by : List Commit) (cat : Entered) (s : State) : Type 0 where
  pub generation : x ≡ store.journal.generation
  pub list : by ≡ commits
  pub catalog : cat ≡ store.catalog
  pub flow : store.flow ≡ s.flow

-- behind commits in order no commit with these bytes may come
abbrev pub IsRefused : List Commit → List ℕ → Type 0
IsRefused [] bad = (text : List ℕ) (flow : Workflow) → bad ≡ commit_bytes (commit.Flow text) → HasFlow text flow → ⊥
IsRefused (c ∷ cs) bad = (flow : Workflow) (cat : Entered) (next : Commit) → AreInOrder (c ∷ cs) flow cat → Fits next → bad ≡ commit_bytes next → allows cat next ≡ true → ⊥

-- there are none, or they are in order
abbrev pub AreTaken : List Commit → Type 0
AreTaken [] = Unit {0}
AreTaken (c ∷ cs) = (flow : Workflow) × (cat : Entered) × AreInOrder (c ∷ cs) flow cat

-- the place of the first payload that may not come behind those before it
pub record IsFirstRefused (at : ℕ) (payloads : List (List ℕ)) : Type 0 where
  pub good : List Commit
  pub bad : List ℕ
  pub more : List (List ℕ)
  pub is : payloads ≡ map commit_bytes good ++ bad ∷ more
  pub place : at ≡ length (records (map commit_bytes good)) + 9
  pub taken : AreTaken good
  pub refused : IsRefused good bad

abbrev pub HasBadPayload : ℕ → Option (List ℕ) → Type 0
HasBadPayload at c = (payloads : List (List ℕ)) × (end : ℕ) × IsReadTo end payloads c × IsFirstRefused at payloads

-- the newest journal's file has this number, and at this place it is no journal, or not that of a store
pub record IsBadStore (files : Files) (file at : ℕ) : Type 0 where
  pub generation : ℕ
  pub marked : IsMark files (Some generation)
  pub file_is : file ≡ journal_file generation
  pub place : IsDamaged at (files file) ⊎ HasBadPayload at (files file)

-- A store was opened: it is what the journal says. It stands for each state that the files stood for but for lost blocks, with nothing in flight, and by what they stood by. The files weren't a bad store.
pub record Opened (store : Held) (a b : List Event) : Type 0 where
  pub commits : List Commit
  pub read : IsRead store commits (current b)
  pub once : (x : ℕ) (by : List Commit) (cat : Entered) (s : State) → StandsBut x by cat (current a) s → IsOpenedBy store commits x by cat s
  pub stands : (s : State) → IsReachable s → FilesStandBut (current a) s → StoreStands store commits b (ended s)
  pub good : (file at : ℕ) → IsBadStore (current a) file at → ⊥

-- ---- laws

-- files that aren't a store's are so at one place
abbrev pub OneBadStore : Type 0
OneBadStore = (files : Files) (file at other place : ℕ) → IsBadStore files file at → IsBadStore files other place → (file ≡ other) × (at ≡ place)

-- files that stand for a state, but for lost blocks, are a store's
abbrev pub NoBadStore : Type 0
NoBadStore = (files : Files) (s : State) (file at : ℕ) → FilesStandBut files s → IsBadStore files file at → ⊥

-- files without a mark are no store, neither a good nor a bad one
abbrev pub NoStoreThere : Type 0
NoStoreThere = (files : Files) → IsMark files None → ((s : State) → FilesStandBut files s → ⊥) × ((file at : ℕ) → IsBadStore files file at → ⊥)

-- ---- why a store wasn't opened

-- why a store wasn't opened, by the files that were there
abbrev pub UnopenedTold : OpenFault → Files → Type 0
UnopenedTold open_fault.Disk files = Unit {0}
UnopenedTold open_fault.NoStore files = IsMark files None
UnopenedTold (open_fault.Damaged file at) files = IsBadStore files file at
UnopenedTold open_fault.NoMemory files = (x : ℕ) × IsMark files (Some x)

abbrev pub OpenCause : ℕ → ℕ → OpenFault → Type 0
OpenCause before now open_fault.Disk = Rose before now
OpenCause before now open_fault.NoStore = Unit {0}
OpenCause before now (open_fault.Damaged file at) = Unit {0}
OpenCause before now open_fault.NoMemory = Unit {0}

-- ---- inside an opening

-- the workflow that a text says, or none where it says none
abbrev pub IsSaid : List ℕ → Option Workflow → Type 0
IsSaid text None = (flow : Workflow) → HasFlow text flow → ⊥
IsSaid text (Some flow) = HasFlow text flow

abbrev pub IsNone : Option Workflow → Type 0
IsNone None = Unit {0}
IsNone (Some flow) = ⊥

-- the workflow of a commit, or none where it is another's
abbrev pub IsFlowIn : Commit → Option Workflow → Type 0
IsFlowIn (commit.Flow text) found = IsSaid text found
IsFlowIn (commit.Load c block size) found = IsNone found
IsFlowIn (commit.Tick moment) found = IsNone found
IsFlowIn (commit.Run t versions moment seen block size parts) found = IsNone found
IsFlowIn (commit.Joined c from to block size) found = IsNone found
IsFlowIn (commit.Collected blocks) found = IsNone found

-- a first payload: a workflow's, or none
abbrev pub IsFirstFlow : List ℕ → Option Workflow → Type 0
IsFirstFlow payload None = IsRefused [] payload
IsFirstFlow payload (Some flow) = (payload ≡ commit_bytes (commit.Flow flow.text)) × HasFlow flow.text flow

-- a payload's commit was applied; where the answer is false it isn't a commit that may come, and nothing changed
abbrev pub TakesCommit : Entered → Entered → List ℕ → Result Bool AllocError → Type 0
TakesCommit old new payload (Ok true) = (c : Commit) × Fits c × (payload ≡ commit_bytes c) × (allows old c ≡ true) × (new ≡ applied old c)
TakesCommit old new payload (Ok false) = (c : Commit) → Fits c → payload ≡ commit_bytes c → allows old c ≡ true → ⊥
TakesCommit old new payload (Err e) = Unit {0}

-- these payloads are commits in order, with this catalog
pub record HasTaken (w : Wiring) (payloads : List (List ℕ)) (cat : Entered) : Type 0 where
  pub commits : List Commit
  pub are : payloads ≡ map commit_bytes commits
  pub catalog : IsCatalogOf w commits cat

-- the place of the first payload that is no commit which may come behind those before it
pub record IsStuck (w : Wiring) (at : ℕ) (payloads : List (List ℕ)) : Type 0 where
  pub good : List Commit
  pub bad : List ℕ
  pub more : List (List ℕ)
  pub is : payloads ≡ map commit_bytes good ++ bad ∷ more
  pub place : at ≡ length (records (map commit_bytes good)) + 9
  pub cat : Entered
  pub catalog : IsCatalogOf w good cat
  pub refused : (next : Commit) → Fits next → bad ≡ commit_bytes next → allows cat next ≡ true → ⊥

abbrev pub IsStuckTold : Wiring → List (List ℕ) → NotRead → Type 0
IsStuckTold w payloads (not_read.At at) = IsStuck w at payloads
IsStuckTold w payloads not_read.NoMemory = Unit {0}

-- these payloads are commits in order
pub record HasCommits (payloads : List (List ℕ)) (flow : Workflow) (cat : Entered) : Type 0 where
  pub commits : List Commit
  pub are : payloads ≡ map commit_bytes commits
  pub in_order : AreInOrder commits flow cat
  pub read : HasFlow flow.text flow
  pub wired : cat.wiring ≡ wiring_of flow
  pub begun : cat.begun ≡ true
  pub readable : IsReadable cat
  pub tasks : length cat.tasks ≡ length flow.tasks

abbrev pub NotReadTold : NotRead → List (List ℕ) → Type 0
NotReadTold (not_read.At at) payloads = (payloads ≡ []) ⊎ IsFirstRefused at payloads
NotReadTold not_read.NoMemory payloads = Unit {0}

abbrev pub Opens : Bool → Held → List Event → List Event → Type 0
Opens is_honest store a b = IsTrue is_honest → Opened store a b

abbrev pub unopened_by : LogFault → OpenFault
unopened_by log.Disk = open_fault.Disk
unopened_by log.NoStore = open_fault.NoStore
unopened_by (log.Damaged file at) = open_fault.Damaged file at
unopened_by (log.Full length) = open_fault.NoMemory
unopened_by log.NoMemory = open_fault.NoMemory

abbrev pub unread_in : ℕ → NotRead → OpenFault
unread_in file (not_read.At at) = open_fault.Damaged file at
unread_in file not_read.NoMemory = open_fault.NoMemory
