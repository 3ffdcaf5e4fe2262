-- How a store is made.
use Rattle.std.specs.Prelude.{◌≡◌, ◌≢◌, ◌⊎◌, ℕ, ◌<◌, ◌^◌, Bool, List, [], ◌∷◌, length, Some, None, IsTrue}
use Rattle.nova_outside.specs.Causes.{Rose}
use Rattle.nova_outside.specs.Disk.{Files, Only}
use Rattle.nova_outside.specs.History.{Event, Outcome, current, replies}
use Rattle.nova_journal.specs.Log.{LogTo, frame}
use Rattle.nova_journal.specs.Marks.{IsMark}
use Rattle.nova_commit.specs.Commits.{commit_bytes}
use Rattle.nova_commit.specs.declared.commit.Commit.TheVariants as commit
use Rattle.nova_meta.specs.Catalog.{Entered, applied, blank}
use Rattle.nova_machine.specs.Workflow.{Workflow}
use Rattle.nova_machine.specs.State.{ended, start}
use Rattle.nova_runner.specs.Files.{IsSettled, journal_file, mark_file}
use Rattle.nova_runner.specs.Flights.{idle_slots}
use Rattle.nova_runner.specs.Held.{Held}
use Rattle.nova_runner.specs.Stands.{FilesStand, StandsBut}
use Rattle.nova_runner.specs.Steps.{StoreStands}
use Rattle.nova_runner.specs.Texts.{HasFault, HasFlow}
use Rattle.nova_runner.specs.Workflow.{wiring_of}
use Rattle.nova_runner.specs.declared.making.Blank.{Blank}
use Rattle.nova_runner.specs.declared.making.InitFault.{InitFault}
use Rattle.nova_runner.specs.declared.making.InitFault.TheVariants as init

-- in no image a mark of a generation above this one
abbrev pub NoLaterMarks : ℕ → List Event → Type 0
NoLaterMarks x h = (y : ℕ) → x < y → Only None (Outcome h (mark_file y))

-- only the journal and the mark of generation 0 may have changed, and nothing was replied
pub record OnlyMade (a b : List Event) : Type 0 where
  pub others : (n : ℕ) → n ≢ journal_file 0 → n ≢ mark_file 0 → current b n ≡ current a n
  pub silent : replies b ≡ replies a

-- A store of this text was made: of generation 0, without versions, its one commit the text's.
pub record Made (store : Held) (text : List ℕ) (a b : List Event) : Type 0 where
  pub generation : store.journal.generation ≡ 0
  pub flow : HasFlow text store.flow
  pub kept : store.flow.text ≡ text
  pub stands : StoreStands store (commit.Flow text ∷ []) b (start store.flow)
  pub stored : FilesStand (current b) (start store.flow)
  pub settled : NoLaterMarks 0 a → IsSettled 0 store.catalog b
  pub only : OnlyMade a b

-- no store is there, or that of this text without versions, of generation 0 and by the text's commit alone
abbrev pub IsMadeOrNot : List ℕ → Files → Type 0
IsMadeOrNot text files =
    IsMark files None
    ⊎ ((flow : Workflow) × HasFlow text flow × FilesStand files (start flow) × ((cat : Entered) × StandsBut 0 (commit.Flow text ∷ []) cat files (ended (start flow))))

-- None was made: a call on a file failed, or nothing was done.
abbrev pub Unmade : InitFault → List ℕ → List Event → List Event → Type 0
Unmade init.Disk text a b = IsMadeOrNot text (current b) × OnlyMade a b
Unmade (init.Flow why) text a b = b ≡ a
Unmade init.NoMemory text a b = b ≡ a

abbrev pub Makes : Bool → List ℕ → List Event → List Event → Held → Type 0
Makes is_honest text a b store = IsTrue is_honest → Made store text a b

abbrev pub Unmakes : Bool → List ℕ → List Event → List Event → InitFault → Type 0
Unmakes is_honest text a b why = IsTrue is_honest → Unmade why text a b

-- why: over a text that says a workflow the disk's count rose; or the text has this first fault; for want of memory and over a refused text no call on a file was made
abbrev pub InitCause : ℕ → ℕ → List ℕ → InitFault → Type 0
InitCause before now text init.Disk = Rose before now × ((flow : Workflow) × HasFlow text flow)
InitCause before now text (init.Flow why) = HasFault text why × (now ≡ before)
InitCause before now text init.NoMemory = now ≡ before

-- ---- inside

-- what memory has of a store before its files are made
pub record IsBlank (text : List ℕ) (made : Blank) : Type 0 where
  pub flow : HasFlow text made.flow
  pub framed : made.framed.items ≡ frame (commit_bytes (commit.Flow text))
  pub catalog : made.catalog ≡ applied (blank (wiring_of made.flow)) (commit.Flow text)
  pub flight : made.flight ≡ idle_slots made.flow
  pub short : length made.framed.items < 2 ^ 62

abbrev pub NotBlank : List ℕ → InitFault → Type 0
NotBlank text init.Disk = ⊥
NotBlank text (init.Flow why) = HasFault text why
NotBlank text init.NoMemory = Unit {0}

-- the journal of generation 0 with this payload alone, and its mark
pub record HasFirst (end : ℕ) (payload : List ℕ) (a b : List Event) : Type 0 where
  pub log : LogTo end (payload ∷ []) (current b (journal_file 0))
  pub marked : IsMark (current b) (Some 0)
  pub journal_settled : Only (current b (journal_file 0)) (Outcome b (journal_file 0))
  pub mark_settled : Only (current b (mark_file 0)) (Outcome b (mark_file 0))
  pub later : NoLaterMarks 0 a → NoLaterMarks 0 b

-- no mark, or both files
abbrev pub HasNoneOrFirst : List ℕ → Files → Type 0
HasNoneOrFirst payload files = IsMark files None ⊎ (IsMark files (Some 0) × ((end : ℕ) × LogTo end (payload ∷ []) (files (journal_file 0))))
