-- What a call of the program tells: `init`, and `run` over any files.
use Rattle.std.specs.Prelude.{◌≡◌, ◌≢◌, ◌⊎◌, ℕ, ◌+◌, ◌≤◌, List, [], ◌∷◌, ◌++◌, length, Option, Some, None}
use Rattle.nova_outside.specs.Disk.{Files}
use Rattle.nova_outside.specs.History.{Begins, Event, current, replies}
use Rattle.nova_journal.specs.Log.{file_length}
use Rattle.nova_journal.specs.Marks.{IsMark}
use Rattle.nova_commit.specs.declared.commit.Commit.{Commit}
use Rattle.nova_commit.specs.declared.commit.Commit.TheVariants as commit
use Rattle.nova_meta.specs.Catalog.{Entered}
use Rattle.nova_script.specs.Replies as line
use Rattle.nova_machine.specs.Workflow.{Workflow}
use Rattle.nova_machine.specs.State.{State, ended, start}
use Rattle.nova_machine.specs.Reachable.{IsReachable}
use Rattle.nova_runner.specs.Files.{IsSettled, journal_file, mark_file}
use Rattle.nova_runner.specs.Making.{NoLaterMarks}
use Rattle.nova_runner.specs.Opening.{IsBadStore}
use Rattle.nova_runner.specs.Stands.{FilesStand, StandsBut}
use Rattle.nova_engine.specs.Damage.{IsBadRead, TellsDamage}
use Rattle.nova_runner.specs.Texts.{HasFault, HasFlow}
use Rattle.nova_runner.specs.declared.text.TextFault.{TextFault}
use Rattle.nova_engine.specs.Refused.{refused_line}
use Rattle.nova_engine.specs.Seen.{Seen}
use Rattle.nova_engine.specs.Taken.{ReadText, TookText}
use Rattle.nova_engine.specs.Sessions.{SessionTold, Took}
use Rattle.nova_engine.specs.Status.{IsSessionEnd, code_of}
use Rattle.nova_engine.specs.declared.status.Status.{Status}
use Rattle.nova_engine.specs.declared.status.Status.TheVariants as exit

abbrev pub HasMark : Files → Type 0
HasMark files = (x : ℕ) × IsMark files (Some x)

-- each file reads as before
abbrev pub ReadSame : Seen → Seen → Type 0
ReadSame a b = (n : ℕ) → current b.history n ≡ current a.history n

abbrev pub Gave : Seen → Seen → List ℕ → Type 0
Gave a b given = replies b.history ≡ replies a.history ++ given

-- a line whose reply broke off
abbrev pub GaveFront : Seen → Seen → List ℕ → Type 0
GaveFront a b line = (front : List ℕ) × Begins front line × Gave a b front

-- ---- init

-- By its status, what a call that makes a store leaves where one was there: its text wasn't read.
abbrev pub InitRefused : Status → Seen → Seen → Type 0
InitRefused exit.StoreThere a b = b ≡ a
InitRefused exit.DiskFault a b = b ≡ a
InitRefused _ a b = ⊥

-- Of a store of this workflow:
module _ (flow : Workflow) where
  -- files stand for the workflow's store without versions
  abbrev pub IsNew : Files → Type 0
  IsNew files = FilesStand files (start flow)

  -- and are of generation 0, with the workflow's commit alone
  pub record IsFirst (files : Files) : Type 0 where
    pub new : IsNew files
    pub catalog : Entered
    pub by : StandsBut 0 (commit.Flow flow.text ∷ []) catalog files (ended (start flow))

  -- nothing is pending on its files, where nothing was on later marks
  pub record IsMade (a b : List Event) : Type 0 where
    pub first : IsFirst (current b)
    pub settled : NoLaterMarks 0 a → IsSettled 0 first.catalog b

  -- it tells the numbers of its channels and tasks
  abbrev pub ready_line : List ℕ
  ready_line = line.ready (length flow.channels) (length flow.tasks)

-- of a text that was read:
module _ (text : List ℕ) where
  -- it says a workflow, whose store was made: all of its line was given, or the front of it
  pub record ReadyTold (Given : List ℕ → Type 0) (a b : Seen) : Type 0 where
    pub flow : Workflow
    pub says : HasFlow text flow
    pub given : Given (ready_line flow)
    pub made : IsMade flow a.history b.history

  -- it has a first fault, and no file changed: all of the fault's line was given, or the front of it
  pub record RefusalTold (Given : List ℕ → Type 0) (a b : Seen) : Type 0 where
    pub why : TextFault
    pub has : HasFault text why
    pub given : Given (refused_line why)
    pub files : ReadSame a b

  -- no store is there, or that of the workflow that the text says
  abbrev pub HasNoneOrFirst : Files → Type 0
  HasNoneOrFirst files = IsMark files None ⊎ ((flow : Workflow) × HasFlow text flow × IsFirst flow files)

  -- by its status, what the call leaves where none was there
  abbrev pub InitMade : Status → Seen → Seen → Type 0
  InitMade exit.Done a b = ReadyTold (Gave a b) a b
  InitMade exit.FlowRefused a b = RefusalTold (Gave a b) a b
  InitMade exit.ReplyFault a b = ReadyTold (GaveFront a b) a b ⊎ RefusalTold (GaveFront a b) a b
  InitMade exit.DiskFault a b = Gave a b [] × HasNoneOrFirst (current b.history)
  InitMade exit.ReadFault a b = b ≡ a
  InitMade exit.NoMemory a b = b ≡ a
  InitMade _ a b = ⊥

  pub record InitTold (status : Status) (a b : Seen) : Type 0 where
    pub made : IsMark (current a.history) None → InitMade status a b
    pub refused : HasMark (current a.history) → InitRefused status a b
    pub there : status ≡ exit.StoreThere → HasMark (current a.history)
    -- no file but the journal and the mark of generation 0 changes
    pub others : (n : ℕ) → n ≢ journal_file 0 → n ≢ mark_file 0 → current b.history n ≡ current a.history n
    pub reads : b.read ≡ a.read

-- these ends follow a text that was read
abbrev pub IsOfText : Status → Type 0
IsOfText exit.Done = Unit {0}
IsOfText exit.FlowRefused = Unit {0}
IsOfText exit.ReplyFault = Unit {0}
IsOfText _ = ⊥

-- What `init` tells: of a text, which is the source's where the source tells its bytes.
pub record InitRead (status : Status) (left new : Option (List ℕ)) (a b : Seen) : Type 0 where
  pub text : List ℕ
  pub told : InitTold text status a b
  pub read : IsOfText status → (input : List ℕ) → left ≡ Some input → ReadText input new text
  -- and no more of it was taken than a text may have, and one byte
  pub took : (input : List ℕ) → left ≡ Some input → (taken : List ℕ) × TookText input new taken

-- ---- run, where no store is opened

-- what is replied over files that aren't a store's
abbrev pub BadTold : Status → ℕ → ℕ → Seen → Seen → Type 0
BadTold exit.Damaged file at a b = Gave a b (line.damaged file at)
BadTold exit.ReplyFault file at a b = GaveFront a b (line.damaged file at)
BadTold exit.DiskFault file at a b = Gave a b []
BadTold exit.NoMemory file at a b = Gave a b []
BadTold _ file at a b = ⊥

abbrev pub MissingTold : Status → Seen → Seen → Type 0
MissingTold exit.NoStore a b = Gave a b []
MissingTold exit.DiskFault a b = Gave a b []
MissingTold _ a b = ⊥

-- the input wasn't read, and no file changed
pub record LeftAlone (SourceLeft : Type 0) (a b : Seen) : Type 0 where
  pub source : SourceLeft
  pub files : ReadSame a b

-- over an honest host, whatever the source tells
pub record FilesTold (status : Status) (SourceLeft : Type 0) (a b : Seen) : Type 0 where
  pub missing : IsMark (current a.history) None → MissingTold status a b × LeftAlone SourceLeft a b
  pub bad : (file at : ℕ) → IsBadStore (current a.history) file at → BadTold status file at a b × LeftAlone SourceLeft a b
  pub no_store : status ≡ exit.NoStore → IsMark (current a.history) None
  -- 9 has its cause: the files were a bad store, or a block of the store that they are now is none
  pub damaged : status ≡ exit.Damaged → TellsDamage (λ file at. IsBadStore (current a.history) file at ⊎ IsBadRead (current b.history) file at) a.history b.history
  -- without a mark nothing was read, and of a bad store no more than its journal
  pub missing_reads : IsMark (current a.history) None → b.read ≡ a.read
  pub bad_reads : (file at : ℕ) → IsBadStore (current a.history) file at → b.read ≤ a.read + file_length (current a.history file)

-- ---- run, over a store

-- Seen from here a session that read no blocks yet but the journal of generation x.
abbrev pub opened_from : ℕ → Seen → Seen
opened_from x a = record { history = a.history; read = a.read + file_length (current a.history (journal_file x)) }

-- The files were a store's but for lost blocks, of this generation, these commits and this catalog, and the call was a session of it.
pub record StoreTold (status : Status) (x : ℕ) (commits : List Commit) (cat : Entered) (opened : State) (input taken : List ℕ) (a b : Seen) : Type 0 where
  pub ends : IsSessionEnd status
  pub session : SessionTold status x commits cat opened input taken (opened_from x a) b

-- or it ended before its input was read
abbrev pub EndsEarly : Status → Type 0
EndsEarly exit.NoMemory = Unit {0}
EndsEarly exit.DiskFault = Unit {0}
EndsEarly _ = ⊥

pub record EndedEarly (status : Status) (taken : List ℕ) (a b : Seen) : Type 0 where
  pub early : EndsEarly status
  pub unread : taken ≡ []
  pub silent : Gave a b []
  pub files : ReadSame a b
  -- and no more was read than the journal
  pub reads : (x : ℕ) → IsMark (current a.history) (Some x) → b.read ≤ a.read + file_length (current a.history (journal_file x))

-- `run` over an honest host and a source that tells: for whatever state the files stood for but for lost blocks, with nothing in flight, and whatever they stood by
pub record RunTold (status : Status) (input : List ℕ) (left : Option (List ℕ)) (a b : Seen) : Type 0 where
  pub taken : List ℕ
  pub took : Took status input left taken
  pub session : (x : ℕ) (commits : List Commit) (cat : Entered) (opened : State) → IsReachable opened → StandsBut x commits cat (current a.history) (ended opened)
      → StoreTold status x commits cat (ended opened) input taken a b ⊎ EndedEarly status taken a b

-- ---- by the statuses' numbers

pub record Tells (number : ℕ) (Told : Status → Type 0) : Type 0 where
  pub status : Status
  pub is : number ≡ code_of status
  pub told : Told status
