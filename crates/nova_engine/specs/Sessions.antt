-- What a session tells: its replies, what the files hold behind it, and how much it read.
use Rattle.std.specs.Prelude.{◌≡◌, ◌⊎◌, ℕ, ◌+◌, ◌≤◌, ◌<◌, ◌^◌, Bool, List, [], ◌∷◌, ◌++◌, length, map, Option, Some, IsTrue}
use Rattle.nova_outside.specs.Disk.{Files}
use Rattle.nova_outside.specs.History.{Begins, current, replies}
use Rattle.nova_journal.specs.Log.{LogTo}
use Rattle.nova_commit.specs.Commits.{commit_bytes}
use Rattle.nova_commit.specs.declared.commit.Commit.{Commit}
use Rattle.nova_meta.specs.Catalog.{Entered}
use Rattle.nova_script.specs.Replies as line
use Rattle.nova_machine.specs.State.{State}
use Rattle.nova_machine.specs.Steps.{Step, after_all}
use Rattle.nova_machine.specs.Commands.{commands_of, whole_commands_of}
use Rattle.nova_building.specs.Building.{built_steps}
use Rattle.nova_machine.specs.Replies.{reply_to, text}
use Rattle.nova_runner.specs.Acts.{IsFull, IsStepDamage, own_commit}
use Rattle.nova_runner.specs.Files.{IsSettled, journal_file}
use Rattle.nova_runner.specs.Held.{Held}
use Rattle.nova_runner.specs.Steps.{IsKeptBy, StoreStands}
use Rattle.nova_engine.specs.Seen.{Seen}
use Rattle.nova_engine.specs.Turns.{IsTheirs, NoneDamaged, StaysShort, catalog_after, first, own_commits, read_sizes}
use Rattle.nova_engine.specs.declared.status.Status.{Status}
use Rattle.nova_engine.specs.declared.status.Status.TheVariants.{Done, ReadFault, DiskFault, ReplyFault, Damaged, Full, InputTooLong}

-- the steps of a whole session, from the state that it was opened with
abbrev pub session_steps : State → List ℕ → List Step
session_steps opened input = built_steps opened (commands_of input)

-- the steps of those of its commands whose last newline is among these bytes
abbrev pub whole_steps : State → List ℕ → List Step
whole_steps opened taken = built_steps opened (whole_commands_of taken)

-- Some steps of a session were done, and these are left: of a store of generation x whose commits, catalog and state were these when it was opened.
module _ (x : ℕ) (commits : List Commit) (cat : Entered) (opened : State) (done later : List Step) where
  -- the files stand for the state behind these steps, by the commits from before and the steps' own, and no block was lost
  abbrev pub IsKeptBehind : List Step → Files → Files → Type 0
  IsKeptBehind xs old new = IsKeptBy x (commits ++ own_commits cat opened xs) cat (catalog_after cat opened xs) old new (after_all opened xs)

  -- the next step's commit has no room in the journal, or a counter none
  pub record FullNext (files : Files) : Type 0 where
    pub step : Step
    pub more : List Step
    pub next : later ≡ step ∷ more
    pub own : Commit
    pub is : own_commit (catalog_after cat opened done) (after_all opened done) step ≡ Some own
    pub end : ℕ
    pub long : LogTo end (map commit_bytes (commits ++ own_commits cat opened done)) (files (journal_file x))
    pub full : IsFull end (catalog_after cat opened done) own

  -- the next step reads a lost block: this is the first one that it reads
  pub record DamagedNext (files : Files) (file at : ℕ) : Type 0 where
    pub step : Step
    pub more : List Step
    pub next : later ≡ step ∷ more
    pub is : IsStepDamage opened.flow (catalog_after cat opened done) files step file at

  -- the reply of the last step that was done failed: a front of it was given
  pub record BrokenReply (given : List ℕ) : Type 0 where
    pub before : List Step
    pub step : Step
    pub last : done ≡ before ++ step ∷ []
    pub front : List ℕ
    pub begins : Begins front (reply_to (after_all opened before) step)
    pub is : given ≡ text opened before ++ front

  -- the line that tells the damage failed
  pub record BrokenLine (files : Files) (given : List ℕ) : Type 0 where
    pub file : ℕ
    pub at : ℕ
    pub damaged : DamagedNext files file at
    pub front : List ℕ
    pub begins : Begins front (line.damaged file at)
    pub is : given ≡ text opened done ++ front

  -- the text of the steps that were done, and behind it the line that tells where the next one found damage
  pub record DamageLine (files : Files) (given : List ℕ) : Type 0 where
    pub file : ℕ
    pub at : ℕ
    pub damaged : DamagedNext files file at
    pub is : given ≡ text opened done ++ line.damaged file at

  -- what was replied, by the status
  abbrev pub GivenBy : Status → Files → List ℕ → Type 0
  GivenBy ReplyFault files given = BrokenReply given ⊎ BrokenLine files given
  GivenBy Damaged files given = DamageLine files given
  GivenBy _ files given = given ≡ text opened done

  -- the next step's call on a file failed when its commit was there
  pub record OneMore (old new : Files) : Type 0 where
    pub step : Step
    pub more : List Step
    pub next : later ≡ step ∷ more
    pub kept : IsKeptBehind (done ++ step ∷ []) old new
    pub room : StaysShort commits (own_commits cat opened (done ++ step ∷ []))

-- the steps that may have changed files: after a failed call on a file one more than were done
abbrev pub reached : Status → List Step → List Step → List Step
reached DiskFault done later = done ++ first later
reached _ done later = done

-- no call on a file and no reply failed
abbrev pub IsSteady : Status → Type 0
IsSteady DiskFault = ⊥
IsSteady ReplyFault = ⊥
IsSteady _ = Unit {0}

-- A session ended behind some of its steps, of which each was done whole and in turn.
pub record SessionTold (status : Status) (x : ℕ) (commits : List Commit) (cat : Entered) (opened : State) (input taken : List ℕ) (a b : Seen) : Type 0 where
  pub done : List Step
  pub later : List Step
  pub parts : session_steps opened input ≡ done ++ later
  pub given : List ℕ
  pub replied : replies b.history ≡ replies a.history ++ given
  pub gives : GivenBy x commits cat opened done later status (current b.history) given
  -- after a failed call on a file perhaps behind one step more
  pub kept : IsKeptBehind x commits cat opened done later done (current a.history) (current b.history)
      ⊎ ((status ≡ DiskFault) × OneMore x commits cat opened done later (current a.history) (current b.history))
  -- nothing is pending on the files that decide what the store is, where nothing was and no such call failed
  pub settled : IsSteady status → IsSettled x cat a.history → IsSettled x (catalog_after cat opened done) b.history
  -- none of them read a lost block, by the files as they are now: a step that does is never done, and no step behind it
  pub undamaged : NoneDamaged (current b.history) cat opened done
  -- no commit is kept past 2^62 bytes of journal
  pub room : StaysShort commits (own_commits cat opened done)
  -- every file that these steps' commits don't name reads as before
  pub others : (n : ℕ) → (IsTheirs x (own_commits cat opened (reached status done later)) n → ⊥) → current b.history n ≡ current a.history n
  pub full : status ≡ Full → FullNext x commits cat opened done later (current b.history)
  -- a read that failed, or an input that was too long: the commands that were taken whole
  pub cut : (status ≡ ReadFault) ⊎ (status ≡ InputTooLong) → done ≡ whole_steps opened taken
  pub whole : status ≡ Done → later ≡ []
  -- of blocks no more was read than these steps and the next one read at most
  pub reads : b.read ≤ a.read + read_sizes cat opened (done ++ first later)

-- The call took the first bytes of the input, of which these are left.
pub record Took (status : Status) (input : List ℕ) (left : Option (List ℕ)) (taken : List ℕ) : Type 0 where
  pub rest : List ℕ
  pub left_is : left ≡ Some rest
  pub input_is : input ≡ taken ++ rest
  pub bound : length taken ≤ 2 ^ 40 + 1
  pub done : status ≡ Done → rest ≡ []
  pub long : status ≡ InputTooLong → 2 ^ 40 < length taken
  pub short : (status ≡ Done) ⊎ (status ≡ ReadFault) → length taken ≤ 2 ^ 40

-- a session of a store, from each state that the store stood for
pub record Ran (status : Status) (is_honest : Bool) (store : Held) (input : List ℕ) (left : Option (List ℕ)) (a b : Seen) : Type 0 where
  pub taken : List ℕ
  pub took : Took status input left taken
  pub told : IsTrue is_honest → (commits : List Commit) (opened : State) → StoreStands store commits a.history opened
      → SessionTold status store.journal.generation commits store.catalog opened input taken a b
