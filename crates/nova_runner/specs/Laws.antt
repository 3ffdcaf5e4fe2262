-- What holds of files and stores, whatever commands there are.
use Rattle.std.specs.Prelude.{◌≡◌, ◌⊎◌, ℕ, ◌<◌, ◌^◌, ◌++◌, ◌∷◌, [], List, map, true, IfSome}
use Rattle.nova_outside.specs.Disk.{Files, IsImage}
use Rattle.nova_outside.specs.History.{Event, Outcome, current}
use Rattle.nova_journal.specs.Log.{IsLog}
use Rattle.nova_value.specs.declared.schema.Entry.{Entry}
use Rattle.nova_delta.specs.Merge.{DeltaValue}
use Rattle.nova_commit.specs.Commits.{Fits, commit_bytes}
use Rattle.nova_meta.specs.Catalog.{Entered, allows, applied}
use Rattle.nova_commit.specs.declared.commit.Commit.{Commit}
use Rattle.nova_commit.specs.declared.commit.Commit.TheVariants as commit
use Rattle.nova_block.specs.Files.{HoldsBlock}
use Rattle.nova_row_codec.specs.Written.{IsBytes}
use Rattle.nova_channel.specs.Reading.{block_file}
use Rattle.nova_groups.specs.State.{StateValue}
use Rattle.nova_state.specs.Sorts.{plan_sorts}
use Rattle.nova_state_part.specs.Files.{HoldsPart}
use Rattle.nova_meta.specs.Named.{Channel, State as StatePart}
use Rattle.nova_machine.specs.Workflow.{Workflow, plan_in, schema_in}
use Rattle.nova_machine.specs.State.{State, ended}
use Rattle.nova_machine.specs.Steps.{Load, Step, Tick, after, load_delta}
use Rattle.nova_machine.specs.Reachable.{IsMade, IsReachable}
use Rattle.nova_row_codec.specs.Spelling.{spelling_of}
use Rattle.nova_runner.specs.Acts.{IsStepDamage, load_block, load_commit}
use Rattle.nova_runner.specs.Committing.{Leads}
use Rattle.nova_runner.specs.Files.{Decides, IsSettled, Piece, IsNamed, IsStored, journal_file}
use Rattle.nova_runner.specs.Stands.{IsLost, StandsBut, StandsBy}
use Rattle.nova_runner.specs.Steps.{LosesNone}
use Rattle.nova_runner.specs.Workflow.{wiring_of}
use Rattle.nova_runner.specs.declared.ready.Fresh.{Fresh}

-- only the files that decide count
abbrev pub DecidingFilesDecide : Type 0
DecidingFilesDecide = (x : ℕ) (commits : List Commit) (cat : Entered) (old new : Files) (s : State) →
    ((n : ℕ) → Decides x cat n → new n ≡ old n) → StandsBut x commits cat old s → StandsBut x commits cat new s

-- so each image of a settled host stands for what its reading stands for
abbrev pub SettledImagesStand : Type 0
SettledImagesStand = (x : ℕ) (commits : List Commit) (cat : Entered) (h : List Event) (image : Files) (s : State) →
    IsSettled x cat h → StandsBy x commits cat (current h) s → IsImage (Outcome h) image → StandsBy x commits cat image s

-- a commit behind the others, once its blocks are there: the one rule of all commands that write
abbrev pub CommitsLead : Type 0
CommitsLead = (x : ℕ) (commits : List Commit) (own : Commit) (cat : Entered) (old new : Files) (s t : State) (fresh : List Fresh) →
    StandsBut x commits cat old (ended s) → Leads cat s t own fresh
    → ((n : ℕ) → Decides x cat n → (n ≡ journal_file x → ⊥) → new n ≡ old n)
    → ((p : Piece) → IsNamed (applied cat own) p → IsNamed cat p ⊎ IsStored new (ended t) p)
    → IsLog (map commit_bytes (commits ++ own ∷ [])) (new (journal_file x))
    → StandsBut x (commits ++ own ∷ []) (applied cat own) new (ended t)

-- a block that is stored isn't lost
abbrev pub StoredIsNotLost : Type 0
StoredIsNotLost = (x : ℕ) (commits : List Commit) (cat : Entered) (files : Files) (s : State) (p : Piece) →
    IsReachable s → StandsBut x commits cat files (ended s) → IsNamed cat p → IsStored files (ended s) p → IsLost s.flow files p → ⊥

-- and where its file is no block of its size and schema it is lost
abbrev pub IsBlockOrLost : Type 0
IsBlockOrLost = (flow : Workflow) (files : Files) (c from to block size : ℕ) → IfSome (files (block_file block)) IsBytes →
    ((d : DeltaValue) × HoldsBlock (schema_in flow c) size (files (block_file block)) d) ⊎ IsLost flow files (record { content = Channel c from to; block = block; size = size })

-- so it is with the file of a state part
abbrev pub IsPartOrLost : Type 0
IsPartOrLost = (flow : Workflow) (files : Files) (t part block size : ℕ) → IfSome (files (block_file block)) IsBytes →
    ((st : StateValue) × HoldsPart (plan_sorts (plan_in flow t).plan) size (files (block_file block)) st) ⊎ IsLost flow files (record { content = StatePart t part; block = block; size = size })

-- so files that stood for a state go on to stand for one where no block is lost
abbrev pub NoLossIsKept : Type 0
NoLossIsKept = (x y : ℕ) (commits later : List Commit) (was cat : Entered) (old new : Files) (s t : State) →
    IsReachable s → t.flow ≡ s.flow → StandsBy x commits was old (ended s) → StandsBut y later cat new (ended t) → LosesNone t.flow was cat old new
    → StandsBy y later cat new (ended t)

-- where files stand for a state that commands reach, no step tells damage
abbrev pub NoStepDamage : Type 0
NoStepDamage = (x : ℕ) (commits : List Commit) (cat : Entered) (files : Files) (s : State) (step : Step) (file at : ℕ) →
    IsReachable s → StandsBy x commits cat files (ended s) → IsMade s step → IsStepDamage s.flow cat files step file at → ⊥

-- the commit of a load leads to the state behind it
abbrev pub LoadsLead : Type 0
LoadsLead = (x : ℕ) (commits : List Commit) (cat : Entered) (files : Files) (s : State) (c : ℕ) (entries : List Entry) (delta : DeltaValue) (fresh : Fresh) →
    IsReachable s → cat.wiring ≡ wiring_of s.flow → StandsBut x commits cat files (ended s) → IsMade s (Load c entries)
    → delta ≡ record { schema = schema_in s.flow c; entries = load_delta (schema_in s.flow c) entries }
    → fresh.block ≡ cat.next → fresh.bytes.items ≡ spelling_of (load_block cat c delta)
    → Fits (load_commit cat c delta) → allows cat (load_commit cat c delta) ≡ true
    → Leads cat s (after s (Load c entries)) (load_commit cat c delta) (fresh ∷ [])

-- the commit of a tick leads to the state behind it, and brings no blocks
abbrev pub TicksLead : Type 0
TicksLead = (x : ℕ) (commits : List Commit) (cat : Entered) (files : Files) (s : State) (m : ℕ) →
    IsReachable s → StandsBut x commits cat files (ended s) → IsMade s (Tick m) → m < 2 ^ 64 → allows cat (commit.Tick m) ≡ true
    → Leads cat s (after s (Tick m)) (commit.Tick m) []
