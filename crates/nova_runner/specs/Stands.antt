-- What files stand for.
use Rattle.std.specs.Prelude.{◌≡◌, ◌⊎◌, ℕ, List, [], ◌∷◌, length, map, Option, Some, None, option_map}
use Rattle.nova_outside.specs.Disk.{Files}
use Rattle.nova_journal.specs.Log.{IsLog}
use Rattle.nova_journal.specs.Marks.{IsMark}
use Rattle.nova_path.specs.Lists.{IsOneOf}
use Rattle.nova_path.specs.Shelf.{Span, HasPath}
use Rattle.nova_path.specs.Intervals.{spans}
use Rattle.nova_block.specs.Files.{DamagedAt}
use Rattle.nova_state.specs.Sorts.{plan_sorts}
use Rattle.nova_state_part.specs.Files.{DamagedPartAt}
use Rattle.nova_channel.specs.Reading.{block_file}
use Rattle.nova_commit.specs.Commits.{commit_bytes}
use Rattle.nova_commit.specs.declared.commit.Commit.{Commit}
use Rattle.nova_commit.specs.declared.commit.Commit.TheVariants as commit
use Rattle.nova_meta.specs.declared.captured.Captured.{Captured}
use Rattle.nova_meta.specs.declared.progress.Progress.{Progress}
use Rattle.nova_meta.specs.Catalog.{Entered, Shelved}
use Rattle.nova_meta.specs.Named.{Content, Channel, State as StatePart, IsCatalogOf}
use Rattle.nova_machine.specs.Workflow.{Workflow, plan_in, schema_in}
use Rattle.nova_machine.specs.State.{State, Kept, Done, Capture, ended, kept_at}
use Rattle.nova_machine.specs.Needed.{hops}
use Rattle.nova_runner.specs.Texts.{HasFlow}
use Rattle.nova_runner.specs.Workflow.{wiring_of}
use Rattle.nova_runner.specs.Files.{AreEmpty, Piece, IsNamed, IsStored, journal_file}

-- of a channel: its version, and the spans that have a block
pub record Drawn : Type 0 where
  pub version : ℕ
  pub shelf : List Span

-- of a task: how often it ran, and what its last run captured
pub record Told : Type 0 where
  pub runs : ℕ
  pub last : Option Capture

-- what a catalog has of a state: nothing of the tables, and nothing in flight
pub record Sketch : Type 0 where
  pub channels : List Drawn
  pub tasks : List Told
  pub moment : ℕ

abbrev pub drawn_kept : Kept → Drawn
drawn_kept k = record { version = length k.versions; shelf = k.shelf }

abbrev pub drawn_shelved : Shelved → Drawn
drawn_shelved k = record { version = k.version; shelf = spans k.intervals }

abbrev pub last_of : List Capture → Option Capture
last_of [] = None
last_of (run ∷ []) = Some run
last_of (run ∷ (next ∷ runs)) = last_of (next ∷ runs)

abbrev pub told_done : Done → Told
told_done d = record { runs = length d.runs; last = last_of d.runs }

abbrev pub capture_in : Captured → Capture
capture_in run = record { versions = run.versions; moment = run.moment; seen = run.seen }

abbrev pub told_progress : Progress → Told
told_progress p = record { runs = p.runs; last = option_map capture_in p.last }

unfoldable pub sketch : State → Sketch
sketch s = record { channels = map drawn_kept s.channels; tasks = map told_done s.tasks; moment = s.moment }

unfoldable pub drawn : Entered → Sketch
drawn cat = record { channels = map drawn_shelved cat.channels; tasks = map told_progress cat.tasks; moment = cat.moment }

-- The commits are those of a store of the state's workflow, in order, and their catalog draws the state.
pub record Agrees (commits : List Commit) (cat : Entered) (s : State) : Type 0 where
  pub read : HasFlow s.flow.text s.flow
  pub later : List Commit
  pub begins : commits ≡ commit.Flow s.flow.text ∷ later
  pub catalog : IsCatalogOf (wiring_of s.flow) commits cat
  pub same : drawn cat ≡ sketch s

-- the file is no block of its size, or no part of a state of its task
abbrev pub IsLostAs : Workflow → Option (List ℕ) → ℕ → Content → Type 0
IsLostAs flow file size (Channel c from to) = (at : ℕ) × DamagedAt (schema_in flow c) size file at
IsLostAs flow file size (StatePart t part) = (at : ℕ) × DamagedPartAt (plan_sorts (plan_in flow t).plan) size file at

abbrev pub IsLost : Workflow → Files → Piece → Type 0
IsLost flow files p = IsLostAs flow (files (block_file p.block)) p.size p.content

-- Files stand for a state by a generation, commits and their catalog, but for lost blocks: each block and state part that is named has the state's bytes, or is lost. A session over them goes on until a step reads a lost one.
pub record StandsBut (x : ℕ) (commits : List Commit) (cat : Entered) (files : Files) (s : State) : Type 0 where
  pub marked : IsMark files (Some x)
  pub log : IsLog (map commit_bytes commits) (files (journal_file x))
  pub agrees : Agrees commits cat s
  pub stored : (p : Piece) → IsNamed cat p → IsStored files s p ⊎ IsLost s.flow files p
  pub empty : AreEmpty cat s
  pub paths : (c : ℕ) (h : Span) → IsOneOf (hops s c) h → HasPath (kept_at s c).shelf h.from h.to

-- the same where no block is lost
pub record StandsBy (x : ℕ) (commits : List Commit) (cat : Entered) (files : Files) (s : State) : Type 0 where
  pub but : StandsBut x commits cat files s
  pub stored : (p : Piece) → IsNamed cat p → IsStored files s p

-- Files stand for a state: nothing in flight is in them.
unfoldable pub FilesStand : Files → State → Type 0
FilesStand files s = (x : ℕ) × (commits : List Commit) × (cat : Entered) × StandsBy x commits cat files (ended s)

-- and the same but for lost blocks
unfoldable pub FilesStandBut : Files → State → Type 0
FilesStandBut files s = (x : ℕ) × (commits : List Commit) × (cat : Entered) × StandsBut x commits cat files (ended s)
