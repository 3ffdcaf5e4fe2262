-- The files of a store: the journal of a generation, its mark, and the blocks that a catalog names.
use Rattle.std.specs.Prelude.{◌≡◌, ◌⊎◌, ℕ, ◌+◌, ◌*◌, ◌≤◌, List, length, Some, None, slice_index_or}
use Rattle.nova_outside.specs.Disk.{Files, Only}
use Rattle.nova_outside.specs.History.{Event, current, Outcome}
use Rattle.nova_channel.specs.Reading.{block_file}
use Rattle.nova_row_codec.specs.Spelling.{spelling_of}
use Rattle.nova_groups.specs.State.{StateValue}
use Rattle.nova_groups.specs.Parts.{part, part_of}
use Rattle.nova_group_codec.specs.Spelling.{state_bytes}
use Rattle.nova_pig_pattern.specs.declared.task.PatternKind.TheVariants.{Stateful}
use Rattle.nova_execution.specs.Groups.{no_state, state_at}
use Rattle.nova_machine.specs.Workflow.{main_place, plan_in, task_in}
use Rattle.nova_machine.specs.State.{State, block_at}
use Rattle.nova_machine.specs.Due.{cursor}
use Rattle.nova_meta.specs.Catalog.{Entered, progress_at}
use Rattle.nova_meta.specs.Named.{Content, Channel, State as StatePart, Names}

abbrev pub journal_file : ℕ → ℕ
journal_file x = 4 * x

abbrev pub mark_file : ℕ → ℕ
mark_file x = 4 * x + 1

-- a block: what it holds, the number that its file is named by, and the size of the file
pub record Piece : Type 0 where
  pub content : Content
  pub block : ℕ
  pub size : ℕ

-- the catalog names it
abbrev pub IsNamed : Entered → Piece → Type 0
IsNamed cat p = Names cat p.content p.block p.size

-- the state that a grouping task keeps: that of the version of its main input which its last run captured
abbrev pub kept_state : State → ℕ → StateValue
kept_state s t = state_at s t (cursor s t (main_place (task_in s.flow t).inputs))

-- the bytes of a content in a state: of a channel's interval the spelling of its block, of a part of a task's state that of the part
abbrev pub bytes_of : State → Content → List ℕ
bytes_of s (Channel c from to) = spelling_of (block_at s c from to)
bytes_of s (StatePart t number) = state_bytes (part_of part number (kept_state s t))

-- its file has exactly the bytes of its content, and its size is their number
pub record IsStored (files : Files) (s : State) (p : Piece) : Type 0 where
  pub file : files (block_file p.block) ≡ Some (bytes_of s p.content)
  pub long : p.size ≡ length (bytes_of s p.content)

-- a part of a grouping task's state that has no file is empty
abbrev pub AreEmpty : Entered → State → Type 0
AreEmpty cat s = (t number : ℕ) → (plan_in s.flow t).pattern ≡ Stateful → slice_index_or (progress_at cat t).parts number None ≡ None → part_of part number (kept_state s t) ≡ no_state

-- a file that decides what a store is: the mark of its generation or of a later one, its journal, a block that its catalog names
abbrev pub Decides : ℕ → Entered → ℕ → Type 0
Decides x cat n = ((y : ℕ) × (x ≤ y) × (n ≡ mark_file y)) ⊎ ((n ≡ journal_file x) ⊎ ((p : Piece) × IsNamed cat p × (n ≡ block_file p.block)))

-- Nothing is pending on a file that decides: a crash leaves of it what is read now.
abbrev pub IsSettled : ℕ → Entered → List Event → Type 0
IsSettled x cat h = (n : ℕ) → Decides x cat n → Only (current h n) (Outcome h n)
