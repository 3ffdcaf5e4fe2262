-- A session in the middle of its input.
use Rattle.std.specs.Prelude.{◌≡◌, ℕ, ◌≤◌, true, false, List, [], ◌∷◌, ◌++◌, take, Option, Some, None, if◌then◌else◌}
use Rattle.nova_value.specs.Text.{has_newline}
use Rattle.nova_script.specs.Forms.{command_of, is_dot, is_load}
use Rattle.nova_script.specs.Session.{Item, WithRows, alone, items_from, rows_before_dot, has_dot}
use Rattle.nova_machine.specs.Lines.{lines_of, whole_lines_of}
use Rattle.nova_machine.specs.Commands.{ended_commands}
use Rattle.nova_machine.specs.State.{State}
use Rattle.nova_engine.specs.Loading.{Loading, with_row}

-- the bytes begin with this line, a newline ends it, and these follow
pub record IsNextLine (bytes line more : List ℕ) : Type 0 where
  pub is : bytes ≡ line ++ 10 ∷ more
  pub clean : has_newline line ≡ false

-- what is held of a line: all of it, or so much that the rest doesn't decide what it is
pub record IsFront (held line : List ℕ) : Type 0 where
  pub count : ℕ
  pub enough : 4194305 ≤ count
  pub is : held ≡ take count line

-- the machine's state, the load that is being read, and the bytes of the line that is being read
pub record Position : Type 0 where
  pub state : State
  pub load : Option Loading
  pub carry : List ℕ

-- the load that is being read behind a line
abbrev pub load_after : Option Loading → List ℕ → Option Loading
load_after None line = if is_load line then Some (record { line = line; rows = [] }) else None
load_after (Some load) line = if is_dot line then None else Some (with_row load line)

-- the commands that a line ends
abbrev pub ended_by : Option Loading → List ℕ → List Item
ended_by None line = if is_load line then [] else alone line (command_of line)
ended_by (Some load) line = if is_dot line then WithRows load.line load.rows true ∷ [] else []

-- the commands that the next lines make
abbrev pub items_in : Option Loading → List (List ℕ) → List Item
items_in None ls = items_from false ls
items_in (Some load) ls = WithRows load.line (load.rows ++ rows_before_dot ls) (has_dot ls) ∷ items_from true ls

-- the commands that the next bytes make, and those of them whose last newline is there
abbrev pub items_at : Position → List ℕ → List Item
items_at p more = items_in p.load (lines_of (p.carry ++ more))

abbrev pub whole_items_at : Position → List ℕ → List Item
whole_items_at p more = ended_commands (items_in p.load (whole_lines_of (p.carry ++ more)))

-- the command of a load that the end of the input cuts off
abbrev pub cut_off : Option Loading → List Item
cut_off None = []
cut_off (Some load) = WithRows load.line load.rows false ∷ []
