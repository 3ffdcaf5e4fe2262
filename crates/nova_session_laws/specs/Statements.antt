-- What the laws of this crate say.
use Rattle.std.specs.Prelude.{◌≡◌, ℕ, List, ◌++◌, Ok, Err, Bool}
use Rattle.std.specs.List.{list_any}
use Rattle.std.specs.Ordering.{eq_by_cmp}
use Rattle.nova_value.specs.declared.value.Value.{Value}
use Rattle.nova_value.specs.declared.schema.Entry.{Entry}
use Rattle.nova_value.specs.Order.{key_cmp}
use Rattle.nova_value.specs.Rows.{Shape}
use Rattle.nova_value.specs.Entries.{entry_key}
use Rattle.nova_machine.specs.Workflow.{schema_in}
use Rattle.nova_machine.specs.Versions.{has}
use Rattle.nova_machine.specs.State.{State}
use Rattle.nova_machine.specs.Steps.{loaded_version}
use Rattle.nova_machine.specs.Lines.{lines_of, whole_lines_of}
use Rattle.nova_machine.specs.Commands.{commands_of, read_rows, whole_commands_of}
use Rattle.nova_session_laws.specs.Cuts.{AreFirst, IsCut, last_line}
use Rattle.nova_session_laws.specs.Rows.{AreEntries, IsFirstBadLine}

-- any bytes are whole lines and a rest
abbrev pub BytesAreCut : Type 0
BytesAreCut = (bytes : List ℕ) → (whole : List (List ℕ)) × (rest : List ℕ) × IsCut bytes whole rest

-- and these are their lines: the whole ones, and the rest where it has a byte
abbrev pub LinesJoin : Type 0
LinesJoin = (bytes : List ℕ) (whole : List (List ℕ)) (rest : List ℕ) → IsCut bytes whole rest →
    (lines_of bytes ≡ whole ++ last_line rest) × (whole_lines_of bytes ≡ whole)

-- commands whose last newline is among the bytes come first
abbrev pub WholeCommandsAreFirst : Type 0
WholeCommandsAreFirst = (bytes : List ℕ) → AreFirst (whole_commands_of bytes) (commands_of bytes)

-- what is read of lines is their entries, or the number of the first that is no row
abbrev pub RowsAreRead : Type 0
RowsAreRead = (schema : Shape) (first : ℕ) (lines : List (List ℕ)) →
    ((entries : List Entry) → AreEntries schema lines entries → read_rows schema first lines ≡ Ok entries)
    × ((number : ℕ) → IsFirstBadLine schema first lines number → read_rows schema first lines ≡ Err number)

-- and lines are one or the other
abbrev pub RowsRead : Type 0
RowsRead = (schema : Shape) (first : ℕ) (lines : List (List ℕ)) →
    ((entries : List Entry) → read_rows schema first lines ≡ Ok entries → AreEntries schema lines entries)
    × ((number : ℕ) → read_rows schema first lines ≡ Err number → IsFirstBadLine schema first lines number)

-- some entry is at this key
abbrev pub names_key : Shape → List Entry → List Value → Bool
names_key schema entries q = list_any (λ (e : Entry). eq_by_cmp key_cmp q (entry_key schema e)) entries

-- the version that a load makes wrote the keys of the load's entries
abbrev pub LoadsWriteTheirKeys : Type 0
LoadsWriteTheirKeys = (s : State) (c : ℕ) (entries : List Entry) (q : List Value) →
    has (loaded_version s c entries).wrote q ≡ names_key (schema_in s.flow c) entries q
