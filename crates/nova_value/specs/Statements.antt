-- What the laws of this crate say. Each statement is the contract of a function of `laws`.
use Rattle.std.specs.Prelude.{◌≡◌, ◌↔◌, ℕ, ℤ, true, false, List, [], ◌∷◌, ◌++◌, Ok, Err}
use Rattle.std.specs.Cmp.{IsTotalOrder}
use Rattle.std.specs.FinMap.{IsAntisymmetric}
use Rattle.nova_value.specs.declared.value.Value.{Value}
use Rattle.nova_value.specs.declared.schema.Entry.{Entry}
use Rattle.nova_value.specs.declared.schema.Entry.TheVariants.{Put, Removal}
use Rattle.nova_value.specs.declared.fault.RowFault.{RowFault}
use Rattle.nova_value.specs.Text.{has_newline}
use Rattle.nova_value.specs.Order.{value_cmp, key_cmp}
use Rattle.nova_value.specs.Rows.{Shape, IsShape, is_shape, FitsRow, FitsKey, key_at}
use Rattle.nova_value.specs.Line.{row_of_text}
use Rattle.nova_value.specs.RowLine.{row_line, removal_line}
use Rattle.nova_value.specs.Forms.{Spells, LineFails}
use Rattle.nova_value.specs.Wrapped.{wrapped, IsWrapped}

-- these bytes are one line, and without its newline it spells the entry
pub record IsLineOf (s : Shape) (line : List ℕ) (e : Entry) : Type 0 where
  pub text : List ℕ
  pub is_line : line ≡ text ++ 10 ∷ []
  pub one_line : has_newline text ≡ false
  pub is_read : row_of_text text s ≡ Ok e

-- the row line of a row that fits is read back as a put of the row
abbrev pub RowsReadBack : Type 0
RowsReadBack = (s : Shape) (row : List Value) → IsShape s → FitsRow s row → IsLineOf s (row_line row) (Put row)

-- and the line that removes a key as a removal of the key
abbrev pub RemovalsReadBack : Type 0
RemovalsReadBack = (s : Shape) (key : List Value) → IsShape s → FitsKey s key → IsLineOf s (removal_line key) (Removal key)

-- any two are in order one way or the other, and those that are so both ways are equal
pub record IsExactOrder : Type 0 where
  pub values : IsTotalOrder value_cmp
  pub exact_values : IsAntisymmetric value_cmp
  pub keys : IsTotalOrder key_cmp
  pub exact_keys : IsAntisymmetric key_cmp

-- the key of a row that fits has one value of its kind for each key column
abbrev pub KeysFit : Type 0
KeysFit = (s : Shape) (row : List Value) → IsShape s → FitsRow s row → FitsKey s (key_at s.key row)

-- the lines that spell an entry are exactly those of the forms
abbrev pub LinesAreForms : Type 0
LinesAreForms = (s : Shape) → IsShape s → (line : List ℕ) (e : Entry) → has_newline line ≡ false → (row_of_text line s ≡ Ok e) ↔ Spells s line e

-- and each other line fails exactly as the forms say, so it has one fault
abbrev pub FaultsAreForms : Type 0
FaultsAreForms = (s : Shape) → (line : List ℕ) (fault : RowFault) → has_newline line ≡ false → (row_of_text line s ≡ Err fault) ↔ LineFails s line fault

-- the wrapped number is the one number of 64 bits that is congruent to x modulo 2^64
abbrev pub WrapsToOne : Type 0
WrapsToOne = (x n : ℤ) → IsWrapped x n ↔ (n ≡ wrapped x)

-- the test of a schema passes exactly what is one
abbrev pub SchemasAreTested : Type 0
SchemasAreTested = (s : Shape) → (is_shape s ≡ true) ↔ IsShape s
