-- What the functions that read a line say of their answers.
use Rattle.std.specs.Prelude.{◌≡◌, ◌≢◌, ℕ, ◌<◌, List, [], length, Option, Some, None, Result, Ok, Err, slice_index}
use Rattle.nova_value.specs.declared.fault.RowFault.{RowFault}
use Rattle.nova_value.specs.declared.fault.RowFault.TheVariants.{WrongSign, FieldCount, BadNumber, TooLong, NotUtf8, NoMemory}
use Rattle.nova_value.specs.Line.{fields}

-- a fault that was answered is that of the reading, unless memory ran out
abbrev pub Fails : {Y : Type 0} → RowFault → Result Y RowFault → Type 0
Fails NoMemory read = Unit {0}
Fails WrongSign read = read ≡ Err WrongSign
Fails FieldCount read = read ≡ Err FieldCount
Fails (BadNumber n) read = read ≡ Err (BadNumber n)
Fails (TooLong n) read = read ≡ Err (TooLong n)
Fails (NotUtf8 n) read = read ≡ Err (NotUtf8 n)

-- an answer, seen by view, is what the reading gives, unless memory ran out
abbrev pub IsReadingOf : {X Y : Type 0} → (X → Y) → Result X RowFault → Result Y RowFault → Type 0
IsReadingOf view (Ok x) read = read ≡ Ok (view x)
IsReadingOf view (Err e) read = Fails e read

-- the fields after a tab, if there was one
abbrev pub rest_fields : Option (List ℕ) → List (List ℕ)
rest_fields None = []
rest_fields (Some bs) = fields bs

-- the first tab stands there
pub record IsFirstTab (bs : List ℕ) (at : ℕ) : Type 0 where
  pub in_range : at < length bs
  pub is_tab : slice_index bs at ≡ 9
  pub none_before : (j : ℕ) → j < at → slice_index bs j ≢ 9
