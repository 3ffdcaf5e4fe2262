-- The lines of a load as its entries, and the first that is none.
use Rattle.std.specs.Prelude.{◌≡◌, ℕ, ◌+◌, List, [], ◌∷◌, ◌++◌, length, Ok, Err}
use Rattle.nova_value.specs.declared.schema.Entry.{Entry}
use Rattle.nova_value.specs.declared.fault.RowFault.{RowFault}
use Rattle.nova_value.specs.Rows.{Shape}
use Rattle.nova_value.specs.Line.{row_of_text}

-- each line is its entry
abbrev pub AreEntries : Shape → List (List ℕ) → List Entry → Type 0
AreEntries schema [] [] = Unit {0}
AreEntries schema [] (e ∷ es) = ⊥
AreEntries schema (l ∷ ls) [] = ⊥
AreEntries schema (l ∷ ls) (e ∷ es) = (row_of_text l schema ≡ Ok e) × AreEntries schema ls es

-- the line with this number, counted from the number of the first, is the first of these that is no row
pub record IsFirstBadLine (schema : Shape) (first : ℕ) (lines : List (List ℕ)) (number : ℕ) : Type 0 where
  pub before : List (List ℕ)
  pub entries : List Entry
  pub rows : AreEntries schema before entries
  pub bad : List ℕ
  pub behind : List (List ℕ)
  pub parts : lines ≡ before ++ bad ∷ behind
  pub fault : RowFault
  pub none : row_of_text bad schema ≡ Err fault
  pub is : number ≡ first + length before
