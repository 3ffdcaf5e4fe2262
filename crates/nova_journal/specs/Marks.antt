-- The marks of the generations: the files 4x + 1.
use Rattle.std.specs.Prelude.{◌≡◌, ◌+◌, ◌*◌, ◌<◌, ◌≤◌, ℕ, List, Option, Some, None, IsSome}
use Rattle.nova_outside.specs.Disk.{Files}
use Rattle.nova_journal.specs.Log.{LogTo}

-- the greatest generation with a mark, or None where there is no mark
abbrev pub IsMark : Files → Option ℕ → Type 0
IsMark files None = (x : ℕ) → files (4 * x + 1) ≡ None
IsMark files (Some x) = IsSome (files (4 * x + 1)) × ((y : ℕ) → x < y → files (4 * y + 1) ≡ None)

-- no generation from this one on has a mark
abbrev pub IsUnmarked : ℕ → Files → Type 0
IsUnmarked x files = (y : ℕ) → x ≤ y → files (4 * y + 1) ≡ None

-- The journal of a generation has these payloads and this length, and no later generation has a mark.
pub record Holds (generation end : ℕ) (payloads : List (List ℕ)) (files : Files) : Type 0 where
  pub log : LogTo end payloads (files (4 * generation))
  pub newest : (y : ℕ) → generation < y → files (4 * y + 1) ≡ None

-- a journal of this generation and length is in the host
abbrev pub IsIn : ℕ → ℕ → Files → Type 0
IsIn generation end files = (payloads : List (List ℕ)) × Holds generation end payloads files

-- the file was passed on the way up to this one
abbrev pub IsPassed : Option ℕ → ℕ → Type 0
IsPassed None n = ⊥
IsPassed (Some a) n = n ≤ a

-- the greatest generation with a mark, of the files so far
abbrev pub MarkSoFar : Files → Option ℕ → Option ℕ → Type 0
MarkSoFar files after None = (x : ℕ) → IsPassed after (4 * x + 1) → files (4 * x + 1) ≡ None
MarkSoFar files after (Some x) = IsSome (files (4 * x + 1)) × ((y : ℕ) → x < y → IsPassed after (4 * y + 1) → files (4 * y + 1) ≡ None)
