-- What the calls of a host do to its files, and what a crash may leave of them. A file is its bytes, or None where it is absent.
use Rattle.std.specs.Prelude.{◌≡◌, ◌≢◌, ℕ, ◌+◌, ◌<◌, ◌≤◌, max, List, [], ◌++◌, length, take, drop, slice_index, Option, Some, None, IsSome}

-- each file by its number: a reading of a disk, or what a crash left of it
abbrev pub Files : Type 0
Files = ℕ → Option (List ℕ)

-- the file with these bytes written at this offset
abbrev pub overlaid : ℕ → List ℕ → List ℕ → List ℕ
overlaid at bytes file = take at file ++ bytes ++ drop (at + length bytes) file

-- the file is present and reaches as far as this offset
abbrev pub Reaches : ℕ → Option (List ℕ) → Type 0
Reaches at None = ⊥
Reaches at (Some file) = at ≤ length file

-- what a read of so many bytes at this offset gives
abbrev pub piece : ℕ → ℕ → Option (List ℕ) → List ℕ
piece at n None = []
piece at n (Some file) = take n (drop at file)

-- a number above this one, or any number where there is none
abbrev pub IsAfter : Option ℕ → ℕ → Type 0
IsAfter None n = Unit {0}
IsAfter (Some after) n = after < n

-- the least number of a present file above this one, or None where no file is
abbrev pub IsNext : Files → Option ℕ → Option ℕ → Type 0
IsNext files after None = (n : ℕ) → IsAfter after n → files n ≡ None
IsNext files after (Some n) = IsAfter after n × IsSome (files n) × ((m : ℕ) → IsAfter after m → m < n → files m ≡ None)

-- What a write of n bytes at an offset may leave of a file: any bytes in its range and past the old end, any length from the old to the new, the old bytes elsewhere.
pub record Torn (at n : ℕ) (old new : List ℕ) : Type 0 where
  pub no_shorter : length old ≤ length new
  pub no_longer : length new ≤ max (length old) (at + n)
  pub below : (i : ℕ) → i < length old → i < at → slice_index new i ≡ slice_index old i
  pub above : (i : ℕ) → i < length old → at + n ≤ i → slice_index new i ≡ slice_index old i

-- the same where the file may be absent, and then stays absent
abbrev pub Tears : ℕ → ℕ → Option (List ℕ) → Option (List ℕ) → Type 0
Tears at n None new = new ≡ None
Tears at n (Some old) new = (file : List ℕ) × (new ≡ Some file) × Torn at n old file

-- a crash leaves this of a file and nothing else
abbrev pub Only : Option (List ℕ) → (Option (List ℕ) → Type 0) → Type 0
Only file leaves = (c : Option (List ℕ)) → leaves c → c ≡ file

-- what a write of n bytes may make of what a crash could leave
abbrev pub TornFrom : ℕ → ℕ → (Option (List ℕ) → Type 0) → Option (List ℕ) → Type 0
TornFrom at n leaves c = (d : Option (List ℕ)) × leaves d × Tears at n d c

-- each outcome of the one is an outcome of the other
abbrev pub SameOutcomes : (Option (List ℕ) → Type 0) → (Option (List ℕ) → Type 0) → Type 0
SameOutcomes old new = ((c : Option (List ℕ)) → new c → old c) × ((c : Option (List ℕ)) → old c → new c)

-- every file but this one reads as before
abbrev pub SameBut : ℕ → Files → Files → Type 0
SameBut file old new = (other : ℕ) → other ≢ file → new other ≡ old other

-- a crash leaves of every file but this one what it might have left before
abbrev pub LeavesSameBut : ℕ → (ℕ → Option (List ℕ) → Type 0) → (ℕ → Option (List ℕ) → Type 0) → Type 0
LeavesSameBut file old new = (other : ℕ) → other ≢ file → SameOutcomes (old other) (new other)

-- an image: of each file one of its outcomes
abbrev pub IsImage : (ℕ → Option (List ℕ) → Type 0) → Files → Type 0
IsImage may_leave image = (file : ℕ) → may_leave file (image file)

-- A crash left the replies so far, of this file what has Q, and of every other file what it might have left before.
pub record OneChanges (file : ℕ) (Q : Option (List ℕ) → Type 0) (may_leave : ℕ → Option (List ℕ) → Type 0) (so_far : List ℕ) (image : Files) (replies : List ℕ) : Type 0 where
  pub same_replies : replies ≡ so_far
  pub here : Q (image file)
  pub others : (other : ℕ) → other ≢ file → may_leave other (image other)
