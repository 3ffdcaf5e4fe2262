-- Which calls were told to fail, and what a source gives at a turn.
use Rattle.std.specs.Prelude.{ℕ, ◌-◌, ◌^◌, List, max, length, nat_eq, nat_lt, slice_index, if◌then◌else◌, IsTrue}
use Rattle.std.specs.List.{list_any}

-- the number is one of those
abbrev pub IsAmong : ℕ → List ℕ → Type 0
IsAmong number numbers = IsTrue (list_any (λ n. nat_eq n number) numbers)

-- how many bytes the piece of a turn has at most: its length, or 1 for none; past the last piece there is no bound
abbrev pub piece_at : ℕ → List ℕ → ℕ
piece_at turn pieces = if nat_lt turn (length pieces) then max (slice_index pieces turn) 1 else 2 ^ 64 - 1
