-- What the laws of this crate say. Each is the contract of a function of `laws`.
use Rattle.std.specs.Prelude.{◌≡◌, ℕ, List, Option, Result, IfSome}
use Rattle.nova_row_codec.specs.Written.{IsBytes}
use Rattle.nova_groups.specs.State.{StateValue}
use Rattle.nova_group_codec.specs.Sorts.{SortsValue}
use Rattle.nova_state_part.specs.Files.{ReadsPart}

-- a file spells a state, or is damaged at a place
abbrev pub PartsRead : Type 0
PartsRead = (s : SortsValue) (size : ℕ) (c : Option (List ℕ)) → IfSome c IsBytes → (one : Result StateValue ℕ) × ReadsPart s size c one

-- it spells one state or is damaged at one place, and not both
abbrev pub PartsReadOneWay : Type 0
PartsReadOneWay = (s : SortsValue) (size : ℕ) (c : Option (List ℕ)) (one other : Result StateValue ℕ) → ReadsPart s size c one → ReadsPart s size c other → one ≡ other
