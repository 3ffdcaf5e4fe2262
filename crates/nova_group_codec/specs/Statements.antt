-- What the laws of this crate say. Each is the contract of a function of `laws`.
use Rattle.std.specs.Prelude.{◌≡◌, ℕ, List, Result}
use Rattle.nova_row_codec.specs.Written.{IsBytes}
use Rattle.nova_groups.specs.State.{StateValue}
use Rattle.nova_group_codec.specs.Sorts.{SortsValue}
use Rattle.nova_group_codec.specs.Written.{SpellsState, ReadsState}

-- no two states of a task have one spelling
abbrev pub SpelledOnce : Type 0
SpelledOnce = (s : SortsValue) (bytes : List ℕ) (one other : StateValue) → SpellsState s bytes one → SpellsState s bytes other → one ≡ other

-- bytes spell a state or have a flaw
abbrev pub StatesRead : Type 0
StatesRead = (s : SortsValue) (bytes : List ℕ) → IsBytes bytes → (one : Result StateValue ℕ) × ReadsState s bytes one

-- they spell one state or have one first flaw at one place, and not both
abbrev pub StatesReadOneWay : Type 0
StatesReadOneWay = (s : SortsValue) (bytes : List ℕ) (one other : Result StateValue ℕ) → ReadsState s bytes one → ReadsState s bytes other → one ≡ other
