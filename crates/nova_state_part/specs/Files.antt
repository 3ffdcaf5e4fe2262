-- State parts: what a file holds, and why it isn't the state of so many bytes.
use Rattle.std.specs.Prelude.{◌≡◌, ◌≢◌, ℕ, List, length, Option, Some, None, Result, Ok, Err}
use Rattle.nova_block.specs.declared.fault.BlockFault.{BlockFault}
use Rattle.nova_block.specs.declared.fault.BlockFault.TheVariants.{Disk, Damaged, NoMemory}
use Rattle.nova_groups.specs.State.{StateValue}
use Rattle.nova_group_codec.specs.Sorts.{SortsValue}
use Rattle.nova_group_codec.specs.Written.{SpellsState, StateFails}
use Rattle.nova_group_codec.specs.declared.fault.StateFault.{StateFault}
use Rattle.nova_group_codec.specs.declared.fault.StateFault.TheVariants as state

-- the file has so many bytes, and they spell the state
abbrev pub HoldsPart : SortsValue → ℕ → Option (List ℕ) → StateValue → Type 0
HoldsPart s size c st = (file : List ℕ) × (c ≡ Some file) × (length file ≡ size) × SpellsState s file st

-- the file is absent, has another length, or spells no state: then the place is that of the first flaw
pub data DamagedPartAt (s : SortsValue) (size : ℕ) : Option (List ℕ) → ℕ → Type 0 where
  absent : DamagedPartAt s size None 0
  other_length : {file : List ℕ} → length file ≢ size → DamagedPartAt s size (Some file) 0
  no_state : {file : List ℕ} {at : ℕ} → length file ≡ size → StateFails s file at → DamagedPartAt s size (Some file) at

-- the state that a file spells, or the place where it spells none
abbrev pub ReadsPart : SortsValue → ℕ → Option (List ℕ) → Result StateValue ℕ → Type 0
ReadsPart s size c (Ok st) = HoldsPart s size c st
ReadsPart s size c (Err at) = DamagedPartAt s size c at

-- what the file has to do with it, where the host tells it
abbrev pub PartTold : SortsValue → ℕ → Option (List ℕ) → BlockFault → Type 0
PartTold s size c Disk = Unit {0}
PartTold s size c (Damaged f at) = DamagedPartAt s size c at
PartTold s size c NoMemory = Unit {0}

-- the answer for bytes that spell no state
abbrev pub damage_of : StateFault → ℕ → BlockFault
damage_of (state.Damaged at) file = Damaged file at
damage_of state.NoMemory file = NoMemory
