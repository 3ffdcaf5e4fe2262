-- The files that a run writes.
use Rattle.std.specs.Prelude.{◌≡◌, ℕ, ◌+◌, List, [], ◌∷◌, Option, Some, None}
use Rattle.nova_outside.specs.Disk.{Files}
use Rattle.nova_channel.specs.Reading.{block_file}
use Rattle.nova_delta.specs.Merge.{DeltaValue}
use Rattle.nova_row_codec.specs.Spelling.{spelling_of}
use Rattle.nova_group_codec.specs.Spelling.{state_bytes}
use Rattle.nova_groups.specs.State.{StateValue}
use Rattle.nova_runner.specs.declared.ready.Fresh.{Fresh}

-- a file by its number and its bytes
abbrev pub IsFile : ℕ → List ℕ → Fresh → Type 0
IsFile number bytes f = (f.block ≡ number) × (f.bytes.items ≡ bytes)

-- that of its block, whose number is the next one, and behind it that of the state which it leaves, if it leaves one
abbrev pub AreRunFiles : ℕ → DeltaValue → Option StateValue → List Fresh → Type 0
AreRunFiles next d None fresh = (f : Fresh) × (fresh ≡ f ∷ []) × IsFile next (spelling_of d) f
AreRunFiles next d (Some st) fresh = (f : Fresh) × (g : Fresh) × (fresh ≡ f ∷ g ∷ []) × IsFile next (spelling_of d) f × IsFile (next + 1) (state_bytes st) g

-- these files have those bytes
abbrev pub HasRunFiles : ℕ → DeltaValue → Option StateValue → Files → Type 0
HasRunFiles next d None files = files (block_file next) ≡ Some (spelling_of d)
HasRunFiles next d (Some st) files = (files (block_file next) ≡ Some (spelling_of d)) × (files (block_file (next + 1)) ≡ Some (state_bytes st))
