-- What reading gives, by the spellings and their faults.
use Rattle.std.specs.Prelude.{◌≡◌, ℕ, ◌+◌, ◌<◌, ◌^◌, T, List, ◌++◌, length, slice_index_or, drop, Result, Ok, Err}
use Rattle.std.specs.List.{AllByRecursion}
use Rattle.nova_value.specs.declared.schema.Entry.{Entry}
use Rattle.nova_value.specs.Rows.{Shape}
use Rattle.nova_value.specs.Entries.{FitsEntry}
use Rattle.nova_delta.specs.Merge.{DeltaValue, IsDelta}
use Rattle.nova_delta.specs.Listed.{entries_of, rises}
use Rattle.nova_row_codec.specs.declared.fault.CodecFault.{CodecFault}
use Rattle.nova_row_codec.specs.Spelling.{eight, entry_bytes, entries_bytes, block_bytes, spelling_of}
use Rattle.nova_row_codec.specs.Faults.{EntryFails, BlockFails}

-- each is a byte
abbrev pub IsBytes : List ℕ → Type 0
IsBytes bytes = (i : ℕ) → slice_index_or bytes i 0 < 256

-- the entry that the bytes begin with and the bytes after it, or the first fault
abbrev pub ReadsEntry : Shape → List ℕ → Result (Entry × List ℕ) CodecFault → Type 0
ReadsEntry s bytes (Ok found) = FitsEntry s found.0 × (bytes ≡ entry_bytes found.0 ++ found.1)
ReadsEntry s bytes (Err fault) = EntryFails s bytes fault

-- These bytes are the spelling of a delta of the schema.
pub record Spells (s : Shape) (bytes : List ℕ) (d : DeltaValue) : Type 0 where
  pub schema : d.schema ≡ s
  pub delta : IsDelta d
  pub counted : length (entries_of d) < 2 ^ 64
  pub is : bytes ≡ spelling_of d

-- the delta that the bytes spell, or the first fault and the place of the entry
abbrev pub ReadsBlock : Shape → List ℕ → Result DeltaValue (CodecFault × ℕ) → Type 0
ReadsBlock s bytes (Ok d) = Spells s bytes d
ReadsBlock s bytes (Err fault) = BlockFails s bytes fault.0 fault.1

-- the entry that stands at a place, and the place after it
pub record StandsAt (s : Shape) (bytes : List ℕ) (at : ℕ) (found : Entry × ℕ) : Type 0 where
  pub fits : FitsEntry s found.0
  pub is : drop at bytes ≡ entry_bytes found.0 ++ drop found.1 bytes
  pub after : found.1 ≡ at + length (entry_bytes found.0)

-- The bytes are the block of these entries, which fit and rise.
pub record IsBlockOf (s : Shape) (bytes : List ℕ) (es : List Entry) : Type 0 where
  pub fit : AllByRecursion (FitsEntry s) es
  pub rise : T (rises s es)
  pub counted : length es < 2 ^ 64
  pub is : bytes ≡ block_bytes es

-- These entries, of so many, stand before a place.
pub record ReadTo (s : Shape) (bytes : List ℕ) (count at : ℕ) (es : List Entry) : Type 0 where
  pub fit : AllByRecursion (FitsEntry s) es
  pub rise : T (rises s es)
  pub is : bytes ≡ eight count ++ (entries_bytes es ++ drop at bytes)
  pub place : at ≡ 8 + length (entries_bytes es)
