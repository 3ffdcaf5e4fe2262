-- Values, entries and deltas as bytes. The highest byte of a number stands first.
use Rattle.std.specs.Prelude.{ℕ, ◌-◌, ◌^◌, List, ◌∷◌, ◌++◌, length, min}
use Rattle.std.specs.List.{flat_map}
use Rattle.std.specs.Int.{w16, w64, to_be_bytes, cast_unsigned}
use Rattle.nova_value.specs.declared.value.Value.{Value}
use Rattle.nova_value.specs.declared.value.Value.TheVariants.{Long, Text}
use Rattle.nova_value.specs.declared.schema.Entry.{Entry}
use Rattle.nova_value.specs.declared.schema.Entry.TheVariants.{Put, Removal}
use Rattle.nova_delta.specs.Merge.{DeltaValue}
use Rattle.nova_delta.specs.Listed.{entries_of}

abbrev pub two : ℕ → List ℕ
two n = to_be_bytes w16 n

abbrev pub eight : ℕ → List ℕ
eight n = to_be_bytes w64 n

-- a long in two's complement, a text after its length
unfoldable pub value_bytes : Value → List ℕ
value_bytes (Long n) = eight (cast_unsigned w64 n)
value_bytes (Text text) = two (length text) ++ text

-- values one after the other
abbrev pub values_bytes : List Value → List ℕ
values_bytes vs = flat_map value_bytes vs

-- a put: 1, and the row's values; a removal: 0, and the key's
unfoldable pub entry_bytes : Entry → List ℕ
entry_bytes (Put row) = 1 ∷ values_bytes row
entry_bytes (Removal key) = 0 ∷ values_bytes key

-- entries one after the other
abbrev pub entries_bytes : List Entry → List ℕ
entries_bytes es = flat_map entry_bytes es

-- a block: the number of its entries, and the entries
abbrev pub block_bytes : List Entry → List ℕ
block_bytes es = eight (length es) ++ entries_bytes es

-- the one spelling of a delta: its entries in the order of their keys
abbrev pub spelling_of : DeltaValue → List ℕ
spelling_of d = block_bytes (entries_of d)

-- how many bytes they are, or 2^64 - 1 where they are more
abbrev pub told_length : List ℕ → ℕ
told_length bytes = min (length bytes) (2 ^ 64 - 1)
