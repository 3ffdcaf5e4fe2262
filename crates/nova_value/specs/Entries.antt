-- The entries of a delta.
use Rattle.std.specs.Prelude.{List}
use Rattle.nova_value.specs.declared.value.Value.{Value}
use Rattle.nova_value.specs.declared.schema.Entry.{Entry}
use Rattle.nova_value.specs.declared.schema.Entry.TheVariants.{Put, Removal}
use Rattle.nova_value.specs.Rows.{Shape, FitsRow, FitsKey, key_at}

-- a put row fits, and a removal's key does
abbrev pub FitsEntry : Shape → Entry → Type 0
FitsEntry s (Put row) = FitsRow s row
FitsEntry s (Removal key) = FitsKey s key

-- the key that an entry is of
abbrev pub entry_key : Shape → Entry → List Value
entry_key s (Put row) = key_at s.key row
entry_key s (Removal key) = key
