-- What is wrong with bytes that are no spelling, one case for each cause. A fault is the first in the
-- order of the bytes.
use Rattle.std.specs.Prelude.{◌≡◌, ◌≢◌, ◌⊎◌, ℕ, ◌+◌, ◌<◌, ◌^◌, T, List, [], ◌∷◌, ◌++◌, length}
use Rattle.std.specs.List.{AllByRecursion}
use Rattle.nova_value.specs.declared.value.Kind.{Kind}
use Rattle.nova_value.specs.declared.value.Kind.TheVariants as kind
use Rattle.nova_value.specs.declared.value.Value.{Value}
use Rattle.nova_value.specs.declared.schema.Entry.{Entry}
use Rattle.nova_value.specs.Text.{IsText}
use Rattle.nova_value.specs.Rows.{Shape, IsOf, kinds, key_kinds}
use Rattle.nova_value.specs.Entries.{FitsEntry}
use Rattle.nova_delta.specs.Listed.{rises}
use Rattle.nova_row_codec.specs.declared.fault.CodecFault.{CodecFault}
use Rattle.nova_row_codec.specs.declared.fault.CodecFault.TheVariants.{Short, BadTag, BadText, OutOfOrder}
use Rattle.nova_row_codec.specs.Spelling.{two, eight, value_bytes, entry_bytes, entries_bytes}

-- no value of the kind stands at the start of the bytes; a text that is cut off is Short, whatever its
-- bytes are
pub data ValueFails : Kind → List ℕ → CodecFault → Type 0 where
  long : {bytes : List ℕ} → length bytes < 8 → ValueFails kind.Long bytes Short
  length_of : {bytes : List ℕ} → length bytes < 2 → ValueFails kind.Text bytes Short
  text : (n : ℕ) (bytes : List ℕ) → n < 2 ^ 16 → length bytes < n
      → ValueFails kind.Text (two n ++ bytes) Short
  no_text : (text bytes : List ℕ) → length text < 2 ^ 16 → (IsText text → ⊥)
      → ValueFails kind.Text (two (length text) ++ (text ++ bytes)) BadText

-- of values of these kinds, the first bad one
pub data ValuesFail : List Kind → List ℕ → CodecFault → Type 0 where
  here : {k : Kind} {ks : List Kind} {bytes : List ℕ} {fault : CodecFault}
      → ValueFails k bytes fault → ValuesFail (k ∷ ks) bytes fault
  after : {k : Kind} {ks : List Kind} {fault : CodecFault} (v : Value) (bytes : List ℕ)
      → IsOf k v → ValuesFail ks bytes fault → ValuesFail (k ∷ ks) (value_bytes v ++ bytes) fault

-- the tag, and then the values
pub data EntryFails (s : Shape) : List ℕ → CodecFault → Type 0 where
  empty : EntryFails s [] Short
  no_tag : {tag : ℕ} {bytes : List ℕ} → tag ≢ 0 → tag ≢ 1 → EntryFails s (tag ∷ bytes) BadTag
  put : {bytes : List ℕ} {fault : CodecFault}
      → ValuesFail (kinds s.columns) bytes fault → EntryFails s (1 ∷ bytes) fault
  removal : {bytes : List ℕ} {fault : CodecFault}
      → ValuesFail (key_kinds s) bytes fault → EntryFails s (0 ∷ bytes) fault

-- after these entries, of so many: the next one fails, its key isn't above the last one's, or bytes
-- are left
pub data StopsAfter (s : Shape) (count : ℕ) (es : List Entry) : List ℕ → CodecFault → Type 0 where
  fails : {bytes : List ℕ} {fault : CodecFault}
      → length es < count → EntryFails s bytes fault → StopsAfter s count es bytes fault
  falls : (e : Entry) (bytes : List ℕ) → length es < count → FitsEntry s e
      → (T (rises s (es ++ e ∷ [])) → ⊥) → StopsAfter s count es (entry_bytes e ++ bytes) OutOfOrder
  left : {byte : ℕ} {bytes : List ℕ} → length es ≡ count → StopsAfter s count es (byte ∷ bytes) BadTag

-- Entries that fit and rise stand after the number of them all, and then, at this place, comes a fault.
pub record StopsAt (s : Shape) (bytes : List ℕ) (fault : CodecFault) (at : ℕ) : Type 0 where
  pub count : ℕ
  pub counted : count < 2 ^ 64
  pub entries : List Entry
  pub fit : AllByRecursion (FitsEntry s) entries
  pub rise : T (rises s entries)
  pub rest : List ℕ
  pub is : bytes ≡ eight count ++ (entries_bytes entries ++ rest)
  pub place : at ≡ 8 + length (entries_bytes entries)
  pub stops : StopsAfter s count entries rest fault

-- no block stands there: its number is cut off, or something after it is wrong
abbrev pub BlockFails : Shape → List ℕ → CodecFault → ℕ → Type 0
BlockFails s bytes fault at =
    ((length bytes < 8) × ((fault ≡ Short) × (at ≡ 0))) ⊎ StopsAt s bytes fault at
