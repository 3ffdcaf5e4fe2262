-- Values and entries from the start of bytes, as the code reads them: the value and the bytes after it, or the first
-- fault. That this reads exactly the spellings is a law.
use Rattle.std.specs.Prelude.{◌≡◌, ℕ, ◌&&◌, ◌==◌, nat_lt, if◌then◌else◌, List, [], ◌∷◌, length, take, drop, Result, Ok, Err}
use Rattle.std.specs.Str.{is_utf8}
use Rattle.std.specs.Int.{w16, w64, from_be_bytes, cast_signed}
use Rattle.nova_value.specs.declared.value.Value.{Value}
use Rattle.nova_value.specs.declared.value.Value.TheVariants.{Long, Text}
use Rattle.nova_value.specs.declared.value.Kind.{Kind}
use Rattle.nova_value.specs.declared.value.Kind.TheVariants as kind
use Rattle.nova_value.specs.declared.schema.Entry.{Entry}
use Rattle.nova_value.specs.declared.schema.Entry.TheVariants.{Put, Removal}
use Rattle.nova_value.specs.Text.{is_clean}
use Rattle.nova_value.specs.Rows.{Shape, kinds, key_kinds}
use Rattle.nova_row_codec.specs.declared.fault.CodecFault.{CodecFault}
use Rattle.nova_row_codec.specs.declared.fault.CodecFault.TheVariants.{Short, BadTag, BadText, OutOfOrder, NoMemory}

-- a reading and then a further one; the first fault stays
infixl 10 ◌>>=◌
abbrev pub ◌>>=◌ : {A B : Type 0} → Result A CodecFault → (A → Result B CodecFault) → Result B CodecFault
(Ok x) >>= f = f x
(Err e) >>= f = Err e

-- an answer, seen by view, is what the reading gives, unless memory ran out
abbrev pub Fails : {Y : Type 0} → CodecFault → Result Y CodecFault → Type 0
Fails NoMemory read = Unit {0}
Fails Short read = read ≡ Err Short
Fails BadTag read = read ≡ Err BadTag
Fails BadText read = read ≡ Err BadText
Fails OutOfOrder read = read ≡ Err OutOfOrder

abbrev pub Gives : {X Y : Type 0} → (X → Y) → Result X CodecFault → Result Y CodecFault → Type 0
Gives view (Ok x) read = read ≡ Ok (view x)
Gives view (Err e) read = Fails e read

unfoldable pub long_at : List ℕ → Result (Value × List ℕ) CodecFault
long_at bytes =
    if nat_lt (length bytes) 8 then Err Short
    else Ok (Long (cast_signed w64 (from_be_bytes w64 (take 8 bytes))), drop 8 bytes)

-- bytes as a text
unfoldable pub text_of : List ℕ → Result Value CodecFault
text_of text = if is_utf8 text && is_clean text then Ok (Text text) else Err BadText

-- a text of n bytes
abbrev pub text_after : ℕ → List ℕ → Result (Value × List ℕ) CodecFault
text_after n bytes =
    if nat_lt (length bytes) n then Err Short
    else (text_of (take n bytes) >>= λ v. Ok (v, drop n bytes))

unfoldable pub text_at : List ℕ → Result (Value × List ℕ) CodecFault
text_at bytes =
    if nat_lt (length bytes) 2 then Err Short
    else text_after (from_be_bytes w16 (take 2 bytes)) (drop 2 bytes)

abbrev pub value_at : Kind → List ℕ → Result (Value × List ℕ) CodecFault
value_at kind.Long bytes = long_at bytes
value_at kind.Text bytes = text_at bytes

unfoldable pub values_at : List Kind → List ℕ → Result (List Value × List ℕ) CodecFault
values_at [] bytes = Ok ([], bytes)
values_at (k ∷ ks) bytes = value_at k bytes >>= λ a. values_at ks a.1 >>= λ b. Ok (a.0 ∷ b.0, b.1)

unfoldable pub entry_at : Shape → List ℕ → Result (Entry × List ℕ) CodecFault
entry_at s [] = Err Short
entry_at s (tag ∷ bytes) =
    if tag == 1 then (values_at (kinds s.columns) bytes >>= λ a. Ok (Put a.0, a.1))
    else (if tag == 0 then (values_at (key_kinds s) bytes >>= λ a. Ok (Removal a.0, a.1)) else Err BadTag)
