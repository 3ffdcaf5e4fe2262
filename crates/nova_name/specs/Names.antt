-- Identifiers and names. Byte 95 is `_`.
use Rattle.std.specs.Prelude.{ℕ, ◌==◌, nat_le, Bool, false, ◌&&◌, ◌||◌, List, [], ◌∷◌, length, Option, Some, None, if◌then◌else◌}
use Rattle.std.specs.Char.{is_ascii_alphabetic, is_ascii_alphanumeric}
use Rattle.std.specs.List.{list_all}

abbrev pub is_name_byte : ℕ → Bool
is_name_byte b = is_ascii_alphanumeric b || b == 95

-- a letter A-Z or a-z, and then letters, digits and `_`
abbrev pub is_identifier : List ℕ → Bool
is_identifier [] = false
is_identifier (b ∷ bs) = is_ascii_alphabetic b && list_all is_name_byte bs

-- a name: an identifier of at most 64 bytes
abbrev pub is_name : List ℕ → Bool
is_name word = is_identifier word && nat_le (length word) 64

abbrev pub name_of : List ℕ → Option (List ℕ)
name_of word = if is_name word then Some word else None
