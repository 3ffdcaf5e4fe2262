-- A name is UTF-8.
use Rattle.std.proofs.Common.{◌≡◌, ℕ, zero, suc, ◌<◌, true, List, [], ◌∷◌, length, nat_le, arith}
use Rattle.std.specs.Char.{is_ascii_alphabetic}
use Rattle.std.specs.List.{list_all}
use Rattle.std.specs.Str.{IsUtf8, IsAscii}
use Rattle.std.proofs.lemmas.Bool.{and_parts}
use Rattle.std.proofs.lemmas.Str.{IsUtf8-from_ascii}
use Rattle.std.proofs.lemmas.Bool.Decides.{nat_tests}
use Rattle.nova_name.specs.Names.{is_name_byte, is_identifier, is_name}

byte_ascii : (b : ℕ) → is_name_byte b ≡ true → b < 128
byte_ascii b h = grind (arith, nat_tests)

letter_ascii : (b : ℕ) → is_ascii_alphabetic b ≡ true → b < 128
letter_ascii b h = grind (arith, nat_tests)

bytes_ascii : (bs : List ℕ) → list_all is_name_byte bs ≡ true → IsAscii bs
bytes_ascii [] h i = omega arith
bytes_ascii (b ∷ bs) h zero = byte_ascii b (and_parts (is_name_byte b) (list_all is_name_byte bs) h).0
bytes_ascii (b ∷ bs) h (suc i) = bytes_ascii bs (and_parts (is_name_byte b) (list_all is_name_byte bs) h).1 i

identifier_ascii : (w : List ℕ) → is_identifier w ≡ true → IsAscii w
identifier_ascii [] h i = absurd (cc)
identifier_ascii (b ∷ bs) h zero = letter_ascii b (and_parts (is_ascii_alphabetic b) (list_all is_name_byte bs) h).0
identifier_ascii (b ∷ bs) h (suc i) = bytes_ascii bs (and_parts (is_ascii_alphabetic b) (list_all is_name_byte bs) h).1 i

pub name_is_text : (w : List ℕ) → is_name w ≡ true → (IsUtf8 w → ⊥) → ⊥
name_is_text w is isnt = isnt (IsUtf8-from_ascii w (identifier_ascii w (and_parts (is_identifier w) (nat_le (length w) 64) is).0))
