-- The runs of bytes that pieces are made of, as the code finds them.
use Rattle.std.specs.Prelude.{if◌then◌else◌, ◌≡◌, ℕ, ◌+◌, min, Bool, true, false, not, ◌&&◌, ◌||◌, ◌==◌, List, [], ◌∷◌, ◌++◌, map, Option, Some, None, Result, Ok, Err}
use Rattle.std.specs.List.{position_or_len}
use Rattle.std.specs.Char.{is_ascii_digit, is_ascii_alphabetic}
use Rattle.std.specs.Str.{str_eq_ignore_ascii_case}
use Rattle.nova_pig_tree.specs.declared.token.Word.{Word}
use Rattle.nova_pig_tree.specs.declared.token.Symbol.{Symbol}
use Rattle.nova_pig_tree.specs.declared.token.Symbol.TheVariants as s
use Rattle.nova_pig_tree.specs.declared.expression.CompareOp.TheVariants as c
use Rattle.nova_pig_scan.specs.declared.lex.Class.{Class}
use Rattle.nova_pig_scan.specs.declared.lex.Class.TheVariants as class
use Rattle.nova_pig_scan.specs.declared.lex.Step.{Step}
use Rattle.nova_pig_scan.specs.declared.lex.Step.TheVariants as st
use Rattle.nova_pig_scan.specs.declared.lex.LexFault.{LexFault}
use Rattle.nova_pig_scan.specs.declared.lex.LexFault.TheVariants.{Token, NoMemory}
use Rattle.nova_pig_scan.specs.declared.lex.TheConstants.{KEYWORDS, TOO_LARGE}
use Rattle.nova_pig_scan.specs.Lexemes.{Text, is_word, is_blank, is_newline, begins, value, is_escaped}

-- how many letters, digits and `_` the text begins with
abbrev pub word_len : Text → ℕ
word_len = position_or_len (λ b. not (is_word b))

abbrev pub digit_len : Text → ℕ
digit_len = position_or_len (λ b. not (is_ascii_digit b))

abbrev pub class_of : ℕ → Class
class_of b =
    if is_blank b then class.Blank else
    (if b == 45 then class.Dash else
    (if b == 47 then class.Slash else
    (if is_ascii_alphabetic b then class.Letter else
    (if is_ascii_digit b then class.Digit else
    (if b == 36 then class.Dollar else
    (if b == 39 then class.Quote else class.Other))))))

abbrev pub lookup : List (Text × Word) → Text → Option Word
lookup [] word = None
lookup (k ∷ ks) word = if str_eq_ignore_ascii_case k.0 word then Some k.1 else lookup ks word

unfoldable pub keyword : Text → Option Word
keyword = lookup (map (λ k. (k.0.now, k.1)) KEYWORDS)

abbrev pub capped : Text → ℕ
capped digits = min (value digits) TOO_LARGE

abbrev pub single_symbol : ℕ → Option (Symbol × ℕ)
single_symbol b =
    if b == 43 then Some (s.Plus, 1) else
    (if b == 42 then Some (s.Star, 1) else
    (if b == 40 then Some (s.Open, 1) else
    (if b == 41 then Some (s.Close, 1) else
    (if b == 44 then Some (s.Comma, 1) else
    (if b == 59 then Some (s.Semicolon, 1) else
    (if b == 46 then Some (s.Dot, 1) else
    (if b == 63 then Some (s.Question, 1) else None)))))))

-- one byte, or two where `=` or a begins `:` follows
abbrev pub symbol_by : ℕ → Text → Option (Symbol × ℕ)
symbol_by b rest =
    if b == 61 then (if begins 61 rest then Some (s.Compare c.Eq, 2) else Some (s.Assign, 1)) else
    (if b == 33 && begins 61 rest then Some (s.Compare c.Ne, 2) else
    (if b == 60 then (if begins 61 rest then Some (s.Compare c.Le, 2) else Some (s.Compare c.Lt, 1)) else
    (if b == 62 then (if begins 61 rest then Some (s.Compare c.Ge, 2) else Some (s.Compare c.Gt, 1)) else
    (if b == 58 then (if begins 58 rest then Some (s.ColonColon, 2) else Some (s.Colon, 1)) else single_symbol b))))

abbrev pub symbol : Text → Option (Symbol × ℕ)
symbol [] = None
symbol (b ∷ rest) = symbol_by b rest

abbrev pub with_byte : ℕ → Option (Text × ℕ) → Option (Text × ℕ)
with_byte b (Some p) = Some (b ∷ p.0, p.1 + 1)
with_byte b None = None

abbrev pub further : Option (Text × ℕ) → Option (Text × ℕ)
further (Some p) = Some (p.0, p.1 + 1)
further None = None

abbrev pub step_of : Bool → ℕ → Step
step_of true b = if is_escaped b then st.Keep else st.Bad
step_of false b = if b == 39 then st.Close else (if b == 92 then st.Escape else (if b == 9 || b == 10 then st.Bad else st.Keep))

abbrev pub literal_by : Step → ℕ → Option (Text × ℕ) → Option (Text × ℕ) → Option (Text × ℕ)
literal_by st.Bad b plain after = None
literal_by st.Close b plain after = Some ([], 1)
literal_by st.Escape b plain after = further after
literal_by st.Keep b plain after = with_byte b plain

-- what stands before the closing quote, without escapes, and how many bytes that and the quote take; first, whether a backslash was before
unfoldable pub literal : Bool → Text → Option (Text × ℕ)
literal escaped [] = None
literal escaped (b ∷ bs) = literal_by (step_of escaped b) b (literal false bs) (literal true bs)

abbrev pub IsLiteralOf : Option (Text × ℕ) → Result (Text × ℕ) LexFault → Type 0
IsLiteralOf o (Ok p) = o ≡ Some p
IsLiteralOf o (Err Token) = o ≡ None
IsLiteralOf o (Err NoMemory) = Unit {0}

-- up to the end of the line
abbrev pub line_len : Text → ℕ
line_len = position_or_len is_newline

-- an answer from a place on, as one of the whole
abbrev pub from_place : ℕ → Option ℕ → Option ℕ
from_place at (Some n) = Some (at + n)
from_place at None = None

abbrev pub from_prefix : Text → ℕ → Option (Text × ℕ) → Option (Text × ℕ)
from_prefix out at (Some p) = Some (out ++ p.0, at + p.1)
from_prefix out at None = None

abbrev pub two_more : Option ℕ → Option ℕ
two_more (Some n) = Some (n + 1)
two_more None = None

unfoldable pub block : Text → Option ℕ
block [] = None
block (b ∷ bs) = let rest = block bs in if b == 42 && begins 47 bs then Some 2 else two_more rest
