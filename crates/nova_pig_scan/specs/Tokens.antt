-- The tokens of a text as the scanner finds them: the piece that it begins with, and then what follows it.
use Rattle.std.specs.Prelude.{if◌then◌else◌, ◌≡◌, ℕ, zero, suc, ◌+◌, ◌-◌, ◌<◌, ◌≤◌, false, ◌||◌, ◌==◌, List, [], ◌∷◌, ◌++◌, take, drop, Option, Some, None, Result, Ok, Err, pos}
use Rattle.std.specs.Str.{str_eq_ignore_ascii_case, bytes_eq}
use Rattle.nova_pig_scan.specs.declared.lex.TheConstants.{TOO_LARGE}
use Rattle.nova_pig_tree.specs.declared.token.Word.{Word}
use Rattle.nova_pig_tree.specs.declared.token.Symbol.{Symbol}
use Rattle.nova_pig_tree.specs.declared.token.Symbol.TheVariants as s
use Rattle.nova_pig_tree.specs.declared.token.Token.{Token}
use Rattle.nova_pig_tree.specs.declared.token.Token.TheVariants as t
use Rattle.nova_pig_scan.specs.declared.lex.Class.{Class}
use Rattle.nova_pig_scan.specs.declared.lex.Class.TheVariants as class
use Rattle.nova_pig_scan.specs.declared.scan.Cause.TheVariants as cause
use Rattle.nova_pig_scan.specs.declared.piece.Piece.{Piece}
use Rattle.nova_pig_scan.specs.declared.piece.Piece.TheVariants.{End, Skip, Take, TooLarge, Bad}
use Rattle.nova_pig_tree.specs.declared.token.Placed.{Placed}
use Rattle.nova_pig_scan.specs.declared.scan.TextFault.{TextFault}
use Rattle.nova_pig_scan.specs.declared.scan.TextFault.TheVariants.{At, NoMemory}
use Rattle.nova_pig_scan.specs.Lexemes.{Text, begins, group_word, name_of}
use Rattle.nova_pig_scan.specs.Lex.{class_of, line_len, block, word_len, digit_len, keyword, capped, literal, symbol}
use Rattle.nova_pig_scan.specs.Text.{placed}

-- after a first `-`
abbrev pub dash : Text → Piece
dash [] = Take (t.Symbol s.Minus) 1
dash (b ∷ bs) = if b == 45 then Skip (line_len bs + 2) else Take (t.Symbol s.Minus) 1

abbrev pub comment : Option ℕ → Piece
comment (Some n) = Skip (n + 2)
comment None = Bad

-- after a first `/`
abbrev pub slash : Text → Piece
slash [] = Bad
slash (b ∷ bs) = if b == 42 then comment (block bs) else Bad

abbrev pub keyword_or : Text → Option Word → Token
keyword_or word (Some w) = t.Word w
keyword_or word None = name_of word

abbrev pub word_token : Text → Token
word_token word = if str_eq_ignore_ascii_case word group_word then t.Group (bytes_eq word group_word) else keyword_or word (keyword word)

abbrev pub word : Text → Text → Piece
word text rest = let n = word_len rest + 1 in Take (word_token (take n text)) n

abbrev pub numeral : ℕ → ℕ → Piece
numeral value n = if value == TOO_LARGE then TooLarge n else Take (t.Number (pos value)) n

-- digits, and an `L` or `l` after them
abbrev pub number : Text → Text → Piece
number text rest = let n = digit_len rest + 1 in let after = drop n text in
    numeral (capped (take n text)) (if begins 76 after || begins 108 after then n + 1 else n)

abbrev pub position : Text → Piece
position text = let n = digit_len text in let value = capped (take n text) in
    if n == 0 then Bad else (if value == TOO_LARGE then TooLarge (n + 1) else Take (t.Position value) (n + 1))

abbrev pub quoted : Option (Text × ℕ) → Piece
quoted (Some p) = Take (t.Literal p.0) (p.1 + 1)
quoted None = Bad

abbrev pub symbol_piece : Option (Symbol × ℕ) → Piece
symbol_piece (Some p) = Take (t.Symbol p.0) p.1
symbol_piece None = Bad

abbrev pub piece_by : Class → Text → Text → Piece
piece_by class.Blank text rest = Skip 1
piece_by class.Dash text rest = dash rest
piece_by class.Slash text rest = slash rest
piece_by class.Letter text rest = word text rest
piece_by class.Digit text rest = number text rest
piece_by class.Dollar text rest = position rest
piece_by class.Quote text rest = quoted (literal false rest)
piece_by class.Other text rest = symbol_piece (symbol text)

-- what the text begins with: white space, a comment or the longest token
abbrev pub piece : Text → Piece
piece [] = End
piece (b ∷ bs) = piece_by (class_of b) (b ∷ bs) bs

abbrev pub Outcome : Type 0
Outcome = Result (List Placed) TextFault

abbrev pub onto : Placed → Outcome → Outcome
onto p (Ok ps) = Ok (p ∷ ps)
onto p (Err f) = Err f

abbrev pub scan_by : Piece → ℕ → (ℕ → Outcome) → Outcome
scan_by End at further = Ok []
scan_by (Skip n) at further = further n
scan_by (Take t n) at further = onto (placed t at n) (further n)
scan_by (TooLarge n) at further = Err (At cause.NumberTooLarge at)
scan_by Bad at further = Err (At cause.Token at)

-- The tokens from a place on, where so many bytes still belong to the piece before: each further byte begins a piece.
unfoldable pub scan : ℕ → ℕ → Text → Outcome
scan inside at [] = Ok []
scan (suc inside) at (b ∷ bs) = scan inside (at + 1) bs
scan zero at (b ∷ bs) = scan_by (piece (b ∷ bs)) at (λ n. scan (n - 1) (at + 1) bs)

abbrev pub tokens : Text → Outcome
tokens = scan 0 0

abbrev pub AreTokensOf : Outcome → Outcome → Type 0
AreTokensOf spec (Err NoMemory) = Unit {0}
AreTokensOf spec result = result ≡ spec

-- a piece takes a byte at least, and no more than there are
abbrev pub Within : Piece → ℕ → Type 0
Within (Skip n) len = (0 < n) × (n ≤ len)
Within (Take t n) len = (0 < n) × (n ≤ len)
Within (TooLarge n) len = (0 < n) × (n ≤ len)
Within _ len = Unit {0}

-- the tokens after some that were read
abbrev pub prepended : List Placed → Outcome → Outcome
prepended prefix (Ok ps) = Ok (prefix ++ ps)
prepended prefix (Err f) = Err f

abbrev pub next : Piece → ℕ → Text → Outcome
next p at text = scan_by p at (λ n. scan 0 (at + n) (drop n text))
