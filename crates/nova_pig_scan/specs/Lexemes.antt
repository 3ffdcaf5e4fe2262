-- What runs of bytes are: white space and comments, and the table of tokens.
use Rattle.std.specs.Prelude.{if◌then◌else◌, ◌≡◌, ℕ, ◌+◌, ◌-◌, ◌*◌, Bool, true, false, not, ◌&&◌, ◌||◌, ◌==◌, nat_lt, List, [], ◌∷◌, ◌++◌, length, fold, pos, codes}
use Rattle.std.specs.List.{list_all}
use Rattle.std.specs.Char.{is_ascii_digit, is_ascii_alphanumeric, is_ascii_alphabetic}
use Rattle.std.specs.Str.{str_to_ascii_lowercase, bytes_eq}
use Rattle.nova_value.specs.declared.limit.TheConstants.{MAX_TEXT_BYTES}
use Rattle.nova_pig_scan.specs.declared.lex.TheConstants.{TOO_LARGE}
use Rattle.nova_pig_tree.specs.declared.expression.CompareOp.TheVariants as c
use Rattle.nova_pig_tree.specs.declared.token.Word.{Word}
use Rattle.nova_pig_tree.specs.declared.token.Word.TheVariants as w
use Rattle.nova_pig_tree.specs.declared.token.Symbol.{Symbol}
use Rattle.nova_pig_tree.specs.declared.token.Symbol.TheVariants as s
use Rattle.nova_pig_tree.specs.declared.token.Token.{Token}
use Rattle.nova_pig_tree.specs.declared.token.Token.TheVariants as t

-- bytes
abbrev pub Text : Type 0
Text = List ℕ

-- space, tab, carriage return or newline
abbrev pub is_blank : ℕ → Bool
is_blank b = b == 32 || b == 9 || b == 13 || b == 10

abbrev pub is_newline : ℕ → Bool
is_newline b = b == 10

-- a letter, a digit or `_`
abbrev pub is_word : ℕ → Bool
is_word b = is_ascii_alphanumeric b || b == 95

-- whether the text begins with the byte
abbrev pub begins : ℕ → Text → Bool
begins b [] = false
begins b (c ∷ cs) = c == b

-- no `*/` stands in the bytes
abbrev pub is_unclosed : Text → Bool
is_unclosed [] = true
is_unclosed (b ∷ bs) = not (b == 42 && begins 47 bs) && is_unclosed bs

-- a letter, and then letters, digits and `_`
abbrev pub IsName : Text → Type 0
IsName [] = ⊥
IsName (b ∷ bs) = (is_ascii_alphabetic b ≡ true) × (list_all is_word bs ≡ true)

-- one or more digits
abbrev pub IsDigits : Text → Type 0
IsDigits [] = ⊥
IsDigits (b ∷ bs) = list_all is_ascii_digit (b ∷ bs) ≡ true

-- the number that decimal digits write
abbrev pub value : Text → ℕ
value = fold (λ n b. 10 * n + (b - 48)) 0

-- a keyword but GROUP, in lower case
abbrev pub spelling : Word → Text
spelling w.And = codes "and"
spelling w.As = codes "as"
spelling w.By = codes "by"
spelling w.Distinct = codes "distinct"
spelling w.Filter = codes "filter"
spelling w.Flatten = codes "flatten"
spelling w.Foreach = codes "foreach"
spelling w.Generate = codes "generate"
spelling w.Into = codes "into"
spelling w.Is = codes "is"
spelling w.Join = codes "join"
spelling w.Load = codes "load"
spelling w.Not = codes "not"
spelling w.Null = codes "null"
spelling w.Or = codes "or"
spelling w.Store = codes "store"
spelling w.Union = codes "union"

abbrev pub group_word : Text
group_word = codes "group"

abbrev pub sign : Symbol → Text
sign s.Assign = codes "="
sign (s.Compare c.Eq) = codes "=="
sign (s.Compare c.Ne) = codes "!="
sign (s.Compare c.Lt) = codes "<"
sign (s.Compare c.Le) = codes "<="
sign (s.Compare c.Gt) = codes ">"
sign (s.Compare c.Ge) = codes ">="
sign s.Plus = codes "+"
sign s.Minus = codes "-"
sign s.Star = codes "*"
sign s.Open = codes "("
sign s.Close = codes ")"
sign s.Comma = codes ","
sign s.Semicolon = codes ";"
sign s.Dot = codes "."
sign s.Colon = codes ":"
sign s.ColonColon = codes "::"
sign s.Question = codes "?"

-- `'` and `\` stand in a literal after a backslash
abbrev pub is_escaped : ℕ → Bool
is_escaped b = b == 39 || b == 92

-- what stands in a literal as it is: no `'`, backslash, tab or newline
abbrev pub is_plain : ℕ → Bool
is_plain b = not (b == 39 || b == 92 || b == 9 || b == 10)

-- the inside of a literal, and the text that it stands for
pub data Spells : Text → Text → Type 0 where
  nothing : Spells [] []
  plain : {us text : Text} (b : ℕ) → is_plain b ≡ true → Spells us text → Spells (b ∷ us) (b ∷ text)
  escape : {us text : Text} (b : ℕ) → is_escaped b ≡ true → Spells us text → Spells (92 ∷ b ∷ us) (b ∷ text)

-- what a run of bytes may be: white space or a comment, a token, or a number that is too large for one
pub data Lexeme : Type 0 where
  Gap : Lexeme
  Is : Token → Lexeme
  TooLarge : Lexeme

-- the largest number is 2^63 - 1
abbrev pub number_of : ℕ → Lexeme
number_of n = if nat_lt n TOO_LARGE then Is (t.Number (pos n)) else TooLarge

abbrev pub position_of : ℕ → Lexeme
position_of n = if nat_lt n TOO_LARGE then Is (t.Position n) else TooLarge

-- a name that is no keyword; one of more bytes than a text value holds stands in no statement
abbrev pub name_of : Text → Token
name_of us = if nat_lt MAX_TEXT_BYTES (length us) then t.LongName else t.Ident us

-- white space and comments, and the table of tokens
pub data IsLexeme : Text → Lexeme → Type 0 where
  blank : (b : ℕ) → is_blank b ≡ true → IsLexeme (b ∷ []) Gap
  line_comment : (us : Text) → list_all (λ b. not (is_newline b)) us ≡ true → IsLexeme (45 ∷ 45 ∷ us) Gap
  block_comment : (us : Text) → is_unclosed us ≡ true → IsLexeme (47 ∷ 42 ∷ us ++ 42 ∷ 47 ∷ []) Gap
  identifier : (us : Text) → IsName us → ((k : Word) → str_to_ascii_lowercase us ≡ spelling k → ⊥)
      → (str_to_ascii_lowercase us ≡ group_word → ⊥) → IsLexeme us (Is (name_of us))
  keyword : (us : Text) (k : Word) → IsName us → str_to_ascii_lowercase us ≡ spelling k → IsLexeme us (Is (t.Word k))
  group : (us : Text) → IsName us → str_to_ascii_lowercase us ≡ group_word → IsLexeme us (Is (t.Group (bytes_eq us group_word)))
  number : (us : Text) → IsDigits us → IsLexeme us (number_of (value us))
  long_number : (us : Text) (b : ℕ) → IsDigits us → (b == 76 || b == 108) ≡ true → IsLexeme (us ++ b ∷ []) (number_of (value us))
  position : (us : Text) → IsDigits us → IsLexeme (36 ∷ us) (position_of (value us))
  literal : {us text : Text} → Spells us text → IsLexeme (39 ∷ us ++ 39 ∷ []) (Is (t.Literal text))
  symbol : (x : Symbol) → IsLexeme (sign x) (Is (t.Symbol x))
