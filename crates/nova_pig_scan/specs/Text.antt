-- The tokens of a text, and its first fault, as relations.
use Rattle.std.specs.Prelude.{◌≡◌, ◌⊎◌, ℕ, ◌+◌, ◌≤◌, List, [], ◌∷◌, ◌++◌, length, Result, Ok, Err}
use Rattle.nova_pig_tree.specs.declared.token.Token.{Token}
use Rattle.nova_pig_tree.specs.declared.token.Placed.{Placed}
use Rattle.nova_pig_scan.specs.declared.scan.Cause.{Cause}
use Rattle.nova_pig_scan.specs.declared.scan.Cause.TheVariants as cause
use Rattle.nova_pig_scan.specs.declared.scan.TextFault.{TextFault}
use Rattle.nova_pig_scan.specs.declared.scan.TextFault.TheVariants.{At, NoMemory}
use Rattle.nova_pig_scan.specs.Lexemes.{Text, Lexeme, Gap, Is, TooLarge, IsLexeme}

-- no longer prefix of these bytes is white space, a comment or a token
abbrev pub IsLongest : Text → Text → Type 0
IsLongest us rest = (vs more : Text) (x : Lexeme) → vs ++ more ≡ us ++ rest → IsLexeme vs x → length vs ≤ length us

-- no prefix of these bytes is white space, a comment or a token
abbrev pub HasNone : Text → Type 0
HasNone text = (vs more : Text) (x : Lexeme) → vs ++ more ≡ text → IsLexeme vs x → ⊥

-- a token that begins at a place and takes these bytes
abbrev pub placed : Token → ℕ → ℕ → Placed
placed t at n = record { token = t; start = at; end = at + n }

-- white space, comments and tokens after each other, each the longest, up to the end; the text begins at a place
pub data IsTokens : ℕ → Text → List Placed → Type 0 where
  end : {at : ℕ} → IsTokens at [] []
  gap : {at : ℕ} {us rest : Text} {ps : List Placed} → IsLexeme us Gap → IsLongest us rest → IsTokens (at + length us) rest ps → IsTokens at (us ++ rest) ps
  token : {at : ℕ} {us rest : Text} {ps : List Placed} (t : Token) → IsLexeme us (Is t) → IsLongest us rest → IsTokens (at + length us) rest ps
      → IsTokens at (us ++ rest) (placed t at (length us) ∷ ps)

-- white space, comments and tokens after each other, up to the place of the first fault
pub data FailsAt : ℕ → Text → Cause → ℕ → Type 0 where
  none : {at : ℕ} {text : Text} → (text ≡ [] → ⊥) → HasNone text → FailsAt at text cause.Token at
  large : {at : ℕ} {us : Text} (rest : Text) → IsLexeme us TooLarge → IsLongest us rest → FailsAt at (us ++ rest) cause.NumberTooLarge at
  after_gap : {at : ℕ} {us rest : Text} {c : Cause} {place : ℕ} → IsLexeme us Gap → IsLongest us rest → FailsAt (at + length us) rest c place → FailsAt at (us ++ rest) c place
  after_token : {at : ℕ} {us rest : Text} {c : Cause} {place : ℕ} (t : Token) → IsLexeme us (Is t) → IsLongest us rest → FailsAt (at + length us) rest c place
      → FailsAt at (us ++ rest) c place

-- what a text has: tokens or a fault
abbrev pub Reads : ℕ → Text → Result (List Placed) TextFault → Type 0
Reads at text (Ok ps) = IsTokens at text ps
Reads at text (Err (At c place)) = FailsAt at text c place
Reads at text (Err NoMemory) = ⊥

-- a run of bytes is one lexeme at most
abbrev pub OneLexeme : Type 0
OneLexeme = (us : Text) (x y : Lexeme) → IsLexeme us x → IsLexeme us y → x ≡ y

-- a text has tokens or a first fault: one list, or one cause at one place, and not both
pub record IsSettled (text : Text) : Type 0 where
  pub some : ((ps : List Placed) × IsTokens 0 text ps) ⊎ ((c : Cause) × (place : ℕ) × FailsAt 0 text c place)
  pub one_list : (ps qs : List Placed) → IsTokens 0 text ps → IsTokens 0 text qs → ps ≡ qs
  pub one_fault : (c d : Cause) (place other : ℕ) → FailsAt 0 text c place → FailsAt 0 text d other → (c ≡ d) × (place ≡ other)
  pub never_both : (ps : List Placed) (c : Cause) (place : ℕ) → IsTokens 0 text ps → FailsAt 0 text c place → ⊥

abbrev pub TextsAreSettled : Type 0
TextsAreSettled = (text : Text) → IsSettled text
