-- The grammar of scripts, and the faults of a text in their order, as relations.
use Rattle.std.specs.List.{list_all}
use Rattle.std.specs.Prelude.{if◌then◌else◌, ◌≡◌, ◌⊎◌, ℕ, ◌<◌, ◌≤◌, true, not, nat_lt, List, [], ◌∷◌, ◌++◌, length, map, Some, None}
use Rattle.nova_pig_scan.specs.declared.TheConstants.{MAX_SCRIPT_BYTES}
use Rattle.nova_pig_parse.specs.declared.limit.TheConstants.{MAX_SEMICOLONS, MAX_ASSIGNS}
use Rattle.nova_pig_tree.specs.declared.statement.Body.{Body}
use Rattle.nova_pig_tree.specs.declared.statement.Body.TheVariants as body
use Rattle.nova_pig_tree.specs.declared.statement.Op.{Op}
use Rattle.nova_pig_tree.specs.declared.statement.Statement.{Statement}
use Rattle.nova_pig_tree.specs.declared.token.Token.{Token}
use Rattle.nova_pig_tree.specs.declared.token.Placed.{Placed}
use Rattle.nova_pig_scan.specs.declared.scan.Cause.TheVariants as cause
use Rattle.nova_pig_scan.specs.Lexemes.{Text}
use Rattle.nova_pig_scan.specs.Text.{IsTokens, FailsAt}
use Rattle.nova_pig_parse.specs.declared.text.ParseFault.{ParseFault}
use Rattle.nova_pig_parse.specs.declared.text.ParseFault.TheVariants as fault
use Rattle.nova_pig_grammar.specs.Statement.{IsStatement}
use Rattle.nova_pig_parse.specs.Limits.{is_semicolon, semicolons, assigns, first_deep, IsWithin}

-- tokens without their places
abbrev pub tokens_of : List Placed → List Token
tokens_of = map (λ p. p.token)

-- where the last token ends
abbrev pub end_of : ℕ → List Placed → ℕ
end_of at [] = at
end_of at (p ∷ ps) = end_of p.end ps

abbrev pub spanned : List Placed → Body → Statement
spanned [] b = record { start = 0; end = 0; body = b }
spanned (p ∷ ps) b = record { start = p.start; end = end_of p.end ps; body = b }

-- script = { ident "=" op ";" } [ STORE ident INTO literal ";" ]
pub data IsScript : List Placed → List Statement → Type 0 where
  empty : IsScript [] []
  store : (ps : List Placed) {a c : List ℕ} → IsStatement (tokens_of ps) (body.Store a c) → IsScript ps (spanned ps (body.Store a c) ∷ [])
  define : (ps rest : List Placed) {a : List ℕ} {o : Op} {xs : List Statement} → IsStatement (tokens_of ps) (body.Define a o) → IsScript rest xs
      → IsScript (ps ++ rest) (spanned ps (body.Define a o) ∷ xs)

-- no token is a `;`
abbrev pub HasNoSemicolon : List Placed → Type 0
HasNoSemicolon ps = list_all (λ p. not (is_semicolon p.token)) ps ≡ true

-- the first cut of some tokens, and what follows it: it ends after the first `;`, or is all where there is none
pub data IsFirstCut : List Placed → List Placed → Type 0 where
  closed : (prefix : List Placed) (p : Placed) (rest : List Placed) → HasNoSemicolon prefix → is_semicolon p.token ≡ true → IsFirstCut (prefix ++ p ∷ []) rest
  unclosed : (p : Placed) (ps : List Placed) → HasNoSemicolon (p ∷ ps) → IsFirstCut (p ∷ ps) []

-- the place of a cut that is no statement: its first token, or the text's length where it has no `;`
abbrev pub place : ℕ → List Placed → ℕ
place len [] = len
place len (p ∷ ps) = if nat_lt 0 (semicolons (p ∷ ps)) then p.start else len

-- a STORE may only be the last cut
abbrev pub MayStand : Body → List Placed → Type 0
MayStand (body.Define a o) rest = Unit {0}
MayStand (body.Store a c) rest = rest ≡ []

-- the first cut that is neither a definition nor, as the last one, a STORE; in a text of so many bytes
pub data SyntaxAt (len : ℕ) : List Placed → ℕ → Type 0 where
  here : (cut rest : List Placed) → IsFirstCut cut rest → ((b : Body) → IsStatement (tokens_of cut) b → MayStand b rest → ⊥) → SyntaxAt len (cut ++ rest) (place len cut)
  later : (cut rest : List Placed) {a : List ℕ} {o : Op} {at : ℕ} → IsStatement (tokens_of cut) (body.Define a o) → SyntaxAt len rest at → SyntaxAt len (cut ++ rest) at

-- a text of at most 65,536 bytes is a script with these statements, and no limit is passed
pub record IsScriptOf (text : Text) (xs : List Statement) : Type 0 where
  pub short : length text ≤ MAX_SCRIPT_BYTES
  pub tokens : List Placed
  pub lexed : IsTokens 0 text tokens
  pub within : IsWithin tokens
  pub script : IsScript tokens xs

-- the faults of a text: each where those before it aren't
pub data IsFaultOf : Text → ParseFault → Type 0 where
  long : {text : Text} → MAX_SCRIPT_BYTES < length text → IsFaultOf text fault.TooLong
  token : {text : Text} {at : ℕ} → length text ≤ MAX_SCRIPT_BYTES → FailsAt 0 text cause.Token at → IsFaultOf text (fault.Token at)
  number : {text : Text} {at : ℕ} → length text ≤ MAX_SCRIPT_BYTES → FailsAt 0 text cause.NumberTooLarge at → IsFaultOf text (fault.NumberTooLarge at)
  many_semicolons : {text : Text} {ps : List Placed} → length text ≤ MAX_SCRIPT_BYTES → IsTokens 0 text ps → MAX_SEMICOLONS < semicolons ps → IsFaultOf text fault.TooLong
  deep : {text : Text} {ps : List Placed} {at : ℕ} → length text ≤ MAX_SCRIPT_BYTES → IsTokens 0 text ps → semicolons ps ≤ MAX_SEMICOLONS → first_deep ps ≡ Some at
      → IsFaultOf text (fault.TooDeep at)
  many_assigns : {text : Text} {ps : List Placed} → length text ≤ MAX_SCRIPT_BYTES → IsTokens 0 text ps → semicolons ps ≤ MAX_SEMICOLONS → first_deep ps ≡ None → MAX_ASSIGNS < assigns ps
      → IsFaultOf text fault.TooLong
  syntax : {text : Text} {ps : List Placed} {at : ℕ} → length text ≤ MAX_SCRIPT_BYTES → IsTokens 0 text ps → IsWithin ps → SyntaxAt (length text) ps at
      → IsFaultOf text (fault.Syntax at)

-- a text is one script, or has one first fault, and not both
pub record IsSettled (text : Text) : Type 0 where
  pub some : ((xs : List Statement) × IsScriptOf text xs) ⊎ ((f : ParseFault) × IsFaultOf text f)
  pub one_script : (xs ys : List Statement) → IsScriptOf text xs → IsScriptOf text ys → xs ≡ ys
  pub one_fault : (f g : ParseFault) → IsFaultOf text f → IsFaultOf text g → f ≡ g
  pub never_both : (xs : List Statement) (f : ParseFault) → IsScriptOf text xs → IsFaultOf text f → ⊥

abbrev pub TextsAreSettled : Type 0
TextsAreSettled = (text : Text) → IsSettled text
