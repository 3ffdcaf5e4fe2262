-- The script of a text as it is read: the tokens, the limits on them, and each cut by itself.
use Rattle.std.specs.Prelude.{if◌then◌else◌, ◌≡◌, ℕ, ◌+◌, Bool, true, false, not, ◌&&◌, ◌==◌, nat_lt, List, [], ◌∷◌, ◌++◌, length, Option, Some, None, Result, Ok, Err}
use Rattle.nova_pig_scan.specs.declared.TheConstants.{MAX_SCRIPT_BYTES}
use Rattle.nova_pig_parse.specs.declared.limit.TheConstants.{MAX_SEMICOLONS, MAX_ASSIGNS}
use Rattle.nova_value.specs.Lists.{onto_first}
use Rattle.nova_pig_tree.specs.declared.statement.Body.{Body}
use Rattle.nova_pig_tree.specs.declared.statement.Body.TheVariants as body
use Rattle.nova_pig_tree.specs.declared.statement.Statement.{Statement}
use Rattle.nova_pig_tree.specs.declared.token.Placed.{Placed}
use Rattle.nova_pig_scan.specs.declared.scan.Cause.TheVariants as cause
use Rattle.nova_pig_scan.specs.declared.scan.TextFault.{TextFault}
use Rattle.nova_pig_scan.specs.declared.scan.TextFault.TheVariants as scan
use Rattle.nova_pig_scan.specs.Tokens.{tokens, Outcome}
use Rattle.nova_pig_parse.specs.Limits.{is_semicolon, semicolons, assigns, first_deep, parts, nests}
use Rattle.nova_pig_parse.specs.Script.{tokens_of, place, spanned}
use Rattle.nova_pig_grammar.specs.StatementReading.{body_of}
use Rattle.nova_pig_parse.specs.declared.text.ParseFault.{ParseFault}
use Rattle.nova_pig_parse.specs.declared.text.ParseFault.TheVariants as fault

-- the place of the first 65th token of a piece that nests, where so many stand in the piece before
unfoldable pub too_deep : ℕ → List Placed → Option ℕ
too_deep n [] = None
too_deep n (p ∷ ps) =
    if parts p.token then too_deep 0 ps else
    (if nests p.token then (if n == 64 then Some p.start else too_deep (n + 1) ps) else too_deep n ps)

abbrev pub deep_or : Option ℕ → Option ParseFault → Option ParseFault
deep_or (Some at) other = Some (fault.TooDeep at)
deep_or None other = other

-- more than 257 `;`, the first place that is too deep, more than 256 `=`
abbrev pub limit : List Placed → Option ParseFault
limit ps =
    if nat_lt MAX_SEMICOLONS (semicolons ps) then Some fault.TooLong else
    deep_or (first_deep ps) (if nat_lt MAX_ASSIGNS (assigns ps) then Some fault.TooLong else None)

-- the tokens cut after each `;`; tokens after the last one are a last cut without one
unfoldable pub cuts : List Placed → List (List Placed)
cuts [] = []
cuts (p ∷ ps) = if is_semicolon p.token then (p ∷ []) ∷ cuts ps else onto_first p (cuts ps)

abbrev pub is_store : Body → Bool
is_store (body.Store a c) = true
is_store _ = false

-- only the last cut stores
abbrev pub kept : Bool → Option Body → Option Body
kept is_last (Some b) = if is_store b && not is_last then None else Some b
kept is_last None = None

abbrev pub answer_of : ℕ → List Placed → Option Body → Result Statement ParseFault
answer_of len cut (Some b) = Ok (spanned cut b)
answer_of len cut None = Err (fault.Syntax (place len cut))

abbrev pub read_cut : ℕ → Bool → List Placed → Result Statement ParseFault
read_cut len is_last cut = answer_of len cut (kept is_last (body_of (tokens_of cut)))

abbrev pub Statements : Type 0
Statements = Result (List Statement) ParseFault

abbrev pub and_more : Result Statement ParseFault → Statements → Statements
and_more (Ok x) (Ok xs) = Ok (x ∷ xs)
and_more (Ok x) (Err f) = Err f
and_more (Err f) more = Err f

abbrev pub is_none : List (List Placed) → Bool
is_none [] = true
is_none _ = false

unfoldable pub statements : ℕ → List (List Placed) → Statements
statements len [] = Ok []
statements len (cut ∷ more) = and_more (read_cut len (is_none more) cut) (statements len more)

abbrev pub unless : Option ParseFault → Statements → Statements
unless (Some f) read = Err f
unless None read = read

abbrev pub by_tokens : ℕ → Outcome → Statements
by_tokens len (Err (scan.At cause.Token at)) = Err (fault.Token at)
by_tokens len (Err (scan.At cause.NumberTooLarge at)) = Err (fault.NumberTooLarge at)
by_tokens len (Err scan.NoMemory) = Err fault.NoMemory
by_tokens len (Ok ps) = unless (limit ps) (statements len (cuts ps))

-- the script of a text, or its first fault in the order of the faults
abbrev pub parse_of : List ℕ → Statements
parse_of text = if nat_lt MAX_SCRIPT_BYTES (length text) then Err fault.TooLong else by_tokens (length text) (tokens text)

abbrev pub IsParseOf : {A : Type 0} → Result A ParseFault → Result A ParseFault → Type 0
IsParseOf spec (Err fault.NoMemory) = Unit {0}
IsParseOf spec result = result ≡ spec

abbrev pub IsSameFault : TextFault → ParseFault → Type 0
IsSameFault (scan.At cause.Token at) f = f ≡ fault.Token at
IsSameFault (scan.At cause.NumberTooLarge at) f = f ≡ fault.NumberTooLarge at
IsSameFault scan.NoMemory f = f ≡ fault.NoMemory

-- the first cut and what follows it
abbrev pub IsSplit : List Placed → List Placed → List Placed → Type 0
IsSplit ps cut more = cuts ps ≡ cut ∷ cuts more

-- how many tokens stand before the first `;`
unfoldable pub before_semicolon : List Placed → ℕ
before_semicolon [] = 0
before_semicolon (p ∷ ps) = if is_semicolon p.token then 0 else 1 + before_semicolon ps

abbrev pub ahead : List Statement → Statements → Statements
ahead prefix (Ok more) = Ok (prefix ++ more)
ahead prefix (Err f) = Err f
