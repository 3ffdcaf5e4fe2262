-- What is read of a text is the script or the first fault that the relations say.
use Rattle.std.proofs.Common.{◌≡◌, ℕ, ◌≤◌, Bool, true, false, List, length, Option, Some, None, Ok, Err, refl, ap, sym, subst, ◌∙◌, inl, inr, ◌⊎◌, IfOk, IfErr, MatchResult}
use Rattle.std.proofs.lemmas.Bool.{lt-ltb, le-ltb, ltb-true, ltb-false}
use Rattle.std.specs.Prelude.{if◌then◌else◌, nat_lt}
use Rattle.nova_pig_scan.specs.declared.TheConstants.{MAX_SCRIPT_BYTES}
use Rattle.nova_pig_parse.specs.declared.limit.TheConstants.{MAX_SEMICOLONS, MAX_ASSIGNS}
use Rattle.nova_pig_tree.specs.declared.statement.Statement.{Statement}
use Rattle.nova_pig_tree.specs.declared.token.Placed.{Placed}
use Rattle.nova_pig_scan.specs.declared.scan.Cause.TheVariants as cause
use Rattle.nova_pig_scan.specs.declared.scan.TextFault.TheVariants as scanned
use Rattle.nova_pig_scan.specs.Lexemes.{Text}
use Rattle.nova_pig_scan.specs.Tokens.{tokens, scan, Outcome}
use Rattle.nova_pig_scan.specs.Text.{IsTokens}
use Rattle.nova_pig_scan.specs.Text as lexed
use Rattle.nova_pig_scan.proofs.Exact as exact
use Rattle.nova_pig_parse.specs.declared.text.ParseFault.{ParseFault}
use Rattle.nova_pig_parse.specs.declared.text.ParseFault.TheVariants as fault
use Rattle.nova_pig_parse.specs.Limits.{semicolons, assigns, first_deep, IsWithin}
use Rattle.nova_pig_parse.specs.Script.{IsScriptOf, IsFaultOf, long, token, number, many_semicolons, deep, many_assigns, syntax, TextsAreSettled}
use Rattle.nova_pig_parse.specs.Parse.{Statements, cuts, statements, limit, deep_or, unless, by_tokens, parse_of, IsParseOf}
use Rattle.nova_pig_parse.proofs.Scripts.{Reads, reads, script_read, syntax_read}

-- a script, or a fault other than out of memory
abbrev pub Answers : Text → Statements → Type 0
Answers text (Ok xs) = IsScriptOf text xs
Answers text (Err fault.NoMemory) = ⊥
Answers text (Err f) = IsFaultOf text f

script_answers : (text : Text) (ps : List Placed) → length text ≤ MAX_SCRIPT_BYTES → IsTokens 0 text ps → IsWithin ps → (r : Statements) → Reads (length text) ps r → Answers text r
script_answers text ps short lexed within (Ok xs) h = record { short = short; tokens = ps; lexed = lexed; within = within; script = h }
script_answers text ps short lexed within (Err (fault.Syntax at)) h = syntax short lexed within h
script_answers text ps short lexed within (Err f) h = absurd h

limits_answer : (text : Text) (ps : List Placed) → length text ≤ MAX_SCRIPT_BYTES → IsTokens 0 text ps → Answers text (unless (limit ps) (statements (length text) (cuts ps)))
limits_answer text ps short lexed = by (nat_lt MAX_SEMICOLONS (semicolons ps)) refl (first_deep ps) refl (nat_lt MAX_ASSIGNS (assigns ps)) refl
  where
    by : (v : Bool) → nat_lt MAX_SEMICOLONS (semicolons ps) ≡ v → (d : Option ℕ) → first_deep ps ≡ d → (w : Bool) → nat_lt MAX_ASSIGNS (assigns ps) ≡ w
        → Answers text (unless (if v then Some fault.TooLong else deep_or d (if w then Some fault.TooLong else None)) (statements (length text) (cuts ps)))
    by true e d f w g = many_semicolons short lexed (ltb-true _ _ e)
    by false e (Some at) f w g = deep short lexed (ltb-false _ _ e) f
    by false e None f true g = many_assigns short lexed (ltb-false _ _ e) f (ltb-true _ _ g)
    by false e None f false g =
        script_answers text ps short lexed (record { few_semicolons = ltb-false _ _ e; shallow = f; few_assigns = ltb-false _ _ g })
        (statements (length text) (cuts ps)) (reads (length text) ps)

tokens_answer : (text : Text) → length text ≤ MAX_SCRIPT_BYTES → (o : Outcome) → lexed.Reads 0 text o → Answers text (by_tokens (length text) o)
tokens_answer text short (Ok ps) h = limits_answer text ps short h
tokens_answer text short (Err (scanned.At cause.Token at)) h = token short h
tokens_answer text short (Err (scanned.At cause.NumberTooLarge at)) h = number short h
tokens_answer text short (Err scanned.NoMemory) h = absurd h

pub answers : (text : Text) → Answers text (parse_of text)
answers text = by (nat_lt MAX_SCRIPT_BYTES (length text)) refl
  where
    by : (v : Bool) → nat_lt MAX_SCRIPT_BYTES (length text) ≡ v → Answers text (if v then Err fault.TooLong else by_tokens (length text) (tokens text))
    by true e = long (ltb-true _ _ e)
    by false e = tokens_answer text (ltb-false _ _ e) (scan 0 0 text) (exact.reads 0 text)

-- what a relation says is what is read
short_parse : (text : Text) → length text ≤ MAX_SCRIPT_BYTES → parse_of text ≡ by_tokens (length text) (tokens text)
short_parse text short = ap (λ v. if v then Err fault.TooLong else by_tokens (length text) (tokens text)) (le-ltb _ _ short)

lexed_parse : (text : Text) (ps : List Placed) → length text ≤ MAX_SCRIPT_BYTES → IsTokens 0 text ps → parse_of text ≡ unless (limit ps) (statements (length text) (cuts ps))
lexed_parse text ps short lexed = short_parse text short ∙ ap (by_tokens (length text)) (exact.all_read lexed)

few : (ps : List Placed) → semicolons ps ≤ MAX_SEMICOLONS → limit ps ≡ deep_or (first_deep ps) (if nat_lt MAX_ASSIGNS (assigns ps) then Some fault.TooLong else None)
few ps h = ap (λ v. if v then Some fault.TooLong else deep_or (first_deep ps) (if nat_lt MAX_ASSIGNS (assigns ps) then Some fault.TooLong else None)) (le-ltb _ _ h)

within_parse : (text : Text) (ps : List Placed) → length text ≤ MAX_SCRIPT_BYTES → IsTokens 0 text ps → IsWithin ps → parse_of text ≡ statements (length text) (cuts ps)
within_parse text ps short lexed within =
    lexed_parse text ps short lexed ∙ ap (λ l. unless l (statements (length text) (cuts ps)))
    (few ps within.few_semicolons ∙ ap (λ d. deep_or d (if nat_lt MAX_ASSIGNS (assigns ps) then Some fault.TooLong else None)) within.shallow
    ∙ ap (λ w. if w then Some fault.TooLong else None) (le-ltb _ _ within.few_assigns))

pub script_parsed : (text : Text) (xs : List Statement) → IsScriptOf text xs → parse_of text ≡ Ok xs
script_parsed text xs h = within_parse text h.tokens h.short h.lexed h.within ∙ script_read (length text) h.script

pub fault_parsed : {text : Text} {f : ParseFault} → IsFaultOf text f → parse_of text ≡ Err f
fault_parsed {text} (long h) = ap (λ v. if v then Err fault.TooLong else by_tokens (length text) (tokens text)) (lt-ltb _ _ h)
fault_parsed {text} (token short h) = short_parse text short ∙ ap (by_tokens (length text)) (exact.fault_read h)
fault_parsed {text} (number short h) = short_parse text short ∙ ap (by_tokens (length text)) (exact.fault_read h)
fault_parsed {text} (many_semicolons {ps = ps} short lexed h) =
    lexed_parse text ps short lexed
    ∙ ap (λ v. unless (if v then Some fault.TooLong else deep_or (first_deep ps) (if nat_lt MAX_ASSIGNS (assigns ps) then Some fault.TooLong else None)) (statements (length text) (cuts ps))) (lt-ltb _ _ h)
fault_parsed {text} (deep {ps = ps} short lexed h e) =
    lexed_parse text ps short lexed ∙ ap (λ l. unless l (statements (length text) (cuts ps)))
    (few ps h ∙ ap (λ d. deep_or d (if nat_lt MAX_ASSIGNS (assigns ps) then Some fault.TooLong else None)) e)
fault_parsed {text} (many_assigns {ps = ps} short lexed h e k) =
    lexed_parse text ps short lexed ∙ ap (λ l. unless l (statements (length text) (cuts ps)))
    (few ps h ∙ ap (λ d. deep_or d (if nat_lt MAX_ASSIGNS (assigns ps) then Some fault.TooLong else None)) e ∙ ap (λ w. if w then Some fault.TooLong else None) (lt-ltb _ _ k))
fault_parsed {text} (syntax {ps = ps} short lexed within h) = within_parse text ps short lexed within ∙ syntax_read (length text) h

-- the clauses of `parse`
pub ok_found : (text : Text) (r : Statements) → IsParseOf (parse_of text) r → IfOk r (λ xs. IsScriptOf text xs)
ok_found text (Ok xs) e = subst (Answers text) (sym e) (answers text)
ok_found text (Err f) e = tt

pub ok_complete : (text : Text) (r : Statements) → IsParseOf (parse_of text) r → (xs : List Statement) → IsScriptOf text xs → MatchResult r (λ found. found ≡ xs) (λ e. e ≡ fault.NoMemory)
ok_complete text (Err fault.NoMemory) e xs h = refl
ok_complete text (Ok ys) e xs h = let d = e ∙ script_parsed text xs h in cc
ok_complete text (Err f) e xs h = let d = e ∙ script_parsed text xs h in absurd cc

pub err_found : (text : Text) (r : Statements) → IsParseOf (parse_of text) r → IfErr r (λ f. (f ≡ fault.NoMemory → ⊥) → IsFaultOf text f)
err_found text (Ok xs) e = tt
err_found text (Err fault.NoMemory) e = λ h. absurd (h refl)
err_found text (Err f) e = λ h. subst (Answers text) (sym e) (answers text)

pub err_complete : (text : Text) (r : Statements) → IsParseOf (parse_of text) r → (f : ParseFault) → IsFaultOf text f → MatchResult r (λ _. ⊥) (λ e. (e ≡ fault.NoMemory → ⊥) → e ≡ f)
err_complete text (Err fault.NoMemory) e f h = λ k. absurd (k refl)
err_complete text (Ok xs) e f h = let d = e ∙ fault_parsed h in absurd cc
err_complete text (Err g) e f h = λ k. let d = e ∙ fault_parsed h in cc

-- a text is one script or has one fault
pub settled : TextsAreSettled
settled text = record {
  some = either (parse_of text) (answers text);
  one_script = λ xs ys h k. scripts xs ys (parse_of text) (script_parsed text xs h) (script_parsed text ys k);
  one_fault = λ f g h k. faults f g (parse_of text) (fault_parsed h) (fault_parsed k);
  never_both = λ xs f h k. clash xs f (parse_of text) (script_parsed text xs h) (fault_parsed k);
}
  where
    either : (r : Statements) → Answers text r → ((xs : List Statement) × IsScriptOf text xs) ⊎ ((f : ParseFault) × IsFaultOf text f)
    either (Ok xs) h = inl (xs, h)
    either (Err fault.NoMemory) h = absurd h
    either (Err f) h = inr (f, h)

    scripts : (xs ys : List Statement) (r : Statements) → r ≡ Ok xs → r ≡ Ok ys → xs ≡ ys
    scripts xs ys r e f = cc

    faults : (f g : ParseFault) (r : Statements) → r ≡ Err f → r ≡ Err g → f ≡ g
    faults f g r d e = cc

    clash : (xs : List Statement) (f : ParseFault) (r : Statements) → r ≡ Ok xs → r ≡ Err f → ⊥
    clash xs f r d e = cc
