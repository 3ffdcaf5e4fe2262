-- The statements of the cuts are the script, and the first bad cut is the place of its fault.
use Rattle.std.proofs.Common.{◌≡◌, ℕ, zero, suc, ◌<◌, Bool, true, false, List, [], ◌∷◌, ◌++◌, length, Option, Some, None, Result, Ok, Err, refl, ap, sym, subst, ◌∙◌, arith}
use Rattle.std.proofs.lemmas.List.{append-nil}
use Rattle.std.specs.Prelude.{if◌then◌else◌, ◌&&◌, not}
use Rattle.std.specs.List.{list_all}
use Rattle.nova_value.specs.Lists.{onto_first}
use Rattle.nova_pig_tree.specs.declared.statement.Body.{Body}
use Rattle.nova_pig_tree.specs.declared.statement.Body.TheVariants as body
use Rattle.nova_pig_tree.specs.declared.statement.Op.{Op}
use Rattle.nova_pig_tree.specs.declared.statement.Statement.{Statement}
use Rattle.nova_pig_tree.specs.declared.token.Token.{Token}
use Rattle.nova_pig_tree.specs.declared.token.Token.TheVariants.{Ident, Word, Literal, Symbol}
use Rattle.nova_pig_tree.specs.declared.token.Symbol.TheVariants as s
use Rattle.nova_pig_tree.specs.declared.token.Word.TheVariants as w
use Rattle.nova_pig_tree.specs.declared.token.Placed.{Placed}
use Rattle.nova_pig_parse.specs.declared.text.ParseFault.{ParseFault}
use Rattle.nova_pig_parse.specs.declared.text.ParseFault.TheVariants as fault
use Rattle.nova_pig_parse.specs.Limits.{is_semicolon}
use Rattle.nova_pig_parse.specs.Script.{tokens_of, spanned, IsScript, empty, store, define, HasNoSemicolon, IsFirstCut, closed, unclosed, place, MayStand, SyntaxAt, here, later}
use Rattle.nova_pig_grammar.specs.Statement as st
use Rattle.nova_pig_grammar.specs.Statement.{IsStatement}
use Rattle.nova_pig_grammar.specs.StatementReading.{body_of}
use Rattle.nova_pig_parse.specs.Parse.{cuts, kept, answer_of, read_cut, Statements, and_more, is_none, statements}
use Rattle.nova_pig_grammar.proofs.Clear.{clear, op-clear}
use Rattle.nova_pig_grammar.proofs.StatementComplete.{cut-complete}
use Rattle.nova_pig_grammar.proofs.StatementSound.{cut-sound}
use Rattle.nova_pig_parse.proofs.Cuts.{not_none}

-- the cuts after the first
semicolon_none : (p : Placed) (ps : List Placed) → HasNoSemicolon (p ∷ ps) → (is_semicolon p.token ≡ false) × HasNoSemicolon ps
semicolon_none p ps h = by (is_semicolon p.token) h
  where
    by : (v : Bool) → (not v && list_all (λ p. not (is_semicolon p.token)) ps) ≡ true → (v ≡ false) × HasNoSemicolon ps
    by true h = absurd cc
    by false h = (refl, h)

none_more : (p : Placed) (ps : List Placed) → is_semicolon p.token ≡ false → HasNoSemicolon ps → HasNoSemicolon (p ∷ ps)
none_more p ps e h = ap (λ v. not v && list_all (λ p. not (is_semicolon p.token)) ps) e ∙ h

cuts_closed : (prefix : List Placed) (p : Placed) (rest : List Placed) → HasNoSemicolon prefix → is_semicolon p.token ≡ true → cuts ((prefix ++ p ∷ []) ++ rest) ≡ (prefix ++ p ∷ []) ∷ cuts rest
unfolding cuts
cuts_closed [] p rest none e = ap (λ v. if v then (p ∷ []) ∷ cuts rest else onto_first p (cuts rest)) e
cuts_closed (q ∷ prefix) p rest none e =
    let split = semicolon_none q prefix none in
    ap (λ v. if v then (q ∷ []) ∷ cuts ((prefix ++ p ∷ []) ++ rest) else onto_first q (cuts ((prefix ++ p ∷ []) ++ rest))) split.0
    ∙ ap (onto_first q) (cuts_closed prefix p rest split.1 e)

cuts_unclosed : (p : Placed) (ps : List Placed) → HasNoSemicolon (p ∷ ps) → cuts (p ∷ ps) ≡ (p ∷ ps) ∷ []
unfolding cuts
cuts_unclosed p [] none = ap (λ v. if v then (p ∷ []) ∷ [] else onto_first p []) (semicolon_none p [] none).0
cuts_unclosed p (q ∷ ps) none =
    let split = semicolon_none p (q ∷ ps) none in
    ap (λ v. if v then (p ∷ []) ∷ cuts (q ∷ ps) else onto_first p (cuts (q ∷ ps))) split.0 ∙ ap (onto_first p) (cuts_unclosed q ps split.1)

cuts_first : {cut rest : List Placed} → IsFirstCut cut rest → cuts (cut ++ rest) ≡ cut ∷ cuts rest
unfolding cuts
cuts_first (closed prefix p rest none e) = cuts_closed prefix p rest none e
cuts_first (unclosed p ps none) = ap cuts (append-nil (p ∷ ps)) ∙ cuts_unclosed p ps none

-- some tokens have a first cut
record First (ps : List Placed) : Type 0 where
  cut : List Placed
  rest : List Placed
  is : ps ≡ cut ++ rest
  first : IsFirstCut cut rest
  shorter : length rest < length ps

more_first : (p : Placed) {ps cut rest : List Placed} → is_semicolon p.token ≡ false → ps ≡ cut ++ rest → IsFirstCut cut rest → length rest < length ps → First (p ∷ ps)
more_first p {ps} {cut} {rest} e is (closed prefix q rest' none last) less = record {
  cut = p ∷ prefix ++ q ∷ [];
  rest = rest;
  is = ap (λ qs. p ∷ qs) is;
  first = closed (p ∷ prefix) q rest (none_more p prefix e none) last;
  shorter = omega arith;
}
more_first p {ps} {cut} {rest} e is (unclosed q qs none) less = record {
  cut = p ∷ q ∷ qs;
  rest = [];
  is = ap (λ qs. p ∷ qs) is;
  first = unclosed p (q ∷ qs) (none_more p (q ∷ qs) e none);
  shorter = omega arith;
}

first_cut : (p : Placed) (ps : List Placed) → First (p ∷ ps)
first_cut p [] = by (is_semicolon p.token) refl
  where
    by : (v : Bool) → is_semicolon p.token ≡ v → First (p ∷ [])
    by true e = record { cut = p ∷ []; rest = []; is = refl; first = closed [] p [] refl e; shorter = omega arith }
    by false e = record { cut = p ∷ []; rest = []; is = refl; first = unclosed p [] (none_more p [] e refl); shorter = omega arith }
first_cut p (q ∷ qs) = by (is_semicolon p.token) refl (first_cut q qs)
  where
    by : (v : Bool) → is_semicolon p.token ≡ v → First (q ∷ qs) → First (p ∷ q ∷ qs)
    by true e f = record { cut = p ∷ []; rest = q ∷ qs; is = refl; first = closed [] p (q ∷ qs) refl e; shorter = omega arith }
    by false e f = more_first p e f.is f.first f.shorter

-- a statement is a first cut
clear_semicolons : (ps : List Placed) → list_all (λ p. not (is_semicolon p.token)) ps ≡ clear (tokens_of ps)
clear_semicolons [] = refl
clear_semicolons (p ∷ ps) = ap (λ v. not (is_semicolon p.token) && v) (clear_semicolons ps)

record Ends (us : List Token) (ps : List Placed) : Type 0 where
  prefix : List Placed
  last : Placed
  is : ps ≡ prefix ++ last ∷ []
  are : tokens_of prefix ≡ us
  semicolon : is_semicolon last.token ≡ true

ends_with : (us : List Token) (ps : List Placed) → tokens_of ps ≡ us ++ Symbol s.Semicolon ∷ [] → Ends us ps
ends_with [] [] h = absurd cc
ends_with [] (p ∷ []) h = let e : p.token ≡ Symbol s.Semicolon = cc in record { prefix = []; last = p; is = refl; are = refl; semicolon = ap is_semicolon e }
ends_with [] (p ∷ q ∷ ps) h = absurd cc
ends_with (u ∷ us) [] h = absurd cc
ends_with (u ∷ us) (p ∷ ps) h =
    let e : p.token ≡ u = cc in
    let more : tokens_of ps ≡ us ++ Symbol s.Semicolon ∷ [] = cc in
    let f = ends_with us ps more in
    record { prefix = p ∷ f.prefix; last = f.last; is = ap (λ qs. p ∷ qs) f.is; are = ap (λ t. t ∷ tokens_of f.prefix) e ∙ ap (λ ts. u ∷ ts) f.are; semicolon = f.semicolon }

statement_tokens : {ts : List Token} {b : Body} → IsStatement ts b → (us : List Token) × (ts ≡ us ++ Symbol s.Semicolon ∷ []) × (clear us ≡ true)
statement_tokens (st.define {a} {ts} d) = (Ident a ∷ Symbol s.Assign ∷ ts, refl, op-clear d)
statement_tokens (st.store {a} {c}) = (Word w.Store ∷ Ident a ∷ Word w.Into ∷ Literal c ∷ [], refl, refl)

statement_first : {cut : List Placed} {b : Body} → IsStatement (tokens_of cut) b → (rest : List Placed) → IsFirstCut cut rest
statement_first {cut} d rest =
    let (us, is, none) = statement_tokens d in
    let f = ends_with us cut is in
    subst (λ ps. IsFirstCut ps rest) (sym f.is) (closed f.prefix f.last rest (clear_semicolons f.prefix ∙ ap clear f.are ∙ none) f.semicolon)

-- a cut by itself
abbrev answer : ℕ → List Placed → Bool → Option Body → Result Statement ParseFault
answer len cut last o = answer_of len cut (kept last o)

defined : (len : ℕ) (cut : List Placed) (last : Bool) (a : List ℕ) (o : Op) → IsStatement (tokens_of cut) (body.Define a o) → read_cut len last cut ≡ Ok (spanned cut (body.Define a o))
defined len cut last a o d = ap (answer len cut last) (cut-complete d)

stored : (len : ℕ) (cut : List Placed) (a c : List ℕ) → IsStatement (tokens_of cut) (body.Store a c) → read_cut len true cut ≡ Ok (spanned cut (body.Store a c))
stored len cut a c d = ap (answer len cut true) (cut-complete d)

next_cut : (len : ℕ) {cut rest : List Placed} → IsFirstCut cut rest → statements len (cuts (cut ++ rest)) ≡ and_more (read_cut len (is_none (cuts rest)) cut) (statements len (cuts rest))
unfolding statements
next_cut len f = ap (statements len) (cuts_first f)

-- what a relation says is what is read
pub script_read : (len : ℕ) {ps : List Placed} {xs : List Statement} → IsScript ps xs → statements len (cuts ps) ≡ Ok xs
unfolding statements cuts
script_read len empty = refl
script_read len (store ps {a} {c} d) =
    ap (λ qs. statements len (cuts qs)) (sym (append-nil ps)) ∙ next_cut len (statement_first d []) ∙ ap (λ r. and_more r (Ok [])) (stored len ps a c d)
script_read len (define ps rest {a} {o} {xs} d h) =
    next_cut len (statement_first d rest) ∙ ap (λ r. and_more r (statements len (cuts rest))) (defined len ps (is_none (cuts rest)) a o d)
    ∙ ap (and_more (Ok (spanned ps (body.Define a o)))) (script_read len h)

bad_cut : (len : ℕ) (cut rest : List Placed) → ((b : Body) → IsStatement (tokens_of cut) b → MayStand b rest → ⊥) → read_cut len (is_none (cuts rest)) cut ≡ Err (fault.Syntax (place len cut))
unfolding cuts
bad_cut len cut rest bad = by (body_of (tokens_of cut)) refl rest bad
  where
    by : (o : Option Body) → body_of (tokens_of cut) ≡ o → (rest : List Placed) → ((b : Body) → IsStatement (tokens_of cut) b → MayStand b rest → ⊥)
        → answer len cut (is_none (cuts rest)) o ≡ Err (fault.Syntax (place len cut))
    by None e rest bad = refl
    by (Some (body.Define a o)) e rest bad = absurd (bad (body.Define a o) (cut-sound (tokens_of cut) (body.Define a o) e) tt)
    by (Some (body.Store a c)) e [] bad = absurd (bad (body.Store a c) (cut-sound (tokens_of cut) (body.Store a c) e) refl)
    by (Some (body.Store a c)) e (q ∷ qs) bad = ap (λ v. answer len cut v (Some (body.Store a c))) (not_none q qs)

pub syntax_read : (len : ℕ) {ps : List Placed} {at : ℕ} → SyntaxAt len ps at → statements len (cuts ps) ≡ Err (fault.Syntax at)
syntax_read len (here cut rest first bad) = next_cut len first ∙ ap (λ r. and_more r (statements len (cuts rest))) (bad_cut len cut rest bad)
syntax_read len (later cut rest {a} {o} d h) =
    next_cut len (statement_first d rest) ∙ ap (λ r. and_more r (statements len (cuts rest))) (defined len cut (is_none (cuts rest)) a o d)
    ∙ ap (and_more (Ok (spanned cut (body.Define a o)))) (syntax_read len h)

-- what is read is what a relation says
abbrev pub Reads : ℕ → List Placed → Statements → Type 0
Reads len ps (Ok xs) = IsScript ps xs
Reads len ps (Err (fault.Syntax at)) = SyntaxAt len ps at
Reads len ps (Err f) = ⊥

after_definition : (len : ℕ) (cut rest : List Placed) (a : List ℕ) (o : Op) → IsStatement (tokens_of cut) (body.Define a o) → (r : Statements) → Reads len rest r
    → Reads len (cut ++ rest) (and_more (Ok (spanned cut (body.Define a o))) r)
after_definition len cut rest a o d (Ok xs) h = define cut rest d h
after_definition len cut rest a o d (Err (fault.Syntax at)) h = later cut rest d h
after_definition len cut rest a o d (Err f) h = absurd h

reads_cut : (len : ℕ) (cut rest : List Placed) → IsFirstCut cut rest → (o : Option Body) → body_of (tokens_of cut) ≡ o → Reads len rest (statements len (cuts rest))
    → Reads len (cut ++ rest) (and_more (answer len cut (is_none (cuts rest)) o) (statements len (cuts rest)))
unfolding statements cuts
reads_cut len cut rest first None e h = here cut rest first (λ b d m. unlike b (sym e ∙ cut-complete d))
  where
    unlike : (b : Body) → None ≡ Some b → ⊥
    unlike b e = cc
reads_cut len cut rest first (Some (body.Define a o)) e h = after_definition len cut rest a o (cut-sound (tokens_of cut) (body.Define a o) e) (statements len (cuts rest)) h
reads_cut len cut [] first (Some (body.Store a c)) e h =
    subst (λ ps. IsScript ps (spanned cut (body.Store a c) ∷ [])) (sym (append-nil cut)) (store cut (cut-sound (tokens_of cut) (body.Store a c) e))
reads_cut len cut (q ∷ qs) first (Some (body.Store a c)) e h =
    subst (λ v. Reads len (cut ++ q ∷ qs) (and_more (answer len cut v (Some (body.Store a c))) (statements len (cuts (q ∷ qs))))) (sym (not_none q qs))
    (here cut (q ∷ qs) first (λ b d m. stands b m (sym e ∙ cut-complete d)))
  where
    stands : (b : Body) → MayStand b (q ∷ qs) → Some (body.Store a c) ≡ Some b → ⊥
    stands (body.Define a' o) m f = cc
    stands (body.Store a' c') m f = cc

reads_by : (fuel len : ℕ) (ps : List Placed) → length ps < fuel → Reads len ps (statements len (cuts ps))
unfolding statements cuts
reads_by zero len ps h = absurd (omega arith)
reads_by (suc fuel) len [] h = empty
reads_by (suc fuel) len (p ∷ ps) h =
    let f = first_cut p ps in
    let less = f.shorter in
    subst (λ qs. Reads len qs (statements len (cuts qs))) (sym f.is)
    (subst (Reads len (f.cut ++ f.rest)) (sym (next_cut len f.first))
    (reads_cut len f.cut f.rest f.first (body_of (tokens_of f.cut)) refl (reads_by fuel len f.rest (omega arith))))

pub reads : (len : ℕ) (ps : List Placed) → Reads len ps (statements len (cuts ps))
reads len ps = reads_by (suc (length ps)) len ps (omega arith)
