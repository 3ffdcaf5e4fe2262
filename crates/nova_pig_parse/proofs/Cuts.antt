-- The first cut, and what follows it.
use Rattle.std.proofs.Common.{◌≡◌, ℕ, zero, suc, ◌+◌, ◌<◌, ◌≤◌, Bool, true, false, List, [], ◌∷◌, ◌++◌, length, take, drop, Ok, Err, refl, ap, sym, ◌∙◌, arith, append_assoc}
use Rattle.std.specs.Prelude.{if◌then◌else◌}
use Rattle.std.proofs.lemmas.List.{append-nil}
use Rattle.std.proofs.Math.ListN.{drop_of_length-le}
use Rattle.nova_value.specs.Lists.{onto_first}
use Rattle.nova_pig_tree.specs.declared.statement.Statement.{Statement}
use Rattle.nova_pig_tree.specs.declared.token.Placed.{Placed}
use Rattle.nova_pig_parse.specs.declared.text.ParseFault.{ParseFault}
use Rattle.nova_pig_parse.specs.declared.text.ParseFault.TheVariants as fault
use Rattle.nova_pig_parse.specs.Limits.{is_semicolon}
use Rattle.nova_pig_parse.specs.Parse.{cuts, before_semicolon, is_none, statements, Statements, ahead, and_more, read_cut, IsParseOf}

some_by : (t : Bool) (p : Placed) (ps : List Placed) → (before_semicolon ps < length ps → cuts ps ≡ take (before_semicolon ps + 1) ps ∷ cuts (drop (before_semicolon ps + 1) ps))
    → (if t then 0 else 1 + before_semicolon ps) < suc (length ps)
    → (if t then (p ∷ []) ∷ cuts ps else onto_first p (cuts ps)) ≡ take ((if t then 0 else 1 + before_semicolon ps) + 1) (p ∷ ps) ∷ cuts (drop ((if t then 0 else 1 + before_semicolon ps) + 1) (p ∷ ps))
some_by true p ps again h = refl
some_by false p ps again h =
    let e : 1 + before_semicolon ps + 1 ≡ suc (before_semicolon ps + 1) = omega arith in
    ap (onto_first p) (again (omega (arith, h))) ∙ rw e refl

pub cuts_some : (ps : List Placed) → before_semicolon ps < length ps → cuts ps ≡ take (before_semicolon ps + 1) ps ∷ cuts (drop (before_semicolon ps + 1) ps)
unfolding cuts before_semicolon
cuts_some [] h = absurd (omega (arith, h))
cuts_some (p ∷ ps) h = some_by (is_semicolon p.token) p ps (cuts_some ps) h

none_by : (t : Bool) (p : Placed) (ps : List Placed) → (length ps ≤ before_semicolon ps → 0 < length ps → cuts ps ≡ ps ∷ [])
    → suc (length ps) ≤ (if t then 0 else 1 + before_semicolon ps)
    → (if t then (p ∷ []) ∷ cuts ps else onto_first p (cuts ps)) ≡ (p ∷ ps) ∷ []
unfolding cuts
none_by true p ps again h = absurd (omega (arith, h))
none_by false p [] again h = refl
none_by false p (q ∷ qs) again h = ap (onto_first p) (again (omega (arith, h)) (omega arith))

pub cuts_none : (ps : List Placed) → length ps ≤ before_semicolon ps → 0 < length ps → cuts ps ≡ ps ∷ []
unfolding cuts before_semicolon
cuts_none [] h k = absurd (omega (arith, k))
cuts_none (p ∷ ps) h k = none_by (is_semicolon p.token) p ps (cuts_none ps) h

pub cuts_last : (ps : List Placed) → length ps ≤ before_semicolon ps → 0 < length ps → cuts ps ≡ ps ∷ cuts []
unfolding cuts
cuts_last ps h k = cuts_none ps h k

some_cut : (t : Bool) (p : Placed) (more : List (List Placed)) → is_none (if t then (p ∷ []) ∷ more else onto_first p more) ≡ false
some_cut true p more = refl
some_cut false p [] = refl
some_cut false p (cut ∷ more) = refl

pub not_none : (p : Placed) (ps : List Placed) → is_none (cuts (p ∷ ps)) ≡ false
unfolding cuts
not_none p ps = some_cut (is_semicolon p.token) p (cuts ps)

ahead_ok : (prefix : List Statement) (x : Statement) (more : Statements) → ahead prefix (and_more (Ok x) more) ≡ ahead (prefix ++ x ∷ []) more
ahead_ok prefix x (Ok xs) = ap Ok (sym (append_assoc prefix (x ∷ []) xs))
ahead_ok prefix x (Err f) = refl

pub turn : (len : ℕ) (prefix : List Statement) (rest cut more : List Placed) (x : Statement) → cuts rest ≡ cut ∷ cuts more → Ok x ≡ read_cut len (is_none (cuts more)) cut
    → ahead prefix (statements len (cuts rest)) ≡ ahead (prefix ++ x ∷ []) (statements len (cuts more))
unfolding statements
turn len prefix rest cut more x is e =
    ap (λ cs. ahead prefix (statements len cs)) is ∙ ap (λ r. ahead prefix (and_more r (statements len (cuts more)))) (sym e) ∙ ahead_ok prefix x (statements len (cuts more))

pub fails : (len : ℕ) (prefix : List Statement) (rest cut more : List Placed) (all : Statements) (f : ParseFault) → all ≡ ahead prefix (statements len (cuts rest)) → cuts rest ≡ cut ∷ cuts more
    → (b : Bool) → b ≡ is_none (cuts more) → IsParseOf {A = Statement} (read_cut len b cut) (Err f) → IsParseOf {A = List Statement} all (Err f)
unfolding statements
fails len prefix rest cut more all fault.NoMemory is-all is b b-is e = tt
fails len prefix rest cut more all f is-all is b b-is e =
    sym (is-all ∙ ap (λ cs. ahead prefix (statements len cs)) is ∙ ap (λ r. ahead prefix (and_more r (statements len (cuts more)))) (ap (λ b. read_cut len b cut) (sym b-is) ∙ sym e))

pub done : (len : ℕ) (prefix : List Statement) (rest : List Placed) → rest ≡ [] → ahead prefix (statements len (cuts rest)) ≡ Ok prefix
unfolding statements cuts
done len prefix rest e = ap (λ ps. ahead prefix (statements len (cuts ps))) e ∙ ap Ok (append-nil prefix)

pub begun : (len : ℕ) (ps : List Placed) → statements len (cuts ps) ≡ ahead [] (statements len (cuts ps))
begun len ps = same (statements len (cuts ps))
  where
    same : (r : Statements) → r ≡ ahead [] r
    same (Ok xs) = refl
    same (Err f) = refl

take_whole : {A : Type 0} (ps : List A) (n : ℕ) → length ps ≤ n → take n ps ≡ ps
take_whole [] zero h = refl
take_whole [] (suc n) h = refl
take_whole (p ∷ ps) zero h = absurd (omega (arith, h))
take_whole (p ∷ ps) (suc n) h = ap (λ qs. p ∷ qs) (take_whole ps n (omega (arith, h)))

pub cuts_whole : (ps a b : List Placed) (n : ℕ) → length ps ≤ before_semicolon ps → 0 < length ps → length ps ≤ n → a ≡ take n ps → b ≡ drop n ps → cuts ps ≡ a ∷ cuts b
cuts_whole ps a b n h k all a-is b-is =
    cuts_last ps h k ∙ ap (λ c. c ∷ cuts []) (sym (a-is ∙ take_whole ps n all)) ∙ ap (λ d. a ∷ cuts d) (sym (b-is ∙ drop_of_length-le ps all))

pub nil_of : (ps : List Placed) → length ps ≡ 0 → ps ≡ []
nil_of [] h = refl
nil_of (p ∷ ps) h = absurd (omega (arith, h))
