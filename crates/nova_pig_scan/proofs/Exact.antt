-- The tokens and the first fault of a text are those that the relations say.
use Rattle.std.proofs.Common.{◌≡◌, ℕ, zero, suc, ◌+◌, ◌<◌, ◌≤◌, List, [], ◌∷◌, ◌++◌, length, take, drop, Ok, Err, refl, ap, sym, subst, ◌∙◌, arith, length-drop, length-take-le, take-append-drop, IfOk, MatchResult, inl, inr, ◌⊎◌}
use Rattle.std.proofs.lemmas.List.{append-nil}
use Rattle.std.proofs.Math.Seq.{drop-append_seam}
use Rattle.nova_pig_tree.specs.declared.token.Token.{Token}
use Rattle.nova_pig_scan.specs.declared.scan.Cause.{Cause}
use Rattle.nova_pig_scan.specs.declared.scan.Cause.TheVariants as cause
use Rattle.nova_pig_scan.specs.declared.piece.Piece.{Piece}
use Rattle.nova_pig_scan.specs.declared.piece.Piece.TheVariants.{End, Skip, Take, TooLarge, Bad}
use Rattle.nova_pig_tree.specs.declared.token.Placed.{Placed}
use Rattle.nova_pig_scan.specs.declared.scan.TextFault.TheVariants.{At, NoMemory}
use Rattle.nova_pig_scan.specs.Lexemes.{Text, Lexeme, IsLexeme}
use Rattle.nova_pig_scan.specs.Lexemes as lexeme
use Rattle.nova_pig_scan.specs.Tokens.{Outcome, piece, onto, scan, tokens, AreTokensOf, next, Within}
use Rattle.nova_pig_scan.specs.Text.{IsLongest, HasNone, placed, IsTokens, end, gap, token, FailsAt, none, large, after_gap, after_token, Reads, OneLexeme, TextsAreSettled}
use Rattle.nova_pig_scan.proofs.Turns.{scan_step, piece-within, not_end}
use Rattle.nova_pig_scan.proofs.Fits.{reach, piece_of, Fits, fits}
use Rattle.nova_pig_scan.proofs.Formed.{Formed, formed}

-- the longest lexeme in front is the piece
reach-longest : (us rest : Text) → IsLongest us rest → reach (piece (us ++ rest)) ≤ length us
reach-longest us rest longest = by (piece (us ++ rest)) (formed (us ++ rest)) (piece-within (us ++ rest))
  where
    prefix : (n : ℕ) (x : Lexeme) → n ≤ length (us ++ rest) → IsLexeme (take n (us ++ rest)) x → n ≤ length us
    prefix n x room h =
        let shorter = longest (take n (us ++ rest)) (drop n (us ++ rest)) x (take-append-drop n (us ++ rest)) h in
        let len = length-take-le n (us ++ rest) room in
        omega arith

    by : (q : Piece) → Formed (us ++ rest) q → Within q (length (us ++ rest)) → reach q ≤ length us
    by End h w = omega arith
    by (Skip n) h w = prefix n lexeme.Gap w.1 h
    by (Take t n) h w = prefix n (lexeme.Is t) w.1 h
    by (TooLarge n) h w = prefix n lexeme.TooLarge w.1 h
    by Bad h w = omega arith

first_is : {us : Text} {x : Lexeme} → IsLexeme us x → (rest : Text) → IsLongest us rest → piece (us ++ rest) ≡ piece_of x (length us)
first_is {us} {x} h rest longest =
    let f : Fits us x (piece (us ++ rest)) = fits h rest in
    let shorter = reach-longest us rest longest in
    let within = f.within in
    f.exact (omega arith)

-- the piece in front is the longest lexeme
piece-longest : (text : Text) (n : ℕ) → reach (piece text) ≡ n → n ≤ length text → IsLongest (take n text) (drop n text)
piece-longest text n e room vs more x same h =
    let f : Fits vs x (piece (vs ++ more)) = fits h more in
    let within : length vs ≤ reach (piece text) = subst (λ ts. length vs ≤ reach (piece ts)) (same ∙ take-append-drop n text) f.within in
    let len = length-take-le n text room in
    omega arith

none_bad : (text : Text) → (text ≡ [] → ⊥) → HasNone text → piece text ≡ Bad
none_bad text some unlike = by (piece text) refl (formed text)
  where
    prefix : (n : ℕ) (x : Lexeme) → IsLexeme (take n text) x → ⊥
    prefix n x h = unlike (take n text) (drop n text) x (take-append-drop n text) h

    by : (q : Piece) → piece text ≡ q → Formed text q → q ≡ Bad
    by End e h = absurd (some (not_end text e))
    by (Skip n) e h = absurd (prefix n lexeme.Gap h)
    by (Take t n) e h = absurd (prefix n (lexeme.Is t) h)
    by (TooLarge n) e h = absurd (prefix n lexeme.TooLarge h)
    by Bad e h = refl

bad_none : (text : Text) → piece text ≡ Bad → HasNone text
bad_none text e vs more x same h = clash x (sym bad ∙ f.exact zero_long)
  where
    f : Fits vs x (piece (vs ++ more))
    f = fits h more

    bad : piece (vs ++ more) ≡ Bad
    bad = ap piece same ∙ e

    zero_long : length vs ≡ reach (piece (vs ++ more))
    zero_long = let r : reach (piece (vs ++ more)) ≡ 0 = ap reach bad in let w = f.within in omega arith

    clash : (x : Lexeme) → Bad ≡ piece_of x (length vs) → ⊥
    clash lexeme.Gap e = cc
    clash (lexeme.Is t) e = cc
    clash lexeme.TooLarge e = cc

-- what a relation says is what is read
pub all_read : {at : ℕ} {text : Text} {ps : List Placed} → IsTokens at text ps → scan 0 at text ≡ Ok ps
unfolding scan
all_read end = refl
all_read {at} (gap {us} {rest} l longest h) =
    scan_step at (us ++ rest) ∙ ap (λ p. next p at (us ++ rest)) (first_is l rest longest) ∙ ap (scan 0 (at + length us)) (drop-append_seam us rest) ∙ all_read h
all_read {at} (token {us} {rest} t l longest h) =
    scan_step at (us ++ rest) ∙ ap (λ p. next p at (us ++ rest)) (first_is l rest longest)
    ∙ ap (λ ts. onto (placed t at (length us)) (scan 0 (at + length us) ts)) (drop-append_seam us rest) ∙ ap (onto (placed t at (length us))) (all_read h)

pub fault_read : {at : ℕ} {text : Text} {c : Cause} {place : ℕ} → FailsAt at text c place → scan 0 at text ≡ Err (At c place)
fault_read {at} {text} (none some no_lexeme) = scan_step at text ∙ ap (λ p. next p at text) (none_bad text some no_lexeme)
fault_read {at} (large {us} rest l longest) = scan_step at (us ++ rest) ∙ ap (λ p. next p at (us ++ rest)) (first_is l rest longest)
fault_read {at} (after_gap {us} {rest} l longest h) =
    scan_step at (us ++ rest) ∙ ap (λ p. next p at (us ++ rest)) (first_is l rest longest) ∙ ap (scan 0 (at + length us)) (drop-append_seam us rest) ∙ fault_read h
fault_read {at} (after_token {us} {rest} t l longest h) =
    scan_step at (us ++ rest) ∙ ap (λ p. next p at (us ++ rest)) (first_is l rest longest)
    ∙ ap (λ ts. onto (placed t at (length us)) (scan 0 (at + length us) ts)) (drop-append_seam us rest) ∙ ap (onto (placed t at (length us))) (fault_read h)

-- what is read is what a relation says: a token or a gap in front
reads_onto : (at : ℕ) (text : Text) (t : Token) (n : ℕ) → piece text ≡ Take t n → n ≤ length text → IsLexeme (take n text) (lexeme.Is t)
    → (o : Outcome) → Reads (at + n) (drop n text) o → Reads at text (onto (placed t at n) o)
reads_onto at text t n e room l o h = by o (subst (λ m. Reads (at + m) (drop n text) o) (sym len) h)
  where
    len : length (take n text) ≡ n
    len = length-take-le n text room

    longest : IsLongest (take n text) (drop n text)
    longest = piece-longest text n (ap reach e) room

    by : (o : Outcome) → Reads (at + length (take n text)) (drop n text) o → Reads at text (onto (placed t at n) o)
    by (Ok ps) h = subst (λ ts. IsTokens at ts (placed t at n ∷ ps)) (take-append-drop n text)
        (subst (λ m. IsTokens at (take n text ++ drop n text) (placed t at m ∷ ps)) len (token t l longest h))
    by (Err (At c place)) h = subst (λ ts. FailsAt at ts c place) (take-append-drop n text) (after_token t l longest h)
    by (Err NoMemory) h = h

reads_later : (at : ℕ) (text : Text) (n : ℕ) → piece text ≡ Skip n → n ≤ length text → IsLexeme (take n text) lexeme.Gap
    → (o : Outcome) → Reads (at + n) (drop n text) o → Reads at text o
reads_later at text n e room l o h = by o (subst (λ m. Reads (at + m) (drop n text) o) (sym (length-take-le n text room)) h)
  where
    longest : IsLongest (take n text) (drop n text)
    longest = piece-longest text n (ap reach e) room

    by : (o : Outcome) → Reads (at + length (take n text)) (drop n text) o → Reads at text o
    by (Ok ps) h = subst (λ ts. IsTokens at ts ps) (take-append-drop n text) (gap l longest h)
    by (Err (At c place)) h = subst (λ ts. FailsAt at ts c place) (take-append-drop n text) (after_gap l longest h)
    by (Err NoMemory) h = h

reads_piece : (fuel at : ℕ) (text : Text) → length text ≤ fuel → (p : Piece) → piece text ≡ p → Within p (length text) → Formed text p
    → ((at : ℕ) (us : Text) → length us < fuel → Reads at us (scan 0 at us)) → Reads at text (next p at text)
reads_piece fuel at text room End e within f again = subst (λ us. IsTokens at us []) (sym (not_end text e)) end
reads_piece fuel at text room (Skip n) e within f again =
    reads_later at text n e within.1 f (scan 0 (at + n) (drop n text)) (again (at + n) (drop n text) (rw length-drop (omega (arith, within))))
reads_piece fuel at text room (Take t n) e within f again =
    reads_onto at text t n e within.1 f (scan 0 (at + n) (drop n text)) (again (at + n) (drop n text) (rw length-drop (omega (arith, within))))
reads_piece fuel at text room (TooLarge n) e within f again =
    subst (λ ts. FailsAt at ts cause.NumberTooLarge at) (take-append-drop n text) (large (drop n text) f (piece-longest text n (ap reach e) within.1))
reads_piece fuel at text room Bad e within f again = none (λ empty. clash (sym (ap piece empty) ∙ e)) (bad_none text e)
  where
    clash : End ≡ Bad → ⊥
    clash e = cc

reads_by : (fuel at : ℕ) (text : Text) → length text < fuel → Reads at text (scan 0 at text)
reads_by zero at text h = absurd (omega arith)
reads_by (suc fuel) at text h =
    rw (scan_step at text) (reads_piece fuel at text (omega arith) (piece text) refl (piece-within text) (formed text) (λ at us less. reads_by fuel at us less))

pub reads : (at : ℕ) (text : Text) → Reads at text (scan 0 at text)
reads at text = reads_by (suc (length text)) at text (omega arith)

-- laws: a run of bytes is one lexeme, and a text has one list of tokens or one fault
pub one_lexeme : OneLexeme
one_lexeme us x y h k = by (piece (us ++ [])) (fits h []) (fits k []) (piece-within (us ++ []))
  where
    len : length (us ++ []) ≡ length us
    len = ap length (append-nil us)

    alike : (x y : Lexeme) (n : ℕ) → piece_of x n ≡ piece_of y n → x ≡ y
    alike lexeme.Gap lexeme.Gap n e = refl
    alike lexeme.Gap (lexeme.Is t) n e = absurd cc
    alike lexeme.Gap lexeme.TooLarge n e = absurd cc
    alike (lexeme.Is t) lexeme.Gap n e = absurd cc
    alike (lexeme.Is t) (lexeme.Is u) n e = let f : t ≡ u = cc in ap lexeme.Is f
    alike (lexeme.Is t) lexeme.TooLarge n e = absurd cc
    alike lexeme.TooLarge lexeme.Gap n e = absurd cc
    alike lexeme.TooLarge (lexeme.Is t) n e = absurd cc
    alike lexeme.TooLarge lexeme.TooLarge n e = refl

    whole : (q : Piece) → length us ≤ reach q → Within q (length (us ++ [])) → length us ≡ reach q
    whole End h w = omega arith
    whole (Skip n) h w = let top = w.1 in let l = len in omega arith
    whole (Take t n) h w = let top = w.1 in let l = len in omega arith
    whole (TooLarge n) h w = let top = w.1 in let l = len in omega arith
    whole Bad h w = omega arith

    by : (q : Piece) → Fits us x q → Fits us y q → Within q (length (us ++ [])) → x ≡ y
    by q f g w = alike x y (length us) (sym (f.exact (whole q f.within w)) ∙ g.exact (whole q f.within w))

pub settled : TextsAreSettled
settled text = record {
  some = either (scan 0 0 text) (reads 0 text);
  one_list = λ ps qs h k. lists ps qs (scan 0 0 text) (all_read h) (all_read k);
  one_fault = λ c d place other h k. faults c d place other (scan 0 0 text) (fault_read h) (fault_read k);
  never_both = λ ps c place h k. clash ps c place (scan 0 0 text) (all_read h) (fault_read k);
}
  where
    either : (o : Outcome) → Reads 0 text o → ((ps : List Placed) × IsTokens 0 text ps) ⊎ ((c : Cause) × (place : ℕ) × FailsAt 0 text c place)
    either (Ok ps) h = inl (ps, h)
    either (Err (At c place)) h = inr (c, place, h)
    either (Err NoMemory) h = absurd h

    lists : (ps qs : List Placed) (o : Outcome) → o ≡ Ok ps → o ≡ Ok qs → ps ≡ qs
    lists ps qs o e f = cc

    faults : (c d : Cause) (place other : ℕ) (o : Outcome) → o ≡ Err (At c place) → o ≡ Err (At d other) → (c ≡ d) × (place ≡ other)
    faults c d place other o e f = (cc, cc)

    clash : (ps : List Placed) (c : Cause) (place : ℕ) (o : Outcome) → o ≡ Ok ps → o ≡ Err (At c place) → ⊥
    clash ps c place o e f = cc

pub ok_found : (text : Text) (r : Outcome) → AreTokensOf (tokens text) r → IfOk r (λ ps. IsTokens 0 text ps)
ok_found text (Ok ps) e = subst (Reads 0 text) (sym e) (reads 0 text)
ok_found text (Err f) e = tt

pub ok_complete : (text : Text) (r : Outcome) → AreTokensOf (tokens text) r → (ps : List Placed) → IsTokens 0 text ps → MatchResult r (λ found. found ≡ ps) (λ e. e ≡ NoMemory)
ok_complete text (Ok qs) e ps h = let d = e ∙ all_read h in cc
ok_complete text (Err (At c n)) e ps h = let d = e ∙ all_read h in absurd cc
ok_complete text (Err NoMemory) e ps h = refl

pub err_found : (text : Text) (r : Outcome) → AreTokensOf (tokens text) r
    → MatchResult r (λ _. Unit {0}) (λ e. (e ≡ NoMemory → ⊥) → (c : Cause) × (place : ℕ) × (e ≡ At c place) × FailsAt 0 text c place)
err_found text (Ok ps) e = tt
err_found text (Err (At c n)) e = λ h. (c, n, refl, subst (Reads 0 text) (sym e) (reads 0 text))
err_found text (Err NoMemory) e = λ h. absurd (h refl)

pub err_complete : (text : Text) (r : Outcome) → AreTokensOf (tokens text) r → (c : Cause) (place : ℕ) → FailsAt 0 text c place → MatchResult r (λ _. ⊥) (λ e. (e ≡ NoMemory → ⊥) → e ≡ At c place)
err_complete text (Ok ps) e c place h = let d = e ∙ fault_read h in absurd cc
err_complete text (Err (At b n)) e c place h = λ _. let d = e ∙ fault_read h in cc
err_complete text (Err NoMemory) e c place h = λ k. absurd (k refl)
