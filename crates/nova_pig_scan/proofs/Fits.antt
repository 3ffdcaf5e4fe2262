-- What a lexeme in front of a text is, is the piece there, or a part of a longer one.
use Rattle.std.proofs.Common.{◌≡◌, ℕ, ◌+◌, ◌<◌, ◌≤◌, Bool, true, false, [], ◌∷◌, ◌++◌, length, take, drop, Option, Some, refl, ap, sym, subst, ◌∙◌, arith, min, pos, length-append, append_assoc}
use Rattle.std.proofs.lemmas.Bool.{and_parts, and_right, not-true}
use Rattle.std.proofs.lemmas.Bool.Decides.{nat_tests}
use Rattle.std.proofs.Math.Seq.{take-append_seam, drop-append_seam}
use Rattle.std.specs.Prelude.{if◌then◌else◌, ◌&&◌, ◌||◌, ◌==◌, not, nat_lt}
use Rattle.std.specs.List.{list_all}
use Rattle.std.specs.Char.{is_ascii_alphabetic, is_ascii_digit}
use Rattle.nova_pig_scan.specs.declared.lex.TheConstants.{TOO_LARGE}
use Rattle.nova_pig_tree.specs.declared.expression.CompareOp.TheVariants as c
use Rattle.nova_pig_tree.specs.declared.token.Symbol.{Symbol}
use Rattle.nova_pig_tree.specs.declared.token.Symbol.TheVariants as s
use Rattle.nova_pig_tree.specs.declared.token.Token.{Token}
use Rattle.nova_pig_tree.specs.declared.token.Token.TheVariants as t
use Rattle.nova_pig_scan.specs.declared.lex.Class.TheVariants as class
use Rattle.nova_pig_scan.specs.declared.lex.Step.TheVariants as st
use Rattle.nova_pig_scan.specs.declared.piece.Piece.{Piece}
use Rattle.nova_pig_scan.specs.declared.piece.Piece.TheVariants as p
use Rattle.nova_pig_scan.specs.Lexemes.{Text, is_blank, is_newline, is_word, begins, is_unclosed, IsName, IsDigits, value, sign, is_plain, Spells, nothing, plain, escape, Lexeme, Gap, Is, TooLarge, number_of, position_of, IsLexeme, blank, line_comment, block_comment, identifier, keyword, group, number as is_number, long_number, position as is_position, literal as is_literal, symbol as is_symbol}
use Rattle.nova_pig_scan.specs.Lex.{class_of, line_len, block, two_more, word_len, digit_len, capped, literal, literal_by, with_byte, further, step_of}
use Rattle.nova_pig_scan.specs.Tokens.{piece, piece_by, dash, numeral, quoted, word_token, comment, symbol_piece}
use Rattle.nova_pig_scan.proofs.RunLengths.{twice, run_within, run_stops}
use Rattle.nova_pig_scan.proofs.Words.{group_token, keyword_token, name_token}

-- how many bytes a piece takes
abbrev pub reach : Piece → ℕ
reach p.End = 0
reach (p.Skip n) = n
reach (p.Take t n) = n
reach (p.TooLarge n) = n
reach p.Bad = 0

abbrev pub piece_of : Lexeme → ℕ → Piece
piece_of Gap n = p.Skip n
piece_of (Is t) n = p.Take t n
piece_of TooLarge n = p.TooLarge n

pub reach-piece_of : (x : Lexeme) (n : ℕ) → reach (piece_of x n) ≡ n
reach-piece_of Gap n = refl
reach-piece_of (Is t) n = refl
reach-piece_of TooLarge n = refl

-- the lexeme's bytes are within the piece, and are the piece where they are all of it
pub record Fits (us : Text) (x : Lexeme) (q : Piece) : Type 0 where
  pub within : length us ≤ reach q
  pub exact : length us ≡ reach q → q ≡ piece_of x (length us)

same : (us : Text) (x : Lexeme) (n : ℕ) → length us ≤ n → Fits us x (piece_of x n)
same us x n h = record {
  within = rw (reach-piece_of x n) h;
  exact = λ e. ap (piece_of x) (sym (e ∙ reach-piece_of x n));
}

more : (us : Text) (x : Lexeme) (q : Piece) → length us < reach q → Fits us x q
more us x q h = record { within = omega arith; exact = λ e. absurd (omega arith) }

exactly : (us : Text) (x : Lexeme) (q : Piece) → q ≡ piece_of x (length us) → Fits us x q
exactly us x q e = subst (Fits us x) (sym e) (same us x (length us) (omega arith))

-- the classes of bytes
class_blank : (b : ℕ) → is_blank b ≡ true → class_of b ≡ class.Blank
class_blank b e = ap (λ t. if t then class.Blank else (if b == 45 then class.Dash else (if b == 47 then class.Slash else (if is_ascii_alphabetic b then class.Letter else (if is_ascii_digit b then class.Digit else (if b == 36 then class.Dollar else (if b == 39 then class.Quote else class.Other))))))) e

class_letter : (b : ℕ) → is_ascii_alphabetic b ≡ true → class_of b ≡ class.Letter
class_letter b e = grind (arith, nat_tests)

class_digit : (b : ℕ) → is_ascii_digit b ≡ true → class_of b ≡ class.Digit
class_digit b e = grind (arith, nat_tests)

-- comments
block_found : (us rest : Text) → is_unclosed us ≡ true → block (us ++ 42 ∷ 47 ∷ rest) ≡ Some (length us + 2)
unfolding block
block_found [] rest h = refl
block_found (b ∷ us) rest h =
    ap (λ t. if t then Some 2 else two_more (block (us ++ 42 ∷ 47 ∷ rest))) (unclosed us ((and_parts _ _ h).0)) ∙ ap two_more (block_found us rest ((and_parts _ _ h).1)) ∙ ap Some (omega arith)
  where
    unclosed : (us : Text) → not (b == 42 && begins 47 us) ≡ true → (b == 42 && begins 47 (us ++ 42 ∷ 47 ∷ rest)) ≡ false
    unclosed [] e = and_right (b == 42) false refl
    unclosed (d ∷ us) e = not-true _ e

-- literals
step_plain : (b : ℕ) (p : Option (Text × ℕ)) (q : Option (Text × ℕ)) → is_plain b ≡ true → literal_by (step_of false b) b p q ≡ with_byte b p
step_plain b p q e = by (b == 39) (b == 92) (b == 9) (b == 10) e
  where
    by : (t u v x : Bool) → not (t || u || v || x) ≡ true → literal_by (if t then st.Close else (if u then st.Escape else (if v || x then st.Bad else st.Keep))) b p q ≡ with_byte b p
    by true u v x e = absurd cc
    by false true v x e = absurd cc
    by false false true x e = absurd cc
    by false false false true e = absurd cc
    by false false false false e = refl

literal_found : {us text : Text} → Spells us text → (rest : Text) → literal false (us ++ 39 ∷ rest) ≡ Some (text, length us + 1)
unfolding literal
literal_found nothing rest = refl
literal_found (plain {us} {text} b e h) rest =
    step_plain b (literal false (us ++ 39 ∷ rest)) (literal true (us ++ 39 ∷ rest)) e ∙ ap (with_byte b) (literal_found h rest) ∙ ap (λ n. Some (b ∷ text, n)) (omega arith)
literal_found (escape {us} {text} b e h) rest =
    ap (λ t. further (literal_by (if t then st.Keep else st.Bad) b (literal false (us ++ 39 ∷ rest)) (literal true (us ++ 39 ∷ rest)))) e
    ∙ ap (λ o. further (with_byte b o)) (literal_found h rest) ∙ ap (λ n. Some (b ∷ text, n)) (omega arith)

-- numbers
below : (v m : ℕ) → v < m → (nat_lt v m ≡ true) × ((min v m == m) ≡ false) × (min v m ≡ v)
below v m h = (grind (arith, nat_tests), grind (arith, nat_tests), omega arith)

above : (v m : ℕ) → m ≤ v → (nat_lt v m ≡ false) × ((min v m == m) ≡ true)
above v m h = (grind (arith, nat_tests), grind (arith, nat_tests))

-- a capped number is at the cap exactly where the number is too large
pub capped_by : (v m : ℕ) (make : ℕ → Lexeme) (n : ℕ)
    → piece_of (if min v m == m then TooLarge else make (min v m)) n ≡ piece_of (if nat_lt v m then make v else TooLarge) n
capped_by v m make n = by (nat_lt v m) refl
  where
    by : (t : Bool) → nat_lt v m ≡ t → piece_of (if min v m == m then TooLarge else make (min v m)) n ≡ piece_of (if t then make v else TooLarge) n
    by true e = let h : v < m = grind (arith, nat_tests) in let f = below v m h in
        ap (λ t. piece_of (if t then TooLarge else make (min v m)) n) f.1 ∙ ap (λ k. piece_of (make k) n) f.2
    by false e = let h : m ≤ v = grind (arith, nat_tests) in let f = above v m h in ap (λ t. piece_of (if t then TooLarge else make (min v m)) n) f.1

pushed : (t : Bool) (n : ℕ) (tok : Token) → (if t then p.TooLarge n else p.Take tok n) ≡ piece_of (if t then TooLarge else Is tok) n
pushed true n tok = refl
pushed false n tok = refl

pub numeral_of : (us : Text) (n : ℕ) → numeral (capped us) n ≡ piece_of (number_of (value us)) n
numeral_of us n = pushed (capped us == TOO_LARGE) n (t.Number (pos (capped us))) ∙ capped_by (value us) TOO_LARGE (λ k. Is (t.Number (pos k))) n

pub place_of : (us : Text) (n : ℕ) → (if capped us == TOO_LARGE then p.TooLarge n else p.Take (t.Position (capped us)) n) ≡ piece_of (position_of (value us)) n
place_of us n = pushed (capped us == TOO_LARGE) n (t.Position (capped us)) ∙ capped_by (value us) TOO_LARGE (λ k. Is (t.Position k)) n

-- names
pub word_fits : (us : Text) (tok : Token) → IsName us → word_token us ≡ tok → (rest : Text) → Fits us (Is tok) (piece (us ++ rest))
word_fits [] tok name e rest = absurd name
word_fits (b ∷ bs) tok name e rest =
    subst (λ c. Fits (b ∷ bs) (Is tok) (piece_by c (b ∷ bs ++ rest) (bs ++ rest))) (sym (class_letter b name.0))
    (let long : length bs ≤ word_len (bs ++ rest) = run_within (λ b. not (not (is_word b))) bs rest (twice is_word bs ∙ name.1) in
    record {
      within = omega arith;
      exact = λ len.
          ap (λ m. p.Take (word_token (take m (b ∷ bs ++ rest))) m) (sym len)
          ∙ ap (λ us. p.Take (word_token us) (length (b ∷ bs))) (take-append_seam (b ∷ bs) rest)
          ∙ ap (λ tok. p.Take tok (length (b ∷ bs))) e;
    })

-- numbers and positions
number_if : (t : Bool) (us : Text) (n : ℕ) (x : Lexeme) (q : ℕ → Piece) → ((m : ℕ) → reach (q m) ≡ m) → length us ≤ n → (length us ≡ n → (m : ℕ) → q m ≡ piece_of x m)
    → Fits us x (q (if t then n + 1 else n))
number_if true us n x q at h e = more us x (q (n + 1)) (rw (at (n + 1)) (omega arith))
number_if false us n x q at h e = record { within = rw (at n) h; exact = λ len. let l = len ∙ at n in ap q (sym l) ∙ e l (length us) }

reach-numeral : (v n : ℕ) → reach (numeral v n) ≡ n
reach-numeral v n = by (v == TOO_LARGE)
  where
    by : (c : Bool) → reach (if c then p.TooLarge n else p.Take (t.Number (pos v)) n) ≡ n
    by true = refl
    by false = refl

pub number_fits : (us : Text) → IsDigits us → (rest : Text) → Fits us (number_of (value us)) (piece (us ++ rest))
number_fits [] digits rest = absurd digits
number_fits (b ∷ bs) digits rest =
    subst (λ c. Fits (b ∷ bs) (number_of (value (b ∷ bs))) (piece_by c (b ∷ bs ++ rest) (bs ++ rest))) (sym (class_digit b ((and_parts (is_ascii_digit b) (list_all is_ascii_digit bs) digits).0)))
    (let n : ℕ = digit_len (bs ++ rest) + 1 in
    let long : length bs ≤ digit_len (bs ++ rest) = run_within (λ b. not (not (is_ascii_digit b))) bs rest (twice is_ascii_digit bs ∙ (and_parts (is_ascii_digit b) (list_all is_ascii_digit bs) digits).1) in
    let after : Text = drop n (b ∷ bs ++ rest) in
    number_if (begins 76 after || begins 108 after) (b ∷ bs) n (number_of (value (b ∷ bs))) (numeral (capped (take n (b ∷ bs ++ rest)))) (reach-numeral _) (omega arith)
    (λ len m. ap (λ k. numeral (capped (take k (b ∷ bs ++ rest))) m) (sym len) ∙ ap (λ us. numeral (capped us) m) (take-append_seam (b ∷ bs) rest) ∙ numeral_of (b ∷ bs) m))

suffix : (b : ℕ) → (b == 76 || b == 108) ≡ true → is_ascii_digit b ≡ false
suffix b e = grind (arith, nat_tests)

pub long_fits : (us : Text) (c : ℕ) → IsDigits us → (c == 76 || c == 108) ≡ true → (rest : Text)
    → Fits (us ++ c ∷ []) (number_of (value us)) (piece (us ++ c ∷ rest))
long_fits [] c digits e rest = absurd digits
long_fits (b ∷ bs) c digits e rest =
    exactly (b ∷ bs ++ c ∷ []) (number_of (value (b ∷ bs))) (piece (b ∷ bs ++ c ∷ rest))
    (ap (λ k. piece_by k (b ∷ bs ++ c ∷ rest) (bs ++ c ∷ rest)) (class_digit b ((and_parts (is_ascii_digit b) (list_all is_ascii_digit bs) digits).0))
    ∙ ap at run
    ∙ ap (λ us. numeral (capped us) (if begins 76 (drop (length (b ∷ bs)) (b ∷ bs ++ c ∷ rest)) || begins 108 (drop (length (b ∷ bs)) (b ∷ bs ++ c ∷ rest)) then length (b ∷ bs) + 1 else length (b ∷ bs))) (take-append_seam (b ∷ bs) (c ∷ rest))
    ∙ ap (λ after. numeral (capped (b ∷ bs)) (if begins 76 after || begins 108 after then length (b ∷ bs) + 1 else length (b ∷ bs))) (drop-append_seam (b ∷ bs) (c ∷ rest))
    ∙ ap (λ t. numeral (capped (b ∷ bs)) (if t then length (b ∷ bs) + 1 else length (b ∷ bs))) e
    ∙ numeral_of (b ∷ bs) (length (b ∷ bs) + 1)
    ∙ ap (piece_of (number_of (value (b ∷ bs)))) (sym (length-append (b ∷ bs) (c ∷ []))))
  where
    at : ℕ → Piece
    at n = numeral (capped (take n (b ∷ bs ++ c ∷ rest))) (if begins 76 (drop n (b ∷ bs ++ c ∷ rest)) || begins 108 (drop n (b ∷ bs ++ c ∷ rest)) then n + 1 else n)

    run : digit_len (bs ++ c ∷ rest) + 1 ≡ length (b ∷ bs)
    run = let e = run_stops (λ b. not (not (is_ascii_digit b))) bs c rest (twice is_ascii_digit bs ∙ (and_parts (is_ascii_digit b) (list_all is_ascii_digit bs) digits).1) (ap (λ t. not (not t)) (suffix c e)) in omega arith

pub position_fits : (us : Text) → IsDigits us → (rest : Text) → Fits (36 ∷ us) (position_of (value us)) (piece (36 ∷ us ++ rest))
position_fits [] digits rest = absurd digits
position_fits (b ∷ bs) digits rest =
    let us : Text = b ∷ bs in
    let n : ℕ = digit_len (us ++ rest) in
    let long : length us ≤ n = run_within (λ b. not (not (is_ascii_digit b))) us rest (twice is_ascii_digit us ∙ digits) in
    let some : (n == 0) ≡ false = grind (arith, nat_tests) in
    subst (Fits (36 ∷ us) (position_of (value us))) (sym (ap (λ t. if t then p.Bad else at n) some))
    (record {
      within = rw (reach-at n) (omega arith);
      exact = λ len. let l : length us ≡ n = let l' = len ∙ reach-at n in omega arith in
          ap at (sym l) ∙ ap (λ us. if capped us == TOO_LARGE then p.TooLarge (length (b ∷ bs) + 1) else p.Take (t.Position (capped us)) (length (b ∷ bs) + 1)) (take-append_seam (b ∷ bs) rest)
          ∙ place_of (b ∷ bs) (length (b ∷ bs) + 1) ∙ ap (piece_of (position_of (value (b ∷ bs)))) (omega arith);
    })
  where
    at : ℕ → Piece
    at n = if capped (take n (b ∷ bs ++ rest)) == TOO_LARGE then p.TooLarge (n + 1) else p.Take (t.Position (capped (take n (b ∷ bs ++ rest)))) (n + 1)

    reach-at : (n : ℕ) → reach (at n) ≡ n + 1
    reach-at n = by (capped (take n (b ∷ bs ++ rest)) == TOO_LARGE)
      where
        by : (c : Bool) → reach (if c then p.TooLarge (n + 1) else p.Take (t.Position (capped (take n (b ∷ bs ++ rest)))) (n + 1)) ≡ n + 1
        by true = refl
        by false = refl

-- symbols
two_fit : (b : ℕ) (rest : Text) (c : ℕ) (x y : Symbol) → Fits (b ∷ []) (Is (t.Symbol y)) (symbol_piece (if begins c rest then Some (x, 2) else Some (y, 1)))
two_fit b rest c x y = by (begins c rest)
  where
    by : (v : Bool) → Fits (b ∷ []) (Is (t.Symbol y)) (symbol_piece (if v then Some (x, 2) else Some (y, 1)))
    by true = more (b ∷ []) (Is (t.Symbol y)) (p.Take (t.Symbol x) 2) (omega arith)
    by false = same (b ∷ []) (Is (t.Symbol y)) 1 (omega arith)

dash_fits : (rest : Text) → Fits (45 ∷ []) (Is (t.Symbol s.Minus)) (dash rest)
dash_fits [] = same (45 ∷ []) (Is (t.Symbol s.Minus)) 1 (omega arith)
dash_fits (b ∷ bs) = by (b == 45)
  where
    by : (v : Bool) → Fits (45 ∷ []) (Is (t.Symbol s.Minus)) (if v then p.Skip (line_len bs + 2) else p.Take (t.Symbol s.Minus) 1)
    by true = more (45 ∷ []) (Is (t.Symbol s.Minus)) (p.Skip (line_len bs + 2)) (omega arith)
    by false = same (45 ∷ []) (Is (t.Symbol s.Minus)) 1 (omega arith)

symbol_fits : (x : Symbol) (rest : Text) → Fits (sign x) (Is (t.Symbol x)) (piece (sign x ++ rest))
symbol_fits s.Assign rest = two_fit 61 rest 61 (s.Compare c.Eq) s.Assign
symbol_fits (s.Compare c.Eq) rest = same (sign (s.Compare c.Eq)) _ 2 (omega arith)
symbol_fits (s.Compare c.Ne) rest = same (sign (s.Compare c.Ne)) _ 2 (omega arith)
symbol_fits (s.Compare c.Lt) rest = two_fit 60 rest 61 (s.Compare c.Le) (s.Compare c.Lt)
symbol_fits (s.Compare c.Le) rest = same (sign (s.Compare c.Le)) _ 2 (omega arith)
symbol_fits (s.Compare c.Gt) rest = two_fit 62 rest 61 (s.Compare c.Ge) (s.Compare c.Gt)
symbol_fits (s.Compare c.Ge) rest = same (sign (s.Compare c.Ge)) _ 2 (omega arith)
symbol_fits s.Plus rest = same (sign s.Plus) _ 1 (omega arith)
symbol_fits s.Minus rest = dash_fits rest
symbol_fits s.Star rest = same (sign s.Star) _ 1 (omega arith)
symbol_fits s.Open rest = same (sign s.Open) _ 1 (omega arith)
symbol_fits s.Close rest = same (sign s.Close) _ 1 (omega arith)
symbol_fits s.Comma rest = same (sign s.Comma) _ 1 (omega arith)
symbol_fits s.Semicolon rest = same (sign s.Semicolon) _ 1 (omega arith)
symbol_fits s.Dot rest = same (sign s.Dot) _ 1 (omega arith)
symbol_fits s.Colon rest = two_fit 58 rest 58 s.ColonColon s.Colon
symbol_fits s.ColonColon rest = same (sign s.ColonColon) _ 2 (omega arith)
symbol_fits s.Question rest = same (sign s.Question) _ 1 (omega arith)

-- what a lexeme in front is, is the piece there, or a part of it
pub fits : {us : Text} {x : Lexeme} → IsLexeme us x → (rest : Text) → Fits us x (piece (us ++ rest))
fits (blank b e) rest = subst (λ c. Fits (b ∷ []) Gap (piece_by c (b ∷ rest) rest)) (sym (class_blank b e)) (same (b ∷ []) Gap 1 (omega arith))
fits (line_comment us e) rest =
    let long : length us ≤ line_len (us ++ rest) = run_within (λ b. not (is_newline b)) us rest e in
    same (45 ∷ 45 ∷ us) Gap (line_len (us ++ rest) + 2) (omega arith)
fits (block_comment us e) rest =
    exactly (47 ∷ 42 ∷ us ++ 42 ∷ 47 ∷ []) Gap (piece ((47 ∷ 42 ∷ us ++ 42 ∷ 47 ∷ []) ++ rest))
    (ap (λ ts. comment (block ts)) (append_assoc us (42 ∷ 47 ∷ []) rest) ∙ ap comment (block_found us rest e)
    ∙ ap p.Skip (let len = length-append us (42 ∷ 47 ∷ []) in omega arith))
fits (identifier us name unlike other) rest = word_fits us _ name (name_token us unlike other) rest
fits (keyword us k name e) rest = word_fits us _ name (keyword_token us k e) rest
fits (group us name e) rest = word_fits us _ name (group_token us e) rest
fits (is_number us digits) rest = number_fits us digits rest
fits (long_number us b digits e) rest =
    subst (λ ts. Fits (us ++ b ∷ []) (number_of (value us)) (piece ts)) (sym (append_assoc us (b ∷ []) rest)) (long_fits us b digits e rest)
fits (is_position us digits) rest = position_fits us digits rest
fits (is_literal {us} {text} h) rest =
    exactly (39 ∷ us ++ 39 ∷ []) (Is (t.Literal text)) (piece ((39 ∷ us ++ 39 ∷ []) ++ rest))
    (ap (λ ts. quoted (literal false ts)) (append_assoc us (39 ∷ []) rest) ∙ ap quoted (literal_found h rest)
    ∙ ap (p.Take (t.Literal text)) (let len = length-append us (39 ∷ []) in omega arith))
fits (is_symbol x) rest = symbol_fits x rest
