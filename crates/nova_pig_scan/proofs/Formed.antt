-- The piece in front of a text is a lexeme.
use Rattle.std.proofs.Common.{◌≡◌, ℕ, zero, suc, ◌+◌, Bool, true, false, [], ◌∷◌, ◌++◌, take, drop, Option, Some, None, refl, ap, sym, subst, ◌∙◌, arith, cond, take-add, MatchOption}
use Rattle.std.proofs.lemmas.Bool.{eqb-true, and_parts, and_from}
use Rattle.std.specs.Prelude.{if◌then◌else◌, ◌&&◌, ◌||◌, ◌==◌, not}
use Rattle.std.specs.List.{list_all}
use Rattle.std.specs.Char.{is_ascii_alphabetic, is_ascii_digit}
use Rattle.nova_pig_tree.specs.declared.expression.CompareOp.TheVariants as c
use Rattle.nova_pig_tree.specs.declared.token.Symbol.{Symbol}
use Rattle.nova_pig_tree.specs.declared.token.Symbol.TheVariants as s
use Rattle.nova_pig_tree.specs.declared.token.Token.TheVariants as t
use Rattle.nova_pig_scan.specs.declared.lex.Class.{Class}
use Rattle.nova_pig_scan.specs.declared.lex.Class.TheVariants as class
use Rattle.nova_pig_scan.specs.declared.lex.Step.TheVariants as st
use Rattle.nova_pig_scan.specs.declared.piece.Piece.{Piece}
use Rattle.nova_pig_scan.specs.declared.piece.Piece.TheVariants as p
use Rattle.nova_pig_scan.specs.Lexemes.{Text, is_blank, is_newline, is_word, begins, is_unclosed, IsDigits, value, sign, is_escaped, is_plain, Spells, nothing, plain, escape, Lexeme, Gap, Is, TooLarge, number_of, position_of, IsLexeme, blank, line_comment, block_comment, number as is_number, long_number, position as is_position, literal as is_literal, symbol as is_symbol}
use Rattle.nova_pig_scan.specs.Lex.{class_of, line_len, block, two_more, word_len, digit_len, capped, literal, literal_by, symbol_by, single_symbol}
use Rattle.nova_pig_scan.specs.Tokens.{piece, piece_by, dash, slash, word, numeral, number, position, quoted, word_token, comment, symbol_piece}
use Rattle.nova_pig_scan.proofs.RunLengths.{twice, run_passes}
use Rattle.nova_pig_scan.proofs.Words.{name_lexeme}
use Rattle.nova_pig_scan.proofs.Fits.{piece_of, numeral_of, place_of}

-- the bytes that a piece takes are a lexeme
abbrev pub Formed : Text → Piece → Type 0
Formed text p.End = Unit {0}
Formed text (p.Skip n) = IsLexeme (take n text) Gap
Formed text (p.Take t n) = IsLexeme (take n text) (Is t)
Formed text (p.TooLarge n) = IsLexeme (take n text) TooLarge
Formed text p.Bad = Unit {0}

formed_of : (x : Lexeme) (n : ℕ) (text : Text) → IsLexeme (take n text) x → Formed text (piece_of x n)
formed_of Gap n text h = h
formed_of (Is t) n text h = h
formed_of TooLarge n text h = h

formed_if : (b : Bool) (p q : Piece) (text : Text) → (b ≡ true → Formed text p) → (b ≡ false → Formed text q) → Formed text (if b then p else q)
formed_if true p q text h k = h refl
formed_if false p q text h k = k refl

-- what a byte of a class is
abbrev Fact : ℕ → Class → Type 0
Fact b class.Blank = is_blank b ≡ true
Fact b class.Dash = (b == 45) ≡ true
Fact b class.Slash = (b == 47) ≡ true
Fact b class.Letter = is_ascii_alphabetic b ≡ true
Fact b class.Digit = is_ascii_digit b ≡ true
Fact b class.Dollar = (b == 36) ≡ true
Fact b class.Quote = (b == 39) ≡ true
Fact b class.Other = Unit {0}

chosen : (b : ℕ) (v : Bool) (x y : Class) → (v ≡ true → Fact b x) → Fact b y → Fact b (if v then x else y)
chosen b true x y h k = h refl
chosen b false x y h k = k

class_fact : (b : ℕ) → Fact b (class_of b)
class_fact b =
    chosen b (is_blank b) class.Blank _ (λ e. e)
    (chosen b (b == 45) class.Dash _ (λ e. e)
    (chosen b (b == 47) class.Slash _ (λ e. e)
    (chosen b (is_ascii_alphabetic b) class.Letter _ (λ e. e)
    (chosen b (is_ascii_digit b) class.Digit _ (λ e. e)
    (chosen b (b == 36) class.Dollar _ (λ e. e)
    (chosen b (b == 39) class.Quote class.Other (λ e. e) tt))))))

-- comments
dash_formed : (bs : Text) → Formed (45 ∷ bs) (dash bs)
dash_formed [] = is_symbol s.Minus
dash_formed (b ∷ bs) = formed_if (b == 45) (p.Skip (line_len bs + 2)) (p.Take (t.Symbol s.Minus) 1) (45 ∷ b ∷ bs) comment_formed (λ e. is_symbol s.Minus)
  where
    comment_formed : (b == 45) ≡ true → IsLexeme (take (line_len bs + 2) (45 ∷ b ∷ bs)) Gap
    comment_formed e =
        let two : line_len bs + 2 ≡ suc (suc (line_len bs)) = omega arith in
        let dash : 45 ≡ b = sym (eqb-true b 45 e) in
        subst (λ ts. IsLexeme ts Gap) (ap (λ c. 45 ∷ c ∷ take (line_len bs) bs) dash ∙ ap (λ n. take n (45 ∷ b ∷ bs)) (sym two))
        (line_comment (take (line_len bs) bs) (run_passes (λ b. not (is_newline b)) bs))

-- a comment that is closed
abbrev Closed : Text → Option ℕ → Type 0
Closed bs o = MatchOption o (Unit {0}) (λ n. (us : Text) × (take n bs ≡ us ++ 42 ∷ 47 ∷ []) × (is_unclosed us ≡ true))

block_formed : (bs : Text) → Closed bs (block bs)
unfolding block
block_formed [] = tt
block_formed (b ∷ bs) = by (b == 42 && begins 47 bs) refl (block bs) (block_formed bs)
  where
    ends : (bs : Text) → (b == 42 && begins 47 bs) ≡ true → take 2 (b ∷ bs) ≡ 42 ∷ 47 ∷ []
    ends [] e = absurd (let f = (and_parts (b == 42) false e).1 in cc)
    ends (d ∷ bs) e = let f = eqb-true b 42 ((and_parts (b == 42) (d == 47) e).0) in let g = eqb-true d 47 ((and_parts (b == 42) (d == 47) e).1) in ap (λ x. x ∷ d ∷ []) f ∙ ap (λ x. 42 ∷ x ∷ []) g

    false_and : (v : Bool) → not (v && false) ≡ true
    false_and true = refl
    false_and false = refl

    goes : (us : Text) (n : ℕ) → (b == 42 && begins 47 bs) ≡ false → take n bs ≡ us ++ 42 ∷ 47 ∷ [] → not (b == 42 && begins 47 us) ≡ true
    goes [] n e h = false_and (b == 42)
    goes (d ∷ us) n e h = ap (λ v. not (b == 42 && v)) (prefix n bs h) ∙ ap not e
      where
        prefix : (n : ℕ) (bs : Text) → take n bs ≡ d ∷ us ++ 42 ∷ 47 ∷ [] → (d == 47) ≡ begins 47 bs
        prefix zero bs h = absurd cc
        prefix (suc n) [] h = absurd cc
        prefix (suc n) (x ∷ bs) h = let e : x ≡ d = cc in ap (λ y. y == 47) (sym e)

    by : (v : Bool) → (b == 42 && begins 47 bs) ≡ v → (o : Option ℕ) → Closed bs o → Closed (b ∷ bs) (if v then Some 2 else two_more o)
    by true e o h = ([], ends bs e, refl)
    by false e None h = tt
    by false e (Some n) h =
        let one : n + 1 ≡ suc n = omega arith in
        (b ∷ h.0, ap (λ k. take k (b ∷ bs)) one ∙ ap (λ ts. b ∷ ts) h.1, and_from _ _ (goes h.0 n e h.1) h.2)

slash_formed : (bs : Text) → Formed (47 ∷ bs) (slash bs)
slash_formed [] = tt
slash_formed (b ∷ bs) = formed_if (b == 42) (comment (block bs)) p.Bad (47 ∷ b ∷ bs) (λ e. comment_formed e (block bs) (block_formed bs)) (λ e. tt)
  where
    comment_formed : (b == 42) ≡ true → (o : Option ℕ) → Closed bs o → Formed (47 ∷ b ∷ bs) (comment o)
    comment_formed e None h = tt
    comment_formed e (Some n) h =
        let two : n + 2 ≡ suc (suc n) = omega arith in
        let star : 42 ≡ b = sym (eqb-true b 42 e) in
        subst (λ ts. IsLexeme ts Gap) (ap (λ ts. 47 ∷ 42 ∷ ts) (sym h.1) ∙ ap (λ c. 47 ∷ c ∷ take n bs) star ∙ ap (λ n. take n (47 ∷ b ∷ bs)) (sym two)) (block_comment h.0 h.2)

-- names and numbers
word_formed : (b : ℕ) (bs : Text) → is_ascii_alphabetic b ≡ true → Formed (b ∷ bs) (word (b ∷ bs) bs)
word_formed b bs letter =
    let one : word_len bs + 1 ≡ suc (word_len bs) = omega arith in
    subst (λ n. IsLexeme (take n (b ∷ bs)) (Is (word_token (take n (b ∷ bs))))) (sym one)
    (name_lexeme (b ∷ take (word_len bs) bs) (letter, sym (twice is_word (take (word_len bs) bs)) ∙ run_passes (λ b. not (not (is_word b))) bs))

number_formed : (b : ℕ) (bs : Text) → is_ascii_digit b ≡ true → Formed (b ∷ bs) (number (b ∷ bs) bs)
number_formed b bs digit =
    subst (λ n. Formed (b ∷ bs) (numeral (capped (take n (b ∷ bs))) (if begins 76 (drop n (b ∷ bs)) || begins 108 (drop n (b ∷ bs)) then n + 1 else n))) (sym one)
    (subst (Formed (b ∷ bs)) (sym (numeral_of (b ∷ take (digit_len bs) bs) (taken (begins 76 (drop (digit_len bs) bs) || begins 108 (drop (digit_len bs) bs)))))
    (formed_of (number_of (value (b ∷ take (digit_len bs) bs))) (taken (begins 76 (drop (digit_len bs) bs) || begins 108 (drop (digit_len bs) bs))) (b ∷ bs)
    (by (begins 76 (drop (digit_len bs) bs) || begins 108 (drop (digit_len bs) bs)) refl)))
  where
    taken : Bool → ℕ
    taken v = if v then suc (digit_len bs) + 1 else suc (digit_len bs)

    one : digit_len bs + 1 ≡ suc (digit_len bs)
    one = omega arith

    are : IsDigits (b ∷ take (digit_len bs) bs)
    are = and_from (is_ascii_digit b) (list_all is_ascii_digit (take (digit_len bs) bs)) digit (sym (twice is_ascii_digit (take (digit_len bs) bs)) ∙ run_passes (λ b. not (not (is_ascii_digit b))) bs)

    suffixed : (after : Text) → drop (digit_len bs) bs ≡ after → (begins 76 after || begins 108 after) ≡ true → IsLexeme (take (suc (digit_len bs) + 1) (b ∷ bs)) (number_of (value (b ∷ take (digit_len bs) bs)))
    suffixed [] e h = absurd cc
    suffixed (d ∷ rest) e h =
        subst (λ ts. IsLexeme ts (number_of (value (b ∷ take (digit_len bs) bs)))) (sym all) (long_number (b ∷ take (digit_len bs) bs) d are h)
      where
        all : take (suc (digit_len bs) + 1) (b ∷ bs) ≡ (b ∷ take (digit_len bs) bs) ++ d ∷ []
        all = take-add (suc (digit_len bs)) 1 (b ∷ bs) ∙ ap (λ ts. (b ∷ take (digit_len bs) bs) ++ take 1 ts) e

    by : (v : Bool) → (begins 76 (drop (digit_len bs) bs) || begins 108 (drop (digit_len bs) bs)) ≡ v
        → IsLexeme (take (if v then suc (digit_len bs) + 1 else suc (digit_len bs)) (b ∷ bs)) (number_of (value (b ∷ take (digit_len bs) bs)))
    by true e = suffixed (drop (digit_len bs) bs) refl e
    by false e = is_number (b ∷ take (digit_len bs) bs) are

position_formed : (bs : Text) → Formed (36 ∷ bs) (position bs)
position_formed bs =
    formed_if (digit_len bs == 0) p.Bad _ (36 ∷ bs) (λ e. tt) (λ e.
    subst (Formed (36 ∷ bs)) (sym (place_of (take (digit_len bs) bs) (digit_len bs + 1)))
    (formed_of (position_of (value (take (digit_len bs) bs))) (digit_len bs + 1) (36 ∷ bs)
    (subst (λ n. IsLexeme (take n (36 ∷ bs)) (position_of (value (take (digit_len bs) bs)))) (sym one) (is_position (take (digit_len bs) bs) (some bs e)))))
  where
    one : digit_len bs + 1 ≡ suc (digit_len bs)
    one = omega arith

    some : (bs : Text) → (digit_len bs == 0) ≡ false → IsDigits (take (digit_len bs) bs)
    some [] e = absurd cc
    some (b ∷ bs) e = by (is_ascii_digit b) refl e
      where
        by : (v : Bool) → is_ascii_digit b ≡ v → (cond (not (not v)) (1 + digit_len bs) 0 == 0) ≡ false → IsDigits (take (cond (not (not v)) (1 + digit_len bs) 0) (b ∷ bs))
        by true f e =
            let one : 1 + digit_len bs ≡ suc (digit_len bs) = omega arith in
            subst (λ n. IsDigits (take n (b ∷ bs))) (sym one)
            (and_from (is_ascii_digit b) (list_all is_ascii_digit (take (digit_len bs) bs)) f (sym (twice is_ascii_digit (take (digit_len bs) bs)) ∙ run_passes (λ b. not (not (is_ascii_digit b))) bs))
        by false f e = absurd cc

-- literals: what is read, where nothing or a backslash stands in front
abbrev Spelled : Bool → Text → Option (Text × ℕ) → Type 0
Spelled escaped bs o = MatchOption o (Unit {0}) (λ p. (us : Text) × Spells (if escaped then 92 ∷ us else us) p.0 × (take p.1 bs ≡ us ++ 39 ∷ []))

literal_formed : (escaped : Bool) (bs : Text) → Spelled escaped bs (literal escaped bs)
unfolding literal
literal_formed escaped [] = tt
literal_formed false (b ∷ bs) =
    by (b == 39) refl (b == 92) refl (b == 9) refl (b == 10) refl (literal false bs) (literal_formed false bs) (literal true bs) (literal_formed true bs)
  where
    by : (q : Bool) → (b == 39) ≡ q → (e : Bool) → (b == 92) ≡ e → (x : Bool) → (b == 9) ≡ x → (y : Bool) → (b == 10) ≡ y
        → (o : Option (Text × ℕ)) → Spelled false bs o → (o' : Option (Text × ℕ)) → Spelled true bs o'
        → Spelled false (b ∷ bs) (literal_by (if q then st.Close else (if e then st.Escape else (if x || y then st.Bad else st.Keep))) b o o')
    by true is_q e is_e x is_x y is_y o h o' h' = ([], nothing, ap (λ c. c ∷ []) (eqb-true b 39 is_q))
    by false is_q true is_e x is_x y is_y o h None h' = tt
    by false is_q true is_e x is_x y is_y o h (Some p) h' =
        let one : p.1 + 1 ≡ suc p.1 = omega arith in
        (92 ∷ h'.0, h'.1, ap (λ n. take n (b ∷ bs)) one ∙ ap (λ c. c ∷ take p.1 bs) (eqb-true b 92 is_e) ∙ ap (λ ts. 92 ∷ ts) h'.2)
    by false is_q false is_e true is_x y is_y o h o' h' = tt
    by false is_q false is_e false is_x true is_y o h o' h' = tt
    by false is_q false is_e false is_x false is_y None h o' h' = tt
    by false is_q false is_e false is_x false is_y (Some p) h o' h' =
        let one : p.1 + 1 ≡ suc p.1 = omega arith in
        let fits : is_plain b ≡ true = rw (is_q, is_e, is_x, is_y) refl in
        (b ∷ h.0, plain b fits h.1, ap (λ n. take n (b ∷ bs)) one ∙ ap (λ ts. b ∷ ts) h.2)
literal_formed true (b ∷ bs) = by (is_escaped b) refl (literal false bs) (literal_formed false bs)
  where
    by : (v : Bool) → is_escaped b ≡ v → (o : Option (Text × ℕ)) → Spelled false bs o → Spelled true (b ∷ bs) (literal_by (if v then st.Keep else st.Bad) b o (literal true bs))
    by true e None h = tt
    by true e (Some p) h = let one : p.1 + 1 ≡ suc p.1 = omega arith in (b ∷ h.0, escape b e h.1, ap (λ n. take n (b ∷ bs)) one ∙ ap (λ ts. b ∷ ts) h.2)
    by false e o h = tt

quoted_formed : (bs : Text) → (o : Option (Text × ℕ)) → Spelled false bs o → Formed (39 ∷ bs) (quoted o)
quoted_formed bs None h = tt
quoted_formed bs (Some p) h =
    let one : p.1 + 1 ≡ suc p.1 = omega arith in
    subst (λ ts. IsLexeme ts (Is (t.Literal p.0))) (ap (λ ts. 39 ∷ ts) (sym h.2) ∙ ap (λ n. take n (39 ∷ bs)) (sym one)) (is_literal h.1)

-- symbols
abbrev Signed : Text → Option (Symbol × ℕ) → Type 0
Signed text o = MatchOption o (Unit {0}) (λ p. take p.1 text ≡ sign p.0)

signed_if : (v : Bool) (o o' : Option (Symbol × ℕ)) (text : Text) → (v ≡ true → Signed text o) → Signed text o' → Signed text (if v then o else o')
signed_if true o o' text h k = h refl
signed_if false o o' text h k = k

single_signed : (b : ℕ) (bs : Text) → Signed (b ∷ bs) (single_symbol b)
single_signed b bs =
    signed_if (b == 43) _ _ (b ∷ bs) (one 43) (signed_if (b == 42) _ _ (b ∷ bs) (one 42) (signed_if (b == 40) _ _ (b ∷ bs) (one 40)
    (signed_if (b == 41) _ _ (b ∷ bs) (one 41) (signed_if (b == 44) _ _ (b ∷ bs) (one 44) (signed_if (b == 59) _ _ (b ∷ bs) (one 59)
    (signed_if (b == 46) _ _ (b ∷ bs) (one 46) (signed_if (b == 63) _ _ (b ∷ bs) (one 63) tt)))))))
  where
    one : (c : ℕ) → (b == c) ≡ true → b ∷ [] ≡ c ∷ []
    one c e = ap (λ x. x ∷ []) (eqb-true b c e)

two_signed : (b c : ℕ) (bs : Text) (d : ℕ) (x y : Symbol) → sign x ≡ c ∷ d ∷ [] → sign y ≡ c ∷ [] → (b == c) ≡ true → Signed (b ∷ bs) (if begins d bs then Some (x, 2) else Some (y, 1))
two_signed b c [] d x y ex ey e = ap (λ x. x ∷ []) (eqb-true b c e) ∙ sym ey
two_signed b c (a ∷ bs) d x y ex ey e = by (a == d) refl
  where
    by : (v : Bool) → (a == d) ≡ v → Signed (b ∷ a ∷ bs) (if v then Some (x, 2) else Some (y, 1))
    by true f = ap (λ x. x ∷ a ∷ []) (eqb-true b c e) ∙ ap (λ x. c ∷ x ∷ []) (eqb-true a d f) ∙ sym ex
    by false f = ap (λ x. x ∷ []) (eqb-true b c e) ∙ sym ey

unequal_signed : (b : ℕ) (bs : Text) → (b == 33 && begins 61 bs) ≡ true → Signed (b ∷ bs) (Some (s.Compare c.Ne, 2))
unequal_signed b [] e = absurd (let f = (and_parts (b == 33) false e).1 in cc)
unequal_signed b (a ∷ bs) e =
    ap (λ x. x ∷ a ∷ []) (eqb-true b 33 ((and_parts (b == 33) (a == 61) e).0)) ∙ ap (λ x. 33 ∷ x ∷ []) (eqb-true a 61 ((and_parts (b == 33) (a == 61) e).1))

symbol_signed : (b : ℕ) (bs : Text) → Signed (b ∷ bs) (symbol_by b bs)
symbol_signed b bs =
    signed_if (b == 61) _ _ (b ∷ bs) (two_signed b 61 bs 61 (s.Compare c.Eq) s.Assign refl refl)
    (signed_if (b == 33 && begins 61 bs) _ _ (b ∷ bs) (unequal_signed b bs)
    (signed_if (b == 60) _ _ (b ∷ bs) (two_signed b 60 bs 61 (s.Compare c.Le) (s.Compare c.Lt) refl refl)
    (signed_if (b == 62) _ _ (b ∷ bs) (two_signed b 62 bs 61 (s.Compare c.Ge) (s.Compare c.Gt) refl refl)
    (signed_if (b == 58) _ _ (b ∷ bs) (two_signed b 58 bs 58 s.ColonColon s.Colon refl refl) (single_signed b bs)))))

symbol_formed : (text : Text) (o : Option (Symbol × ℕ)) → Signed text o → Formed text (symbol_piece o)
symbol_formed text None h = tt
symbol_formed text (Some p) h = subst (λ ts. IsLexeme ts (Is (t.Symbol p.0))) (sym h) (is_symbol p.0)

-- the byte in front, where it is known
first_formed : (b c : ℕ) (bs : Text) (q : Piece) → (b == c) ≡ true → Formed (c ∷ bs) q → Formed (b ∷ bs) q
first_formed b c bs q e h = subst (λ x. Formed (x ∷ bs) q) (sym (eqb-true b c e)) h

class_formed : (k : Class) (b : ℕ) (bs : Text) → Fact b k → Formed (b ∷ bs) (piece_by k (b ∷ bs) bs)
class_formed class.Blank b bs e = blank b e
class_formed class.Dash b bs e = first_formed b 45 bs (dash bs) e (dash_formed bs)
class_formed class.Slash b bs e = first_formed b 47 bs (slash bs) e (slash_formed bs)
class_formed class.Letter b bs e = word_formed b bs e
class_formed class.Digit b bs e = number_formed b bs e
class_formed class.Dollar b bs e = first_formed b 36 bs (position bs) e (position_formed bs)
class_formed class.Quote b bs e = first_formed b 39 bs (quoted (literal false bs)) e (quoted_formed bs (literal false bs) (literal_formed false bs))
class_formed class.Other b bs e = symbol_formed (b ∷ bs) (symbol_by b bs) (symbol_signed b bs)

-- the piece in front of a text is a lexeme
pub formed : (text : Text) → Formed text (piece text)
formed [] = tt
formed (b ∷ bs) = class_formed (class_of b) b bs (class_fact b)
