-- Names and the insides of literals are text values.
use Rattle.std.proofs.Common.{◌≡◌, ℕ, zero, suc, ◌+◌, ◌<◌, ◌≤◌, Bool, true, false, List, [], ◌∷◌, ◌++◌, length, take, drop, get_or, Option, Some, None, refl, ap, sym, subst, ◌∙◌, arith, drop-cons, drop-drop, drop_of_length-le, MatchOption}
use Rattle.std.proofs.lemmas.Bool.Decides.{nat_tests}
use Rattle.std.proofs.lemmas.Bool.{eqb-true, and_parts, and_from}
use Rattle.std.specs.Prelude.{if◌then◌else◌, ◌||◌, ◌==◌, not, nat_lt, encode_utf8, encode_utf8_all}
use Rattle.std.specs.List.{list_all}
use Rattle.std.specs.Char.{is_ascii_alphabetic}
use Rattle.std.specs.Str.{IsUtf8, is_utf8, IsAscii}
use Rattle.std.proofs.lemmas.Str.{IsUtf8-nil, IsUtf8-append, IsUtf8-drop, IsUtf8-encode, IsUtf8-from_ascii, is_utf8-from_IsUtf8, IsCharBoundary-after_ascii, encode_ascii, inside_one, len_utf8_bounds, length-encode}
use Rattle.std.proofs.Math.Utf8.{scalar, scalars}
use Rattle.std.specs.Char.{IsScalar, len_utf8}
use Rattle.std.proofs.lemmas.List.{append-nil}
use Rattle.nova_value.specs.declared.limit.TheConstants.{MAX_TEXT_BYTES}
use Rattle.nova_value.specs.Text.{is_clean, IsText}
use Rattle.nova_pig_scan.specs.declared.lex.Step.{Step}
use Rattle.nova_pig_scan.specs.declared.lex.Step.TheVariants as st
use Rattle.nova_pig_scan.specs.Lexemes.{Text, IsName, is_word, begins, is_escaped}
use Rattle.nova_pig_scan.specs.Lex.{word_len, literal, literal_by, with_byte, step_of}
use Rattle.nova_pig_scan.proofs.RunLengths.{twice, run_passes}

-- names
pub word_name : (b : ℕ) (text rest : Text) → text ≡ b ∷ rest → is_ascii_alphabetic b ≡ true → IsName (take (word_len rest + 1) text)
word_name b text rest e letter =
    let one : word_len rest + 1 ≡ suc (word_len rest) = omega arith in
    subst (λ n. IsName (take n text)) (sym one) (subst (λ ts. IsName (take (suc (word_len rest)) ts)) (sym e)
    (letter, sym (twice is_word (take (word_len rest) rest)) ∙ run_passes (λ b. not (not (is_word b))) rest))

letter_word : (b : ℕ) → is_ascii_alphabetic b ≡ true → is_word b ≡ true
letter_word b e = grind (arith, nat_tests)

word_byte : (b : ℕ) → is_word b ≡ true → (b < 128) × (not (b == 9 || b == 10) ≡ true)
word_byte b e = (grind (arith, nat_tests), grind (arith, nat_tests))

words_clean : (us : Text) → list_all is_word us ≡ true → is_clean us ≡ true
words_clean [] h = refl
words_clean (b ∷ us) h = and_from (not (b == 9 || b == 10)) (is_clean us) (word_byte b ((and_parts (is_word b) (list_all is_word us) h).0)).1 (words_clean us ((and_parts (is_word b) (list_all is_word us) h).1))

words_ascii : (us : Text) → list_all is_word us ≡ true → IsAscii us
words_ascii [] h i = omega arith
words_ascii (b ∷ us) h zero = (word_byte b ((and_parts (is_word b) (list_all is_word us) h).0)).0
words_ascii (b ∷ us) h (suc i) = words_ascii us ((and_parts (is_word b) (list_all is_word us) h).1) i

pub name_text : (us : Text) → IsName us → length us ≤ MAX_TEXT_BYTES → IsText us
name_text [] name short = absurd name
name_text (b ∷ bs) name short =
    let words = and_from (is_word b) (list_all is_word bs) (letter_word b name.0) name.1 in
    record { short = short; clean = words_clean (b ∷ bs) words; utf8 = is_utf8-from_IsUtf8 (b ∷ bs) (IsUtf8-from_ascii (b ∷ bs) (words_ascii (b ∷ bs) words)) }

-- the inside of a literal holds no tab and no newline
literal_clean : (escaped : Bool) (bs : Text) → MatchOption (literal escaped bs) (Unit {0}) (λ p. is_clean p.0 ≡ true)
unfolding literal
literal_clean escaped [] = tt
literal_clean true (b ∷ bs) = by (is_escaped b) refl (literal false bs) (literal_clean false bs)
  where
    clean : is_escaped b ≡ true → not (b == 9 || b == 10) ≡ true
    clean e = grind (arith, nat_tests)

    by : (v : Bool) → is_escaped b ≡ v → (o : Option (Text × ℕ)) → MatchOption o (Unit {0}) (λ p. is_clean p.0 ≡ true)
        → MatchOption (literal_by (if v then st.Keep else st.Bad) b o (literal true bs)) (Unit {0}) (λ p. is_clean p.0 ≡ true)
    by false e o h = tt
    by true e None h = tt
    by true e (Some p) h = and_from (not (b == 9 || b == 10)) (is_clean p.0) (clean e) h
literal_clean false (b ∷ bs) = by (b == 39) (b == 92) (b == 9 || b == 10) refl (literal false bs) (literal_clean false bs) (literal true bs) (literal_clean true bs)
  where
    by : (q e v : Bool) → (b == 9 || b == 10) ≡ v
        → (o : Option (Text × ℕ)) → MatchOption o (Unit {0}) (λ p. is_clean p.0 ≡ true) → (o' : Option (Text × ℕ)) → MatchOption o' (Unit {0}) (λ p. is_clean p.0 ≡ true)
        → MatchOption (literal_by (if q then st.Close else (if e then st.Escape else (if v then st.Bad else st.Keep))) b o o') (Unit {0}) (λ p. is_clean p.0 ≡ true)
    by true e v f o h o' h' = refl
    by false true v f o h None h' = tt
    by false true v f o h (Some p) h' = h'
    by false false true f o h o' h' = tt
    by false false false f None h o' h' = tt
    by false false false f (Some p) h o' h' = and_from (not (b == 9 || b == 10)) (is_clean p.0) (ap not f) h

literal_short : (escaped : Bool) (bs : Text) → MatchOption (literal escaped bs) (Unit {0}) (λ p. length p.0 ≤ length bs)
unfolding literal
literal_short escaped [] = tt
literal_short escaped (b ∷ bs) = by (step_of escaped b) (literal false bs) (literal_short false bs) (literal true bs) (literal_short true bs)
  where
    by : (s : Step) → (o : Option (Text × ℕ)) → MatchOption o (Unit {0}) (λ p. length p.0 ≤ length bs) → (o' : Option (Text × ℕ)) → MatchOption o' (Unit {0}) (λ p. length p.0 ≤ length bs)
        → MatchOption (literal_by s b o o') (Unit {0}) (λ p. length p.0 ≤ suc (length bs))
    by st.Bad o h o' h' = tt
    by st.Close o h o' h' = omega arith
    by st.Escape o h None h' = tt
    by st.Escape o h (Some p) h' = omega (arith, h')
    by st.Keep None h o' h' = tt
    by st.Keep (Some p) h o' h' = omega (arith, h)

-- the inside of a literal of UTF-8 is UTF-8
abbrev HasUtf8 : Option (Text × ℕ) → Type 0
HasUtf8 o = MatchOption o (Unit {0}) (λ p. IsUtf8 p.0)

high_step : (x : ℕ) → 128 ≤ x → (step_of false x ≡ st.Keep) × (step_of true x ≡ st.Bad)
high_step x h = (grind (arith, nat_tests), grind (arith, nat_tests))

abbrev with_prefix : Text → Option (Text × ℕ) → Option (Text × ℕ)
with_prefix xs (Some p) = Some (xs ++ p.0, length xs + p.1)
with_prefix xs None = None

high_prefix : (xs rest : Text) → ((k : ℕ) → k < length xs → 128 ≤ get_or xs k 0) → literal false (xs ++ rest) ≡ with_prefix xs (literal false rest)
unfolding literal
high_prefix [] rest h = none (literal false rest)
  where
    none : (o : Option (Text × ℕ)) → o ≡ with_prefix [] o
    none None = refl
    none (Some p) = ap (λ n. Some (p.0, n)) (omega arith)
high_prefix (x ∷ xs) rest h =
    ap (λ s. literal_by s x (literal false (xs ++ rest)) (literal true (xs ++ rest))) (high_step x (h 0 (omega arith))).0
    ∙ ap (with_byte x) (high_prefix xs rest (λ k l. h (suc k) (omega arith))) ∙ one (literal false rest)
  where
    one : (o : Option (Text × ℕ)) → with_byte x (with_prefix xs o) ≡ with_prefix (x ∷ xs) o
    one None = refl
    one (Some p) = ap (λ n. Some (x ∷ xs ++ p.0, n)) (omega arith)

high_escaped : (x : ℕ) (rest : Text) → 128 ≤ x → HasUtf8 (literal true (x ∷ rest))
unfolding literal
high_escaped x rest h = subst (λ s. HasUtf8 (literal_by s x (literal false rest) (literal true rest))) (sym (high_step x h).1) tt

prefix_utf8 : (xs : Text) (o : Option (Text × ℕ)) → IsUtf8 xs → HasUtf8 o → HasUtf8 (with_prefix xs o)
prefix_utf8 xs None u h = tt
prefix_utf8 xs (Some p) u h = IsUtf8-append xs p.0 u h

low_utf8 : (escaped : Bool) (c : ℕ) (rest : Text) → c < 128 → HasUtf8 (literal false rest) → HasUtf8 (literal true rest) → HasUtf8 (literal escaped (c ∷ rest))
unfolding literal
low_utf8 escaped c rest low h h' = by (step_of escaped c) (literal false rest) h (literal true rest) h'
  where
    ascii : IsAscii (c ∷ [])
    ascii zero = low
    ascii (suc i) = omega arith

    by : (s : Step) → (o : Option (Text × ℕ)) → HasUtf8 o → (o' : Option (Text × ℕ)) → HasUtf8 o' → HasUtf8 (literal_by s c o o')
    by st.Bad o h o' h' = tt
    by st.Close o h o' h' = IsUtf8-nil
    by st.Escape o h None h' = tt
    by st.Escape o h (Some p) h' = h'
    by st.Keep None h o' h' = tt
    by st.Keep (Some p) h o' h' = IsUtf8-append (c ∷ []) p.0 (IsUtf8-from_ascii (c ∷ []) ascii) h

char_utf8 : (escaped : Bool) (c : ℕ) (rest : Text) → IsScalar c → HasUtf8 (literal false rest) → HasUtf8 (literal true rest) → HasUtf8 (literal escaped (encode_utf8 c ++ rest))
char_utf8 escaped c rest is h h' = by (nat_lt c 128) refl
  where
    high : 128 ≤ c → (k : ℕ) → k < length (encode_utf8 c) → 128 ≤ get_or (encode_utf8 c) k 0
    high l k less = at_least (nat_lt (get_or (encode_utf8 c) k 0) 128) refl
      where
        at_least : (v : Bool) → nat_lt (get_or (encode_utf8 c) k 0) 128 ≡ v → 128 ≤ get_or (encode_utf8 c) k 0
        at_least true e =
            let low : get_or (encode_utf8 c) k 0 < 128 = grind (arith, nat_tests) in
            let same = inside_one c [] (encode_utf8 c) k (sym (append-nil (encode_utf8 c))) less low in
            absurd (omega arith)
        at_least false e = grind (arith, nat_tests)

    long : 128 ≤ c → (escaped : Bool) → HasUtf8 (literal escaped (encode_utf8 c ++ rest))
    long l false = subst HasUtf8 (sym (high_prefix (encode_utf8 c) rest (high l))) (prefix_utf8 (encode_utf8 c) (literal false rest) (IsUtf8-encode c is) h)
    long l true = first (encode_utf8 c) (high l) (len_utf8_bounds c) (length-encode c)
      where
        first : (xs : Text) → ((k : ℕ) → k < length xs → 128 ≤ get_or xs k 0) → (1 ≤ len_utf8 c) × (len_utf8 c ≤ 4) → length xs ≡ len_utf8 c → HasUtf8 (literal true (xs ++ rest))
        first [] far bounds len = absurd (omega arith)
        first (x ∷ xs) far bounds len = high_escaped x (xs ++ rest) (far 0 (omega arith))

    by : (v : Bool) → nat_lt c 128 ≡ v → HasUtf8 (literal escaped (encode_utf8 c ++ rest))
    by true e = let low : c < 128 = grind (arith, nat_tests) in subst (λ xs. HasUtf8 (literal escaped (xs ++ rest))) (sym (encode_ascii c low)) (low_utf8 escaped c rest low h h')
    by false e = long (grind (arith, nat_tests)) escaped

chars_utf8 : (cs : List ℕ) → scalars cs ≡ true → (escaped : Bool) → HasUtf8 (literal escaped (encode_utf8_all cs))
unfolding literal
chars_utf8 [] is escaped = tt
chars_utf8 (c ∷ cs) is escaped =
    let more = (and_parts (scalar c) (scalars cs) is).1 in
    char_utf8 escaped c (encode_utf8_all cs) ((and_parts (scalar c) (scalars cs) is).0) (chars_utf8 cs more false) (chars_utf8 cs more true)

literal_utf8 : (bs : Text) → IsUtf8 bs → HasUtf8 (literal false bs)
literal_utf8 bs u = subst (λ ts. HasUtf8 (literal false ts)) u.1.1 (chars_utf8 u.0 u.1.0 false)

pub literal_text : (bs : Text) (text : Text) (n : ℕ) → IsUtf8 bs → length bs ≤ MAX_TEXT_BYTES → literal false bs ≡ Some (text, n) → IsText text
literal_text bs text n u short e = record {
  short = let h = subst (λ o. MatchOption o (Unit {0}) (λ p. length p.0 ≤ length bs)) e (literal_short false bs) in omega arith;
  clean = subst (λ o. MatchOption o (Unit {0}) (λ p. is_clean p.0 ≡ true)) e (literal_clean false bs);
  utf8 = is_utf8-from_IsUtf8 text (subst HasUtf8 e (literal_utf8 bs u));
}

-- what follows a quote in a text is a text
pub quote_utf8 : (text : Text) (at : ℕ) → IsUtf8 text → begins 39 (drop at text) ≡ true → is_utf8 (drop 1 (drop at text)) ≡ true
quote_utf8 text at u e = by (nat_lt at (length text)) refl
  where
    by : (v : Bool) → nat_lt at (length text) ≡ v → is_utf8 (drop 1 (drop at text)) ≡ true
    by true f =
        let less : at < length text = grind (arith, nat_tests) in
        let quote : get_or text at 0 ≡ 39 = eqb-true (get_or text at 0) 39 (sym (ap (begins 39) (drop-cons text at 0 less)) ∙ e) in
        let after = IsUtf8-drop text (at + 1) u (IsCharBoundary-after_ascii text at u less (omega arith)) in
        is_utf8-from_IsUtf8 (drop 1 (drop at text)) (subst IsUtf8 (sym (drop-drop 1 at text)) after)
    by false f =
        let past : length text ≤ at = grind (arith, nat_tests) in
        let none = sym (ap (begins 39) (drop_of_length-le text past)) ∙ e in absurd cc
