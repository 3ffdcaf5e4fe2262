-- Numbers: what parsing answers, and that one is UTF-8.
use Rattle.std.proofs.Common.{◌≡◌, ℕ, zero, suc, ◌^◌, ◌<◌, ◌≤◌, true, false, ◌&&◌, List, [], ◌∷◌, length, Some, None, Result, Ok, Err, refl, sym, ap, ◌∙◌, arith, rules, nat_le}
use Rattle.std.specs.Char.{is_ascii_digit}
use Rattle.std.specs.List.{list_all}
use Rattle.std.specs.Result.{OkIff}
use Rattle.std.specs.Str.{IsUtf8, IsAscii, all_ascii_digits}
use Rattle.std.specs.Str.Parse.{ParsesUnsigned}
use Rattle.std.proofs.lemmas.Str.{IsUtf8-from_ascii}
use Rattle.std.proofs.lemmas.Str.Parse.{IsNumeralModel, numerals_by_fold, parse_digits}
use Rattle.std.proofs.lemmas.Bool.Decides.{nat_tests}
use Rattle.nova_value.specs.Line.{number_after, is_numeral}
use Rattle.nova_script.specs.Forms.{number_of}

own : IsNumeralModel (λ ds. all_ascii_digits ds ≡ true) (number_after 0)
own = numerals_by_fold _ (search rules) number_after (search rules)

digits : (bs : List ℕ) → is_numeral bs ≡ true → (all_ascii_digits bs ≡ true) × (0 < length bs)
digits [] is = absurd (cc)
digits (b ∷ bs) is = (is, omega arith)

-- ---- what parsing answers

gives : {E : Type 0} (r : Result ℕ E) (Q : Type 0) (v n : ℕ) → OkIff r Q v → r ≡ Ok n → n ≡ v
gives (Ok m) Q v n h ok = let same : m ≡ n = cc in sym same ∙ h.1
gives (Err e) Q v n h ok = absurd (cc)

fails : {E : Type 0} (r : Result ℕ E) (Q : Type 0) (v : ℕ) (e : E) → OkIff r Q v → r ≡ Err e → Q → ⊥
fails (Ok m) Q v e h bad q = absurd (cc)
fails (Err f) Q v e h bad q = h q

pub parsed : {E : Type 0} (bs : List ℕ) (r : Result ℕ E) (n : ℕ) → ParsesUnsigned 64 10 bs r → r ≡ Ok n → is_numeral bs ≡ true → n ≡ number_after 0 bs
parsed bs r n h ok is = gives r _ _ n (parse_digits own 64 bs r h (digits bs is).0) ok

pub not_parsed : {E : Type 0} (bs : List ℕ) (r : Result ℕ E) (e : E) → ParsesUnsigned 64 10 bs r → r ≡ Err e → is_numeral bs ≡ true → (number_after 0 bs < 2 ^ 64 → ⊥)
not_parsed bs r e h bad is below = fails r _ _ e (parse_digits own 64 bs r h (digits bs is).0) bad ((digits bs is).1, below)

pub all_digits : (bs : List ℕ) → list_all is_ascii_digit bs ≡ all_ascii_digits bs
all_digits [] = refl
all_digits (b ∷ bs) = ap (λ t. is_ascii_digit b && t) (all_digits bs)

pub numeral_at : (b : ℕ) (bs w : List ℕ) → w ≡ b ∷ bs → list_all is_ascii_digit w ≡ is_numeral w
numeral_at b bs w is = rw is (all_digits (b ∷ bs))

-- ---- numbers

pub number_is : (w : List ℕ) (n : ℕ) → is_numeral w ≡ true → n ≡ number_after 0 w → n ≤ 2 ^ 62 → Some n ≡ number_of w
number_is w n is value bound =
    let least : nat_le (number_after 0 w) (2 ^ 62) ≡ true = grind (arith, nat_tests) in
    rw (is, least) (ap Some value)

pub no_digits : (w : List ℕ) → is_numeral w ≡ false → None ≡ number_of w
no_digits w is = rw is refl

pub too_large : (w : List ℕ) → is_numeral w ≡ true → (number_after 0 w ≤ 2 ^ 62 → ⊥) → None ≡ number_of w
too_large w is above =
    let more : nat_le (number_after 0 w) (2 ^ 62) ≡ false = grind (arith, nat_tests) in
    rw (is, more) refl

-- ---- what is one is UTF-8

digits_ascii : (ds : List ℕ) → all_ascii_digits ds ≡ true → IsAscii ds
digits_ascii [] h i = omega arith
digits_ascii (d ∷ ds) h zero = grind (arith, nat_tests)
digits_ascii (d ∷ ds) h (suc i) = digits_ascii ds (grind (arith, nat_tests)) i

pub number_is_text : (w : List ℕ) → is_numeral w ≡ true → (IsUtf8 w → ⊥) → ⊥
number_is_text w is isnt = isnt (IsUtf8-from_ascii w (digits_ascii w (digits w is).0))
