-- A number and its decimal digits.
use Rattle.std.proofs.Common.{◌≡◌, ℕ, ◌<◌, ◌^◌, List, Result, Ok, sym, ◌∙◌, ap, subst, arith, inl, inr}
use Rattle.std.proofs.lemmas.Bool.{cases_eq}
use Rattle.std.proofs.lemmas.Fmt.{decimal_digit, first_decimal, decimal-digits_value}
use Rattle.std.proofs.lemmas.Str.Parse.{IsNumeralModel, numerals_by_value, tells_digits, parse_plain}
use Rattle.std.specs.Fmt.{decimal}
use Rattle.std.specs.Str.Parse.{AllDigits, ParsesUnsigned, digits_value}
use Rattle.nova_dir.specs.Names.{IsPlain}

own : IsNumeralModel (AllDigits 10) (digits_value 10)
own = numerals_by_value (AllDigits 10) tells_digits

-- a plain text that is read as a number is its digits
pub read_back : {E : Type 0} (text : List ℕ) (n : ℕ) (r : Result ℕ E) → r ≡ Ok n → ParsesUnsigned 64 10 text r → IsPlain text → decimal n ≡ text
read_back {E} text n r is parsed plain =
    let h = parse_plain own {E = E} 64 text (Ok n) (subst (λ (x : Result ℕ E). ParsesUnsigned 64 10 text x) is parsed) plain.0 in
    ap decimal h.1 ∙ decimal-digits_value own text h.0.0 h.0.1 plain.1 h.0.2

-- the digits of a number are plain
pub digits_plain : (text : List ℕ) (n : ℕ) → n < 2 ^ 64 → decimal n ≡ text → IsPlain text
digits_plain text n fits is = subst IsPlain is (elim (cases_eq n 0) [
  | inl zero ↦ subst (λ (k : ℕ). IsPlain (decimal k)) (sym zero) (subst IsPlain (sym (decimal_digit 0 (omega arith))) (λ e. omega (arith, e), λ e. omega arith))
  | inr more ↦ let first = first_decimal n (omega (arith, more)) fits in (λ e. omega (arith, e, first), λ e. absurd (omega (arith, e, first)))
])
