-- What is printed of a row or a key is read as it again.
use Rattle.std.proofs.Common.{◌≡◌, ℕ, suc, ◌+◌, ◌^◌, ◌<◌, ℤ, pos, negsuc, Bool, true, false, cond, not, ◌&&◌, ◌||◌, ◌==◌, nat_lt, List, [], ◌∷◌, ◌++◌, map, length, Some, None, Result, Ok, Err, refl, ap, ◌∙◌, arith, rules, neg_ℤ}
use Rattle.std.specs.Fmt.{signed_decimal, decimal}
use Rattle.std.specs.Str.{all_ascii_digits}
use Rattle.std.proofs.lemmas.List.{append-nil, length-map}
use Rattle.std.proofs.lemmas.Bool.{and_from, or_from}
use Rattle.std.proofs.lemmas.Bool.Decides.{nat_tests}
use Rattle.std.proofs.lemmas.Str.Parse.{IsNumeralModel, numerals_by_fold}
use Rattle.std.proofs.lemmas.Fmt.{digits_decimal, digits_value-decimal, decimal_is_IsNumeral}
use Rattle.nova_value.specs.declared.value.Value.{Value}
use Rattle.nova_value.specs.declared.value.Value.TheVariants.{Long, Text}
use Rattle.nova_value.specs.declared.value.Kind.{Kind}
use Rattle.nova_value.specs.declared.value.Kind.TheVariants as kind
use Rattle.nova_value.specs.declared.schema.Entry.TheVariants.{Put, Removal}
use Rattle.nova_value.specs.declared.fault.RowFault.{RowFault}
use Rattle.nova_value.specs.declared.fault.RowFault.TheVariants.{FieldCount, BadNumber}
use Rattle.nova_value.specs.Text.{is_clean, has_newline}
use Rattle.nova_value.specs.Rows.{Shape, IsLong, IsOf, FitKinds, kinds, key_kinds}
use Rattle.nova_value.specs.Line.{◌>>=◌, number_after, long_at, fields, long_or, value_of, values_of, fields_of, row_of_text}
use Rattle.nova_value.specs.RowLine.{value_text, tail_text, joined}
use Rattle.nova_value.specs.Statements.{RowsReadBack, RemovalsReadBack}
use Rattle.nova_value.proofs.Fit.{length_kinds}

-- no tab stands in the bytes
abbrev pub no_tab : List ℕ → Bool
no_tab [] = true
no_tab (b ∷ bs) = not (b == 9) && no_tab bs

pub fields-join : (a bs : List ℕ) → no_tab a ≡ true → fields (a ++ (9 ∷ bs)) ≡ a ∷ fields bs
fields-join [] bs h = refl
fields-join (b ∷ a) bs h = grind (arith, nat_tests, fields-join a bs)

pub fields-only : (a : List ℕ) → no_tab a ≡ true → fields a ≡ a ∷ []
fields-only [] h = refl
fields-only (b ∷ a) h = grind (arith, nat_tests, fields-only a)

pub no_tab-digits : (ds : List ℕ) → all_ascii_digits ds ≡ true → no_tab ds ≡ true
no_tab-digits [] h = refl
no_tab-digits (d ∷ ds) h = grind (arith, nat_tests, no_tab-digits ds)

pub no_tab-clean : (bs : List ℕ) → is_clean bs ≡ true → no_tab bs ≡ true
no_tab-clean [] h = refl
no_tab-clean (b ∷ bs) h = grind (arith, nat_tests, no_tab-clean bs)

own : IsNumeralModel (λ ds. all_ascii_digits ds ≡ true) (number_after 0)
own = numerals_by_fold _ (search rules) number_after (search rules)

value_no_tab : (k : Kind) (v : Value) → IsOf k v → no_tab (value_text v) ≡ true
value_no_tab kind.Long (Long (pos n)) h = no_tab-digits (decimal n) (digits_decimal own n (omega arith))
value_no_tab kind.Long (Long (negsuc n)) h = no_tab-digits (decimal (suc n)) (digits_decimal own (suc n) (omega arith))
value_no_tab kind.Text (Text bs) h = no_tab-clean bs h.clean
value_no_tab kind.Long (Text bs) h = absurd h
value_no_tab kind.Text (Long n) h = absurd h

fields-joined : (k : Kind) (v : Value) (ks : List Kind) (vs : List Value) → IsOf k v → FitKinds ks vs → fields (value_text v ++ tail_text vs) ≡ value_text v ∷ map value_text vs
fields-joined k v [] [] one rest = ap fields (append-nil (value_text v)) ∙ fields-only (value_text v) (value_no_tab k v one)
fields-joined k v [] (w ∷ ws) one rest = absurd rest
fields-joined k v (l ∷ ls) [] one rest = absurd rest
fields-joined k v (l ∷ ls) (w ∷ ws) one rest =
    fields-join (value_text v) (value_text w ++ tail_text ws) (value_no_tab k v one)
    ∙ ap (λ (fs : List (List ℕ)). value_text v ∷ fs) (fields-joined l w ls ws rest.0 rest.1)

-- what `long_at` answers for a numeral
pub plain_at : (ds : List ℕ) (n : ℕ) → all_ascii_digits ds ≡ true → 0 < length ds → number_after 0 ds ≡ n → n < 2 ^ 63 → long_at ds ≡ Some (pos n)
plain_at [] n digits some is small = absurd (omega arith)
plain_at (d ∷ ds) n digits some is small = grind (arith, nat_tests)

some_digit : (n : ℕ) → n < 2 ^ 64 → 0 < length (decimal n)
some_digit n h = grind (arith, (decimal_is_IsNumeral n h).0)

minus_at : (ds : List ℕ) (n : ℕ) → all_ascii_digits ds ≡ true → 0 < length ds → number_after 0 ds ≡ suc n → n < 2 ^ 63 → long_at (45 ∷ ds) ≡ Some (negsuc n)
minus_at [] n digits some is small = absurd (omega arith)
minus_at (d ∷ ds) n digits some is small =
    let m = number_after 0 (d ∷ ds) in
    let fits : nat_lt m (2 ^ 63 + 1) ≡ true = grind (arith, nat_tests, is) in
    ap (λ (b : Bool). cond b (Some (neg_ℤ (pos m))) None) (and_from (all_ascii_digits (d ∷ ds)) (nat_lt m (2 ^ 63 + 1)) digits fits) ∙ ap (λ (j : ℕ). Some (neg_ℤ (pos j))) is

long_again : (n : ℤ) → IsLong n → long_at (signed_decimal n) ≡ Some n
long_again (pos n) h = plain_at (decimal n) n (digits_decimal own n (omega arith)) (some_digit n (omega arith)) (digits_value-decimal own n (omega arith)) h
long_again (negsuc n) h = minus_at (decimal (suc n)) n (digits_decimal own (suc n) (omega arith)) (some_digit (suc n) (omega arith)) (digits_value-decimal own (suc n) (omega arith)) h

value_again : (k : Kind) (i : ℕ) (v : Value) → IsOf k v → value_of k i (value_text v) ≡ Ok v
value_again kind.Long i (Long n) h = ap (long_or (BadNumber i)) (long_again n h)
value_again kind.Text i (Text bs) h = let utf8 = h.utf8 in let short = h.short in grind (arith, nat_tests, utf8, short)
value_again kind.Long i (Text bs) h = absurd h
value_again kind.Text i (Long n) h = absurd h

values_again : (i : ℕ) (ks : List Kind) (vs : List Value) → FitKinds ks vs → values_of i ks (map value_text vs) ≡ Ok vs
unfolding values_of
values_again i [] [] h = refl
values_again i [] (v ∷ vs) h = absurd h
values_again i (k ∷ ks) [] h = absurd h
values_again i (k ∷ ks) (v ∷ vs) h =
    ap (λ (r : Result Value RowFault). r >>= λ v. values_of (i + 1) ks (map value_text vs) >>= λ ws. Ok (v ∷ ws)) (value_again k i v h.0)
    ∙ ap (λ (r : Result (List Value) RowFault). r >>= λ ws. Ok (v ∷ ws)) (values_again (i + 1) ks vs h.1)

same_length : (ks : List Kind) (vs : List Value) → FitKinds ks vs → length (map value_text vs) ≡ length ks
same_length [] [] h = refl
same_length [] (v ∷ vs) h = absurd h
same_length (k ∷ ks) [] h = absurd h
same_length (k ∷ ks) (v ∷ vs) h = ap suc (same_length ks vs h.1)

length_text : (ks : List Kind) (vs : List Value) → FitKinds ks vs → (length (map value_text vs) == length ks) ≡ true
length_text ks vs h = let e = same_length ks vs h in grind (arith, nat_tests, e)

fields_again : (ks : List Kind) (vs : List Value) → 0 < length ks → FitKinds ks vs → fields_of ks (joined vs) ≡ Ok vs
unfolding fields_of
fields_again [] vs some h = absurd (omega arith)
fields_again (k ∷ ks) [] some h = absurd h
fields_again (k ∷ ks) (v ∷ vs) some h =
    ap (λ (fs : List (List ℕ)). cond (length fs == length (k ∷ ks)) (values_of 0 (k ∷ ks) fs) (Err FieldCount)) (fields-joined k v ks vs h.0 h.1)
    ∙ ap (λ (b : Bool). cond b (values_of 0 (k ∷ ks) (map value_text (v ∷ vs))) (Err FieldCount)) (length_text (k ∷ ks) (v ∷ vs) h)
    ∙ values_again 0 (k ∷ ks) (v ∷ vs) h

-- no newline stands in the fields
newline-append : (a bs : List ℕ) → has_newline (a ++ bs) ≡ (has_newline a || has_newline bs)
newline-append [] bs = refl
newline-append (b ∷ a) bs = elim (b == 10) as (λ t. (t || has_newline (a ++ bs)) ≡ ((t || has_newline a) || has_newline bs)) [ true ↦ refl | false ↦ newline-append a bs ]

newline-digits : (ds : List ℕ) → all_ascii_digits ds ≡ true → has_newline ds ≡ false
newline-digits [] h = refl
newline-digits (d ∷ ds) h = grind (arith, nat_tests, newline-digits ds)

newline-clean : (bs : List ℕ) → is_clean bs ≡ true → has_newline bs ≡ false
newline-clean [] h = refl
newline-clean (b ∷ bs) h = grind (arith, nat_tests, newline-clean bs)

newline-value : (k : Kind) (v : Value) → IsOf k v → has_newline (value_text v) ≡ false
newline-value kind.Long (Long (pos n)) h = newline-digits (decimal n) (digits_decimal own n (omega arith))
newline-value kind.Long (Long (negsuc n)) h = newline-digits (decimal (suc n)) (digits_decimal own (suc n) (omega arith))
newline-value kind.Text (Text bs) h = newline-clean bs h.clean
newline-value kind.Long (Text bs) h = absurd h
newline-value kind.Text (Long n) h = absurd h

newline-tail : (ks : List Kind) (vs : List Value) → FitKinds ks vs → has_newline (tail_text vs) ≡ false
newline-tail [] [] h = refl
newline-tail [] (v ∷ vs) h = absurd h
newline-tail (k ∷ ks) [] h = absurd h
newline-tail (k ∷ ks) (v ∷ vs) h = newline-append (value_text v) (tail_text vs) ∙ or_from _ _ (newline-value k v h.0) (newline-tail ks vs h.1)

newline-joined : (ks : List Kind) (vs : List Value) → FitKinds ks vs → has_newline (joined vs) ≡ false
newline-joined [] [] h = refl
newline-joined [] (v ∷ vs) h = absurd h
newline-joined (k ∷ ks) [] h = absurd h
newline-joined (k ∷ ks) (v ∷ vs) h = newline-append (value_text v) (tail_text vs) ∙ or_from _ _ (newline-value k v h.0) (newline-tail ks vs h.1)

pub length-key_kinds : (s : Shape) → length (key_kinds s) ≡ length s.key
length-key_kinds s = simp length-map

pub rows_read_back : RowsReadBack
unfolding row_of_text
rows_read_back s row is fit =
    let some : 0 < length (kinds s.columns) = omega (arith, is.some_column, length_kinds s.columns) in
    record {
      text = 43 ∷ joined row;
      is_line = refl;
      one_line = newline-joined (kinds s.columns) row fit;
      is_read = ap (λ (r : Result (List Value) RowFault). r >>= λ vs. Ok (Put vs)) (fields_again (kinds s.columns) row some fit);
    }

pub removals_read_back : RemovalsReadBack
unfolding row_of_text
removals_read_back s key is fit =
    let some : 0 < length (key_kinds s) = omega (arith, is.some_key, length-key_kinds s) in
    record {
      text = 45 ∷ joined key;
      is_line = refl;
      one_line = newline-joined (key_kinds s) key fit;
      is_read = ap (λ (r : Result (List Value) RowFault). r >>= λ vs. Ok (Removal vs)) (fields_again (key_kinds s) key some fit);
    }
