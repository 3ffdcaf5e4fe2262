-- Reading a line that spells nothing, and its forms.
use Rattle.std.proofs.Common.{◌≡◌, ◌≢◌, ℕ, ◌+◌, ◌<◌, ◌≤◌, ℤ, Bool, true, false, cond, ◌==◌, nat_lt, List, [], ◌∷◌, length, Some, None, Result, Ok, Err, refl, ap, sym, subst, ◌∙◌, arith}
use Rattle.std.specs.List.{AllByRecursion}
use Rattle.std.specs.Str.{is_utf8}
use Rattle.std.proofs.lemmas.Bool.Decides.{nat_tests}
use Rattle.nova_value.specs.declared.value.Value.{Value}
use Rattle.nova_value.specs.declared.value.Value.TheVariants.{Text}
use Rattle.nova_value.specs.declared.value.Kind.{Kind}
use Rattle.nova_value.specs.declared.value.Kind.TheVariants as kind
use Rattle.nova_value.specs.declared.schema.Entry.TheVariants.{Put, Removal}
use Rattle.nova_value.specs.declared.fault.RowFault.{RowFault}
use Rattle.nova_value.specs.declared.fault.RowFault.TheVariants.{WrongSign, FieldCount, BadNumber, TooLong, NotUtf8}
use Rattle.nova_value.specs.declared.limit.TheConstants.{MAX_TEXT_BYTES}
use Rattle.nova_value.specs.Text.{is_clean, has_newline}
use Rattle.nova_value.specs.Rows.{Shape, kinds, key_kinds}
use Rattle.nova_value.specs.Line.{◌>>=◌, long_at, fields, long_or, value_of, values_of, fields_of, row_of_text}
use Rattle.nova_value.specs.Forms.{SpellsLong, SpellsValue, FieldFails, FirstBad, FieldsFail, LineFails}
use Rattle.nova_value.specs.Forms as form
use Rattle.nova_value.specs.Statements.{FaultsAreForms}
use Rattle.nova_value.proofs.LineFits.{fields_clean}
use Rattle.nova_value.proofs.Forms.{long_spelled, long_read, value_spelled, value_read}

long_fails : (n : ℕ) (f : List ℕ) (fault : RowFault) → value_of kind.Long n f ≡ Err fault → FieldFails n kind.Long f fault
long_fails n f fault e =
    elim (long_at f) as (λ o. long_at f ≡ o → long_or (BadNumber n) o ≡ Err fault → FieldFails n kind.Long f fault) [
      | None ↦ λ is e.
          let same : BadNumber n ≡ fault = cc in
          let none : (z : ℤ) → SpellsLong f z → ⊥ = λ z h. let no : None ≡ Some z = sym is ∙ long_read f z h in cc in
          subst (FieldFails n kind.Long f) same (form.no_number none)
      | Some m ↦ λ is e. cc
    ] refl e

text_fails : (n : ℕ) (f : List ℕ) (fault : RowFault) → value_of kind.Text n f ≡ Err fault → FieldFails n kind.Text f fault
text_fails n f fault e =
    elim (nat_lt MAX_TEXT_BYTES (length f)) as (λ t. nat_lt MAX_TEXT_BYTES (length f) ≡ t → cond t (Err (TooLong n)) (cond (is_utf8 f) (Ok (Text f)) (Err (NotUtf8 n))) ≡ Err fault → FieldFails n kind.Text f fault) [
      | true ↦ λ t e. let same : TooLong n ≡ fault = cc in subst (FieldFails n kind.Text f) same (form.too_long (grind (arith, nat_tests, t)))
      | false ↦ λ t e. elim (is_utf8 f) as (λ u. is_utf8 f ≡ u → cond u (Ok (Text f)) (Err (NotUtf8 n)) ≡ Err fault → FieldFails n kind.Text f fault) [
        | true ↦ λ u e. cc
        | false ↦ λ u e. let same : NotUtf8 n ≡ fault = cc in subst (FieldFails n kind.Text f) same (form.no_text (grind (arith, nat_tests, t)) u)
      ] refl e
    ] refl e

-- a field that is refused fails as its form says
value_fails : (k : Kind) (n : ℕ) (f : List ℕ) (fault : RowFault) → value_of k n f ≡ Err fault → FieldFails n k f fault
value_fails kind.Long n f fault e = long_fails n f fault e
value_fails kind.Text n f fault e = text_fails n f fault e

values_fail : (n : ℕ) (ks : List Kind) (fs : List (List ℕ)) (fault : RowFault) → length fs ≡ length ks → AllByRecursion (λ f. is_clean f ≡ true) fs → values_of n ks fs ≡ Err fault → FirstBad n ks fs fault
unfolding values_of
values_fail n [] [] fault count clean e = cc
values_fail n [] (f ∷ fs) fault count clean e = absurd (omega (arith, count))
values_fail n (k ∷ ks) [] fault count clean e = absurd (omega (arith, count))
values_fail n (k ∷ ks) (f ∷ fs) fault count clean e = by_value (λ is. values_fail (n + 1) ks fs fault (omega (arith, count)) clean.1 is) (value_of k n f) refl e
  where
    by_rest : (v : Value) → ((values_of (n + 1) ks fs ≡ Err fault) → FirstBad (n + 1) ks fs fault) → value_of k n f ≡ Ok v → (r : Result (List Value) RowFault) → values_of (n + 1) ks fs ≡ r → (r >>= λ vs. Ok (v ∷ vs)) ≡ Err fault → FirstBad n (k ∷ ks) (f ∷ fs) fault
    by_rest v go is (Ok vs) rest e = cc
    by_rest v go is (Err g) rest e = let same : g ≡ fault = cc in form.later (value_spelled k n f v clean.0 is) (go (rest ∙ ap (λ (h : RowFault). Err h) same))

    by_value : ((values_of (n + 1) ks fs ≡ Err fault) → FirstBad (n + 1) ks fs fault) → (r : Result Value RowFault) → value_of k n f ≡ r → (r >>= λ v. values_of (n + 1) ks fs >>= λ vs. Ok (v ∷ vs)) ≡ Err fault → FirstBad n (k ∷ ks) (f ∷ fs) fault
    by_value go (Ok v) is e = by_rest v go is (values_of (n + 1) ks fs) refl e
    by_value go (Err g) is e = let same : g ≡ fault = cc in form.here (value_fails k n f fault (is ∙ ap (λ (h : RowFault). Err h) same))

fields_fail : (ks : List Kind) (bs : List ℕ) (fault : RowFault) → has_newline bs ≡ false → fields_of ks bs ≡ Err fault → FieldsFail ks bs fault
unfolding fields_of
fields_fail ks bs fault line e =
    elim (length (fields bs) == length ks) as (λ t. (length (fields bs) == length ks) ≡ t → cond t (values_of 0 ks (fields bs)) (Err FieldCount) ≡ Err fault → FieldsFail ks bs fault) [
      | true ↦ λ t e. let count : length (fields bs) ≡ length ks = grind (arith, nat_tests, t) in form.bad count (values_fail 0 ks (fields bs) fault count (fields_clean bs line) e)
      | false ↦ λ t e. let same : FieldCount ≡ fault = cc in subst (FieldsFail ks bs) same (form.count (λ count. grind (arith, nat_tests, t, count)))
    ] refl e

bound_fault : {A B : Type 0} (r : Result A RowFault) (f : A → B) (fault : RowFault) → (r >>= λ x. Ok (f x)) ≡ Err fault → r ≡ Err fault
bound_fault (Ok x) f fault e = cc
bound_fault (Err g) f fault e = let same : g ≡ fault = cc in λ i. Err (same i)

line_fails : (s : Shape) (line : List ℕ) (fault : RowFault) → has_newline line ≡ false → row_of_text line s ≡ Err fault → LineFails s line fault
unfolding row_of_text
line_fails s [] fault h e = let same : WrongSign ≡ fault = cc in subst (LineFails s []) same form.empty
line_fails s (b ∷ bs) fault h e =
    let rest : has_newline bs ≡ false = grind (arith, nat_tests) in
    elim (b == 43) as (λ t. (b == 43) ≡ t → cond t (fields_of (kinds s.columns) bs >>= λ vs. Ok (Put vs)) (cond (b == 45) (fields_of (key_kinds s) bs >>= λ vs. Ok (Removal vs)) (Err WrongSign)) ≡ Err fault → LineFails s (b ∷ bs) fault) [
      | true ↦ λ sign e. let plus : b ≡ 43 = grind (arith, nat_tests, sign) in subst (λ (c : ℕ). LineFails s (c ∷ bs) fault) (sym plus) (form.put (fields_fail (kinds s.columns) bs fault rest (bound_fault (fields_of (kinds s.columns) bs) Put fault e)))
      | false ↦ λ sign e. elim (b == 45) as (λ t. (b == 45) ≡ t → cond t (fields_of (key_kinds s) bs >>= λ vs. Ok (Removal vs)) (Err WrongSign) ≡ Err fault → LineFails s (b ∷ bs) fault) [
        | true ↦ λ dash e. let minus : b ≡ 45 = grind (arith, nat_tests, dash) in subst (λ (c : ℕ). LineFails s (c ∷ bs) fault) (sym minus) (form.removal (fields_fail (key_kinds s) bs fault rest (bound_fault (fields_of (key_kinds s) bs) Removal fault e)))
        | false ↦ λ dash e. let same : WrongSign ≡ fault = cc in subst (LineFails s (b ∷ bs)) same (form.no_sign (λ is. grind (arith, nat_tests, sign, is)) (λ is. grind (arith, nat_tests, dash, is)))
      ] refl e
    ] refl e

no_number : (n : ℕ) (f : List ℕ) → ((z : ℤ) → SpellsLong f z → ⊥) → value_of kind.Long n f ≡ Err (BadNumber n)
no_number n f none =
    elim (long_at f) as (λ o. long_at f ≡ o → long_or (BadNumber n) o ≡ Err (BadNumber n)) [
      | None ↦ λ is. refl
      | Some z ↦ λ is. absurd (none z (long_spelled f z is))
    ] refl

too_long : (n : ℕ) (f : List ℕ) → MAX_TEXT_BYTES < length f → value_of kind.Text n f ≡ Err (TooLong n)
too_long n f long = grind (arith, nat_tests, long)

no_text : (n : ℕ) (f : List ℕ) → length f ≤ MAX_TEXT_BYTES → is_utf8 f ≡ false → value_of kind.Text n f ≡ Err (NotUtf8 n)
no_text n f short none = grind (arith, nat_tests, short, none)

-- a field that fails is refused
value_failed : (n : ℕ) (k : Kind) (f : List ℕ) (fault : RowFault) → FieldFails n k f fault → value_of k n f ≡ Err fault
value_failed n k f fault h = elim h as (λ k f fault _. value_of k n f ≡ Err fault) [
  | form.no_number {f = f} none ↦ no_number n f none
  | form.too_long {f = f} long ↦ too_long n f long
  | form.no_text {f = f} short none ↦ no_text n f short none
]

here_failed : (n : ℕ) (k : Kind) (ks : List Kind) (f : List ℕ) (fs : List (List ℕ)) (fault : RowFault) → FieldFails n k f fault → values_of n (k ∷ ks) (f ∷ fs) ≡ Err fault
unfolding values_of
here_failed n k ks f fs fault h = ap (λ (r : Result Value RowFault). r >>= λ v. values_of (n + 1) ks fs >>= λ vs. Ok (v ∷ vs)) (value_failed n k f fault h)

later_failed : (n : ℕ) (k : Kind) (ks : List Kind) (f : List ℕ) (fs : List (List ℕ)) (v : Value) (fault : RowFault) → SpellsValue k f v → values_of (n + 1) ks fs ≡ Err fault → values_of n (k ∷ ks) (f ∷ fs) ≡ Err fault
unfolding values_of
later_failed n k ks f fs v fault is rest =
    ap (λ (r : Result Value RowFault). r >>= λ v. values_of (n + 1) ks fs >>= λ vs. Ok (v ∷ vs)) (value_read n k f v is)
    ∙ ap (λ (r : Result (List Value) RowFault). r >>= λ vs. Ok (v ∷ vs)) rest

values_failed : {n : ℕ} {ks : List Kind} {fs : List (List ℕ)} {fault : RowFault} → FirstBad n ks fs fault → values_of n ks fs ≡ Err fault
values_failed (form.here {n = n} {k = k} {ks = ks} {f = f} {fs = fs} {fault = fault} h) = here_failed n k ks f fs fault h
values_failed (form.later {n = n} {k = k} {ks = ks} {f = f} {fs = fs} {v = v} {fault = fault} is rest) = later_failed n k ks f fs v fault is (values_failed rest)

fields_counted : (ks : List Kind) (bs : List ℕ) → length (fields bs) ≢ length ks → fields_of ks bs ≡ Err FieldCount
unfolding fields_of
fields_counted ks bs other =
    let apart : (length (fields bs) == length ks) ≡ false = grind (arith, nat_tests, other) in
    ap (λ (b : Bool). cond b (values_of 0 ks (fields bs)) (Err FieldCount)) apart

fields_failed : (ks : List Kind) (bs : List ℕ) (fault : RowFault) → FieldsFail ks bs fault → fields_of ks bs ≡ Err fault
unfolding fields_of
fields_failed ks bs fault h = elim h as (λ fault _. fields_of ks bs ≡ Err fault) [
  | form.count other ↦ fields_counted ks bs other
  | form.bad {fault = fault} count first ↦
      let same : (length (fields bs) == length ks) ≡ true = grind (arith, nat_tests, count) in
      ap (λ (b : Bool). cond b (values_of 0 ks (fields bs)) (Err FieldCount)) same ∙ values_failed first
]

no_sign : (s : Shape) (b : ℕ) (bs : List ℕ) → b ≢ 43 → b ≢ 45 → row_of_text (b ∷ bs) s ≡ Err WrongSign
unfolding row_of_text
no_sign s b bs plus minus =
    let p : (b == 43) ≡ false = grind (arith, nat_tests, plus) in
    let m : (b == 45) ≡ false = grind (arith, nat_tests, minus) in
    ap (λ (t : Bool). cond t (fields_of (kinds s.columns) bs >>= λ vs. Ok (Put vs)) (cond (b == 45) (fields_of (key_kinds s) bs >>= λ vs. Ok (Removal vs)) (Err WrongSign))) p
    ∙ ap (λ (t : Bool). cond t (fields_of (key_kinds s) bs >>= λ vs. Ok (Removal vs)) (Err WrongSign)) m

line_failed : (s : Shape) (line : List ℕ) (fault : RowFault) → LineFails s line fault → row_of_text line s ≡ Err fault
unfolding row_of_text
line_failed s line fault h = elim h as (λ line fault _. row_of_text line s ≡ Err fault) [
  | form.empty ↦ refl
  | form.no_sign {b = b} {bs = bs} plus minus ↦ no_sign s b bs plus minus
  | form.put {bs = bs} {fault = fault} is ↦ ap (λ (r : Result (List Value) RowFault). r >>= λ vs. Ok (Put vs)) (fields_failed (kinds s.columns) bs fault is)
  | form.removal {bs = bs} {fault = fault} is ↦ ap (λ (r : Result (List Value) RowFault). r >>= λ vs. Ok (Removal vs)) (fields_failed (key_kinds s) bs fault is)
]

-- each other line fails exactly as the forms say
pub faults_are_forms : FaultsAreForms
faults_are_forms s line fault h = (line_fails s line fault h, line_failed s line fault)
