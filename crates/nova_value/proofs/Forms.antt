-- Reading a line and its forms.
use Rattle.std.proofs.Common.{◌≡◌, ℕ, suc, ◌+◌, ◌<◌, ◌≤◌, ◌^◌, ℤ, pos, Bool, true, false, cond, ◌&&◌, ◌==◌, nat_lt, List, [], ◌∷◌, ◌++◌, length, Some, None, Result, Ok, Err, refl, ap, sym, subst, ◌∙◌, arith, neg_ℤ, ◌⊎◌, inl, inr}
use Rattle.std.specs.List.{AllByRecursion}
use Rattle.std.specs.Str.{all_ascii_digits, is_utf8}
use Rattle.std.proofs.lemmas.Bool.{and_parts, and_from}
use Rattle.std.proofs.lemmas.Bool.Decides.{nat_tests}
use Rattle.nova_value.specs.declared.value.Value.{Value}
use Rattle.nova_value.specs.declared.value.Value.TheVariants.{Long, Text}
use Rattle.nova_value.specs.declared.value.Kind.{Kind}
use Rattle.nova_value.specs.declared.value.Kind.TheVariants as kind
use Rattle.nova_value.specs.declared.schema.Entry.{Entry}
use Rattle.nova_value.specs.declared.schema.Entry.TheVariants.{Put, Removal}
use Rattle.nova_value.specs.declared.fault.RowFault.{RowFault}
use Rattle.nova_value.specs.declared.fault.RowFault.TheVariants.{WrongSign, FieldCount, BadNumber, TooLong, NotUtf8}
use Rattle.nova_value.specs.declared.limit.TheConstants.{MAX_TEXT_BYTES}
use Rattle.nova_value.specs.Text.{is_clean, has_newline, IsText}
use Rattle.nova_value.specs.Rows.{Shape, IsShape, kinds, key_kinds}
use Rattle.nova_value.specs.Lists.{onto_first}
use Rattle.nova_value.specs.Line.{◌>>=◌, number_after, is_numeral, long_at, fields, long_or, value_of, values_of, fields_of, row_of_text}
use Rattle.nova_value.specs.Forms.{SpellsLong, SpellsValue, SpellsValues, Spells}
use Rattle.nova_value.specs.Forms as form
use Rattle.nova_value.specs.Statements.{LinesAreForms}
use Rattle.nova_value.proofs.Fit.{length_kinds}
use Rattle.nova_value.proofs.LineFits.{bind_ok, chosen, fields_clean}
use Rattle.nova_value.proofs.ReadBack.{no_tab, fields-join, fields-only, no_tab-digits, no_tab-clean, plain_at, length-key_kinds}
use Rattle.nova_value.proofs.Values.{some_field}

-- a number that is read is spelled
pub long_spelled : (f : List ℕ) (n : ℤ) → long_at f ≡ Some n → SpellsLong f n
long_spelled [] n e = cc
long_spelled (b ∷ bs) n e =
    elim (b == 45) as (λ t. (b == 45) ≡ t → cond t (cond (is_numeral bs && nat_lt (number_after 0 bs) (2 ^ 63 + 1)) (Some (neg_ℤ (pos (number_after 0 bs)))) None) (cond (is_numeral (b ∷ bs) && nat_lt (number_after 0 (b ∷ bs)) (2 ^ 63)) (Some (pos (number_after 0 (b ∷ bs)))) None) ≡ Some n → SpellsLong (b ∷ bs) n) [
      | true ↦ λ is e.
          let p = chosen _ _ n e in
          let q = and_parts (is_numeral bs) (nat_lt (number_after 0 bs) (2 ^ 63 + 1)) p.0 in
          let dash : b ≡ 45 = grind (arith, nat_tests, is) in
          subst (λ (c : ℕ). SpellsLong (c ∷ bs) n) (sym dash) (subst (SpellsLong (45 ∷ bs)) p.1 (form.minus q.0 (grind (arith, nat_tests, q.1))))
      | false ↦ λ is e.
          let p = chosen _ _ n e in
          let q = and_parts (is_numeral (b ∷ bs)) (nat_lt (number_after 0 (b ∷ bs)) (2 ^ 63)) p.0 in
          subst (SpellsLong (b ∷ bs)) p.1 (form.plain q.0 (grind (arith, nat_tests, q.1)))
    ] refl e

text_spelled : (n : ℕ) (f : List ℕ) (v : Value) → is_clean f ≡ true → value_of kind.Text n f ≡ Ok v → SpellsValue kind.Text f v
text_spelled n f v clean e =
    elim (nat_lt MAX_TEXT_BYTES (length f)) as (λ t. nat_lt MAX_TEXT_BYTES (length f) ≡ t → cond t (Err (TooLong n)) (cond (is_utf8 f) (Ok (Text f)) (Err (NotUtf8 n))) ≡ Ok v → SpellsValue kind.Text f v) [
      | true ↦ λ t e. cc
      | false ↦ λ t e. elim (is_utf8 f) as (λ u. is_utf8 f ≡ u → cond u (Ok (Text f)) (Err (NotUtf8 n)) ≡ Ok v → SpellsValue kind.Text f v) [
        | true ↦ λ u e. let same : Text f ≡ v = cc in subst (SpellsValue kind.Text f) same (form.text (record { short = grind (arith, nat_tests, t); clean = clean; utf8 = u }))
        | false ↦ λ u e. cc
      ] refl e
    ] refl e

-- a value that is read is spelled
pub value_spelled : (k : Kind) (n : ℕ) (f : List ℕ) (v : Value) → is_clean f ≡ true → value_of k n f ≡ Ok v → SpellsValue k f v
value_spelled kind.Long n f v clean e =
    elim (long_at f) as (λ o. long_at f ≡ o → long_or (BadNumber n) o ≡ Ok v → SpellsValue kind.Long f v) [
      | None ↦ λ is e. cc
      | Some m ↦ λ is e. let same : Long m ≡ v = cc in subst (SpellsValue kind.Long f) same (form.long (long_spelled f m is))
    ] refl e
value_spelled kind.Text n f v clean e = text_spelled n f v clean e

-- a text is one field, or a first field, a tab and further fields
pub record FirstField (bs : List ℕ) : Type 0 where
  pub field : List ℕ
  pub more : List ℕ
  pub is : bs ≡ field ++ 9 ∷ more
  pub fields_are : fields bs ≡ field ∷ fields more

pub first_field : (bs : List ℕ) → (fields bs ≡ bs ∷ []) ⊎ FirstField bs
first_field [] = inl refl
first_field (b ∷ bs) = by_tab (b == 9) refl (first_field bs)
  where
    by_tab : (t : Bool) → (b == 9) ≡ t → (fields bs ≡ bs ∷ []) ⊎ FirstField bs → (fields (b ∷ bs) ≡ (b ∷ bs) ∷ []) ⊎ FirstField (b ∷ bs)
    by_tab true is rest =
        let tab : b ≡ 9 = grind (arith, nat_tests, is) in
        inr (record { field = []; more = bs; is = ap (λ (c : ℕ). c ∷ bs) tab; fields_are = ap (λ (t : Bool). cond t ([] ∷ fields bs) (onto_first b (fields bs))) is })
    by_tab false is (inl one) = inl (ap (λ (t : Bool). cond t ([] ∷ fields bs) (onto_first b (fields bs))) is ∙ ap (onto_first b) one)
    by_tab false is (inr first) = inr (record {
      field = b ∷ first.field;
      more = first.more;
      is = ap (λ (cs : List ℕ). b ∷ cs) first.is;
      fields_are = ap (λ (t : Bool). cond t ([] ∷ fields bs) (onto_first b (fields bs))) is ∙ ap (onto_first b) first.fields_are;
    })

newline_after : (a bs : List ℕ) → has_newline (a ++ 9 ∷ bs) ≡ false → has_newline bs ≡ false
newline_after [] bs h = h
newline_after (b ∷ a) bs h = newline_after a bs (grind (arith, nat_tests))

-- what the reading of a first field and of those after it says
pub record Read (i : ℕ) (k : Kind) (ks : List Kind) (f : List ℕ) (fs : List (List ℕ)) (vs : List Value) : Type 0 where
  pub value : Value
  pub values : List Value
  pub read : value_of k i f ≡ Ok value
  pub rest : values_of (i + 1) ks fs ≡ Ok values
  pub all : value ∷ values ≡ vs

read_first : (i : ℕ) (k : Kind) (ks : List Kind) (f : List ℕ) (fs : List (List ℕ)) (vs : List Value) → values_of i (k ∷ ks) (f ∷ fs) ≡ Ok vs → Read i k ks f fs vs
unfolding values_of
read_first i k ks f fs vs e =
    let p = bind_ok (value_of k i f) (λ v. values_of (i + 1) ks fs >>= λ ws. Ok (v ∷ ws)) vs e in
    let q = bind_ok (values_of (i + 1) ks fs) (λ ws. Ok (p.0 ∷ ws)) vs p.2 in
    let all : p.0 ∷ q.0 ≡ vs = let last = q.2 in cc in
    record { value = p.0; values = q.0; read = p.1; rest = q.1; all = all }

no_values : (i : ℕ) (fs : List (List ℕ)) (vs : List Value) → values_of i [] fs ≡ Ok vs → (vs ≡ []) × (length fs ≡ 0)
unfolding values_of
no_values i [] vs e = let none : vs ≡ [] = cc in (none, refl)
no_values i (f ∷ fs) vs e = cc

too_few : (i : ℕ) (k : Kind) (ks : List Kind) (vs : List Value) → values_of i (k ∷ ks) [] ≡ Ok vs → ⊥
unfolding values_of
too_few i k ks vs e = cc

clean_first : (text f : List ℕ) (fs : List (List ℕ)) → has_newline text ≡ false → fields text ≡ f ∷ fs → is_clean f ≡ true
clean_first text f fs line is = let P : List (List ℕ) → Type 0 = AllByRecursion (λ f. is_clean f ≡ true) in (subst P is (fields_clean text line)).0

module _ (i : ℕ) (k : Kind) (text : List ℕ) (vs : List Value) (line : has_newline text ≡ false) where
  last_spelled : values_of i (k ∷ []) (fields text) ≡ Ok vs → (fields text ≡ text ∷ []) ⊎ FirstField text → SpellsValues (k ∷ []) text vs
  last_spelled e (inl one) =
      let r = read_first i k [] text [] vs (sym (ap (values_of i (k ∷ [])) one) ∙ e) in
      let none = no_values (i + 1) [] r.values r.rest in
      let all : r.value ∷ [] ≡ vs = ap (λ (ws : List Value). r.value ∷ ws) (sym none.0) ∙ r.all in
      subst (SpellsValues (k ∷ []) text) all (form.last (value_spelled k i text r.value (clean_first text text [] line one) r.read))
  last_spelled e (inr first) =
      let r = read_first i k [] first.field (fields first.more) vs (sym (ap (values_of i (k ∷ [])) first.fields_are) ∙ e) in
      let none = no_values (i + 1) (fields first.more) r.values r.rest in
      absurd (omega (arith, none.1, some_field first.more))

  next_spelled : (l : Kind) (ks : List Kind) → ((more : List ℕ) (ws : List Value) → has_newline more ≡ false → values_of (i + 1) (l ∷ ks) (fields more) ≡ Ok ws → SpellsValues (l ∷ ks) more ws)
      → values_of i (k ∷ l ∷ ks) (fields text) ≡ Ok vs → (fields text ≡ text ∷ []) ⊎ FirstField text → SpellsValues (k ∷ l ∷ ks) text vs
  next_spelled l ks later e (inl one) =
      let r = read_first i k (l ∷ ks) text [] vs (sym (ap (values_of i (k ∷ l ∷ ks)) one) ∙ e) in
      absurd (too_few (i + 1) l ks r.values r.rest)
  next_spelled l ks later e (inr first) =
      let r = read_first i k (l ∷ ks) first.field (fields first.more) vs (sym (ap (values_of i (k ∷ l ∷ ks)) first.fields_are) ∙ e) in
      let rest = later first.more r.values (newline_after first.field first.more (sym (ap has_newline first.is) ∙ line)) r.rest in
      let value = value_spelled k i first.field r.value (clean_first text first.field (fields first.more) line first.fields_are) r.read in
      let whole : SpellsValues (k ∷ l ∷ ks) (first.field ++ 9 ∷ first.more) (r.value ∷ r.values) = form.next value rest in
      subst (SpellsValues (k ∷ l ∷ ks) text) r.all (subst (λ (bs : List ℕ). SpellsValues (k ∷ l ∷ ks) bs (r.value ∷ r.values)) (sym first.is) whole)

-- values that are read are spelled
pub values_spelled : (i : ℕ) (k : Kind) (ks : List Kind) (text : List ℕ) (vs : List Value) → has_newline text ≡ false → values_of i (k ∷ ks) (fields text) ≡ Ok vs → SpellsValues (k ∷ ks) text vs
values_spelled i k [] text vs line e = last_spelled i k text vs line e (first_field text)
values_spelled i k (l ∷ ks) text vs line e = next_spelled i k text vs line l ks (λ more ws clean is. values_spelled (i + 1) l ks more ws clean is) e (first_field text)

plain_read : (ds : List ℕ) → is_numeral ds ≡ true → number_after 0 ds < 2 ^ 63 → long_at ds ≡ Some (pos (number_after 0 ds))
plain_read [] digits small = cc
plain_read (d ∷ ds) digits small = plain_at (d ∷ ds) (number_after 0 (d ∷ ds)) digits (omega arith) refl small

minus_read : (ds : List ℕ) → is_numeral ds ≡ true → number_after 0 ds ≤ 2 ^ 63 → long_at (45 ∷ ds) ≡ Some (neg_ℤ (pos (number_after 0 ds)))
minus_read ds digits small =
    let m = number_after 0 ds in
    let fits : nat_lt m (2 ^ 63 + 1) ≡ true = grind (arith, nat_tests, small) in
    ap (λ (b : Bool). cond b (Some (neg_ℤ (pos m))) None) (and_from (is_numeral ds) (nat_lt m (2 ^ 63 + 1)) digits fits)

-- a number that is spelled is read
pub long_read : (f : List ℕ) (n : ℤ) → SpellsLong f n → long_at f ≡ Some n
long_read f n h = elim h as (λ f n _. long_at f ≡ Some n) [
  | form.plain {ds = ds} digits small ↦ plain_read ds digits small
  | form.minus {ds = ds} digits small ↦ minus_read ds digits small
]

digits_of : (ds : List ℕ) → is_numeral ds ≡ true → all_ascii_digits ds ≡ true
digits_of [] e = refl
digits_of (d ∷ ds) e = e

no_tab-long : (f : List ℕ) (n : ℤ) → SpellsLong f n → no_tab f ≡ true
no_tab-long f n h = elim h as (λ f n _. no_tab f ≡ true) [
  | form.plain {ds = ds} digits small ↦ no_tab-digits ds (digits_of ds digits)
  | form.minus {ds = ds} digits small ↦ no_tab-digits ds (digits_of ds digits)
]

no_tab-value : (k : Kind) (f : List ℕ) (v : Value) → SpellsValue k f v → no_tab f ≡ true
no_tab-value k f v h = elim h as (λ k f v _. no_tab f ≡ true) [
  | form.long {f = f} {n = n} is ↦ no_tab-long f n is
  | form.text {f = f} is ↦ no_tab-clean f is.clean
]

text_read : (i : ℕ) (f : List ℕ) → IsText f → value_of kind.Text i f ≡ Ok (Text f)
text_read i f is = let utf8 = is.utf8 in let short = is.short in grind (arith, nat_tests, utf8, short)

pub value_read : (i : ℕ) (k : Kind) (f : List ℕ) (v : Value) → SpellsValue k f v → value_of k i f ≡ Ok v
value_read i k f v h = elim h as (λ k f v _. value_of k i f ≡ Ok v) [
  | form.long {f = f} {n = n} is ↦ ap (long_or (BadNumber i)) (long_read f n is)
  | form.text {f = f} is ↦ text_read i f is
]

pub record AllRead (ks : List Kind) (text : List ℕ) (vs : List Value) : Type 0 where
  pub count : length (fields text) ≡ length ks
  pub read : (i : ℕ) → values_of i ks (fields text) ≡ Ok vs

last_read : (k : Kind) (f : List ℕ) (v : Value) → SpellsValue k f v → AllRead (k ∷ []) f (v ∷ [])
unfolding values_of
last_read k f v h =
    let one : fields f ≡ f ∷ [] = fields-only f (no_tab-value k f v h) in
    record {
      count = ap (λ (fs : List (List ℕ)). length fs) one;
      read = λ i. ap (values_of i (k ∷ [])) one ∙ ap (λ (r : Result Value RowFault). r >>= λ v. Ok (v ∷ [])) (value_read i k f v h);
    }

next_read : (k : Kind) (f : List ℕ) (v : Value) (ks : List Kind) (bs : List ℕ) (vs : List Value) → SpellsValue k f v → AllRead ks bs vs → AllRead (k ∷ ks) (f ++ 9 ∷ bs) (v ∷ vs)
unfolding values_of
next_read k f v ks bs vs h rest =
    let here : fields (f ++ 9 ∷ bs) ≡ f ∷ fields bs = fields-join f bs (no_tab-value k f v h) in
    record {
      count = ap (λ (fs : List (List ℕ)). length fs) here ∙ ap suc rest.count;
      read = λ i.
          ap (values_of i (k ∷ ks)) here
          ∙ ap (λ (r : Result Value RowFault). r >>= λ v. values_of (i + 1) ks (fields bs) >>= λ ws. Ok (v ∷ ws)) (value_read i k f v h)
          ∙ ap (λ (r : Result (List Value) RowFault). r >>= λ ws. Ok (v ∷ ws)) (rest.read (i + 1));
    }

-- values that are spelled are read
pub values_read : {ks : List Kind} {text : List ℕ} {vs : List Value} → SpellsValues ks text vs → AllRead ks text vs
values_read (form.last {k = k} {f = f} {v = v} is) = last_read k f v is
values_read (form.next {k = k} {f = f} {v = v} {ks = ks} {bs = bs} {vs = vs} is rest) = next_read k f v ks bs vs is (values_read rest)

fields_read : (ks : List Kind) (text : List ℕ) (vs : List Value) → SpellsValues ks text vs → fields_of ks text ≡ Ok vs
unfolding fields_of
fields_read ks text vs h =
    let all = values_read h in
    let same : (length (fields text) == length ks) ≡ true = let e = all.count in grind (arith, nat_tests, e) in
    ap (λ (b : Bool). cond b (values_of 0 ks (fields text)) (Err FieldCount)) same ∙ all.read 0

fields_spelled : (k : Kind) (ks : List Kind) (text : List ℕ) (vs : List Value) → has_newline text ≡ false → fields_of (k ∷ ks) text ≡ Ok vs → SpellsValues (k ∷ ks) text vs
unfolding fields_of
fields_spelled k ks text vs line e =
    elim (length (fields text) == length (k ∷ ks)) as (λ t. cond t (values_of 0 (k ∷ ks) (fields text)) (Err FieldCount) ≡ Ok vs → SpellsValues (k ∷ ks) text vs) [
      | true ↦ λ e. values_spelled 0 k ks text vs line e
      | false ↦ λ e. cc
    ] e

some_fields_spelled : (ks : List Kind) (text : List ℕ) (vs : List Value) → 0 < length ks → has_newline text ≡ false → fields_of ks text ≡ Ok vs → SpellsValues ks text vs
some_fields_spelled [] text vs some line e = absurd (omega (arith, some))
some_fields_spelled (k ∷ ks) text vs some line e = fields_spelled k ks text vs line e

module _ (s : Shape) (is : IsShape s) where
  put_spelled : (bs : List ℕ) (e : Entry) → has_newline bs ≡ false → (fields_of (kinds s.columns) bs >>= λ vs. Ok (Put vs)) ≡ Ok e → Spells s (43 ∷ bs) e
  put_spelled bs e line read =
      let p = bind_ok (fields_of (kinds s.columns) bs) (λ vs. Ok (Put vs)) e read in
      let same : Put p.0 ≡ e = let last = p.2 in cc in
      let some : 0 < length (kinds s.columns) = omega (arith, is.some_column, length_kinds s.columns) in
      subst (Spells s (43 ∷ bs)) same (form.put (some_fields_spelled (kinds s.columns) bs p.0 some line p.1))

  removal_spelled : (bs : List ℕ) (e : Entry) → has_newline bs ≡ false → (fields_of (key_kinds s) bs >>= λ vs. Ok (Removal vs)) ≡ Ok e → Spells s (45 ∷ bs) e
  removal_spelled bs e line read =
      let p = bind_ok (fields_of (key_kinds s) bs) (λ vs. Ok (Removal vs)) e read in
      let same : Removal p.0 ≡ e = let last = p.2 in cc in
      let some : 0 < length (key_kinds s) = omega (arith, is.some_key, length-key_kinds s) in
      subst (Spells s (45 ∷ bs)) same (form.removal (some_fields_spelled (key_kinds s) bs p.0 some line p.1))

  line_spelled : (line : List ℕ) (e : Entry) → has_newline line ≡ false → row_of_text line s ≡ Ok e → Spells s line e
  unfolding row_of_text
  line_spelled [] e h read = cc
  line_spelled (b ∷ bs) e h read =
      let rest : has_newline bs ≡ false = grind (arith, nat_tests) in
      elim (b == 43) as (λ t. (b == 43) ≡ t → cond t (fields_of (kinds s.columns) bs >>= λ vs. Ok (Put vs)) (cond (b == 45) (fields_of (key_kinds s) bs >>= λ vs. Ok (Removal vs)) (Err WrongSign)) ≡ Ok e → Spells s (b ∷ bs) e) [
        | true ↦ λ sign read. let plus : b ≡ 43 = grind (arith, nat_tests, sign) in subst (λ (c : ℕ). Spells s (c ∷ bs) e) (sym plus) (put_spelled bs e rest read)
        | false ↦ λ sign read. elim (b == 45) as (λ t. (b == 45) ≡ t → cond t (fields_of (key_kinds s) bs >>= λ vs. Ok (Removal vs)) (Err WrongSign) ≡ Ok e → Spells s (b ∷ bs) e) [
          | true ↦ λ dash read. let minus : b ≡ 45 = grind (arith, nat_tests, dash) in subst (λ (c : ℕ). Spells s (c ∷ bs) e) (sym minus) (removal_spelled bs e rest read)
          | false ↦ λ dash read. cc
        ] refl read
      ] refl read

line_read : (s : Shape) (line : List ℕ) (e : Entry) → Spells s line e → row_of_text line s ≡ Ok e
unfolding row_of_text
line_read s line e h = elim h as (λ line e _. row_of_text line s ≡ Ok e) [
  | form.put {bs = bs} {row = row} is ↦ ap (λ (r : Result (List Value) RowFault). r >>= λ vs. Ok (Put vs)) (fields_read (kinds s.columns) bs row is)
  | form.removal {bs = bs} {key = key} is ↦ ap (λ (r : Result (List Value) RowFault). r >>= λ vs. Ok (Removal vs)) (fields_read (key_kinds s) bs key is)
]

-- exactly the lines of the forms are read
pub lines_are_forms : LinesAreForms
lines_are_forms s is line e h = (line_spelled s is line e h, line_read s line e)
