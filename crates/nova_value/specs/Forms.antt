-- The lines that spell an entry, one case for each form, and what is wrong with all others, one case
-- for each cause. Bytes: 9 is a tab, 43 `+`, 45 `-`.
use Rattle.std.specs.Prelude.{◌≡◌, ◌≢◌, ℕ, ◌+◌, ◌<◌, ◌≤◌, ◌^◌, ℤ, pos, true, false, List, [], ◌∷◌, ◌++◌, length, neg_ℤ}
use Rattle.std.specs.Str.{is_utf8}
use Rattle.nova_value.specs.declared.value.Value.{Value}
use Rattle.nova_value.specs.declared.value.Value.TheVariants.{Long, Text}
use Rattle.nova_value.specs.declared.value.Kind.{Kind}
use Rattle.nova_value.specs.declared.value.Kind.TheVariants as kind
use Rattle.nova_value.specs.declared.schema.Entry.{Entry}
use Rattle.nova_value.specs.declared.schema.Entry.TheVariants.{Put, Removal}
use Rattle.nova_value.specs.declared.limit.TheConstants.{MAX_TEXT_BYTES}
use Rattle.nova_value.specs.Text.{IsText}
use Rattle.nova_value.specs.Rows.{Shape, kinds, key_kinds}
use Rattle.nova_value.specs.declared.fault.RowFault.{RowFault}
use Rattle.nova_value.specs.declared.fault.RowFault.TheVariants.{WrongSign, FieldCount, BadNumber, TooLong, NotUtf8}
use Rattle.nova_value.specs.Line.{is_numeral, number_after, fields}

-- one or more digits, with a `-` in front or without; leading zeros are allowed
pub data SpellsLong : List ℕ → ℤ → Type 0 where
  plain : {ds : List ℕ} → is_numeral ds ≡ true → number_after 0 ds < 2 ^ 63 → SpellsLong ds (pos (number_after 0 ds))
  minus : {ds : List ℕ} → is_numeral ds ≡ true → number_after 0 ds ≤ 2 ^ 63 → SpellsLong (45 ∷ ds) (neg_ℤ (pos (number_after 0 ds)))

-- a value, in a column of its kind
pub data SpellsValue : Kind → List ℕ → Value → Type 0 where
  long : {f : List ℕ} {n : ℤ} → SpellsLong f n → SpellsValue kind.Long f (Long n)
  text : {f : List ℕ} → IsText f → SpellsValue kind.Text f (Text f)

-- one value of each kind, with tabs between
pub data SpellsValues : List Kind → List ℕ → List Value → Type 0 where
  last : {k : Kind} {f : List ℕ} {v : Value} → SpellsValue k f v → SpellsValues (k ∷ []) f (v ∷ [])
  next : {k : Kind} {f : List ℕ} {v : Value} {ks : List Kind} {bs : List ℕ} {vs : List Value} → SpellsValue k f v → SpellsValues ks bs vs → SpellsValues (k ∷ ks) (f ++ 9 ∷ bs) (v ∷ vs)

-- `+` and the values of a row, or `-` and those of a key
pub data Spells (s : Shape) : List ℕ → Entry → Type 0 where
  put : {bs : List ℕ} {row : List Value} → SpellsValues (kinds s.columns) bs row → Spells s (43 ∷ bs) (Put row)
  removal : {bs : List ℕ} {key : List Value} → SpellsValues (key_kinds s) bs key → Spells s (45 ∷ bs) (Removal key)

-- what is wrong with field n, in a column of a kind; of a text its length comes first
pub data FieldFails (n : ℕ) : Kind → List ℕ → RowFault → Type 0 where
  no_number : {f : List ℕ} → ((z : ℤ) → SpellsLong f z → ⊥) → FieldFails n kind.Long f (BadNumber n)
  too_long : {f : List ℕ} → MAX_TEXT_BYTES < length f → FieldFails n kind.Text f (TooLong n)
  no_text : {f : List ℕ} → length f ≤ MAX_TEXT_BYTES → is_utf8 f ≡ false → FieldFails n kind.Text f (NotUtf8 n)

-- of the fields from n on, the first bad one
pub data FirstBad : ℕ → List Kind → List (List ℕ) → RowFault → Type 0 where
  here : {n : ℕ} {k : Kind} {ks : List Kind} {f : List ℕ} {fs : List (List ℕ)} {fault : RowFault} → FieldFails n k f fault → FirstBad n (k ∷ ks) (f ∷ fs) fault
  later : {n : ℕ} {k : Kind} {ks : List Kind} {f : List ℕ} {fs : List (List ℕ)} {v : Value} {fault : RowFault} → SpellsValue k f v → FirstBad (n + 1) ks fs fault → FirstBad n (k ∷ ks) (f ∷ fs) fault

-- the number of fields, and then the first bad one
pub data FieldsFail (ks : List Kind) (bs : List ℕ) : RowFault → Type 0 where
  count : length (fields bs) ≢ length ks → FieldsFail ks bs FieldCount
  bad : {fault : RowFault} → length (fields bs) ≡ length ks → FirstBad 0 ks (fields bs) fault → FieldsFail ks bs fault

-- the sign, and then the fields
pub data LineFails (s : Shape) : List ℕ → RowFault → Type 0 where
  empty : LineFails s [] WrongSign
  no_sign : {b : ℕ} {bs : List ℕ} → b ≢ 43 → b ≢ 45 → LineFails s (b ∷ bs) WrongSign
  put : {bs : List ℕ} {fault : RowFault} → FieldsFail (kinds s.columns) bs fault → LineFails s (43 ∷ bs) fault
  removal : {bs : List ℕ} {fault : RowFault} → FieldsFail (key_kinds s) bs fault → LineFails s (45 ∷ bs) fault
