-- What is read is spelled so, what is spelled so is read, and faults are those of the cases.
use Rattle.std.proofs.Common.{◌≡◌, ◌⊎◌, inl, inr, ℕ, ℤ, pos, negsuc, ◌+◌, ◌^◌, ◌<◌, ◌≤◌, Bool, true, false, cond, ltb, List, ◌++◌, length, take, drop, Result, Ok, Err, refl, sym, ap, subst, ◌∙◌, append_assoc, arith, ◌&&◌}
use Rattle.std.specs.Int.{w16, w64, from_be_bytes, cast_signed, cast_unsigned}
use Rattle.std.specs.Int.RustNames.{FitsSigned}
use Rattle.std.specs.Str.{is_utf8}
use Rattle.std.proofs.Math.Facts.{sfits_to_z, Fits-of_z, Fits-of_lt, Fits-lt-pow}
use Rattle.std.proofs.lemmas.Int.{ints, of_z-to_z, to_z-of_z}
use Rattle.std.proofs.lemmas.Bool.{cases_lt, ltb-false, ltb-true, le-ltb, lt-ltb}
use Rattle.std.proofs.lemmas.List.{take_at, drop_at, take-append-drop, length-append, length-take, get_or-drop, get_or-take, get_or_past, length-take-le}
use Rattle.std.proofs.lemmas.Nat.{be_bytes_2, be_bytes_8, from_be_bytes-to_be_bytes_2, from_be_bytes-to_be_bytes_8}
use Rattle.nova_value.specs.declared.value.Value.{Value}
use Rattle.nova_value.specs.declared.value.Value.TheVariants.{Long, Text}
use Rattle.nova_value.specs.declared.value.Kind.{Kind}
use Rattle.nova_value.specs.declared.value.Kind.TheVariants as kind
use Rattle.nova_value.specs.Text.{IsText, is_clean}
use Rattle.nova_value.specs.Rows.{IsLong, IsOf}
use Rattle.nova_row_codec.specs.declared.fault.CodecFault.{CodecFault}
use Rattle.nova_row_codec.specs.declared.fault.CodecFault.TheVariants.{Short, BadText}
use Rattle.nova_row_codec.specs.Spelling.{two, eight, value_bytes}
use Rattle.nova_row_codec.specs.Faults.{ValueFails}
use Rattle.nova_row_codec.specs.Faults as fault
pub use Rattle.nova_row_codec.specs.Written.{IsBytes}
use Rattle.nova_row_codec.specs.Reading.{◌>>=◌, long_at, text_of, text_after, text_at, value_at}

-- an `i64` is a long
long_from_fits : (n : ℤ) → FitsSigned w64 n → IsLong n
long_from_fits (pos n) h = grind (arith, ints)
long_from_fits (negsuc n) h = grind (arith, ints)

pub bytes_drop : (n : ℕ) (bytes : List ℕ) → IsBytes bytes → IsBytes (drop n bytes)
bytes_drop n bytes h i = rw get_or-drop (h (n + i))

bytes_take : (n : ℕ) (bytes : List ℕ) → IsBytes bytes → IsBytes (take n bytes)
bytes_take n bytes h i =
    elim (cases_lt i n) [
      | inl lt ↦ rw (get_or-take n bytes i 0 lt) (h i)
      | inr le ↦ rw (get_or_past (take n bytes) i 0 (omega (arith, length-take n bytes))) (omega arith)
    ]

-- a step that did not fail, and one that did
pub bind_ok : {A B : Type 0} (r : Result A CodecFault) (f : A → Result B CodecFault) (y : B) → (r >>= f) ≡ Ok y → (x : A) × (r ≡ Ok x) × (f x ≡ Ok y)
bind_ok (Ok x) f y e = (x, refl, e)
bind_ok (Err g) f y e = absurd cc

pub bind_err : {A B : Type 0} (r : Result A CodecFault) (f : A → Result B CodecFault) (g : CodecFault) → (r >>= f) ≡ Err g → (r ≡ Err g) ⊎ ((x : A) × (r ≡ Ok x) × (f x ≡ Err g))
bind_err (Ok x) f g e = inr (x, refl, e)
bind_err (Err h) f g e = inl (let same : h ≡ g = cc in ap (λ (k : CodecFault). Err k) same)

pub ok_is : {A : Type 0} (x y : A) → ◌≡◌ {A = Result A CodecFault} (Ok x) (Ok y) → x ≡ y
ok_is x y e = cc

pub err_is : {A : Type 0} (f g : CodecFault) → ◌≡◌ {A = Result A CodecFault} (Err f) (Err g) → f ≡ g
err_is f g e = cc

pub ok_no_err : {A : Type 0} (x : A) (f : CodecFault) → ◌≡◌ {A = Result A CodecFault} (Ok x) (Err f) → ⊥
ok_no_err x f e = cc

-- what a reader took from the prefix
pub record Takes (bytes text rest : List ℕ) : Type 0 where
  pub parts : bytes ≡ text ++ rest
  pub rest_fits : IsBytes rest

-- A reader of one field: what it takes is spelled so, what is spelled so is read, and it fails exactly where the cases say.
pub record IsField {X : Type 0} (field : List ℕ → Result (X × List ℕ) CodecFault) (spelled : X → List ℕ) (F : X → Type 0) (Bad : List ℕ → CodecFault → Type 0) : Type 0 where
  pub takes : (bytes : List ℕ) (a : X × List ℕ) → IsBytes bytes → field bytes ≡ Ok a → Takes bytes (spelled a.0) a.1 × F a.0
  pub again : (x : X) (rest : List ℕ) → F x → field (spelled x ++ rest) ≡ Ok (x, rest)
  pub fails : (bytes : List ℕ) (f : CodecFault) → IsBytes bytes → field bytes ≡ Err f → Bad bytes f
  pub refuses : (bytes : List ℕ) (f : CodecFault) → Bad bytes f → field bytes ≡ Err f

-- ---- longs

pub eight_back : (bytes : List ℕ) → IsBytes bytes → 8 ≤ length bytes → (eight (from_be_bytes w64 (take 8 bytes)) ≡ take 8 bytes) × (from_be_bytes w64 (take 8 bytes) < 2 ^ 64)
eight_back bytes fits long =
    let t = bytes_take 8 bytes fits in
    (be_bytes_8 (take 8 bytes) _ (length-take-le 8 bytes long) t refl, omega (arith, t 0, t 1, t 2, t 3, t 4, t 5, t 6, t 7))

long_parts : (bytes : List ℕ) → IsBytes bytes → 8 ≤ length bytes → Takes bytes (value_bytes (Long (cast_signed w64 (from_be_bytes w64 (take 8 bytes))))) (drop 8 bytes) × IsOf kind.Long (Long (cast_signed w64 (from_be_bytes w64 (take 8 bytes))))
unfolding value_bytes
long_parts bytes fits long =
    let b = eight_back bytes fits long in
    let n = from_be_bytes w64 (take 8 bytes) in (
      record { parts = sym (take-append-drop 8 bytes) ∙ ap (λ (t : List ℕ). t ++ drop 8 bytes) (sym b.0 ∙ ap eight (sym (of_z-to_z w64 n b.1))); rest_fits = bytes_drop 8 bytes fits },
      long_from_fits (cast_signed w64 n) (sfits_to_z {w = w64} {n = n} (Fits-of_lt {w = w64} {n = n} b.1)),
    )

long_takes : (bytes : List ℕ) (a : Value × List ℕ) → IsBytes bytes → long_at bytes ≡ Ok a → Takes bytes (value_bytes a.0) a.1 × IsOf kind.Long a.0
unfolding long_at
long_takes bytes a fits e =
    elim (ltb (length bytes) 8) as (λ b. ltb (length bytes) 8 ≡ b → cond b (Err Short) (Ok (Long (cast_signed w64 (from_be_bytes w64 (take 8 bytes))), drop 8 bytes)) ≡ Ok a → Takes bytes (value_bytes a.0) a.1 × IsOf kind.Long a.0) [
      | true ↦ λ t e. absurd cc
      | false ↦ λ t e. subst (λ (z : Value × List ℕ). Takes bytes (value_bytes z.0) z.1 × IsOf kind.Long z.0) (ok_is _ a e) (long_parts bytes fits (ltb-false _ _ t))
    ] refl e

fits_from_long : (n : ℤ) → IsLong n → FitsSigned w64 n
fits_from_long (pos n) h = grind (arith, ints)
fits_from_long (negsuc n) h = grind (arith, ints)

long_again : (v : Value) (rest : List ℕ) → IsOf kind.Long v → long_at (value_bytes v ++ rest) ≡ Ok (v, rest)
unfolding long_at value_bytes
long_again (Text text) rest is = absurd is
long_again (Long n) rest is =
    let fits = fits_from_long n is in
    let m = cast_unsigned w64 n in
    let long : ltb (length (eight m ++ rest)) 8 ≡ false = le-ltb _ _ (omega (arith, length-append (eight m) rest)) in
    ap (λ (b : Bool). cond b (Err Short) (Ok (Long (cast_signed w64 (from_be_bytes w64 (eight m))), rest))) long
    ∙ ap (λ (k : ℕ). Ok (Long (cast_signed w64 k), rest)) (from_be_bytes-to_be_bytes_8 m (Fits-lt-pow {w = w64} {n = m} (Fits-of_z {w = w64} {z = n} fits)))
    ∙ ap (λ (z : ℤ). Ok (Long z, rest)) (to_z-of_z w64 n fits)

long_fails : (bytes : List ℕ) (f : CodecFault) → IsBytes bytes → long_at bytes ≡ Err f → ValueFails kind.Long bytes f
unfolding long_at
long_fails bytes f fits e =
    let found : Value × List ℕ = (Long (cast_signed w64 (from_be_bytes w64 (take 8 bytes))), drop 8 bytes) in
    elim (ltb (length bytes) 8) as (λ b. ltb (length bytes) 8 ≡ b → ◌≡◌ {A = Result (Value × List ℕ) CodecFault} (cond b (Err Short) (Ok found)) (Err f) → ValueFails kind.Long bytes f) [
      | true ↦ λ t e. subst (ValueFails kind.Long bytes) (err_is Short f e) (fault.long (ltb-true _ _ t))
      | false ↦ λ t e. absurd (ok_no_err found f e)
    ] refl e

long_refuses : (bytes : List ℕ) → length bytes < 8 → long_at bytes ≡ Err Short
unfolding long_at
long_refuses bytes lt = rw (lt-ltb _ _ lt) refl

-- ---- texts

two_parts : (bytes : List ℕ) → IsBytes bytes → 2 ≤ length bytes → (two (from_be_bytes w16 (take 2 bytes)) ++ drop 2 bytes ≡ bytes) × (from_be_bytes w16 (take 2 bytes) < 2 ^ 16)
two_parts bytes fits long =
    let t = bytes_take 2 bytes fits in
    (ap (λ (prefix : List ℕ). prefix ++ drop 2 bytes) (be_bytes_2 (take 2 bytes) (from_be_bytes w16 (take 2 bytes)) (length-take-le 2 bytes long) t refl) ∙ take-append-drop 2 bytes, omega (arith, t 0, t 1))

-- bytes with a length in prefix
text_at_length : (n : ℕ) (rest : List ℕ) → n < 2 ^ 16 → text_at (two n ++ rest) ≡ text_after n rest
unfolding text_at
text_at_length n rest lt =
    let long : ltb (length (two n ++ rest)) 2 ≡ false = le-ltb _ _ (omega (arith, length-append (two n) rest)) in
    ap (λ (b : Bool). cond b (Err Short) (text_after (from_be_bytes w16 (two n)) rest)) long ∙ ap (λ (k : ℕ). text_after k rest) (from_be_bytes-to_be_bytes_2 n lt)

both : (a b : Bool) → (a && b) ≡ true → (a ≡ true) × (b ≡ true)
both true b e = (refl, e)
both false b e = absurd cc

-- what is read as a text is one, and what isn't has no other fault
text_of_ok : (text : List ℕ) (v : Value) → length text < 2 ^ 16 → text_of text ≡ Ok v → (Text text ≡ v) × IsText text
unfolding text_of
text_of_ok text v short e =
    elim (is_utf8 text && is_clean text) as (λ b. (is_utf8 text && is_clean text) ≡ b → cond b (Ok (Text text)) (Err BadText) ≡ Ok v → (Text text ≡ v) × IsText text) [
      | true ↦ λ t e. let p = both _ _ t in (ok_is _ v e, record { short = omega (arith, short); clean = p.1; utf8 = p.0 })
      | false ↦ λ t e. absurd cc
    ] refl e

text_of_text : (text : List ℕ) → IsText text → text_of text ≡ Ok (Text text)
unfolding text_of
text_of_text text is = rw (is.utf8, is.clean) refl

text_of_err : (text : List ℕ) (f : CodecFault) → text_of text ≡ Err f → (BadText ≡ f) × (IsText text → ⊥)
unfolding text_of
text_of_err text f e = (which (is_utf8 text && is_clean text) e, λ is. ok_no_err (Text text) f (sym (text_of_text text is) ∙ e))
  where
    which : (b : Bool) → cond b (Ok (Text text)) (Err BadText) ≡ Err f → BadText ≡ f
    which true e = absurd (ok_no_err (Text text) f e)
    which false e = err_is BadText f e

no_text : (text : List ℕ) → (IsText text → ⊥) → length text < 2 ^ 16 → text_of text ≡ Err BadText
no_text text isnt short = which (text_of text) refl
  where
    which : (r : Result Value CodecFault) → text_of text ≡ r → r ≡ Err BadText
    which (Ok v) e = absurd (isnt (text_of_ok text v short e).1)
    which (Err f) e = ap (λ (g : CodecFault). Err g) (sym (text_of_err text f e).0)

module _ (n : ℕ) (rest : List ℕ) (small : n < 2 ^ 16) (fits : IsBytes rest) where
  after_takes : (a : Value × List ℕ) → text_after n rest ≡ Ok a → Takes (two n ++ rest) (value_bytes a.0) a.1 × IsOf kind.Text a.0
  unfolding value_bytes
  after_takes a e =
      elim (ltb (length rest) n) as (λ b. ltb (length rest) n ≡ b → cond b (Err Short) (text_of (take n rest) >>= λ v. Ok (v, drop n rest)) ≡ Ok a → Takes (two n ++ rest) (value_bytes a.0) a.1 × IsOf kind.Text a.0) [
        | true ↦ λ t e. absurd cc
        | false ↦ λ t e.
            let x = bind_ok (text_of (take n rest)) (λ v. Ok (v, drop n rest)) a e in
            let len : length (take n rest) ≡ n = length-take-le n rest (ltb-false _ _ t) in
            let is = text_of_ok (take n rest) x.0 (omega (arith, len, small)) x.1 in
            let made : (Text (take n rest), drop n rest) ≡ a = ap (λ (v : Value). (v, drop n rest)) is.0 ∙ ok_is _ a x.2 in
            let parts : two n ++ rest ≡ (two (length (take n rest)) ++ take n rest) ++ drop n rest =
            ap (λ (r : List ℕ). two n ++ r) (sym (take-append-drop n rest)) ∙ sym (append_assoc (two n) (take n rest) (drop n rest))
            ∙ ap (λ (k : ℕ). (two k ++ take n rest) ++ drop n rest) (sym len) in
            subst (λ (z : Value × List ℕ). Takes (two n ++ rest) (value_bytes z.0) z.1 × IsOf kind.Text z.0) made (record { parts = parts; rest_fits = bytes_drop n rest fits }, is.1)
      ] refl e

  after_fails : (f : CodecFault) → text_after n rest ≡ Err f → ValueFails kind.Text (two n ++ rest) f
  after_fails f e =
      let read : Result (Value × List ℕ) CodecFault = text_of (take n rest) >>= λ v. Ok (v, drop n rest) in
      elim (ltb (length rest) n) as (λ b. ltb (length rest) n ≡ b → cond b (Err Short) read ≡ Err f → ValueFails kind.Text (two n ++ rest) f) [
        | true ↦ λ t e. subst (ValueFails kind.Text (two n ++ rest)) (err_is Short f e) (fault.text n rest small (ltb-true _ _ t))
        | false ↦ λ t e. by_text (length-take-le n rest (ltb-false _ _ t)) (bind_err (text_of (take n rest)) (λ v. Ok (v, drop n rest)) f e)
      ] refl e
    where
      by_text : length (take n rest) ≡ n → (text_of (take n rest) ≡ Err f) ⊎ ((v : Value) × (text_of (take n rest) ≡ Ok v) × (◌≡◌ {A = Result (Value × List ℕ) CodecFault} (Ok (v, drop n rest)) (Err f))) → ValueFails kind.Text (two n ++ rest) f
      by_text len (inr x) = absurd (ok_no_err _ f x.2)
      by_text len (inl bad) =
          let is = text_of_err (take n rest) f bad in
          let parts : two (length (take n rest)) ++ (take n rest ++ drop n rest) ≡ two n ++ rest = ap (λ (k : ℕ). two k ++ (take n rest ++ drop n rest)) len ∙ ap (λ (r : List ℕ). two n ++ r) (take-append-drop n rest) in
          subst (ValueFails kind.Text (two n ++ rest)) is.0 (subst (λ (b : List ℕ). ValueFails kind.Text b BadText) parts (fault.no_text (take n rest) (drop n rest) (omega (arith, len, small)) is.1))

text_takes : (bytes : List ℕ) (a : Value × List ℕ) → IsBytes bytes → text_at bytes ≡ Ok a → Takes bytes (value_bytes a.0) a.1 × IsOf kind.Text a.0
unfolding text_at
text_takes bytes a fits e =
    elim (ltb (length bytes) 2) as (λ b. ltb (length bytes) 2 ≡ b → cond b (Err Short) (text_after (from_be_bytes w16 (take 2 bytes)) (drop 2 bytes)) ≡ Ok a → Takes bytes (value_bytes a.0) a.1 × IsOf kind.Text a.0) [
      | true ↦ λ t e. absurd cc
      | false ↦ λ t e.
          let p = two_parts bytes fits (ltb-false _ _ t) in
          subst (λ (b : List ℕ). Takes b (value_bytes a.0) a.1 × IsOf kind.Text a.0) p.0 (after_takes _ _ p.1 (bytes_drop 2 bytes fits) a e)
    ] refl e

text_again : (v : Value) (rest : List ℕ) → IsOf kind.Text v → text_at (value_bytes v ++ rest) ≡ Ok (v, rest)
unfolding value_bytes
text_again (Long n) rest is = absurd is
text_again (Text text) rest is =
    let n = length text in
    let long : ltb (length (text ++ rest)) n ≡ false = le-ltb _ _ (omega (arith, length-append text rest)) in
    ap text_at (append_assoc (two n) text rest) ∙ text_at_length n (text ++ rest) (omega (arith, is.short))
    ∙ rw (long, take_at text rest n refl, drop_at text rest n refl, text_of_text text is) refl

text_fails : (bytes : List ℕ) (f : CodecFault) → IsBytes bytes → text_at bytes ≡ Err f → ValueFails kind.Text bytes f
unfolding text_at
text_fails bytes f fits e =
    elim (ltb (length bytes) 2) as (λ b. ltb (length bytes) 2 ≡ b → cond b (Err Short) (text_after (from_be_bytes w16 (take 2 bytes)) (drop 2 bytes)) ≡ Err f → ValueFails kind.Text bytes f) [
      | true ↦ λ t e. subst (ValueFails kind.Text bytes) (err_is Short f e) (fault.length_of (ltb-true _ _ t))
      | false ↦ λ t e.
          let p = two_parts bytes fits (ltb-false _ _ t) in
          subst (λ (b : List ℕ). ValueFails kind.Text b f) p.0 (after_fails _ _ p.1 (bytes_drop 2 bytes fits) f e)
    ] refl e

no_length : (bytes : List ℕ) → length bytes < 2 → text_at bytes ≡ Err Short
unfolding text_at
no_length bytes lt = rw (lt-ltb _ _ lt) refl

cut_off : (n : ℕ) (bytes : List ℕ) → n < 2 ^ 16 → length bytes < n → text_at (two n ++ bytes) ≡ Err Short
cut_off n bytes small lt = text_at_length n bytes small ∙ rw (lt-ltb _ _ lt) refl

bad_text : (text rest : List ℕ) → length text < 2 ^ 16 → (IsText text → ⊥) → text_at (two (length text) ++ (text ++ rest)) ≡ Err BadText
bad_text text rest short isnt =
    let n = length text in
    let long : ltb (length (text ++ rest)) n ≡ false = le-ltb _ _ (omega (arith, length-append text rest)) in
    text_at_length n (text ++ rest) short ∙ rw (long, take_at text rest n refl, drop_at text rest n refl, no_text text isnt short) refl

-- ---- values

value_refuses : {k : Kind} {bytes : List ℕ} {f : CodecFault} → ValueFails k bytes f → value_at k bytes ≡ Err f
value_refuses (fault.long {bytes = bytes} lt) = long_refuses bytes lt
value_refuses (fault.length_of {bytes = bytes} lt) = no_length bytes lt
value_refuses (fault.text n bytes small lt) = cut_off n bytes small lt
value_refuses (fault.no_text text bytes short isnt) = bad_text text bytes short isnt

pub value_field : (k : Kind) → IsField (value_at k) value_bytes (IsOf k) (ValueFails k)
value_field kind.Long = record { takes = long_takes; again = long_again; fails = long_fails; refuses = λ bytes f bad. value_refuses bad }
value_field kind.Text = record { takes = text_takes; again = text_again; fails = text_fails; refuses = λ bytes f bad. value_refuses bad }
