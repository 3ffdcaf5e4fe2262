-- Values and entries: what is read is spelled so, what is spelled so is read, and faults are those of the cases.
use Rattle.std.proofs.Common.{◌≡◌, ◌≢◌, ◌⊎◌, inl, inr, ℕ, zero, suc, ◌==◌, false, List, [], ◌∷◌, ◌++◌, Result, Ok, Err, refl, sym, ap, subst, ◌∙◌, append_assoc, arith}
use Rattle.std.proofs.lemmas.Bool.Decides.{nat_tests}
use Rattle.std.proofs.lemmas.List.Concat.{flat_map-cons}
use Rattle.nova_value.specs.declared.value.Value.{Value}
use Rattle.nova_value.specs.declared.value.Kind.{Kind}
use Rattle.nova_value.specs.declared.schema.Entry.{Entry}
use Rattle.nova_value.specs.declared.schema.Entry.TheVariants.{Put, Removal}
use Rattle.nova_value.specs.Rows.{Shape, IsOf, FitKinds, kinds, key_kinds}
use Rattle.nova_value.specs.Entries.{FitsEntry}
use Rattle.nova_row_codec.specs.declared.fault.CodecFault.{CodecFault}
use Rattle.nova_row_codec.specs.declared.fault.CodecFault.TheVariants.{Short, BadTag}
use Rattle.nova_row_codec.specs.Spelling.{value_bytes, values_bytes, entry_bytes}
use Rattle.nova_row_codec.specs.Faults.{ValueFails, ValuesFail, EntryFails}
use Rattle.nova_row_codec.specs.Faults as fault
use Rattle.nova_row_codec.specs.Reading.{◌>>=◌, value_at, values_at, entry_at}
use Rattle.nova_row_codec.proofs.Fields.{IsBytes, bind_ok, bind_err, ok_is, err_is, ok_no_err, Takes, IsField, value_field}

takes_then : (a x b y c : List ℕ) → Takes a x b → Takes b y c → Takes a (x ++ y) c
takes_then a x b y c p q = record { parts = p.parts ∙ ap (λ (t : List ℕ). x ++ t) q.parts ∙ sym (append_assoc x y c); rest_fits = q.rest_fits }

values_take : (ks : List Kind) (bytes : List ℕ) (a : List Value × List ℕ) → IsBytes bytes → values_at ks bytes ≡ Ok a → Takes bytes (values_bytes a.0) a.1 × FitKinds ks a.0
unfolding values_at
values_take [] bytes a fits e =
    subst (λ (z : List Value × List ℕ). Takes bytes (values_bytes z.0) z.1 × FitKinds [] z.0) (ok_is ([], bytes) a e) (record { parts = refl; rest_fits = fits }, tt)
values_take (k ∷ ks) bytes a fits e =
    let x = bind_ok (value_at k bytes) (λ x. values_at ks x.1 >>= λ y. Ok (x.0 ∷ y.0, y.1)) a e in
    let y = bind_ok (values_at ks x.0.1) (λ y. Ok (x.0.0 ∷ y.0, y.1)) a x.2 in
    let t0 = (value_field k).takes bytes x.0 fits x.1 in
    let t1 = values_take ks x.0.1 y.0 t0.0.rest_fits y.1 in
    let both = takes_then bytes (value_bytes x.0.0) x.0.1 (values_bytes y.0.0) y.0.1 t0.0 t1.0 in
    let made : List Value × List ℕ = (x.0.0 ∷ y.0.0, y.0.1) in
    subst (λ (z : List Value × List ℕ). Takes bytes (values_bytes z.0) z.1 × FitKinds (k ∷ ks) z.0) (ok_is made a y.2) (rw flat_map-cons both, (t0.1, t1.1))

values_again : (ks : List Kind) (vs : List Value) (rest : List ℕ) → FitKinds ks vs → values_at ks (values_bytes vs ++ rest) ≡ Ok (vs, rest)
unfolding values_at
values_again [] [] rest fits = refl
values_again [] (v ∷ vs) rest fits = absurd fits
values_again (k ∷ ks) [] rest fits = absurd fits
values_again (k ∷ ks) (v ∷ vs) rest fits =
    let regrouped : values_bytes (v ∷ vs) ++ rest ≡ value_bytes v ++ (values_bytes vs ++ rest) = ap (λ (t : List ℕ). t ++ rest) (flat_map-cons value_bytes v vs) ∙ append_assoc (value_bytes v) (values_bytes vs) rest in
    ap (values_at (k ∷ ks)) regrouped
    ∙ ap (λ (o : Result (Value × List ℕ) CodecFault). o >>= λ a. values_at ks a.1 >>= λ b. Ok (a.0 ∷ b.0, b.1)) ((value_field k).again v (values_bytes vs ++ rest) fits.0)
    ∙ ap (λ (o : Result (List Value × List ℕ) CodecFault). o >>= λ b. Ok (v ∷ b.0, b.1)) (values_again ks vs rest fits.1)

values_fail : (ks : List Kind) (bytes : List ℕ) (f : CodecFault) → IsBytes bytes → values_at ks bytes ≡ Err f → ValuesFail ks bytes f
unfolding values_at
values_fail [] bytes f fits e = absurd (ok_no_err ([], bytes) f e)
values_fail (k ∷ ks) bytes f fits e = by_value (λ rest fits is. values_fail ks rest f fits is) (bind_err (value_at k bytes) (λ x. values_at ks x.1 >>= λ y. Ok (x.0 ∷ y.0, y.1)) f e)
  where
    by_rest : ((rest : List ℕ) → IsBytes rest → values_at ks rest ≡ Err f → ValuesFail ks rest f) → (x : Value × List ℕ) → IsOf k x.0 → IsBytes x.1 → (values_at ks x.1 ≡ Err f) ⊎ ((y : List Value × List ℕ) × (values_at ks x.1 ≡ Ok y) × (◌≡◌ {A = Result (List Value × List ℕ) CodecFault} (Ok (x.0 ∷ y.0, y.1)) (Err f))) → ValuesFail (k ∷ ks) (value_bytes x.0 ++ x.1) f
    by_rest after x is fits (inl bad) = fault.after x.0 x.1 is (after x.1 fits bad)
    by_rest after x is fits (inr (y, _, never)) = absurd (ok_no_err _ f never)

    more : Value × List ℕ → Result (List Value × List ℕ) CodecFault
    more x = values_at ks x.1 >>= λ y. Ok (x.0 ∷ y.0, y.1)

    by_value : ((rest : List ℕ) → IsBytes rest → values_at ks rest ≡ Err f → ValuesFail ks rest f) → (value_at k bytes ≡ Err f) ⊎ ((x : Value × List ℕ) × (value_at k bytes ≡ Ok x) × (more x ≡ Err f)) → ValuesFail (k ∷ ks) bytes f
    by_value after (inl bad) = fault.here ((value_field k).fails bytes f fits bad)
    by_value after (inr (x, is, rest)) =
        let t = (value_field k).takes bytes x fits is in
        subst (λ (b : List ℕ). ValuesFail (k ∷ ks) b f) (sym t.0.parts) (by_rest after x t.1 t.0.rest_fits (bind_err (values_at ks x.1) (λ y. Ok (x.0 ∷ y.0, y.1)) f rest))

values_refuse : {ks : List Kind} {bytes : List ℕ} {f : CodecFault} → ValuesFail ks bytes f → values_at ks bytes ≡ Err f
unfolding values_at
values_refuse (fault.here {k = k} {ks = ks} {bytes = bytes} {fault = f} bad) =
    ap (λ (o : Result (Value × List ℕ) CodecFault). o >>= λ a. values_at ks a.1 >>= λ b. Ok (a.0 ∷ b.0, b.1)) ((value_field k).refuses bytes f bad)
values_refuse (fault.after {k = k} {ks = ks} {fault = f} v bytes is bad) =
    ap (λ (o : Result (Value × List ℕ) CodecFault). o >>= λ a. values_at ks a.1 >>= λ b. Ok (a.0 ∷ b.0, b.1)) ((value_field k).again v bytes is)
    ∙ ap (λ (o : Result (List Value × List ℕ) CodecFault). o >>= λ b. Ok (v ∷ b.0, b.1)) (values_refuse bad)

pub values_field : (ks : List Kind) → IsField (values_at ks) values_bytes (FitKinds ks) (ValuesFail ks)
values_field ks = record { takes = values_take ks; again = values_again ks; fails = values_fail ks; refuses = λ bytes f bad. values_refuse bad }

-- ---- entries

-- the values after a tag, as an entry
abbrev tagged : List Kind → (List Value → Entry) → List ℕ → Result (Entry × List ℕ) CodecFault
tagged ks entry bytes = values_at ks bytes >>= λ a. Ok (entry a.0, a.1)

pub entry_put : (s : Shape) (bytes : List ℕ) → entry_at s (1 ∷ bytes) ≡ tagged (kinds s.columns) (λ vs. Put vs) bytes
unfolding entry_at
entry_put s bytes = refl

entry_removal : (s : Shape) (bytes : List ℕ) → entry_at s (0 ∷ bytes) ≡ tagged (key_kinds s) (λ vs. Removal vs) bytes
unfolding entry_at
entry_removal s bytes = refl

-- a tag is one of the two, or none
pub data Tag : ℕ → Type 0 where
  is_put : Tag 1
  is_removal : Tag 0
  is_none : {t : ℕ} → t ≢ 0 → t ≢ 1 → Tag t

tag_of : (t : ℕ) → Tag t
tag_of zero = is_removal
tag_of (suc zero) = is_put
tag_of (suc (suc t)) = is_none (λ e. absurd (omega (arith, e))) (λ e. absurd (omega (arith, e)))

entry_untagged : (s : Shape) (t : ℕ) (bytes : List ℕ) → t ≢ 0 → t ≢ 1 → entry_at s (t ∷ bytes) ≡ Err BadTag
unfolding entry_at
entry_untagged s t bytes removes puts =
    let a : (t == 1) ≡ false = grind (arith, nat_tests) in
    let b : (t == 0) ≡ false = grind (arith, nat_tests) in
    rw (a, b) refl

tail_fits : (t : ℕ) (bytes : List ℕ) → IsBytes (t ∷ bytes) → IsBytes bytes
tail_fits t bytes fits i = fits (suc i)

module _ (s : Shape) (tag : ℕ) (ks : List Kind) (entry : List Value → Entry) (spelled : (vs : List Value) → entry_bytes (entry vs) ≡ tag ∷ values_bytes vs) (whole : (vs : List Value) → FitKinds ks vs → FitsEntry s (entry vs)) where
  tagged_takes : (bytes : List ℕ) (a : Entry × List ℕ) → IsBytes bytes → tagged ks entry bytes ≡ Ok a → Takes (tag ∷ bytes) (entry_bytes a.0) a.1 × FitsEntry s a.0
  tagged_takes bytes a fits e =
      let x = bind_ok (values_at ks bytes) (λ x. Ok (entry x.0, x.1)) a e in
      let t = values_take ks bytes x.0 fits x.1 in
      let parts : tag ∷ bytes ≡ entry_bytes (entry x.0.0) ++ x.0.1 = ap (λ (b : List ℕ). tag ∷ b) t.0.parts ∙ ap (λ (b : List ℕ). b ++ x.0.1) (sym (spelled x.0.0)) in
      subst (λ (z : Entry × List ℕ). Takes (tag ∷ bytes) (entry_bytes z.0) z.1 × FitsEntry s z.0) (ok_is _ a x.2) (record { parts = parts; rest_fits = t.0.rest_fits }, whole x.0.0 t.1)

  tagged_fails : (bytes : List ℕ) (f : CodecFault) → IsBytes bytes → tagged ks entry bytes ≡ Err f → ValuesFail ks bytes f
  tagged_fails bytes f fits e = by_values (bind_err (values_at ks bytes) (λ x. Ok (entry x.0, x.1)) f e)
    where
      by_values : (values_at ks bytes ≡ Err f) ⊎ ((x : List Value × List ℕ) × (values_at ks bytes ≡ Ok x) × (◌≡◌ {A = Result (Entry × List ℕ) CodecFault} (Ok (entry x.0, x.1)) (Err f))) → ValuesFail ks bytes f
      by_values (inl bad) = values_fail ks bytes f fits bad
      by_values (inr (x, _, never)) = absurd (ok_no_err _ f never)

put_spelled : (vs : List Value) → entry_bytes (Put vs) ≡ 1 ∷ values_bytes vs
unfolding entry_bytes
put_spelled vs = refl

removal_spelled : (vs : List Value) → entry_bytes (Removal vs) ≡ 0 ∷ values_bytes vs
unfolding entry_bytes
removal_spelled vs = refl

entry_takes : (s : Shape) (bytes : List ℕ) (a : Entry × List ℕ) → IsBytes bytes → entry_at s bytes ≡ Ok a → Takes bytes (entry_bytes a.0) a.1 × FitsEntry s a.0
unfolding entry_at
entry_takes s [] a fits e = absurd cc
entry_takes s (t ∷ bytes) a fits e = by_tag t (tag_of t) (tail_fits t bytes fits) e
  where
    by_tag : (t : ℕ) → Tag t → IsBytes bytes → entry_at s (t ∷ bytes) ≡ Ok a → Takes (t ∷ bytes) (entry_bytes a.0) a.1 × FitsEntry s a.0
    by_tag t is_put fits e = tagged_takes s 1 (kinds s.columns) (λ vs. Put vs) put_spelled (λ vs is. is) bytes a fits e
    by_tag t is_removal fits e = tagged_takes s 0 (key_kinds s) (λ vs. Removal vs) removal_spelled (λ vs is. is) bytes a fits e
    by_tag t (is_none removes puts) fits e = absurd (ok_no_err a BadTag (sym e ∙ entry_untagged s t bytes removes puts))

entry_again : (s : Shape) (e : Entry) (rest : List ℕ) → FitsEntry s e → entry_at s (entry_bytes e ++ rest) ≡ Ok (e, rest)
entry_again s (Put row) rest fits =
    ap (λ (b : List ℕ). entry_at s (b ++ rest)) (put_spelled row) ∙ entry_put s (values_bytes row ++ rest)
    ∙ ap (λ (o : Result (List Value × List ℕ) CodecFault). o >>= λ a. Ok (Put a.0, a.1)) (values_again (kinds s.columns) row rest fits)
entry_again s (Removal key) rest fits =
    ap (λ (b : List ℕ). entry_at s (b ++ rest)) (removal_spelled key) ∙ entry_removal s (values_bytes key ++ rest)
    ∙ ap (λ (o : Result (List Value × List ℕ) CodecFault). o >>= λ a. Ok (Removal a.0, a.1)) (values_again (key_kinds s) key rest fits)

entry_fails : (s : Shape) (bytes : List ℕ) (f : CodecFault) → IsBytes bytes → entry_at s bytes ≡ Err f → EntryFails s bytes f
unfolding entry_at
entry_fails s [] f fits e = subst (EntryFails s []) (err_is Short f e) fault.empty
entry_fails s (t ∷ bytes) f fits e = by_tag t (tag_of t) (tail_fits t bytes fits) e
  where
    by_tag : (t : ℕ) → Tag t → IsBytes bytes → entry_at s (t ∷ bytes) ≡ Err f → EntryFails s (t ∷ bytes) f
    by_tag t is_put fits e = fault.put (tagged_fails s 1 (kinds s.columns) (λ vs. Put vs) put_spelled (λ vs is. is) bytes f fits e)
    by_tag t is_removal fits e = fault.removal (tagged_fails s 0 (key_kinds s) (λ vs. Removal vs) removal_spelled (λ vs is. is) bytes f fits e)
    by_tag t (is_none removes puts) fits e = subst (EntryFails s (t ∷ bytes)) (err_is BadTag f (sym (entry_untagged s t bytes removes puts) ∙ e)) (fault.no_tag removes puts)

entry_refuses : {s : Shape} {bytes : List ℕ} {f : CodecFault} → EntryFails s bytes f → entry_at s bytes ≡ Err f
unfolding entry_at
entry_refuses fault.empty = refl
entry_refuses {s = s} (fault.no_tag {tag = t} {bytes = bytes} removes puts) = entry_untagged s t bytes removes puts
entry_refuses {s = s} (fault.put {bytes = bytes} {fault = f} bad) = entry_put s bytes ∙ ap (λ (o : Result (List Value × List ℕ) CodecFault). o >>= λ a. Ok (Put a.0, a.1)) (values_refuse bad)
entry_refuses {s = s} (fault.removal {bytes = bytes} {fault = f} bad) = entry_removal s bytes ∙ ap (λ (o : Result (List Value × List ℕ) CodecFault). o >>= λ a. Ok (Removal a.0, a.1)) (values_refuse bad)

pub entry_field : (s : Shape) → IsField (entry_at s) entry_bytes (FitsEntry s) (EntryFails s)
entry_field s = record { takes = entry_takes s; again = entry_again s; fails = entry_fails s; refuses = λ bytes f bad. entry_refuses bad }
