-- Reading one value after the other, as a loop does.
use Rattle.std.proofs.Common.{◌≡◌, ◌≢◌, ℕ, zero, suc, ◌+◌, ◌<◌, ◌≤◌, List, [], ◌∷◌, ◌++◌, length, drop, get_or, Result, Ok, Err, refl, sym, ap, ◌∙◌, append_assoc, arith, add-one, drop-cons}
use Rattle.std.proofs.lemmas.List.{append-nil}
use Rattle.nova_value.specs.declared.value.Value.{Value}
use Rattle.nova_value.specs.declared.value.Kind.{Kind}
use Rattle.nova_row_codec.specs.declared.fault.CodecFault.{CodecFault}
use Rattle.nova_row_codec.specs.declared.fault.CodecFault.TheVariants.{Short, BadTag, BadText, OutOfOrder, NoMemory}
use Rattle.nova_row_codec.specs.Reading.{◌>>=◌, Fails, value_at, values_at}

abbrev Values : Type 0
Values = Result (List Value × List ℕ) CodecFault

-- what was read before, and what is still read
abbrev pub with_prefix : List Value → Values → Values
with_prefix prefix read = read >>= λ a. Ok (prefix ++ a.0, a.1)

regroup : (prefix : List Value) (v : Value) (read : Values) → with_prefix prefix (read >>= λ a. Ok (v ∷ a.0, a.1)) ≡ with_prefix (prefix ++ v ∷ []) read
regroup prefix v (Ok a) = ap (λ (ws : List Value). Ok (ws, a.1)) (simp append_assoc)
regroup prefix v (Err f) = refl

-- a fault of a value is one of the values
fault_of : (e : CodecFault) {X Y : Type 0} (r : Result X CodecFault) (s : Result Y CodecFault) → ((f : CodecFault) → r ≡ Err f → s ≡ Err f) → Fails e r → Fails e s
fault_of NoMemory r s h is = tt
fault_of Short r s h is = h _ is
fault_of BadTag r s h is = h _ is
fault_of BadText r s h is = h _ is
fault_of OutOfOrder r s h is = h _ is

module _ (prefix : List Value) (i : ℕ) (ks : List Kind) (d : Kind) (bytes : List ℕ) (total : Values) (within : i < length ks) (so_far : with_prefix prefix (values_at (drop i ks) bytes) ≡ total) where
  one : with_prefix prefix (value_at (get_or ks i d) bytes >>= λ a. values_at (drop (i + 1) ks) a.1 >>= λ b. Ok (a.0 ∷ b.0, b.1)) ≡ total
  unfolding values_at
  one = sym (rw (drop-cons ks i d within, add-one) refl) ∙ so_far

  pub goes_on : (v : Value) (after : List ℕ) → value_at (get_or ks i d) bytes ≡ Ok (v, after) → with_prefix (prefix ++ v ∷ []) (values_at (drop (i + 1) ks) after) ≡ total
  goes_on v after is = sym (ap (λ (r : Result (Value × List ℕ) CodecFault). with_prefix prefix (r >>= λ a. values_at (drop (i + 1) ks) a.1 >>= λ b. Ok (a.0 ∷ b.0, b.1))) is ∙ regroup prefix v _) ∙ one

  pub ends : (e : CodecFault) → Fails e (value_at (get_or ks i d) bytes) → Fails e total
  ends e = fault_of e _ _ (λ f is. sym one ∙ ap (λ (r : Result (Value × List ℕ) CodecFault). with_prefix prefix (r >>= λ a. values_at (drop (i + 1) ks) a.1 >>= λ b. Ok (a.0 ∷ b.0, b.1))) is)

pub drop_past : {A : Type 0} (i : ℕ) (xs : List A) → length xs ≤ i → drop i xs ≡ []
drop_past zero [] h = refl
drop_past zero (x ∷ xs) h = absurd (omega arith)
drop_past (suc i) [] h = refl
drop_past (suc i) (x ∷ xs) h = drop_past i xs (omega arith)

pub is_done : (prefix : List Value) (i : ℕ) (ks : List Kind) (bytes : List ℕ) (total : Values) → length ks ≤ i → with_prefix prefix (values_at (drop i ks) bytes) ≡ total → total ≡ Ok (prefix, bytes)
unfolding values_at
is_done prefix i ks bytes total past so_far = sym so_far ∙ rw (drop_past i ks past) (ap (λ (vs : List Value). Ok (vs, bytes)) (append-nil prefix))

pub failed : {X : Type 0} (e : CodecFault) (r : Result X CodecFault) → e ≢ NoMemory → Fails e r → r ≡ Err e
failed NoMemory r other is = absurd (other refl)
failed Short r other is = is
failed BadTag r other is = is
failed BadText r other is = is
failed OutOfOrder r other is = is
