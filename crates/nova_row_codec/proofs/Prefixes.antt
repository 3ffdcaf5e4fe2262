-- Bytes that stay in prefix.
use Rattle.std.proofs.Common.{◌≡◌, ℕ, List, [], ◌∷◌, ◌++◌, length, take, true, false, Result, Ok, Err, OnErr, refl, subst}
use Rattle.std.specs.Str.{IsUtf8, is_utf8}
use Rattle.std.proofs.lemmas.Str.{IsUtf8-from_is_utf8}

-- what is in prefix of a prefix is in prefix
prefixes : (old more new : List ℕ) → take (length (old ++ more)) new ≡ old ++ more → take (length old) new ≡ old
prefixes [] more new is = refl
prefixes (b ∷ old) more [] is = cc
prefixes (b ∷ old) more (c ∷ new) is =
    let rest : take (length (old ++ more)) new ≡ old ++ more = cc in
    let first : c ≡ b = cc in
    let kept = prefixes old more new rest in
    λ i. first i ∷ kept i

pub kept_after : (old more mid new : List ℕ) → mid ≡ old ++ more → take (length mid) new ≡ mid → take (length old) new ≡ old
kept_after old more mid new is kept = prefixes old more new (subst (λ (m : List ℕ). take (length m) new ≡ m) is kept)

pub on_err : {T E P : Type 0} (r : Result T E) → P → OnErr r P
on_err (Ok x) p = tt
on_err (Err e) p = p

pub not_utf8 : (bs : List ℕ) → (IsUtf8 bs → ⊥) → is_utf8 bs ≡ false
not_utf8 bs isnt = elim (is_utf8 bs) as (λ b. is_utf8 bs ≡ b → b ≡ false) [ true ↦ λ e. absurd (isnt (IsUtf8-from_is_utf8 bs e)) | false ↦ λ e. refl ] refl
