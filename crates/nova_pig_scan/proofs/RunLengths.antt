-- The runs of bytes that pass a test, at the beginning of a text.
use Rattle.std.proofs.Common.{◌≡◌, ℕ, suc, ◌+◌, ◌≤◌, Bool, true, false, [], ◌∷◌, ◌++◌, length, take, refl, ap, ◌∙◌, arith, cond}
use Rattle.std.proofs.lemmas.Bool.{and_parts, and_from}
use Rattle.std.specs.Prelude.{not, ◌&&◌}
use Rattle.std.specs.List.{list_all, prefix_len}
use Rattle.nova_pig_scan.specs.Lexemes.{Text}

pub not_not : (b : Bool) → not (not b) ≡ b
not_not true = refl
not_not false = refl

pub twice : (p : ℕ → Bool) (us : Text) → list_all (λ b. not (not (p b))) us ≡ list_all p us
twice p [] = refl
twice p (b ∷ us) = ap (λ t. t && list_all (λ b. not (not (p b))) us) (not_not (p b)) ∙ ap (λ t. p b && t) (twice p us)

-- bytes of a prefix that pass are in the run
pub run_within : (p : ℕ → Bool) (us rest : Text) → list_all p us ≡ true → length us ≤ prefix_len p (us ++ rest)
run_within p [] rest h = omega arith
run_within p (b ∷ us) rest h = by (p b) ((and_parts (p b) _ h).0) (run_within p us rest ((and_parts (p b) _ h).1))
  where
    by : (t : Bool) → t ≡ true → length us ≤ prefix_len p (us ++ rest) → suc (length us) ≤ cond t (1 + prefix_len p (us ++ rest)) 0
    by true e more = omega arith
    by false e more = absurd cc

-- the bytes of the run pass
pub run_passes : (p : ℕ → Bool) (bs : Text) → list_all p (take (prefix_len p bs) bs) ≡ true
run_passes p [] = refl
run_passes p (b ∷ bs) = by (p b) refl (run_passes p bs)
  where
    by : (t : Bool) → p b ≡ t → list_all p (take (prefix_len p bs) bs) ≡ true → list_all p (take (cond t (1 + prefix_len p bs) 0) (b ∷ bs)) ≡ true
    by true e more =
        let one : 1 + prefix_len p bs ≡ suc (prefix_len p bs) = omega arith in
        ap (λ n. list_all p (take n (b ∷ bs))) one ∙ and_from (p b) _ e more
    by false e more = refl

-- a byte that doesn't pass ends the run
pub run_stops : (p : ℕ → Bool) (us : Text) (c : ℕ) (rest : Text) → list_all p us ≡ true → p c ≡ false → prefix_len p (us ++ c ∷ rest) ≡ length us
run_stops p [] c rest h e = ap (λ t. cond t (1 + prefix_len p rest) 0) e
run_stops p (b ∷ us) c rest h e = ap (λ t. cond t (1 + prefix_len p (us ++ c ∷ rest)) 0) ((and_parts (p b) _ h).0) ∙ ap (λ n. 1 + n) (run_stops p us c rest ((and_parts (p b) _ h).1) e) ∙ omega arith
