-- Collections.
use Rattle.std.proofs.Common.{◌≡◌, ◌⊎◌, inl, inr, ℕ, zero, suc, ◌<◌, Bool, true, false, ◌&&◌, ◌||◌, List, [], ◌∷◌, ◌++◌, map, refl, ap, sym, ◌∙◌, arith}
use Rattle.std.specs.Prelude.{nat_eq}
use Rattle.std.specs.List.{list_any, list_all, flat_map}
use Rattle.std.proofs.lemmas.List.Concat.{flat_map-cons}
use Rattle.std.proofs.lemmas.List.Folds.{list_any-append}
use Rattle.nova_path.specs.Intervals.{block_of}
use Rattle.nova_path.specs.declared.interval.Interval.{Interval}
use Rattle.nova_meta.specs.Catalog.{Shelved, indices}

-- a block of a list of channels
any_of_map : (b : ℕ) (xs : List Interval) → list_any (nat_eq b) (map block_of xs) ≡ list_any (λ (x : Interval). nat_eq b x.block) xs
any_of_map b [] = refl
any_of_map b (x ∷ xs) = ap (λ t. nat_eq b x.block || t) (any_of_map b xs)

pub any_of_shelves : (b : ℕ) (ss : List Shelved) → list_any (nat_eq b) (flat_map (λ (s : Shelved). map block_of s.intervals) ss) ≡ list_any (λ (s : Shelved). list_any (λ (x : Interval). nat_eq b x.block) s.intervals) ss
any_of_shelves b [] = refl
any_of_shelves b (s ∷ ss) =
    ap (list_any (nat_eq b)) (flat_map-cons (λ (t : Shelved). map block_of t.intervals) s ss)
    ∙ list_any-append (nat_eq b) (map block_of s.intervals) (flat_map (λ (t : Shelved). map block_of t.intervals) ss)
    ∙ (λ k. any_of_map b s.intervals k || any_of_shelves b ss k)

pub all_alike : {X : Type 0} (p q : X → Bool) → ((x : X) → p x ≡ q x) → (xs : List X) → list_all p xs ≡ list_all q xs
all_alike p q same [] = refl
all_alike p q same (x ∷ xs) = λ k. same x k && all_alike p q same xs k

-- of the numbers below n
all_split : {X : Type 0} (p : X → Bool) (xs ys : List X) → list_all p (xs ++ ys) ≡ (list_all p xs && list_all p ys)
all_split p [] ys = refl
all_split p (x ∷ xs) ys = ap (λ t. p x && t) (all_split p xs ys) ∙ regroup (p x) (list_all p xs) (list_all p ys)
  where
    regroup : (a b c : Bool) → (a && (b && c)) ≡ ((a && b) && c)
    regroup true b c = refl
    regroup false b c = refl

pub one_index_more : (p : ℕ → Bool) (n : ℕ) → list_all p (indices n) ≡ true → p n ≡ true → list_all p (indices (suc n)) ≡ true
one_index_more p n so_far here = all_split p (indices n) (n ∷ []) ∙ both (list_all p (indices n)) (p n) so_far here
  where
    both : (a b : Bool) → a ≡ true → b ≡ true → (a && (b && true)) ≡ true
    both true true e f = refl
    both true false e f = cc
    both false b e f = cc

last_fails : (a b : Bool) → b ≡ false → (a && (b && true)) ≡ false
last_fails true false e = refl
last_fails true true e = cc
last_fails false b e = refl

one_fails : (a b : Bool) → a ≡ false → (a && (b && true)) ≡ false
one_fails false b e = refl
one_fails true b e = cc

pub one_index_fails : (p : ℕ → Bool) (n k : ℕ) → k < n → p k ≡ false → list_all p (indices n) ≡ false
one_index_fails p zero k lt fails = absurd (omega arith)
one_index_fails p (suc n) k lt fails =
    let split : (k ≡ n) ⊎ (k < n) = grind arith in
    all_split p (indices n) (n ∷ []) ∙ elim split as (λ _. (list_all p (indices n) && (p n && true)) ≡ false) [
      | inl e ↦ last_fails (list_all p (indices n)) (p n) (ap p (sym e) ∙ fails)
      | inr l ↦ one_fails (list_all p (indices n)) (p n) (one_index_fails p n k l fails)
    ]

pub and_right : (a b : Bool) → b ≡ false → false ≡ (a && b)
and_right true b e = sym e
and_right false b e = refl
