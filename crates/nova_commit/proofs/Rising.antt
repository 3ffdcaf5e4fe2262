-- Numbers that rise.
use Rattle.std.proofs.Common.{◌≡◌, ℕ, zero, suc, ◌<◌, ◌≤◌, Bool, true, false, ◌&&◌, List, [], ◌∷◌, length, get_or, refl, arith}
use Rattle.std.specs.Prelude.{nat_lt}
use Rattle.std.proofs.lemmas.Bool.Decides.{nat_tests}
use Rattle.nova_commit.specs.Commits.{rise}

and_both : (a b : Bool) → (a && b) ≡ true → (a ≡ true) × (b ≡ true)
and_both true b e = (refl, e)
and_both false b e = cc

-- numbers that rise are in order
below : (x y : ℕ) → nat_lt x y ≡ true → x < y
below x y e = grind (arith, nat_tests)

-- the first of numbers that rise is the least
first_least : (x : ℕ) (xs : List ℕ) → rise (x ∷ xs) ≡ true → (j d : ℕ) → j < length (x ∷ xs) → x ≤ get_or (x ∷ xs) j d
first_least x xs e zero d lt = omega arith
first_least x [] e (suc j) d lt = absurd (omega arith)
first_least x (y ∷ ys) e (suc j) d lt =
    let both = and_both (nat_lt x y) (rise (y ∷ ys)) e in
    omega (arith, below x y both.0, first_least y ys both.1 j d (omega arith))

tail_rises : (x : ℕ) (xs : List ℕ) → rise (x ∷ xs) ≡ true → rise xs ≡ true
tail_rises x [] e = refl
tail_rises x (y ∷ ys) e = (and_both (nat_lt x y) (rise (y ∷ ys)) e).1

pub rise_in_order : (xs : List ℕ) → rise xs ≡ true → (i j d : ℕ) → i ≤ j → j < length xs → get_or xs i d ≤ get_or xs j d
rise_in_order [] e i j d le lt = absurd (omega arith)
rise_in_order (x ∷ xs) e zero j d le lt = first_least x xs e j d lt
rise_in_order (x ∷ xs) e (suc i) zero d le lt = absurd (omega arith)
rise_in_order (x ∷ xs) e (suc i) (suc j) d le lt = rise_in_order xs (tail_rises x xs e) i j d (omega arith) (omega arith)
