-- The numbers behind the entries: each made from the one before.
use Rattle.std.specs.Prelude.{ℕ, zero, suc, ◌+◌, ◌*◌, ◌%◌, List, [], ◌∷◌}

abbrev pub next_number : ℕ → ℕ
next_number x = (75 * x + 74) % 65537

-- the n-th one behind x
abbrev pub number_after : ℕ → ℕ → ℕ
number_after zero x = x
number_after (suc n) x = number_after n (next_number x)

-- the n numbers behind x
abbrev pub numbers_after : ℕ → ℕ → List ℕ
numbers_after zero x = []
numbers_after (suc n) x = next_number x ∷ numbers_after n (next_number x)
