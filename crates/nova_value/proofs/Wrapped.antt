-- A whole number is congruent to exactly one number of 64 bits.
use Rattle.std.specs.Prelude.{◌≡◌, ℕ, ◌+◌, ◌-◌, ◌<◌, ◌≤◌, ◌^◌, ◌/◌, ◌%◌, ℤ, pos, negsuc, ◌+ℤ◌, ◌*ℤ◌, neg_ℤ}
use Rattle.std.specs.Int.{int_wrap, w64}
use Rattle.std.specs.Int.RustNames.{FitsSigned}
use Rattle.std.proofs.Common.{arith, ◌⊎◌, inl, inr, sym, subst, ◌∙◌}
use Rattle.std.proofs.lemmas.Bool.{cases_lt}
use Rattle.std.proofs.lemmas.Int.{ints, SFits-int_wrap}
use Rattle.nova_value.specs.Rows.{IsLong}
use Rattle.nova_value.specs.Wrapped.{wrapped, IsWrapped}
use Rattle.nova_value.specs.Statements.{WrapsToOne}

-- an `i64` is one
long_from_fits : (n : ℤ) → FitsSigned w64 n → IsLong n
long_from_fits (pos n) h = grind (arith, ints)
long_from_fits (negsuc n) h = grind (arith, ints)

wrapped_long : (x : ℤ) → IsLong (wrapped x)
wrapped_long x = long_from_fits (int_wrap w64 x) (SFits-int_wrap w64 x)

small : (a : ℕ) → a % 2 ^ 64 < 2 ^ 63 → wrapped (pos a) ≡ pos (a % 2 ^ 64)
unfolding int_wrap
small a h = grind (arith, ints)

large : (a : ℕ) → 2 ^ 63 ≤ a % 2 ^ 64 → wrapped (pos a) +ℤ pos (2 ^ 64) ≡ pos (a % 2 ^ 64)
unfolding int_wrap
large a h = grind (arith, ints)

small_minus : (a : ℕ) → 2 ^ 64 - 1 - a % 2 ^ 64 < 2 ^ 63 → wrapped (negsuc a) ≡ pos (2 ^ 64 - 1 - a % 2 ^ 64)
unfolding int_wrap
small_minus a h = grind (arith, ints)

large_minus : (a : ℕ) → 2 ^ 63 ≤ 2 ^ 64 - 1 - a % 2 ^ 64 → wrapped (negsuc a) +ℤ pos (2 ^ 64) ≡ pos (2 ^ 64 - 1 - a % 2 ^ 64)
unfolding int_wrap
large_minus a h = grind (arith, ints)

by_small : (a : ℕ) (n : ℤ) → n ≡ pos (a % 2 ^ 64) → pos a ≡ n +ℤ pos (a / 2 ^ 64) *ℤ pos (2 ^ 64)
by_small a n is = omega (arith, ints, is)

by_large : (a : ℕ) (n : ℤ) → n +ℤ pos (2 ^ 64) ≡ pos (a % 2 ^ 64) → pos a ≡ n +ℤ pos (a / 2 ^ 64 + 1) *ℤ pos (2 ^ 64)
by_large a n is = omega (arith, ints, is)

by_small_minus : (a : ℕ) (n : ℤ) → n ≡ pos (2 ^ 64 - 1 - a % 2 ^ 64) → negsuc a ≡ n +ℤ negsuc (a / 2 ^ 64) *ℤ pos (2 ^ 64)
by_small_minus a n is = omega (arith, ints, is)

by_large_minus : (a : ℕ) (n : ℤ) → n +ℤ pos (2 ^ 64) ≡ pos (2 ^ 64 - 1 - a % 2 ^ 64) → negsuc a ≡ n +ℤ neg_ℤ (pos (a / 2 ^ 64)) *ℤ pos (2 ^ 64)
by_large_minus a n is = omega (arith, ints, is)

wrapped_pos : (a : ℕ) → (a % 2 ^ 64 < 2 ^ 63) ⊎ (2 ^ 63 ≤ a % 2 ^ 64) → IsWrapped (pos a) (wrapped (pos a))
wrapped_pos a (inl h) = record { long = wrapped_long (pos a); times = pos (a / 2 ^ 64); congruent = by_small a (wrapped (pos a)) (small a h) }
wrapped_pos a (inr h) = record { long = wrapped_long (pos a); times = pos (a / 2 ^ 64 + 1); congruent = by_large a (wrapped (pos a)) (large a h) }

wrapped_minus : (a : ℕ) → (2 ^ 64 - 1 - a % 2 ^ 64 < 2 ^ 63) ⊎ (2 ^ 63 ≤ 2 ^ 64 - 1 - a % 2 ^ 64) → IsWrapped (negsuc a) (wrapped (negsuc a))
wrapped_minus a (inl h) = record { long = wrapped_long (negsuc a); times = negsuc (a / 2 ^ 64); congruent = by_small_minus a (wrapped (negsuc a)) (small_minus a h) }
wrapped_minus a (inr h) = record { long = wrapped_long (negsuc a); times = neg_ℤ (pos (a / 2 ^ 64)); congruent = by_large_minus a (wrapped (negsuc a)) (large_minus a h) }

pub wrapped_is : (x : ℤ) → IsWrapped x (wrapped x)
wrapped_is (pos a) = wrapped_pos a (cases_lt (a % 2 ^ 64) (2 ^ 63))
wrapped_is (negsuc a) = wrapped_minus a (cases_lt (2 ^ 64 - 1 - a % 2 ^ 64) (2 ^ 63))

alike : (n w t u : ℤ) → IsLong n → IsLong w → n +ℤ t *ℤ pos (2 ^ 64) ≡ w +ℤ u *ℤ pos (2 ^ 64) → n ≡ w
alike (pos n) (pos w) t u h k e = omega (arith, ints, h, k, e)
alike (pos n) (negsuc w) t u h k e = omega (arith, ints, h, k, e)
alike (negsuc n) (pos w) t u h k e = omega (arith, ints, h, k, e)
alike (negsuc n) (negsuc w) t u h k e = omega (arith, ints, h, k, e)

-- and it is the only one
pub only_wrapped : (x n : ℤ) → IsWrapped x n → n ≡ wrapped x
only_wrapped x n is = let w = wrapped_is x in alike n (wrapped x) is.times w.times is.long w.long (sym is.congruent ∙ w.congruent)

pub wraps_to_one : WrapsToOne
wraps_to_one x n = (λ is. only_wrapped x n is, λ same. subst (IsWrapped x) (sym same) (wrapped_is x))
