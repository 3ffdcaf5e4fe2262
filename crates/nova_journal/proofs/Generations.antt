use Rattle.std.proofs.Common.{◌≡◌, ◌≢◌, ◌⊎◌, inl, inr, ⊎_elim, ℕ, ◌+◌, ◌*◌, ◌/◌, ◌%◌, ◌<◌, ◌≤◌, Option, None, Some, IsSome, subst, arith}
use Rattle.std.proofs.lemmas.Bool.{cases_lt}
use Rattle.nova_outside.specs.Disk.{Files, IsAfter, IsNext}
use Rattle.nova_journal.specs.Marks.{IsPassed, MarkSoFar}

apart : (a n : ℕ) → (n ≤ a) ⊎ (a < n)
apart a n = ⊎_elim (λ lt. inr lt) (λ le. inl le) (cases_lt a n)

passed_or_after : (after : Option ℕ) (n : ℕ) → IsPassed after n ⊎ IsAfter after n
passed_or_after None n = inr tt
passed_or_after (Some a) n = apart a n

pub mark_hit : (files : Files) (after : Option ℕ) (file : ℕ) → IsNext files after (Some file) → file % 4 ≡ 1 → MarkSoFar files (Some file) (Some (file / 4))
mark_hit files after file next is =
    let here : file ≡ 4 * (file / 4) + 1 = omega (arith, is) in
    (subst (λ (k : ℕ). IsSome (files k)) here next.1, λ y lt le. absurd (omega (arith, here, lt, le)))

pub mark_miss : (files : Files) (after best : Option ℕ) (file : ℕ) → IsNext files after (Some file) → file % 4 ≢ 1 → MarkSoFar files after best → MarkSoFar files (Some file) best
mark_miss files after best file next other so_far = elim best as (λ (b : Option ℕ). MarkSoFar files after b → MarkSoFar files (Some file) b) [
  | None ↦ λ h x le. ⊎_elim (λ p. h x p) (λ a. next.2 (4 * x + 1) a (below x le)) (passed_or_after after (4 * x + 1))
  | Some b ↦ λ h. (h.0, λ y lt le. ⊎_elim (λ p. h.1 y lt p) (λ a. next.2 (4 * y + 1) a (below y le)) (passed_or_after after (4 * y + 1)))
] so_far
  where
    below : (x : ℕ) → 4 * x + 1 ≤ file → 4 * x + 1 < file
    below x le = omega (arith, le, other)

-- a mark is no journal
pub mark_apart : (x y : ℕ) → 4 * y + 1 ≢ 4 * x
mark_apart x y = λ is. omega (arith, is)
