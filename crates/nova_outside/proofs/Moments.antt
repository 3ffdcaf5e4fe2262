-- What a crash leaves at each moment of a run of calls.
use Rattle.std.proofs.Common.{inl, inr, ⊎_elim, ℕ, List, [], ◌∷◌, length, arith}
use Rattle.nova_outside.specs.Disk.{Files}
use Rattle.nova_outside.specs.History.{Event, LeftNow, LeftWithin, Since, Meanwhile}

-- since this moment there is no other
pub only_now : (h : List Event) (image : Files) (said : List ℕ) → Since h (length h) image said → LeftNow h image said
only_now [] image said left = left
only_now (e ∷ h) image said (inl now) = now
only_now (e ∷ h) image said (inr early) = absurd (omega (arith, early.0))

-- before the first call
pub started : (h : List Event) (P : Files → List ℕ → Type 0) → ((image : Files) (said : List ℕ) → LeftNow h image said → P image said) → Meanwhile P h h
started h P here = record { later = omega arith; each = λ image said left. here image said (only_now h image said left); earlier = λ t image said le left. inl left }

-- one event more
pub goes_on : (P : Files → List ℕ → Type 0) (old mid : List Event) (e : Event) → Meanwhile P old mid → ((image : Files) (said : List ℕ) → LeftWithin e mid image said → P image said)
    → ((image : Files) (said : List ℕ) → LeftNow (e ∷ mid) image said → P image said) → Meanwhile P old (e ∷ mid)
goes_on P old mid e run within here = record {
  later = omega (arith, run.later);
  each = λ image said left. ⊎_elim (λ now. here image said now) (λ early. ⊎_elim (λ w. within image said w) (λ was. run.each image said was) early.1) left;
  earlier = λ t image said le left. ⊎_elim (λ now. inr (here image said now)) (λ early. ⊎_elim (λ w. inr (within image said w)) (λ was. run.earlier t image said le was) early.1) left;
}

-- one run after another
pub and_then : (P Q : Files → List ℕ → Type 0) (old mid new : List Event) → Meanwhile P old mid → Meanwhile Q mid new → ((image : Files) (said : List ℕ) → Q image said → P image said) → Meanwhile P old new
and_then P Q old mid new first second here = record {
  later = omega (arith, first.later, second.later);
  each = λ image said left. ⊎_elim (first.each image said) (here image said) (second.earlier (length old) image said first.later left);
  earlier = λ t image said le left. ⊎_elim (first.earlier t image said le) (λ now. inr (here image said now)) (second.earlier t image said (omega (arith, le, first.later)) left);
}

-- the same run, of which less is said
pub weaker : (P Q : Files → List ℕ → Type 0) (old new : List Event) → Meanwhile Q old new → ((image : Files) (said : List ℕ) → Q image said → P image said) → Meanwhile P old new
weaker P Q old new run here = record {
  later = run.later;
  each = λ image said left. here image said (run.each image said left);
  earlier = λ t image said le left. ⊎_elim (λ was. inl was) (λ now. inr (here image said now)) (run.earlier t image said le left);
}
