use Rattle.std.proofs.Common.{[], ◌∷◌, inl, inr, refl}
use Rattle.nova_outside.specs.Laws.{NowIsSince}
use Rattle.nova_outside.proofs.Moments.{only_now}
use Rattle.nova_outside.proofs.Outcomes.{stays}
use Rattle.nova_outside.proofs.laws.crash_laws.Goals as goal

pub returns-clause-reading : goal.returns-clause-reading
returns-clause-reading c = λ h valid n. stays h n valid

pub returns-clause-now : goal.returns-clause-now
returns-clause-now c = is_since
  where
    is_since : NowIsSince
    is_since [] moment image said le now = now
    is_since (event ∷ earlier) moment image said le now = inl now

pub returns-clause-only_now : goal.returns-clause-only_now
returns-clause-only_now c = only_now

pub returns-clause-grows : goal.returns-clause-grows
returns-clause-grows c = λ event earlier moment image said le was. inr (le, inr was)

pub returns-clause-reply : goal.returns-clause-reply
returns-clause-reply c = λ front more earlier moment image le is. inr (le, inl (is, (front, (more, refl), refl)))

pub returns-clause-after_reply : goal.returns-clause-after_reply
returns-clause-after_reply c = λ bytes earlier file. (λ outcome after. after, λ outcome before. before)
