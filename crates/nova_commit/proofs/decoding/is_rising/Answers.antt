use Rattle.std.proofs.Common.{◌≡◌, ◌<◌, true, ℕ, List, [], ◌∷◌, length, refl, sym, ◌∙◌, arith}
use Rattle.nova_commit.specs.Commits.{rise}
use Rattle.nova_commit.proofs.Rising.{rise_in_order}
use Rattle.nova_commit.proofs.decoding.is_rising.Goals as goal

short_rises : (xs : List ℕ) → length xs < 2 → rise xs ≡ true
short_rises [] lt = refl
short_rises (x ∷ []) lt = refl
short_rises (x ∷ (y ∷ ys)) lt = absurd (omega arith)

pub returns-clause-rise : goal.returns-clause-rise
returns-clause-rise c = sym (short_rises c.loop-rest.rest.now c.in_default.len_below) ∙ c.loop-rest.invariant

pub returns-clause-order : goal.returns-clause-order
returns-clause-order c = λ e. rise_in_order c.args.numbers.now (sym (sym (short_rises c.loop-rest.rest.now c.in_default.len_below) ∙ c.loop-rest.invariant))
