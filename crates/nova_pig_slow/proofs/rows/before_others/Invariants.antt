use Rattle.std.proofs.Common.{◌≡◌, ◌∷◌, filter, not, take}
use Rattle.nova_pig_algebra.specs.Meaning as meaning
use Rattle.nova_pig_slow.proofs.rows.before_others.Given as goal

abbrev pub invariant-loop-other : goal.invariant-loop-other
invariant-loop-other l = l.all.items ≡ l.row ∷ filter (λ other. not (meaning.same_row l.row other)) (take l.other-index l.others)
