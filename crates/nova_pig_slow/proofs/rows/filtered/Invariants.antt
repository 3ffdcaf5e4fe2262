use Rattle.std.proofs.Common.{◌≡◌, filter, take}
use Rattle.nova_pig_algebra.specs.Meaning as meaning
use Rattle.nova_pig_slow.proofs.rows.filtered.Given as goal

abbrev pub invariant-loop-row : goal.invariant-loop-row
invariant-loop-row l = l.all.items ≡ filter (λ row. meaning.holds l.cond row meaning.no_calls) (take l.row-index l.rows)
