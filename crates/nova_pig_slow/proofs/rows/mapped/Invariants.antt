use Rattle.std.proofs.Common.{◌≡◌, map, take}
use Rattle.nova_pig_algebra.specs.Meaning as meaning
use Rattle.nova_pig_slow.proofs.rows.mapped.Given as goal

abbrev pub invariant-loop-row : goal.invariant-loop-row
invariant-loop-row l = l.all.items ≡ map (λ row. meaning.made l.items row meaning.no_calls) (take l.row-index l.rows)
