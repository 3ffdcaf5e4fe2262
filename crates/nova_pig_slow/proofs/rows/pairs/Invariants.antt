use Rattle.std.proofs.Common.{◌≡◌, ◌++◌, filter, map, take}
use Rattle.nova_value.specs.Rows.{key_at}
use Rattle.nova_pig_algebra.specs.Meaning as meaning
use Rattle.nova_pig_slow.proofs.rows.pairs.Given as goal

abbrev pub invariant-loop-row : goal.invariant-loop-row
invariant-loop-row l = l.all.items ≡ map (λ b. l.left ++ b) (filter (λ b. meaning.same_row (key_at l.left_by l.left) (key_at l.right_by b)) (take l.row-index l.right))
