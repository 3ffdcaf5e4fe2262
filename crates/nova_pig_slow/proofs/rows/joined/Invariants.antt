use Rattle.std.proofs.Common.{◌≡◌, take}
use Rattle.nova_pig_algebra.specs.Tree as tree
use Rattle.nova_pig_slow.proofs.rows.joined.Given as goal

abbrev pub invariant-loop-row : goal.invariant-loop-row
invariant-loop-row l = l.all.items ≡ tree.joined l.left_by l.right_by (take l.row-index l.left) l.right
