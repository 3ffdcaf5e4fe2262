use Rattle.std.proofs.Common.{◌≡◌, take}
use Rattle.nova_pig_algebra.specs.Tree as tree
use Rattle.nova_pig_slow.proofs.groups.members.Given as goal

abbrev pub invariant-loop-row : goal.invariant-loop-row
invariant-loop-row l = l.all.items ≡ tree.members l.columns (take l.row-index l.rows) l.by
