use Rattle.std.proofs.Common.{◌≡◌, map, take}
use Rattle.nova_pig_algebra.specs.Meaning as meaning
use Rattle.nova_pig_algebra.specs.Tree as tree
use Rattle.nova_pig_slow.proofs.groups.group_rows.Given as goal

abbrev pub invariant-loop-by : goal.invariant-loop-by
invariant-loop-by l = l.all.items ≡ map (λ by. meaning.made l.items by (meaning.calls_over (tree.members l.columns l.rows by))) (take l.by-index l.bys)
