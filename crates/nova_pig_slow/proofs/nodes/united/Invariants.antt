use Rattle.std.proofs.Common.{◌≡◌, flat_map, map, take}
use Rattle.nova_pig_algebra.specs.Tree as tree
use Rattle.nova_pig_slow.proofs.nodes.united.Given as goal

abbrev pub invariant-loop-arm : goal.invariant-loop-arm
invariant-loop-arm l = l.all.items ≡ flat_map (tree.rows_at (map (λ t. t.items) l.done)) (take l.arm-index l.arms)
