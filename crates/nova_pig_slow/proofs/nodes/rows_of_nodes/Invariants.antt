use Rattle.std.proofs.Common.{[], map, take}
use Rattle.nova_pig_algebra.specs.Tree as tree
use Rattle.nova_pig_slow.specs.Done.{AreRowsOf}
use Rattle.nova_pig_slow.proofs.nodes.rows_of_nodes.Given as goal

abbrev pub invariant-loop-node : goal.invariant-loop-node
invariant-loop-node l = AreRowsOf (map (λ t. t.items) l.tables) (tree.trees_after l.nodes [] (take l.node-index l.nodes)) (map (λ t. t.items) l.done.items)
