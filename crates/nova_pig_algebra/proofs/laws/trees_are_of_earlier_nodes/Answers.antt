use Rattle.nova_pig_algebra.proofs.TreesOfNodes.{tree_is}
use Rattle.nova_pig_algebra.proofs.laws.trees_are_of_earlier_nodes.Goals as goal

pub returns : goal.returns
returns c = tree_is
