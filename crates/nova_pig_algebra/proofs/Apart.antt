-- The laws on keys and on constants of plans.
use Rattle.nova_pig_algebra.specs.Tree.{tree_at, trees}
use Rattle.nova_pig_algebra.specs.Keys.{facts}
use Rattle.nova_pig_algebra.specs.Plan.{tree_of_plan}
use Rattle.nova_pig_algebra.specs.Statements.{KeysTellRowsApart, NodeKeysTellRowsApart, ConstantsHold}
use Rattle.nova_pig_algebra.proofs.Values.{constant_is}
use Rattle.nova_pig_algebra.proofs.Keyed.{has_constants, keyed_at}
use Rattle.nova_pig_algebra.proofs.Even.{nodes_even, plan_even}

pub keys_tell : KeysTellRowsApart
keys_tell p is key k tables are = keyed_at p.inputs tables are (tree_of_plan p) (plan_even p is) key k

pub node_keys_tell : NodeKeysTellRowsApart
node_keys_tell p is n key k tables are = keyed_at p.inputs tables are (tree_at (trees p.nodes) n) (nodes_even p is n) key k

pub constants_hold : ConstantsHold
constants_hold p is n column v e tables are row i =
    let t = tree_at (trees p.nodes) n in
    constant_is (facts p.inputs t).constants row column v (has_constants p.inputs tables are t (nodes_even p is n) row i) e
