use Rattle.std.proofs.Common.{ap, flat_map, map, sym, ◌∙◌}
use Rattle.nova_pig_algebra.specs.declared.node.Node.{Node}
use Rattle.nova_pig_algebra.specs.Tree.{joined, rows, tree_of}
use Rattle.nova_pig_slow.proofs.Trees.{at_arms, at_tree}
use Rattle.nova_pig_slow.proofs.nodes.node_rows.Goals as goal

pub returns-in_ok-rows-in-Join : goal.returns-in_ok-rows-in-Join
returns-in_ok-rows-in-Join c = λ ts are.
    let tables = map (λ t. t.items) c.args.tables.now in
    let left = c.deref-in-Join.ensures.value ∙ c.in_ok-left-in-Join.ensures ∙ at_tree _ ts _ are c.in-Join.left in
    let right = c.deref-in-Join-2.ensures.value ∙ c.in_ok-right-in-Join.ensures ∙ at_tree _ ts _ are c.in-Join.right in
    let left_by = c.as_slice-in-Join.ensures in
    let right_by = c.as_slice-in-Join-2.ensures in
    c.in_ok-rows-in-Join.ensures ∙ (λ k. joined (left_by k) (right_by k) (left k) (right k)) ∙ sym (ap (λ (n : Node). rows (tree_of c.args.nodes.now ts n) tables) c.in-Join.is)

pub returns-in_ok-rows-in-Union : goal.returns-in_ok-rows-in-Union
returns-in_ok-rows-in-Union c = λ ts are.
    let tables = map (λ t. t.items) c.args.tables.now in
    c.in_ok-rows-in-Union.ensures ∙ ap (flat_map _) c.as_slice-in-Union.ensures ∙ at_arms _ ts _ are c.in-Union.arms ∙ sym (ap (λ (n : Node). rows (tree_of c.args.nodes.now ts n) tables) c.in-Union.is)
