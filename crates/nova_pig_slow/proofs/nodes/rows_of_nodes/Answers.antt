use Rattle.std.proofs.Common.{◌∷◌, [], ◌++◌, ap, map, sym, take, ◌∙◌}
use Rattle.std.proofs.lemmas.List.{map_push}
use Rattle.nova_pig_algebra.specs.Tree.{Tree, rows, tree_of, trees_after}
use Rattle.nova_pig_slow.proofs.Next.{take_next}
use Rattle.nova_pig_slow.proofs.Trees.{no_trees, one_tree_more}
use Rattle.nova_pig_slow.proofs.nodes.rows_of_nodes.Goals as goal

pub loop-node-init : goal.loop-node-init
loop-node-init c = ap (map (λ t. t.items)) c.new-done.ensures.items ∙ sym (ap (map (λ (t : Tree). rows t _)) (no_trees c.args.nodes.now))

pub loop-node-preserved : goal.loop-node-preserved
loop-node-preserved c =
    let nodes = c.args.nodes.now in
    let tables = map (λ t. t.items) c.args.tables.now in
    let rows_of = λ (t : Tree). rows t tables in
    let i = c.loop-node.node-index in
    let node = c.node-item.result in
    let ts = trees_after nodes [] (take i nodes) in
    let are = ap (map (λ t. t.items)) c.deref.ensures.value ∙ c.loop-node.invariant in
    let so_far = c.loop-node.invariant in
    let here = c.in_ok-rows.ensures ts are in
    ap (map (λ t. t.items)) c.in_ok-push.ensures.items ∙ map_push (λ t. t.items) c.loop-node.done.items c.in_ok-rows.rows
    ∙ (λ k. so_far k ++ here k ∷ [])
    ∙ sym (map_push rows_of ts (tree_of nodes ts node))
    ∙ ap (map rows_of) (sym (one_tree_more nodes [] (take i nodes) node) ∙ ap (trees_after nodes []) (take_next nodes i node c.loop-node-test.true c.node-item.is))
