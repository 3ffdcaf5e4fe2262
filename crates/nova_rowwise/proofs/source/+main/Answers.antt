use Rattle.std.proofs.Common.{ap, sym, ◌∙◌}
use Rattle.nova_rowwise.specs.Derived.{main_of}
use Rattle.nova_pig_algebra.proofs.TreesOfNodes.{is_tree}
use Rattle.nova_rowwise.proofs.NodeTrees.{over_early, no_main}
use Rattle.nova_rowwise.proofs.source.+main.Goals as goal

pub main_input-returns-then-is_over_rows : goal.main_input-returns-then-is_over_rows
main_input-returns-then-is_over_rows t c =
    c.main_input.ensures
    ∙ ap main_of (sym (over_early c.args.nodes.now c.args.node c.in-Some-Foreach.from _ _ (sym c.is_over_rows.ensures.operand ∙ c.if-is_over_rows.true)) ∙ is_tree c.args.nodes.now c.args.node _ (rw c.in-Some-Foreach.field-0-is at c.in-Some-Foreach.ensures))

pub main_input-returns-in-Some-Load : goal.main_input-returns-in-Some-Load
main_input-returns-in-Some-Load t c = ap main_of (is_tree c.args.nodes.now c.args.node _ (rw c.in-Some-Load.field-0-is at c.in-Some-Load.ensures))

pub main_input-returns-in-Some-Filter : goal.main_input-returns-in-Some-Filter
main_input-returns-in-Some-Filter t c = c.earlier_main.ensures ∙ ap main_of (is_tree c.args.nodes.now c.args.node _ (rw c.in-Some-Filter.field-0-is at c.in-Some-Filter.ensures))

pub main_input-returns-else-is_over_rows : goal.main_input-returns-else-is_over_rows
main_input-returns-else-is_over_rows t c =
    sym (no_main c.args.nodes.now c.args.node c.in-Some-Foreach.from _ _ (sym c.is_over_rows.ensures.operand ∙ c.if-is_over_rows.false))
    ∙ ap main_of (is_tree c.args.nodes.now c.args.node _ (rw c.in-Some-Foreach.field-0-is at c.in-Some-Foreach.ensures))

pub main_input-returns-in-Some-Join : goal.main_input-returns-in-Some-Join
main_input-returns-in-Some-Join t c = c.earlier_main-in-Some-Join.ensures ∙ ap main_of (is_tree c.args.nodes.now c.args.node _ (rw c.in-Some-Join.field-0-is at c.in-Some-Join.ensures))

pub main_input-returns-in-Some-Union : goal.main_input-returns-in-Some-Union
main_input-returns-in-Some-Union t c =
    let e = is_tree c.args.nodes.now c.args.node _ (rw c.in-Some-Union.field-0-is at c.in-Some-Union.ensures) in
    rw (sym e, sym c.as_slice.ensures) c.first_main.ensures

pub main_input-returns-in-Some-Group : goal.main_input-returns-in-Some-Group
main_input-returns-in-Some-Group t c = ap main_of (is_tree c.args.nodes.now c.args.node _ (rw c.in-Some-Group.field-0-is at c.in-Some-Group.ensures))

pub main_input-returns-in-Some-Distinct : goal.main_input-returns-in-Some-Distinct
main_input-returns-in-Some-Distinct t c = ap main_of (is_tree c.args.nodes.now c.args.node _ (rw c.in-Some-Distinct.field-0-is at c.in-Some-Distinct.ensures))

pub main_input-returns-in-None : goal.main_input-returns-in-None
main_input-returns-in-None t c = ap main_of (is_tree c.args.nodes.now c.args.node _ c.in-None.ensures)
