use Rattle.std.proofs.Common.{◌≡◌, ap, ◌∙◌}
use Rattle.nova_pig_algebra.specs.Plan.{Plan, tree_of_plan}
use Rattle.nova_pig_algebra.specs.Tree.{tree_at, trees}
use Rattle.nova_pig_rows.specs.GroupRows.{group_row}
use Rattle.nova_pig_rows.specs.Outcomes.{look, seen}
use Rattle.nova_state.specs.Plan.{rule_of}
use Rattle.nova_state.specs.Rule.{outcomes}
use Rattle.nova_state.proofs.plan.row_of.Goals as goal

pub returns : goal.returns
unfolding rule_of
returns c =
    let h = c.requires in
    let p = rule_of c.args.plan.now in
    let g = c.args.group.now in
    let outs : seen c.deref.result.now ≡ outcomes p.calls g.members g.items =
    ap seen c.deref.ensures.value ∙ c.in_ok-outcomes.ensures ∙ (λ i. outcomes (h i) (c.members.ensures i) (c.items.ensures i)) in
    c.in_ok-row.ensures
    ∙ (λ i. group_row (tree_at (trees (c.nodes.ensures.nodes i)) (c.stored.ensures i)) (c.values.ensures i) (look (outs i)))
    ∙ ap (λ (q : Plan). group_row (tree_of_plan q) c.args.by.now (look (outcomes p.calls g.members g.items))) c.plan-plan.ensures.plan
