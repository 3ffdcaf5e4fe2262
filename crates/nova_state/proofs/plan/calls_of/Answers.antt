use Rattle.std.proofs.Common.{Option, ap, ◌∙◌}
use Rattle.nova_pig_algebra.specs.Plan.{Plan, tree_of_plan}
use Rattle.nova_pig_algebra.specs.Tree.{tree_at, trees}
use Rattle.nova_state.specs.Plan.{Parts, parts, or_nothing, calls_in, rule_of}
use Rattle.nova_state.proofs.plan.calls_of.Goals as goal

pub returns-in_ok-calls_in-in-Some : goal.returns-in_ok-calls_in-in-Some
unfolding rule_of
returns-in_ok-calls_in-in-Some c =
    c.in_ok-calls_in-in-Some.ensures
    ∙ ap (λ (o : Option Parts). calls_in (or_nothing o).items)
    (c.in-Some.ensures ∙ (λ i. parts (tree_at (trees (c.nodes.ensures.nodes i)) (c.stored.ensures i))) ∙ ap (λ (q : Plan). parts (tree_of_plan q)) c.plan-plan.ensures.plan)

pub returns-in_ok-calls_in-in-None : goal.returns-in_ok-calls_in-in-None
unfolding rule_of
returns-in_ok-calls_in-in-None c =
    c.in_ok-calls_in-in-None.ensures
    ∙ ap (λ (o : Option Parts). calls_in (or_nothing o).items)
    (c.in-None.ensures ∙ (λ i. parts (tree_at (trees (c.nodes.ensures.nodes i)) (c.stored.ensures i))) ∙ ap (λ (q : Plan). parts (tree_of_plan q)) c.plan-plan.ensures.plan)
