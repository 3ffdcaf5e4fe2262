use Rattle.std.proofs.Common.{◌≡◌, ℕ, Option, Some, map, ap, sym, ◌∙◌}
use Rattle.nova_pig_algebra.specs.Plan.{Plan, tree_of_plan}
use Rattle.nova_pig_algebra.specs.Tree.{tree_at, trees}
use Rattle.nova_pig_rows.specs.ChainRows.{chain_row}
use Rattle.nova_pig_rows.specs.Outcomes.{called}
use Rattle.nova_state.specs.Plan.{parts}
use Rattle.nova_state.specs.Calls.{tree_of_source}
use Rattle.nova_state.proofs.PlanFacts as lemma
use Rattle.nova_state.proofs.plan.share_of.Goals as goal

pub returns-in_default : goal.returns-in_default
returns-in_default c =
    let h = c.requires in
    lemma.no_group c.args.plan.now c.args.row.now
    (c.in_default.ensures ∙ (λ i. parts (tree_at (trees (c.nodes.ensures.nodes i)) (c.stored.ensures i))) ∙ ap (λ (q : Plan). parts (tree_of_plan q)) c.plan-plan.ensures.plan)

pub returns-in_default-source : goal.returns-in_default-source
returns-in_default-source c =
    let h = c.requires in
    let e = c.in-Some.ensures ∙ (λ i. parts (tree_at (trees (c.nodes.ensures.nodes i)) (c.stored.ensures i))) ∙ ap (λ (q : Plan). parts (tree_of_plan q)) c.plan-plan.ensures.plan in
    lemma.no_source c.args.plan.now c.args.row.now _ _ _ e (ap (tree_of_source c.nodes.result.now) c.in_default-source.is)

pub returns-in_ok-share_from-in-Some-2 : goal.returns-in_ok-share_from-in-Some-2
returns-in_ok-share_from-in-Some-2 c =
    let h = c.requires in
    let e = c.in-Some.ensures ∙ (λ i. parts (tree_at (trees (c.nodes.ensures.nodes i)) (c.stored.ensures i))) ∙ ap (λ (q : Plan). parts (tree_of_plan q)) c.plan-plan.ensures.plan in
    let nodes = c.nodes-2.ensures.nodes ∙ sym c.nodes.ensures.nodes in
    let row : Some c.in-Some-2.row ≡ chain_row (tree_of_source c.nodes.result.now c.in-Some.parts.source) c.args.row.now =
    sym c.in-Some-2.is ∙ c.in_ok-row.ensures ∙ (λ i. chain_row (tree_at (trees (nodes i)) c.in-Some-source.source) c.args.row.now) ∙ ap (λ (o : Option ℕ). chain_row (tree_of_source c.nodes.result.now o) c.args.row.now) (sym c.in-Some-source.is) in
    lemma.its_share c.args.plan.now c.args.row.now _ _ _ e c.in-Some-2.row row (map called c.args.calls.now) h c.in_ok-share_from-in-Some-2.field-0 c.in_ok-share_from-in-Some-2.ensures

pub returns-in-None : goal.returns-in-None
returns-in-None c =
    let h = c.requires in
    let e = c.in-Some.ensures ∙ (λ i. parts (tree_at (trees (c.nodes.ensures.nodes i)) (c.stored.ensures i))) ∙ ap (λ (q : Plan). parts (tree_of_plan q)) c.plan-plan.ensures.plan in
    let nodes = c.nodes-2.ensures.nodes ∙ sym c.nodes.ensures.nodes in
    lemma.no_row c.args.plan.now c.args.row.now _ _ _ e
    (sym c.in-None.is ∙ c.in_ok-row.ensures ∙ (λ i. chain_row (tree_at (trees (nodes i)) c.in-Some-source.source) c.args.row.now) ∙ ap (λ (o : Option ℕ). chain_row (tree_of_source c.nodes.result.now o) c.args.row.now) (sym c.in-Some-source.is))
