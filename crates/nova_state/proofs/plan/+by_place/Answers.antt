use Rattle.std.proofs.Common.{List, refl, ap, ◌∙◌}
use Rattle.nova_pig_algebra.specs.declared.node.PlanExpr.{PlanExpr}
use Rattle.nova_pig_algebra.specs.Tree.{tree_at, trees}
use Rattle.nova_state.specs.Plan as spec
use Rattle.nova_state.proofs.PlanNodes as lemma
use Rattle.nova_state.proofs.plan.+by_place.Goals as goal

pub returns-then-from-node : goal.returns-then-from-node
returns-then-from-node t c = lemma.filter_late_place c.args.nodes.now c.args.node c.args.place c.in-Some-Filter.from c.in-Some-Filter.field-0-1 (rw c.in-Some-Filter.field-0-is at c.in-Some-Filter.ensures) c.if-from-node.true

pub returns-else-from-node : goal.returns-else-from-node
returns-else-from-node t c = lemma.filter_place c.args.nodes.now c.args.node c.args.place c.in-Some-Filter.from c.in-Some-Filter.field-0-1 (rw c.in-Some-Filter.field-0-is at c.in-Some-Filter.ensures) c.if-from-node.false c.by_place.result c.by_place.ensures

pub returns-in-Some : goal.returns-in-Some
returns-in-Some t c =
    c.item_place-at.ensures ∙ ap (λ (items : List PlanExpr). spec.item_place items c.args.place) c.as_slice.ensures
    ∙ lemma.group_place c.args.nodes.now c.args.node c.args.place c.in-Some-Foreach.from c.in-Some-Foreach.items (rw c.in-Some-Foreach.field-0-is at c.in-Some-Foreach.ensures) _ c.in-Some.ensures

pub returns-then-from-node-2 : goal.returns-then-from-node-2
returns-then-from-node-2 t c = lemma.foreach_late_place c.args.nodes.now c.args.node c.args.place c.in-Some-Foreach.from c.in-Some-Foreach.items (rw c.in-Some-Foreach.field-0-is at c.in-Some-Foreach.ensures) c.in_default.ensures c.if-from-node-2.true

pub returns-else-from-node-2 : goal.returns-else-from-node-2
returns-else-from-node-2 t c =
    lemma.foreach_place c.args.nodes.now c.args.node c.args.place c.in-Some-Foreach.from c.in-Some-Foreach.items (rw c.in-Some-Foreach.field-0-is at c.in-Some-Foreach.ensures) c.in_default.ensures c.if-from-node-2.false
    c.by_place-in-Some-Foreach.result
    (c.by_place-in-Some-Foreach.ensures ∙ ap (spec.by_place (tree_at (trees c.args.nodes.now) c.in-Some-Foreach.from)) (c.item_place-at.ensures ∙ ap (λ (items : List PlanExpr). spec.item_place items c.args.place) c.as_slice.ensures))

pub returns-in-Some-Load : goal.returns-in-Some-Load
returns-in-Some-Load t c = lemma.no_place c.args.nodes.now c.args.node c.args.place _ (rw c.in-Some-Load.field-0-is at c.in-Some-Load.ensures) (λ ts. refl)

pub returns-in-Some-Group : goal.returns-in-Some-Group
returns-in-Some-Group t c = lemma.no_place c.args.nodes.now c.args.node c.args.place _ (rw c.in-Some-Group.field-0-is at c.in-Some-Group.ensures) (λ ts. refl)

pub returns-in-Some-Join : goal.returns-in-Some-Join
returns-in-Some-Join t c = lemma.no_place c.args.nodes.now c.args.node c.args.place _ (rw c.in-Some-Join.field-0-is at c.in-Some-Join.ensures) (λ ts. refl)

pub returns-in-Some-Union : goal.returns-in-Some-Union
returns-in-Some-Union t c = lemma.no_place c.args.nodes.now c.args.node c.args.place _ (rw c.in-Some-Union.field-0-is at c.in-Some-Union.ensures) (λ ts. refl)

pub returns-in-Some-Distinct : goal.returns-in-Some-Distinct
returns-in-Some-Distinct t c = lemma.no_place c.args.nodes.now c.args.node c.args.place _ (rw c.in-Some-Distinct.field-0-is at c.in-Some-Distinct.ensures) (λ ts. refl)

pub returns-in-None : goal.returns-in-None
returns-in-None t c = lemma.no_node_place c.args.nodes.now c.args.node c.args.place c.in-None.ensures
