use Rattle.std.proofs.Common.{Some, refl, ◌∙◌}
use Rattle.std.specs.Option.{option_map}
use Rattle.nova_state.specs.Calls as calls
use Rattle.nova_state.proofs.PlanNodes as lemma
use Rattle.nova_state.proofs.plan.+parts_of.Goals as goal

pub returns-then-from-node : goal.returns-then-from-node
returns-then-from-node t c = lemma.filter_late c.args.nodes.now c.args.node c.in-Some-Filter.from c.in-Some-Filter.field-0-1 (rw c.in-Some-Filter.field-0-is at c.in-Some-Filter.ensures) c.if-from-node.true

pub returns-else-from-node : goal.returns-else-from-node
returns-else-from-node t c = lemma.filter_is c.args.nodes.now c.args.node c.in-Some-Filter.from c.in-Some-Filter.field-0-1 (rw c.in-Some-Filter.field-0-is at c.in-Some-Filter.ensures) c.if-from-node.false (option_map (calls.parts_seen c.args.nodes.now) c.parts_of.result) c.parts_of.ensures

pub returns-in-Some : goal.returns-in-Some
returns-in-Some t c =
    (λ i. Some (record { source = calls.tree_of_source c.args.nodes.now (c.earlier.ensures i); columns = c.in-Some.columns.now; items = c.as_slice.ensures i }))
    ∙ lemma.over_group c.args.nodes.now c.args.node c.in-Some-Foreach.from c.in-Some-Foreach.items (rw c.in-Some-Foreach.field-0-is at c.in-Some-Foreach.ensures) c.in-Some.source c.in-Some.columns.now c.in-Some.ensures

pub returns-then-from-node-2 : goal.returns-then-from-node-2
returns-then-from-node-2 t c = lemma.foreach_late c.args.nodes.now c.args.node c.in-Some-Foreach.from c.in-Some-Foreach.items (rw c.in-Some-Foreach.field-0-is at c.in-Some-Foreach.ensures) c.in_default.ensures c.if-from-node-2.true

pub returns-else-from-node-2 : goal.returns-else-from-node-2
returns-else-from-node-2 t c =
    lemma.foreach_is c.args.nodes.now c.args.node c.in-Some-Foreach.from c.in-Some-Foreach.items (rw c.in-Some-Foreach.field-0-is at c.in-Some-Foreach.ensures) c.in_default.ensures c.if-from-node-2.false
    (option_map (calls.parts_seen c.args.nodes.now) c.parts_of-in-Some-Foreach.result) c.parts_of-in-Some-Foreach.ensures

pub returns-in-Some-Load : goal.returns-in-Some-Load
returns-in-Some-Load t c = lemma.no_parts c.args.nodes.now c.args.node _ (rw c.in-Some-Load.field-0-is at c.in-Some-Load.ensures) (λ ts. refl)

pub returns-in-Some-Group : goal.returns-in-Some-Group
returns-in-Some-Group t c = lemma.no_parts c.args.nodes.now c.args.node _ (rw c.in-Some-Group.field-0-is at c.in-Some-Group.ensures) (λ ts. refl)

pub returns-in-Some-Join : goal.returns-in-Some-Join
returns-in-Some-Join t c = lemma.no_parts c.args.nodes.now c.args.node _ (rw c.in-Some-Join.field-0-is at c.in-Some-Join.ensures) (λ ts. refl)

pub returns-in-Some-Union : goal.returns-in-Some-Union
returns-in-Some-Union t c = lemma.no_parts c.args.nodes.now c.args.node _ (rw c.in-Some-Union.field-0-is at c.in-Some-Union.ensures) (λ ts. refl)

pub returns-in-Some-Distinct : goal.returns-in-Some-Distinct
returns-in-Some-Distinct t c = lemma.no_parts c.args.nodes.now c.args.node _ (rw c.in-Some-Distinct.field-0-is at c.in-Some-Distinct.ensures) (λ ts. refl)

pub returns-in-None : goal.returns-in-None
returns-in-None t c = lemma.no_node c.args.nodes.now c.args.node c.in-None.ensures
