use Rattle.std.proofs.Common.{List, Result, Ok, Err, refl, ap, sym, ◌∙◌}
use Rattle.std.specs.Result.{IfOk}
use Rattle.nova_value.specs.Rows.{kinds}
use Rattle.nova_state.proofs.KindsOfChains as lemma
use Rattle.nova_state.proofs.kinds.+kinds_of_chain.Goals as goal

pub returns-in-Some-Load : goal.returns-in-Some-Load
returns-in-Some-Load t c = lemma.loaded c.args.nodes.now c.args.node (kinds c.args.input.now) _ (rw c.in-Some-Load.field-0-is at c.in-Some-Load.ensures) c.kinds_of_columns.result c.kinds_of_columns.ensures

pub returns-then-from-node : goal.returns-then-from-node
returns-then-from-node t c = c.new.ensures.items ∙ lemma.late_filter c.args.nodes.now c.args.node (kinds c.args.input.now) c.in-Some-Filter.from c.in-Some-Filter.field-0-1 (rw c.in-Some-Filter.field-0-is at c.in-Some-Filter.ensures) c.if-from-node.true

pub returns-else-from-node : goal.returns-else-from-node
returns-else-from-node t c = lemma.filtered c.args.nodes.now c.args.node (kinds c.args.input.now) c.in-Some-Filter.from c.in-Some-Filter.field-0-1 (rw c.in-Some-Filter.field-0-is at c.in-Some-Filter.ensures) c.if-from-node.false c.kinds_of_chain.result c.kinds_of_chain.ensures

pub returns-in-Some : goal.returns-in-Some
returns-in-Some t c =
    c.new-in-Some.ensures.items
    ∙ lemma.over_group c.args.nodes.now c.args.node (kinds c.args.input.now) c.in-Some-Foreach.from c.in-Some-Foreach.items (rw c.in-Some-Foreach.field-0-is at c.in-Some-Foreach.ensures) _ c.in-Some.ensures

pub returns-then-from-node-2 : goal.returns-then-from-node-2
returns-then-from-node-2 t c =
    lemma.made_late c.args.nodes.now c.args.node (kinds c.args.input.now) c.in-Some-Foreach.from c.in-Some-Foreach.items (rw c.in-Some-Foreach.field-0-is at c.in-Some-Foreach.ensures) c.in_default.ensures c.if-from-node-2.true
    c.as_slice.result.now c.as_slice.ensures c.kinds_of_items.result c.kinds_of_items.ensures

pub returns-in_ok-source-in-Some-Foreach : goal.returns-in_ok-source-in-Some-Foreach
returns-in_ok-source-in-Some-Foreach t c =
    lemma.made_of c.args.nodes.now c.args.node (kinds c.args.input.now) c.in-Some-Foreach.from c.in-Some-Foreach.items (rw c.in-Some-Foreach.field-0-is at c.in-Some-Foreach.ensures) c.in_default.ensures c.if-from-node-2.false
    c.deref.result.now (c.deref.ensures.value ∙ c.in_ok-source-in-Some-Foreach.ensures) c.as_slice-in-Some-Foreach.result.now c.as_slice-in-Some-Foreach.ensures c.kinds_of_items-in-Some-Foreach.result c.kinds_of_items-in-Some-Foreach.ensures

pub returns-in-Some-Group : goal.returns-in-Some-Group
returns-in-Some-Group t c = c.new-in-Some-Group.ensures.items ∙ lemma.of_node c.args.nodes.now c.args.node (kinds c.args.input.now) _ (rw c.in-Some-Group.field-0-is at c.in-Some-Group.ensures) _ (λ ts. refl)

pub returns-in-Some-Join : goal.returns-in-Some-Join
returns-in-Some-Join t c = c.new-in-Some-Join.ensures.items ∙ lemma.of_node c.args.nodes.now c.args.node (kinds c.args.input.now) _ (rw c.in-Some-Join.field-0-is at c.in-Some-Join.ensures) _ (λ ts. refl)

pub returns-in-Some-Union : goal.returns-in-Some-Union
returns-in-Some-Union t c = c.new-in-Some-Union.ensures.items ∙ lemma.of_node c.args.nodes.now c.args.node (kinds c.args.input.now) _ (rw c.in-Some-Union.field-0-is at c.in-Some-Union.ensures) _ (λ ts. refl)

pub returns-in-Some-Distinct : goal.returns-in-Some-Distinct
returns-in-Some-Distinct t c = c.new-in-Some-Distinct.ensures.items ∙ lemma.of_node c.args.nodes.now c.args.node (kinds c.args.input.now) _ (rw c.in-Some-Distinct.field-0-is at c.in-Some-Distinct.ensures) _ (λ ts. refl)

pub returns-in-None : goal.returns-in-None
returns-in-None t c = c.new-in-None.ensures.items ∙ lemma.no_node c.args.nodes.now c.args.node (kinds c.args.input.now) c.in-None.ensures
