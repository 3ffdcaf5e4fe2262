use Rattle.std.proofs.Common.{◌≡◌, OnOk, subst, ap, sym, ◌∙◌, ◌++◌, [], map, arith, take, get_or, slice_get, refl}
use Rattle.std.proofs.lemmas.List.{append_assoc}
use Rattle.nova_pig_algebra.specs.Tree.{tree_at, trees}
use Rattle.nova_rowwise.specs.Sources as spec
use Rattle.nova_rowwise.specs.Seen.{plain_of}
use Rattle.nova_pig_algebra.specs.Nodes.{earlier, earlier_arms}
use Rattle.std.proofs.lemmas.List.{take_more}
use Rattle.nova_pig_algebra.proofs.TreesOfNodes.{is_tree}
use Rattle.nova_rowwise.proofs.NodeTrees.{over_early, no_sources, nothing_more, map_more, arms_more}
use Rattle.nova_rowwise.proofs.source.+sources.Goals as goal

pub add_arms-loop-arm-preserved : goal.add_arms-loop-arm-preserved
add_arms-loop-arm-preserved t c =
    let nodes = c.args.nodes.now in
    let old = map (λ p. map plain_of p.items) c.args.out.now.items in
    let ps = map plain_of c.args.fields.now in
    let i = c.loop-arm.arm-index in
    let arm = get_or c.args.arms.now i 0 in
    let so_far = spec.arm_sources (earlier_arms nodes c.args.node (take i c.args.arms.now)) ps in
    let more = spec.sources (earlier nodes c.args.node arm) ps in
    c.in_ok-add_earlier.ensures
    ∙ ap (λ r. r ++ more) c.loop-arm.invariant
    ∙ append_assoc old so_far more
    ∙ ap (λ r. old ++ r) (sym (arms_more nodes c.args.node ps (take i c.args.arms.now) arm) ∙ ap (λ arms. spec.arm_sources (earlier_arms nodes c.args.node arms) ps) (sym (take_more c.args.arms.now i 0 (omega arith))))

pub add_sources-returns-then-not-is_over_rows : goal.add_sources-returns-then-not-is_over_rows
add_sources-returns-then-not-is_over_rows t c =
    let e = is_tree c.args.nodes.now c.args.node _ (rw c.in-Some-Foreach.field-0-is at c.in-Some-Foreach.ensures) in
    let none = no_sources c.args.nodes.now c.args.node c.in-Some-Foreach.from _ (map plain_of c.args.fields.now) _ (sym c.is_over_rows.ensures.operand ∙ c.if-not-is_over_rows.true) in
    rw (sym e) (nothing_more _ _ none)

pub add_sources-returns-in_ok-push-in-Some-Load : goal.add_sources-returns-in_ok-push-in-Some-Load
add_sources-returns-in_ok-push-in-Some-Load t c =
    let e = is_tree c.args.nodes.now c.args.node _ (rw c.in-Some-Load.field-0-is at c.in-Some-Load.ensures) in
    rw (sym e, c.in_ok-push-in-Some-Load.ensures.items) (map_more _ _ _ _ c.in_ok-copied-in-Some-Load.ensures)

pub add_sources-returns-in-Some-Filter : goal.add_sources-returns-in-Some-Filter
add_sources-returns-in-Some-Filter t c =
    let e = is_tree c.args.nodes.now c.args.node _ (rw c.in-Some-Filter.field-0-is at c.in-Some-Filter.ensures) in
    rw (sym e) c.add_earlier.ensures

pub add_sources-returns-in_ok-fields-in-Some-Foreach : goal.add_sources-returns-in_ok-fields-in-Some-Foreach
add_sources-returns-in_ok-fields-in-Some-Foreach t c =
    let nodes = c.args.nodes.now in
    let from = c.in-Some-Foreach.from in
    let over = over_early nodes c.args.node from c.in-Some-Foreach.items (slice_get nodes from) (sym c.is_over_rows.ensures.operand ∙ c.if-not-is_over_rows.false) in
    let e = is_tree nodes c.args.node _ (rw c.in-Some-Foreach.field-0-is at c.in-Some-Foreach.ensures) in
    let ps = map plain_of c.args.fields.now in
    let fields = ap (map plain_of) c.deref.ensures.value ∙ c.in_ok-fields-in-Some-Foreach.ensures ∙ ap (λ is. map (spec.through is) ps) c.as_slice.ensures in
    let old = map (λ p. map plain_of p.items) c.args.out.now.items in
    let new = map (λ p. map plain_of p.items) c.add_sources.new.out.items in
    subst (λ t. OnOk c.add_sources.result (new ≡ old ++ spec.sources t ps)) (sym over ∙ e)
    (subst (λ qs. OnOk c.add_sources.result (new ≡ old ++ spec.sources (tree_at (trees nodes) from) qs)) fields c.add_sources.ensures)

pub add_sources-returns-in-Some-Join : goal.add_sources-returns-in-Some-Join
add_sources-returns-in-Some-Join t c =
    let e = is_tree c.args.nodes.now c.args.node _ (rw c.in-Some-Join.field-0-is at c.in-Some-Join.ensures) in
    rw (sym e) c.add_earlier-in-Some-Join.ensures

pub add_sources-returns-in-Some-Union : goal.add_sources-returns-in-Some-Union
add_sources-returns-in-Some-Union t c =
    let e = is_tree c.args.nodes.now c.args.node _ (rw c.in-Some-Union.field-0-is at c.in-Some-Union.ensures) in
    rw (sym e, sym c.as_slice-in-Some-Union.ensures) c.add_arms.ensures

pub add_sources-returns-in-Some-Group : goal.add_sources-returns-in-Some-Group
add_sources-returns-in-Some-Group t c =
    let e = is_tree c.args.nodes.now c.args.node _ (rw c.in-Some-Group.field-0-is at c.in-Some-Group.ensures) in
    rw (sym e) (nothing_more _ [] refl)

pub add_sources-returns-in-Some-Distinct : goal.add_sources-returns-in-Some-Distinct
add_sources-returns-in-Some-Distinct t c =
    let e = is_tree c.args.nodes.now c.args.node _ (rw c.in-Some-Distinct.field-0-is at c.in-Some-Distinct.ensures) in
    rw (sym e) (nothing_more _ [] refl)

pub add_sources-returns-in-None : goal.add_sources-returns-in-None
add_sources-returns-in-None t c =
    let e = is_tree c.args.nodes.now c.args.node _ c.in-None.ensures in
    rw (sym e) (nothing_more _ [] refl)
