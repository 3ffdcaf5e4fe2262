use Rattle.std.proofs.Common.{◌∷◌, List, ap, arith, drop, map, ◌∙◌}
use Rattle.std.specs.FinMap.{from_entries}
use Rattle.nova_value.specs.declared.value.Value.{Value}
use Rattle.nova_value.specs.Order.{key_cmp}
use Rattle.nova_value.specs.Rows.{key_at}
use Rattle.nova_pig_slow.proofs.ByKey.{one_more_list}
use Rattle.nova_pig_slow.proofs.Next.{drop_before}
use Rattle.nova_pig_slow.proofs.groups.lists.Goals as goal

pub loop-left-preserved-in_ok-insert : goal.loop-left-preserved-in_ok-insert
loop-left-preserved-in_ok-insert c =
    let columns = c.args.columns.now in
    let rows = c.args.rows.now in
    let left = c.loop-left.left in
    let by_is = c.new-by.ensures ∙ c.in_ok-picked.ensures ∙ ap (key_at columns) c.values.ensures in
    let within = c.loop-left.invariant.within in
    let behind = map (key_at columns) (drop left rows) in
    record {
      within = omega (arith, within);
      ordered = c.in_ok-insert.ensures.ordered;
      rest = one_more_list c.loop-left.lists.entries c.insert.new.self.entries c.in_ok-copy_key.field-0 c.new-by.result behind c.in_ok-copy_key.ensures c.in_ok-insert.ensures.updates.0 c.loop-left.invariant.rest
          ∙ ap (λ (bys : List (List Value)). from_entries {R = key_cmp} (map (λ by. (by, by)) bys))
          ((λ i. by_is i ∷ behind) ∙ ap (map (key_at columns)) (drop_before rows left c.index-rows-left.result _ c.loop-left-test.true within c.index-rows-left.is));
    }

pub loop-left-preserved : goal.loop-left-preserved
loop-left-preserved c =
    let columns = c.args.columns.now in
    let rows = c.args.rows.now in
    let left = c.loop-left.left in
    let by_is = c.new-by.ensures ∙ c.in_ok-picked.ensures ∙ ap (key_at columns) c.values.ensures in
    let within = c.loop-left.invariant.within in
    let behind = map (key_at columns) (drop left rows) in
    record {
      within = omega (arith, within);
      ordered = c.in_ok-insert.ensures.ordered;
      rest = one_more_list c.loop-left.lists.entries c.insert.new.self.entries c.in_ok-copy_key.field-0 c.new-by.result behind c.in_ok-copy_key.ensures c.in_ok-insert.ensures.updates.0 c.loop-left.invariant.rest
          ∙ ap (λ (bys : List (List Value)). from_entries {R = key_cmp} (map (λ by. (by, by)) bys))
          ((λ i. by_is i ∷ behind) ∙ ap (map (key_at columns)) (drop_before rows left c.index-rows-left.result _ c.loop-left-test.true within c.index-rows-left.is));
    }
