use Rattle.std.proofs.Common.{◌≡◌, ap, sym, ◌∙◌, arith}
use Rattle.nova_value.specs.Orders.{values_total, exact_values}
use Rattle.nova_delta.proofs.OrderedMap.{insert-seen, remove-seen}
use Rattle.nova_groups.specs.Numbers.{count_seen}
use Rattle.nova_groups.specs.State.{put_count}
use Rattle.nova_groups.proofs.Small.{put_count_some}
use Rattle.nova_groups.proofs.item.put_number.Goals as goal

pub returns-then-number-eq0 : goal.returns-then-number-eq0
returns-then-number-eq0 c =
    let zero_is : c.args.number ≡ 0 = omega (arith, c.if-number-eq0.true) in
    remove-seen values_total exact_values c.args.map.now.entries c.remove.new.self.entries c.args.value c.remove.ensures.updates.0
    ∙ sym (ap (put_count (count_seen c.args.map.now.entries) c.args.value) zero_is)

pub returns-in_ok-insert : goal.returns-in_ok-insert
returns-in_ok-insert c =
    insert-seen values_total exact_values c.args.map.now.entries c.insert.new.self.entries c.args.value c.args.number c.in_ok-insert.ensures.updates.0
    ∙ put_count_some (count_seen c.args.map.now.entries) c.args.value c.args.number (λ e. omega (arith, c.if-number-eq0.false, e))
