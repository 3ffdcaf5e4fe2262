use Rattle.std.proofs.Common.{ap, sym, ◌∙◌}
use Rattle.nova_value.specs.Orders.{values_total}
use Rattle.nova_delta.proofs.OrderedMap.{get-seen}
use Rattle.nova_groups.specs.State.{or_zero}
use Rattle.nova_groups.proofs.item.number_at.Goals as goal

pub returns-in-Some : goal.returns-in-Some
returns-in-Some c = ap or_zero (c.in-Some.ensures.value ∙ sym (get-seen values_total c.args.map.now.entries c.args.value.now))

pub returns-in-None : goal.returns-in-None
returns-in-None c = ap or_zero (c.in-None.ensures.value ∙ sym (get-seen values_total c.args.map.now.entries c.args.value.now))
