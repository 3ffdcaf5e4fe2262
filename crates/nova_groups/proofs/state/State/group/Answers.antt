use Rattle.std.proofs.Common.{sym, ap, ◌∙◌}
use Rattle.std.specs.FinMap as fin
use Rattle.nova_value.specs.Orders.{keys_total}
use Rattle.nova_delta.proofs.OrderedMap.{get-seen}
use Rattle.nova_groups.specs.State.{StateValue}
use Rattle.nova_groups.proofs.state.State.group.Goals as goal

pub returns : goal.returns
returns c =
    c.get.ensures.value
    ∙ sym (get-seen keys_total c.self.inside.groups.entries c.args.by.now)
    ∙ ap (λ (s : StateValue). fin.get s.groups c.args.by.now) c.self.view_is
