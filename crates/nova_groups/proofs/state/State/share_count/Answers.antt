use Rattle.std.proofs.Common.{sym, ap, ◌∙◌}
use Rattle.std.specs.FinMap.{len}
use Rattle.nova_value.specs.Orders.{keys_total, exact_keys}
use Rattle.nova_delta.proofs.OrderedMap.{len-seen}
use Rattle.nova_groups.specs.State.{StateValue}
use Rattle.nova_groups.proofs.state.State.share_count.Goals as goal

pub returns-clause-count : goal.returns-clause-count
returns-clause-count c = c.len.ensures.len ∙ sym (len-seen keys_total exact_keys _ c.len.ensures.ordered) ∙ ap (λ (s : StateValue). len s.shares) c.self.view_is
