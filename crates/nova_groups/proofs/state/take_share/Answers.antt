use Rattle.std.proofs.Common.{sym, ◌∙◌}
use Rattle.nova_value.specs.Orders.{keys_total, exact_keys}
use Rattle.nova_delta.proofs.OrderedMap.{get-seen, remove-seen}
use Rattle.nova_groups.proofs.state.take_share.Goals as goal

pub returns-clause-old : goal.returns-clause-old
returns-clause-old c = c.remove.ensures.value ∙ sym (get-seen keys_total c.args.shares.now.entries c.args.key.now)

pub returns-clause-others : goal.returns-clause-others
returns-clause-others c = remove-seen keys_total exact_keys c.args.shares.now.entries c.remove.new.self.entries c.args.key.now c.remove.ensures.updates.0
