use Rattle.nova_value.specs.Orders.{keys_total, exact_keys}
use Rattle.nova_delta.proofs.OrderedMap.{insert-seen}
use Rattle.nova_groups.proofs.state.put_share.Goals as goal

pub returns : goal.returns
returns c = insert-seen keys_total exact_keys c.args.shares.now.entries c.insert.new.self.entries c.args.key c.args.share c.in_ok-insert.ensures.updates.0
