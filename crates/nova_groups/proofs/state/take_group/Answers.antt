use Rattle.std.proofs.Common.{sym, ap, ◌∙◌}
use Rattle.nova_value.specs.Orders.{keys_total, exact_keys}
use Rattle.nova_delta.proofs.OrderedMap.{get-seen, remove-seen}
use Rattle.nova_groups.specs.State.{or_blank}
use Rattle.nova_groups.proofs.state.take_group.Goals as goal

pub returns-in-Some-clause-group : goal.returns-in-Some-clause-group
returns-in-Some-clause-group c = ap (or_blank c.args.kinds.now) (c.in-Some.ensures.value ∙ sym (get-seen keys_total c.args.groups.now.entries c.args.by.now))

pub returns-in-Some-clause-others : goal.returns-in-Some-clause-others
returns-in-Some-clause-others c = remove-seen keys_total exact_keys c.args.groups.now.entries c.remove.new.self.entries c.args.by.now c.in-Some.ensures.updates.0

pub returns-in_ok-blank-in-None-clause-group : goal.returns-in_ok-blank-in-None-clause-group
returns-in_ok-blank-in-None-clause-group c = c.in_ok-blank-in-None.ensures ∙ ap (or_blank c.args.kinds.now) (c.in-None.ensures.value ∙ sym (get-seen keys_total c.args.groups.now.entries c.args.by.now))

pub returns-in_ok-blank-in-None-clause-others : goal.returns-in_ok-blank-in-None-clause-others
returns-in_ok-blank-in-None-clause-others c = remove-seen keys_total exact_keys c.args.groups.now.entries c.remove.new.self.entries c.args.by.now c.in-None.ensures.updates.0
