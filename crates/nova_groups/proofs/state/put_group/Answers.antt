use Rattle.std.proofs.Common.{◌≡◌, ap, ◌∙◌, arith}
use Rattle.nova_value.specs.Orders.{keys_total, exact_keys}
use Rattle.nova_delta.proofs.OrderedMap.{insert-seen, remove-seen}
use Rattle.nova_groups.specs.Kinds.{Group}
use Rattle.nova_groups.specs.Seen.{group_seen}
use Rattle.nova_groups.proofs.Small.{put_group-none, put_group-some}
use Rattle.nova_groups.proofs.state.put_group.Goals as goal

pub returns-then-group-eq0 : goal.returns-then-group-eq0
returns-then-group-eq0 c =
    let members_is = ap (λ (g : Group). g.members) c.group.view_is in
    let zero_is : c.args.group.members ≡ 0 = omega (arith, c.if-group-eq0.true, members_is) in
    remove-seen keys_total exact_keys c.args.groups.now.entries c.remove.new.self.entries c.args.by c.remove.ensures.updates.0
    ∙ put_group-none (group_seen c.args.groups.now.entries) c.args.by c.args.group zero_is

pub returns-in_ok-insert : goal.returns-in_ok-insert
returns-in_ok-insert c =
    let members_is = ap (λ (g : Group). g.members) c.group.view_is in
    insert-seen keys_total exact_keys c.args.groups.now.entries c.insert.new.self.entries c.args.by c.args.group c.in_ok-insert.ensures.updates.0
    ∙ put_group-some (group_seen c.args.groups.now.entries) c.args.by c.args.group (λ e. omega (arith, c.if-group-eq0.false, members_is, e))
