use Rattle.std.proofs.Common.{◌≡◌, ◌-◌, []}
use Rattle.nova_value.specs.Order.{key_cmp}
use Rattle.nova_group_codec.specs.Reading.{group_at, more_at}
use Rattle.nova_group_codec.proofs.list.groups_from.Given as goal

abbrev pub invariant-loop : goal.invariant-loop
invariant-loop l = more_at key_cmp (group_at l.sorts) (l.count - l.counter) l.groups.items l.rest ≡ more_at key_cmp (group_at l.sorts) l.count [] l.bytes
