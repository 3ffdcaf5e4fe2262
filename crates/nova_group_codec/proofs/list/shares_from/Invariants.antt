use Rattle.std.proofs.Common.{◌≡◌, ◌-◌, []}
use Rattle.nova_value.specs.Order.{key_cmp}
use Rattle.nova_group_codec.specs.Reading.{share_at, more_at}
use Rattle.nova_group_codec.proofs.list.shares_from.Given as goal

abbrev pub invariant-loop : goal.invariant-loop
invariant-loop l = more_at key_cmp (share_at l.sorts) (l.count - l.counter) l.shares.items l.rest ≡ more_at key_cmp (share_at l.sorts) l.count [] l.bytes
