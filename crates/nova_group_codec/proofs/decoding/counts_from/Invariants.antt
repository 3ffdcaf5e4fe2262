use Rattle.std.proofs.Common.{◌≡◌, ◌-◌}
use Rattle.nova_value.specs.Order.{value_cmp}
use Rattle.nova_group_codec.specs.Reading.{count_at, counts_at, more_at, without_place}
use Rattle.nova_group_codec.proofs.decoding.counts_from.Given as goal

abbrev pub invariant-loop : goal.invariant-loop
invariant-loop l = without_place (more_at value_cmp (count_at l.kind) (l.count - l.counter) l.counts.items l.rest) ≡ counts_at l.kind l.bytes
