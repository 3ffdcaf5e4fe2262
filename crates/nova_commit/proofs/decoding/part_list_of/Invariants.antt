use Rattle.std.proofs.Common.{◌≡◌, ◌-◌}
use Rattle.nova_commit.specs.Fields.{part_at, items_at}
use Rattle.nova_commit.proofs.Loop.{with_front}
use Rattle.nova_commit.proofs.decoding.part_list_of.Given as goal

abbrev pub invariant-loop : goal.invariant-loop
invariant-loop l = with_front part_at l.parts.items (items_at part_at (l.count - l.counter) l.rest) ≡ items_at part_at l.count l.bytes
