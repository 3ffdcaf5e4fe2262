use Rattle.std.proofs.Common.{◌≡◌, ◌-◌}
use Rattle.std.specs.Int.{w64}
use Rattle.nova_commit.specs.Fields.{number_at, items_at}
use Rattle.nova_commit.proofs.Loop.{with_front}
use Rattle.nova_commit.proofs.decoding.numbers_of.Given as goal

abbrev pub invariant-loop : goal.invariant-loop
invariant-loop l = with_front (number_at w64) l.numbers.items (items_at (number_at w64) (l.count - l.counter) l.rest) ≡ items_at (number_at w64) l.count l.bytes
