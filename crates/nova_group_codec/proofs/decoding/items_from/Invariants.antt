use Rattle.std.proofs.Common.{◌≡◌, drop}
use Rattle.nova_group_codec.specs.Reading.{items_at}
use Rattle.nova_group_codec.proofs.Loop.{with_prefix}
use Rattle.nova_group_codec.proofs.decoding.items_from.Given as goal

abbrev pub invariant-loop-i : goal.invariant-loop-i
invariant-loop-i l = with_prefix l.items.items (items_at (drop l.i l.kept) l.rest) ≡ items_at l.kept l.bytes
