use Rattle.std.proofs.Common.{◌≡◌, drop}
use Rattle.nova_row_codec.specs.Reading.{values_at}
use Rattle.nova_row_codec.proofs.Loop.{with_prefix}
use Rattle.nova_row_codec.proofs.decoding.values_of.Given as goal

abbrev pub invariant-loop-i : goal.invariant-loop-i
invariant-loop-i l = with_prefix l.values.items (values_at (drop l.i l.kinds) l.rest) ≡ values_at l.kinds l.bytes
