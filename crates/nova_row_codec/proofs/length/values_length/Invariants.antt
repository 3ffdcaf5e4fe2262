use Rattle.std.proofs.Common.{◌≡◌, take}
use Rattle.nova_row_codec.specs.Spelling.{told_length, values_bytes}
use Rattle.nova_row_codec.proofs.length.values_length.Given as goal

abbrev pub invariant-loop-value : goal.invariant-loop-value
invariant-loop-value l = l.total ≡ told_length (values_bytes (take l.value-index l.values))
