use Rattle.std.proofs.Common.{◌≡◌, ◌+◌, ◌-◌, ◌^◌, ◌<◌, length, min}
use Rattle.nova_delta.specs.Listed.{entries_of}
use Rattle.nova_row_codec.specs.Spelling.{entries_bytes}
use Rattle.nova_block.proofs.length.encoded_length.Given as goal

-- what was counted and what is left
abbrev pub invariant-loop-entry : goal.invariant-loop-entry
invariant-loop-entry l = record {
  low : l.total < 2 ^ 64;
  counted : min (l.total + length (entries_bytes l.entry-iterator)) (2 ^ 64 - 1) ≡ min (8 + length (entries_bytes (entries_of l.delta))) (2 ^ 64 - 1);
}
