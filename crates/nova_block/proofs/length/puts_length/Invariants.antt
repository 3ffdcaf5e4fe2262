use Rattle.std.proofs.Common.{◌≡◌, ◌+◌, ◌-◌, ◌^◌, ◌<◌, length, min}
use Rattle.std.specs.List.{filter}
use Rattle.nova_delta.specs.Listed.{entries_of}
use Rattle.nova_row_codec.specs.Spelling.{entries_bytes}
use Rattle.nova_block.specs.Puts.{brings}
use Rattle.nova_block.proofs.length.puts_length.Given as goal

-- what was counted and what is left
abbrev pub invariant-loop-entry : goal.invariant-loop-entry
invariant-loop-entry l = record {
  low : l.total < 2 ^ 64;
  counted : min (l.total + length (entries_bytes (filter brings l.entry-iterator))) (2 ^ 64 - 1) ≡ min (8 + length (entries_bytes (filter brings (entries_of l.delta)))) (2 ^ 64 - 1);
}
