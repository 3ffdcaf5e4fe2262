use Rattle.std.proofs.Common.{◌≡◌, ◌++◌}
use Rattle.nova_delta.specs.Listed.{entries_of}
use Rattle.nova_row_codec.specs.Spelling.{entries_bytes}
use Rattle.nova_block.proofs.encoding.put_entries.Given as goal

-- the entries that are left come after what was written
abbrev pub invariant-loop-entry : goal.invariant-loop-entry
invariant-loop-entry l = l.out.items ++ entries_bytes l.entry-iterator ≡ l.fn.out.items ++ entries_bytes (entries_of l.delta)
