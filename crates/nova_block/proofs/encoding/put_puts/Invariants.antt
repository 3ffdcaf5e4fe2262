use Rattle.std.proofs.Common.{◌≡◌, ◌++◌}
use Rattle.std.specs.List.{filter}
use Rattle.nova_delta.specs.Listed.{entries_of}
use Rattle.nova_row_codec.specs.Spelling.{entries_bytes}
use Rattle.nova_block.specs.Puts.{brings}
use Rattle.nova_block.proofs.encoding.put_puts.Given as goal

-- the entries that are left come after what was written
abbrev pub invariant-loop-entry : goal.invariant-loop-entry
invariant-loop-entry l = l.out.items ++ entries_bytes (filter brings l.entry-iterator) ≡ l.fn.out.items ++ entries_bytes (filter brings (entries_of l.delta))
