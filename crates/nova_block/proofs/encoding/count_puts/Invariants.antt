use Rattle.std.proofs.Common.{◌≡◌, ◌+◌, length}
use Rattle.std.specs.List.{filter}
use Rattle.nova_delta.specs.Listed.{entries_of}
use Rattle.nova_block.specs.Puts.{brings}
use Rattle.nova_block.proofs.encoding.count_puts.Given as goal

-- what was counted and what is left
abbrev pub invariant-loop-entry : goal.invariant-loop-entry
invariant-loop-entry l = l.count + length (filter brings l.entry-iterator) ≡ length (filter brings (entries_of l.delta))
