use Rattle.std.proofs.Common.{◌≡◌, ◌++◌, map}
use Rattle.nova_value.specs.declared.schema.Entry.TheVariants.{Put}
use Rattle.nova_delta.specs.Listed.{rows_of}
use Rattle.nova_execution.proofs.base.puts_of.Given as goal

abbrev pub invariant-loop-row : goal.invariant-loop-row
invariant-loop-row l = l.puts.items ++ map Put l.row-iterator ≡ map Put (rows_of l.fn.table)
