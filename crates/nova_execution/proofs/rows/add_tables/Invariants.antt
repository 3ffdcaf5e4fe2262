use Rattle.std.proofs.Common.{◌≡◌, ◌++◌, length}
use Rattle.std.specs.Vec.Iter.{into_iter_items, into_iter_len}
use Rattle.nova_execution.proofs.rows.add_tables.Given as goal

abbrev pub invariant-loop-table : goal.invariant-loop-table
invariant-loop-table l = record {
  len : into_iter_len l.table-iterator ≡ length (into_iter_items l.table-iterator);
  rest : l.tables.items ++ into_iter_items l.table-iterator ≡ l.fn.tables.items ++ l.fn.more.items;
}
