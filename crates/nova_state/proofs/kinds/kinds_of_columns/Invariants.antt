use Rattle.std.proofs.Common.{◌≡◌, take}
use Rattle.nova_value.specs.Rows.{kinds}
use Rattle.nova_state.proofs.kinds.kinds_of_columns.Given as goal

abbrev pub invariant-loop-column : goal.invariant-loop-column
invariant-loop-column l = l.all.items ≡ kinds (take l.column-index l.columns)
