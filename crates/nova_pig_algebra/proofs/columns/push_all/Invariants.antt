use Rattle.std.proofs.Common.{◌≡◌, ◌++◌, take}
use Rattle.nova_pig_algebra.proofs.columns.push_all.Given as goal

abbrev pub invariant-loop-column : goal.invariant-loop-column
invariant-loop-column l = l.out ≡ l.fn.out ++ take l.column-index l.columns
