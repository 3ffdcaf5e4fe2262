use Rattle.std.proofs.Common.{◌≡◌, take}
use Rattle.nova_pig_slow.proofs.rows.copied.Given as goal

abbrev pub invariant-loop-row : goal.invariant-loop-row
invariant-loop-row l = l.all.items ≡ take l.row-index l.rows
