use Rattle.std.proofs.Common.{◌≡◌, ◌++◌, take}
use Rattle.nova_pig_slow.proofs.rows.push_all.Given as goal

abbrev pub invariant-loop-value : goal.invariant-loop-value
invariant-loop-value l = l.out.items ≡ l.initial.out.items ++ take l.value-index l.values
