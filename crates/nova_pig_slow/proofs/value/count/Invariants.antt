use Rattle.std.proofs.Common.{◌≡◌, ◌≤◌, length, pos}
use Rattle.nova_value.specs.Wrapped.{wrapped}
use Rattle.nova_pig_slow.proofs.value.count.Given as goal

abbrev pub invariant-loop : goal.invariant-loop
invariant-loop l = (l.count ≡ wrapped (pos l.index)) × (l.index ≤ length l.rows)
