use Rattle.std.proofs.Common.{◌≡◌, ◌++◌, ◌+◌, take, map}
use Rattle.nova_pig_algebra.proofs.keys.push_moved.Given as goal

abbrev pub invariant-loop-column : goal.invariant-loop-column
invariant-loop-column l = l.out ≡ l.fn.out ++ map (λ k. l.width + k) (take l.column-index l.columns)
