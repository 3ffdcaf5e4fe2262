use Rattle.std.proofs.Common.{◌≡◌, ◌++◌, take}
use Rattle.nova_pig_algebra.proofs.constants.push_constants.Given as goal

abbrev pub invariant-loop-constant : goal.invariant-loop-constant
invariant-loop-constant l = l.out ≡ l.fn.out ++ take l.constant-index l.constants
