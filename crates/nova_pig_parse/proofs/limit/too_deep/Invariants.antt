use Rattle.std.proofs.Common.{◌≡◌, ◌≤◌, length}
use Rattle.nova_pig_parse.specs.Parse.{too_deep}
use Rattle.nova_pig_parse.proofs.limit.too_deep.Given as goal

abbrev pub invariant-loop-p : goal.invariant-loop-p
invariant-loop-p l = (too_deep 0 l.initial.tokens ≡ too_deep l.n l.tokens) × (l.n ≤ 64)

abbrev pub decreases-loop-p : goal.decreases-loop-p
decreases-loop-p l = length l.tokens
