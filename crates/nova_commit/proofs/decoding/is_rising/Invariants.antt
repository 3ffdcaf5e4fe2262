use Rattle.std.proofs.Common.{◌≡◌, length}
use Rattle.nova_commit.specs.Commits.{rise}
use Rattle.nova_commit.proofs.decoding.is_rising.Given as goal

abbrev pub invariant-loop-rest : goal.invariant-loop-rest
invariant-loop-rest l = rise l.rest ≡ rise l.numbers

abbrev pub decreases-loop-rest : goal.decreases-loop-rest
decreases-loop-rest l = length l.rest
