use Rattle.std.proofs.Common.{◌≡◌, length}
use Rattle.nova_pig_parse.specs.Script.{end_of}
use Rattle.nova_pig_parse.proofs.script.end_of.Given as goal

abbrev pub invariant-loop-p : goal.invariant-loop-p
invariant-loop-p l = end_of l.at l.initial.cut ≡ end_of l.end l.cut

abbrev pub decreases-loop-p : goal.decreases-loop-p
decreases-loop-p l = length l.cut
