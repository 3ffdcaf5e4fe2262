use Rattle.std.proofs.Common.{◌≡◌, length}
use Rattle.nova_pig_parse.specs.Parse.{statements, cuts, ahead}
use Rattle.nova_pig_parse.proofs.script.statements_of.Given as goal

abbrev pub invariant-loop-rest : goal.invariant-loop-rest
invariant-loop-rest l = statements l.len (cuts l.tokens) ≡ ahead l.out (statements l.len (cuts l.rest))

abbrev pub decreases-loop-rest : goal.decreases-loop-rest
decreases-loop-rest l = length l.rest
