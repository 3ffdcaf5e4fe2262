-- The counter finds the first 65th token of a piece.
use Rattle.std.proofs.Common.{rules, arith, sym}
use Rattle.std.proofs.lemmas.Grind.{common_steps}
use Rattle.nova_pig_parse.specs.Parse.{too_deep}
use Rattle.nova_pig_parse.proofs.Deep.{deep_law}
use Rattle.nova_pig_parse.proofs.limit.too_deep.Goals as goal

pub returns-then-n-eq64 : goal.returns-then-n-eq64
unfolding too_deep
returns-then-n-eq64 c = let e = sym (deep_law c.args.tokens.now) in first_of (search rules, grind (arith, common_steps))

pub returns : goal.returns
unfolding too_deep
returns c = let e = sym (deep_law c.args.tokens.now) in first_of (search rules, grind (arith, common_steps))
