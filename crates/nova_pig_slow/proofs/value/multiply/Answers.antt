use Rattle.std.proofs.Common.{rules, arith}
use Rattle.std.proofs.lemmas.Grind.{common_steps}
use Rattle.std.proofs.lemmas.Int.{wraps, to_z-of_z}
use Rattle.nova_pig_slow.proofs.value.multiply.Goals as goal

pub returns : goal.returns
returns c = first_of (search (rules, wraps), grind (arith, common_steps), search (arith, wraps, to_z-of_z), grind (arith, to_z-of_z, wraps))
