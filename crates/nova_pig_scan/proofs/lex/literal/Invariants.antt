use Rattle.std.proofs.Common.{◌≡◌, drop, false}
use Rattle.nova_pig_scan.specs.Lex.{literal, from_prefix}
use Rattle.nova_pig_scan.proofs.lex.literal.Given as goal

abbrev pub invariant-loop-at : goal.invariant-loop-at
invariant-loop-at l = literal false l.text ≡ from_prefix l.out l.at (literal l.escaped (drop l.at l.text))
