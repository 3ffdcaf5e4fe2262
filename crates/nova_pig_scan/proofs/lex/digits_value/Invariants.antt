use Rattle.std.proofs.Common.{◌≡◌, take}
use Rattle.nova_pig_scan.specs.Lex.{capped}
use Rattle.nova_pig_scan.proofs.lex.digits_value.Given as goal

abbrev pub invariant-loop-b : goal.invariant-loop-b
invariant-loop-b l = l.n ≡ capped (take l.b-index l.digits)
