use Rattle.std.proofs.Common.{◌≡◌, ◌+◌, length}
use Rattle.nova_pig_parse.specs.Parse.{before_semicolon}
use Rattle.nova_pig_parse.proofs.script.before_semicolon.Given as goal

abbrev pub invariant-loop-p : goal.invariant-loop-p
invariant-loop-p l = (before_semicolon l.initial.tokens ≡ l.n + before_semicolon l.tokens) × (l.n + length l.tokens ≡ length l.initial.tokens)

abbrev pub decreases-loop-p : goal.decreases-loop-p
decreases-loop-p l = length l.tokens
