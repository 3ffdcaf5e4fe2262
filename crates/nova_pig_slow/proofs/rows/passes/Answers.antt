use Rattle.std.proofs.Common.{◌∙◌}
use Rattle.nova_pig_algebra.specs.Meaning.{holds}
use Rattle.nova_pig_slow.proofs.Calls.{over_none}
use Rattle.nova_pig_slow.proofs.rows.passes.Goals as goal

pub returns : goal.returns
returns c = let row = c.values.ensures in c.in_ok-is.ensures ∙ (λ i. holds c.args.cond.now (row i) (over_none i))
