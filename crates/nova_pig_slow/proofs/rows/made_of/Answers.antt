use Rattle.std.proofs.Common.{◌∙◌}
use Rattle.nova_pig_algebra.specs.Meaning.{made}
use Rattle.nova_pig_slow.proofs.Calls.{over_none}
use Rattle.nova_pig_slow.proofs.rows.made_of.Goals as goal

pub returns : goal.returns
returns c = let row = c.values.ensures in c.in_ok-row.ensures ∙ (λ i. made c.args.items.now (row i) (over_none i))
