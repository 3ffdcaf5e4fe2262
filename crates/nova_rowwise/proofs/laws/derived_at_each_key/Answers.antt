use Rattle.nova_rowwise.proofs.EachKey.{at_each_key}
use Rattle.nova_rowwise.proofs.laws.derived_at_each_key.Goals as goal

pub returns : goal.returns
returns c = at_each_key
