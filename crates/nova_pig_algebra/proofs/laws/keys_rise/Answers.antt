use Rattle.nova_pig_algebra.proofs.RisingColumns.{keys_rise}
use Rattle.nova_pig_algebra.proofs.laws.keys_rise.Goals as goal

pub returns : goal.returns
returns c = keys_rise
