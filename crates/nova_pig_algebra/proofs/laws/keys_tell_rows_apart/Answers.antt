use Rattle.nova_pig_algebra.proofs.Apart.{keys_tell, node_keys_tell}
use Rattle.nova_pig_algebra.proofs.laws.keys_tell_rows_apart.Goals as goal

pub returns : goal.returns
returns c = record { plans = keys_tell; nodes = node_keys_tell }
