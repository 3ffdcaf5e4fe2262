use Rattle.nova_rowwise.proofs.RowPlans.{keys_tell}
use Rattle.nova_rowwise.proofs.laws.output_keys_tell.Goals as goal

pub returns : goal.returns
returns c = keys_tell
