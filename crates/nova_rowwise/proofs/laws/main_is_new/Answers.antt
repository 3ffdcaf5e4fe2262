use Rattle.nova_rowwise.proofs.RowPlans.{main_is_new as it}
use Rattle.nova_rowwise.proofs.laws.main_is_new.Goals as goal

pub returns : goal.returns
returns c = it
