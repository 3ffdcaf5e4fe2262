use Rattle.nova_runner.proofs.Damage.{no_bad_store, no_store_there, one_bad_store}
use Rattle.nova_runner.proofs.opening.bad_stores.Goals as goal

pub returns : goal.returns
returns c = record { one = one_bad_store; never = no_bad_store; none = no_store_there }
