use Rattle.nova_value.proofs.Wrapped.{wraps_to_one}
use Rattle.nova_value.proofs.laws.wraps_to_one.Goals as goal

pub returns : goal.returns
returns c = wraps_to_one
