use Rattle.nova_pig_algebra.proofs.Agree.{same_by_calls}
use Rattle.nova_pig_algebra.proofs.laws.expressions_depend_on_their_calls.Goals as goal

pub returns : goal.returns
returns c = same_by_calls
