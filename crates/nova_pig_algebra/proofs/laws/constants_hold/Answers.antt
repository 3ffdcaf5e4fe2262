use Rattle.nova_pig_algebra.proofs.Apart.{constants_hold}
use Rattle.nova_pig_algebra.proofs.laws.constants_hold.Goals as goal

pub returns : goal.returns
returns c = constants_hold
