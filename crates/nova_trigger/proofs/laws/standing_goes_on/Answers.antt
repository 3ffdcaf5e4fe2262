use Rattle.nova_trigger.proofs.GoingOn.{standing_goes_on}
use Rattle.nova_trigger.proofs.laws.standing_goes_on.Goals as goal

pub returns : goal.returns
returns c = standing_goes_on
