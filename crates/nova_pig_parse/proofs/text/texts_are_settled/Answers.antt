use Rattle.nova_pig_parse.proofs.Faults.{settled}
use Rattle.nova_pig_parse.proofs.text.texts_are_settled.Goals as goal

pub returns : goal.returns
returns c = settled
