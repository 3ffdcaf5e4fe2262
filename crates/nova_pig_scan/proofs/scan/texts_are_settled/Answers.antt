use Rattle.nova_pig_scan.proofs.Exact.{settled}
use Rattle.nova_pig_scan.proofs.scan.texts_are_settled.Goals as goal

pub returns : goal.returns
returns c = settled
