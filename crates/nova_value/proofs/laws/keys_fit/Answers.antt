use Rattle.nova_value.proofs.Fit.{key_fits}
use Rattle.nova_value.proofs.laws.keys_fit.Goals as goal

pub returns : goal.returns
returns c = key_fits
