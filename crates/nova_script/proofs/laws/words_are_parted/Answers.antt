use Rattle.nova_script.proofs.Parting.{words_are_parted}
use Rattle.nova_script.proofs.laws.words_are_parted.Goals as goal

pub returns : goal.returns
returns c = words_are_parted
