use Rattle.nova_building.proofs.Built as built
use Rattle.nova_building.proofs.words_are_built.Goals as goal

pub returns : goal.returns
returns c = built.words_are_built
