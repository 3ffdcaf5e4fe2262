use Rattle.nova_pig_parse.proofs.Size.{scripts_small}
use Rattle.nova_pig_parse.proofs.text.scripts_are_small.Goals as goal

pub returns : goal.returns
returns c = scripts_small
