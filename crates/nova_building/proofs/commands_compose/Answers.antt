use Rattle.nova_building.proofs.Turns.{built_steps-append}
use Rattle.nova_building.proofs.commands_compose.Goals as goal

pub returns : goal.returns
returns c = built_steps-append
