use Rattle.nova_session_laws.proofs.Fronts.{whole_commands_are_first as whole_commands_are_first_law}
use Rattle.nova_session_laws.proofs.whole_commands_are_first.Goals as goal

pub returns : goal.returns
returns c = whole_commands_are_first_law
