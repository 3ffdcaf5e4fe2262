use Rattle.nova_state_part.proofs.Parts.{parts_read, parts_read_one_way}
use Rattle.nova_state_part.proofs.laws.parts_are_read_one_way.Goals as goal

pub returns-clause-some_way : goal.returns-clause-some_way
returns-clause-some_way c = parts_read

pub returns-clause-one_way : goal.returns-clause-one_way
returns-clause-one_way c = parts_read_one_way
