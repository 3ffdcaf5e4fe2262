use Rattle.nova_group_codec.proofs.States.{spelled_once, states_read, states_read_one_way}
use Rattle.nova_group_codec.proofs.laws.states_are_spelled_once.Goals as goal

pub returns-clause-once : goal.returns-clause-once
returns-clause-once c = spelled_once

pub returns-clause-some_way : goal.returns-clause-some_way
returns-clause-some_way c = states_read

pub returns-clause-one_way : goal.returns-clause-one_way
returns-clause-one_way c = states_read_one_way
