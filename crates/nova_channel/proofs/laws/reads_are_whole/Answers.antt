use Rattle.nova_channel.proofs.Whole as whole
use Rattle.nova_channel.proofs.laws.reads_are_whole.Goals as goal

pub returns-clause-read : goal.returns-clause-read
returns-clause-read c = whole.reads_are_whole

pub returns-clause-table : goal.returns-clause-table
returns-clause-table c = whole.tables_are_whole

pub returns-clause-one : goal.returns-clause-one
returns-clause-one c = whole.one_damage
