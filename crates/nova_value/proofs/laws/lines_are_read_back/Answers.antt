use Rattle.nova_value.proofs.ReadBack.{rows_read_back, removals_read_back}
use Rattle.nova_value.proofs.laws.lines_are_read_back.Goals as goal

pub returns-clause-rows : goal.returns-clause-rows
returns-clause-rows c = rows_read_back

pub returns-clause-removals : goal.returns-clause-removals
returns-clause-removals c = removals_read_back
