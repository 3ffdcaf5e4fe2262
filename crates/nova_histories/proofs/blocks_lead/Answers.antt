use Rattle.nova_histories.proofs.Standing as standing
use Rattle.nova_histories.proofs.Taken as taken
use Rattle.nova_histories.proofs.blocks_lead.Goals as goal

pub returns-clause-inputs : goal.returns-clause-inputs
returns-clause-inputs c = standing.blocks_lead

pub returns-clause-groups : goal.returns-clause-groups
returns-clause-groups c = standing.groups_are_kept

pub returns-clause-lookups : goal.returns-clause-lookups
returns-clause-lookups c = taken.row_runs_take_tables
