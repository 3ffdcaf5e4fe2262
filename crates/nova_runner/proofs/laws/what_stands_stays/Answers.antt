use Rattle.nova_runner.proofs.Stored as stored
use Rattle.nova_runner.proofs.laws.what_stands_stays.Goals as goal

pub returns-clause-apart : goal.returns-clause-apart
returns-clause-apart c = stored.stored_is_not_lost

pub returns-clause-lost : goal.returns-clause-lost
returns-clause-lost c = stored.is_block_or_lost

pub returns-clause-lost_part : goal.returns-clause-lost_part
returns-clause-lost_part c = stored.is_part_or_lost

pub returns-clause-kept : goal.returns-clause-kept
returns-clause-kept c = stored.no_loss_is_kept
