use Rattle.nova_rowwise.proofs.Committed.{runs_commit}
use Rattle.nova_rowwise.proofs.WrittenKeys.{deltas_are_written}
use Rattle.nova_rowwise.proofs.laws.deltas_are_written.Goals as goal

pub returns-clause-keys : goal.returns-clause-keys
returns-clause-keys c = deltas_are_written

pub returns-clause-block : goal.returns-clause-block
returns-clause-block c = runs_commit
