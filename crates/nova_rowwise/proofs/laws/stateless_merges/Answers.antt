use Rattle.nova_rowwise.proofs.StatelessLaw.{stateless_merges}
use Rattle.nova_rowwise.proofs.StatelessRuns.{stateless_runs_merge}
use Rattle.nova_rowwise.proofs.laws.stateless_merges.Goals as goal

pub returns-clause-tables : goal.returns-clause-tables
returns-clause-tables c = stateless_merges

pub returns-clause-runs : goal.returns-clause-runs
returns-clause-runs c = stateless_runs_merge
