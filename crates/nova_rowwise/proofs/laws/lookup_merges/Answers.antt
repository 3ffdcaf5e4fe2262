use Rattle.nova_rowwise.proofs.LookupRuns.{lookup_merges as it}
use Rattle.nova_rowwise.proofs.laws.lookup_merges.Goals as goal

pub returns : goal.returns
returns c = it
