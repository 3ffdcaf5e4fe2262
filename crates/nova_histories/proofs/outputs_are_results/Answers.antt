use Rattle.nova_histories.proofs.Standing as standing
use Rattle.nova_histories.proofs.outputs_are_results.Goals as goal

pub returns : goal.returns
returns c = standing.outputs_are_results
