use Rattle.nova_histories.proofs.Captures as captures
use Rattle.nova_histories.proofs.Follow as follow
use Rattle.nova_histories.proofs.captures_rise.Goals as goal

pub returns-clause-captures : goal.returns-clause-captures
returns-clause-captures c = captures.captures_rise

pub returns-clause-runs : goal.returns-clause-runs
returns-clause-runs c = follow.runs_follow
