use Rattle.nova_script.proofs.RequestRules.{met_are_causes, requests_are_rules}
use Rattle.nova_script.proofs.laws.requests_are_rules.Goals as goal

pub returns-clause-requests : goal.returns-clause-requests
returns-clause-requests c = requests_are_rules

pub returns-clause-refusals : goal.returns-clause-refusals
returns-clause-refusals c = met_are_causes
