use Rattle.nova_runner.proofs.Ticks.{ticks_lead}
use Rattle.nova_runner.proofs.laws.ticks_commit.Goals as goal

pub returns : goal.returns
returns c = ticks_lead
