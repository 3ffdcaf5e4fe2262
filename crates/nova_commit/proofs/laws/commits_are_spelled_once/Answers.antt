use Rattle.nova_commit.proofs.Reading.{spelled_once}
use Rattle.nova_commit.proofs.laws.commits_are_spelled_once.Goals as goal

pub returns : goal.returns
returns c = spelled_once
