use Rattle.nova_meta.proofs.Once.{lists_once}
use Rattle.nova_meta.proofs.laws.lists_are_spelled_once.Goals as goal

pub returns : goal.returns
returns c = lists_once
