use Rattle.std.proofs.Common.{rules}
use Rattle.std.proofs.lemmas.Int.{wraps}
use Rattle.nova_groups.proofs.item.sum_with.Goals as goal

pub returns : goal.returns
returns c = search (rules, wraps)
