use Rattle.nova_pig_scan.proofs.Exact as exact
use Rattle.nova_pig_scan.proofs.scan.one_lexeme.Goals as goal

pub returns : goal.returns
returns c = exact.one_lexeme
