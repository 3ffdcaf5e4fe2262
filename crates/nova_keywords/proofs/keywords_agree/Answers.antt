use Rattle.nova_keywords.proofs.Words.{agree}
use Rattle.nova_keywords.proofs.keywords_agree.Goals as goal

pub returns : goal.returns
returns c = agree
