use Rattle.nova_pig_grammar.proofs.ExpressionComplete as complete
use Rattle.nova_pig_grammar.proofs.read.one_reading.Goals as goal

pub returns : goal.returns
returns c = λ p ts x y d e. complete.one_reading d e
