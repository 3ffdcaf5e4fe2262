use Rattle.nova_pig_grammar.proofs.StatementComplete.{one_body}
use Rattle.nova_pig_grammar.proofs.statement.one_statement.Goals as goal

pub returns : goal.returns
returns c = λ ts a b d e. one_body d e
