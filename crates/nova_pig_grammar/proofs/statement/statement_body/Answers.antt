use Rattle.nova_pig_grammar.proofs.StatementSound.{found_cut, given_cut}
use Rattle.nova_pig_grammar.proofs.statement.statement_body.Goals as goal

pub returns-clause-sound : goal.returns-clause-sound
returns-clause-sound c = found_cut _ _ c.cut_body.ensures

pub returns-clause-complete : goal.returns-clause-complete
returns-clause-complete c = given_cut _ _ c.cut_body.ensures
