use Rattle.nova_session_laws.proofs.Cutting.{bytes_are_cut, lines_join as lines_join_law}
use Rattle.nova_session_laws.proofs.lines_join.Goals as goal

pub returns-clause-cut : goal.returns-clause-cut
returns-clause-cut c = bytes_are_cut

pub returns-clause-lines : goal.returns-clause-lines
returns-clause-lines c = lines_join_law
