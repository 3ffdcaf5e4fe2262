use Rattle.nova_state.proofs.StatesFit as lemma
use Rattle.nova_state.proofs.laws.no_rows_no_state.Goals as goal

pub returns : goal.returns
returns c = λ p. lemma.no_rows_no_state p
