use Rattle.nova_state.proofs.StatesFit as lemma
use Rattle.nova_state.proofs.laws.states_fit.Goals as goal

pub returns : goal.returns
returns c = λ p is group t input few. lemma.states_fit p is group t input few
