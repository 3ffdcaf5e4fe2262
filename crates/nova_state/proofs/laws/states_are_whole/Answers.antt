use Rattle.nova_state.proofs.WholeStates as lemma
use Rattle.nova_state.proofs.laws.states_are_whole.Goals as goal

pub returns : goal.returns
returns c = λ p st m. (lemma.state_is p st m, lemma.is_state p st m)
