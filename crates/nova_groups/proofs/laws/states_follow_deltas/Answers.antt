use Rattle.nova_groups.proofs.Deltas as lemma
use Rattle.nova_groups.proofs.laws.states_follow_deltas.Goals as goal

pub returns : goal.returns
returns c = λ share ks m d h. lemma.states_follow_deltas share ks m d h
