use Rattle.nova_state.proofs.Blocks as lemma
use Rattle.nova_state.proofs.laws.groups_merge.Goals as goal

pub returns : goal.returns
returns c = λ p is m d. lemma.groups_merge p is m d
