use Rattle.nova_meta.proofs.Parts as lemma
use Rattle.nova_meta.proofs.laws.parts_are_kept.Goals as goal

pub returns-clause-kept : goal.returns-clause-kept
returns-clause-kept c = lemma.parts_are_kept

pub returns-clause-wide : goal.returns-clause-wide
returns-clause-wide c = lemma.parts_are_wide

pub returns-clause-slots : goal.returns-clause-slots
returns-clause-slots c = lemma.parts_have_slots
