use Rattle.std.proofs.Common.{inr, refl}
use Rattle.nova_outside.proofs.laws.failure_laws.Goals as goal

pub returns-clause-reply : goal.returns-clause-reply
returns-clause-reply c = λ front more history. inr (front, (more, refl), refl)

pub returns-clause-valid : goal.returns-clause-valid
returns-clause-valid c = λ change file now history valid fits. (fits, valid)

pub returns-clause-valid_reply : goal.returns-clause-valid_reply
returns-clause-valid_reply c = λ bytes history valid. valid
