use Rattle.nova_pig_algebra.proofs.KindsOfRows.{rows_fit, nodes_fit}
use Rattle.nova_pig_algebra.proofs.laws.rows_fit_their_kinds.Goals as goal

pub returns : goal.returns
returns c = record { plans = rows_fit; nodes = nodes_fit }
