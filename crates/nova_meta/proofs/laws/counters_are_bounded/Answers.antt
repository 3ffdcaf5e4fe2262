use Rattle.nova_meta.proofs.Worked.{counters_end, clock_and_cursors}
use Rattle.nova_meta.proofs.laws.counters_are_bounded.Goals as goal

pub returns-clause-bounds : goal.returns-clause-bounds
returns-clause-bounds c = counters_end

pub returns-clause-clock : goal.returns-clause-clock
returns-clause-clock c = clock_and_cursors
