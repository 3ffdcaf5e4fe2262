use Rattle.nova_engine.proofs.Empty.{empty_is, some_is}
use Rattle.nova_engine.proofs.lines.holds_nothing.Goals as goal

pub returns-clause-none : goal.returns-clause-none
returns-clause-none c = rw c.bytes.ensures at (empty_is c.bytes.result.now c.is_empty.result c.is_empty.ensures)

pub returns-clause-some : goal.returns-clause-some
returns-clause-some c = rw c.bytes.ensures at (some_is c.bytes.result.now c.is_empty.result c.is_empty.ensures)
