use Rattle.nova_execution.proofs.Bases.{is_base, puts_fit, puts_rise}
use Rattle.nova_execution.proofs.base.base_block.Goals as goal

pub from_rising-requires-clause-fit : goal.from_rising-requires-clause-fit
from_rising-requires-clause-fit c = rw (c.in_ok-schema.ensures, c.schema.ensures, c.in_ok-puts.ensures.puts) (puts_fit c.args.table.now c.in_ok-puts.ensures.table)

pub from_rising-requires-clause-rise : goal.from_rising-requires-clause-rise
from_rising-requires-clause-rise c = rw (c.in_ok-schema.ensures, c.schema.ensures, c.in_ok-puts.ensures.puts) (puts_rise c.args.table.now c.in_ok-puts.ensures.table)

pub returns : goal.returns
returns c = rw (c.in_ok-block.ensures.entries, c.in_ok-schema.ensures, c.schema.ensures, c.in_ok-puts.ensures.puts) (is_base c.args.table.now c.in_ok-puts.ensures.table)
