use Rattle.nova_machine.proofs.Running as running
use Rattle.nova_machine.proofs.runs_are_from_scratch.Goals as goal

pub returns-clause-tables : goal.returns-clause-tables
returns-clause-tables c = running.tables_are_captured

pub returns-clause-last_writes : goal.returns-clause-last_writes
returns-clause-last_writes c = running.last_writes

pub returns-clause-taken_up : goal.returns-clause-taken_up
returns-clause-taken_up c = running.runs_take_up

pub returns-clause-lookups : goal.returns-clause-lookups
returns-clause-lookups c = running.lookups_by_last_write

pub returns-clause-others : goal.returns-clause-others
returns-clause-others c = running.others_by_whole_tables

pub returns-clause-writes : goal.returns-clause-writes
returns-clause-writes c = running.runs_write
