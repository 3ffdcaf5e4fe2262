use Rattle.nova_session_laws.proofs.Reading.{rows_are_read as rows_are_read_law, rows_read}
use Rattle.nova_session_laws.proofs.rows_are_read.Goals as goal

pub returns-clause-entries : goal.returns-clause-entries
returns-clause-entries c = rows_are_read_law

pub returns-clause-read : goal.returns-clause-read
returns-clause-read c = rows_read
