use Rattle.nova_journal.proofs.OneWay.{one_log, one_place, whole_or_damaged, one_frame}
use Rattle.nova_journal.proofs.laws.format_laws.Goals as goal

pub returns-clause-one_log : goal.returns-clause-one_log
returns-clause-one_log c = one_log

pub returns-clause-one_place : goal.returns-clause-one_place
returns-clause-one_place c = one_place

pub returns-clause-whole_or_damaged : goal.returns-clause-whole_or_damaged
returns-clause-whole_or_damaged c = whole_or_damaged

pub returns-clause-one_frame : goal.returns-clause-one_frame
returns-clause-one_frame c = one_frame
