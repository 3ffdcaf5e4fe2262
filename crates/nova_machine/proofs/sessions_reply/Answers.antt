use Rattle.nova_machine.proofs.Examples as examples
use Rattle.nova_machine.proofs.Shown as shown
use Rattle.nova_machine.proofs.sessions_reply.Goals as goal

pub returns-clause-call_after_call : goal.returns-clause-call_after_call
returns-clause-call_after_call c = examples.call_after_call

pub returns-clause-ordinary_day : goal.returns-clause-ordinary_day
returns-clause-ordinary_day c = examples.ordinary_day

pub returns-clause-lookup_changes : goal.returns-clause-lookup_changes
returns-clause-lookup_changes c = examples.lookup_changes

pub returns-clause-compaction_behind_a_cursor : goal.returns-clause-compaction_behind_a_cursor
returns-clause-compaction_behind_a_cursor c = examples.compaction_behind_a_cursor

pub returns-clause-overlap : goal.returns-clause-overlap
returns-clause-overlap c = examples.overlap

pub returns-clause-clock : goal.returns-clause-clock
returns-clause-clock c = examples.clock

pub returns-clause-period : goal.returns-clause-period
returns-clause-period c = examples.period

pub returns-clause-cascade : goal.returns-clause-cascade
returns-clause-cascade c = examples.cascade

pub returns-clause-refused_and_truncated : goal.returns-clause-refused_and_truncated
returns-clause-refused_and_truncated c = examples.refused_and_truncated

pub returns-clause-other_refusals : goal.returns-clause-other_refusals
returns-clause-other_refusals c = examples.other_refusals

pub returns-clause-chaining : goal.returns-clause-chaining
returns-clause-chaining c = examples.chaining

pub returns-clause-bases : goal.returns-clause-bases
returns-clause-bases c = examples.bases

pub returns-clause-least_cause : goal.returns-clause-least_cause
returns-clause-least_cause c = examples.least_cause

pub returns-clause-no_path_to_chain : goal.returns-clause-no_path_to_chain
returns-clause-no_path_to_chain c = examples.no_path_to_chain

pub returns-clause-intervals_once : goal.returns-clause-intervals_once
returns-clause-intervals_once c = examples.intervals_once

pub returns-clause-shown_empty : goal.returns-clause-shown_empty
returns-clause-shown_empty c = examples.shown_empty

pub returns-clause-shown_rows : goal.returns-clause-shown_rows
returns-clause-shown_rows c = shown.shown_rows

pub returns-clause-loaded_entries : goal.returns-clause-loaded_entries
returns-clause-loaded_entries c = examples.loaded_entries

pub returns-clause-whole_commands : goal.returns-clause-whole_commands
returns-clause-whole_commands c = examples.whole_commands
