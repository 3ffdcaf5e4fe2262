use Rattle.std.proofs.Common.{sym}
use Rattle.nova_execution.proofs.Admission.{inputs_within}
use Rattle.nova_execution.proofs.runs.compute.Goals as goal

pub read_inputs-requires-clause-each : goal.read_inputs-requires-clause-each
read_inputs-requires-clause-each g c = rw (c.as_slice-versions.ensures, c.as_slice-inputs.ensures, c.task_of-written.ensures) c.requires.each

pub read_inputs-requires-clause-within : goal.read_inputs-requires-clause-within
read_inputs-requires-clause-within g c = rw (c.as_slice-channels.ensures, c.as_slice-inputs.ensures, c.task_of-written.ensures) (inputs_within c.args.flow.now c.args.task c.requires.whole c.requires.in_range)

pub read_inputs-requires-clause-paths : goal.read_inputs-requires-clause-paths
read_inputs-requires-clause-paths g c = rw (c.as_slice-versions.ensures, c.as_slice-inputs.ensures, c.task_of-written.ensures) c.requires.paths

pub eval-requires-clause-inputs : goal.eval-requires-clause-inputs
eval-requires-clause-inputs g c = rw (c.deref.ensures.value, c.in_ok-tables.ensures.schemas, c.as_slice-channels.ensures, c.as_slice-inputs.ensures, c.task_of-written.ensures) (sym c.requires.schemas.inputs)
