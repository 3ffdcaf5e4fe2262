-- What commands are refused by, as a store has it.
use Rattle.std.specs.Prelude.{map, is_some}
use Rattle.nova_workflow.specs.declared.flow.Channel.{Channel}
use Rattle.nova_workflow.specs.declared.flow.Task.{Task}
use Rattle.nova_machine.specs.Workflow.{channel_in}
use Rattle.nova_script.specs.Session.{Surroundings}
use Rattle.nova_trigger.specs.Due.{in_flight}
use Rattle.nova_runner.specs.Held.{Held}

-- the names and writers of the workflow, the slots of executions, and the catalog's moment
abbrev pub around_held : Held → Surroundings
around_held store = record {
  channels = map (λ (c : Channel). c.name) store.flow.channels;
  tasks = map (λ (t : Task). t.name) store.flow.tasks;
  has_writer = λ c. is_some (channel_in store.flow c).writer;
  is_in_flight = in_flight store.flight;
  moment = store.catalog.moment;
}
