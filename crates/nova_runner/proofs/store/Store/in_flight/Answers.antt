use Rattle.std.proofs.Common.{◌∙◌, ap}
use Rattle.nova_trigger.specs.Due.{in_flight}
use Rattle.nova_runner.specs.Held.{Held}
use Rattle.nova_runner.proofs.Beginning.{flight_in_each}
use Rattle.nova_runner.proofs.store.Store.in_flight.Goals as goal

pub returns-clause-state : goal.returns-clause-state
returns-clause-state c commits h s stands =
    c.is_in_flight.ensures ∙ ap (λ (k : Held). in_flight k.flight c.args.task) c.self.view_is ∙ flight_in_each c.args.self.now c.args.task commits h s stands
