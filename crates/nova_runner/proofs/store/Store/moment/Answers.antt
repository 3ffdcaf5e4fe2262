use Rattle.std.proofs.Common.{◌∙◌, ap}
use Rattle.nova_runner.specs.Held.{Held}
use Rattle.nova_runner.proofs.Beginning.{moment_in_each}
use Rattle.nova_runner.proofs.store.Store.moment.Goals as goal

pub returns-clause-state : goal.returns-clause-state
returns-clause-state c commits h s stands =
    c.moment.ensures ∙ ap (λ (k : Held). k.catalog.moment) c.self.view_is ∙ moment_in_each c.args.self.now commits h s stands
