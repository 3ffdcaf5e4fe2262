use Rattle.std.proofs.Common.{sym, subst}
use Rattle.nova_workflow.specs.declared.flow.Flow.{Flow}
use Rattle.nova_trigger.specs.Due.{IsOneWorkflow}
use Rattle.nova_runner.specs.Held.{Held}
use Rattle.nova_runner.proofs.Beginning.{one_workflow}
use Rattle.nova_runner.proofs.store.Store.captured.Goals as goal

pub capture-requires-clause-one : goal.capture-requires-clause-one
capture-requires-clause-one c =
    let inside : Held = record { journal = c.self.inside.journal; flow = c.self.inside.flow; catalog = c.self.inside.catalog; flight = c.self.inside.flight } in
    subst (λ (f : Flow). IsOneWorkflow f c.self.inside.catalog c.self.inside.flight) (sym c.flow.ensures) (one_workflow inside c.self.invariant)
