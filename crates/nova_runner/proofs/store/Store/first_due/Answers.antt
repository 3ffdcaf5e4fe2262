use Rattle.std.proofs.Common.{sym, subst}
use Rattle.nova_workflow.specs.declared.flow.Flow.{Flow}
use Rattle.nova_trigger.specs.Due.{IsFirstDue, IsOneWorkflow}
use Rattle.nova_runner.specs.Flights.{flow_of}
use Rattle.nova_runner.specs.Held.{Held}
use Rattle.nova_runner.proofs.Beginning.{first_in_each, one_workflow}
use Rattle.nova_runner.proofs.store.Store.first_due.Goals as goal

pub first_due-requires : goal.first_due-requires
first_due-requires c =
    let inside : Held = record { journal = c.self.inside.journal; flow = c.self.inside.flow; catalog = c.self.inside.catalog; flight = c.self.inside.flight } in
    record { one = subst (λ (f : Flow). IsOneWorkflow f c.self.inside.catalog c.self.inside.flight) (sym c.flow.ensures) (one_workflow inside c.self.invariant) }

pub returns-clause-rule : goal.returns-clause-rule
returns-clause-rule c =
    subst (λ (k : Held). IsFirstDue (flow_of k.flow) k.catalog k.flight c.first_due.result) c.self.view_is
    (subst (λ (f : Flow). IsFirstDue f c.self.inside.catalog c.self.inside.flight c.first_due.result) c.flow.ensures c.first_due.ensures)

pub returns-clause-state : goal.returns-clause-state
returns-clause-state c = first_in_each c.args.self.now c.first_due.result (returns-clause-rule c)
