use Rattle.std.proofs.Common.{◌∙◌, ◌<◌, ap, length, sym, subst}
use Rattle.nova_workflow.specs.declared.flow.Flow.{Flow}
use Rattle.nova_trigger.specs.Due.{IsOneWorkflow, is_due}
use Rattle.nova_runner.specs.Beginning.{is_due_in}
use Rattle.nova_runner.specs.Held.{Held}
use Rattle.nova_runner.proofs.Beginning.{due_in_each, one_workflow}
use Rattle.nova_runner.proofs.store.Store.due.Goals as goal

pub due-requires-clause-one : goal.due-requires-clause-one
due-requires-clause-one c =
    let inside : Held = record { journal = c.self.inside.journal; flow = c.self.inside.flow; catalog = c.self.inside.catalog; flight = c.self.inside.flight } in
    subst (λ (f : Flow). IsOneWorkflow f c.self.inside.catalog c.self.inside.flight) (sym c.flow.ensures) (one_workflow inside c.self.invariant)

pub due-requires-clause-in_range : goal.due-requires-clause-in_range
due-requires-clause-in_range c =
    subst (λ (f : Flow). c.args.task < length f.tasks) (sym c.flow.ensures) (subst (λ (k : Held). c.args.task < length k.flow.tasks) (sym c.self.view_is) c.requires)

pub returns-clause-rule : goal.returns-clause-rule
returns-clause-rule c =
    c.due.ensures ∙ ap (λ (f : Flow). is_due f c.self.inside.catalog c.self.inside.flight c.args.task) c.flow.ensures ∙ ap (λ (k : Held). is_due_in k c.args.task) c.self.view_is

pub returns-clause-state : goal.returns-clause-state
returns-clause-state c commits h s stands = returns-clause-rule c ∙ due_in_each c.args.self.now c.args.task commits h s stands
