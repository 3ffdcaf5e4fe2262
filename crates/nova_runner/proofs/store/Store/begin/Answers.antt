use Rattle.std.proofs.Common.{◌<◌, ◌∙◌, Option, Some, List, ap, length, sym, subst}
use Rattle.std.specs.Prelude.{slice_set}
use Rattle.nova_workflow.specs.declared.flow.Flow.{Flow}
use Rattle.nova_meta.specs.declared.captured.Captured.{Captured}
use Rattle.nova_machine.specs.Steps.{Begin, after}
use Rattle.nova_trigger.specs.Due.{IsOneWorkflow, captured_of, task_at}
use Rattle.nova_runner.specs.Beginning.{captured_in, with_slot}
use Rattle.nova_runner.specs.Held.{Held}
use Rattle.nova_runner.specs.Readable.{IsKept}
use Rattle.nova_runner.specs.Steps.{StoreStands}
use Rattle.nova_runner.proofs.Beginning.{begins, one_workflow, slot_kept}
use Rattle.nova_runner.proofs.store.Store.begin.Goals as goal

pub capture-captured-requires-clause-one : goal.capture-captured-requires-clause-one
capture-captured-requires-clause-one c =
    let inside : Held = record { journal = c.self.inside.journal; flow = c.self.inside.flow; catalog = c.self.inside.catalog; flight = c.self.inside.flight } in
    subst (λ (f : Flow). IsOneWorkflow f c.self.inside.catalog c.self.inside.flight) (sym c.flow.ensures) (one_workflow inside c.self.invariant)

pub capture-captured-requires-clause-in_range : goal.capture-captured-requires-clause-in_range
capture-captured-requires-clause-in_range c =
    subst (λ (f : Flow). c.args.task < length f.tasks) (sym c.flow.ensures) (subst (λ (k : Held). c.args.task < length k.flow.tasks) (sym c.self.view_is) c.requires.in_range)

pub begin-requires : goal.begin-requires
begin-requires c =
    subst (λ n. c.args.task < n) (sym c.self.invariant.flights) (subst (λ (k : Held). c.args.task < length k.flow.tasks) (sym c.self.view_is) c.requires.in_range)

pub invariant_of-self : goal.invariant_of-self
invariant_of-self c =
    let inside : Held = record { journal = c.self.inside.journal; flow = c.self.inside.flow; catalog = c.self.inside.catalog; flight = c.self.inside.flight } in
    subst (λ (slots : List (Option Captured)). IsKept (record inside { flight = slots })) (sym c.begin.ensures) (slot_kept inside c.args.task (Some c.capture-captured.result) c.self.invariant)

pub returns-clause-slot : goal.returns-clause-slot
returns-clause-slot c =
    let inside : Held = record { journal = c.self.inside.journal; flow = c.self.inside.flow; catalog = c.self.inside.catalog; flight = c.self.inside.flight } in
    let captured = c.capture-captured.ensures ∙ ap (λ (f : Flow). captured_of c.self.inside.catalog (task_at f c.args.task)) c.flow.ensures in
    let slots = c.begin.ensures ∙ ap (λ (run : Captured). slice_set c.self.inside.flight c.args.task (Some run)) captured in
    ap (λ (fs : List (Option Captured)). let held : Held = record inside { flight = fs } in held) slots ∙ ap (λ (k : Held). with_slot k c.args.task (Some (captured_in k c.args.task))) c.self.view_is

pub returns-clause-step : goal.returns-clause-step
returns-clause-step c commits h s stands made =
    subst (λ (k : Held). StoreStands k commits h (after s (Begin c.args.task))) (sym (returns-clause-slot c)) (begins c.args.self.now c.args.task commits h s stands made)
