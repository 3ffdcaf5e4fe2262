use Rattle.std.proofs.Common.{◌<◌, ◌∙◌, Option, None, List, ap, length, sym, subst}
use Rattle.nova_meta.specs.declared.captured.Captured.{Captured}
use Rattle.nova_machine.specs.Steps.{Drop, after}
use Rattle.nova_runner.specs.Beginning.{with_slot}
use Rattle.nova_runner.specs.Held.{Held}
use Rattle.nova_runner.specs.Readable.{IsKept}
use Rattle.nova_runner.specs.Steps.{StoreStands}
use Rattle.nova_runner.proofs.Beginning.{drops, slot_kept}
use Rattle.nova_runner.proofs.store.Store.drop_run.Goals as goal

pub end-requires : goal.end-requires
end-requires c =
    subst (λ n. c.args.task < n) (sym c.self.invariant.flights) (subst (λ (k : Held). c.args.task < length k.flow.tasks) (sym c.self.view_is) c.requires.in_range)

pub invariant_of-self : goal.invariant_of-self
invariant_of-self c =
    let inside : Held = record { journal = c.self.inside.journal; flow = c.self.inside.flow; catalog = c.self.inside.catalog; flight = c.self.inside.flight } in
    subst (λ (slots : List (Option Captured)). IsKept (record inside { flight = slots })) (sym c.end.ensures.free) (slot_kept inside c.args.task None c.self.invariant)

pub returns-clause-slot : goal.returns-clause-slot
returns-clause-slot c =
    let inside : Held = record { journal = c.self.inside.journal; flow = c.self.inside.flow; catalog = c.self.inside.catalog; flight = c.self.inside.flight } in
    ap (λ (fs : List (Option Captured)). let held : Held = record inside { flight = fs } in held) c.end.ensures.free ∙ ap (λ (k : Held). with_slot k c.args.task None) c.self.view_is

pub returns-clause-step : goal.returns-clause-step
returns-clause-step c commits h s stands made =
    subst (λ (k : Held). StoreStands k commits h (after s (Drop c.args.task))) (sym (returns-clause-slot c)) (drops c.args.self.now c.args.task commits h s stands made)
