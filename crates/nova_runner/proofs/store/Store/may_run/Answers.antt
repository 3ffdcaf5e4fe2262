use Rattle.std.proofs.Common.{◌+◌, ◌*◌, ◌<◌, ◌≤◌, ◌^◌, ap, sym, ◌∙◌, subst, arith, length}
use Rattle.nova_meta.specs.Wired.{wire_at}
use Rattle.nova_machine.specs.Workflow.{task_in}
use Rattle.nova_trigger.specs.Due.{capture_in}
use Rattle.nova_runner.specs.Acts.{keeps_in, parts_of}
use Rattle.nova_runner.specs.Beginning.{captured_in}
use Rattle.nova_runner.specs.Held.{Held}
use Rattle.nova_runner.specs.Readable.{IsKept}
use Rattle.nova_runner.proofs.Flows.{few_inputs}
use Rattle.nova_runner.proofs.RunRooms.{few_parts, long_run, not_full}
use Rattle.nova_runner.proofs.Tasks.{as_many}
use Rattle.nova_runner.proofs.store.Store.may_run.Goals as goal

pub overflow_mul-versions : goal.overflow_mul-versions
overflow_mul-versions c =
    let inside : Held = record { journal = c.self.inside.journal; flow = c.self.inside.flow; catalog = c.self.inside.catalog; flight = c.self.inside.flight } in
    let lt = subst (λ (k : Held). c.args.task < length k.flow.tasks) (sym c.self.view_is) c.requires in
    let few = few_inputs inside.flow c.self.invariant.read c.args.task lt in
    let count = c.input_count.ensures in
    record { fits = omega (arith, few, count) }

pub overflow_sub-versions : goal.overflow_sub-versions
overflow_sub-versions c =
    let inside : Held = record { journal = c.self.inside.journal; flow = c.self.inside.flow; catalog = c.self.inside.catalog; flight = c.self.inside.flight } in
    let lt = subst (λ (k : Held). c.args.task < length k.flow.tasks) (sym c.self.view_is) c.requires in
    let few = few_inputs inside.flow c.self.invariant.read c.args.task lt in
    let count = c.input_count.ensures in
    omega (arith, few, count)

pub overflow_sub-versions-2 : goal.overflow_sub-versions-2
overflow_sub-versions-2 c =
    let store = c.args.self.now in
    let inside : Held = record { journal = c.self.inside.journal; flow = c.self.inside.flow; catalog = c.self.inside.catalog; flight = c.self.inside.flight } in
    let lt = subst (λ (k : Held). c.args.task < length k.flow.tasks) (sym c.self.view_is) c.requires in
    let few = few_inputs inside.flow c.self.invariant.read c.args.task lt in
    let count = c.input_count.ensures in
    let parts = c.part_count-parts.ensures in
    let one = few_parts (keeps_in store.flow c.args.task) store.catalog.next 0 in
    omega (arith, few, count, parts, one)

pub returns-then-length-versions-clause-room : goal.returns-then-length-versions-clause-room
returns-then-length-versions-clause-room c counted =
    let store = c.args.self.now in
    let kept = subst IsKept c.self.view_is c.self.invariant in
    let run = capture_in (captured_in store c.args.task) in
    let few = few_inputs store.flow kept.read c.args.task c.requires in
    let count = c.input_count.ensures ∙ ap (λ (k : Held). length (task_in k.flow c.args.task).inputs) c.self.view_is in
    let many = as_many store c.args.task kept c.requires in
    let end = c.length.ensures.is ∙ ap (λ (k : Held). k.journal.length) c.self.view_is in
    let parts = c.part_count-parts.ensures in
    let one = few_parts (keeps_in store.flow c.args.task) store.catalog.next 0 in
    let room : store.journal.length + (54 + 8 * length run.versions + 20 * length (parts_of (keeps_in store.flow c.args.task) store.catalog.next 0)) ≤ 2 ^ 62 = omega (arith, c.if-length-versions.true, few, count, many, end, parts, one) in
    not_full store.catalog c.args.task run (keeps_in store.flow c.args.task) store.journal.length (kept.readable.sound.shelved (wire_at store.catalog.wiring c.args.task).output).room room
    (sym c.has_counters.ensures ∙ counted)

pub returns-else-length-versions-clause-full : goal.returns-else-length-versions-clause-full
returns-else-length-versions-clause-full c refused =
    let store = c.args.self.now in
    let kept = subst IsKept c.self.view_is c.self.invariant in
    let run = capture_in (captured_in store c.args.task) in
    let few = few_inputs store.flow kept.read c.args.task c.requires in
    let count = c.input_count.ensures ∙ ap (λ (k : Held). length (task_in k.flow c.args.task).inputs) c.self.view_is in
    let many = as_many store c.args.task kept c.requires in
    let end = c.length.ensures.is ∙ ap (λ (k : Held). k.journal.length) c.self.view_is in
    let parts = c.part_count-parts.ensures in
    long_run store.catalog c.args.task run (keeps_in store.flow c.args.task) store.journal.length 0 0 (omega (arith, c.if-length-versions.false, few, count, many, end, parts))
