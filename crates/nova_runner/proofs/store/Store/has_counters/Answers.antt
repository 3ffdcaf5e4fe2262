use Rattle.std.proofs.Common.{◌&&◌, ◌+◌, ◌<◌, ap, sym, ◌∙◌, subst, arith, length, nat_lt}
use Rattle.nova_meta.specs.Catalog.{bound, progress_at, shelf_at}
use Rattle.nova_meta.specs.Wired.{wire_at}
use Rattle.nova_runner.specs.Acts.{keeps_in, parts_of}
use Rattle.nova_runner.specs.Held.{Held}
use Rattle.nova_runner.proofs.RunRooms.{counts_on, counts_out}
use Rattle.nova_runner.proofs.Tasks.{output_is, output_there}
use Rattle.nova_runner.proofs.store.Store.has_counters.Goals as goal

pub version-requires : goal.version-requires
version-requires c =
    let inside : Held = record { journal = c.self.inside.journal; flow = c.self.inside.flow; catalog = c.self.inside.catalog; flight = c.self.inside.flight } in
    let lt = subst (λ (k : Held). c.args.task < length k.flow.tasks) (sym c.self.view_is) c.requires in
    subst (λ n. n < length inside.catalog.channels) (sym c.output.ensures) (output_there inside c.args.task c.self.invariant lt)

pub returns-then-version-lt-LIMIT : goal.returns-then-version-lt-LIMIT
returns-then-version-lt-LIMIT c =
    let inside : Held = record { journal = c.self.inside.journal; flow = c.self.inside.flow; catalog = c.self.inside.catalog; flight = c.self.inside.flight } in
    let lt = subst (λ (k : Held). c.args.task < length k.flow.tasks) (sym c.self.view_is) c.requires in
    let number = c.version.ensures ∙ ap (λ n. (shelf_at inside.catalog n).version) (c.output.ensures ∙ sym (output_is inside c.args.task c.self.invariant lt))
    ∙ ap (λ (k : Held). (shelf_at k.catalog (wire_at k.catalog.wiring c.args.task).output).version) c.self.view_is in
    let cat = c.args.self.now.catalog in
    c.may_count.ensures ∙ counts_on (shelf_at cat (wire_at cat.wiring c.args.task).output).version (nat_lt (progress_at cat c.args.task).runs bound && nat_lt (cat.next + length (parts_of (keeps_in c.args.self.now.flow c.args.task) cat.next 0)) bound) (omega (arith, number, c.if-version-lt-LIMIT.true))

pub returns-else-version-lt-LIMIT : goal.returns-else-version-lt-LIMIT
returns-else-version-lt-LIMIT c =
    let inside : Held = record { journal = c.self.inside.journal; flow = c.self.inside.flow; catalog = c.self.inside.catalog; flight = c.self.inside.flight } in
    let lt = subst (λ (k : Held). c.args.task < length k.flow.tasks) (sym c.self.view_is) c.requires in
    let number = c.version.ensures ∙ ap (λ n. (shelf_at inside.catalog n).version) (c.output.ensures ∙ sym (output_is inside c.args.task c.self.invariant lt))
    ∙ ap (λ (k : Held). (shelf_at k.catalog (wire_at k.catalog.wiring c.args.task).output).version) c.self.view_is in
    let cat = c.args.self.now.catalog in
    ap (λ n. nat_lt n bound) number
    ∙ counts_out (shelf_at cat (wire_at cat.wiring c.args.task).output).version (nat_lt (progress_at cat c.args.task).runs bound && nat_lt (cat.next + length (parts_of (keeps_in c.args.self.now.flow c.args.task) cat.next 0)) bound) (omega (arith, number, c.if-version-lt-LIMIT.false))
