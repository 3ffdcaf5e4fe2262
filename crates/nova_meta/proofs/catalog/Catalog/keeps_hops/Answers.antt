use Rattle.std.proofs.Common.{◌≡◌, ◌<◌, ℕ, Bool, false, List, length, ap, sym, subst, ◌∙◌, rules}
use Rattle.std.specs.List.{list_all}
use Rattle.nova_meta.specs.Wired.{wire_at}
use Rattle.nova_meta.specs.Catalog.{indices, keeps_cursors, leads, progress_at}
use Rattle.nova_meta.specs.declared.wiring.Edge.{Edge}
use Rattle.nova_meta.specs.declared.wiring.Wire.{Wire}
use Rattle.nova_meta.proofs.Collected.{one_index_fails, and_right}
use Rattle.nova_meta.proofs.catalog.Catalog.keeps_hops.Goals as goal

pub returns-then-not-yes : goal.returns-then-not-yes
returns-then-not-yes c =
    let cat = c.args.self.now in
    let left = c.args.left.now in
    let t = c.loop-task.task in
    let p : ℕ → Bool = λ u. keeps_cursors (progress_at cat u).last 0 (wire_at cat.wiring u).inputs c.args.channel left in
    let out : c.in_ok-yes.yes ≡ false = search rules in
    let lt : t < length cat.tasks = subst (λ n. t < n) c.task_count-count.ensures c.loop-task-test.true in
    let same : c.as_slice-inputs.result.now ≡ (wire_at cat.wiring t).inputs = c.as_slice-inputs.ensures ∙ ap (λ (w : Wire). w.inputs) c.wire.ensures.wire in
    let fails : p t ≡ false = ap (λ (es : List Edge). keeps_cursors (progress_at cat t).last 0 es c.args.channel left) (sym same) ∙ sym c.in_ok-yes.ensures ∙ out in
    and_right (leads left.intervals 0 left.version) (list_all p (indices (length cat.tasks))) (one_index_fails p (length cat.tasks) t lt fails)
