use Rattle.std.proofs.Common.{◌≡◌, ◌+◌, ◌++◌, List, [], ◌∷◌, suc, length, map, drop, Some, refl, ap, sym, ◌∙◌, subst, arith}
use Rattle.std.specs.Prelude.{slice_get}
use Rattle.std.proofs.lemmas.Option.{slice_get_read}
use Rattle.nova_workflow.specs.declared.flow.Flow.{Flow}
use Rattle.nova_workflow.specs.declared.flow.Task.{Task}
use Rattle.nova_meta.specs.declared.wiring.Wire.{Wire}
use Rattle.nova_runner.specs.Texts.{task_plan}
use Rattle.nova_runner.specs.Workflow.{wires_of}
use Rattle.nova_runner.proofs.Planned.{next_wire}
use Rattle.nova_runner.proofs.wiring.wires.Goals as goal

pub loop-task-preserved : goal.loop-task-preserved
loop-task-preserved c =
    let ts = c.args.admitted.now.flow.tasks in
    let qs = c.args.admitted.now.patterns in
    let i = c.loop-task.task-index in
    let xs = c.as_slice-task-items.result.now in
    let same = c.as_slice-task-items.ensures ∙ ap (λ (f : Flow). f.tasks) c.flow.ensures.flow in
    let task = subst (λ (us : List Task). slice_get us i ≡ Some c.task-item.result) same (slice_get_read xs (length xs) i c.task-item.result refl c.loop-task-test.true c.task-item.is) in
    let pattern = subst (λ n. slice_get qs n ≡ Some c.pattern.result.now) c.loop-task.invariant.number c.pattern.ensures.pattern in
    let next = next_wire ts qs i c.task-item.result c.pattern.result.now c.loop-task.wires.items (wires_of ts (map task_plan qs)) task pattern c.loop-task.invariant.rest in
    let pushed = c.in_ok-push.ensures.items ∙ ap (λ (w : Wire). c.loop-task.wires.items ++ w ∷ []) c.in_ok-wire.ensures in
    let e : suc i ≡ i + 1 = omega arith in
    record {
      number = ap (λ n. n + 1) c.loop-task.invariant.number;
      rest = next ∙ (λ k. sym pushed k ++ wires_of (drop (e k) ts) (map task_plan (drop (e k) qs)));
    }
