use Rattle.std.proofs.Common.{ap, ◌≡◌, sym, ◌∙◌, ◌+◌, ◌<◌, ◌≤◌, length, subst}
use Rattle.std.specs.Prelude.{is_some}
use Rattle.std.specs.Result.{IfOk, IfErr, OnOk}
use Rattle.nova_outside.specs.History.{current}
use Rattle.nova_machine.specs.Steps.{Run}
use Rattle.nova_machine.specs.Workflow.{plan_in}
use Rattle.nova_execution.specs.Damage.{ExecutionTold}
use Rattle.nova_runner.specs.Acts.{IsStepDamage, keeps_in, newest_reads, read_size}
use Rattle.nova_runner.specs.Beginning.{captured_in}
use Rattle.nova_runner.specs.Held.{Held}
use Rattle.nova_runner.specs.Runs.{GivesRun, IsGiven}
use Rattle.nova_runner.proofs.Executing.{given_run, gives_run, has_its_task, has_paths, keeps_run, one_each, part_low, size_same, told_same, whole_same}
use Rattle.nova_runner.proofs.store.Store.made.Goals as goal

pub execute-requires-clause-there : goal.execute-requires-clause-there
execute-requires-clause-there g c =
    let inside : Held = record { journal = c.self.inside.journal; flow = c.self.inside.flow; catalog = c.self.inside.catalog; flight = c.self.inside.flight } in
    let run_is = c.requires.captured ∙ ap (λ (k : Held). captured_in k c.args.task) (sym c.self.view_is) in
    let lt = subst (λ (k : Held). c.args.task < length k.flow.tasks) (sym c.self.view_is) c.requires.in_range in
    has_its_task inside c.args.task _ _ c.admitted.ensures.same _ run_is lt c.self.invariant

pub execute-requires-clause-each : goal.execute-requires-clause-each
execute-requires-clause-each g c =
    let inside : Held = record { journal = c.self.inside.journal; flow = c.self.inside.flow; catalog = c.self.inside.catalog; flight = c.self.inside.flight } in
    let run_is = c.requires.captured ∙ ap (λ (k : Held). captured_in k c.args.task) (sym c.self.view_is) in
    let lt = subst (λ (k : Held). c.args.task < length k.flow.tasks) (sym c.self.view_is) c.requires.in_range in
    one_each inside c.args.task _ _ c.admitted.ensures.same _ run_is lt c.self.invariant

pub execute-requires-clause-paths : goal.execute-requires-clause-paths
execute-requires-clause-paths g c =
    let inside : Held = record { journal = c.self.inside.journal; flow = c.self.inside.flow; catalog = c.self.inside.catalog; flight = c.self.inside.flight } in
    let run_is = c.requires.captured ∙ ap (λ (k : Held). captured_in k c.args.task) (sym c.self.view_is) in
    let lt = subst (λ (k : Held). c.args.task < length k.flow.tasks) (sym c.self.view_is) c.requires.in_range in
    has_paths inside c.args.task _ _ c.admitted.ensures.same _ run_is lt c.self.invariant

pub execute-requires-clause-numbered : goal.execute-requires-clause-numbered
execute-requires-clause-numbered g c =
    let inside : Held = record { journal = c.self.inside.journal; flow = c.self.inside.flow; catalog = c.self.inside.catalog; flight = c.self.inside.flight } in
    let run_is = c.requires.captured ∙ ap (λ (k : Held). captured_in k c.args.task) (sym c.self.view_is) in
    let lt = subst (λ (k : Held). c.args.task < length k.flow.tasks) (sym c.self.view_is) c.requires.in_range in
    part_low inside c.args.task _ _ c.admitted.ensures.same _ run_is lt c.self.invariant

pub returns-clause-keeps : goal.returns-clause-keeps
returns-clause-keeps g c =
    let inside : Held = record { journal = c.self.inside.journal; flow = c.self.inside.flow; catalog = c.self.inside.catalog; flight = c.self.inside.flight } in
    let run_is = c.requires.captured ∙ ap (λ (k : Held). captured_in k c.args.task) (sym c.self.view_is) in
    let lt = subst (λ (k : Held). c.args.task < length k.flow.tasks) (sym c.self.view_is) c.requires.in_range in
    subst (λ (k : Held). IfOk c.execute.result (λ x. is_some x.state ≡ keeps_in k.flow c.args.task)) c.self.view_is
    (keeps_run inside c.args.task _ _ c.admitted.ensures.same _ run_is lt c.execute.result c.execute.ensures.keeps)

pub returns-clause-made : goal.returns-clause-made
returns-clause-made g c =
    let inside : Held = record { journal = c.self.inside.journal; flow = c.self.inside.flow; catalog = c.self.inside.catalog; flight = c.self.inside.flight } in
    let run_is = c.requires.captured ∙ ap (λ (k : Held). captured_in k c.args.task) (sym c.self.view_is) in
    let lt = subst (λ (k : Held). c.args.task < length k.flow.tasks) (sym c.self.view_is) c.requires.in_range in
    subst (λ (k : Held). IfOk c.execute.result (λ d. GivesRun _ k c.args.task d (g.H.Host.history c.args.host.now))) c.self.view_is
    (gives_run inside c.args.task _ _ c.admitted.ensures.same _ run_is lt _ (g.H.Host.history c.args.host.now) c.execute.result c.execute.ensures.made)

pub returns-clause-given : goal.returns-clause-given
returns-clause-given g c honest =
    let inside : Held = record { journal = c.self.inside.journal; flow = c.self.inside.flow; catalog = c.self.inside.catalog; flight = c.self.inside.flight } in
    let run_is = c.requires.captured ∙ ap (λ (k : Held). captured_in k c.args.task) (sym c.self.view_is) in
    let lt = subst (λ (k : Held). c.args.task < length k.flow.tasks) (sym c.self.view_is) c.requires.in_range in
    subst (λ (k : Held). IfOk c.execute.result (IsGiven k c.args.task (current (g.H.Host.history c.args.host.now)))) c.self.view_is
    (given_run inside c.args.task _ _ c.admitted.ensures.same _ run_is lt (current (g.H.Host.history c.args.host.now)) c.execute.result (c.execute.ensures.given honest))

pub returns-clause-told : goal.returns-clause-told
returns-clause-told g c honest =
    let inside : Held = record { journal = c.self.inside.journal; flow = c.self.inside.flow; catalog = c.self.inside.catalog; flight = c.self.inside.flight } in
    let run_is = c.requires.captured ∙ ap (λ (k : Held). captured_in k c.args.task) (sym c.self.view_is) in
    let lt = subst (λ (k : Held). c.args.task < length k.flow.tasks) (sym c.self.view_is) c.requires.in_range in
    subst (λ (k : Held). IfErr c.execute.result (ExecutionTold k.flow.channels (plan_in k.flow c.args.task) k.catalog (current (g.H.Host.history c.args.host.now)) c.args.task (newest_reads k.catalog c.args.task))) c.self.view_is
    (told_same inside c.args.task _ _ c.admitted.ensures.same _ run_is lt c.self.invariant (current (g.H.Host.history c.args.host.now)) c.execute.result (c.execute.ensures.told honest))

pub returns-clause-undamaged : goal.returns-clause-undamaged
returns-clause-undamaged g c honest =
    let inside : Held = record { journal = c.self.inside.journal; flow = c.self.inside.flow; catalog = c.self.inside.catalog; flight = c.self.inside.flight } in
    let run_is = c.requires.captured ∙ ap (λ (k : Held). captured_in k c.args.task) (sym c.self.view_is) in
    let lt = subst (λ (k : Held). c.args.task < length k.flow.tasks) (sym c.self.view_is) c.requires.in_range in
    subst (λ (k : Held). OnOk c.execute.result ((file at : _) → IsStepDamage k.flow k.catalog (current (g.H.Host.history c.args.host.now)) (Run c.args.task) file at → ⊥)) c.self.view_is
    (whole_same inside c.args.task _ _ c.admitted.ensures.same _ run_is lt c.self.invariant (current (g.H.Host.history c.args.host.now)) c.execute.result (c.execute.ensures.undamaged honest))

pub returns-clause-bytes_read : goal.returns-clause-bytes_read
returns-clause-bytes_read g c =
    let inside : Held = record { journal = c.self.inside.journal; flow = c.self.inside.flow; catalog = c.self.inside.catalog; flight = c.self.inside.flight } in
    let run_is = c.requires.captured ∙ ap (λ (k : Held). captured_in k c.args.task) (sym c.self.view_is) in
    let lt = subst (λ (k : Held). c.args.task < length k.flow.tasks) (sym c.self.view_is) c.requires.in_range in
    subst (λ (k : Held). g.H.Host.bytes_read c.execute.new.host ≤ g.H.Host.bytes_read c.args.host.now + read_size k.catalog (Run c.args.task)) c.self.view_is
    (size_same inside c.args.task _ _ c.admitted.ensures.same _ run_is lt c.self.invariant _ _ c.execute.ensures.bytes_read)
