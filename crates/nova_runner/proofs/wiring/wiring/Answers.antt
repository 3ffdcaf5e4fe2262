use Rattle.std.proofs.Common.{List, map, ap, sym, ◌∙◌, subst}
use Rattle.nova_workflow.specs.declared.flow.Channel.{Channel}
use Rattle.nova_workflow.specs.declared.flow.Flow.{Flow}
use Rattle.nova_meta.specs.Wired.{IsWiring}
use Rattle.nova_runner.proofs.Flows.{well_wired}
use Rattle.nova_runner.proofs.Planned.{wired_with}
use Rattle.nova_runner.proofs.wiring.wiring.Goals as goal

pub returns-clause-wiring : goal.returns-clause-wiring
returns-clause-wiring c =
    let a = c.admitted-admitted.result.now in
    wired_with c.args.flow.now.text a.flow a.patterns c.args.flow.now c.in_ok-writers.field-0 c.in_ok-wires.field-0 c.admitted-admitted.ensures.same
    (c.in_ok-writers.ensures ∙ ap (λ (cs : List Channel). map (λ (x : Channel). x.writer) cs) c.as_slice.ensures ∙ ap (λ (f : Flow). map (λ (x : Channel). x.writer) f.channels) c.flow.ensures.flow)
    c.in_ok-wires.ensures

pub returns-clause-right : goal.returns-clause-right
returns-clause-right c = subst IsWiring (sym (returns-clause-wiring c)) (well_wired c.args.flow.now c.admitted-admitted.ensures.says)
