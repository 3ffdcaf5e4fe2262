use Rattle.std.proofs.Common.{refl, ◌∙◌}
use Rattle.nova_commit.specs.Commits.{commit_bytes}
use Rattle.nova_commit.specs.declared.commit.Commit.TheVariants as commit
use Rattle.nova_outside.specs.History.{current}
use Rattle.nova_runner.proofs.Made.{kept_first, made_by, made_or_not}
use Rattle.nova_runner.proofs.store.Store.init.Goals as goal

pub invariant_of-result : goal.invariant_of-result
invariant_of-result g c =
    let blank = c.in_ok-flow.ensures in
    kept_first c.args.text.now c.in_ok-flow.field-0.flow blank.flow (record { journal = c.in-Ok.journal; flow = c.in_ok-flow.field-0.flow; catalog = c.in_ok-flow.field-0.catalog; flight = c.in_ok-flow.field-0.flight }) refl blank.catalog blank.flight

pub returns-in-Ok-clause-made : goal.returns-in-Ok-clause-made
returns-in-Ok-clause-made g c honest =
    let blank = c.in_ok-flow.ensures in
    let framed = c.deref.ensures.value ∙ blank.framed in
    made_by c.args.text.now c.in_ok-flow.field-0.flow blank.flow (record { journal = c.in-Ok.journal; flow = c.in_ok-flow.field-0.flow; catalog = c.in_ok-flow.field-0.catalog; flight = c.in_ok-flow.field-0.flight })
    (g.H.Host.history c.args.host.now) (g.H.Host.history c.make.new.host) c.in-Ok.ensures.generation refl blank.catalog blank.flight (c.in-Ok.ensures.made honest (commit_bytes (commit.Flow c.args.text.now)) framed) (c.in-Ok.ensures.only honest)

pub returns-in-Err-clause-made : goal.returns-in-Err-clause-made
returns-in-Err-clause-made g c honest =
    let blank = c.in_ok-flow.ensures in
    let framed = c.deref.ensures.value ∙ blank.framed in
    (made_or_not c.args.text.now c.in_ok-flow.field-0.flow blank.flow (current (g.H.Host.history c.make.new.host)) (c.in-Err.ensures.made honest (commit_bytes (commit.Flow c.args.text.now)) framed), c.in-Err.ensures.only honest)
