use Rattle.std.proofs.Common.{sym, ◌∙◌}
use Rattle.std.specs.Option.{option_copied}
use Rattle.nova_trigger.specs.Due.{last_or, newest_in}
use Rattle.nova_trigger.proofs.Ready.{above_input, above_here, not_here}
use Rattle.nova_trigger.proofs.rule.has_new_version.Goals as goal

pub returns-then-version-captured_version : goal.returns-then-version-captured_version
returns-then-version-captured_version c =
    let e = above_input (newest_in c.args.catalog.now) c.args.inputs.now c.loop-at.at (last_or (option_copied c.args.last)).versions _
    c.version.result c.captured_version.result c.loop-at-test.true c.version.ensures c.captured_version.ensures in
    sym (sym c.loop-at.invariant ∙ e ∙ above_here c.captured_version.result c.version.result _ c.if-version-captured_version.true)

pub loop-at-preserved : goal.loop-at-preserved
loop-at-preserved c =
    let e = above_input (newest_in c.args.catalog.now) c.args.inputs.now c.loop-at.at (last_or (option_copied c.args.last)).versions _
    c.version.result c.captured_version.result c.loop-at-test.true c.version.ensures c.captured_version.ensures in
    sym (e ∙ not_here c.captured_version.result c.version.result _ c.if-version-captured_version.false) ∙ c.loop-at.invariant
