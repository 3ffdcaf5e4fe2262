use Rattle.std.proofs.Common.{◌≡◌, ◌∙◌, Ok, ap}
use Rattle.nova_script.specs.declared.context.Request.TheVariants.{Load}
use Rattle.nova_engine.proofs.LoadLines.{begins_any}
use Rattle.nova_engine.proofs.load.begun.Goals as goal

pub returns-in-Ok-Load-clause-load : goal.returns-in-Ok-Load-clause-load
returns-in-Ok-Load-clause-load c =
    let request : c.in-Ok-Load.field-0 ≡ Load c.in-Ok-Load.channel = rw c.in-Ok-Load.is at c.in-Ok-Load.field-0-is in
    begins_any c.without_rows.result c.args.store.now c.args.met c.in-Ok-Load.channel (c.in-Ok-Load.is ∙ ap Ok request) c.requires.met c.without_rows.ensures.rows
