use Rattle.std.proofs.Common.{ℕ, subst}
use Rattle.std.specs.Result.{OnOk}
use Rattle.nova_value.specs.Rows.{Shape}
use Rattle.nova_outside.specs.History.{current}
use Rattle.nova_channel.specs.Reading.{IsDamage}
use Rattle.nova_meta.specs.Catalog.{shelf_at}
use Rattle.nova_execution.proofs.Reading.{new_whole_if}
use Rattle.nova_execution.proofs.rows.read_new.Goals as goal

pub returns-clause-undamaged : goal.returns-clause-undamaged
returns-clause-undamaged g c honest =
    let shelf = (shelf_at c.args.catalog.now c.args.input.now.channel).intervals in
    let files = current (g.H.Host.history c.args.host.now) in
    subst (λ (s : Shape). OnOk c.read.result ((file at : ℕ) → IsDamage s files shelf c.args.from c.args.version file at → ⊥)) c.schema_of-schema.ensures
    (new_whole_if c.schema_of-schema.result.now files shelf c.args.from c.args.version c.read.result c.intervals-intervals.ensures.shelf.apart (c.read.ensures.reads honest))
