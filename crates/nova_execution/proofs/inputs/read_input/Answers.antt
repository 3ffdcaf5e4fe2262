use Rattle.std.proofs.Common.{ℕ, subst}
use Rattle.std.specs.Bool.{IsTrue}
use Rattle.std.specs.Result.{IfErr, IfOk, OnOk}
use Rattle.nova_value.specs.Rows.{Shape}
use Rattle.nova_outside.specs.History.{current}
use Rattle.nova_channel.specs.Reading.{HasReadTable, IsDamage, ReadTold}
use Rattle.nova_meta.specs.Catalog.{shelf_at}
use Rattle.nova_execution.proofs.Reading.{whole_if}
use Rattle.nova_execution.proofs.inputs.read_input.Goals as goal

pub returns-clause-reads : goal.returns-clause-reads
returns-clause-reads g c =
    subst (λ (s : Shape). IsTrue g.H.Host.is_honest → IfOk c.read_table.result (λ t. HasReadTable s (current (g.H.Host.history c.args.host.now)) (shelf_at c.args.catalog.now c.args.input.now.channel).intervals c.args.version t.rows)) c.schema_of-schema.ensures c.read_table.ensures.reads

pub returns-clause-undamaged : goal.returns-clause-undamaged
returns-clause-undamaged g c honest =
    let shelf = (shelf_at c.args.catalog.now c.args.input.now.channel).intervals in
    let files = current (g.H.Host.history c.args.host.now) in
    subst (λ (s : Shape). OnOk c.read_table.result ((file at : ℕ) → IsDamage s files shelf 0 c.args.version file at → ⊥)) c.schema_of-schema.ensures
    (whole_if c.schema_of-schema.result.now files shelf c.args.version c.read_table.result c.intervals-intervals.ensures.shelf.apart (c.read_table.ensures.reads honest))

pub returns-clause-told : goal.returns-clause-told
returns-clause-told g c =
    subst (λ (s : Shape). IsTrue g.H.Host.is_honest → IfErr c.read_table.result (ReadTold s (current (g.H.Host.history c.args.host.now)) (shelf_at c.args.catalog.now c.args.input.now.channel).intervals 0 c.args.version)) c.schema_of-schema.ensures c.read_table.ensures.told
