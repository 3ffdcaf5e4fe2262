use Rattle.std.proofs.Common.{◌<◌, ℕ, length, sym, subst}
use Rattle.nova_path.specs.Shelf.{HasPath}
use Rattle.nova_path.specs.Intervals.{spans}
use Rattle.nova_meta.specs.Catalog.{shelf_at}
use Rattle.nova_runner.specs.Held.{Held}
use Rattle.std.specs.Bool.{IsTrue}
use Rattle.std.specs.Result.{IfOk, IfErr, IsErr}
use Rattle.nova_outside.specs.History.{current}
use Rattle.nova_runner.specs.Reading.{GivesNewest, IsNewestDamage, IsNewestRead, ReadStops}
use Rattle.nova_runner.specs.Steps.{AsksShow}
use Rattle.nova_runner.proofs.Newest.{gives_newest, newest_read, read_stops, table_whole}
use Rattle.nova_runner.proofs.Readables.{in_range}
use Rattle.nova_runner.proofs.store.Store.table.Goals as goal

pub version-version-requires : goal.version-version-requires
version-version-requires g c = in_range (record { journal = c.self.inside.journal; flow = c.self.inside.flow; catalog = c.self.inside.catalog; flight = c.self.inside.flight }) c.args.channel c.self.invariant (subst (λ (k : Held). c.args.channel < length k.flow.channels) (sym c.self.view_is) c.requires.channel)

pub read_table-requires-clause-channel : goal.read_table-requires-clause-channel
read_table-requires-clause-channel g c = in_range (record { journal = c.self.inside.journal; flow = c.self.inside.flow; catalog = c.self.inside.catalog; flight = c.self.inside.flight }) c.args.channel c.self.invariant (subst (λ (k : Held). c.args.channel < length k.flow.channels) (sym c.self.view_is) c.requires.channel)

pub read_table-requires-clause-path : goal.read_table-requires-clause-path
read_table-requires-clause-path g c = subst (HasPath (spans (shelf_at c.self.inside.catalog c.args.channel).intervals) 0) (sym c.version-version.ensures) (c.self.invariant.readable.sound.hops.whole c.args.channel)

pub returns-clause-newest : goal.returns-clause-newest
returns-clause-newest g c =
    let a = g.H.Host.history c.args.host.now in
    let inside : Held = record { journal = c.self.inside.journal; flow = c.self.inside.flow; catalog = c.self.inside.catalog; flight = c.self.inside.flight } in
    subst (λ (k : Held). IfOk c.read_table.result (λ t. GivesNewest g.H.Host.is_honest k c.args.channel t a)) c.self.view_is
    (gives_newest g.H.Host.is_honest inside c.args.channel a c.schema.result.now c.version-version.result c.schema.ensures c.version-version.ensures c.read_table.result c.read_table.ensures.schema c.read_table.ensures.reads)

pub returns-clause-read : goal.returns-clause-read
returns-clause-read g c =
    let a = g.H.Host.history c.args.host.now in
    let inside : Held = record { journal = c.self.inside.journal; flow = c.self.inside.flow; catalog = c.self.inside.catalog; flight = c.self.inside.flight } in
    subst (λ (k : Held). IsTrue g.H.Host.is_honest → IfOk c.read_table.result (IsNewestRead k c.args.channel (current a))) c.self.view_is
    (newest_read g.H.Host.is_honest inside c.args.channel a c.schema.result.now c.version-version.result c.schema.ensures c.version-version.ensures c.read_table.result c.read_table.ensures.schema c.read_table.ensures.reads)

pub returns-clause-stops : goal.returns-clause-stops
returns-clause-stops g c =
    let a = g.H.Host.history c.args.host.now in
    let b = g.H.Host.history c.read_table.new.host in
    let inside : Held = record { journal = c.self.inside.journal; flow = c.self.inside.flow; catalog = c.self.inside.catalog; flight = c.self.inside.flight } in
    subst (λ (k : Held). IfErr c.read_table.result (λ fault. ReadStops fault g.H.Host.is_honest (AsksShow c.args.channel) k a b)) c.self.view_is
    (read_stops g.H.Host.is_honest inside c.args.channel a c.schema.result.now c.version-version.result c.schema.ensures c.version-version.ensures b c.read_table.result c.read_table.ensures.same c.read_table.ensures.told)

pub returns-clause-whole : goal.returns-clause-whole
returns-clause-whole g c =
    let a = g.H.Host.history c.args.host.now in
    let inside : Held = record { journal = c.self.inside.journal; flow = c.self.inside.flow; catalog = c.self.inside.catalog; flight = c.self.inside.flight } in
    subst (λ (k : Held). IsTrue g.H.Host.is_honest → (file at : ℕ) → IsNewestDamage k c.args.channel (current a) file at → IsErr c.read_table.result) c.self.view_is
    (table_whole g.H.Host.is_honest inside c.args.channel a c.schema.result.now c.version-version.result c.schema.ensures c.version-version.ensures c.read_table.result (c.self.invariant.readable.sound.shelved c.args.channel).apart c.read_table.ensures.reads)
