use Rattle.std.proofs.Common.{◌≡◌, ◌<◌, ◌==◌, length, ap, sym, ◌∙◌, subst, if◌then◌else◌}
use Rattle.std.specs.Result.{IfOk}
use Rattle.nova_delta.specs.Merge.{EntryMap, puts}
use Rattle.nova_row_codec.specs.Spelling.{spelling_of}
use Rattle.nova_meta.specs.Catalog.{shelf_at}
use Rattle.nova_runner.specs.Held.{Held}
use Rattle.nova_runner.proofs.Readables.{in_range}
use Rattle.nova_runner.proofs.store.Store.load_bytes.Goals as goal

pub version-requires : goal.version-requires
version-requires c = in_range (record { journal = c.self.inside.journal; flow = c.self.inside.flow; catalog = c.self.inside.catalog; flight = c.self.inside.flight }) c.args.channel c.self.invariant (subst (λ (k : Held). c.args.channel < length k.flow.channels) (sym c.self.view_is) c.requires.channel)

pub returns : goal.returns
returns c =
    let delta = c.args.delta.now in
    let first : (shelf_at c.args.self.now.catalog c.args.channel).version ≡ 0 = sym (c.version.ensures ∙ ap (λ (k : Held). (shelf_at k.catalog c.args.channel).version) c.self.view_is) ∙ c.if-version-ne0.false in
    subst (λ (es : EntryMap). IfOk c.encode_puts.result (λ bytes. bytes.items ≡ spelling_of (record { schema = delta.schema; entries = es }))) (sym (ap (λ n. if n == 0 then puts delta.entries else delta.entries) first)) c.encode_puts.ensures
