use Rattle.std.proofs.Common.{◌≡◌, ap, sym, ◌∙◌, subst, length, true}
use Rattle.nova_meta.specs.Catalog.{allows, applied}
use Rattle.nova_commit.specs.declared.commit.Commit.TheVariants as commit
use Rattle.nova_runner.specs.Acts.{has_room, load_commit}
use Rattle.nova_runner.specs.Committing.{IsReady}
use Rattle.nova_runner.specs.Held.{Held}
use Rattle.nova_runner.specs.Readable.{IsKept, IsReadable}
use Rattle.nova_runner.specs.declared.ready.Fresh.{Fresh}
use Rattle.nova_runner.proofs.Allowing.{load_readable, load_rules, load_spare}
use Rattle.nova_runner.proofs.Readables.{in_range}
use Rattle.nova_runner.proofs.Loads.{load_fits, room_of}
use Rattle.nova_runner.proofs.store.Store.load_ready.Goals as goal

pub ready-requires-clause-rules : goal.ready-requires-clause-rules
ready-requires-clause-rules c =
    let store = c.args.self.now in
    let kept = subst IsKept c.self.view_is c.self.invariant in
    let number = c.next_block-block.ensures ∙ ap (λ (k : Held). k.catalog.next) c.self.view_is in
    subst (λ b. allows store.catalog (commit.Load c.args.channel b c.len.result) ≡ has_room store.catalog (commit.Load c.args.channel b c.len.result)) (sym number)
    (load_rules store.catalog store.flow c.args.channel c.len.result kept.read c.requires.input kept.begun (in_range store c.args.channel kept c.requires.channel) kept.wired)

pub ready-requires-clause-readable : goal.ready-requires-clause-readable
ready-requires-clause-readable c =
    let store = c.args.self.now in
    let kept = subst IsKept c.self.view_is c.self.invariant in
    let number = c.next_block-block.ensures ∙ ap (λ (k : Held). k.catalog.next) c.self.view_is in
    let rules = load_rules store.catalog store.flow c.args.channel c.len.result kept.read c.requires.input kept.begun (in_range store c.args.channel kept c.requires.channel) kept.wired in
    subst (λ b. has_room store.catalog (commit.Load c.args.channel b c.len.result) ≡ true → IsReadable (applied store.catalog (commit.Load c.args.channel b c.len.result))) (sym number)
    (λ room. load_readable store.catalog c.args.channel c.len.result kept.readable room (rules ∙ room))

pub returns : goal.returns
returns c =
    let store = c.args.self.now in
    let kept = subst IsKept c.self.view_is c.self.invariant in
    let fresh : Fresh = record { block = c.next_block-block.result; bytes = c.in_ok-bytes.bytes } in
    let number = c.next_block-block.ensures ∙ ap (λ (k : Held). k.catalog.next) c.self.view_is in
    let size = c.len.ensures ∙ c.in_ok-bytes.bytes.ok.0 ∙ ap length c.in_ok-bytes.ensures in
    let own : commit.Load c.args.channel c.next_block-block.result c.len.result ≡ load_commit store.catalog c.args.channel c.args.delta.now = λ i. commit.Load c.args.channel (number i) (size i) in
    let ready : IsReady store (load_commit store.catalog c.args.channel c.args.delta.now) c.in_ok-ready.ready = subst (λ o. IsReady store o c.in_ok-ready.ready) own c.in_ok-ready.ensures in
    let room = room_of store c.args.channel c.args.delta.now kept c.requires.input (in_range store c.args.channel kept c.requires.channel) ready.prepared.allowed in
    record {
      ready = ready;
      fits = load_fits store.catalog c.args.channel _ c.ranges.channel.fits room;
      spare = load_spare store.catalog c.args.channel _ fresh kept.readable room number;
      number = number;
      bytes = c.in_ok-bytes.ensures;
    }
