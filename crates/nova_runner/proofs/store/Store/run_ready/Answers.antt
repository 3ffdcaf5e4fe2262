use Rattle.std.proofs.Common.{◌≡◌, Bool, ap, sym, ◌∙◌, subst, length, arith, Some}
use Rattle.std.specs.Prelude.{is_some}
use Rattle.nova_commit.specs.declared.commit.Commit.{Commit}
use Rattle.nova_commit.specs.declared.commit.Commit.TheVariants as commit
use Rattle.nova_meta.specs.declared.captured.Captured.{Captured}
use Rattle.nova_meta.specs.Catalog.{allows}
use Rattle.nova_row_codec.specs.Spelling.{spelling_of}
use Rattle.nova_runner.specs.Acts.{kept_spelling, parts_of}
use Rattle.nova_runner.specs.Held.{Held}
use Rattle.nova_runner.specs.Readable.{IsKept}
use Rattle.nova_runner.specs.Runs.{IsPreparedFor, made_commit}
use Rattle.nova_runner.proofs.RunRooms.{few_parts}
use Rattle.nova_runner.proofs.RunsReady.{made_ready, refused_full}
use Rattle.nova_runner.proofs.Tasks.{few_captured}
use Rattle.nova_runner.proofs.store.Store.run_ready.Goals as goal

pub ready_if_allowed-requires : goal.ready_if_allowed-requires
ready_if_allowed-requires c =
    let store = c.args.self.now in
    let state = c.args.made.now.state in
    let kept = subst IsKept c.self.view_is c.self.invariant in
    let vs = c.in_ok-versions.ensures ∙ c.as_slice.ensures ∙ ap (λ (k : Captured). k.versions) c.requires.captured in
    let few = few_captured store c.args.task kept c.requires.in_range in
    let long = ap length vs in
    let parts = ap length c.in_ok-fresh.ensures.parts in
    let one = few_parts (is_some state) store.catalog.next (length (kept_spelling state)) in
    (omega (arith, few, long), omega (arith, parts, one))

pub returns-in-Some : goal.returns-in-Some
returns-in-Some c =
    let store = c.args.self.now in
    let x = c.args.made.now in
    let kept = subst IsKept c.self.view_is c.self.invariant in
    let number = c.next_block-block.ensures ∙ ap (λ (k : Held). k.catalog.next) c.self.view_is in
    let clock = c.moment-clock.ensures ∙ ap (λ (k : Held). k.catalog.moment) c.self.view_is in
    let vs = c.in_ok-versions.ensures ∙ c.as_slice.ensures ∙ ap (λ (k : Captured). k.versions) c.requires.captured in
    let parts = c.in_ok-fresh.ensures.parts ∙ ap (λ (b : Bool). parts_of b store.catalog.next (length (kept_spelling x.state))) c.requires.keeps in
    let own : commit.Run c.args.task c.in_ok-versions.versions c.moment-clock.result c.args.run.now.seen c.next_block-block.result c.in_ok-fresh.field-0.size c.in_ok-fresh.field-0.parts ≡ made_commit store c.args.task x =
    λ i. commit.Run c.args.task (vs i) (clock i) (c.requires.captured i).seen (number i) (c.in_ok-fresh.ensures.size i) (parts i) in
    made_ready store c.args.task kept c.requires.in_range x c.in_ok-fresh.field-0.fresh.items c.in-Some.ready c.ranges.task.fits (let low = c.moment-clock.type_inv in omega (arith, low, clock)) c.requires.room c.requires.keeps
    c.in_ok-fresh.ensures.wide c.in_ok-fresh.ensures.files
    (subst (λ (o : Commit). IsPreparedFor store o (Some c.in-Some.ready)) own (subst (IsPreparedFor store _) c.in-Some.is c.in_ok-ready.ensures))

pub returns-in-None : goal.returns-in-None
returns-in-None c =
    let store = c.args.self.now in
    let x = c.args.made.now in
    let kept = subst IsKept c.self.view_is c.self.invariant in
    let number = c.next_block-block.ensures ∙ ap (λ (k : Held). k.catalog.next) c.self.view_is in
    let clock = c.moment-clock.ensures ∙ ap (λ (k : Held). k.catalog.moment) c.self.view_is in
    let vs = c.in_ok-versions.ensures ∙ c.as_slice.ensures ∙ ap (λ (k : Captured). k.versions) c.requires.captured in
    let parts = c.in_ok-fresh.ensures.parts ∙ ap (λ (b : Bool). parts_of b store.catalog.next (length (kept_spelling x.state))) c.requires.keeps in
    let own : commit.Run c.args.task c.in_ok-versions.versions c.moment-clock.result c.args.run.now.seen c.next_block-block.result c.in_ok-fresh.field-0.size c.in_ok-fresh.field-0.parts ≡ made_commit store c.args.task x =
    λ i. commit.Run c.args.task (vs i) (clock i) (c.requires.captured i).seen (number i) (c.in_ok-fresh.ensures.size i) (parts i) in
    refused_full store c.args.task kept c.requires.in_range (length (spelling_of x.block)) (length (kept_spelling x.state))
    (ap (allows store.catalog) (sym own) ∙ subst (IsPreparedFor store (commit.Run c.args.task c.in_ok-versions.versions c.moment-clock.result c.args.run.now.seen c.next_block-block.result c.in_ok-fresh.field-0.size c.in_ok-fresh.field-0.parts)) c.in-None.is c.in_ok-ready.ensures)
