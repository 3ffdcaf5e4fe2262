use Rattle.std.proofs.Common.{◌≡◌, ◌+◌, ◌≤◌, ◌<◌, ◌^◌, ap, sym, ◌∙◌, subst, arith}
use Rattle.nova_row_codec.specs.Spelling.{spelling_of, told_length}
use Rattle.nova_commit.specs.declared.commit.Commit.TheVariants as commit
use Rattle.nova_meta.specs.Catalog.{allows}
use Rattle.nova_runner.specs.Acts.{load_block}
use Rattle.nova_runner.specs.Held.{Held}
use Rattle.nova_runner.specs.Readable.{IsKept}
use Rattle.nova_runner.proofs.Readables.{in_range}
use Rattle.nova_runner.proofs.Rooms.{counter_full, long_full, not_full}
use Rattle.nova_runner.proofs.store.Store.has_room.Goals as goal

pub returns-then-length-clause-full : goal.returns-then-length-clause-full
returns-then-length-clause-full c refused =
    let store = c.args.self.now in
    let kept = subst IsKept c.self.view_is c.self.invariant in
    let number = c.next_block-next.ensures ∙ ap (λ (k : Held). k.catalog.next) c.self.view_is in
    let tested : allows c.self.inside.catalog (commit.Load c.args.channel c.next_block-next.result c.load_length-size.result) ≡ allows store.catalog (commit.Load c.args.channel store.catalog.next (told_length (spelling_of (load_block store.catalog c.args.channel c.args.delta.now)))) =
    λ i. allows (c.self.view_is i).catalog (commit.Load c.args.channel (number i) (c.load_length-size.ensures i)) in
    counter_full store c.args.channel c.args.delta.now kept c.requires.input (in_range store c.args.channel kept c.requires.channel) (sym tested ∙ sym c.may_load.ensures ∙ refused)

pub returns-then-length-clause-room : goal.returns-then-length-clause-room
returns-then-length-clause-room c allowed =
    let store = c.args.self.now in
    let kept = subst IsKept c.self.view_is c.self.invariant in
    let number = c.next_block-next.ensures ∙ ap (λ (k : Held). k.catalog.next) c.self.view_is in
    let tested : allows c.self.inside.catalog (commit.Load c.args.channel c.next_block-next.result c.load_length-size.result) ≡ allows store.catalog (commit.Load c.args.channel store.catalog.next (told_length (spelling_of (load_block store.catalog c.args.channel c.args.delta.now)))) =
    λ i. allows (c.self.view_is i).catalog (commit.Load c.args.channel (number i) (c.load_length-size.ensures i)) in
    let end = c.length.ensures.is ∙ ap (λ (k : Held). k.journal.length) c.self.view_is in
    let room : store.journal.length + 30 ≤ 2 ^ 62 = omega (arith, c.if-length.true, end) in
    not_full store c.args.channel c.args.delta.now kept c.requires.input (in_range store c.args.channel kept c.requires.channel) room (sym tested ∙ sym c.may_load.ensures ∙ allowed)

pub returns-else-length-clause-full : goal.returns-else-length-clause-full
returns-else-length-clause-full c refused =
    let store = c.args.self.now in
    let kept = subst IsKept c.self.view_is c.self.invariant in
    let end = c.length.ensures.is ∙ ap (λ (k : Held). k.journal.length) c.self.view_is in
    let past : 2 ^ 62 < store.journal.length + 30 = omega (arith, c.if-length.false, end) in
    long_full store c.args.channel c.args.delta.now kept c.requires.input (in_range store c.args.channel kept c.requires.channel) past
