use Rattle.std.proofs.Common.{List, sym, ap, ◌∙◌}
use Rattle.std.specs.FinMap.{insert}
use Rattle.nova_value.specs.declared.value.Value.{Value}
use Rattle.nova_groups.specs.Seen.{share_seen}
use Rattle.nova_groups.specs.State.{ShareMap, put_share}
use Rattle.nova_groups.proofs.Small.{put_share-some}
use Rattle.nova_groups.proofs.state.keep_share.Goals as goal

pub returns-in_ok-put_share-in-Some : goal.returns-in_ok-put_share-in-Some
returns-in_ok-put_share-in-Some c = λ m is.
    c.in_ok-put_share-in-Some.ensures
    ∙ ap (λ (k : List Value). insert (share_seen c.args.shares.now.entries) k c.in-Some.share) c.in_ok-copy_key-in-Some.ensures
    ∙ ap (λ (n : ShareMap). insert n c.args.key.now c.in-Some.share) is
    ∙ put_share-some m c.args.key.now c.in-Some.share
    ∙ ap (put_share m c.args.key.now) (sym c.in-Some.is)
