use Rattle.std.proofs.Common.{List, ap, ◌∙◌}
use Rattle.std.specs.FinMap.{remove}
use Rattle.nova_value.specs.declared.value.Value.{Value}
use Rattle.nova_groups.specs.Kinds.{Group}
use Rattle.nova_groups.specs.Seen.{group_seen}
use Rattle.nova_groups.specs.State.{GroupMap, changed, put_group}
use Rattle.nova_groups.proofs.Small.{put_group-again, change_group-is}
use Rattle.nova_groups.proofs.state.change_group.Goals as goal

pub returns : goal.returns
returns c =
    let gs = group_seen c.args.groups.now.entries in
    c.in_ok-put_group.ensures
    ∙ ap (λ (hs : GroupMap). put_group hs c.in_ok-copy_key.field-0 c.in_ok-group-2.group) c.in_ok-group.ensures.others
    ∙ ap (λ (k : List Value). put_group (remove gs c.args.share.now.by) k c.in_ok-group-2.group) c.in_ok-copy_key.ensures
    ∙ put_group-again gs c.args.share.now.by c.in_ok-group-2.group
    ∙ ap (put_group gs c.args.share.now.by) (c.in_ok-group-2.ensures ∙ ap (λ (g : Group). changed c.args.grows g c.args.share.now.args) c.in_ok-group.ensures.group)
    ∙ change_group-is c.args.grows c.args.kinds.now gs c.args.share.now
