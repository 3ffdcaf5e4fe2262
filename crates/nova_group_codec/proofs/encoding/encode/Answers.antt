use Rattle.std.proofs.Common.{◌≡◌, ℕ, List, ◌++◌, length, arith, sym, ap, ◌∙◌}
use Rattle.std.specs.FinMap as fin
use Rattle.nova_value.specs.declared.value.Value.{Value}
use Rattle.nova_value.specs.Orders.{keys_total, exact_keys}
use Rattle.nova_delta.proofs.OrderedMap.{entries-seen, len-seen}
use Rattle.nova_groups.specs.declared.group.Share.{Share}
use Rattle.nova_groups.specs.Kinds.{Group}
use Rattle.nova_group_codec.specs.Spelling.{list_bytes, share_bytes, group_bytes}
use Rattle.nova_group_codec.proofs.encoding.encode.Goals as goal

pub returns-clause-bytes : goal.returns-clause-bytes
returns-clause-bytes c =
    let shares : c.shares.result.now.entries ≡ fin.entries c.args.state.now.shares = sym (entries-seen keys_total exact_keys c.shares.result.now.entries c.put_shares.ensures.ordered) ∙ ap fin.entries c.shares.ensures in
    let groups : c.groups.result.now.entries ≡ fin.entries c.args.state.now.groups = sym (entries-seen keys_total exact_keys c.groups.result.now.entries c.put_groups.ensures.ordered) ∙ ap fin.entries c.groups.ensures in
    c.in_ok-put_groups.ensures.done
    ∙ ap (λ (b : List ℕ). b ++ list_bytes group_bytes c.groups.result.now.entries) (c.in_ok-put_shares.ensures.done ∙ ap (λ (b : List ℕ). b ++ list_bytes share_bytes c.shares.result.now.entries) c.new-out.ensures.items)
    ∙ ap (λ (es : List (List Value × Share)). list_bytes share_bytes es ++ list_bytes group_bytes c.groups.result.now.entries) shares
    ∙ ap (λ (es : List (List Value × Group)). list_bytes share_bytes (fin.entries c.args.state.now.shares) ++ list_bytes group_bytes es) groups

pub returns-clause-few : goal.returns-clause-few
returns-clause-few c =
    let shares : length c.shares.result.now.entries ≡ fin.len c.args.state.now.shares = sym (len-seen keys_total exact_keys c.shares.result.now.entries c.put_shares.ensures.ordered) ∙ ap fin.len c.shares.ensures in
    omega (arith, c.put_shares.ensures.few, shares)
