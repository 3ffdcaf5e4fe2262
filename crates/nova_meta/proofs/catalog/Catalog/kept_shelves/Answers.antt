use Rattle.std.proofs.Common.{◌≡◌, ◌<◌, ℕ, Bool, false, length, ap, sym, subst, ◌∙◌, rules}
use Rattle.nova_meta.specs.Catalog.{Shelved, keeps_hops, kept_shelf, shelf_at}
use Rattle.nova_meta.proofs.Collected.{one_index_fails}
use Rattle.nova_meta.proofs.catalog.Catalog.kept_shelves.Goals as goal

pub returns-then-not-yes : goal.returns-then-not-yes
returns-then-not-yes c =
    let cat = c.args.self.now in
    let k = c.loop-channel.channel in
    let p : ℕ → Bool = λ n. keeps_hops cat n (kept_shelf c.args.kept.now (shelf_at cat n)) in
    let out : c.in_ok-yes.yes ≡ false = search rules in
    let lt : k < length cat.channels = subst (λ n. k < n) c.channel_count-count.ensures c.loop-channel-test.true in
    one_index_fails p (length cat.channels) k lt (ap (λ (s : Shelved). keeps_hops cat k s) (sym c.in_ok-left.ensures) ∙ sym c.in_ok-yes.ensures ∙ out)
