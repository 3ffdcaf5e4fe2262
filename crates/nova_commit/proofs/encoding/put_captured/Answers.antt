use Rattle.std.proofs.Common.{ℕ, List, ◌++◌, ap, ◌∙◌}
use Rattle.nova_commit.specs.Commits.{eight, versions_bytes}
use Rattle.nova_commit.proofs.Regroup.{three_more}
use Rattle.nova_commit.proofs.encoding.put_captured.Goals as goal

pub returns : goal.returns
returns c =
    c.in_ok-put_u64-2.ensures
    ∙ ap (λ (x : List ℕ). x ++ eight c.args.seen) (c.in_ok-put_u64.ensures ∙ ap (λ (x : List ℕ). x ++ eight c.args.moment) c.in_ok-put_versions.ensures)
    ∙ three_more c.args.out.now.items (versions_bytes c.args.versions.now) (eight c.args.moment) (eight c.args.seen)
