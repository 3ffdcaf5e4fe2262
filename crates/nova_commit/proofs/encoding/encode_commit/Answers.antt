use Rattle.std.proofs.Common.{◌≡◌, ℕ, List, [], ◌∷◌, ◌++◌, ap, sym, ◌∙◌}
use Rattle.nova_commit.specs.Commits.{four, eight, versions_bytes, parts_bytes, commit_bytes}
use Rattle.nova_commit.proofs.Regroup.{of_run}
use Rattle.nova_commit.proofs.encoding.encode_commit.Goals as goal

pub returns-in_ok-put_files-in-Run : goal.returns-in_ok-put_files-in-Run
unfolding commit_bytes
returns-in_ok-put_files-in-Run c =
    let r = c.in-Run in
    let start : c.push.new.self.items ≡ 4 ∷ [] = c.in_ok-push-in-Run.ensures.items ∙ ap (λ (x : List ℕ). x ++ 4 ∷ []) c.new-bytes.ensures.items in
    c.in_ok-put_files-in-Run.ensures
    ∙ ap (λ (x : List ℕ). x ++ (eight r.block ++ (eight r.size ++ parts_bytes r.parts)))
    (c.in_ok-put_captured-in-Run.ensures
    ∙ ap (λ (x : List ℕ). x ++ (versions_bytes r.versions ++ (eight r.moment ++ eight r.seen)))
    (c.in_ok-put_u32-in-Run.ensures ∙ ap (λ (x : List ℕ). x ++ four r.task) start))
    ∙ of_run (four r.task) (versions_bytes r.versions) (eight r.moment) (eight r.seen) (eight r.block) (eight r.size) (parts_bytes r.parts)
    ∙ sym (ap commit_bytes r.is)
