-- Lists of commits.
use Rattle.std.proofs.Common.{◌≡◌, ℕ, List, [], ◌∷◌, ◌++◌, map, Option, Some, refl}
use Rattle.std.specs.List.{AllByRecursion}
use Rattle.nova_commit.specs.declared.commit.Commit.{Commit}
use Rattle.nova_commit.specs.Commits.{Fits, commit_bytes}
use Rattle.nova_meta.specs.Catalog.{Entered, blank, with_commit, with_commits}
use Rattle.nova_meta.specs.Named.{ListsSpelledOnce, CommitsCompose}
use Rattle.nova_commit.proofs.Reading.{spelled_once}

heads : (a b : List ℕ) (xs ys : List (List ℕ)) → a ∷ xs ≡ b ∷ ys → (a ≡ b) × (xs ≡ ys)
heads a b xs ys e = (cc, cc)

all_once : (cs ds : List Commit) → AllByRecursion Fits cs → AllByRecursion Fits ds → map commit_bytes cs ≡ map commit_bytes ds → cs ≡ ds
all_once [] [] f g e = refl
all_once [] (d ∷ ds) f g e = cc
all_once (c ∷ cs) [] f g e = cc
all_once (c ∷ cs) (d ∷ ds) f g e =
    let parts = heads (commit_bytes c) (commit_bytes d) (map commit_bytes cs) (map commit_bytes ds) e in
    let here = spelled_once c d f.0 g.0 parts.0 in
    let rest = all_once cs ds f.1 g.1 parts.1 in
    λ k. here k ∷ rest k

pub lists_once : ListsSpelledOnce
lists_once w cs ds cat other f g e = all_once cs ds f.fit g.fit e

compose : (o : Option Entered) (cs : List Commit) (c : Commit) → with_commits o (cs ++ c ∷ []) ≡ with_commit (with_commits o cs) c
compose o [] c = refl
compose o (d ∷ cs) c = compose (with_commit o d) cs c

pub commits_compose : CommitsCompose
commits_compose w commits commit = compose (Some (blank w)) commits commit
