-- What the bytes of commits say.
use Rattle.std.specs.Prelude.{◌≡◌}
use Rattle.nova_commit.specs.declared.commit.Commit.{Commit}
use Rattle.nova_commit.specs.Commits.{Fits, commit_bytes}

-- no two commits have one spelling
abbrev pub SpelledOnce : Type 0
SpelledOnce = (c d : Commit) → Fits c → Fits d → commit_bytes c ≡ commit_bytes d → c ≡ d
