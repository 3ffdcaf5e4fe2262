-- Steps in turn: the commits that they add, the catalog behind them, and what they read at most.
use Rattle.std.specs.Prelude.{◌≡◌, ◌⊎◌, ℕ, ◌+◌, List, [], ◌∷◌, ◌++◌, Some}
use Rattle.nova_outside.specs.Disk.{Files}
use Rattle.nova_path.specs.Lists.{IsOneOf}
use Rattle.nova_commit.specs.declared.commit.Commit.{Commit}
use Rattle.nova_meta.specs.Catalog.{Entered}
use Rattle.nova_machine.specs.State.{State}
use Rattle.nova_machine.specs.Steps.{Step, after}
use Rattle.nova_runner.specs.Steps.{IsShortLog}
use Rattle.nova_runner.specs.Acts.{IsStepDamage, MayChange, behind, catalog_behind, own_commit, read_size}

abbrev pub own_commits : Entered → State → List Step → List Commit
own_commits cat s [] = []
own_commits cat s (x ∷ xs) = behind [] (own_commit cat s x) ++ own_commits (catalog_behind cat (own_commit cat s x)) (after s x) xs

abbrev pub catalog_after : Entered → State → List Step → Entered
catalog_after cat s [] = cat
catalog_after cat s (x ∷ xs) = catalog_after (catalog_behind cat (own_commit cat s x)) (after s x) xs

-- how many bytes of blocks
abbrev pub read_sizes : Entered → State → List Step → ℕ
read_sizes cat s [] = 0
read_sizes cat s (x ∷ xs) = read_size cat x + read_sizes (catalog_behind cat (own_commit cat s x)) (after s x) xs

-- none of these steps reads a lost block, where the files are these
abbrev pub NoneDamaged : Files → Entered → State → List Step → Type 0
NoneDamaged files cat s [] = Unit {0}
NoneDamaged files cat s (x ∷ xs) =
    ((file at : ℕ) → IsStepDamage s.flow cat files x file at → ⊥) × NoneDamaged files (catalog_behind cat (own_commit cat s x)) (after s x) xs

-- a file that one of these commits names
abbrev pub IsTheirs : ℕ → List Commit → ℕ → Type 0
IsTheirs x own n = (c : Commit) × IsOneOf own c × MayChange x (Some c) n

-- the first of the steps that are left, where there is one
abbrev pub first : List Step → List Step
first [] = []
first (x ∷ xs) = x ∷ []

-- commits were added to a journal that has at most 2^62 bytes with them, or there were none
abbrev pub StaysShort : List Commit → List Commit → Type 0
StaysShort commits own = (own ≡ []) ⊎ IsShortLog (commits ++ own)
