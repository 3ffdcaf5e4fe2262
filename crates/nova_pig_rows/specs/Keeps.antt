-- Which rows stay while nodes are read.
use Rattle.std.specs.Prelude.{◌≡◌, ℕ, suc, ◌<◌, List, length}
use Rattle.nova_pig_algebra.specs.Meaning.{Row}
use Rattle.nova_pig_algebra.specs.Tree.{rows_at}
use Rattle.nova_pig_algebra.specs.Readers.{last_at}

-- all other nodes keep their rows
abbrev pub Keeps : ℕ → List (List Row) → List (List Row) → Type 0
Keeps node old new = (length new ≡ length old) × ((j : ℕ) → (j ≡ node → ⊥) → rows_at new j ≡ rows_at old j)

-- the nodes that are read later than by this reader keep their rows
abbrev pub KeepsLater : ℕ → List ℕ → List (List Row) → List (List Row) → Type 0
KeepsLater reader last old new = (length new ≡ length old) × ((j : ℕ) → suc reader < last_at last j → rows_at new j ≡ rows_at old j)
