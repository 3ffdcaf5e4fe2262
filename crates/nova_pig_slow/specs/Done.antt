-- The rows of trees, where those of the trees before are known.
use Rattle.std.specs.Prelude.{◌≡◌, List, map}
use Rattle.nova_pig_algebra.specs.Meaning.{Row}
use Rattle.nova_pig_algebra.specs.Tree.{Tree, rows}

-- these are the rows of these trees
abbrev pub AreRowsOf : List (List Row) → List Tree → List (List Row) → Type 0
AreRowsOf tables ts done = done ≡ map (λ t. rows t tables) ts
