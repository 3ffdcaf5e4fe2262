-- What the words of a call ask for.
use Rattle.std.specs.Prelude.{◌≡◌, ◌≢◌, ℕ, List, [], ◌∷◌, codes}

abbrev pub AsksInit : List (List ℕ) → Type 0
AsksInit words = words ≡ codes "init" ∷ []

abbrev pub AsksRun : List (List ℕ) → Type 0
AsksRun words = words ≡ codes "run" ∷ []

-- the words are none of the program's forms
abbrev pub AsksNothing : List (List ℕ) → Type 0
AsksNothing words = (words ≢ codes "init" ∷ []) × (words ≢ codes "run" ∷ [])
