-- Lists of lists.
use Rattle.std.specs.Prelude.{List, [], ◌∷◌}

-- one item more at the head of the first list, which begins with it where there is none
abbrev pub onto_first : {A : Type 0} → A → List (List A) → List (List A)
onto_first x [] = (x ∷ []) ∷ []
onto_first x (ys ∷ yss) = (x ∷ ys) ∷ yss
