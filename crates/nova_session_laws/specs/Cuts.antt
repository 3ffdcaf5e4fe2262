-- Bytes as lines, said without cutting them.
use Rattle.std.specs.Prelude.{◌≡◌, ℕ, ◌≤◌, false, List, [], ◌∷◌, ◌++◌, flat_map, length}
use Rattle.std.specs.List.{AllByRecursion}
use Rattle.nova_value.specs.Text.{has_newline}
use Rattle.nova_script.specs.Session.{Item}

-- lines one after the other, each ended by a newline
abbrev pub joined : List (List ℕ) → List ℕ
joined lines = flat_map (λ (line : List ℕ). line ++ 10 ∷ []) lines

-- bytes are these whole lines, and behind the last newline this rest
pub record IsCut (bytes : List ℕ) (whole : List (List ℕ)) (rest : List ℕ) : Type 0 where
  pub each : AllByRecursion (λ (line : List ℕ). has_newline line ≡ false) whole
  pub last : has_newline rest ≡ false
  pub is : bytes ≡ joined whole ++ rest

-- a rest that has a byte is a line too
abbrev pub last_line : List ℕ → List (List ℕ)
last_line [] = []
last_line (b ∷ bs) = (b ∷ bs) ∷ []

-- these commands are the first of all, and at most one follows them
pub record AreFirst (first all : List Item) : Type 0 where
  pub more : List Item
  pub is : all ≡ first ++ more
  pub few : length more ≤ 1
