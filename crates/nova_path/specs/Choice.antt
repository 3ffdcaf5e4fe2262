-- What a search for the chosen path answers.
use Rattle.std.specs.Prelude.{◌≡◌, ℕ, ◌<◌, List, length, Option, All, sum_by}
use Rattle.nova_path.specs.Shelf.{Span, chosen_path}
use Rattle.nova_path.specs.Intervals.{size_of, spans, taken, weight_in}
use Rattle.nova_path.specs.declared.interval.Interval.{Interval}
use Rattle.nova_path.specs.declared.interval.Chosen.{Chosen}

-- the chosen path through these intervals
abbrev pub path_in : List Interval → ℕ → ℕ → Option (List Span)
path_in xs i j = chosen_path (weight_in xs) (spans xs) i j

-- the path that the steps are
abbrev pub steps_in : List Interval → Chosen → List Span
steps_in xs chosen = spans (taken xs chosen.steps.items)

-- each step is a place in the list
abbrev pub HasPlaces : List Interval → Chosen → Type 0
HasPlaces xs chosen = All (λ place. place < length xs) chosen.steps.items

-- the total is the sum of the steps' sizes
abbrev pub HasTotal : List Interval → Chosen → Type 0
HasTotal xs chosen = chosen.total ≡ sum_by size_of (taken xs chosen.steps.items)
