-- The commands of the drill, as one list.
use Rattle.std.specs.Prelude.{ℕ, zero, suc, ◌+◌, ◌*◌, ◌%◌, ◌==◌, List, [], ◌∷◌, ◌++◌, codes, map, if◌then◌else◌}
use Rattle.nova_script.specs.declared.command.Command.TheVariants.{Tick, Work, Compact, Collect}
use Rattle.nova_drill.specs.declared.drill.DrillStep.{DrillStep}
use Rattle.nova_drill.specs.declared.drill.DrillStep.TheVariants.{LoadRows, Do}
use Rattle.nova_drill.specs.Entries.{pages_load, raw_load}
use Rattle.nova_drill.specs.Numbers.{number_after}

-- the channels in the order of the workflow's text
abbrev pub channels : List (List ℕ)
channels = codes "raw" ∷ codes "pages" ∷ codes "slow" ∷ codes "tagged" ∷ codes "stats" ∷ codes "report" ∷ []

abbrev pub compactions : List DrillStep
compactions = map (λ c. Do (Compact c)) channels

-- what follows a round: at each sixteenth the compaction of each channel and a collection, and then the rest
abbrev pub kept_behind : ℕ → List DrillStep → List DrillStep
kept_behind round rest = if round % 16 == 0 then compactions ++ Do Collect ∷ rest else rest

-- n rounds from this one on, where x is the last number of the rounds before
abbrev pub rounds : ℕ → ℕ → ℕ → List DrillStep
rounds zero round x = []
rounds (suc n) round x =
    LoadRows 0 (raw_load x) ∷ Do (Tick (10 * round)) ∷ Do Work ∷ kept_behind round (rounds n (round + 1) (number_after 8 x))

-- all commands of a drill of n rounds, whose numbers begin behind n
abbrev pub steps : ℕ → List DrillStep
steps n = LoadRows 1 pages_load ∷ rounds n 1 n
