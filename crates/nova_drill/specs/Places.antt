-- Where a drill stands among its commands.
use Rattle.std.specs.Prelude.{◌≡◌, ℕ, ◌+◌, ◌*◌, ◌-◌, ◌<◌, ◌≤◌, List, [], ◌∷◌, ◌++◌, drop, Option, Some, None}
use Rattle.nova_script.specs.declared.command.Command.TheVariants as command
use Rattle.nova_drill.specs.declared.drill.DrillStep.{DrillStep}
use Rattle.nova_drill.specs.declared.drill.DrillStep.TheVariants.{LoadRows, Do}
use Rattle.nova_drill.specs.declared.drill.Next.{Next}
use Rattle.nova_drill.specs.declared.drill.Next.TheVariants.{Pages, Raw, Clock, Work, Compact, Collect}
use Rattle.nova_drill.specs.Entries.{pages_load}
use Rattle.nova_drill.specs.Steps.{compactions, kept_behind, rounds}

-- of this many rounds: the round, the last number that was made, and the command that comes next
pub record Place : Type 0 where
  pub count : ℕ
  pub round : ℕ
  pub number : ℕ
  pub next : Next

-- the rounds behind this one
abbrev pub later_rounds : Place → List DrillStep
later_rounds p = rounds (p.count - p.round) (p.round + 1) p.number

abbrev pub left_from : Place → Next → List DrillStep
left_from p Pages = LoadRows 1 pages_load ∷ rounds (p.count + 1 - p.round) p.round p.number
left_from p Raw = rounds (p.count + 1 - p.round) p.round p.number
left_from p Clock = Do (command.Tick (10 * p.round)) ∷ Do command.Work ∷ kept_behind p.round (later_rounds p)
left_from p Work = Do command.Work ∷ kept_behind p.round (later_rounds p)
left_from p (Compact c) = drop c compactions ++ Do command.Collect ∷ later_rounds p
left_from p Collect = Do command.Collect ∷ later_rounds p

-- the commands that are left
abbrev pub left : Place → List DrillStep
left p = left_from p p.next

-- within a round the round is one of them
abbrev pub IsInRound : Place → Next → Type 0
IsInRound p Pages = Unit {0}
IsInRound p Raw = Unit {0}
IsInRound p Clock = p.round ≤ p.count
IsInRound p Work = p.round ≤ p.count
IsInRound p (Compact c) = (p.round ≤ p.count) × (c < 6)
IsInRound p Collect = p.round ≤ p.count

pub record IsPlace (p : Place) : Type 0 where
  pub few : p.count ≤ 5000
  pub round : p.round ≤ p.count + 1
  pub number : p.number < 65537
  pub in_round : IsInRound p p.next

-- the first of the commands that were left, or none where none was
abbrev pub IsGiven : Option DrillStep → List DrillStep → List DrillStep → Type 0
IsGiven (Some step) old new = old ≡ step ∷ new
IsGiven None old new = (old ≡ []) × (new ≡ [])
