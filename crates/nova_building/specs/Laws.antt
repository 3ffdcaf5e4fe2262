-- What holds while only some commands are built.
use Rattle.std.specs.Prelude.{◌≡◌, ◌↔◌, Err, codes, ℕ, List, [], ◌∷◌, ◌++◌, Some, None}
use Rattle.nova_script.specs.Words.{words_of}
use Rattle.nova_script.specs.Forms.{command_of}
use Rattle.nova_script.specs.Commands.{IsName, IsNumber, IsWithin}
use Rattle.nova_script.specs.Session.{Item, Surroundings, met_by}
use Rattle.nova_script.specs.declared.refusal.Refusal.TheVariants.{LineTooLong, NotBuilt}
use Rattle.nova_machine.specs.State.{State}
use Rattle.nova_machine.specs.Steps.{after_all}
use Rattle.nova_machine.specs.Commands.{commands_of}
use Rattle.nova_machine.specs.Reachable.{AllMade, IsReachable}
use Rattle.nova_building.specs.Building.{built_met, built_steps}

-- commands in two turns make the steps that they make in one
abbrev pub BuiltCommandsCompose : Type 0
BuiltCommandsCompose = (s : State) (cs ds : List Item) → built_steps s (cs ++ ds) ≡ built_steps s cs ++ built_steps (after_all s (built_steps s cs)) ds

-- the words of a command that is built
pub data IsBuiltForm : List (List ℕ) → Type 0 where
  load : {c : List ℕ} → IsName c → IsBuiltForm (codes "load" ∷ c ∷ [])
  tick : {w : List ℕ} {m : ℕ} → IsNumber w m → IsBuiltForm (codes "tick" ∷ w ∷ [])
  run : {t : List ℕ} → IsName t → IsBuiltForm (codes "run" ∷ t ∷ [])
  begin : {t : List ℕ} → IsName t → IsBuiltForm (codes "begin" ∷ t ∷ [])
  drop : {t : List ℕ} → IsName t → IsBuiltForm (codes "drop" ∷ t ∷ [])
  show : {c : List ℕ} → IsName c → IsBuiltForm (codes "show" ∷ c ∷ [])

-- a line within the limit that has words, and they are no such ones
pub record IsNotBuilt (line : List ℕ) : Type 0 where
  pub within : IsWithin line
  pub words : (words_of line ≡ []) → ⊥
  pub other : IsBuiltForm (words_of line) → ⊥

-- Exactly these lines are refused as not built, whatever the names and the state are. Those of built commands meet what they meet where all is built. Exactly what is over the limit is refused as too long, and exactly what is within it and blank meets nothing.
pub record WordsAreBuilt : Type 0 where
  pub too_long : (x : Surroundings) (line : List ℕ) → (built_met x line ≡ Some (Err LineTooLong)) ↔ (IsWithin line → ⊥)
  pub blank : (x : Surroundings) (line : List ℕ) → (built_met x line ≡ None) ↔ (IsWithin line × (words_of line ≡ []))
  pub not_built : (x : Surroundings) (line : List ℕ) → (built_met x line ≡ Some (Err NotBuilt)) ↔ IsNotBuilt line
  pub as_ever : (x : Surroundings) (line : List ℕ) → IsBuiltForm (words_of line) → built_met x line ≡ met_by x (command_of line)

-- the commands of any bytes make no step but those of `IsMade`
abbrev pub BuiltCommandsMakeSteps : Type 0
BuiltCommandsMakeSteps = (s : State) (bytes : List ℕ) → AllMade s (built_steps s (commands_of bytes))

-- so sessions lead from reachable states to reachable ones
abbrev pub BuiltSessionsReach : Type 0
BuiltSessionsReach = (s : State) (bytes : List ℕ) → IsReachable s → IsReachable (after_all s (built_steps s (commands_of bytes)))
