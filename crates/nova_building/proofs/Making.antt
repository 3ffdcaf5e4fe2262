-- The commands of a session make only steps that can be made.
use Rattle.std.proofs.Common.{◌≡◌, ℕ, Bool, true, false, List, [], ◌∷◌, Option, Some, None, Result, Ok, Err, refl, if◌then◌else◌}
use Rattle.std.specs.List.{AllByRecursion}
use Rattle.nova_script.specs.Forms.{command_of}
use Rattle.nova_script.specs.Session.{Item, Alone, WithRows, met_by, request_of}
use Rattle.nova_script.specs.declared.command.Command.{Command}
use Rattle.nova_script.specs.declared.context.Request.{Request}
use Rattle.nova_script.specs.declared.refusal.Refusal.{Refusal}
use Rattle.nova_script.specs.declared.refusal.Refusal.TheVariants.{NotBuilt}
use Rattle.nova_machine.specs.State.{State}
use Rattle.nova_machine.specs.Steps.{after_all}
use Rattle.nova_machine.specs.Commands.{around, commands_of}
use Rattle.nova_machine.specs.Reachable.{AllMade}
use Rattle.nova_machine.proofs.Ended.{made_both}
use Rattle.nova_machine.proofs.Commanded.{Asks, CleanItem, asks, commands_clean, load_made, met_made, reach_all, within}
use Rattle.nova_building.specs.Building.{built_met, built_only, built_steps, built_steps_of, is_built}
use Rattle.nova_building.specs.Laws.{BuiltCommandsMakeSteps, BuiltSessionsReach}

-- a command that is built is that of the line
built_once : (m : Result (Option Command) Refusal) (d : Command) → built_only m ≡ Ok (Some d) → m ≡ Ok (Some d)
built_once (Err x) d e = absurd cc
built_once (Ok None) d e = absurd cc
built_once (Ok (Some x)) d e = go (is_built x) e
  where
    go : (b : Bool) → (if b then Ok (Some x) else Err NotBuilt) ≡ Ok (Some d) → ◌≡◌ {A = Result (Option Command) Refusal} (Ok (Some x)) (Ok (Some d))
    go true f = f
    go false f = absurd cc

built_asks : (s : State) (line : List ℕ) (q : Request) → built_met (around s) line ≡ Some (Ok q) → Asks s q
built_asks s line q e = go (built_only (command_of line)) refl e
  where
    go : (m : Result (Option Command) Refusal) → built_only (command_of line) ≡ m → met_by (around s) m ≡ Some (Ok q) → Asks s q
    go (Err x) is f = absurd cc
    go (Ok None) is f = absurd cc
    go (Ok (Some d)) is f = let same : request_of (around s) d ≡ Ok q = cc in asks s d (within line d (built_once (command_of line) d is)) q same

built_item_made : (s : State) (x : Item) → CleanItem x → AllMade s (built_steps_of s x)
built_item_made s (Alone line) clean = met_made s (built_met (around s) line) (built_asks s line)
built_item_made s (WithRows line rows is_ended) clean = load_made s (built_met (around s) line) (built_asks s line) rows clean is_ended

built_items_made : (s : State) (xs : List Item) → AllByRecursion CleanItem xs → AllMade s (built_steps s xs)
built_items_made s [] clean = tt
built_items_made s (x ∷ xs) clean =
    made_both s (built_steps_of s x) (built_steps (after_all s (built_steps_of s x)) xs) (built_item_made s x clean.0) (built_items_made (after_all s (built_steps_of s x)) xs clean.1)

pub commands_make_steps : BuiltCommandsMakeSteps
commands_make_steps s bytes = built_items_made s (commands_of bytes) (commands_clean bytes)

pub sessions_reach : BuiltSessionsReach
sessions_reach s bytes at = reach_all s (built_steps s (commands_of bytes)) at (commands_make_steps s bytes)
