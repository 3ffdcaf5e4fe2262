-- For the time of building: a line with words is refused as not built where they aren't those of a command that is built. That comes right behind a line that is too long, and before the names: what a built command meets is told as ever.
use Rattle.std.specs.Prelude.{Bool, true, false, ℕ, List, [], ◌∷◌, ◌++◌, Option, Some, None, Result, Ok, Err, if◌then◌else◌}
use Rattle.nova_script.specs.Forms.{command_of}
use Rattle.nova_script.specs.Session.{Item, Alone, WithRows, Surroundings, met_by}
use Rattle.nova_script.specs.declared.command.Command.{Command}
use Rattle.nova_script.specs.declared.command.Command.TheVariants as c
use Rattle.nova_script.specs.declared.context.Request.{Request}
use Rattle.nova_script.specs.declared.refusal.Refusal.{Refusal}
use Rattle.nova_script.specs.declared.refusal.Refusal.TheVariants.{LineTooLong, NotBuilt}
use Rattle.nova_machine.specs.State.{State}
use Rattle.nova_machine.specs.Steps.{Step, after_all}
use Rattle.nova_machine.specs.Commands.{around, load_steps, met_steps}

abbrev pub is_built : Command → Bool
is_built (c.Load name) = true
is_built (c.Tick m) = true
is_built (c.Run name) = true
is_built (c.Begin name) = true
is_built (c.Drop name) = true
is_built (c.Show name) = true
is_built _ = false

-- a line's words are refused as no command's, or as not of its command's form: neither is a built command followed by what it takes
abbrev pub told_while_building : Refusal → Refusal
told_while_building LineTooLong = LineTooLong
told_while_building _ = NotBuilt

-- the command of a line where it is built
abbrev pub built_only : Result (Option Command) Refusal → Result (Option Command) Refusal
built_only (Err refusal) = Err (told_while_building refusal)
built_only (Ok None) = Ok None
built_only (Ok (Some command)) = if is_built command then Ok (Some command) else Err NotBuilt

-- what a line meets
abbrev pub built_met : Surroundings → List ℕ → Option (Result Request Refusal)
built_met x line = met_by x (built_only (command_of line))

-- the steps of a command, and of commands in turn, as of the machine's
abbrev pub built_steps_of : State → Item → List Step
built_steps_of s (Alone line) = met_steps s (built_met (around s) line)
built_steps_of s (WithRows line rows is_ended) = load_steps s (built_met (around s) line) rows is_ended

abbrev pub built_steps : State → List Item → List Step
built_steps s [] = []
built_steps s (c ∷ cs) = built_steps_of s c ++ built_steps (after_all s (built_steps_of s c)) cs
