-- Which task writes a channel.
use Rattle.std.specs.Prelude.{ℕ, Bool, ◌&&◌, nat_eq, List, position, Option}
use Rattle.std.specs.List.{list_any}
use Rattle.nova_workflow.specs.declared.flow.Task.{Task}

abbrev pub writes : ℕ → Task → Bool
writes channel t = nat_eq t.output channel

-- the number of the task that writes a channel
abbrev pub writer_of : List Task → ℕ → Option ℕ
writer_of tasks channel = position (writes channel) tasks

-- whether a task writes the channel anew at each run
abbrev pub is_based : List Task → ℕ → Bool
is_based tasks channel = list_any (λ t. writes channel t && t.based) tasks
