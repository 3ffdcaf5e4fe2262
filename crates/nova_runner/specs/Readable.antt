-- What each catalog of commits in order gives its readers.
use Rattle.std.specs.Prelude.{◌≡◌, ℕ, ◌<◌, ◌≤◌, true, length}
use Rattle.nova_runner.specs.Files.{Piece, IsNamed}
use Rattle.nova_runner.specs.Held.{Held}
use Rattle.nova_runner.specs.Texts.{HasFlow}
use Rattle.nova_runner.specs.Workflow.{wiring_of}
use Rattle.nova_channel.specs.Reading.{AreNumbered}
use Rattle.nova_meta.specs.Catalog.{Entered, last_moment, progress_at, shelf_at}
use Rattle.nova_meta.specs.Sound.{IsSound}

-- no run began later than the clock
abbrev pub IsTimely : Entered → Type 0
IsTimely cat = (t : ℕ) → last_moment (progress_at cat t).last ≤ cat.moment

-- named blocks are below the next number and have files, the catalog is sound, and no run began later than the clock
pub record IsReadable (cat : Entered) : Type 0 where
  pub below : (p : Piece) → IsNamed cat p → p.block < cat.next
  pub numbered : (c : ℕ) → AreNumbered (shelf_at cat c).intervals
  pub sound : IsSound cat.wiring cat
  pub timely : IsTimely cat

-- A store's catalog is that of its workflow, and readable; it has what is kept of each task, and a slot for each.
pub record IsKept (held : Held) : Type 0 where
  pub read : HasFlow held.flow.text held.flow
  pub wired : held.catalog.wiring ≡ wiring_of held.flow
  pub begun : held.catalog.begun ≡ true
  pub readable : IsReadable held.catalog
  pub tasks : length held.catalog.tasks ≡ length held.flow.tasks
  pub flights : length held.flight ≡ length held.flow.tasks
