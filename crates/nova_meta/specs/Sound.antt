-- What holds of each catalog that commits in order make.
use Rattle.std.specs.Prelude.{◌≡◌, ℕ, ◌≤◌, ◌^◌, true, List, Some, slice_index_or}
use Rattle.nova_path.specs.Shelf.{HasPath}
use Rattle.nova_path.specs.Intervals.{spans}
use Rattle.nova_commit.specs.declared.commit.Commit.{Commit}
use Rattle.nova_meta.specs.declared.wiring.Edge.{Edge}
use Rattle.nova_meta.specs.declared.wiring.Wiring.{Wiring}
use Rattle.nova_meta.specs.Wired.{IsWiring, no_edge, wire_at}
use Rattle.nova_meta.specs.Catalog.{Entered, Shelved, captured, catalog_of, progress_at, shelf_at}
use Rattle.nova_meta.specs.Shelves.{IsEntered, IsShelved}

-- the k-th input of a task
abbrev pub edge_at : Entered → ℕ → ℕ → Edge
edge_at cat t k = slice_index_or (wire_at cat.wiring t).inputs k no_edge

-- the version that the task's last run captured of it
abbrev pub cursor_at : Entered → ℕ → ℕ → ℕ
cursor_at cat t k = captured (progress_at cat t).last k

-- a path leads from i to the newest version
abbrev pub LeadsOn : Shelved → ℕ → Type 0
LeadsOn s i = HasPath (spans s.intervals) i s.version

-- from 0 in each channel, and from the cursor of each input that is read as new
pub record HasHops (cat : Entered) : Type 0 where
  pub whole : (c : ℕ) → LeadsOn (shelf_at cat c) 0
  pub news : (t k : ℕ) → (edge_at cat t k).new ≡ true → LeadsOn (shelf_at cat (edge_at cat t k).channel) (cursor_at cat t k)

-- no counter is above 2 ^ 62
pub record IsBounded (cat : Entered) : Type 0 where
  pub next : cat.next ≤ 2 ^ 62
  pub versions : (c : ℕ) → (shelf_at cat c).version ≤ 2 ^ 62
  pub runs : (t : ℕ) → (progress_at cat t).runs ≤ 2 ^ 62

pub record IsSound (w : Wiring) (cat : Entered) : Type 0 where
  pub same : cat.wiring ≡ w
  pub entered : IsEntered cat
  pub shelved : (c : ℕ) → IsShelved (shelf_at cat c)
  pub hops : HasHops cat
  pub bounded : IsBounded cat

abbrev pub CatalogsAreSound : Type 0
CatalogsAreSound = (w : Wiring) (commits : List Commit) (cat : Entered) → IsWiring w → catalog_of w commits ≡ Some cat → IsSound w cat
