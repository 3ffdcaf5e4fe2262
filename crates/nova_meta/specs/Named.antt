-- Lists of commits in order, and the blocks that their catalog names.
use Rattle.std.specs.Prelude.{◌≡◌, ℕ, ◌<◌, ◌^◌, true, List, ◌∷◌, [], ◌++◌, length, map, Some, None, slice_index_or}
use Rattle.std.specs.List.{AllByRecursion}
use Rattle.nova_path.specs.Lists.{IsOneOf}
use Rattle.nova_commit.specs.declared.commit.Commit.{Commit}
use Rattle.nova_meta.specs.declared.wiring.Wiring.{Wiring}
use Rattle.nova_commit.specs.Commits.{Fits, commit_bytes}
use Rattle.nova_meta.specs.Wired.{IsWiring, wire_at}
use Rattle.nova_meta.specs.Catalog.{Entered, catalog_of, interval_of, part_count, progress_at, shelf_at, with_commit}

-- The commits are in order, and make this catalog. Each fits its bytes, so they are told by them.
pub record IsCatalogOf (w : Wiring) (commits : List Commit) (cat : Entered) : Type 0 where
  pub fit : AllByRecursion Fits commits
  pub is : catalog_of w commits ≡ Some cat

-- what a block's file holds: an interval of a channel, or a state part of a task
pub data Content : Type 0 where
  Channel : (channel from to : ℕ) → Content
  State : (task part : ℕ) → Content

-- the catalog names this block, of this size, for a content
abbrev pub Names : Entered → Content → ℕ → ℕ → Type 0
Names cat (Channel c from to) block size = IsOneOf (shelf_at cat c).intervals (interval_of from to block size)
Names cat (State t part) block size = slice_index_or (progress_at cat t).parts part None ≡ Some (record { block = block; size = size })

-- no two lists of commits in order have one list of spellings
abbrev pub ListsSpelledOnce : Type 0
ListsSpelledOnce = (w : Wiring) (cs ds : List Commit) (cat other : Entered) → IsCatalogOf w cs cat → IsCatalogOf w ds other → map commit_bytes cs ≡ map commit_bytes ds → cs ≡ ds

-- a commit behind a list of commits makes what it makes of their catalog
abbrev pub CommitsCompose : Type 0
CommitsCompose = (w : Wiring) (commits : List Commit) (commit : Commit) → catalog_of w (commits ++ commit ∷ []) ≡ with_commit (catalog_of w commits) commit

-- each block that is named is before the next one, and is named for one content
pub record IsNumbered (cat : Entered) : Type 0 where
  pub below : (x : Content) (block size : ℕ) → Names cat x block size → block < cat.next
  pub once : (x y : Content) (block size other : ℕ) → Names cat x block size → Names cat y block other → (x ≡ y) × (size ≡ other)

abbrev pub BlocksAreNumbered : Type 0
BlocksAreNumbered = (w : Wiring) (commits : List Commit) (cat : Entered) → IsWiring w → catalog_of w commits ≡ Some cat → IsNumbered cat

-- state parts are named only of tasks that keep state, by numbers below the count of parts
abbrev pub HasKeptParts : Entered → Type 0
HasKeptParts cat = (t part block size : ℕ) → Names cat (State t part) block size → ((wire_at cat.wiring t).stateful ≡ true) × (part < part_count)

abbrev pub PartsAreKept : Type 0
PartsAreKept = (w : Wiring) (commits : List Commit) (cat : Entered) → catalog_of w commits ≡ Some cat → HasKeptParts cat

-- the size of a state part has room in its field
abbrev pub HasWideParts : Entered → Type 0
HasWideParts cat = (t part block size : ℕ) → Names cat (State t part) block size → size < 2 ^ 64

abbrev pub PartsAreWide : Type 0
PartsAreWide = (w : Wiring) (commits : List Commit) (cat : Entered) → IsCatalogOf w commits cat → HasWideParts cat

-- each task has a slot for each part that states may have
abbrev pub HasSlots : Entered → Type 0
HasSlots cat = (t : ℕ) → length (progress_at cat t).parts ≡ 16

abbrev pub PartsHaveSlots : Type 0
PartsHaveSlots = (w : Wiring) (commits : List Commit) (cat : Entered) → catalog_of w commits ≡ Some cat → HasSlots cat
