-- Worked catalogs: counters that stand at their bounds, which no journal can reach; the clock and cursors.
use Rattle.std.specs.Prelude.{◌≡◌, ℕ, ◌+◌, Bool, true, false, [], ◌∷◌, replicate, Some, None}
use Rattle.nova_commit.specs.declared.commit.PartFile.{PartFile}
use Rattle.nova_commit.specs.declared.commit.Commit.{Commit}
use Rattle.nova_commit.specs.declared.commit.Commit.TheVariants.{Load, Tick, Run, Joined}
use Rattle.nova_meta.specs.declared.wiring.Wire.{Wire}
use Rattle.nova_meta.specs.declared.wiring.Wiring.{Wiring}
use Rattle.nova_meta.specs.declared.progress.Progress.{Progress}
use Rattle.nova_meta.specs.Catalog.{Entered, Shelved, allows, applied, bound, captured, no_run, progress_at}

-- it reads channel 0 as new and channel 1 whole, into channel 2
abbrev pub first : Wire
first = record { inputs = (record { channel = 0; new = true }) ∷ ((record { channel = 1; new = false }) ∷ []); output = 2; based = false; after = None; stateful = false }

-- it reads channel 2 as new, into channel 3, after the first, and keeps state
abbrev pub second : Wire
second = record { inputs = (record { channel = 2; new = true }) ∷ []; output = 3; based = false; after = Some 0; stateful = true }

-- it reads channel 3 whole, and writes channel 4 anew
abbrev pub third : Wire
third = record { inputs = (record { channel = 3; new = false }) ∷ []; output = 4; based = true; after = None; stateful = false }

-- a wiring of three tasks
abbrev pub three : Wiring
three = record { writers = None ∷ (None ∷ (Some 0 ∷ (Some 1 ∷ (Some 2 ∷ [])))); tasks = first ∷ (second ∷ (third ∷ [])) }

abbrev pub bare : ℕ → Shelved
bare version = record { version = version; intervals = [] }

abbrev pub ran : ℕ → Progress
ran runs = record { runs = runs; last = None; parts = replicate 16 None }

-- each channel has this version and has lost its intervals, the second task ran so often, and the next block has this number
abbrev pub standing : ℕ → ℕ → ℕ → Entered
standing version runs next = record { wiring = three; begun = true; channels = replicate 5 (bare version); tasks = no_run ∷ (ran runs ∷ (no_run ∷ [])); moment = 0; next = next }

abbrev pub part_in : ℕ → PartFile
part_in block = record { part = 0; block = block; size = 9 }

-- a run of the second task that saw this version, and writes a state part
abbrev pub run_of : ℕ → ℕ → Commit
run_of version next = Run 1 (version ∷ []) 0 0 next 10 (part_in (next + 1) ∷ [])

-- Whether a load, a run that writes a part, and a join of the greatest size may come next.
pub record MayCome (version run_count next : ℕ) (load run join : Bool) : Type 0 where
  pub loads : allows (standing version run_count next) (Load 0 next 10) ≡ load
  pub runs : allows (standing version run_count next) (run_of version next) ≡ run
  pub joins : allows (standing version run_count next) (Joined 0 0 1 next bound) ≡ join

-- Versions, runs and blocks are counted up to their bound.
pub record CountersEnd : Type 0 where
  pub nothing : MayCome 1 0 0 true true true
  pub two_blocks_below : MayCome 1 0 4611686018427387902 true true true
  pub a_block_below : MayCome 1 0 4611686018427387903 true false true
  pub next_block : MayCome 1 0 4611686018427387904 false false false
  pub a_version_below : MayCome 4611686018427387903 0 0 true true true
  pub versions : MayCome 4611686018427387904 0 0 false false true
  pub a_run_below : MayCome 1 4611686018427387903 0 true true true
  pub run_count : MayCome 1 4611686018427387904 0 true false true

-- A tick moves the clock, and a run the cursor to the version that it saw.
pub record ClockAndCursors : Type 0 where
  pub clock : (applied (standing 5 0 0) (Tick 60)).moment ≡ 60
  pub before : captured (progress_at (standing 5 0 0) 1).last 0 ≡ 0
  pub cursor : captured (progress_at (applied (applied (standing 5 0 0) (Tick 60)) (run_of 5 0)) 1).last 0 ≡ 5
