-- The catalog of a list of commits.
use Rattle.std.specs.Prelude.{ℕ, zero, suc, ◌+◌, ◌==◌, ◌^◌, nat_lt, nat_le, nat_eq, Bool, true, false, not, ◌&&◌, ◌||◌, List, [], ◌∷◌, ◌++◌, length, map, Option, Some, None, is_some, if◌then◌else◌, slice_index_or, slice_set, replicate, sum_by}
use Rattle.std.specs.List.{filter, list_any, list_all}
use Rattle.nova_path.specs.Shelf.{is_in, chosen_path}
use Rattle.nova_path.specs.Intervals.{spans, weight_in, size_of}
use Rattle.nova_path.specs.declared.interval.Interval.{Interval}
use Rattle.nova_meta.specs.declared.captured.Captured.{Captured}
use Rattle.nova_commit.specs.declared.commit.PartFile.{PartFile}
use Rattle.nova_commit.specs.declared.commit.Commit.{Commit}
use Rattle.nova_commit.specs.declared.commit.Commit.TheVariants.{Flow, Load, Tick, Run, Joined, Collected}
use Rattle.nova_meta.specs.declared.progress.Progress.{Progress}
use Rattle.nova_meta.specs.declared.progress.StateFile.{StateFile}
use Rattle.nova_meta.specs.declared.wiring.Edge.{Edge}
use Rattle.nova_meta.specs.declared.wiring.Wiring.{Wiring}
use Rattle.nova_commit.specs.Commits.{rise}
use Rattle.nova_meta.specs.Wired.{wire_at, is_input, is_based}

-- a channel: its version, and its intervals in order of (from, to)
pub record Shelved : Type 0 where
  pub version : ℕ
  pub intervals : List Interval

pub record Entered : Type 0 where
  pub wiring : Wiring
  pub begun : Bool
  pub channels : List Shelved
  pub tasks : List Progress
  pub moment : ℕ
  pub next : ℕ

-- ---- the catalog of no commits

abbrev pub nothing_shelved : Shelved
nothing_shelved = record { version = 0; intervals = [] }

abbrev pub no_run : Progress
no_run = record { runs = 0; last = None; parts = replicate 16 None }

-- before the first commit: no versions, no runs, moment 0
abbrev pub blank : Wiring → Entered
blank w = record { wiring = w; begun = false; channels = map (λ c. nothing_shelved) w.writers; tasks = map (λ t. no_run) w.tasks; moment = 0; next = 0 }

abbrev pub shelf_at : Entered → ℕ → Shelved
shelf_at cat c = slice_index_or cat.channels c nothing_shelved

abbrev pub progress_at : Entered → ℕ → Progress
progress_at cat t = slice_index_or cat.tasks t no_run

-- ---- what a commit changes

abbrev pub is_before : Interval → Interval → Bool
is_before x y = nat_lt x.from y.from || ((x.from == y.from) && nat_lt x.to y.to)

-- an interval in its place in order of (from, to)
abbrev pub placed : Interval → List Interval → List Interval
placed x [] = x ∷ []
placed x (y ∷ ys) = if is_before x y then x ∷ (y ∷ ys) else y ∷ placed x ys

abbrev pub interval_of : ℕ → ℕ → ℕ → ℕ → Interval
interval_of from to block size = record { from = from; to = to; block = block; size = size }

-- one version more: with the block from the version before, or from 0
abbrev pub next_shelf : Bool → Shelved → ℕ → ℕ → Shelved
next_shelf based s block size = record { version = s.version + 1; intervals = placed (interval_of (if based then 0 else s.version) (s.version + 1) block size) s.intervals }

abbrev pub joined_shelf : Shelved → ℕ → ℕ → ℕ → ℕ → Shelved
joined_shelf s from to block size = record { version = s.version; intervals = placed (interval_of from to block size) s.intervals }

-- the intervals whose blocks are kept
abbrev pub is_kept : List ℕ → Interval → Bool
is_kept kept x = list_any (nat_eq x.block) kept

abbrev pub kept_shelf : List ℕ → Shelved → Shelved
kept_shelf kept s = record { version = s.version; intervals = filter (is_kept kept) s.intervals }

-- parts that a run gave displace the earlier ones of their numbers
abbrev pub with_parts : List PartFile → List (Option StateFile) → List (Option StateFile)
with_parts [] files = files
with_parts (p ∷ ps) files = with_parts ps (slice_set files p.part (Some (record { block = p.block; size = p.size })))

abbrev pub next_progress : Progress → List ℕ → ℕ → ℕ → List PartFile → Progress
next_progress p versions moment seen parts = record { runs = p.runs + 1; last = Some (record { versions = versions; moment = moment; seen = seen }); parts = with_parts parts p.parts }

-- the catalog with a commit more
abbrev pub applied : Entered → Commit → Entered
applied cat (Flow text) = record cat { begun = true }
applied cat (Load c block size) = record cat { channels = slice_set cat.channels c (next_shelf (is_based cat.wiring c) (shelf_at cat c) block size); next = cat.next + 1 }
applied cat (Tick moment) = record cat { moment = moment }
applied cat (Run t versions moment seen block size parts) =
    let c = (wire_at cat.wiring t).output in
    record cat {
      channels = slice_set cat.channels c (next_shelf (is_based cat.wiring c) (shelf_at cat c) block size);
      tasks = slice_set cat.tasks t (next_progress (progress_at cat t) versions moment seen parts);
      next = cat.next + 1 + length parts;
    }
applied cat (Joined c from to block size) = record cat { channels = slice_set cat.channels c (joined_shelf (shelf_at cat c) from to block size); next = cat.next + 1 }
applied cat (Collected kept) = record cat { channels = map (kept_shelf kept) cat.channels }

-- ---- which commits may come next

abbrev pub bound : ℕ
bound = 2 ^ 62

abbrev pub total : Shelved → ℕ
total s = sum_by size_of s.intervals

-- a block of this size has room in a channel, and its number is the next one
abbrev pub may_add : Entered → ℕ → ℕ → ℕ → Bool
may_add cat c block size = (block == cat.next) && nat_le (total (shelf_at cat c) + size) bound

-- a counter that stands here may rise by one
abbrev pub may_rise : ℕ → Bool
may_rise n = nat_lt n bound

abbrev pub is_channel : Entered → ℕ → Bool
is_channel cat c = nat_lt c (length cat.channels)

abbrev pub is_task : Entered → ℕ → Bool
is_task cat t = nat_lt t (length cat.tasks)

-- a path of these intervals leads from i to j
abbrev pub leads : List Interval → ℕ → ℕ → Bool
leads xs i j = is_some (chosen_path (weight_in xs) (spans xs) i j)

-- the version of the k-th input in a capture, and 0 without one
abbrev pub captured : Option Captured → ℕ → ℕ
captured None k = 0
captured (Some run) k = slice_index_or run.versions k 0

-- a run may have seen this version of this input, the k-th
abbrev pub may_see : Entered → Option Captured → ℕ → Edge → ℕ → Bool
may_see cat last k e v =
    let s = shelf_at cat e.channel in
    nat_le v s.version && (not e.new || (nat_le (captured last k) v && leads s.intervals v s.version))

-- and these versions of its inputs from the k-th on, one each
abbrev pub may_see_all : Entered → Option Captured → ℕ → List Edge → List ℕ → Bool
may_see_all cat last k [] [] = true
may_see_all cat last k [] (v ∷ vs) = false
may_see_all cat last k (e ∷ es) [] = false
may_see_all cat last k (e ∷ es) (v ∷ vs) = may_see cat last k e v && may_see_all cat last (suc k) es vs

abbrev pub last_moment : Option Captured → ℕ
last_moment None = 0
last_moment (Some run) = run.moment

abbrev pub may_count : Entered → Option ℕ → ℕ → Bool
may_count cat None seen = seen == 0
may_count cat (Some other) seen = nat_le seen (progress_at cat other).runs

-- State parts have the numbers below this one. Until a task's state is spread over sixteen, it is all in part 0.
abbrev pub part_count : ℕ
part_count = 1

-- the parts' numbers rise, from this one on, and their blocks have the numbers from this one on
abbrev pub may_parts : ℕ → ℕ → List PartFile → Bool
may_parts least block [] = true
may_parts least block (p ∷ ps) = nat_le least p.part && (nat_lt p.part part_count && ((p.block == block) && may_parts (suc p.part) (suc block) ps))

-- parts come only where a task keeps state
abbrev pub may_have_parts : Bool → List PartFile → Bool
may_have_parts stateful parts = stateful || (length parts == 0)

-- the moment isn't below that of the task's last run nor above the clock's, and no more runs were seen than there are
abbrev pub is_timely : Entered → ℕ → ℕ → ℕ → Bool
is_timely cat t moment seen =
    nat_le (last_moment (progress_at cat t).last) moment && (nat_le moment cat.moment && may_count cat (wire_at cat.wiring t).after seen)

-- the block and the parts have the next numbers, and all counters have room
abbrev pub may_write : Entered → ℕ → ℕ → ℕ → List PartFile → Bool
may_write cat t block size parts =
    let wire = wire_at cat.wiring t in
    may_add cat wire.output block size
    && (may_rise (shelf_at cat wire.output).version && (may_rise (progress_at cat t).runs && (may_rise (cat.next + length parts) && (may_have_parts wire.stateful parts && may_parts 0 (cat.next + 1) parts))))

abbrev pub may_run : Entered → ℕ → List ℕ → ℕ → ℕ → ℕ → ℕ → List PartFile → Bool
may_run cat t versions moment seen block size parts =
    is_timely cat t moment seen && (may_write cat t block size parts && may_see_all cat (progress_at cat t).last 0 (wire_at cat.wiring t).inputs versions)

abbrev pub may_join : Entered → ℕ → ℕ → ℕ → ℕ → ℕ → Bool
may_join cat c from to block size =
    let s = shelf_at cat c in
    nat_lt from to && (nat_le to s.version && (not (is_in (spans s.intervals) (record { from = from; to = to })) && (may_add cat c block size && may_rise cat.next)))

-- the catalog has an interval with this block
abbrev pub has_block : Entered → ℕ → Bool
has_block cat block = list_any (λ (s : Shelved). list_any (λ (x : Interval). nat_eq block x.block) s.intervals) cat.channels

-- 0 to n - 1
abbrev pub indices : ℕ → List ℕ
indices zero = []
indices (suc n) = indices n ++ n ∷ []

-- of the k-th input of a task, which reads this channel as new: a path from its cursor is kept
abbrev pub keeps_cursors : Option Captured → ℕ → List Edge → ℕ → Shelved → Bool
keeps_cursors last k [] c left = true
keeps_cursors last k (e ∷ es) c left = (not (e.new && (e.channel == c)) || leads left.intervals (captured last k) left.version) && keeps_cursors last (suc k) es c left

-- of a channel each of the hops (0, n) and (cursor, n) has a path in what is left
abbrev pub keeps_hops : Entered → ℕ → Shelved → Bool
keeps_hops cat c left =
    leads left.intervals 0 left.version
    && list_all (λ t. keeps_cursors (progress_at cat t).last 0 (wire_at cat.wiring t).inputs c left) (indices (length cat.tasks))

-- what these blocks leave of each channel has them
abbrev pub keeps_all : Entered → List ℕ → Bool
keeps_all cat kept = list_all (λ c. keeps_hops cat c (kept_shelf kept (shelf_at cat c))) (indices (length cat.channels))

abbrev pub may_collect : Entered → List ℕ → Bool
may_collect cat kept = rise kept && (list_all (has_block cat) kept && keeps_all cat kept)

-- the commit keeps the rules, after those before it
abbrev pub allows : Entered → Commit → Bool
allows cat (Flow text) = not cat.begun
allows cat (Load c block size) = cat.begun && (is_channel cat c && (is_input cat.wiring c && (may_add cat c block size && (may_rise (shelf_at cat c).version && may_rise cat.next))))
allows cat (Tick moment) = cat.begun && nat_le cat.moment moment
allows cat (Run t versions moment seen block size parts) = cat.begun && (is_task cat t && may_run cat t versions moment seen block size parts)
allows cat (Joined c from to block size) = cat.begun && (is_channel cat c && may_join cat c from to block size)
allows cat (Collected kept) = cat.begun && may_collect cat kept

-- None where a rule is broken
abbrev pub with_commit : Option Entered → Commit → Option Entered
with_commit None c = None
with_commit (Some cat) c = if allows cat c then Some (applied cat c) else None

abbrev pub with_commits : Option Entered → List Commit → Option Entered
with_commits o [] = o
with_commits o (c ∷ cs) = with_commits (with_commit o c) cs

-- the catalog of these commits, where they are in order
abbrev pub catalog_of : Wiring → List Commit → Option Entered
catalog_of w commits = with_commits (Some (blank w)) commits
