-- What an execution captures, where an input stands, and when a task is due.
use Rattle.std.specs.Prelude.{◌≡◌, ℕ, ◌+◌, ◌-◌, ◌<◌, ◌≤◌, nat_lt, nat_le, Bool, false, not, ◌&&◌, ◌||◌, List, [], ◌∷◌, length, map, slice_index_or}
use Rattle.nova_workflow.specs.declared.flow.Input.{Input}
use Rattle.nova_workflow.specs.declared.flow.Trigger.{Trigger}
use Rattle.nova_workflow.specs.declared.flow.Trigger.TheVariants.{OnData, Every, After}
use Rattle.nova_machine.specs.Workflow.{task_in}
use Rattle.nova_machine.specs.State.{State, Capture, done_at, newest, run_count, is_in_flight}

-- before any run: each number counts as 0
abbrev pub no_capture : Capture
no_capture = record { versions = []; moment = 0; seen = 0 }

abbrev pub last_of : List Capture → Capture
last_of [] = no_capture
last_of (run ∷ []) = run
last_of (run ∷ (next ∷ runs)) = last_of (next ∷ runs)

-- what the task's last run captured
abbrev pub last_run : State → ℕ → Capture
last_run s t = last_of (done_at s t).runs

-- the version of the k-th input in a capture
abbrev pub seen_at : Capture → ℕ → ℕ
seen_at run k = slice_index_or run.versions k 0

-- where the k-th input of a task stands: what the last run captured of it
abbrev pub cursor : State → ℕ → ℕ → ℕ
cursor s t k = seen_at (last_run s t) k

-- the run count of the task that a cascade names
abbrev pub runs_named : State → Trigger → ℕ
runs_named s OnData = 0
runs_named s (Every period) = 0
runs_named s (After task) = run_count s task

-- what an execution of a task that begins now captures
abbrev pub capture_of : State → ℕ → Capture
capture_of s t = record {
  versions = map (λ (i : Input). newest s i.channel) (task_in s.flow t).inputs;
  moment = s.moment;
  seen = runs_named s (task_in s.flow t).trigger;
}

-- ---- the rule, between what the last run captured and what one that begins now would capture

-- some input has a version above the one that was captured
pub record HasNewVersion (last now : List ℕ) : Type 0 where
  pub input : ℕ
  pub in_range : input < length now
  pub above : slice_index_or last input 0 < slice_index_or now input 0

-- new data; so much later; a run more of the task that is named
abbrev pub IsReady : Trigger → Capture → Capture → Type 0
IsReady OnData last now = HasNewVersion last.versions now.versions
IsReady (Every period) last now = period ≤ now.moment - last.moment
IsReady (After task) last now = last.seen < now.seen

-- not in flight, and its trigger is ready
pub record IsDue (s : State) (t : ℕ) : Type 0 where
  pub free : is_in_flight s t ≡ false
  pub ready : IsReady (task_in s.flow t).trigger (last_run s t) (capture_of s t)

-- ---- the same as tests

abbrev pub is_above : ℕ → List ℕ → List ℕ → Bool
is_above k last [] = false
is_above k last (v ∷ vs) = nat_lt (slice_index_or last k 0) v || is_above (k + 1) last vs

abbrev pub is_ready : Trigger → Capture → Capture → Bool
is_ready OnData last now = is_above 0 last.versions now.versions
is_ready (Every period) last now = nat_le period (now.moment - last.moment)
is_ready (After task) last now = nat_lt last.seen now.seen

abbrev pub is_due : State → ℕ → Bool
is_due s t = not (is_in_flight s t) && is_ready (task_in s.flow t).trigger (last_run s t) (capture_of s t)
