-- Executions in flight: what slots hold of a state, and that files know nothing of them.
use Rattle.std.proofs.Common.{◌≡◌, ℕ, zero, suc, List, [], ◌∷◌, length, map, Option, Some, None, option_map, replicate, refl, ap, sym, ◌∙◌, arith}
use Rattle.std.specs.Prelude.{is_some, slice_index_or}
use Rattle.std.proofs.Math.ListN.{length-set}
use Rattle.nova_meta.specs.declared.captured.Captured.{Captured}
use Rattle.nova_commit.specs.declared.commit.Commit.{Commit}
use Rattle.nova_commit.specs.declared.commit.Commit.TheVariants as commit
use Rattle.nova_meta.specs.Catalog.{Entered, applied, next_progress, progress_at}
use Rattle.nova_meta.specs.Named.{Channel, Content, State as StatePart}
use Rattle.nova_machine.specs.Workflow.{Workflow}
use Rattle.nova_machine.specs.State.{State, Done, Capture, ended, landed, nothing_done}
use Rattle.nova_machine.specs.Reachable.{IsReachable}
use Rattle.nova_machine.proofs.Ended.{task_count}
use Rattle.nova_trigger.specs.Due.{capture_in}
use Rattle.nova_runner.specs.Files.{Piece, bytes_of}
use Rattle.nova_runner.specs.Committing.{IsFresh}
use Rattle.nova_runner.specs.Flights.{HoldFlights, flights_of, idle_slots}
use Rattle.nova_runner.specs.Stands.{Told, drawn_kept, sketch, told_done}
use Rattle.nova_runner.specs.declared.ready.Fresh.{Fresh}
use Rattle.nova_runner.proofs.StateParts.{part_ended}

-- ---- what files have of a state doesn't tell what is in flight

told_landed : (ds : List Done) → map told_done (map landed ds) ≡ map told_done ds
told_landed [] = refl
told_landed (d ∷ ds) = ap (λ (ts : List Told). told_done d ∷ ts) (told_landed ds)

pub sketch_ended : (s : State) → sketch (ended s) ≡ sketch s
unfolding sketch
sketch_ended s = λ i. record { channels = map drawn_kept s.channels; tasks = told_landed s.tasks i; moment = s.moment }

pub bytes_ended : (s : State) (w : Content) → bytes_of (ended s) w ≡ bytes_of s w
bytes_ended s (Channel c i j) = refl
bytes_ended s (StatePart t part) = part_ended s t part

pub fresh_ended : (s : State) (fresh : List Fresh) (p : Piece) → IsFresh s fresh p → IsFresh (ended s) fresh p
fresh_ended s fresh p is = (is.0, is.1, is.2, is.3 ∙ sym (bytes_ended s p.content), is.4)

-- ---- with nothing in flight

abbrev no_slot : Option Captured
no_slot = None

idle_each : (n : ℕ) (ds : List Done) → length ds ≡ n → map (option_map capture_in) (replicate n no_slot) ≡ map (λ (d : Done). d.flight) (map landed ds)
idle_each zero [] same = refl
idle_each zero (d ∷ ds) same = absurd (omega (arith, same))
idle_each (suc n) [] same = absurd (omega (arith, same))
idle_each (suc n) (d ∷ ds) same = ap (λ os. None ∷ os) (idle_each n ds (omega (arith, same)))

-- slots without executions hold what a state has in flight that a call opens
pub idle_hold : (w : Workflow) (slots : List (Option Captured)) (s : State) → IsReachable s → w ≡ s.flow → slots ≡ idle_slots w → HoldFlights slots (ended s)
idle_hold w slots s reached flow idle =
    ap (map (option_map capture_in)) idle ∙ idle_each (length w.tasks) s.tasks (task_count s reached ∙ ap (λ (v : Workflow). length v.tasks) (sym flow))

pub idle_count : (n : ℕ) → length (replicate n no_slot) ≡ n
idle_count zero = refl
idle_count (suc n) = ap suc (idle_count n)

-- ---- of one task

some_mapped : (o : Option Captured) → is_some o ≡ is_some (option_map capture_in o)
some_mapped None = refl
some_mapped (Some run) = refl

-- a slot is taken where the state has an execution of the task in flight
pub slot_taken : (slots : List (Option Captured)) (ds : List Done) (t : ℕ) → map (option_map capture_in) slots ≡ map (λ (d : Done). d.flight) ds → is_some (slice_index_or slots t None) ≡ is_some (slice_index_or ds t nothing_done).flight
slot_taken [] [] t same = refl
slot_taken [] (d ∷ ds) t same = absurd cc
slot_taken (slot ∷ slots) [] t same = absurd cc
slot_taken (slot ∷ slots) (d ∷ ds) zero same = some_mapped slot ∙ ap is_some (first_same (option_map capture_in slot) d.flight (map (option_map capture_in) slots) (map (λ (e : Done). e.flight) ds) same)
  where
    first_same : (a b : Option Capture) (xs ys : List (Option Capture)) → a ∷ xs ≡ b ∷ ys → a ≡ b
    first_same a b xs ys e = cc
slot_taken (slot ∷ slots) (d ∷ ds) (suc t) same = slot_taken slots ds t (rest_same (option_map capture_in slot) d.flight (map (option_map capture_in) slots) (map (λ (e : Done). e.flight) ds) same)
  where
    rest_same : (a b : Option Capture) (xs ys : List (Option Capture)) → a ∷ xs ≡ b ∷ ys → xs ≡ ys
    rest_same a b xs ys e = cc

-- ---- over a commit

pub hold_on : (old new : List (Option Captured)) (s t : State) → new ≡ old → HoldFlights old s → flights_of t ≡ flights_of s → HoldFlights new t
hold_on old new s t same hold stay = ap (map (option_map capture_in)) same ∙ hold ∙ sym stay

-- no commit changes the number of tasks
pub tasks_stay : (cat : Entered) (c : Commit) → length (applied cat c).tasks ≡ length cat.tasks
tasks_stay cat (commit.Flow text) = refl
tasks_stay cat (commit.Load c block size) = refl
tasks_stay cat (commit.Tick moment) = refl
tasks_stay cat (commit.Run t versions moment seen block size parts) = length-set cat.tasks t (next_progress (progress_at cat t) versions moment seen parts)
tasks_stay cat (commit.Joined c from to block size) = refl
tasks_stay cat (commit.Collected kept) = refl
