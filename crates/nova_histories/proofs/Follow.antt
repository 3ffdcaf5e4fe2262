-- A run follows those before it, and its main input is read as NEW.
use Rattle.std.proofs.Common.{◌≡◌, ◌⊎◌, inl, inr, ℕ, suc, ◌<◌, ◌≤◌, Bool, true, false, List, [], ◌∷◌, length, refl, arith, if◌then◌else◌}
use Rattle.std.specs.Prelude.{slice_index_or}
use Rattle.std.proofs.lemmas.List.{get_or_past}
use Rattle.nova_workflow.specs.declared.flow.Input.{Input}
use Rattle.nova_machine.specs.Workflow.{input_in, is_new, main_place, no_input, task_in}
use Rattle.nova_machine.specs.Versions.{Keeps}
use Rattle.nova_machine.specs.State.{Capture, State, done_at, kept_at, newest}
use Rattle.nova_machine.specs.Due.{cursor, seen_at}
use Rattle.nova_machine.specs.Keeping.{KeepsAll}
use Rattle.nova_rowwise.specs.Runs.{main_channel}
use Rattle.nova_histories.specs.Planned.{IsPlannedFlow}
use Rattle.nova_histories.specs.Statements.{IsThere, IsWhole, RunsFollow}
use Rattle.nova_histories.proofs.Captures.{all_push, captured, current_risen, rise_push}
use Rattle.nova_histories.proofs.Planned.{owned, wired}
use Rattle.nova_histories.proofs.Tables.{blocks_are_deltas}

new_there : (is : List Input) → main_place is < length is → is_new (slice_index_or is (main_place is) no_input).mode ≡ true
new_there [] lt = absurd (omega (arith, lt))
new_there (i ∷ is) lt = go (is_new i.mode) refl lt (λ below. new_there is below)
  where
    go : (b : Bool) → is_new i.mode ≡ b → (if b then 0 else suc (main_place is)) < suc (length is) → (main_place is < length is → is_new (slice_index_or is (main_place is) no_input).mode ≡ true)
        → is_new (slice_index_or (i ∷ is) (if b then 0 else suc (main_place is)) no_input).mode ≡ true
    go true e below rest = e
    go false e below rest = rest (omega (arith, below))

-- a channel that is read as NEW keeps what isn't written
pub main_keeps : (s : State) → IsPlannedFlow s.flow → KeepsAll s → (t : ℕ) → main_place (task_in s.flow t).inputs < length (task_in s.flow t).inputs → Keeps (kept_at s (main_channel s t)).versions
main_keeps s planned keeps t place = keeps (main_channel s t) (wired s.flow planned t (main_place (task_in s.flow t).inputs) (new_there (task_in s.flow t).inputs place))

-- the captured version of any place is there
pub seen_there : (s : State) (t : ℕ) (run : Capture) → IsWhole s t run → IsThere s t run → (k : ℕ) → seen_at run k ≤ newest s (input_in s.flow t k).channel
seen_there s t run whole there k =
    let split : (k < length (task_in s.flow t).inputs) ⊎ (length (task_in s.flow t).inputs ≤ k) = grind arith in
    elim split as (λ _. seen_at run k ≤ newest s (input_in s.flow t k).channel) [
      | inl lt ↦ there k lt
      | inr past ↦ let none : seen_at run k ≡ 0 = get_or_past run.versions k 0 (omega (arith, whole, past)) in omega (arith, none)
    ]

pub runs_follow : RunsFollow
runs_follow s planned at t lt run current =
    let own = owned s.flow planned in
    let is = captured s own at t in
    let risen = current_risen s own at t lt run current in
    let k = main_place (task_in s.flow t).inputs in
    record {
      whole = all_push (IsWhole s t) (done_at s t).runs run is.whole risen.0;
      rise = rise_push k (done_at s t).runs run (is.rise k) (risen.1 k);
      there = seen_there s t run risen.0 risen.2 k;
      block = blocks_are_deltas s planned at (main_channel s t) (cursor s t k) (seen_at run k);
    }
