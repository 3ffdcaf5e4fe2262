-- Captured versions rise.
use Rattle.std.proofs.Common.{◌≡◌, ◌⊎◌, inl, inr, ℕ, zero, suc, ◌<◌, ◌≤◌, ◌==◌, true, not, List, [], ◌∷◌, ◌++◌, length, Some, is_some, refl, ap, sym, subst, arith}
use Rattle.std.specs.Prelude.{nat_le, nat_lt}
use Rattle.std.specs.List.{AllByRecursion}
use Rattle.std.proofs.lemmas.Bool.Decides.{nat_tests}
use Rattle.std.proofs.lemmas.List.{length_push, length-map, get_or_append_left, get_or_push, get_or_past}
use Rattle.nova_path.specs.Lists.{IsOneOf}
use Rattle.nova_workflow.specs.declared.flow.Input.{Input}
use Rattle.nova_machine.specs.Workflow.{Workflow, task_in, input_in, is_input}
use Rattle.nova_machine.specs.State.{State, Capture, Done, start, nothing_done, landed, done_at, newest}
use Rattle.nova_machine.specs.Due.{capture_of, cursor, last_of, no_capture, seen_at}
use Rattle.nova_machine.specs.Steps.{Step, Load, Tick, Run, Begin, Finish, Drop, Worked, Compact, Chain, Collect, Show, Blocks, Refused, after, after_all, set_done, add_version, loaded_version, add_run, add_span, with_run, landing, may_begin, may_chain}
use Rattle.nova_machine.specs.Reachable.{AllMade, IsReachable}
use Rattle.nova_machine.specs.RunLaws.{IsOwned, Rise, captured_by}
use Rattle.nova_machine.proofs.Growth.{at_set}
use Rattle.nova_machine.proofs.Kept.{same_everywhere, landing_some, both_true, capture_seen}
use Rattle.nova_machine.proofs.Reached.{reachable_more}
use Rattle.nova_machine.proofs.Runs.{HasRun, history}
use Rattle.nova_machine.proofs.Turns.{on_either, on_landing, flow_after}
use Rattle.nova_histories.specs.Made.{IsCurrent}
use Rattle.nova_histories.specs.Statements.{IsWhole, IsThere, CapturesRise}
use Rattle.nova_histories.proofs.Planned.{owned}

-- ---- lists of captures

front_same : (k : ℕ) (runs : List Capture) (run : Capture) (n : ℕ) → n ≤ length runs → captured_by k (runs ++ run ∷ []) n ≡ captured_by k runs n
front_same k runs run zero le = refl
front_same k runs run (suc n) le = ap (λ (r : Capture). seen_at r k) (get_or_append_left runs (run ∷ []) no_capture n (omega (arith, le)))

last_captured : (k : ℕ) (runs : List Capture) → captured_by k runs (length runs) ≡ seen_at (last_of runs) k
last_captured k [] = refl
last_captured k (r ∷ []) = refl
last_captured k (r ∷ (q ∷ runs)) = last_captured k (q ∷ runs)

pub rise_push : (k : ℕ) (runs : List Capture) (run : Capture) → Rise k runs → seen_at (last_of runs) k ≤ seen_at run k → Rise k (runs ++ run ∷ [])
rise_push k runs run rise up i j le within =
    let n = length runs in
    let long = length_push runs run in
    let new : captured_by k (runs ++ run ∷ []) (suc n) ≡ seen_at run k = ap (λ (r : Capture). seen_at r k) (get_or_push runs run no_capture n refl) in
    let split : (j ≤ n) ⊎ (j ≡ suc n) = grind arith in
    elim split as (λ _. captured_by k (runs ++ run ∷ []) i ≤ captured_by k (runs ++ run ∷ []) j) [
      | inl low ↦
          let a = front_same k runs run i (omega (arith, le, low)) in
          let b = front_same k runs run j low in
          let c = rise i j le low in
          omega (arith, a, b, c)
      | inr top ↦ subst (λ m. captured_by k (runs ++ run ∷ []) i ≤ captured_by k (runs ++ run ∷ []) m) (sym top) (below i (omega (arith, le, top)) new)
    ]
  where
    below : (i : ℕ) → i ≤ suc (length runs) → captured_by k (runs ++ run ∷ []) (suc (length runs)) ≡ seen_at run k → captured_by k (runs ++ run ∷ []) i ≤ captured_by k (runs ++ run ∷ []) (suc (length runs))
    below i le new =
        let split : (i ≤ length runs) ⊎ (i ≡ suc (length runs)) = grind arith in
        elim split as (λ _. captured_by k (runs ++ run ∷ []) i ≤ captured_by k (runs ++ run ∷ []) (suc (length runs))) [
          | inl low ↦
              let a = front_same k runs run i low in
              let b = last_captured k runs in
              let c = rise i (length runs) low (omega arith) in
              omega (arith, a, b, c, up, new)
          | inr top ↦ subst (λ m. captured_by k (runs ++ run ∷ []) m ≤ captured_by k (runs ++ run ∷ []) (suc (length runs))) (sym top) (omega arith)
        ]

pub all_push : (P : Capture → Type 0) (runs : List Capture) (run : Capture) → AllByRecursion P runs → P run → AllByRecursion P (runs ++ run ∷ [])
all_push P [] run all new = (new, tt)
all_push P (r ∷ runs) run all new = (all.0, all_push P runs run all.1 new)

-- what holds of each run and of none holds of the last one
on_last : (P : Capture → Type 0) (runs : List Capture) → P no_capture → ((r : Capture) → IsOneOf runs r → P r) → P (last_of runs)
on_last P [] none each = none
on_last P (r ∷ []) none each = each r (inl refl)
on_last P (r ∷ (q ∷ runs)) none each = on_last P (q ∷ runs) none (λ x i. each x (inr i))

one_of_all : (P : Capture → Type 0) (runs : List Capture) (r : Capture) → AllByRecursion P runs → IsOneOf runs r → P r
one_of_all P [] r all i = absurd i
one_of_all P (x ∷ runs) r all (inl e) = subst P e all.0
one_of_all P (x ∷ runs) r all (inr i) = one_of_all P runs r all.1 i

-- ---- what is kept of a task

-- of a task of n inputs
pub record Captured (n : ℕ) (d : Done) : Type 0 where
  pub whole : AllByRecursion (λ (r : Capture). length r.versions ≡ n) d.runs
  pub rise : (k : ℕ) → Rise k d.runs
  pub flies : (r : Capture) → d.flight ≡ Some r → (length r.versions ≡ n) × ((k : ℕ) → seen_at (last_of d.runs) k ≤ seen_at r k)

abbrev inputs_of : Workflow → ℕ → ℕ
inputs_of w t = length (task_in w t).inputs

abbrev pub AllCaptured : State → Type 0
AllCaptured s = (t : ℕ) → Captured (inputs_of s.flow t) (done_at s t)

captured_none : (n : ℕ) → Captured n nothing_done
captured_none n = record {
  whole = tt;
  rise = λ k i j le within. let z : j ≡ 0 = omega (arith, within) in let y : i ≡ 0 = omega (arith, le, z) in same_start k i y j;
  flies = λ r e. absurd cc;
}
  where
    same_start : (k i : ℕ) → i ≡ 0 → (j : ℕ) → captured_by k [] i ≤ captured_by k [] j
    same_start k i e j = subst (λ m. captured_by k [] m ≤ captured_by k [] j) (sym e) (omega arith)

captured_landed : (n : ℕ) (d : Done) → Captured n d → Captured n (landed d)
captured_landed n d is = record { whole = is.whole; rise = is.rise; flies = λ r e. absurd cc }

captured_begun : (n : ℕ) (d : Done) (run : Capture) → length run.versions ≡ n → ((k : ℕ) → seen_at (last_of d.runs) k ≤ seen_at run k) → Captured n d → Captured n (record d { flight = Some run })
captured_begun n d run whole up is = record {
  whole = is.whole;
  rise = is.rise;
  flies = λ r e. let same : run ≡ r = cc in subst (λ (q : Capture). (length q.versions ≡ n) × ((k : ℕ) → seen_at (last_of d.runs) k ≤ seen_at q k)) same (whole, up);
}

captured_run : (n : ℕ) (d : Done) (run : Capture) → length run.versions ≡ n → ((k : ℕ) → seen_at (last_of d.runs) k ≤ seen_at run k) → Captured n d → Captured n (with_run d run)
captured_run n d run whole up is = record {
  whole = all_push (λ (r : Capture). length r.versions ≡ n) d.runs run is.whole whole;
  rise = λ k. rise_push k d.runs run (is.rise k) (up k);
  flies = λ r e. absurd cc;
}

-- ---- what a run that begins captures

capture_whole : (s : State) (t : ℕ) → length (capture_of s t).versions ≡ inputs_of s.flow t
capture_whole s t = length-map (task_in s.flow t).inputs (λ (i : Input). newest s i.channel)

past_none : (n : ℕ) (r : Capture) (k : ℕ) → length r.versions ≤ k → seen_at r k ≡ 0
past_none n r k le = get_or_past r.versions k 0 le

-- what the last run captured is no more than what one that begins now does
capture_up : (s : State) (t : ℕ) → HasRun s t → Captured (inputs_of s.flow t) (done_at s t) → (k : ℕ) → cursor s t k ≤ seen_at (capture_of s t) k
capture_up s t ran is k =
    let n = inputs_of s.flow t in
    let split : (k < n) ⊎ (n ≤ k) = grind arith in
    elim split as (λ _. cursor s t k ≤ seen_at (capture_of s t) k) [
      | inl lt ↦
          let now = capture_seen s t k lt in
          let low = on_last (λ r. seen_at r k ≤ newest s (input_in s.flow t k).channel) (done_at s t).runs (omega arith) (λ r i. ran.saw r i k) in
          omega (arith, now, low)
      | inr past ↦
          let none = on_last (λ r. seen_at r k ≡ 0) (done_at s t).runs refl (λ r i. let long = one_of_all (λ (q : Capture). length q.versions ≡ n) (done_at s t).runs r is.whole i in past_none n r k (omega (arith, long, past))) in
          omega (arith, none)
    ]

pub begins : (s : State) (t : ℕ) → may_begin s t ≡ true → t < length s.flow.tasks
begins s t may = let e = (both_true (nat_lt t (length s.flow.tasks)) (not (is_some (done_at s t).flight)) may).0 in grind (arith, nat_tests)

-- ---- step by step

captured_set : (s : State) (t : ℕ) (d : Done) → AllCaptured s → Captured (inputs_of s.flow t) d → AllCaptured (set_done s t d)
captured_set s t d is new = at_set (λ n (x : Done). Captured (inputs_of s.flow n) x) s.tasks t d nothing_done is new

captured_after : (s : State) (x : Step) → IsOwned s.flow → IsReachable s → AllCaptured s → AllCaptured (after s x)
captured_after s (Load c es) own at is = on_either AllCaptured (is_input s.flow c) (add_version s c (loaded_version s c es)) s (λ _. is) (λ _. is)
captured_after s (Tick m) own at is = on_either AllCaptured (nat_le s.moment m) (record s { moment = m }) s (λ _. is) (λ _. is)
captured_after s (Run t) own at is = on_either AllCaptured (may_begin s t) (add_run s t (capture_of s t)) s
    (λ may. captured_set s t (with_run (done_at s t) (capture_of s t)) is (captured_run (inputs_of s.flow t) (done_at s t) (capture_of s t) (capture_whole s t) (capture_up s t ((history s own at).ran t (begins s t may)) (is t)) (is t))) (λ _. is)
captured_after s (Begin t) own at is = on_either AllCaptured (may_begin s t) (set_done s t (record (done_at s t) { flight = Some (capture_of s t) })) s
    (λ may. captured_set s t (record (done_at s t) { flight = Some (capture_of s t) }) is (captured_begun (inputs_of s.flow t) (done_at s t) (capture_of s t) (capture_whole s t) (capture_up s t ((history s own at).ran t (begins s t may)) (is t)) (is t))) (λ _. is)
captured_after s (Finish t) own at is = on_landing AllCaptured s t (landing s t) refl is
    (λ run e. let flies = (is t).flies run (landing_some s t run e).1 in captured_set s t (with_run (done_at s t) run) is (captured_run (inputs_of s.flow t) (done_at s t) run flies.0 flies.1 (is t)))
captured_after s (Drop t) own at is = captured_set s t (landed (done_at s t)) is (captured_landed (inputs_of s.flow t) (done_at s t) (is t))
captured_after s (Worked k) own at is = is
captured_after s (Compact c) own at is = on_either AllCaptured (newest s c == 0) s (add_span s c 0 (newest s c)) (λ _. is) (λ _. is)
captured_after s (Chain c i j) own at is = on_either AllCaptured (may_chain s c i j) (add_span s c i j) s (λ _. is) (λ _. is)
captured_after s Collect own at is = is
captured_after s (Show c) own at is = is
captured_after s (Blocks c) own at is = is
captured_after s (Refused refusal) own at is = is

captured_all : (s : State) (xs : List Step) → IsOwned s.flow → IsReachable s → AllCaptured s → AllMade s xs → AllCaptured (after_all s xs)
captured_all s [] own at is made = is
captured_all s (x ∷ xs) own at is made = captured_all (after s x) xs (subst IsOwned (sym (flow_after s x)) own) (reachable_more s x at made.0) (captured_after s x own at is) made.1

captured_start : (w : Workflow) → AllCaptured (start w)
captured_start w t = subst (Captured (inputs_of w t)) (sym (same_everywhere w.tasks t nothing_done)) (captured_none (inputs_of w t))

pub captured : (s : State) → IsOwned s.flow → IsReachable s → AllCaptured s
captured s owned at = subst AllCaptured (sym at.is) (captured_all (start s.flow) at.steps owned (record { steps = []; made = tt; is = refl }) (captured_start s.flow) at.made)

-- ---- a run that begins, or is in flight

bounded_now : (s : State) (t : ℕ) → (k : ℕ) → k < inputs_of s.flow t → seen_at (capture_of s t) k ≤ newest s (input_in s.flow t k).channel
bounded_now s t k lt = let e = capture_seen s t k lt in omega (arith, e)

pub current_risen : (s : State) → IsOwned s.flow → IsReachable s → (t : ℕ) → t < length s.flow.tasks → (run : Capture) → IsCurrent s t run → IsWhole s t run × ((k : ℕ) → cursor s t k ≤ seen_at run k) × IsThere s t run
current_risen s owned at t lt run (inl e) =
    let is = captured s owned at t in
    let ran = (history s owned at).ran t lt in
    subst (λ (r : Capture). IsWhole s t r × ((k : ℕ) → cursor s t k ≤ seen_at r k) × IsThere s t r) (sym e) (capture_whole s t, capture_up s t ran is, bounded_now s t)
current_risen s owned at t lt run (inr e) =
    let flies = (captured s owned at t).flies run e in
    let low = ((history s owned at).ran t lt).flies run e in
    (flies.0, flies.1, λ k within. low k)

pub captures_rise : CapturesRise
captures_rise s planned at t lt =
    let own = owned s.flow planned in
    let is = captured s own at t in
    record {
      whole = is.whole;
      rise = is.rise;
      there = λ run i k within. ((history s own at).ran t lt).saw run i k;
      current = current_risen s own at t lt;
    }
