-- After `work` no task is due: a run makes no task due that stands before it, nor its own.
use Rattle.std.proofs.Common.{◌≡◌, ◌≢◌, ◌⊎◌, inl, inr, ℕ, zero, suc, ◌+◌, ◌<◌, ◌≤◌, Bool, true, false, not, ◌&&◌, ◌||◌, List, [], ◌∷◌, ◌++◌, length, map, Some, is_some, refl, ap, sym, ◌∙◌, subst, arith, if◌then◌else◌}
use Rattle.std.specs.Prelude.{IfSome, nat_lt, slice_index_or}
use Rattle.std.proofs.lemmas.Bool.Decides.{nat_tests}
use Rattle.std.proofs.lemmas.List.{get_or-set_other, get_or-set_same}
use Rattle.nova_workflow.specs.declared.flow.Input.{Input}
use Rattle.nova_workflow.specs.declared.flow.Trigger.{Trigger}
use Rattle.nova_workflow.specs.declared.flow.Trigger.TheVariants.{OnData, Every, After}
use Rattle.nova_workflow.specs.Whole.{IsFlow, IsInTime, IsTask}
use Rattle.nova_workflow.specs.Writers.{writer_of}
use Rattle.nova_machine.specs.Workflow.{Workflow, is_based, no_input, no_task, output_in, task_in}
use Rattle.nova_machine.specs.State.{Capture, Done, Kept, State, done_at, is_in_flight, kept_at, newest, nothing_done, nothing_kept}
use Rattle.nova_machine.specs.Due.{capture_of, is_above, is_due, is_ready, last_of, last_run, runs_named}
use Rattle.nova_machine.specs.Needed.{indices}
use Rattle.nova_machine.specs.Writing.{made_version}
use Rattle.nova_machine.specs.Steps.{Run, add_run, after, after_all, may_begin, with_run, with_version}
use Rattle.nova_machine.specs.Commands.{work_steps}
use Rattle.nova_machine.specs.Reachable.{IsReachable}
use Rattle.nova_histories.specs.NothingDue.{WorkLeavesNothingDue}
use Rattle.nova_machine.proofs.Kept.{last_push}
use Rattle.nova_machine.proofs.Reached.{reachable_more}
use Rattle.nova_machine.proofs.Runs.{history}
use Rattle.nova_machine.proofs.Turns.{flow_after}
use Rattle.nova_histories.specs.Planned.{flow_in}
use Rattle.nova_histories.proofs.Planned.{at_place, flow_owned}

-- ---- a trigger isn't ready where nothing has changed since

none_above : (k : ℕ) (last now : List ℕ) → ((at : ℕ) → at < length now → slice_index_or now at 0 ≤ slice_index_or last (k + at) 0) → is_above k last now ≡ false
none_above k last [] below = refl
none_above k last (v ∷ vs) below =
    let first = below 0 (omega arith) in
    let here : slice_index_or last (k + 0) 0 ≡ slice_index_or last k 0 = ap (λ n. slice_index_or last n 0) (omega arith) in
    let low : v ≤ slice_index_or last k 0 = omega (arith, first, here) in
    let test : nat_lt (slice_index_or last k 0) v ≡ false = grind (arith, nat_tests, low) in
    ap (λ b. b || is_above (k + 1) last vs) test ∙ none_above (k + 1) last vs later
  where
    later : (at : ℕ) → at < length vs → slice_index_or vs at 0 ≤ slice_index_or last (k + 1 + at) 0
    later at lt =
        let low = below (suc at) (omega (arith, lt)) in
        let e : k + suc at ≡ k + 1 + at = omega arith in
        let same = ap (λ n. slice_index_or last n 0) e in
        omega (arith, low, same)

not_ready : (n : ℕ) (trigger : Trigger) → IsInTime n trigger → (run : Capture) → is_ready trigger run run ≡ false
not_ready n OnData time run = none_above 0 run.versions run.versions (λ at lt.
    let e : at ≡ 0 + at = omega arith in
    let same = ap (λ m. slice_index_or run.versions m 0) e in
    omega (arith, same))
not_ready n (Every period) time run = let some = time.0 in grind (arith, nat_tests, some)
not_ready n (After task) time run = grind (arith, nat_tests)

-- ---- a run of a task, for a task that doesn't stand behind it

module _ (s : State) (is : IsFlow (flow_in s.flow)) (u : ℕ) (below : u < length s.flow.tasks) (long : length s.tasks ≡ length s.flow.tasks) where
  abbrev run : Capture
  run = capture_of s u

  abbrev next : State
  next = add_run s u run

  abbrev task : (t : ℕ) → t < length s.flow.tasks → IsTask (flow_in s.flow) t (task_in s.flow t)
  task t lt = is.tasks t (task_in s.flow t) (at_place s.flow.tasks t no_task lt)

  -- no input of it is what the run writes
  apart : (t : ℕ) → t < length s.flow.tasks → t ≤ u → (k : ℕ) → k < length (task_in s.flow t).inputs → (slice_index_or (task_in s.flow t).inputs k no_input).channel ≢ output_in s.flow u
  apart t lt le k within e =
      let input = slice_index_or (task_in s.flow t).inputs k no_input in
      let before = (task t lt).earlier k input (at_place (task_in s.flow t).inputs k no_input within) in
      let wrote : writer_of s.flow.tasks input.channel ≡ Some u = ap (writer_of s.flow.tasks) e ∙ (task u below).writes in
      let low : u < t = subst (λ o. IfSome o (λ writer. writer < t)) wrote before in
      omega (arith, low, le)

  newest_stays : (c : ℕ) → c ≢ output_in s.flow u → newest next c ≡ newest s c
  newest_stays c other =
      let o = output_in s.flow u in
      ap (λ (k : Kept). length k.versions) (get_or-set_other s.channels o c (with_version (is_based s.flow o) (kept_at s o) (made_version s u run)) nothing_kept other)

  inputs_stay : (inputs : List Input) → ((k : ℕ) → k < length inputs → (slice_index_or inputs k no_input).channel ≢ output_in s.flow u)
      → map (λ (i : Input). newest next i.channel) inputs ≡ map (λ (i : Input). newest s i.channel) inputs
  inputs_stay [] others = refl
  inputs_stay (i ∷ inputs) others =
      let first = newest_stays i.channel (others 0 (omega arith)) in
      let rest = inputs_stay inputs (λ k lt. others (suc k) (omega (arith, lt))) in
      λ z. first z ∷ rest z

  done_stays : (t : ℕ) → t ≢ u → done_at next t ≡ done_at s t
  done_stays t other = get_or-set_other s.tasks u t (with_run (done_at s u) run) nothing_done other

  done_new : done_at next u ≡ with_run (done_at s u) run
  done_new = get_or-set_same s.tasks u (with_run (done_at s u) run) nothing_done (omega (arith, long, below))

  named_stays : (t : ℕ) (trigger : Trigger) → t ≤ u → IsInTime t trigger → runs_named next trigger ≡ runs_named s trigger
  named_stays t OnData le time = refl
  named_stays t (Every period) le time = refl
  named_stays t (After task) le time = ap (λ (d : Done). length d.runs) (done_stays task (λ e. omega (arith, e, le, time)))

  capture_stays : (t : ℕ) → t < length s.flow.tasks → t ≤ u → capture_of next t ≡ capture_of s t
  capture_stays t lt le =
      let inputs = inputs_stay (task_in s.flow t).inputs (apart t lt le) in
      let named = named_stays t (task_in s.flow t).trigger le (task t lt).trigger in
      λ z. record { versions = inputs z; moment = s.moment; seen = named z }

  -- it is due as before
  due_stays : (t : ℕ) → t < u → is_due next t ≡ is_due s t
  due_stays t lt =
      let done = done_stays t (λ e. omega (arith, e, lt)) in
      let now = capture_stays t (omega (arith, lt, below)) (omega (arith, lt)) in
      λ z. not (is_some (done z).flight) && is_ready (task_in s.flow t).trigger (last_of (done z).runs) (now z)

  -- and the task itself isn't
  not_due_itself : is_due next u ≡ false
  not_due_itself =
      let now = capture_stays u below (omega arith) in
      let last : last_run next u ≡ run = ap (λ (d : Done). last_of d.runs) done_new ∙ last_push (done_at s u).runs run in
      (λ z. not (is_some (done_new z).flight) && is_ready (task_in s.flow u).trigger (last z) (now z))
      ∙ not_ready u (task_in s.flow u).trigger (task u below).trigger run

  pub due_behind : ((t : ℕ) → t < u → is_due s t ≡ false) → (t : ℕ) → t < suc u → is_due next t ≡ false
  due_behind before t lt =
      let split : (t < u) ⊎ (t ≡ u) = grind arith in
      elim split as (λ _. is_due next t ≡ false) [ inl low ↦ due_stays t low ∙ before t low | inr e ↦ subst (λ n. is_due next n ≡ false) (sym e) not_due_itself ]

-- ---- all tasks in turn

abbrev IsFrom : ℕ → ℕ → List ℕ → Type 0
IsFrom m n [] = m ≡ n
IsFrom m n (t ∷ ts) = (t ≡ m) × IsFrom (suc m) n ts

from_push : (m n : ℕ) (ts : List ℕ) → IsFrom m n ts → IsFrom m (suc n) (ts ++ n ∷ [])
from_push m n [] e = (sym e, ap suc e)
from_push m n (t ∷ ts) is = (is.0, from_push (suc m) n ts is.1)

all_from : (n : ℕ) → IsFrom 0 n (indices n)
all_from zero = refl
all_from (suc n) = from_push 0 n (indices n) (all_from n)

may_run : (s : State) (t : ℕ) → t < length s.flow.tasks → is_due s t ≡ true → may_begin s t ≡ true
may_run s t lt due =
    let task : nat_lt t (length s.flow.tasks) ≡ true = grind (arith, nat_tests, lt) in
    both (nat_lt t (length s.flow.tasks)) (is_in_flight s t) (is_ready (task_in s.flow t).trigger (last_run s t) (capture_of s t)) task due
  where
    both : (a b c : Bool) → a ≡ true → (not b && c) ≡ true → (a && not b) ≡ true
    both true false c e f = refl
    both true true c e f = absurd cc
    both false b c e f = absurd cc

-- where the first m tasks aren't due and the others follow in turn, none is behind them
abbrev Rests : List ℕ → Type 0
Rests ts = (s : State) (ran m : ℕ) → IsFlow (flow_in s.flow) → IsReachable s → IsFrom m (length s.flow.tasks) ts → ((t : ℕ) → t < m → is_due s t ≡ false)
    → (t : ℕ) → t < length s.flow.tasks → is_due (after_all s (work_steps s ran ts)) t ≡ false

within : (n : ℕ) (ts : List ℕ) (k : ℕ) → IsFrom n k ts → n ≤ k
within n [] k e = omega (arith, e)
within n (t ∷ ts) k is = let r = within (suc n) ts k is.1 in omega (arith, r)

one_more : (u : ℕ) (us : List ℕ) → Rests us → Rests (u ∷ us)
one_more u us rest s ran m is at from before t lt = go (is_due s u) refl
  where
    below : u < length s.flow.tasks
    below = let r = within (suc m) us (length s.flow.tasks) from.1 in let e = from.0 in omega (arith, r, e)

    earlier : (x : ℕ) → x < u → is_due s x ≡ false
    earlier x low = before x (let e = from.0 in omega (arith, e, low))

    by_place : (x : ℕ) → is_due s u ≡ false → (x < m) ⊎ (x ≡ m) → is_due s x ≡ false
    by_place x none (inl low) = before x low
    by_place x none (inr same) = ap (is_due s) (same ∙ sym from.0) ∙ none

    go : (b : Bool) → is_due s u ≡ b → is_due (after_all s (if b then Run u ∷ work_steps (after s (Run u)) (suc ran) us else work_steps s ran us)) t ≡ false
    go false e = rest s ran (suc m) is at from.1 (λ x low. by_place x e (let split : (x < m) ⊎ (x ≡ m) = grind arith in split)) t lt
    go true e =
        let may = may_run s u below e in
        let flow = flow_after s (Run u) in
        let run_is : add_run s u (capture_of s u) ≡ after s (Run u) = ap (λ b. if b then add_run s u (capture_of s u) else s) (sym may) in
        let long = (history s (flow_owned s.flow is) at).tasks in
        let behind = subst (λ (x : State). (v : ℕ) → v < suc u → is_due x v ≡ false) run_is (due_behind s is u below long earlier) in
        rest (after s (Run u)) (suc ran) (suc m) (subst (λ (w : Workflow). IsFlow (flow_in w)) (sym flow) is) (reachable_more s (Run u) at may)
        (subst (λ (w : Workflow). IsFrom (suc m) (length w.tasks) us) (sym flow) from.1)
        (λ v low. behind v (let r = from.0 in omega (arith, low, r)))
        t (subst (λ (w : Workflow). t < length w.tasks) (sym flow) lt)

none_left : Rests []
none_left s ran m is at from before t lt = before t (omega (arith, from, lt))

rests : (ts : List ℕ) → Rests ts
rests [] = none_left
rests (u ∷ us) = one_more u us (rests us)

pub work_leaves_nothing_due : WorkLeavesNothingDue
work_leaves_nothing_due s is at t lt = rests (indices (length s.flow.tasks)) s 0 0 is at (all_from (length s.flow.tasks)) (λ x low. absurd (omega (arith, low))) t lt
