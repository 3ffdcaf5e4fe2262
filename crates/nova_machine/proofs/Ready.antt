-- The test of a trigger, and its rule.
use Rattle.std.proofs.Common.{◌≡◌, ℕ, zero, suc, ◌+◌, ◌<◌, Bool, true, false, not, ◌&&◌, ◌||◌, List, [], ◌∷◌, length, get_or, nat_lt, refl, ap, arith}
use Rattle.std.proofs.lemmas.Bool.Decides.{nat_tests}
use Rattle.nova_workflow.specs.declared.flow.Trigger.{Trigger}
use Rattle.nova_workflow.specs.declared.flow.Trigger.TheVariants.{OnData, Every, After}
use Rattle.nova_machine.specs.Workflow.{task_in}
use Rattle.nova_machine.specs.State.{Capture, is_in_flight}
use Rattle.nova_machine.specs.Due.{IsReady, IsDue, is_above, is_ready, is_due, last_run, capture_of}
use Rattle.nova_machine.specs.ReachableLaws.{DueIsTested}

-- ---- versions, from one input on

-- an input behind those before k
record AboveFrom (k : ℕ) (last now : List ℕ) : Type 0 where
  pub at : ℕ
  pub in_range : at < length now
  pub above : get_or last (k + at) 0 < get_or now at 0

shift : (k at : ℕ) (last : List ℕ) → get_or last (k + 1 + at) 0 ≡ get_or last (k + suc at) 0
shift k at last = ap (λ i. get_or last i 0) (omega arith)

start : (at : ℕ) (last : List ℕ) → get_or last (0 + at) 0 ≡ get_or last at 0
start at last = ap (λ i. get_or last i 0) (omega arith)

above_by : (k : ℕ) (last : List ℕ) (v : ℕ) (vs : List ℕ) (b : Bool) → nat_lt (get_or last k 0) v ≡ b → (b || is_above (k + 1) last vs) ≡ true
    → (is_above (k + 1) last vs ≡ true → AboveFrom (k + 1) last vs) → AboveFrom k last (v ∷ vs)
above_by k last v vs true is e rest =
    let here : get_or last k 0 < v = grind (arith, nat_tests) in
    let same : get_or last (k + 0) 0 ≡ get_or last k 0 = ap (λ i. get_or last i 0) (omega arith) in
    record { at = 0; in_range = omega arith; above = omega (arith, here, same) }
above_by k last v vs false is e rest =
    let r = rest e in
    let there = r.above in
    let within = r.in_range in
    let same = shift k r.at last in
    record { at = suc r.at; in_range = omega (arith, within); above = omega (arith, there, same) }

above_from : (k : ℕ) (last now : List ℕ) → is_above k last now ≡ true → AboveFrom k last now
above_from k last [] e = absurd (cc)
above_from k last (v ∷ vs) e = above_by k last v vs (nat_lt (get_or last k 0) v) refl e (above_from (k + 1) last vs)

or_left : (a b : Bool) → a ≡ true → (a || b) ≡ true
or_left true b e = refl
or_left false b e = absurd (cc)

or_right : (a b : Bool) → b ≡ true → (a || b) ≡ true
or_right true b e = refl
or_right false b e = e

test_above : (k : ℕ) (last now : List ℕ) (at : ℕ) → at < length now → get_or last (k + at) 0 < get_or now at 0 → is_above k last now ≡ true
test_above k last [] at within above = absurd (omega arith)
test_above k last (v ∷ vs) zero within above =
    let same : get_or last (k + 0) 0 ≡ get_or last k 0 = ap (λ i. get_or last i 0) (omega arith) in
    let here : get_or last k 0 < v = omega (arith, above, same) in
    let test : nat_lt (get_or last k 0) v ≡ true = grind (arith, nat_tests) in
    or_left (nat_lt (get_or last k 0) v) (is_above (k + 1) last vs) test
test_above k last (v ∷ vs) (suc at) within above =
    let same = shift k at last in
    let there : get_or last (k + 1 + at) 0 < get_or vs at 0 = omega (arith, above, same) in
    or_right (nat_lt (get_or last k 0) v) (is_above (k + 1) last vs) (test_above (k + 1) last vs at (omega (arith, within)) there)

-- ---- triggers

ready_is : (trigger : Trigger) (last now : Capture) → is_ready trigger last now ≡ true → IsReady trigger last now
ready_is OnData last now e =
    let r = above_from 0 last.versions now.versions e in
    let same = start r.at last.versions in
    let there = r.above in
    record { input = r.at; in_range = r.in_range; above = omega (arith, there, same) }
ready_is (Every period) last now e = grind (arith, nat_tests)
ready_is (After task) last now e = grind (arith, nat_tests)

ready_back : (trigger : Trigger) (last now : Capture) → IsReady trigger last now → is_ready trigger last now ≡ true
ready_back OnData last now r =
    let same = start r.input last.versions in
    let there = r.above in
    test_above 0 last.versions now.versions r.input r.in_range (omega (arith, there, same))
ready_back (Every period) last now r = grind (arith, nat_tests)
ready_back (After task) last now r = grind (arith, nat_tests)

both : (a b : Bool) → (not a && b) ≡ true → (a ≡ false) × (b ≡ true)
both true b e = absurd (cc)
both false b e = (refl, e)

pub due_is_tested : DueIsTested
due_is_tested s t = (there, back)
  where
    there : is_due s t ≡ true → IsDue s t
    there e =
        let p = both (is_in_flight s t) (is_ready (task_in s.flow t).trigger (last_run s t) (capture_of s t)) e in
        record { free = p.0; ready = ready_is (task_in s.flow t).trigger (last_run s t) (capture_of s t) p.1 }

    back : IsDue s t → is_due s t ≡ true
    back is = rw (is.free) (ready_back (task_in s.flow t).trigger (last_run s t) (capture_of s t) is.ready)
