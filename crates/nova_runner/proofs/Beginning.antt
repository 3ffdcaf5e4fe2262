-- Executions that begin and are dropped, and the tasks that are due.
use Rattle.std.proofs.Common.{◌≡◌, ℕ, zero, suc, Bool, true, false, List, [], ◌∷◌, length, map, Option, Some, None, option_map, refl, ap, sym, ◌∙◌, subst, if◌then◌else◌}
use Rattle.std.specs.Prelude.{slice_index_or, slice_set}
use Rattle.std.proofs.lemmas.List.{map-set}
use Rattle.std.proofs.Math.ListN.{get_or-map, length-set}
use Rattle.nova_outside.specs.History.{Event, current}
use Rattle.nova_workflow.specs.Whole.{IsFlow}
use Rattle.nova_flow.proofs.WholeFlows.{flows_are_whole}
use Rattle.nova_commit.specs.declared.commit.Commit.{Commit}
use Rattle.nova_meta.specs.declared.captured.Captured.{Captured}
use Rattle.nova_meta.specs.declared.wiring.Wiring.{Wiring}
use Rattle.nova_meta.specs.Catalog.{Entered, no_run, progress_at}
use Rattle.nova_machine.specs.Workflow.{Workflow}
use Rattle.nova_machine.specs.State.{State, Capture, Done, done_at, ended, is_in_flight, landed, nothing_done}
use Rattle.nova_machine.specs.Steps.{Begin, Drop, after, set_done}
use Rattle.nova_machine.specs.Reachable.{IsReachable}
use Rattle.nova_machine.specs.Due as machine
use Rattle.nova_machine.proofs.Reached.{reachable_more}
use Rattle.nova_machine.proofs.Ready.{due_is_tested}
use Rattle.nova_trigger.specs.Due.{IsFirstDue, IsOneWorkflow, StandFor, capture_in, in_flight, last_or}
use Rattle.nova_trigger.specs.Laws.{WorkBegins}
use Rattle.nova_trigger.proofs.Machine.{captures_are_the_machines, due_is_the_machines, first_due_is_the_machines}
use Rattle.nova_runner.specs.Beginning.{InEach, MovesAlone, captured_in, is_due_in, with_slot}
use Rattle.nova_runner.specs.Flights.{HoldFlights, flow_of}
use Rattle.nova_runner.specs.Held.{Held}
use Rattle.nova_runner.specs.Readable.{IsKept}
use Rattle.nova_runner.specs.Stands.{Drawn, Sketch, StandsBut, Told, drawn, last_of, sketch, told_done, told_progress}
use Rattle.nova_runner.specs.Steps.{StoreStands}
use Rattle.nova_runner.specs.Texts.{HasFlow}
use Rattle.nova_runner.proofs.Flights.{sketch_ended, slot_taken}
use Rattle.nova_runner.proofs.Loading.{drawings, drawn_at}
use Rattle.nova_runner.proofs.Readables.{same_count}

-- ---- what triggers see of a state that is drawn

pub tellings : (cat : Entered) (s : State) → drawn cat ≡ sketch s → map told_progress cat.tasks ≡ map told_done s.tasks
unfolding drawn sketch
tellings cat s same = ap (λ (k : Sketch). k.tasks) same

pub told_at : (cat : Entered) (s : State) → map told_progress cat.tasks ≡ map told_done s.tasks → (t : ℕ) → told_progress (progress_at cat t) ≡ told_done (done_at s t)
told_at cat s same t =
    sym (get_or-map told_progress cat.tasks t no_run)
    ∙ ap (λ (ts : List Told). slice_index_or ts t (record { runs = 0; last = None })) same
    ∙ get_or-map told_done s.tasks t nothing_done

drawn_moment : (cat : Entered) (s : State) → drawn cat ≡ sketch s → cat.moment ≡ s.moment
unfolding drawn sketch
drawn_moment cat s same = ap (λ (k : Sketch). k.moment) same

abbrev or_none : Option Capture → Capture
or_none None = machine.no_capture
or_none (Some run) = run

kept_or_none : (o : Option Captured) → last_or o ≡ or_none (option_map capture_in o)
kept_or_none None = refl
kept_or_none (Some run) = refl

last_or_none : (runs : List Capture) → machine.last_of runs ≡ or_none (last_of runs)
last_or_none [] = refl
last_or_none (run ∷ []) = refl
last_or_none (run ∷ (next ∷ runs)) = last_or_none (next ∷ runs)

module _ (store : Held) (commits : List Commit) (h : List Event) (s : State) (stands : StoreStands store commits h s) where
  here : drawn store.catalog ≡ sketch s
  here = stands.by.agrees.same ∙ sketch_ended s

  told : (t : ℕ) → told_progress (progress_at store.catalog t) ≡ told_done (done_at s t)
  told t = told_at store.catalog s (tellings store.catalog s here) t

  pub stand_for : StandFor (flow_of store.flow) store.catalog store.flight s
  stand_for = record {
    tasks = ap (λ (w : Workflow). w.tasks) (sym stands.flow);
    versions = λ c. sym (ap (λ (d : Drawn). d.version) (drawn_at store.catalog s (drawings store.catalog s here) c));
    runs = λ t. sym (ap (λ (k : Told). k.runs) (told t));
    last = λ t. last_or_none (done_at s t).runs ∙ sym (ap (λ (k : Told). or_none k.last) (told t)) ∙ sym (kept_or_none (progress_at store.catalog t).last);
    flights = λ t. sym (slot_taken store.flight s.tasks t stands.flights);
    moment = sym (drawn_moment store.catalog s here);
  }

pub flight_in_each : (store : Held) (t : ℕ) → InEach store (λ s. in_flight store.flight t ≡ is_in_flight s t)
flight_in_each store t commits h s stands = slot_taken store.flight s.tasks t stands.flights

pub moment_in_each : (store : Held) → InEach store (λ s. store.catalog.moment ≡ s.moment)
moment_in_each store commits h s stands = drawn_moment store.catalog s (stands.by.agrees.same ∙ sketch_ended s)

-- ---- a store is of one workflow

whole_flow : (w : Workflow) → HasFlow w.text w → IsFlow (flow_of w)
whole_flow w has = subst (λ (v : Workflow). IsFlow (flow_of v)) has.is (flows_are_whole w.text has.flow has.read)

pub one_workflow : (store : Held) → IsKept store → IsOneWorkflow (flow_of store.flow) store.catalog store.flight
one_workflow store kept = record {
  whole = whole_flow store.flow kept.read;
  channels = kept.readable.sound.entered.channels ∙ ap (λ (w : Wiring). length w.writers) kept.wired ∙ same_count store.flow;
  tasks = kept.tasks;
  flights = kept.flights;
}

-- ---- which tasks are due

same_answer : (a b : Bool) → (a ≡ true → b ≡ true) → (b ≡ true → a ≡ true) → a ≡ b
same_answer true true on back = refl
same_answer true false on back = sym (on refl)
same_answer false true on back = back refl
same_answer false false on back = refl

pub due_in_each : (store : Held) (t : ℕ) → InEach store (λ s. is_due_in store t ≡ machine.is_due s t)
due_in_each store t commits h s stands =
    let rule = due_is_the_machines (flow_of store.flow) store.catalog store.flight s t (stand_for store commits h s stands) in
    let test = due_is_tested s t in
    same_answer (is_due_in store t) (machine.is_due s t) (λ so. test.1 (rule.0 so)) (λ so. rule.1 (test.0 so))

pub first_in_each : (store : Held) (first : Option ℕ) → IsFirstDue (flow_of store.flow) store.catalog store.flight first → InEach store (λ s. WorkBegins s first)
first_in_each store first is commits h s stands = first_due_is_the_machines (flow_of store.flow) store.catalog store.flight s first (stand_for store commits h s stands) is

-- ---- a slot is set

abbrev set_flight : State → ℕ → Option Capture → State
set_flight s t o = set_done s t (record (done_at s t) { flight = o })

landed_set : (ds : List Done) (t : ℕ) (o : Option Capture) → map landed (slice_set ds t (record (slice_index_or ds t nothing_done) { flight = o })) ≡ map landed ds
landed_set [] t o = refl
landed_set (d ∷ ds) zero o = refl
landed_set (d ∷ ds) (suc t) o = ap (λ (es : List Done). landed d ∷ es) (landed_set ds t o)

ended_same : (s : State) (t : ℕ) (o : Option Capture) → ended s ≡ ended (set_flight s t o)
ended_same s t o = λ i. record s { tasks = sym (landed_set s.tasks t o) i }

hold_set : (slots : List (Option Captured)) (s : State) (t : ℕ) (slot : Option Captured) → HoldFlights slots s → HoldFlights (slice_set slots t slot) (set_flight s t (option_map capture_in slot))
hold_set slots s t slot hold =
    map-set (option_map capture_in) slots t slot
    ∙ ap (λ (os : List (Option Capture)). slice_set os t (option_map capture_in slot)) hold
    ∙ sym (map-set (λ (d : Done). d.flight) s.tasks t (record (done_at s t) { flight = option_map capture_in slot }))

slot_stands : (store : Held) (t : ℕ) (slot : Option Captured) (commits : List Commit) (h : List Event) (s : State) → StoreStands store commits h s → IsReachable (set_flight s t (option_map capture_in slot))
    → StoreStands (with_slot store t slot) commits h (set_flight s t (option_map capture_in slot))
slot_stands store t slot commits h s stands reached = record {
  flow = stands.flow;
  reached = reached;
  flights = hold_set store.flight s t slot stands.flights;
  by = subst (λ (u : State). StandsBut store.journal.generation commits store.catalog (current h) u) (ended_same s t (option_map capture_in slot)) stands.by;
  long = stands.long;
  settled = stands.settled;
}

pub slot_kept : (store : Held) (t : ℕ) (slot : Option Captured) → IsKept store → IsKept (with_slot store t slot)
slot_kept store t slot kept = record {
  read = kept.read;
  wired = kept.wired;
  begun = kept.begun;
  readable = kept.readable;
  tasks = kept.tasks;
  flights = length-set store.flight t slot ∙ kept.flights;
}

pub begins : (store : Held) (t : ℕ) → MovesAlone (Begin t) store (with_slot store t (Some (captured_in store t)))
begins store t commits h s stands made =
    let captured = captures_are_the_machines (flow_of store.flow) store.catalog store.flight s t (stand_for store commits h s stands) in
    let taken : after s (Begin t) ≡ set_flight s t (Some (machine.capture_of s t)) = ap (λ (b : Bool). if b then set_flight s t (Some (machine.capture_of s t)) else s) made in
    let now = taken ∙ ap (λ (run : Capture). set_flight s t (Some run)) (sym captured) in
    let reached = subst IsReachable now (reachable_more s (Begin t) stands.reached made) in
    subst (StoreStands (with_slot store t (Some (captured_in store t))) commits h) (sym now) (slot_stands store t (Some (captured_in store t)) commits h s stands reached)

pub drops : (store : Held) (t : ℕ) → MovesAlone (Drop t) store (with_slot store t None)
drops store t commits h s stands made = slot_stands store t None commits h s stands (reachable_more s (Drop t) stands.reached made)
