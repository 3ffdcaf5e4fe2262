-- The catalog and the executions in flight go on to stand for the state.
use Rattle.std.proofs.Common.{◌≡◌, ℕ, zero, suc, ◌+◌, ◌≤◌, Bool, true, false, not, ◌&&◌, List, [], ◌∷◌, ◌++◌, length, Option, Some, None, get_or, refl, sym, ap, ◌∙◌, subst, arith, if◌then◌else◌}
use Rattle.std.specs.Prelude.{nat_le, slice_set}
use Rattle.std.specs.Option.{is_some}
use Rattle.std.proofs.lemmas.Bool.Decides.{nat_tests}
use Rattle.std.proofs.lemmas.List.{length_push}
use Rattle.nova_value.specs.declared.schema.Entry.{Entry}
use Rattle.nova_commit.specs.declared.commit.PartFile.{PartFile}
use Rattle.nova_commit.specs.declared.commit.Commit.TheVariants as commit
use Rattle.nova_workflow.specs.declared.flow.Flow.{Flow}
use Rattle.nova_meta.specs.declared.captured.Captured.{Captured}
use Rattle.nova_meta.specs.declared.progress.Progress.{Progress}
use Rattle.nova_meta.specs.Catalog.{Entered, Shelved, applied, next_progress, next_shelf, no_run, nothing_shelved, progress_at, shelf_at}
use Rattle.nova_meta.specs.Wired.{is_based as wired_based, wire_at}
use Rattle.nova_machine.specs.Workflow.{is_based, is_input}
use Rattle.nova_machine.specs.Versions.{Version}
use Rattle.nova_machine.specs.Writing.{made_version}
use Rattle.nova_machine.specs.State.{Capture, Done, Kept, State, done_at, is_in_flight, kept_at, landed, newest, nothing_done, nothing_kept}
use Rattle.nova_machine.specs.Steps.{Load, Tick, Run, Begin, Drop, add_run, add_version, after, is_task, loaded_version, may_begin, with_run, with_version}
use Rattle.nova_machine.specs.Due.{capture_of, last_of}
use Rattle.nova_machine.proofs.Growth.{at_set}
use Rattle.nova_trigger.specs.Due.{StandFor, captured_of, in_flight, last_or, task_at}
use Rattle.nova_trigger.specs.Laws.{AreAlike, StandingGoesOn, StandsOn, run_commit}
use Rattle.nova_trigger.proofs.Machine.{captures_are_the_machines}

-- at any place of two lists of one length, with the same place of both set
both_set : {A B : Type 0} (P : A → B → Type 0) (xs : List A) (ys : List B) (c : ℕ) (x d : A) (y e : B) → length xs ≡ length ys
    → ((n : ℕ) → P (get_or xs n d) (get_or ys n e)) → P x y → (n : ℕ) → P (get_or (slice_set xs c x) n d) (get_or (slice_set ys c y) n e)
both_set P [] [] c x d y e same old new n = old n
both_set P [] (b ∷ ys) c x d y e same old new n = absurd (omega (arith, same))
both_set P (a ∷ xs) [] c x d y e same old new n = absurd (omega (arith, same))
both_set P (a ∷ xs) (b ∷ ys) zero x d y e same old new zero = new
both_set P (a ∷ xs) (b ∷ ys) zero x d y e same old new (suc n) = old (suc n)
both_set P (a ∷ xs) (b ∷ ys) (suc c) x d y e same old new zero = old zero
both_set P (a ∷ xs) (b ∷ ys) (suc c) x d y e same old new (suc n) = both_set P xs ys c x d y e (omega (arith, same)) (λ m. old (suc m)) new n

last_pushed : (runs : List Capture) (run : Capture) → last_of (runs ++ run ∷ []) ≡ run
last_pushed [] run = refl
last_pushed (a ∷ []) run = refl
last_pushed (a ∷ (b ∷ runs)) run = last_pushed (b ∷ runs) run

-- nothing is in flight where an execution may begin
idle : (a b : Bool) → (a && not b) ≡ true → b ≡ false
idle true true e = absurd cc
idle true false e = refl
idle false true e = absurd cc
idle false false e = refl

module _ (flow : Flow) (cat : Entered) (slots : List (Option Captured)) (s : State) (stands : StandFor flow cat slots s) (alike : AreAlike cat slots s) where
  abbrev AsNew : Kept → Shelved → Type 0
  AsNew k shelf = length k.versions ≡ shelf.version

  abbrev AsOften : Done → Progress → Type 0
  AsOften d p = length d.runs ≡ p.runs

  abbrev AsLast : Done → Progress → Type 0
  AsLast d p = last_of d.runs ≡ last_or p.last

  abbrev AsBusy : Done → Option Captured → Type 0
  AsBusy d slot = is_some d.flight ≡ is_some slot

  -- one version more, of one channel
  newer : (c block size : ℕ) (v : Version) (d : ℕ) → newest (add_version s c v) d ≡ (get_or (slice_set cat.channels c (next_shelf (wired_based cat.wiring c) (shelf_at cat c) block size)) d nothing_shelved).version
  newer c block size v d = both_set AsNew s.channels cat.channels c (with_version (is_based s.flow c) (kept_at s c) v) nothing_kept (next_shelf (wired_based cat.wiring c) (shelf_at cat c) block size) nothing_shelved (sym alike.channels)
      stands.versions (length_push (kept_at s c).versions v ∙ ap (λ n. n + 1) (stands.versions c)) d

  loads : (c block size : ℕ) (entries : List Entry) → is_input s.flow c ≡ true → StandFor flow (applied cat (commit.Load c block size)) slots (after s (Load c entries))
  loads c block size entries input = subst (StandFor flow (applied cat (commit.Load c block size)) slots) (sym taken) (record {
    tasks = stands.tasks;
    versions = newer c block size (loaded_version s c entries);
    runs = stands.runs;
    last = stands.last;
    flights = stands.flights;
    moment = stands.moment;
  })
    where
      taken : after s (Load c entries) ≡ add_version s c (loaded_version s c entries)
      taken = ap (λ (b : Bool). if b then add_version s c (loaded_version s c entries) else s) input

  ticks : (m : ℕ) → s.moment ≤ m → StandFor flow (applied cat (commit.Tick m)) slots (after s (Tick m))
  ticks m le = subst (StandFor flow (applied cat (commit.Tick m)) slots) (sym taken) (record {
    tasks = stands.tasks;
    versions = stands.versions;
    runs = stands.runs;
    last = stands.last;
    flights = stands.flights;
    moment = refl;
  })
    where
      taken : after s (Tick m) ≡ record s { moment = m }
      taken = let test : nat_le s.moment m ≡ true = grind (arith, nat_tests, le) in ap (λ (b : Bool). if b then record s { moment = m } else s) test

  abbrev run_of : ℕ → Capture
  run_of t = capture_of s t

  abbrev made_by : ℕ → Version
  made_by t = made_version s t (run_of t)

  abbrev ran : ℕ → Done
  ran t = with_run (done_at s t) (run_of t)

  abbrev next : ℕ → List PartFile → Progress
  next t parts = let now = captured_of cat (task_at flow t) in next_progress (progress_at cat t) now.versions now.moment now.seen parts

  runs : (t block size : ℕ) (parts : List PartFile) → may_begin s t ≡ true → StandFor flow (applied cat (run_commit flow cat t block size parts)) slots (after s (Run t))
  runs t block size parts may = subst (StandFor flow (applied cat (run_commit flow cat t block size parts)) slots) (sym taken) (record {
    tasks = stands.tasks;
    versions = λ d. subst (λ o. newest (add_version s o (made_by t)) d ≡ (shelf_at (applied cat (run_commit flow cat t block size parts)) d).version) (alike.outputs t) (newer (wire_at cat.wiring t).output block size (made_by t) d);
    runs = both_set AsOften s.tasks cat.tasks t (ran t) nothing_done (next t parts) no_run (sym alike.tasks) stands.runs (length_push (done_at s t).runs (run_of t) ∙ ap (λ n. n + 1) (stands.runs t));
    last = both_set AsLast s.tasks cat.tasks t (ran t) nothing_done (next t parts) no_run (sym alike.tasks) stands.last (last_pushed (done_at s t).runs (run_of t) ∙ sym (captures_are_the_machines flow cat slots s t stands));
    flights = at_set (λ n (d : Done). is_some d.flight ≡ in_flight slots n) s.tasks t (ran t) nothing_done stands.flights (sym (idle (is_task s t) (is_in_flight s t) may) ∙ stands.flights t);
    moment = stands.moment;
  })
    where
      taken : after s (Run t) ≡ add_run s t (run_of t)
      taken = ap (λ (b : Bool). if b then add_run s t (run_of t) else s) may

  abbrev now_of : ℕ → Captured
  now_of t = captured_of cat (task_at flow t)

  abbrev begun : ℕ → Done
  begun t = record (done_at s t) { flight = Some (capture_of s t) }

  begins : (t : ℕ) → may_begin s t ≡ true → StandFor flow cat (slice_set slots t (Some (captured_of cat (task_at flow t)))) (after s (Begin t))
  begins t may = subst (StandFor flow cat (slice_set slots t (Some (now_of t)))) (sym taken) (record {
    tasks = stands.tasks;
    versions = stands.versions;
    runs = at_set (λ n (d : Done). length d.runs ≡ (progress_at cat n).runs) s.tasks t (begun t) nothing_done stands.runs (stands.runs t);
    last = at_set (λ n (d : Done). last_of d.runs ≡ last_or (progress_at cat n).last) s.tasks t (begun t) nothing_done stands.last (stands.last t);
    flights = both_set AsBusy s.tasks slots t (begun t) nothing_done (Some (now_of t)) None (sym alike.flights) stands.flights refl;
    moment = stands.moment;
  })
    where
      taken : after s (Begin t) ≡ record s { tasks = slice_set s.tasks t (begun t) }
      taken = ap (λ (b : Bool). if b then record s { tasks = slice_set s.tasks t (begun t) } else s) may

  drops : (t : ℕ) → StandFor flow cat (slice_set slots t None) (after s (Drop t))
  drops t = record {
    tasks = stands.tasks;
    versions = stands.versions;
    runs = at_set (λ n (d : Done). length d.runs ≡ (progress_at cat n).runs) s.tasks t (landed (done_at s t)) nothing_done stands.runs (stands.runs t);
    last = at_set (λ n (d : Done). last_of d.runs ≡ last_or (progress_at cat n).last) s.tasks t (landed (done_at s t)) nothing_done stands.last (stands.last t);
    flights = both_set AsBusy s.tasks slots t (landed (done_at s t)) nothing_done None None (sym alike.flights) stands.flights refl;
    moment = stands.moment;
  }

  pub goes_on : StandsOn flow cat slots s
  goes_on = record { loads = loads; ticks = ticks; runs = runs; begins = begins; drops = drops }

pub standing_goes_on : StandingGoesOn
standing_goes_on = goes_on
