-- A session's lines: what they do, by what they meet.
use Rattle.std.proofs.Common.{◌≡◌, ℕ, ◌<◌, Bool, true, false, List, [], ◌∷◌, ◌++◌, length, Option, Some, None, Result, Ok, Err, if◌then◌else◌, refl, sym, ap, ◌∙◌, subst, arith}
use Rattle.std.proofs.lemmas.List.{append-nil}
use Rattle.std.specs.Bool.{IsTrue}
use Rattle.std.specs.List.{list_any}
use Rattle.nova_value.specs.declared.schema.Entry.{Entry}
use Rattle.nova_outside.specs.History.{Event}
use Rattle.nova_commit.specs.declared.commit.Commit.{Commit}
use Rattle.nova_script.specs.Forms.{command_of, is_dot, is_load, is_too_long}
use Rattle.nova_script.specs.Session.{Alone, WithRows, Surroundings, alone, load_end, met_by}
use Rattle.nova_script.specs.declared.command.Command.{Command}
use Rattle.nova_script.specs.declared.context.Request.{Request}
use Rattle.nova_script.specs.declared.context.Request.TheVariants as r
use Rattle.nova_script.specs.declared.refusal.Refusal.{Refusal}
use Rattle.nova_script.specs.declared.refusal.Refusal.TheVariants.{NotBuilt, UnfinishedLoad}
use Rattle.nova_script.proofs.Fronts.{front_decides}
use Rattle.nova_machine.specs.Workflow.{Workflow, is_input, schema_in}
use Rattle.nova_machine.specs.State.{State, is_in_flight}
use Rattle.nova_machine.specs.Reachable.{IsMade}
use Rattle.nova_machine.specs.Steps.{Step, Begin, Drop, Load, Refused as RefusedStep, Run, Show, Tick, after_all}
use Rattle.nova_building.specs.Building.{built_met, built_only, built_steps, is_built}
use Rattle.nova_machine.specs.Commands.{around, bad_row, load_steps, loaded_channel, loaded_steps, met_steps, read_rows, rows_for}
use Rattle.nova_machine.proofs.Commanded.{begins}
use Rattle.nova_runner.specs.Around.{around_held}
use Rattle.nova_runner.specs.Held.{Held}
use Rattle.nova_runner.specs.Steps.{AsksLoad, AsksRun, AsksShow, AsksTick, StoreStands, Why, NoMemory}
use Rattle.nova_engine.specs.declared.load.Pending.{Pending}
use Rattle.nova_engine.specs.declared.load.Pending.TheVariants.{Refused, Rows}
use Rattle.nova_engine.specs.declared.load.Rows.{Rows as KeptRows}
use Rattle.nova_engine.specs.declared.reader.Session.{Session}
use Rattle.nova_engine.specs.declared.stop.Stop.{Stop}
use Rattle.nova_engine.specs.Loading.{BeginsLoad, FitsStore, KeepsSchema, HoldsLoad, HoldsPending, IsMet, Loading, TakesRow, with_row}
use Rattle.nova_engine.specs.Positions.{IsFront, cut_off, ended_by, load_after}
use Rattle.nova_engine.specs.Moves.{SessionStands, StopsLines, TakesLine, TakesLines}
use Rattle.nova_engine.specs.Seen.{Seen}
use Rattle.nova_engine.specs.Stopping.{why}
use Rattle.nova_engine.specs.Taking.{Answers, AsksBegin, AsksClose, AsksDrop, AsksMet, AsksOne, AsksRefused, StopsAsked, StopsIn, Takes, TakesAsked}
use Rattle.nova_engine.proofs.Around.{stands_around}
use Rattle.nova_engine.proofs.LoadLines.{count_names, count_tasks}
use Rattle.nova_engine.proofs.Takings.{stops_at_once, takes_nothing}
use Rattle.nova_engine.proofs.Verbs.{blank_met}

-- ---- what is asked in other words

pub answers_by : (h : Bool) (asks other : State → List Step → Type 0) (store : Held) (a b : Seen) (r : Result Held Stop) → ((commits : List Commit) (s : State) (xs : List Step) → StoreStands store commits a.history s → other s xs → asks s xs) → Answers h asks store a b r → Answers h other store a b r
answers_by h asks other store a b (Ok new) so answers = λ honest commits s xs stands is. answers honest commits s xs stands (so commits s xs stands is)
answers_by h asks other store a b (Err stop) so answers = λ honest commits s xs stands is. answers honest commits s xs stands (so commits s xs stands is)

-- ---- a load that ends

by_end : (long is_ended : Bool) (met : Result Request Refusal) (bad : Option ℕ) (refusal : Refusal) → load_end long met bad true ≡ Err refusal → load_end long met bad is_ended ≡ Err refusal
by_end true is_ended met bad refusal is = is
by_end false is_ended (Err own) bad refusal is = is
by_end false is_ended (Ok request) (Some line) refusal is = is
by_end false is_ended (Ok request) None refusal is = absurd (cc)

-- the steps of a load whose line met this
load_steps_by : (s : State) (line : List ℕ) (rows : List (List ℕ)) (met : Result Request Refusal) (is_ended : Bool) → built_met (around s) line ≡ Some met
    → built_steps s (WithRows line rows is_ended ∷ []) ≡ load_steps s (Some met) rows is_ended
load_steps_by s line rows met is_ended is = ap (λ o. load_steps s o rows is_ended ++ []) is ∙ append-nil (load_steps s (Some met) rows is_ended)

pub close_refused : (refusal : Refusal) (is_ended : Bool) (s : State) (xs : List Step) → AsksClose (Refused refusal) is_ended s xs → AsksOne (AsksRefused refusal) s xs
close_refused refusal is_ended s xs asks =
    let load = asks.0 in
    let holds = asks.1 in
    let channel = loaded_channel holds.met in
    let read = rows_for s channel load.rows in
    let ends = by_end (list_any is_too_long load.rows) is_ended holds.met (bad_row read) refusal holds.rows in
    (RefusedStep refusal, asks.2 ∙ load_steps_by s load.line load.rows holds.met is_ended holds.is ∙ ap (λ e. loaded_steps channel read e) ends, refl)

-- the rows of a load are entries
module _ (rows : KeptRows) (s : State) (load : Loading) (holds : HoldsLoad s (Rows rows) load) where
  abbrev request : Result Request Refusal
  request = Ok (r.Load rows.channel)

  read_is : read_rows (schema_in s.flow rows.channel) 1 load.rows ≡ Ok holds.rows.are.entries
  read_is = holds.rows.are.read

  steps_are : (is_ended : Bool) → built_steps s (WithRows load.line load.rows is_ended ∷ [])
      ≡ loaded_steps (Some rows.channel) (Ok holds.rows.are.entries) (load_end false request None is_ended)
  steps_are is_ended =
      load_steps_by s load.line load.rows holds.met is_ended holds.is
      ∙ ap (λ m. load_steps s (Some m) load.rows is_ended) holds.rows.asks
      ∙ ap (λ b. loaded_steps (Some rows.channel) (read_rows (schema_in s.flow rows.channel) 1 load.rows) (load_end b request (bad_row (read_rows (schema_in s.flow rows.channel) 1 load.rows)) is_ended)) holds.rows.are.short
      ∙ ap (λ (x : Result (List Entry) ℕ). loaded_steps (Some rows.channel) x (load_end false request (bad_row x) is_ended)) read_is

pub close_rows : (rows : KeptRows) (s : State) (xs : List Step) → AsksClose (Rows rows) true s xs → AsksOne (AsksLoad rows.channel rows.delta) s xs
close_rows rows s xs asks =
    let holds = asks.1 in
    let are = holds.rows.are in
    (Load rows.channel are.entries, asks.2 ∙ steps_are rows s asks.0 holds true, (are.entries, refl, are.made, (holds.rows.in_range, holds.rows.input, are.fit)))

pub close_cut : (rows : KeptRows) (s : State) (xs : List Step) → AsksClose (Rows rows) false s xs → AsksOne (AsksRefused UnfinishedLoad) s xs
close_cut rows s xs asks = (RefusedStep UnfinishedLoad, asks.2 ∙ steps_are rows s asks.0 asks.1 false, refl)

-- ---- a command without rows

pub met_refused : (refusal : Refusal) (s : State) (xs : List Step) → AsksMet (Err refusal) s xs → AsksOne (AsksRefused refusal) s xs
met_refused refusal s xs asks = (RefusedStep refusal, asks, refl)

pub met_shown : (c : ℕ) (store : Held) (commits : List Commit) (h : List Event) (s : State) (xs : List Step) → IsMet (around_held store) (Ok (r.Show c)) → StoreStands store commits h s → AsksMet (Ok (r.Show c)) s xs → AsksOne (AsksShow c) s xs
met_shown c store commits h s xs range stands asks =
    let long = count_names store.flow in
    let below : c < length store.flow.channels = omega (arith, range, long) in
    (Show c, asks, (refl, subst (λ (f : Workflow). c < length f.channels) stands.flow below))

pub met_ticked : (m : ℕ) (store : Held) (commits : List Commit) (h : List Event) (s : State) (xs : List Step) → IsMet (around_held store) (Ok (r.Tick m)) → StoreStands store commits h s → AsksMet (Ok (r.Tick m)) s xs → AsksOne (AsksTick m) s xs
met_ticked m store commits h s xs range stands asks =
    let moment = ap (λ (x : Surroundings). x.moment) (stands_around store commits h s stands) in
    let later = range.0 in
    (Tick m, asks, (refl, (omega (arith, later, moment), range.1)))

-- a task that is named and not in flight may begin
may_begin_met : (t : ℕ) (store : Held) (commits : List Commit) (h : List Event) (s : State) → IsMet (around_held store) (Ok (r.Run t)) → StoreStands store commits h s → IsMade s (Run t)
may_begin_met t store commits h s range stands =
    let around_is = stands_around store commits h s stands in
    let here : t < length (around s).tasks = subst (λ (x : Surroundings). t < length x.tasks) around_is range.0 in
    let idle : is_in_flight s t ≡ false = sym (ap (λ (x : Surroundings). x.is_in_flight t) around_is) ∙ range.1 in
    let many = count_tasks s.flow in
    begins s t (omega (arith, here, many)) idle

pub met_ran : (t : ℕ) (store : Held) (commits : List Commit) (h : List Event) (s : State) (xs : List Step) → IsMet (around_held store) (Ok (r.Run t)) → StoreStands store commits h s → AsksMet (Ok (r.Run t)) s xs → AsksOne (AsksRun t) s xs
met_ran t store commits h s xs range stands asks = (Run t, asks, (refl, may_begin_met t store commits h s range stands))

pub met_begun : (t : ℕ) (store : Held) (commits : List Commit) (h : List Event) (s : State) (xs : List Step) → IsMet (around_held store) (Ok (r.Begin t)) → StoreStands store commits h s → AsksMet (Ok (r.Begin t)) s xs → AsksOne (AsksBegin t) s xs
met_begun t store commits h s xs range stands asks = (Begin t, asks, (refl, may_begin_met t store commits h s range stands))

pub met_dropped : (t : ℕ) (store : Held) (commits : List Commit) (h : List Event) (s : State) (xs : List Step) → IsMet (around_held store) (Ok (r.Drop t)) → StoreStands store commits h s → AsksMet (Ok (r.Drop t)) s xs → AsksOne (AsksDrop t) s xs
met_dropped t store commits h s xs range stands asks =
    let around_is = stands_around store commits h s stands in
    let here : t < length (around s).tasks = subst (λ (x : Surroundings). t < length x.tasks) around_is range.0 in
    let flies : is_in_flight s t ≡ true = sym (ap (λ (x : Surroundings). x.is_in_flight t) around_is) ∙ range.1 in
    let many = count_tasks s.flow in
    (Drop t, asks, (refl, (omega (arith, here, many), flies)))

-- ---- a line that no load takes

-- what is held of a line meets what the line does
front_met : (x : Surroundings) (held line : List ℕ) → IsFront held line → built_met x held ≡ built_met x line
front_met x held line front = ap (built_met x) front.is ∙ ap (λ res. met_by x (built_only res)) (front_decides.command front.count line front.enough)

front_load : (held line : List ℕ) → IsFront held line → is_load held ≡ is_load line
front_load held line front = ap is_load front.is ∙ front_decides.load front.count line front.enough

front_dot : (held line : List ℕ) → IsFront held line → is_dot held ≡ is_dot line
front_dot held line front = ap is_dot front.is ∙ front_decides.dot front.count line front.enough

blank_alone : (x : Surroundings) (line : List ℕ) (res : Result (Option Command) Refusal) → met_by x (built_only res) ≡ None → alone line res ≡ []
blank_alone x line (Ok None) is = refl
blank_alone x line (Ok (Some command)) is = none (is_built command) is
  where
    none : (b : Bool) → met_by x (if b then Ok (Some command) else Err NotBuilt) ≡ None → alone line (Ok (Some command)) ≡ []
    none true is = absurd (cc)
    none false is = absurd (cc)
blank_alone x line (Err refusal) is = absurd (cc)

some_alone : (x : Surroundings) (line : List ℕ) (res : Result (Option Command) Refusal) (met : Result Request Refusal) → met_by x (built_only res) ≡ Some met → alone line res ≡ Alone line ∷ []
some_alone x line (Ok None) met is = absurd (cc)
some_alone x line (Ok (Some command)) met is = refl
some_alone x line (Err refusal) met is = refl

ended_no_load : (line : List ℕ) → is_load line ≡ false → ended_by None line ≡ alone line (command_of line)
ended_no_load line other = ap (λ (b : Bool). if b then [] else alone line (command_of line)) other

after_no_load : (line : List ℕ) → is_load line ≡ false → load_after None line ≡ None
after_no_load line other = ap (λ (b : Bool). if b then Some (let load : Loading = record { line = line; rows = [] } in load) else None) other

-- the steps of a line that is no load and meets something
alone_steps : (s : State) (line : List ℕ) (met : Result Request Refusal) → is_load line ≡ false → built_met (around s) line ≡ Some met → built_steps s (ended_by None line) ≡ met_steps s (Some met)
alone_steps s line met other is =
    ap (built_steps s) (ended_no_load line other ∙ some_alone (around s) line (command_of line) met is)
    ∙ ap (λ o. met_steps s o ++ []) is ∙ append-nil (met_steps s (Some met))

blank_steps : (s : State) (line : List ℕ) → is_load line ≡ false → built_met (around s) line ≡ None → built_steps s (ended_by None line) ≡ []
blank_steps s line other is = ap (built_steps s) (ended_no_load line other ∙ blank_alone (around s) line (command_of line) is)

load_line_steps : (s : State) (line : List ℕ) → is_load line ≡ true → built_steps s (ended_by None line) ≡ []
load_line_steps s line is = ap (λ (b : Bool). built_steps s (if b then [] else alone line (command_of line))) is

-- what is held of it meets, of the store, what the line does in the state
line_met : (store : Held) (commits : List Commit) (h : List Event) (s : State) (held line : List ℕ) → StoreStands store commits h s → IsFront held line → built_met (around_held store) held ≡ built_met (around s) line
line_met store commits h s held line stands front = ap (λ x. built_met x held) (stands_around store commits h s stands) ∙ front_met (around s) held line front

module _ (h : Bool) (store : Held) (held : List ℕ) where
  no_load : (s : State) (load : Option Loading) → HoldsPending s None load → load ≡ None
  no_load s None is = refl
  no_load s (Some l) is = absurd is

  -- the session behind it has no load
  taken : (new : Session) (commits : List Commit) (s : State) (load : Option Loading) (line : List ℕ) (a b : Seen) → HoldsPending s None load → new.load ≡ None → is_load line ≡ false
      → Takes store new.store commits s (built_steps s (ended_by None line)) a b → TakesLine store new commits s load line a b
  taken new commits s load line a b pending none other takes =
      let is = no_load s load pending in
      subst (λ l. TakesLine store new commits s l line a b) (sym is) (record {
        takes = takes;
        pending = subst (λ (p : Option Pending). HoldsPending (after_all s (built_steps s (ended_by None line))) p (load_after None line)) (sym none)
            (subst (λ l. HoldsPending (after_all s (built_steps s (ended_by None line))) None l) (sym (after_no_load line other)) tt);
      })

  pub takes_blank : (new : Session) (a : Seen) → new.store ≡ store → new.load ≡ None → built_met (around_held store) held ≡ None → TakesLines h store None new held a a
  takes_blank new a same none is honest commits s load line stands front =
      let met = sym (line_met store commits a.history s held line stands.stands front) ∙ is in
      let other = blank_met (around s) line met in
      taken new commits s load line a a stands.pending none other
      (subst (λ st. Takes store st commits s (built_steps s (ended_by None line)) a a) (sym same)
      (subst (λ xs. Takes store store commits s xs a a) (sym (blank_steps s line other met)) (takes_nothing store commits s a stands.stands)))

  pub takes_load_line : (new : Session) (pending : Pending) (met : Result Request Refusal) (a : Seen) → new.store ≡ store → new.load ≡ Some pending → is_load held ≡ true → built_met (around_held store) held ≡ Some met
      → BeginsLoad store met pending → TakesLines h store None new held a a
  takes_load_line new pending met a same load_is begins is starts honest commits s load line stands front =
      let here = sym (line_met store commits a.history s held line stands.stands front) ∙ is in
      let own : is_load line ≡ true = sym (front_load held line front) ∙ begins in
      let begun : Loading = record { line = line; rows = [] } in
      let rows = starts s stands.stands.flow (stands_around store commits a.history s stands.stands) in
      let holds : HoldsLoad s pending begun = record { met = met; is = here; rows = rows } in
      let steps = load_line_steps s line own in
      let none = no_load s load stands.pending in
      subst (λ l. TakesLine store new commits s l line a a) (sym none) (record {
        takes = subst (λ st. Takes store st commits s (built_steps s (ended_by None line)) a a) (sym same)
            (subst (λ xs. Takes store store commits s xs a a) (sym steps) (takes_nothing store commits s a stands.stands));
        pending = subst (λ (p : Option Pending). HoldsPending (after_all s (built_steps s (ended_by None line))) p (load_after None line)) (sym load_is)
            (subst (λ l. HoldsPending (after_all s (built_steps s (ended_by None line))) (Some pending) l) (sym (ap (λ (b : Bool). if b then Some begun else None) own))
            (subst (λ xs. HoldsLoad (after_all s xs) pending begun) (sym steps) holds));
      })

  pub takes_alone : (new : Session) (met : Result Request Refusal) (a b : Seen) → new.load ≡ None → is_load held ≡ false → built_met (around_held store) held ≡ Some met
      → TakesAsked h (AsksMet met) store new.store a b → TakesLines h store None new held a b
  takes_alone new met a b none other is takes honest commits s load line stands front =
      let here = sym (line_met store commits a.history s held line stands.stands front) ∙ is in
      let own : is_load line ≡ false = sym (front_load held line front) ∙ other in
      taken new commits s load line a b stands.pending none own (takes honest commits s _ stands.stands (alone_steps s line met own here))

  pub stops_alone : (why : Why) (met : Result Request Refusal) (a b : Seen) → is_load held ≡ false → built_met (around_held store) held ≡ Some met
      → StopsAsked why h (AsksMet met) store a b → StopsLines why h store None held a b
  stops_alone why met a b other is stops honest commits s load line stands front =
      let here = sym (line_met store commits a.history s held line stands.stands front) ∙ is in
      let own : is_load line ≡ false = sym (front_load held line front) ∙ other in
      let none = no_load s load stands.pending in
      subst (λ l. StopsIn why store commits s (built_steps s (ended_by l line)) a b) (sym none) (stops honest commits s _ stands.stands (alone_steps s line met own here))

-- without memory nothing was done
pub stops_line : (h : Bool) (store : Held) (pending : Option Pending) (held : List ℕ) (a : Seen) → StopsLines NoMemory h store pending held a a
stops_line h store pending held a honest commits s load line stands front = stops_at_once store commits s (built_steps s (ended_by load line)) a stands.stands

-- ---- a line that a load takes

module _ (h : Bool) (store : Held) (pending : Pending) (held : List ℕ) where
  some_load : (s : State) (load : Option Loading) → HoldsPending s (Some pending) load → (l : Loading) × (load ≡ Some l) × HoldsLoad s pending l
  some_load s None none = absurd none
  some_load s (Some l) holds = (l, refl, holds)

  pub takes_dot : (new : Session) (a b : Seen) → new.load ≡ None → is_dot held ≡ true → TakesAsked h (AsksClose pending true) store new.store a b → TakesLines h store (Some pending) new held a b
  takes_dot new a b none dot takes honest commits s load line stands front =
      let own : is_dot line ≡ true = sym (front_dot held line front) ∙ dot in
      let l = some_load s load stands.pending in
      let steps : built_steps s (ended_by (Some l.0) line) ≡ built_steps s (WithRows l.0.line l.0.rows true ∷ []) = ap (λ (b : Bool). built_steps s (if b then WithRows l.0.line l.0.rows true ∷ [] else [])) own in
      let after : load_after (Some l.0) line ≡ None = ap (λ (b : Bool). if b then None else Some (with_row l.0 line)) own in
      subst (λ x. TakesLine store new commits s x line a b) (sym l.1) (record {
        takes = takes honest commits s _ stands.stands (l.0, l.2, steps);
        pending = subst (λ (p : Option Pending). HoldsPending (after_all s (built_steps s (ended_by (Some l.0) line))) p (load_after (Some l.0) line)) (sym none)
            (subst (λ x. HoldsPending (after_all s (built_steps s (ended_by (Some l.0) line))) None x) (sym after) tt);
      })

  pub stops_dot : (why : Why) (a b : Seen) → is_dot held ≡ true → StopsAsked why h (AsksClose pending true) store a b → StopsLines why h store (Some pending) held a b
  stops_dot why a b dot stops honest commits s load line stands front =
      let own : is_dot line ≡ true = sym (front_dot held line front) ∙ dot in
      let l = some_load s load stands.pending in
      let steps : built_steps s (ended_by (Some l.0) line) ≡ built_steps s (WithRows l.0.line l.0.rows true ∷ []) = ap (λ (b : Bool). built_steps s (if b then WithRows l.0.line l.0.rows true ∷ [] else [])) own in
      subst (λ x. StopsIn why store commits s (built_steps s (ended_by x line)) a b) (sym l.1) (stops honest commits s _ stands.stands (l.0, l.2, steps))

  pub takes_row_line : (new : Session) (next : Pending) (a : Seen) → new.store ≡ store → new.load ≡ Some next → is_dot held ≡ false → ((l : List ℕ) → IsFront held l → TakesRow pending next l) → TakesLines h store (Some pending) new held a a
  takes_row_line new next a same load_is dot row honest commits s load line stands front =
      let own : is_dot line ≡ false = sym (front_dot held line front) ∙ dot in
      let l = some_load s load stands.pending in
      let steps : built_steps s (ended_by (Some l.0) line) ≡ [] = ap (λ (b : Bool). built_steps s (if b then WithRows l.0.line l.0.rows true ∷ [] else [])) own in
      let after : load_after (Some l.0) line ≡ Some (with_row l.0 line) = ap (λ (b : Bool). if b then None else Some (with_row l.0 line)) own in
      let holds : HoldsLoad s next (with_row l.0 line) = record { met = l.2.met; is = l.2.is; rows = row line front s l.2.met l.0.rows l.2.rows } in
      subst (λ x. TakesLine store new commits s x line a a) (sym l.1) (record {
        takes = subst (λ st. Takes store st commits s (built_steps s (ended_by (Some l.0) line)) a a) (sym same)
            (subst (λ xs. Takes store store commits s xs a a) (sym steps) (takes_nothing store commits s a stands.stands));
        pending = subst (λ (p : Option Pending). HoldsPending (after_all s (built_steps s (ended_by (Some l.0) line))) p (load_after (Some l.0) line)) (sym load_is)
            (subst (λ x. HoldsPending (after_all s (built_steps s (ended_by (Some l.0) line))) (Some next) x) (sym after)
            (subst (λ xs. HoldsLoad (after_all s xs) next (with_row l.0 line)) (sym steps) holds));
      })

  -- ---- a load that the input cut off

  pub stops_cut : (why : Why) (a b : Seen) → StopsAsked why h (AsksClose pending false) store a b → IsTrue h → (commits : List Commit) (s : State) (load : Option Loading) → SessionStands store (Some pending) commits a.history s load
      → StopsIn why store commits s (built_steps s (cut_off load)) a b
  stops_cut why a b stops honest commits s load stands =
      let l = some_load s load stands.pending in
      subst (λ x. StopsIn why store commits s (built_steps s (cut_off x)) a b) (sym l.1) (stops honest commits s _ stands.stands (l.0, l.2, refl))

  pub takes_cut : (new : Held) (a b : Seen) → TakesAsked h (AsksClose pending false) store new a b → IsTrue h → (commits : List Commit) (s : State) (load : Option Loading) → SessionStands store (Some pending) commits a.history s load
      → (after : Held) × Takes store after commits s (built_steps s (cut_off load)) a b
  takes_cut new a b takes honest commits s load stands =
      let l = some_load s load stands.pending in
      (new, subst (λ x. Takes store new commits s (built_steps s (cut_off x)) a b) (sym l.1) (takes honest commits s _ stands.stands (l.0, l.2, refl)))

-- no load is left
pub takes_end : (h : Bool) (store : Held) (a : Seen) → IsTrue h → (commits : List Commit) (s : State) (load : Option Loading) → SessionStands store None commits a.history s load
    → (after : Held) × Takes store after commits s (built_steps s (cut_off load)) a a
takes_end h store a honest commits s load stands =
    let none = no_load h store [] s load stands.pending in
    (store, subst (λ x. Takes store store commits s (built_steps s (cut_off x)) a a) (sym none) (takes_nothing store commits s a stands.stands))

-- a load's rows stay those of the store
pub fits_kept : (store : Held) (old new : Pending) → FitsStore store (Some old) → KeepsSchema old new → FitsStore store (Some new)
fits_kept store old (Refused refusal) fits keeps rows is = absurd (no_rows refusal rows is)
  where
    no_rows : (refusal : Refusal) (rows : KeptRows) → Some (Refused refusal) ≡ Some (Rows rows) → ⊥
    no_rows refusal rows e = cc
fits_kept store (Refused refusal) (Rows new) fits keeps rows is = absurd keeps
fits_kept store (Rows old) (Rows new) fits keeps rows is =
    let same : new ≡ rows = cc in
    let own = fits old refl in
    let channel : rows.channel ≡ old.channel = ap (λ (x : KeptRows). x.channel) (sym same) ∙ keeps.0 in (
      subst (λ n. n < length store.flow.channels) (sym channel) own.0,
      ap (λ (x : KeptRows). x.delta.schema) (sym same) ∙ keeps.1 ∙ own.1 ∙ ap (λ n. schema_in store.flow n) (sym channel),
      ap (λ n. is_input store.flow n) channel ∙ own.2,
    )

-- what is no load is none
pub none_of : (load : Option Pending) → ((pending : Pending) → load ≡ Some pending → ⊥) → load ≡ None
none_of None other = refl
none_of (Some pending) other = absurd (other pending refl)
