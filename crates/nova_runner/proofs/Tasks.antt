-- What a store knows of a task.
use Rattle.std.proofs.Common.{◌≡◌, inl, inr, ℕ, zero, suc, ◌+◌, ◌<◌, ◌≤◌, ◌^◌, Bool, true, false, if◌then◌else◌, List, [], ◌∷◌, length, map, ap, sym, ◌∙◌, refl, subst, arith}
use Rattle.std.specs.Prelude.{slice_index_or}
use Rattle.std.specs.List.{All, AllByRecursion}
use Rattle.std.proofs.lemmas.List.{length-map}
use Rattle.std.proofs.lemmas.List.Elements.{All-cons, All-nil}
use Rattle.nova_workflow.specs.declared.flow.Input.{Input}
use Rattle.nova_workflow.specs.declared.flow.Trigger.{Trigger}
use Rattle.nova_workflow.specs.declared.flow.Trigger.TheVariants.{OnData, Every, After}
use Rattle.nova_commit.specs.Commits.{Fits, FitsPart, IsWide}
use Rattle.nova_meta.specs.Catalog.{Entered, captured, progress_at, shelf_at}
use Rattle.nova_meta.specs.Sound.{LeadsOn, edge_at}
use Rattle.nova_meta.specs.Wired.{no_edge, wire_at}
use Rattle.nova_path.specs.Intervals.{spans}
use Rattle.nova_path.specs.Shelf.{HasPath, IsPath, Rises, Span}
use Rattle.nova_path.proofs.Room.{rises_from}
use Rattle.nova_meta.specs.declared.wiring.Edge.{Edge}
use Rattle.nova_meta.specs.declared.wiring.Wire.{Wire}
use Rattle.nova_meta.specs.declared.wiring.Wiring.{Wiring}
use Rattle.nova_machine.specs.Workflow.{is_new, no_input, output_in, plan_in, task_in}
use Rattle.nova_trigger.specs.Due.{capture_in, newest_in, runs_named}
use Rattle.nova_execution.specs.Made.{HasTask}
use Rattle.nova_execution.specs.Reads.{HasRoute, Read, edge_of, edges_of, reads_from, run_reads}
use Rattle.nova_runner.specs.Acts.{IsHop, has_room, keeps_in, newest_reads, parts_of}
use Rattle.nova_runner.specs.Beginning.{captured_in}
use Rattle.nova_runner.specs.Flights.{flow_of}
use Rattle.nova_runner.specs.Held.{Held}
use Rattle.nova_runner.specs.Readable.{IsKept, IsReadable}
use Rattle.nova_runner.specs.Runs.{run_commit}
use Rattle.nova_machine.specs.Workflow.{Workflow}
use Rattle.nova_runner.specs.Texts.{HasFlow}
use Rattle.nova_runner.specs.Workflow.{wire_of, wiring_of}
use Rattle.nova_runner.proofs.Flows.{few_inputs, inputs_in, own, output_known, wire_known}
use Rattle.nova_runner.proofs.Readables.{in_range}
use Rattle.nova_runner.proofs.RunRules.{IsRunTask, run_fit, run_low}

-- ---- what its run reads

versions_known : (cat : Entered) (is : List Input) → map (λ (e : Edge). (shelf_at cat e.channel).version) (map edge_of is) ≡ map (newest_in cat) is
versions_known cat [] = refl
versions_known cat (i ∷ is) = ap (λ (vs : List ℕ). newest_in cat i ∷ vs) (versions_known cat is)

reads_known : (cat : Entered) (t : ℕ) (is : List Input) → (wire_at cat.wiring t).inputs ≡ map edge_of is → newest_reads cat t ≡ run_reads (map edge_of is) cat t (map (newest_in cat) is)
reads_known cat t is e =
    ap (λ (es : List Edge). run_reads es cat t (map (λ (x : Edge). (shelf_at cat x.channel).version) es)) e
    ∙ ap (run_reads (map edge_of is) cat t) (versions_known cat is)

channels_there : (cursor : ℕ → ℕ) (n k : ℕ) (is : List Input) (versions : List ℕ) → ((j : ℕ) → j < length is → (slice_index_or is j no_input).channel < n)
    → AllByRecursion (λ (r : Read). r.channel < n) (reads_from cursor k (map edge_of is) versions)
channels_there cursor n k [] versions each = tt
channels_there cursor n k (i ∷ is) [] each = tt
channels_there cursor n k (i ∷ is) (v ∷ vs) each = (each 0 (omega arith), channels_there cursor n (suc k) is vs (λ j low. each (suc j) (omega (arith, low))))

-- each of a channel of the workflow
pub reads_there : (flow : Workflow) → HasFlow flow.text flow → (cat : Entered) → cat.wiring ≡ wiring_of flow → (t : ℕ) → t < length flow.tasks
    → AllByRecursion (λ (r : Read). r.channel < length flow.channels) (newest_reads cat t)
reads_there flow has cat wired t lt =
    let is = (task_in flow t).inputs in
    let same : (wire_at cat.wiring t).inputs ≡ map edge_of is = ap (λ (w : Wiring). (wire_at w t).inputs) wired ∙ ap (λ (x : Wire). x.inputs) (wire_known flow has t lt) in
    subst (AllByRecursion (λ (r : Read). r.channel < length flow.channels)) (sym (reads_known cat t is same))
    (channels_there (captured (progress_at cat t).last) (length flow.channels) 0 is (map (newest_in cat) is) (inputs_in flow has t lt))

-- each to the newest version, from 0 or from where the input stands
abbrev pub ReadsOn : Entered → Read → Type 0
ReadsOn cat r = (r.to ≡ (shelf_at cat r.channel).version) × IsHop cat r.channel r.from

on_from : (cat : Entered) (t k : ℕ) (es : List Edge) → ((j : ℕ) → j < length es → edge_at cat t (k + j) ≡ slice_index_or es j no_edge)
    → AllByRecursion (ReadsOn cat) (reads_from (captured (progress_at cat t).last) k es (map (λ (e : Edge). (shelf_at cat e.channel).version) es))
on_from cat t k [] are = tt
on_from cat t k (e ∷ es) are = ((refl, hop e.new refl), on_from cat t (suc k) es rest)
  where
    here : edge_at cat t k ≡ e
    here = let same : k + 0 ≡ k = omega arith in subst (λ n. edge_at cat t n ≡ e) same (are 0 (omega arith))

    rest : (j : ℕ) → j < length es → edge_at cat t (suc k + j) ≡ slice_index_or es j no_edge
    rest j low = let same : k + suc j ≡ suc k + j = omega arith in subst (λ n. edge_at cat t n ≡ slice_index_or es j no_edge) same (are (suc j) (omega (arith, low)))

    hop : (b : Bool) → e.new ≡ b → IsHop cat e.channel (if b then captured (progress_at cat t).last k else 0)
    hop true new = inr (t, k, ap (λ (x : Edge). x.new) here ∙ new, ap (λ (x : Edge). x.channel) here, refl)
    hop false whole = inl refl

pub reads_on : (cat : Entered) (t : ℕ) → AllByRecursion (ReadsOn cat) (newest_reads cat t)
reads_on cat t = on_from cat t 0 (wire_at cat.wiring t).inputs (λ j low. let same : 0 + j ≡ j = omega arith in ap (edge_at cat t) same)

-- a path leads to each version that is captured: from where a NEW input stands, else from 0
routes : (cat : Entered) → IsReadable cat → (cursor : ℕ → ℕ) (k : ℕ) (is : List Input) → ((j : ℕ) → j < length is → (slice_index_or is j no_input).channel < length cat.channels)
    → ((j : ℕ) → j < length is → is_new (slice_index_or is j no_input).mode ≡ true → LeadsOn (shelf_at cat (slice_index_or is j no_input).channel) (cursor (k + j)))
    → All (HasRoute cat) (reads_from cursor k (map edge_of is) (map (newest_in cat) is))
routes cat readable cursor k [] each news = All-nil (HasRoute cat)
routes cat readable cursor k (i ∷ is) each news =
    All-cons (HasRoute cat) _ (reads_from cursor (suc k) (map edge_of is) (map (newest_in cat) is))
    (record { channel = each 0 (omega arith); numbered = readable.numbered i.channel; path = led (is_new i.mode) refl })
    (routes cat readable cursor (suc k) is (λ j low. each (suc j) (omega (arith, low)))
    (λ j low new. subst (λ n. LeadsOn (shelf_at cat (slice_index_or is j no_input).channel) (cursor n)) (omega arith) (news (suc j) (omega (arith, low)) new)))
  where
    led : (b : Bool) → is_new i.mode ≡ b → HasPath (spans (shelf_at cat i.channel).intervals) (if b then cursor k else 0) (shelf_at cat i.channel).version
    led true new = subst (λ n. LeadsOn (shelf_at cat i.channel) (cursor n)) (omega arith) (news 0 (omega arith) new)
    led false whole = readable.sound.hops.whole i.channel

-- no path falls
climbs : (xs : List Span) → Rises xs → (i j : ℕ) → HasPath xs i j → i ≤ j
climbs xs rises i j (path, is) = up path i is
  where
    up : (ys : List Span) (n : ℕ) → IsPath xs n j ys → n ≤ j
    up [] n at = let e = at in omega (arith, e)
    up (y ∷ ys) n (there, begins, rest) = let first = rises y there in let later = up ys y.to rest in omega (arith, first, later, begins)

module _ (store : Held) (t : ℕ) (kept : IsKept store) (lt : t < length store.flow.tasks) where
  abbrev inputs : List Input
  inputs = (task_in store.flow t).inputs

  wire : wire_at store.catalog.wiring t ≡ wire_of (task_in store.flow t) (plan_in store.flow t)
  wire = ap (λ (w : Wiring). wire_at w t) kept.wired ∙ wire_known store.flow kept.read t lt

  input_known : (k : ℕ) → k < length inputs → edge_at store.catalog t k ≡ edge_of (slice_index_or inputs k no_input)
  input_known k low = ap (λ (x : Wire). slice_index_or x.inputs k no_edge) wire ∙ nth_mapped inputs k low
    where
      nth_mapped : (is : List Input) (k : ℕ) → k < length is → slice_index_or (map edge_of is) k no_edge ≡ edge_of (slice_index_or is k no_input)
      nth_mapped [] k low = absurd (omega (arith, low))
      nth_mapped (i ∷ is) zero low = refl
      nth_mapped (i ∷ is) (suc k) low = nth_mapped is k (omega (arith, low))

  -- from where a NEW input stands a path leads on
  new_hop : (k : ℕ) → k < length inputs → is_new (slice_index_or inputs k no_input).mode ≡ true → LeadsOn (shelf_at store.catalog (slice_index_or inputs k no_input).channel) (captured (progress_at store.catalog t).last k)
  new_hop k low new =
      let known = input_known k low in
      subst (λ (e : Edge). LeadsOn (shelf_at store.catalog e.channel) (captured (progress_at store.catalog t).last k)) known
      (kept.readable.sound.hops.news t k (ap (λ (e : Edge). e.new) known ∙ new))

  pub run_task : IsRunTask store.catalog (task_in store.flow t) t (keeps_in store.flow t)
  run_task = record {
    begun = kept.begun;
    stateful = λ keeps. ap (λ (x : Wire). x.stateful) wire ∙ keeps;
    there = let same = kept.tasks in omega (arith, lt, same);
    inputs = ap (λ (x : Wire). x.inputs) wire;
    after = ap (λ (x : Wire). x.after) wire;
    shelved = kept.readable.sound.shelved;
    behind = λ k low new. climbs _ (rises_from _ (kept.readable.sound.shelved _).rise) _ _ (new_hop k low new);
    late = kept.readable.timely t;
  }

  pub reads_are : newest_reads store.catalog t ≡ run_reads (edges_of (task_in store.flow t)) store.catalog t (captured_in store t).versions
  reads_are = reads_known store.catalog t inputs run_task.inputs

  -- a path leads to each version that it captures
  pub paths : All (HasRoute store.catalog) (run_reads (edges_of (task_in store.flow t)) store.catalog t (captured_in store t).versions)
  paths = routes store.catalog kept.readable (captured (progress_at store.catalog t).last) 0 inputs (λ k low. in_range store (slice_index_or inputs k no_input).channel kept (inputs_in store.flow kept.read t lt k low)) hop
    where
      hop : (j : ℕ) → j < length inputs → is_new (slice_index_or inputs j no_input).mode ≡ true → LeadsOn (shelf_at store.catalog (slice_index_or inputs j no_input).channel) (captured (progress_at store.catalog t).last (0 + j))
      hop j low new = let same : j ≡ 0 + j = omega arith in subst (λ n. LeadsOn (shelf_at store.catalog (slice_index_or inputs j no_input).channel) (captured (progress_at store.catalog t).last n)) same (new_hop j low new)

  pub output_there : output_in store.flow t < length store.catalog.channels
  output_there = in_range store (output_in store.flow t) kept ((own store.flow kept.read).owned t lt).0

  pub output_is : (wire_at store.catalog.wiring t).output ≡ output_in store.flow t
  output_is = ap (λ (w : Wiring). (wire_at w t).output) kept.wired ∙ output_known store.flow kept.read t lt

  -- the catalog knows the task
  pub has_task : HasTask (flow_of store.flow) store.catalog t
  has_task = record { there = run_task.there; inputs = run_task.inputs; output = output_there }

  pub as_many : length (captured_in store t).versions ≡ length inputs
  as_many = length-map inputs (newest_in store.catalog)

  pub few_captured : length (captured_in store t).versions ≤ 16
  few_captured = let few = few_inputs store.flow kept.read t lt in let many = as_many in omega (arith, few, many)

  -- ---- its numbers have room in their fields

  wide_versions : (is : List Input) → AllByRecursion IsWide (map (newest_in store.catalog) is)
  wide_versions [] = tt
  wide_versions (i ∷ is) = (let most = kept.readable.sound.bounded.versions i.channel in omega (arith, most), wide_versions is)

  wide_seen : (trigger : Trigger) → runs_named store.catalog trigger < 2 ^ 64
  wide_seen OnData = omega arith
  wide_seen (Every period) = omega arith
  wide_seen (After task) = let most = kept.readable.sound.bounded.runs task in omega (arith, most)

  fit_parts : (keeps : Bool) (next state : ℕ) → next + length (parts_of keeps next state) < 2 ^ 62 → state < 2 ^ 64 → (length (parts_of keeps next state) < 2 ^ 32) × AllByRecursion FitsPart (parts_of keeps next state)
  fit_parts false next state low wide = (omega arith, tt)
  fit_parts true next state low wide = (omega arith, (record { part = omega arith; block = omega (arith, low); size = wide }, tt))

  pub run_fits : (size state : ℕ) → t < 2 ^ 32 → store.catalog.moment < 2 ^ 64 → state < 2 ^ 64 → has_room store.catalog (run_commit store t size state) ≡ true → Fits (run_commit store t size state)
  run_fits size state narrow moment wide room =
      let few = few_inputs store.flow kept.read t lt in
      let many = as_many in
      let keeps = keeps_in store.flow t in
      let low = run_low store.catalog t (capture_in (captured_in store t)) keeps size state room in
      let fit = run_fit store.catalog t (capture_in (captured_in store t)) keeps size state room in
      (narrow, ((omega (arith, few, many), wide_versions inputs), (moment, (wide_seen (task_in store.flow t).trigger, (omega (arith, low), (omega (arith, fit), fit_parts keeps store.catalog.next state low wide))))))
