-- Each workflow that a text says keeps what the store rests on.
use Rattle.std.proofs.Common.{◌≡◌, ◌⊎◌, inl, inr, ℕ, zero, suc, ◌<◌, ◌≤◌, ◌^◌, Bool, true, false, ◌&&◌, ◌||◌, List, [], ◌∷◌, length, map, Option, Some, None, refl, ap, sym, ◌∙◌, subst, arith}
use Rattle.std.specs.Prelude.{IfSome, is_none, nat_eq, slice_get, slice_index_or, Result, Ok, Err}
use Rattle.std.specs.Result.{IfOk}
use Rattle.std.specs.List.{All, list_any}
use Rattle.std.specs.declared.alloc.AllocError.{AllocError}
use Rattle.std.proofs.lemmas.Bool.Decides.{nat_tests}
use Rattle.std.proofs.lemmas.List.Elements.{All-from_get_or}
use Rattle.std.proofs.lemmas.List.Folds.{list_any_at, list_any_none}
use Rattle.std.proofs.lemmas.List.Quantifiers.{position-Some}
use Rattle.std.proofs.lemmas.List.{get_or_past, length-map}
use Rattle.std.proofs.Math.ListN.{get_or-map}
use Rattle.nova_value.specs.Rows.{IsShape}
use Rattle.nova_workflow.specs.declared.flow.Channel.{Channel}
use Rattle.nova_workflow.specs.declared.flow.Flow.{Flow}
use Rattle.nova_workflow.specs.declared.flow.Task.{Task}
use Rattle.nova_workflow.specs.declared.flow.Trigger.{Trigger}
use Rattle.nova_workflow.specs.declared.flow.Trigger.TheVariants.{OnData, Every, After}
use Rattle.nova_workflow.specs.Whole.{IsChannel, IsFlow, IsInTime, IsTask}
use Rattle.nova_workflow.specs.Writers.{writer_of, writes, is_based as based_by}
use Rattle.nova_flow.proofs.Places.{none_any}
use Rattle.nova_flow.proofs.WholeFlows.{flows_are_whole}
use Rattle.nova_pig_pattern.specs.declared.task.PatternKind.{PatternKind}
use Rattle.nova_pig_pattern.specs.declared.task.PatternKind.TheVariants.{NonIncremental, Stateless, Lookup, Stateful}
use Rattle.nova_admit.specs.Flows.{HavePatterns}
use Rattle.nova_admit.specs.declared.plans.Pattern.{Pattern}
use Rattle.nova_histories.specs.Planned.{IsPlannedFlow}
use Rattle.nova_histories.proofs.Admitted.{admitted_are_planned}
use Rattle.nova_histories.proofs.Planned.{flow_owned, wired}
use Rattle.nova_histories.proofs.Writes.{planned_runs_keep}
use Rattle.nova_commit.specs.Commits.{Fits, commit_bytes}
use Rattle.nova_commit.specs.declared.commit.Commit.{Commit}
use Rattle.nova_commit.specs.declared.commit.Commit.TheVariants as commit
use Rattle.nova_commit.proofs.Reading.{spelled_once}
use Rattle.nova_meta.specs.declared.wiring.Edge.{Edge}
use Rattle.nova_meta.specs.declared.wiring.Wire.{Wire}
use Rattle.nova_meta.specs.Wired as catalog
use Rattle.nova_meta.specs.Wired.{IsWire, IsWiring, no_edge, no_wire}
use Rattle.nova_machine.specs.Workflow.{TaskPlan, Workflow, channel_in, is_based, is_input, no_channel, no_input, no_plan, no_task, output_in, plan_in, schema_in, task_in}
use Rattle.nova_runner.specs.Opening.{IsFirstFlow, IsFlowIn, IsNone, IsSaid}
use Rattle.nova_runner.specs.Texts.{ArePlans, HasFlow, task_plan, workflow_of}
use Rattle.nova_runner.specs.Workflow.{FlowsAreAdmitted, IsAdmitted, edge_of, keeps_state, named_by, wire_of, wires_of, wiring_of}
use Rattle.nova_runner.proofs.Texts.{short_text, of_text, text_kept}

-- ---- places

at_place : {X : Type 0} (xs : List X) (k : ℕ) (d : X) → k < length xs → slice_get xs k ≡ Some (slice_index_or xs k d)
at_place [] k d lt = absurd (omega (arith, lt))
at_place (x ∷ xs) zero d lt = refl
at_place (x ∷ xs) (suc k) d lt = at_place xs k d (omega (arith, lt))

all_mapped : {A B : Type 0} (P : B → Type 0) (g : A → B) (xs : List A) (d : A) → ((k : ℕ) → k < length xs → P (g (slice_index_or xs k d))) → All P (map g xs)
all_mapped P g xs d each =
    All-from_get_or P (map g xs) (g d) (λ k lt. let long = length-map xs g in let low : k < length xs = omega (arith, lt, long) in subst P (sym (get_or-map g xs k d)) (each k low))

-- in range or not
in_or_past : (c n : ℕ) → (c < n) ⊎ (n ≤ c)
in_or_past c n = grind arith

writers_at : (xs : List Channel) (c : ℕ) → slice_index_or (map (λ (x : Channel). x.writer) xs) c None ≡ (slice_index_or xs c no_channel).writer
writers_at [] c = refl
writers_at (x ∷ xs) zero = refl
writers_at (x ∷ xs) (suc c) = writers_at xs c

wires_count : (ts : List Task) (ps : List TaskPlan) → length ps ≡ length ts → length (wires_of ts ps) ≡ length ts
wires_count [] ps long = refl
wires_count (t ∷ ts) [] long = absurd (omega (arith, long))
wires_count (t ∷ ts) (p ∷ ps) long = ap suc (wires_count ts ps (omega (arith, long)))

wires_at : (ts : List Task) (ps : List TaskPlan) (t : ℕ) → length ps ≡ length ts → t < length ts → slice_index_or (wires_of ts ps) t no_wire ≡ wire_of (slice_index_or ts t no_task) (slice_index_or ps t no_plan)
wires_at [] ps t long lt = absurd (omega (arith, lt))
wires_at (u ∷ ts) [] t long lt = absurd (omega (arith, long))
wires_at (u ∷ ts) (p ∷ ps) zero long lt = refl
wires_at (u ∷ ts) (p ∷ ps) (suc t) long lt = wires_at ts ps t (omega (arith, long)) (omega (arith, lt))

-- only tasks have wires that keep state, and those are grouping ones
wires_within : (ts : List Task) (ps : List TaskPlan) (t : ℕ) → length ps ≡ length ts → (slice_index_or (wires_of ts ps) t no_wire).stateful ≡ true → t < length ts
wires_within [] ps t long keeps = absurd cc
wires_within (u ∷ ts) [] t long keeps = absurd (omega (arith, long))
wires_within (u ∷ ts) (p ∷ ps) zero long keeps = omega arith
wires_within (u ∷ ts) (p ∷ ps) (suc t) long keeps = omega (arith, wires_within ts ps t (omega (arith, long)) keeps)

is_stateful : (k : PatternKind) → keeps_state k ≡ true → k ≡ Stateful
is_stateful NonIncremental e = absurd cc
is_stateful Stateless e = absurd cc
is_stateful Lookup e = absurd cc
is_stateful Stateful e = refl

same_number : (m n : ℕ) → nat_eq m n ≡ true → m ≡ n
same_number m n e = grind (arith, nat_tests)

same_some : (m n : ℕ) → Some m ≡ Some n → m ≡ n
same_some m n e = cc

both_hold : (a b : Bool) → a ≡ true → b ≡ true → (a && b) ≡ true
both_hold true b p q = q
both_hold false b p q = cc

in_time : (t : ℕ) (trigger : Trigger) → IsInTime t trigger → IfSome (named_by trigger) (λ other. other < t)
in_time t OnData is = tt
in_time t (Every period) is = tt
in_time t (After task) is = is

-- ---- each task has its pattern

counted : (f : Flow) (ts : List Task) (qs : List Pattern) → HavePatterns f ts qs → length (map task_plan qs) ≡ length ts
counted f [] [] have = refl
counted f [] (q ∷ qs) have = absurd have
counted f (t ∷ ts) [] have = absurd have
counted f (t ∷ ts) (q ∷ qs) have = ap suc (counted f ts qs have.1)

-- ---- a workflow that a text says

module _ (text : List ℕ) (f : Flow) (qs : List Pattern) (whole : IsFlow f) (have : HavePatterns f f.tasks qs) (are : ArePlans qs) where
  abbrev w : Workflow
  w = workflow_of text f qs

  tasks_counted : length w.plans ≡ length w.tasks
  tasks_counted = counted f f.tasks qs have

  task : (t : ℕ) → t < length f.tasks → IsTask f t (task_in w t)
  task t lt = whole.tasks t (task_in w t) (at_place f.tasks t no_task lt)

  channel : (c : ℕ) → c < length f.channels → IsChannel f c (channel_in w c)
  channel c lt = whole.channels c (channel_in w c) (at_place f.channels c no_channel lt)

  -- the task that is said to write a channel does
  written : (c t : ℕ) → writer_of f.tasks c ≡ Some t → (t < length f.tasks) × ((task_in w t).output ≡ c)
  written c t is = let found = position-Some (writes c) f.tasks t no_task is in (found.0, same_number (task_in w t).output c found.1)

  known : (c : ℕ) → catalog.writer_of (wiring_of w) c ≡ (channel_in w c).writer
  unfolding wiring_of
  known c = writers_at f.channels c

  past : (c : ℕ) → length f.channels ≤ c → channel_in w c ≡ no_channel
  past c le = get_or_past f.channels c no_channel le

  wire : (t : ℕ) → t < length f.tasks → catalog.wire_at (wiring_of w) t ≡ wire_of (task_in w t) (plan_in w t)
  unfolding wiring_of
  wire t lt = wires_at f.tasks (map task_plan qs) t tasks_counted lt

  writer : (c : ℕ) → c < length f.channels → catalog.writer_of (wiring_of w) c ≡ writer_of f.tasks c
  writer c lt = known c ∙ (channel c lt).writer

  -- a channel is written anew where its writer does so
  anew : (c t : ℕ) → writer_of f.tasks c ≡ Some t → based_by f.tasks c ≡ (task_in w t).based
  anew c t is = elim (task_in w t).based as (λ b. (task_in w t).based ≡ b → based_by f.tasks c ≡ b) [
    | true ↦ λ e.
        let found = position-Some (writes c) f.tasks t no_task is in
        list_any_at (λ (u : Task). writes c u && u.based) f.tasks t no_task found.0 (both_hold (writes c (task_in w t)) (task_in w t).based found.1 e)
    | false ↦ λ e.
        list_any_none (λ (u : Task). writes c u && u.based) f.tasks
        (All-from_get_or (λ (u : Task). (writes c u && u.based) ≡ false) f.tasks no_task (λ k lt. other k lt e (writes c (task_in w k)) refl))
  ] refl
    where
      other : (k : ℕ) → k < length f.tasks → (task_in w t).based ≡ false → (b : Bool) → writes c (task_in w k) ≡ b → (writes c (task_in w k) && (task_in w k).based) ≡ false
      other k lt e true here =
          let output : (task_in w k).output ≡ c = same_number (task_in w k).output c here in
          let one : k ≡ t = same_some k t (sym (task k lt).writes ∙ ap (writer_of f.tasks) output ∙ is) in
          ap (λ (b : Bool). b && (task_in w k).based) here ∙ ap (λ (n : ℕ). (task_in w n).based) one ∙ e
      other k lt e false here = ap (λ (b : Bool). b && (task_in w k).based) here

  abbrev by_writer : Option ℕ → Bool
  by_writer o = elim o [ None ↦ false | Some t ↦ (catalog.wire_at (wiring_of w) t).based ]

  by_task : (c : ℕ) (o : Option ℕ) → writer_of f.tasks c ≡ o → by_writer o ≡ based_by f.tasks c
  by_task c None is = sym (none_written f.tasks (none_any (writes c) f.tasks is))
    where
      none_written : (ts : List Task) → list_any (writes c) ts ≡ false → based_by ts c ≡ false
      none_written [] e = refl
      none_written (t ∷ ts) e = two (writes c t) (list_any (writes c) ts) (none_written ts) e
        where
          two : (b r : Bool) → (r ≡ false → based_by ts c ≡ false) → (b || r) ≡ false → ((b && t.based) || based_by ts c) ≡ false
          two true r go e = cc
          two false r go e = go e
  by_task c (Some t) is = let lt = (written c t is).0 in ap (λ (x : Wire). x.based) (wire t lt) ∙ sym (anew c t is)

  based : (c : ℕ) → catalog.is_based (wiring_of w) c ≡ is_based w c
  based c = elim (in_or_past c (length f.channels)) as (λ _. catalog.is_based (wiring_of w) c ≡ is_based w c) [
    | inl lt ↦ ap by_writer (writer c lt) ∙ by_task c (writer_of f.tasks c) refl ∙ sym (channel c lt).based
    | inr le ↦ ap by_writer (known c ∙ ap (λ (x : Channel). x.writer) (past c le)) ∙ sym (ap (λ (x : Channel). x.based) (past c le))
  ]

  shaped : (c : ℕ) → c < length w.channels → IsShape (schema_in w c)
  shaped c lt = (channel c lt).shape

  tasks_planned : IsPlannedFlow w
  tasks_planned = admitted_are_planned w qs (record { flow = whole; patterns = have; plans = are; is = refl })

  writers_count : length (wiring_of w).writers ≡ length f.channels
  unfolding wiring_of
  writers_count = length-map f.channels (λ (x : Channel). x.writer)

  tasks_count : length (wiring_of w).tasks ≡ length f.tasks
  unfolding wiring_of
  tasks_count = wires_count f.tasks (map task_plan qs) tasks_counted

  is_wire : (t : ℕ) → t < length f.tasks → IsWire (wiring_of w) t (wire_of (task_in w t) (plan_in w t))
  is_wire t lt =
      let is = task t lt in
      let ins = (task_in w t).inputs in
      let many = writers_count in
      let long = length-map ins edge_of in
      let few = is.few_inputs in
      let output = is.output in
      let in_range : (k : ℕ) → k < length ins → (slice_index_or ins k no_input).channel < length f.channels = λ k low. is.inputs k (slice_index_or ins k no_input) (at_place ins k no_input low) in
      record {
        few = omega (arith, few, long);
        inputs = all_mapped (λ (e : Edge). e.channel < length (wiring_of w).writers) edge_of ins no_input (λ k low. let there = in_range k low in omega (arith, there, many));
        earlier = all_mapped (λ (e : Edge). IfSome (catalog.writer_of (wiring_of w) e.channel) (λ other. other < t)) edge_of ins no_input
            (λ k low. subst (λ (o : Option ℕ). IfSome o (λ other. other < t)) (sym (writer (slice_index_or ins k no_input).channel (in_range k low))) (is.earlier k (slice_index_or ins k no_input) (at_place ins k no_input low)));
        output = omega (arith, output, many);
        writes = writer (output_in w t) output ∙ is.writes;
        after = in_time t (task_in w t).trigger is.trigger;
        whole = all_mapped (λ (e : Edge). e.new ≡ true → catalog.is_based (wiring_of w) e.channel ≡ false) edge_of ins no_input (λ k low new. based (slice_index_or ins k no_input).channel ∙ wired w tasks_planned t k new);
      }

  wiring : IsWiring (wiring_of w)
  wiring =
      let channels = whole.few_channels in
      let tasks = whole.few_tasks in
      let many = writers_count in
      let count = tasks_count in
      record {
        few_channels = omega (arith, channels, many);
        few_tasks = omega (arith, tasks, count);
        writers = writers_in;
        outputs = outputs_in;
        tasks = λ t lt. let low : t < length f.tasks = omega (arith, lt, count) in subst (IsWire (wiring_of w) t) (sym (wire t low)) (is_wire t low);
      }
    where
      in_range : (c : ℕ) (o : Option ℕ) → writer_of f.tasks c ≡ o → IfSome o (λ t. t < length (wiring_of w).tasks)
      in_range c None is = tt
      in_range c (Some t) is = let low = (written c t is).0 in let count = tasks_count in omega (arith, low, count)

      writers_in : All (λ (o : Option ℕ). IfSome o (λ t. t < length (wiring_of w).tasks)) (wiring_of w).writers
      writers_in = All-from_get_or (λ (o : Option ℕ). IfSome o (λ t. t < length (wiring_of w).tasks)) (wiring_of w).writers None
          (λ c lt. let many = writers_count in let low : c < length f.channels = omega (arith, lt, many) in
          subst (λ (o : Option ℕ). IfSome o (λ t. t < length (wiring_of w).tasks)) (sym (writer c low)) (in_range c (writer_of f.tasks c) refl))

      outputs_in : (c t : ℕ) → catalog.writer_of (wiring_of w) c ≡ Some t → (catalog.wire_at (wiring_of w) t).output ≡ c
      outputs_in c t is = elim (in_or_past c (length f.channels)) as (λ _. (catalog.wire_at (wiring_of w) t).output ≡ c) [
        | inl lt ↦ let there = written c t (sym (writer c lt) ∙ is) in ap (λ (x : Wire). x.output) (wire t there.0) ∙ there.1
        | inr le ↦ absurd (let no : catalog.writer_of (wiring_of w) c ≡ None = known c ∙ ap (λ (x : Channel). x.writer) (past c le) in let clash : None ≡ Some t = sym no ∙ is in cc)
      ]

  pub is_admitted : length text ≤ 1048576 → IsAdmitted text w
  is_admitted short = record {
    kept = refl;
    short = short;
    counted = tasks_counted;
    shaped = shaped;
    based = based;
    wiring = wiring;
    news = wired w tasks_planned;
    owned = flow_owned w whole;
    planned = tasks_planned;
    runs = (planned_runs_keep w tasks_planned).1;
  }

pub flows_are_admitted : FlowsAreAdmitted
flows_are_admitted text w has =
    subst (IsAdmitted text) has.is (is_admitted text has.flow has.patterns (flows_are_whole text has.flow has.read) has.admitted has.plans (short_text text has.flow has.read))

-- a task's inputs are channels
pub inputs_in : (w : Workflow) → HasFlow w.text w → (t : ℕ) → t < length w.tasks → (k : ℕ) → k < length (task_in w t).inputs → (slice_index_or (task_in w t).inputs k no_input).channel < length w.channels
inputs_in w has = subst (λ (v : Workflow). (t : ℕ) → t < length v.tasks → (k : ℕ) → k < length (task_in v t).inputs → (slice_index_or (task_in v t).inputs k no_input).channel < length v.channels) has.is
    (λ t lt k low. (task w.text has.flow has.patterns (flows_are_whole w.text has.flow has.read) has.admitted has.plans t lt).inputs k (slice_index_or (slice_index_or has.flow.tasks t no_task).inputs k no_input) (at_place (slice_index_or has.flow.tasks t no_task).inputs k no_input low))

-- and they are few
pub few_inputs : (w : Workflow) → HasFlow w.text w → (t : ℕ) → t < length w.tasks → length (task_in w t).inputs ≤ 16
few_inputs w has = subst (λ (v : Workflow). (t : ℕ) → t < length v.tasks → length (task_in v t).inputs ≤ 16) has.is
    (λ t lt. (task w.text has.flow has.patterns (flows_are_whole w.text has.flow has.read) has.admitted has.plans t lt).few_inputs)

-- what holds of each workflow that a text says
module _ (f : Workflow) (read : HasFlow f.text f) where
  pub own : IsAdmitted f.text f
  own = flows_are_admitted f.text f read

  pub well_wired : IsWiring (wiring_of f)
  well_wired = own.wiring

  pub shaped_in : (c : ℕ) → c < length f.channels → IsShape (schema_in f c)
  shaped_in c lt = own.shaped c lt

  pub input_known : (c : ℕ) → catalog.is_input (wiring_of f) c ≡ is_input f c
  unfolding wiring_of
  input_known c = ap (λ (o : Option ℕ). is_none o) (writers_at f.channels c)

  -- loads write a channel by changes
  pub free_known : (c : ℕ) → is_input f c ≡ true → catalog.is_based (wiring_of f) c ≡ false
  free_known c input = none_based_by (catalog.writer_of (wiring_of f) c) (input_known c ∙ input)
    where
      none_based_by : (o : Option ℕ) → is_none o ≡ true → elim o as (λ _. Bool) [ None ↦ false | Some t ↦ (catalog.wire_at (wiring_of f) t).based ] ≡ false
      none_based_by None is = refl
      none_based_by (Some t) is = absurd (cc)

  pub wire_known : (t : ℕ) → t < length f.tasks → catalog.wire_at (wiring_of f) t ≡ wire_of (task_in f t) (plan_in f t)
  unfolding wiring_of
  wire_known t lt = wires_at f.tasks f.plans t own.counted lt

  pub output_known : (t : ℕ) → t < length f.tasks → (catalog.wire_at (wiring_of f) t).output ≡ output_in f t
  output_known t lt = ap (λ (x : Wire). x.output) (wire_known t lt)

  -- the wire of a task that keeps state is that of a grouping one
  pub of_stateful : (t : ℕ) → (catalog.wire_at (wiring_of f) t).stateful ≡ true → (t < length f.tasks) × ((plan_in f t).pattern ≡ Stateful)
  unfolding wiring_of
  of_stateful t keeps =
      let lt = wires_within f.tasks f.plans t own.counted keeps in
      (lt, is_stateful (plan_in f t).pattern (ap (λ (x : Wire). x.stateful) (sym (wires_at f.tasks f.plans t own.counted lt)) ∙ keeps))

  pub free : (c : ℕ) → is_input f c ≡ true → is_based f c ≡ false
  free c input = sym (own.based c) ∙ free_known c input

-- numbers of channels and tasks are narrow
pub few_channels : (w : Workflow) → HasFlow w.text w → length w.channels < 2 ^ 32
unfolding wiring_of
few_channels w read =
    let few = (flows_are_admitted w.text w read).wiring.few_channels in
    let same = length-map w.channels (λ (c : Channel). c.writer) in
    omega (arith, few, same)

pub few_tasks : (w : Workflow) → HasFlow w.text w → length w.tasks < 2 ^ 32
unfolding wiring_of
few_tasks w read =
    let is = flows_are_admitted w.text w read in
    let few = is.wiring.few_tasks in
    let same = wires_count w.tasks w.plans is.counted in
    omega (arith, few, same)

pub tasks_known : (w : Workflow) → HasFlow w.text w → length (wiring_of w).tasks ≡ length w.tasks
unfolding wiring_of
tasks_known w read = wires_count w.tasks w.plans (flows_are_admitted w.text w read).counted

-- ---- of a commit

abbrev pub text_of : Commit → List ℕ
text_of (commit.Flow text) = text
text_of (commit.Load c b z) = []
text_of (commit.Tick m) = []
text_of (commit.Run t vs m seen b z ps) = []
text_of (commit.Joined c i j b z) = []
text_of (commit.Collected kept) = []

pub first_read : (payload text : List ℕ) (found : Option Workflow) → payload ≡ commit_bytes (commit.Flow text) → IsSaid text found → IsFirstFlow payload found
first_read payload text None is said = λ other flow same admitted.
    let one : text_of (commit.Flow text) ≡ text_of (commit.Flow other) = ap text_of (spelled_once (commit.Flow text) (commit.Flow other) tt tt (sym is ∙ same)) in
    said flow (subst (λ t. HasFlow t flow) (sym one) admitted)
first_read payload text (Some flow) is said =
    let kept = text_kept text flow said in
    (is ∙ ap (λ t. commit_bytes (commit.Flow t)) (sym kept), of_text text flow said)

-- the commit of another kind is no workflow's
first_none : (payload : List ℕ) (c : Commit) (found : Option Workflow) → Fits c × (payload ≡ commit_bytes c) → ((text : List ℕ) → commit.Flow text ≡ c → ⊥) → IsNone found → IsFirstFlow payload found
first_none payload c None is other none = λ text flow same admitted. other text (spelled_once (commit.Flow text) c tt is.0 (sym same ∙ is.1))
first_none payload c (Some flow) is other none = absurd none

first_of : (payload : List ℕ) (c : Commit) (found : Option Workflow) → Fits c × (payload ≡ commit_bytes c) → IsFlowIn c found → IsFirstFlow payload found
first_of payload (commit.Flow text) found is said = first_read payload text found is.1 said
first_of payload (commit.Load c b z) found is none = first_none payload (commit.Load c b z) found is (λ text e. let no = e in cc) none
first_of payload (commit.Tick m) found is none = first_none payload (commit.Tick m) found is (λ text e. let no = e in cc) none
first_of payload (commit.Run t vs m seen b z ps) found is none = first_none payload (commit.Run t vs m seen b z ps) found is (λ text e. let no = e in cc) none
first_of payload (commit.Joined c i j b z) found is none = first_none payload (commit.Joined c i j b z) found is (λ text e. let no = e in cc) none
first_of payload (commit.Collected kept) found is none = first_none payload (commit.Collected kept) found is (λ text e. let no = e in cc) none

pub first_found : (payload : List ℕ) (c : Commit) (r : Result (Option Workflow) AllocError) → Fits c × (payload ≡ commit_bytes c) → IfOk r (IsFlowIn c) → IfOk r (IsFirstFlow payload)
first_found payload c (Ok found) is said = first_of payload c found is said
first_found payload c (Err e) is said = tt
