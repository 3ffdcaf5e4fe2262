-- What holds of a task that is admitted: how it reads its inputs, and how it writes its output.
use Rattle.std.proofs.Common.{◌≡◌, inl, inr, ℕ, ◌<◌, Bool, true, false, ◌&&◌, if◌then◌else◌, List, [], ◌∷◌, length, map, get_or, Some, Result, Ok, Err, refl, ap, sym, ◌∙◌, subst, arith}
use Rattle.std.specs.Prelude.{nat_eq, slice_get}
use Rattle.std.specs.List.{All}
use Rattle.std.proofs.lemmas.Bool.Decides.{nat_tests}
use Rattle.std.proofs.lemmas.List.{length-map}
use Rattle.std.proofs.lemmas.List.Folds.{list_any_at, list_any_none}
use Rattle.std.proofs.lemmas.List.Elements.{All-from_get_or, All-get_or}
use Rattle.std.proofs.lemmas.Option.{slice_get-get_or}
use Rattle.nova_workflow.specs.declared.flow.Flow.{Flow}
use Rattle.nova_workflow.specs.declared.flow.Input.{Input}
use Rattle.nova_workflow.specs.declared.flow.Task.{Task}
use Rattle.nova_workflow.specs.Whole.{IsFlow, IsTask}
use Rattle.nova_workflow.specs.Writers.{is_based as based_by, writer_of, writes}
use Rattle.nova_pig_algebra.specs.Plan.{Plan, plan_key, tree_of_plan}
use Rattle.nova_pig_pattern.specs.declared.task.PatternKind.{PatternKind}
use Rattle.nova_pig_pattern.specs.declared.task.PatternKind.TheVariants.{NonIncremental, Stateless, Lookup, Stateful}
use Rattle.nova_pig_pattern.specs.declared.task.TaskFault.{TaskFault}
use Rattle.nova_pig_pattern.specs.Table.{AreAll, Fits, IsMain, IsOfPattern}
use Rattle.nova_pig_pattern.proofs.Tabled.{admission_is_the_table, patterns_are_the_table}
use Rattle.nova_admit.specs.Flows.{HasPattern, HasSchemas, fault_of, input_of, inputs_of, told}
use Rattle.nova_admit.specs.TaskPlans.{admitted, kind_of, plan_of}
use Rattle.nova_admit.specs.declared.fault.AdmitFault.{AdmitFault}
use Rattle.nova_admit.specs.declared.plans.Pattern.{Pattern}
use Rattle.nova_meta.specs.Catalog.{Entered, captured, progress_at}
use Rattle.nova_machine.specs.Workflow.{main_place, no_channel, no_input, no_task}
use Rattle.nova_rowwise.specs.Derived.{main_of}
use Rattle.nova_rowwise.proofs.RowPlans.{main_is_new}
use Rattle.nova_histories.specs.Statements.{IsRowPattern}
use Rattle.nova_trigger.specs.Due.{task_at}
use Rattle.nova_execution.specs.Groups.{group_read}
use Rattle.nova_execution.specs.Reads.{edge_of, edges_of, reads_from, run_reads, whole_reads}
use Rattle.nova_execution.specs.Rows.{plan_reads, since}
use Rattle.nova_execution.proofs.Reading.{all_whole, same_new}
use Rattle.nova_execution.proofs.RowReads.{first_row_reads}

kind_same : (a b : PatternKind) → (let r : Result PatternKind AdmitFault = Ok a in r) ≡ Ok b → a ≡ b
kind_same a b e = cc

never : (a : AdmitFault) (b : PatternKind) → Err a ≡ Ok b → ⊥
never a b e = absurd cc

-- what the table of patterns says of an admitted task
pub record IsOfTable (f : Flow) (t : Task) (q : Pattern) : Type 0 where
  pub of_pattern : IsOfPattern (plan_of q).inputs (inputs_of f t) t.based (tree_of_plan (plan_of q)) (kind_of q)

-- its inputs are read whole, and its output is written anew
pub record IsAnew (f : Flow) (t : Task) : Type 0 where
  pub whole : AreAll (map (input_of f) t.inputs)
  pub anew : t.based ≡ true

-- its main input alone is read as what is new, and its output is changed
pub record IsByRow (f : Flow) (t : Task) (p : Plan) : Type 0 where
  pub main : IsMain (map (input_of f) t.inputs) (main_of (tree_of_plan p))
  pub changes : t.based ≡ false

-- it has one input, which is read as what is new, and its output is changed
pub record IsByGroup (f : Flow) (t : Task) : Type 0 where
  pub one : length t.inputs ≡ 1
  pub main : IsMain (map (input_of f) t.inputs) 0
  pub changes : t.based ≡ false

module _ (f : Flow) (t : Task) where
  by_answer : (r : Result PatternKind TaskFault) (kind : PatternKind) → told f t.name r ≡ Ok kind → r ≡ Ok kind
  by_answer (Ok k) kind e = ap (λ (x : PatternKind). let r : Result PatternKind TaskFault = Ok x in r) (kind_same k kind e)
  by_answer (Err x) kind e = absurd (never (fault_of f t.name x) kind e)

  pub of_table : (q : Pattern) → HasPattern f t q → IsOfTable f t q
  of_table q has =
      let is = by_answer (admitted (plan_of q) (inputs_of f t) t.based) (kind_of q) has.kind in
      let p = plan_of q in
      let table = (admission_is_the_table p.inputs (inputs_of f t) t.based p.output.key (tree_of_plan p) (plan_key p) (Ok (kind_of q))).0 is in
      record { of_pattern = table.2 }

  fits : (q : Pattern) (kind : PatternKind) → HasPattern f t q → kind_of q ≡ kind → Fits (plan_of q).inputs (inputs_of f t) t.based (tree_of_plan (plan_of q)) kind
  fits q kind has is = subst (Fits (plan_of q).inputs (inputs_of f t) t.based (tree_of_plan (plan_of q))) is (of_table q has).of_pattern.fits

  pub is_anew : (q : Pattern) → HasPattern f t q → kind_of q ≡ NonIncremental → IsAnew f t
  is_anew q has is = let fit = fits q NonIncremental has is in record { whole = fit.0; anew = fit.1 }

  pub is_by_row : (q : Pattern) → HasPattern f t q → IsRowPattern (kind_of q) → IsByRow f t (plan_of q)
  is_by_row q has row =
      let p = plan_of q in
      record {
        main = main_is_new p (inputs_of f t) t.based (kind_of q) ((patterns_are_the_table p.inputs (inputs_of f t) t.based (tree_of_plan p) (kind_of q)).1 (of_table q has).of_pattern) row;
        changes = elim row as (λ _. t.based ≡ false) [
          | inl is ↦ (fits q Stateless has is).2
          | inr is ↦ (fits q Lookup has is).3
        ];
      }

  pub is_by_group : (q : Pattern) → HasPattern f t q → kind_of q ≡ Stateful → IsByGroup f t
  is_by_group q has is =
      let fit = fits q Stateful has is in
      record { one = sym (length-map t.inputs (input_of f)) ∙ fit.0; main = fit.1; changes = fit.2 }

-- ---- how its output is written

both_hold : (a b : Bool) → a ≡ true → b ≡ true → (a && b) ≡ true
both_hold true b p q = q
both_hold false b p q = cc

same_number : (n : ℕ) → nat_eq n n ≡ true
same_number n = grind (arith, nat_tests)

same_numbers : (m n : ℕ) → nat_eq m n ≡ true → m ≡ n
same_numbers m n e = grind (arith, nat_tests)

same_some : (m n : ℕ) → Some m ≡ Some n → m ≡ n
same_some m n e = cc

same_task : (u v : Task) → Some u ≡ Some v → u ≡ v
same_task u v e = cc

-- what the tasks have at a place in range is the task
pub task_is : (f : Flow) (t : ℕ) (tasks : List Task) (u : Task) → t < length f.tasks → tasks ≡ f.tasks → u ≡ get_or tasks t u → u ≡ task_at f t
task_is f t tasks u lt same is = same_task u (task_at f t) (ap (λ (v : Task). Some v) (is ∙ (λ n. get_or (same n) t u)) ∙ sym (slice_get-get_or f.tasks t u lt) ∙ slice_get-get_or f.tasks t no_task lt)

pub is_task : (f : Flow) (t : ℕ) → IsFlow f → t < length f.tasks → IsTask f t (task_at f t)
is_task f t whole lt = whole.tasks t (task_at f t) (slice_get-get_or f.tasks t _ lt)

module _ (f : Flow) (t : ℕ) (whole : IsFlow f) (lt : t < length f.tasks) where
  abbrev c : ℕ
  c = (task_at f t).output

  said : (get_or f.channels c no_channel).based ≡ based_by f.tasks c
  said = (whole.channels c (get_or f.channels c no_channel) (slice_get-get_or f.channels c no_channel (is_task f t whole lt).output)).based

  pub written_anew : (task_at f t).based ≡ true → (get_or f.channels c no_channel).based ≡ true
  written_anew anew = said ∙ list_any_at (λ (u : Task). writes c u && u.based) f.tasks t _ lt (both_hold (writes c (task_at f t)) (task_at f t).based (same_number c) anew)

  -- the task that writes a channel is one
  other : (k : ℕ) → k < length f.tasks → (task_at f t).based ≡ false → (b : Bool) → writes c (task_at f k) ≡ b → (writes c (task_at f k) && (task_at f k).based) ≡ false
  other k low e true here =
      let output : (task_at f k).output ≡ c = same_numbers (task_at f k).output c here in
      let one : k ≡ t = same_some k t (sym (is_task f k whole low).writes ∙ ap (writer_of f.tasks) output ∙ (is_task f t whole lt).writes) in
      ap (λ (b : Bool). b && (task_at f k).based) here ∙ ap (λ (n : ℕ). (task_at f n).based) one ∙ e
  other k low e false here = ap (λ (b : Bool). b && (task_at f k).based) here

  pub written_by_changes : (task_at f t).based ≡ false → (get_or f.channels c no_channel).based ≡ false
  written_by_changes changes = said ∙ list_any_none (λ (u : Task). writes c u && u.based) f.tasks
      (All-from_get_or (λ (u : Task). (writes c u && u.based) ≡ false) f.tasks no_task (λ k low. other k low changes (writes c (task_at f k)) refl))

pub inputs_within : (f : Flow) (t : ℕ) → IsFlow f → t < length f.tasks → All (λ (i : Input). i.channel < length f.channels) (task_at f t).inputs
inputs_within f t whole lt =
    All-from_get_or (λ (i : Input). i.channel < length f.channels) (task_at f t).inputs no_input
    (λ k low. (is_task f t whole lt).inputs k (get_or (task_at f t).inputs k no_input) (slice_get-get_or (task_at f t).inputs k no_input low))

pub first_within : (f : Flow) (t : ℕ) → IsFlow f → t < length f.tasks → length (task_at f t).inputs ≡ 1 → (get_or (task_at f t).inputs 0 no_input).channel < length f.channels
first_within f t whole lt one = All-get_or (λ (i : Input). i.channel < length f.channels) (task_at f t).inputs 0 no_input (omega (arith, one)) (inputs_within f t whole lt)

-- ---- what its runs read

-- each input whole
pub reads_whole : (f : Flow) (t : ℕ) (cat : Entered) (vs : List ℕ) → IsAnew f (task_at f t) → run_reads (edges_of (task_at f t)) cat t vs ≡ whole_reads (task_at f t).inputs vs
reads_whole f t cat vs anew = all_whole f (captured (progress_at cat t).last) 0 (task_at f t).inputs vs anew.whole

-- the main input from its cursor on, the others whole
pub reads_new : (f : Flow) (t : ℕ) (cat : Entered) (p : Plan) (vs : List ℕ) → length vs ≡ length (task_at f t).inputs → IsByRow f (task_at f t) p →
    run_reads (edges_of (task_at f t)) cat t vs ≡ plan_reads cat t p (task_at f t).inputs vs
reads_new f t cat p vs each by_row = first_row_reads f (captured (progress_at cat t).last) (task_at f t).inputs vs (main_of (tree_of_plan p)) each by_row.main

-- what is new of the one input
pub group_reads : (f : Flow) (cursor : ℕ → ℕ) (is : List Input) (vs : List ℕ) → length vs ≡ length is → length is ≡ 1 → IsMain (map (input_of f) is) 0 →
    reads_from cursor 0 (map edge_of is) vs ≡ since (get_or is 0 no_input) (cursor 0) (get_or vs 0 0) ∷ []
group_reads f cursor [] vs each one new = absurd (omega (arith, one))
group_reads f cursor (i ∷ []) [] each one new = absurd (omega (arith, each))
group_reads f cursor (i ∷ []) (v ∷ []) each one new = first_row_reads f cursor (i ∷ []) (v ∷ []) 0 each new
group_reads f cursor (i ∷ []) (v ∷ w ∷ vs) each one new = absurd (omega (arith, each))
group_reads f cursor (i ∷ j ∷ is) vs each one new = absurd (omega (arith, one))

pub reads_one : (f : Flow) (t : ℕ) (cat : Entered) (vs : List ℕ) → length vs ≡ length (task_at f t).inputs → IsByGroup f (task_at f t) →
    run_reads (edges_of (task_at f t)) cat t vs ≡ group_read cat t (task_at f t).inputs vs ∷ []
reads_one f t cat vs each by = group_reads f (captured (progress_at cat t).last) (task_at f t).inputs vs each by.one by.main

-- the one input is the main one
pub first_is_main : (f : Flow) (is : List Input) → length is ≡ 1 → IsMain (map (input_of f) is) 0 → main_place is ≡ 0
first_is_main f [] one new = absurd (omega (arith, one))
first_is_main f (i ∷ []) one new = ap (λ (b : Bool). if b then 0 else 1) (sym (same_new i.mode) ∙ new.0)
first_is_main f (i ∷ j ∷ is) one new = absurd (omega (arith, one))

pub has_at : (f : Flow) (t : ℕ) (q : Pattern) → t < length f.tasks → ((u : Task) → slice_get f.tasks t ≡ Some u → HasPattern f u q) → HasPattern f (task_at f t) q
has_at f t q lt has = has (task_at f t) (slice_get-get_or f.tasks t _ lt)

pub schemas_at : (f : Flow) (t : ℕ) (p : Plan) → t < length f.tasks → ((u : Task) → slice_get f.tasks t ≡ Some u → HasSchemas f u p) → HasSchemas f (task_at f t) p
schemas_at f t p lt has = has (task_at f t) (slice_get-get_or f.tasks t _ lt)
