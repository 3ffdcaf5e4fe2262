-- What follows of a workflow from what admission gives.
use Rattle.std.proofs.Common.{◌≡◌, ◌⊎◌, inl, inr, ℕ, zero, suc, ◌<◌, ◌≤◌, Bool, true, false, ◌&&◌, List, [], ◌∷◌, length, map, Some, refl, ap, sym, ◌∙◌, subst, arith, if◌then◌else◌}
use Rattle.std.specs.Prelude.{slice_get, slice_index_or, Result, Ok}
use Rattle.std.proofs.lemmas.Bool.Decides.{nat_tests}
use Rattle.std.proofs.lemmas.List.{get_or_past, length-map}
use Rattle.std.proofs.lemmas.List.Folds.{list_any_at}
use Rattle.nova_value.specs.Rows.{IsShape}
use Rattle.nova_workflow.specs.declared.flow.Flow.{Flow}
use Rattle.nova_workflow.specs.declared.flow.Input.{Input}
use Rattle.nova_workflow.specs.declared.flow.Mode.{Mode}
use Rattle.nova_workflow.specs.declared.flow.Mode.TheVariants as mode
use Rattle.nova_workflow.specs.declared.flow.Task.{Task}
use Rattle.nova_workflow.specs.Whole.{IsChannel, IsFlow, IsTask}
use Rattle.nova_workflow.specs.Writers.{writes}
use Rattle.nova_pig_algebra.specs.Plan.{Plan, tree_of_plan, plan_key}
use Rattle.nova_pig_pattern.specs.declared.task.Input as pattern
use Rattle.nova_pig_pattern.specs.declared.task.PatternKind.{PatternKind}
use Rattle.nova_pig_pattern.specs.declared.task.PatternKind.TheVariants.{NonIncremental, Stateless, Lookup, Stateful}
use Rattle.nova_pig_pattern.specs.declared.task.TaskFault.{TaskFault}
use Rattle.nova_pig_pattern.specs.Shapes.{IsStateless}
use Rattle.nova_pig_pattern.specs.Table.{Fits, IsMain, IsOfPattern, NoneBased}
use Rattle.nova_pig_pattern.proofs.Shaped.{admitted_have}
use Rattle.nova_pig_pattern.proofs.Tabled.{admission_is_the_table, patterns_are_the_table}
use Rattle.nova_admit.specs.Flows.{channel_at, input_of, inputs_of, is_new as seen_new}
use Rattle.nova_admit.specs.Shaped.{IsRowPlan, IsGroupPlan}
use Rattle.nova_machine.specs.Workflow.{Workflow, no_channel, no_task, no_input, channel_in, schema_in, task_in, plan_in, input_in, output_in, is_based, is_new, main_place}
use Rattle.nova_machine.specs.RunLaws.{IsOwned}
use Rattle.nova_machine.specs.Sound.{IsWired}
use Rattle.nova_rowwise.specs.Derived.{main_of}
use Rattle.nova_rowwise.specs.Runs.{IsRowTask}
use Rattle.nova_rowwise.proofs.RowPlans.{main_is_new}
use Rattle.nova_histories.specs.Planned.{flow_in, IsPlannedFlow}

pub at_place : {X : Type 0} (xs : List X) (k : ℕ) (d : X) → k < length xs → slice_get xs k ≡ Some (slice_index_or xs k d)
at_place [] k d lt = absurd (omega (arith, lt))
at_place (x ∷ xs) zero d lt = refl
at_place (x ∷ xs) (suc k) d lt = at_place xs k d (omega (arith, lt))

same_new : (m : Mode) → seen_new m ≡ is_new m
same_new mode.New = refl
same_new mode.All = refl

-- the input that stands as NEW among those of a pattern is the main one
main_there : (f : Flow) (is : List Input) (main : ℕ) → IsMain (map (input_of f) is) main → (main ≡ main_place is) × (main < length is)
main_there f [] main h = absurd h
main_there f (i ∷ is) zero h = (sym (ap (λ b. if b then 0 else suc (main_place is)) (sym (same_new i.mode) ∙ h.0)), omega arith)
main_there f (i ∷ is) (suc main) h =
    let rest = main_there f is main h.1 in
    let within = rest.1 in
    (ap suc rest.0 ∙ sym (ap (λ b. if b then 0 else suc (main_place is)) (sym (same_new i.mode) ∙ h.0)), omega (arith, within))

-- no input that is read as NEW is written anew
none_based : (f : Flow) (is : List Input) (k : ℕ) → NoneBased (map (input_of f) is) → is_new (slice_index_or is k no_input).mode ≡ true → (channel_at f (slice_index_or is k no_input).channel).based ≡ true → ⊥
none_based f [] k none new based = let no : false ≡ true = new in absurd cc
none_based f (i ∷ is) zero none new based = none.0 (same_new i.mode ∙ new) based
none_based f (i ∷ is) (suc k) none new based = none_based f is k none.1 new based

both_hold : (a b : Bool) → a ≡ true → b ≡ true → (a && b) ≡ true
both_hold true b p q = q
both_hold false b p q = absurd cc

not_based : (b : Bool) → (b ≡ true → ⊥) → b ≡ false
not_based true never = absurd (never refl)
not_based false never = refl

pub flow_owned : (w : Workflow) → IsFlow (flow_in w) → IsOwned w
flow_owned w is t lt =
    let task = is.tasks t (task_in w t) (at_place w.tasks t no_task lt) in
    (task.output, (is.channels (output_in w t) (channel_in w (output_in w t)) (at_place w.channels (output_in w t) no_channel task.output)).writer ∙ task.writes)

module _ (w : Workflow) (planned : IsPlannedFlow w) where
  task : (t : ℕ) → t < length w.tasks → IsTask (flow_in w) t (task_in w t)
  task t lt = planned.flow.tasks t (task_in w t) (at_place w.tasks t no_task lt)

  channel : (c : ℕ) → c < length w.channels → IsChannel (flow_in w) c (channel_in w c)
  channel c lt = planned.flow.channels c (channel_in w c) (at_place w.channels c no_channel lt)

  pub shaped : (c : ℕ) → c < length w.channels → IsShape (schema_in w c)
  shaped c lt = (channel c lt).shape

  pub owned : IsOwned w
  owned = flow_owned w planned.flow

  pub input_there : (t k : ℕ) → t < length w.tasks → k < length (task_in w t).inputs → (input_in w t k).channel < length w.channels
  input_there t k lt within = (task t lt).inputs k (input_in w t k) (at_place (task_in w t).inputs k no_input within)

  abbrev seen : ℕ → List pattern.Input
  seen t = inputs_of (flow_in w) (task_in w t)

  abbrev p : ℕ → Plan
  p t = (plan_in w t).plan

  table : (t : ℕ) → t < length w.tasks → NoneBased (seen t) × IsOfPattern (p t).inputs (seen t) (task_in w t).based (tree_of_plan (p t)) (plan_in w t).pattern
  table t lt = let r = (admission_is_the_table (p t).inputs (seen t) (task_in w t).based (p t).output.key (tree_of_plan (p t)) (plan_key (p t)) _).0 (planned.tasks t lt).pattern in (r.1, r.2)

  pub wired : IsWired w
  wired t k new =
      let split : (t < length w.tasks) ⊎ (length w.tasks ≤ t) = grind arith in
      elim split as (λ _. is_based w (input_in w t k).channel ≡ false) [
        | inl lt ↦ not_based (is_based w (input_in w t k).channel) (none_based (flow_in w) (task_in w t).inputs k (table t lt).0 new)
        | inr le ↦ absurd (let no : is_new (input_in w t k).mode ≡ false = ap (λ (u : Task). is_new (slice_index_or u.inputs k no_input).mode) (get_or_past w.tasks t no_task le) in let clash : true ≡ false = sym new ∙ no in cc)
      ]

  -- a task that writes the whole of its output says so of its channel
  pub anew : (t : ℕ) → t < length w.tasks → (plan_in w t).pattern ≡ NonIncremental → is_based w (output_in w t) ≡ true
  anew t lt none =
      let c = output_in w t in
      let based : (task_in w t).based ≡ true = (subst (Fits (p t).inputs (seen t) (task_in w t).based (tree_of_plan (p t))) none (table t lt).1.fits).1 in
      let own : writes c (task_in w t) ≡ true = grind (arith, nat_tests) in
      (channel c (task t lt).output).based ∙ list_any_at (λ (u : Task). writes c u && u.based) w.tasks t no_task lt (both_hold (writes c (task_in w t)) (task_in w t).based own based)

  module _ (t : ℕ) (lt : t < length w.tasks) where
    of_kind : (kind : PatternKind) → (plan_in w t).pattern ≡ kind → Fits (p t).inputs (seen t) (task_in w t).based (tree_of_plan (p t)) kind
    of_kind kind e = subst (Fits (p t).inputs (seen t) (task_in w t).based (tree_of_plan (p t))) e (table t lt).1.fits

    one_input : length (seen t) ≡ 1 → length (task_in w t).inputs ≡ 1
    one_input e = sym (length-map (task_in w t).inputs (input_of (flow_in w))) ∙ e

    row_task : (main : ℕ) → main_of (tree_of_plan (p t)) ≡ main → IsMain (seen t) main → IsRowPlan (p t) → IsRowTask w t
    row_task main is new row =
        let there = main_there (flow_in w) (task_in w t).inputs main new in
        let place : main_place (task_in w t).inputs < length (task_in w t).inputs = subst (λ n. n < length (task_in w t).inputs) there.0 there.1 in
        record {
          plan = (planned.tasks t lt).plan;
          row = row;
          main = is ∙ there.0;
          place = place;
          inputs = (planned.tasks t lt).schemas.inputs;
          output = (planned.tasks t lt).schemas.output;
          shape = shaped _ (input_there t (main_place (task_in w t).inputs) lt place);
        }

    is_new_main : (kind : PatternKind) → (plan_in w t).pattern ≡ kind → (kind ≡ Stateless) ⊎ (kind ≡ Lookup) → IsMain (seen t) (main_of (tree_of_plan (p t)))
    is_new_main kind e which = main_is_new (p t) (seen t) (task_in w t).based kind
        ((patterns_are_the_table (p t).inputs (seen t) (task_in w t).based (tree_of_plan (p t)) kind).1 (subst (IsOfPattern (p t).inputs (seen t) (task_in w t).based (tree_of_plan (p t))) e (table t lt).1)) which

    pub stateless_task : (plan_in w t).pattern ≡ Stateless → IsRowTask w t × IsStateless 0 (tree_of_plan (p t)) × (length (task_in w t).inputs ≡ 1)
    stateless_task e =
        let is = of_kind Stateless e in (
          row_task (main_of (tree_of_plan (p t))) refl (is_new_main Stateless e (inl refl)) (record { key = (planned.tasks t lt).key; shape = inl is.3 }),
          is.3,
          one_input is.0,
        )

    pub lookup_task : (plan_in w t).pattern ≡ Lookup → IsRowTask w t
    lookup_task e =
        let r = admitted_have (p t).inputs (seen t) (task_in w t).based (p t).output.key (tree_of_plan (p t)) (plan_key (p t)) Lookup ((planned.tasks t lt).pattern ∙ ap (λ (k : PatternKind). let r : Result PatternKind TaskFault = Ok k in r) e) in
        row_task (main_of (tree_of_plan (p t))) refl (is_new_main Lookup e (inr refl)) (record { key = (planned.tasks t lt).key; shape = inr r.1 })

    pub group_task : (plan_in w t).pattern ≡ Stateful → IsGroupPlan (p t) × (length (task_in w t).inputs ≡ 1) × (main_place (task_in w t).inputs ≡ 0)
    group_task e =
        let is = of_kind Stateful e in (
          record { key = (planned.tasks t lt).key; shape = is.3 },
          one_input is.0,
          sym (main_there (flow_in w) (task_in w t).inputs 0 is.1).0,
        )
