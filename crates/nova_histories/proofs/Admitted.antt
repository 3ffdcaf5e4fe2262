-- An admitted workflow is planned.
use Rattle.std.proofs.Common.{◌≡◌, ℕ, zero, suc, ◌<◌, Bool, true, false, List, [], ◌∷◌, length, map, refl, ap, sym, ◌∙◌, subst, arith}
use Rattle.std.specs.Prelude.{slice_index_or, Result, Ok, Err}
use Rattle.std.specs.List.{AllByRecursion}
use Rattle.nova_workflow.specs.declared.flow.Flow.{Flow}
use Rattle.nova_workflow.specs.declared.flow.Task.{Task}
use Rattle.nova_pig_algebra.specs.Plan.{IsPlan}
use Rattle.nova_pig_pattern.specs.OutputKey.{HasOutputKey}
use Rattle.nova_pig_pattern.specs.declared.task.PatternKind.{PatternKind}
use Rattle.nova_pig_pattern.specs.declared.task.TaskFault.{TaskFault}
use Rattle.nova_admit.specs.Flows.{HasPattern, HasSchemas, HavePatterns, inputs_of, told}
use Rattle.nova_admit.specs.TaskPlans.{admitted, kind_of, plan_of}
use Rattle.nova_admit.specs.declared.plans.Pattern.{Pattern}
use Rattle.nova_admit.proofs.Schemas.{has_schemas}
use Rattle.nova_machine.specs.Workflow.{TaskPlan, no_plan, no_task, task_in}
use Rattle.nova_histories.specs.Planned.{AdmittedArePlanned, IsPlannedTask, flow_in, task_plan}

-- the pattern that is told is that of the admission
of_told : (f : Flow) (name : List ℕ) (r : Result PatternKind TaskFault) (kind : PatternKind) → told f name r ≡ Ok kind → r ≡ Ok kind
of_told f name (Err fault) kind e = absurd cc
of_told f name (Ok k) kind e = let same : k ≡ kind = cc in ap (λ (x : PatternKind). let r : Result PatternKind TaskFault = Ok x in r) same

record HasPlan (f : Flow) (t : Task) (p : TaskPlan) : Type 0 where
  pattern : Pattern
  has : HasPattern f t pattern
  plan : IsPlan (plan_of pattern)
  is : p ≡ task_plan pattern

plan_at : (f : Flow) (ts : List Task) (qs : List Pattern) (t : ℕ) → HavePatterns f ts qs → AllByRecursion (λ q. IsPlan (plan_of q)) qs → t < length ts → HasPlan f (slice_index_or ts t no_task) (slice_index_or (map task_plan qs) t no_plan)
plan_at f [] qs t have are lt = absurd (omega (arith, lt))
plan_at f (u ∷ ts) [] t have are lt = absurd have
plan_at f (u ∷ ts) (q ∷ qs) zero have are lt = record { pattern = q; has = have.0; plan = are.0; is = refl }
plan_at f (u ∷ ts) (q ∷ qs) (suc t) have are lt = plan_at f ts qs t have.1 are.1 (omega (arith, lt))

pub admitted_are_planned : AdmittedArePlanned
admitted_are_planned w qs is = record { flow = is.flow; tasks = task }
  where
    task : (t : ℕ) → t < length w.tasks → IsPlannedTask w t
    task t lt =
        let p = plan_at (flow_in w) w.tasks qs t is.patterns is.plans lt in
        let here : slice_index_or w.plans t no_plan ≡ task_plan p.pattern = ap (λ (ps : List TaskPlan). slice_index_or ps t no_plan) is.is ∙ p.is in
        record {
          plan = subst (λ (x : TaskPlan). IsPlan x.plan) (sym here) p.plan;
          schemas = subst (λ (x : TaskPlan). HasSchemas (flow_in w) (task_in w t) x.plan) (sym here) (has_schemas (flow_in w) (task_in w t) (plan_of p.pattern) p.has.plan);
          key = subst (λ (x : TaskPlan). HasOutputKey x.plan) (sym here) p.has.key;
          pattern = subst (λ (x : TaskPlan). admitted x.plan (inputs_of (flow_in w) (task_in w t)) (task_in w t).based ≡ Ok x.pattern) (sym here)
              (of_told (flow_in w) (task_in w t).name (admitted (plan_of p.pattern) (inputs_of (flow_in w) (task_in w t)) (task_in w t).based) (kind_of p.pattern) p.has.kind);
        }
