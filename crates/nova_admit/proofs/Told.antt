-- The pattern of a task of an admitted workflow, by its number.
use Rattle.std.specs.Prelude.{◌≡◌, ℕ, ◌<◌, List, length, slice_get, Some, refl}
use Rattle.std.proofs.Common.{get_or, ap, sym, ◌∙◌, subst}
use Rattle.std.proofs.lemmas.Option.{slice_get_read}
use Rattle.nova_workflow.specs.declared.flow.Task.{Task}
use Rattle.nova_admit.specs.declared.plans.Pattern.{Pattern}
use Rattle.nova_admit.specs.TaskPlans.{plan_of}
use Rattle.nova_admit.specs.Flows.{Admission, HavePatterns, HasPattern, HasSchemas}
use Rattle.nova_admit.proofs.Patterned.{same_count, pattern_at}
use Rattle.nova_admit.proofs.Schemas.{has_schemas}

-- an admission, what is seen of it, and the number of a task
module _ (a b : Admission) (task : ℕ) (seen : a ≡ b) (have : HavePatterns a.flow a.flow.tasks a.patterns) (less : task < length b.flow.tasks) where
  pub within : task < length a.patterns
  within = subst (λ (n : ℕ). task < n) (same_count a.flow a.flow.tasks a.patterns have) (subst (λ (z : Admission). task < length z.flow.tasks) (sym seen) less)

  place : (ps : List Pattern) (q : Pattern) → ps ≡ a.patterns → q ≡ get_or ps task q → slice_get a.patterns task ≡ Some q
  place ps q same is = slice_get_read a.patterns (length a.patterns) task q refl within (subst (λ (zs : List Pattern). q ≡ get_or zs task q) same is)

  pub found : (ps : List Pattern) (q : Pattern) → ps ≡ a.patterns → q ≡ get_or ps task q → slice_get b.patterns task ≡ Some q
  found ps q same is = ap (λ (z : Admission). slice_get z.patterns task) (sym seen) ∙ place ps q same is

  pub has_pattern : (ps : List Pattern) (q : Pattern) → ps ≡ a.patterns → q ≡ get_or ps task q → (t : Task) → slice_get b.flow.tasks task ≡ Some t → HasPattern b.flow t q
  has_pattern ps q same is t =
      subst (λ (z : Admission). slice_get z.flow.tasks task ≡ Some t → HasPattern z.flow t q) seen (λ g. pattern_at a.flow a.flow.tasks a.patterns task t q have g (place ps q same is))

  pub over_schemas : (ps : List Pattern) (q : Pattern) → ps ≡ a.patterns → q ≡ get_or ps task q → (t : Task) → slice_get b.flow.tasks task ≡ Some t → HasSchemas b.flow t (plan_of q)
  over_schemas ps q same is t g = has_schemas b.flow t (plan_of q) (has_pattern ps q same is t g).plan
