-- What is executed is the block of the run.
use Rattle.std.proofs.Common.{◌≡◌, inl, inr, ℕ, ◌<◌, Bool, false, if◌then◌else◌, List, length, get_or, Option, Some, None, Result, Ok, Err, refl, ap, sym, ◌∙◌}
use Rattle.std.specs.Prelude.{slice_get}
use Rattle.std.proofs.lemmas.Option.{slice_get-get_or}
use Rattle.nova_outside.specs.Disk.{Files}
use Rattle.nova_block.specs.declared.fault.BlockFault.{BlockFault}
use Rattle.std.specs.Result.{IfOk}
use Rattle.nova_workflow.specs.declared.flow.Task.{Task}
use Rattle.nova_workflow.specs.Whole.{IsFlow}
use Rattle.nova_admit.specs.Flows.{Admission, HasPattern}
use Rattle.nova_admit.specs.declared.plans.Pattern.{Pattern}
use Rattle.nova_admit.specs.declared.plans.Pattern.TheVariants.{N, S, L, F}
use Rattle.nova_admit.proofs.Patterned.{pattern_at}
use Rattle.nova_admit.proofs.Schemas.{has_schemas}
use Rattle.nova_meta.specs.declared.captured.Captured.{Captured}
use Rattle.nova_meta.specs.Catalog.{Entered}
use Rattle.nova_groups.specs.State.{StateValue}
use Rattle.nova_machine.specs.State.{State}
use Rattle.nova_trigger.specs.Due.{capture_in, task_at}
use Rattle.nova_machine.specs.Workflow.{TaskPlan, main_place, no_plan, plan_in, task_in}
use Rattle.nova_machine.specs.Due.{seen_at}
use Rattle.nova_execution.specs.Executed.{IsExecuted, IsExecutedBy}
use Rattle.nova_execution.specs.Groups.{keeps_state, run_state, state_at, task_plan}
use Rattle.nova_execution.specs.Laws.{ExecutionsAreRuns}
use Rattle.nova_execution.specs.Made.{IsHeldFor, IsRunOf}
use Rattle.nova_execution.specs.declared.made.Made.{Made}
use Rattle.nova_execution.proofs.Admission.{is_anew, is_by_group, is_by_row, written_by_changes}
use Rattle.nova_execution.proofs.Deriving.{derived_in}
use Rattle.nova_execution.proofs.Making.{made_in, plan_there}
use Rattle.nova_execution.proofs.Grouping.{advanced_in}

module _ (a : Admission) (cat : Entered) (files : Files) (t : ℕ) (run : Captured) (s : State) (x : Made)
    (whole : IsFlow a.flow) (lt : t < length a.flow.tasks) (each : length run.versions ≡ length (task_at a.flow t).inputs) (held : IsHeldFor a cat files t run s) where
  abbrev u : Task
  u = task_at a.flow t

  -- a task of another pattern leaves no state
  leaves_none : (q : Pattern) → slice_get a.patterns t ≡ Some q → keeps_state (task_plan q).pattern ≡ false → x.state ≡ None → x.state ≡ run_state s t (capture_in run)
  leaves_none q is none e =
      let plan : plan_in s.flow t ≡ task_plan q = ap (λ (ps : List TaskPlan). get_or ps t no_plan) held.flow.plans ∙ plan_there a.patterns t q is in
      e ∙ sym (ap (λ (b : Bool). let o : Option StateValue = if b then Some (state_at s t (seen_at (capture_in run) (main_place (task_in s.flow t).inputs))) else None in o) (ap (λ (p : TaskPlan). keeps_state p.pattern) plan ∙ none))

  by_pattern : (q : Pattern) → HasPattern a.flow u q → slice_get a.patterns t ≡ Some q → IsExecutedBy q a.flow cat files t run.versions x → IsRunOf s t (capture_in run) x
  by_pattern (N p) has is made =
      (made.0.is ∙ made_in a cat files t run p made.0.tables whole lt is (has_schemas a.flow u p has.plan) (is_anew a.flow u (N p) has refl) made.0.are s held, leaves_none (N p) is refl made.1)
  by_pattern (S p) has is made =
      let row = is_by_row a.flow u (S p) has (inl refl) in
      (derived_in a cat files t run (S p) (inl refl) lt is each row.main (written_by_changes a.flow t whole lt row.changes) s held x.block made.0, leaves_none (S p) is refl made.1)
  by_pattern (L p) has is made =
      let row = is_by_row a.flow u (L p) has (inr refl) in
      (derived_in a cat files t run (L p) (inr refl) lt is each row.main (written_by_changes a.flow t whole lt row.changes) s held x.block made.0, leaves_none (L p) is refl made.1)
  by_pattern (F p) has is made =
      let by = is_by_group a.flow u (F p) has refl in
      advanced_in a cat files t run p lt is each by (written_by_changes a.flow t whole lt by.changes) s held x made.0 made.1 made.2

pub executions_are_runs : ExecutionsAreRuns
executions_are_runs a cat files t run s x whole have lt each held made =
    by_pattern a cat files t run s x whole lt each held made.0 (pattern_at a.flow a.flow.tasks a.patterns t (task_at a.flow t) made.0 have (slice_get-get_or a.flow.tasks t _ lt) made.1) made.1 made.2

-- so it is with what a call gives
pub run_if : (a : Admission) (cat : Entered) (files : Files) (t : ℕ) (run : Captured) (q : Pattern) → IsFlow a.flow → t < length a.flow.tasks → length run.versions ≡ length (task_at a.flow t).inputs →
    HasPattern a.flow (task_at a.flow t) q → slice_get a.patterns t ≡ Some q → (r : Result Made BlockFault) → IfOk r (IsExecutedBy q a.flow cat files t run.versions) → IfOk r (λ x. (s : State) → IsHeldFor a cat files t run s → IsRunOf s t (capture_in run) x)
run_if a cat files t run q whole lt each has is (Ok x) made = λ s held. by_pattern a cat files t run s x whole lt each held q has is made
run_if a cat files t run q whole lt each has is (Err e) made = tt

pub executed_if : (a : Admission) (cat : Entered) (files : Files) (t : ℕ) (vs : List ℕ) (q : Pattern) → slice_get a.patterns t ≡ Some q →
    (r : Result Made BlockFault) → IfOk r (IsExecutedBy q a.flow cat files t vs) → IfOk r (IsExecuted a cat files t vs)
executed_if a cat files t vs q pattern (Ok x) made = (q, pattern, made)
executed_if a cat files t vs q pattern (Err e) made = tt
