-- A task of a workflow: its numbers are in range.
use Rattle.std.proofs.Common.{ℕ, ◌<◌, ◌≤◌, List, length, get_or, Option, sym, subst, arith}
use Rattle.std.specs.List.{All}
use Rattle.std.proofs.lemmas.Option.{slice_get-get_or}
use Rattle.std.proofs.lemmas.List.Elements.{All-from_get_or}
use Rattle.nova_workflow.specs.Whole.{IsInTime, IsTask}
use Rattle.nova_workflow.specs.declared.flow.Flow.{Flow}
use Rattle.nova_workflow.specs.declared.flow.Input.{Input}
use Rattle.nova_workflow.specs.declared.flow.Trigger.{Trigger}
use Rattle.nova_workflow.specs.declared.flow.Trigger.TheVariants.{OnData, Every, After}
use Rattle.nova_meta.specs.declared.captured.Captured.{Captured}
use Rattle.nova_meta.specs.Catalog.{Entered}
use Rattle.nova_machine.specs.Workflow.{no_input}
use Rattle.nova_trigger.specs.Due.{IsOneWorkflow, NamesTask, task_at}

in_time : (n tasks : ℕ) (trigger : Trigger) → n < tasks → IsInTime n trigger → NamesTask tasks trigger
in_time n tasks OnData lt is = tt
in_time n tasks (Every period) lt is = tt
in_time n tasks (After task) lt is = omega (arith, lt, is)

-- what is asked of a task by the calls below
pub record IsKnown (flow : Flow) (cat : Entered) (t : ℕ) : Type 0 where
  pub few : length (task_at flow t).inputs ≤ 16
  pub channels : All (λ (i : Input). i.channel < length cat.channels) (task_at flow t).inputs
  pub named : NamesTask (length cat.tasks) (task_at flow t).trigger

pub known : (flow : Flow) (cat : Entered) (slots : List (Option Captured)) (t : ℕ) → IsOneWorkflow flow cat slots → t < length flow.tasks → IsKnown flow cat t
known flow cat slots t one lt = record { few = task.few_inputs; channels = channels; named = named }
  where
    task : IsTask flow t (task_at flow t)
    task = one.whole.tasks t (task_at flow t) (slice_get-get_or flow.tasks t _ lt)

    named : NamesTask (length cat.tasks) (task_at flow t).trigger
    named = subst (λ n. NamesTask n (task_at flow t).trigger) (sym one.tasks) (in_time t (length flow.tasks) (task_at flow t).trigger lt task.trigger)

    channel : (k : ℕ) → k < length (task_at flow t).inputs → (get_or (task_at flow t).inputs k no_input).channel < length cat.channels
    channel k within = subst (λ n. (get_or (task_at flow t).inputs k no_input).channel < n) (sym one.channels)
        (task.inputs k (get_or (task_at flow t).inputs k no_input) (slice_get-get_or (task_at flow t).inputs k no_input within))

    channels : All (λ (i : Input). i.channel < length cat.channels) (task_at flow t).inputs
    channels = All-from_get_or (λ (i : Input). i.channel < length cat.channels) (task_at flow t).inputs no_input channel
