-- What an execution gives, as a store has its task.
use Rattle.std.proofs.Common.{◌≡◌, ℕ, ◌+◌, ◌<◌, ◌≤◌, ◌^◌, Bool, true, false, if◌then◌else◌, List, length, Option, Some, None, Result, Ok, Err, refl, ap, sym, ◌∙◌, subst, arith}
use Rattle.std.specs.Prelude.{is_some, slice_index_or}
use Rattle.std.specs.Bool.{IsTrue}
use Rattle.std.specs.Option.{IfSome}
use Rattle.std.specs.Result.{IfOk, IfErr, OnOk}
use Rattle.nova_outside.specs.Disk.{Files}
use Rattle.nova_outside.specs.History.{Event, current}
use Rattle.nova_block.specs.declared.fault.BlockFault.{BlockFault}
use Rattle.nova_workflow.specs.declared.flow.Flow.{Flow}
use Rattle.nova_admit.specs.Flows.{Admission}
use Rattle.nova_meta.specs.declared.captured.Captured.{Captured}
use Rattle.nova_meta.specs.declared.progress.StateFile.{StateFile}
use Rattle.nova_meta.specs.Catalog.{progress_at}
use Rattle.nova_meta.specs.Named.{State as StatePart}
use Rattle.nova_machine.specs.Workflow.{TaskPlan, Workflow, no_task, plan_in, task_in}
use Rattle.nova_machine.specs.State.{Capture, State}
use Rattle.nova_machine.specs.Steps.{Run}
use Rattle.nova_trigger.specs.Due.{capture_in, task_at}
use Rattle.nova_execution.specs.Damage.{ExecutionTold, IsRunDamage}
use Rattle.nova_execution.specs.Executed.{IsExecuted}
use Rattle.nova_execution.specs.Groups.{file_size, keeps_state, part_file, plan_at, state_file}
use Rattle.nova_execution.specs.Made.{HasTask, IsHeldFor, IsRunOf}
use Rattle.nova_execution.specs.Reads.{HasRoute, Read, edges_of, reads_size, run_reads}
use Rattle.nova_execution.specs.declared.made.Made.{Made}
use Rattle.std.specs.List.{All}
use Rattle.nova_runner.specs.Acts.{IsStepDamage, keeps_in, newest_reads, read_size}
use Rattle.nova_runner.specs.Beginning.{captured_in}
use Rattle.nova_runner.specs.Held.{Held}
use Rattle.nova_runner.specs.Readable.{IsKept}
use Rattle.nova_runner.specs.Runs.{GivesRun, IsGiven}
use Rattle.nova_runner.specs.Texts.{workflow_of}
use Rattle.nova_runner.proofs.Capturing.{captures, held_for, of_admitted}
use Rattle.nova_runner.proofs.Tasks.{as_many, has_task, paths, reads_are}

module _ (store : Held) (t : ℕ) (adm : Admission) (text : List ℕ) (same : workflow_of text adm.flow adm.patterns ≡ store.flow) (run : Captured) (is : run ≡ captured_in store t) (lt : t < length store.flow.tasks) where
  abbrev reads : List Read
  reads = run_reads (edges_of (task_at adm.flow t)) store.catalog t run.versions

  plan : plan_at adm t ≡ plan_in store.flow t
  plan = ap (λ (w : Workflow). plan_in w t) same

  -- in each state of the store it is what the run makes there
  pub gives_run : (h : Bool) (a : List Event) (r : Result Made BlockFault) →
      (IsTrue h → IfOk r (λ x. (s : State) → IsHeldFor adm store.catalog (current a) t run s → IsRunOf s t (capture_in run) x)) → IfOk r (λ x. GivesRun h store t x a)
  gives_run h a (Ok x) made = λ honest commits s stands.
      let low : t < length s.flow.tasks = subst (λ (w : Workflow). t < length w.tasks) stands.flow lt in
      let held = held_for store commits s a stands adm t low (of_admitted adm text store.flow s.flow same stands.flow) in
      let given = made honest s (subst (λ (k : Captured). IsHeldFor adm store.catalog (current a) t k s) (sym is) held) in
      subst (λ (k : Capture). IsRunOf s t k x) (ap (λ (k : Captured). capture_in k) is ∙ captures store commits s a stands t) given
  gives_run h a (Err e) made = tt

  pub given_run : (files : Files) (r : Result Made BlockFault) → IfOk r (IsExecuted adm store.catalog files t run.versions) → IfOk r (IsGiven store t files)
  given_run files (Ok x) made = (adm, (λ i. workflow_of (text_is i) adm.flow adm.patterns) ∙ same, subst (λ (k : Captured). IsExecuted adm store.catalog files t k.versions x) is made)
    where
      text_is : store.flow.text ≡ text
      text_is = ap (λ (w : Workflow). w.text) (sym same)
  given_run files (Err e) made = tt

  -- it leaves a state where the task keeps one
  pub keeps_run : (r : Result Made BlockFault) → IfOk r (λ x. is_some x.state ≡ keeps_state (plan_at adm t).pattern) → IfOk r (λ x. is_some x.state ≡ keeps_in store.flow t)
  keeps_run (Ok x) keeps = keeps ∙ ap (λ (p : TaskPlan). keeps_state p.pattern) plan
  keeps_run (Err e) keeps = tt

  each_read : reads ≡ run_reads (edges_of (task_in store.flow t)) store.catalog t (captured_in store t).versions
  each_read = λ i. run_reads (edges_of (slice_index_or (same i).tasks t no_task)) store.catalog t (is i).versions

  module _ (kept : IsKept store) where
    reads_same : reads ≡ newest_reads store.catalog t
    reads_same = each_read ∙ sym (reads_are store t kept lt)

    pub has_paths : All (HasRoute store.catalog) reads
    has_paths = subst (All (HasRoute store.catalog)) (sym each_read) (paths store t kept lt)

    pub has_its_task : HasTask adm.flow store.catalog t
    has_its_task = subst (λ (f : Flow). HasTask f store.catalog t) (λ i. record { channels = (sym same i).channels; tasks = (sym same i).tasks }) (has_task store t kept lt)

    pub one_each : length run.versions ≡ length (task_at adm.flow t).inputs
    one_each = ap (λ (k : Captured). length k.versions) is ∙ as_many store t kept lt ∙ (λ i. length (slice_index_or (sym same i).tasks t no_task).inputs)

    -- the file of its state has a number
    pub part_low : IfSome (part_file store.catalog t) (λ f. f.block < 2 ^ 62)
    part_low = go (part_file store.catalog t) refl
      where
        go : (o : Option StateFile) → slice_index_or (progress_at store.catalog t).parts 0 None ≡ o → IfSome o (λ f. f.block < 2 ^ 62)
        go None none = tt
        go (Some f) named =
            let below = kept.readable.below (record { content = StatePart t 0; block = f.block; size = f.size }) named in
            let most = kept.readable.sound.bounded.next in
            omega (arith, below, most)

    pub told_same : (files : Files) (r : Result Made BlockFault) → IfErr r (ExecutionTold adm.flow.channels (plan_at adm t) store.catalog files t reads) → IfErr r (ExecutionTold store.flow.channels (plan_in store.flow t) store.catalog files t (newest_reads store.catalog t))
    told_same files r told =
        subst (λ (rs : List Read). IfErr r (ExecutionTold store.flow.channels (plan_in store.flow t) store.catalog files t rs)) reads_same
        (subst (λ (w : Workflow). IfErr r (ExecutionTold w.channels (plan_in w t) store.catalog files t reads)) same told)

    pub whole_same : (files : Files) (r : Result Made BlockFault) → OnOk r ((file at : ℕ) → IsRunDamage adm.flow.channels (plan_at adm t) store.catalog files t reads file at → ⊥) → OnOk r ((file at : ℕ) → IsStepDamage store.flow store.catalog files (Run t) file at → ⊥)
    whole_same files r whole =
        subst (λ (rs : List Read). OnOk r ((file at : ℕ) → IsRunDamage store.flow.channels (plan_in store.flow t) store.catalog files t rs file at → ⊥)) reads_same
        (subst (λ (w : Workflow). OnOk r ((file at : ℕ) → IsRunDamage w.channels (plan_in w t) store.catalog files t reads file at → ⊥)) same whole)

    state_size : (b : Bool) → file_size (if b then part_file store.catalog t else None) ≤ file_size (part_file store.catalog t)
    state_size true = omega arith
    state_size false = omega arith

    pub size_same : (before now : ℕ) → now ≤ before + (reads_size store.catalog reads + file_size (state_file (plan_at adm t) store.catalog t)) → now ≤ before + read_size store.catalog (Run t)
    size_same before now least =
        let state = state_size (keeps_state (plan_at adm t).pattern) in
        let size = ap (λ (rs : List Read). reads_size store.catalog rs) reads_same in
        omega (arith, least, state, size)
