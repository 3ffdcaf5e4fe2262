-- What is told of the reads of a run is told of the run.
use Rattle.std.proofs.Common.{◌≡◌, inl, inr, ℕ, ◌+◌, ◌≤◌, Bool, true, false, if◌then◌else◌, List, [], ◌∷◌, Option, Some, None, Result, Ok, Err, ap, sym, ◌∙◌, subst, arith}
use Rattle.std.specs.Prelude.{is_some, option_map, slice_get}
use Rattle.std.specs.Result.{IfErr, IfOk, OnOk}
use Rattle.std.proofs.lemmas.List.Sums.{sum_by-cons}
use Rattle.nova_outside.specs.Disk.{Files}
use Rattle.nova_workflow.specs.declared.flow.Channel.{Channel}
use Rattle.nova_admit.specs.Flows.{Admission}
use Rattle.nova_admit.specs.declared.plans.Pattern.{Pattern}
use Rattle.nova_groups.specs.State.{StateValue}
use Rattle.nova_block.specs.declared.fault.BlockFault.{BlockFault}
use Rattle.nova_block.specs.declared.fault.BlockFault.TheVariants.{Disk, Damaged, NoMemory}
use Rattle.nova_group_codec.specs.Sorts.{SortsValue}
use Rattle.nova_meta.specs.declared.progress.StateFile.{StateFile}
use Rattle.nova_meta.specs.Catalog.{Entered}
use Rattle.nova_machine.specs.Workflow.{TaskPlan}
use Rattle.nova_channel.specs.Reading.{block_file}
use Rattle.nova_state.specs.Sorts.{plan_sorts}
use Rattle.nova_state_part.specs.Files.{HoldsPart, DamagedPartAt}
use Rattle.nova_state_part.proofs.Parts.{not_damaged}
use Rattle.nova_execution.specs.Damage.{ExecutionTold, IsRunDamage}
use Rattle.nova_execution.specs.Groups.{IsStateDamage, StateTold, keeps_state, part_file, plan_at, state_file, task_plan}
use Rattle.nova_execution.proofs.Making.{plan_there}
use Rattle.nova_execution.specs.Reads.{AreWhole, IsDamaged, IsReadDamage, OneTold, Read, RunTold, read_size, reads_size}
use Rattle.nova_execution.specs.declared.made.Made.{Made}

module _ (channels : List Channel) (p : TaskPlan) (cat : Entered) (files : Files) (t : ℕ) (reads : List Read) where
  read_told : (fault : BlockFault) → RunTold channels cat files reads fault → ExecutionTold channels p cat files t reads fault
  read_told Disk told = tt
  read_told (Damaged file at) told = inl told
  read_told NoMemory told = tt

  pub told_of_reads : (r : Result Made BlockFault) → IfErr r (RunTold channels cat files reads) → IfErr r (ExecutionTold channels p cat files t reads)
  told_of_reads (Ok x) told = tt
  told_of_reads (Err e) told = read_told e told

  -- without a state there is no other damage
  none_of : (sorts : SortsValue) (part : Option StateFile) (file at : ℕ) → part ≡ None → IsStateDamage sorts part files file at → ⊥
  none_of sorts part file at none bad = subst (λ (o : Option StateFile). IsStateDamage sorts o files file at) none bad

  pub whole_of_reads : state_file p cat t ≡ None → (r : Result Made BlockFault) → OnOk r ((file at : ℕ) → IsReadDamage channels cat files reads file at → ⊥) → OnOk r ((file at : ℕ) → IsRunDamage channels p cat files t reads file at → ⊥)
  whole_of_reads none (Ok x) whole = λ file at bad. elim bad as (λ _. ⊥) [ inl one ↦ whole file at one | inr state ↦ none_of (plan_sorts p.plan) (state_file p cat t) file at none state.1 ]
  whole_of_reads none (Err e) whole = tt

pub more_bytes : (now before size more : ℕ) → now ≤ before + size → now ≤ before + (size + more)
more_bytes now before size more least = omega (arith, least)

-- ---- of a grouping task

module _ (channels : List Channel) (p : TaskPlan) (cat : Entered) (files : Files) (t : ℕ) (read : Read) where
  pub new_told : (fault : BlockFault) → OneTold channels cat files read fault → ExecutionTold channels p cat files t (read ∷ []) fault
  new_told Disk told = tt
  new_told (Damaged file at) told = inl (inl told)
  new_told NoMemory told = tt

  pub state_told : AreWhole channels cat files (read ∷ []) → (fault : BlockFault) → StateTold (plan_sorts p.plan) (state_file p cat t) files fault → ExecutionTold channels p cat files t (read ∷ []) fault
  state_told whole Disk told = tt
  state_told whole (Damaged file at) told = inr (whole, told)
  state_told whole NoMemory told = tt

  pub undamaged_both : ((file at : ℕ) → IsDamaged channels cat files read file at → ⊥) → ((file at : ℕ) → IsStateDamage (plan_sorts p.plan) (state_file p cat t) files file at → ⊥) → (file at : ℕ) → IsRunDamage channels p cat files t (read ∷ []) file at → ⊥
  undamaged_both new state file at (inl (inl bad)) = new file at bad
  undamaged_both new state file at (inl (inr more)) = more.1
  undamaged_both new state file at (inr bad) = state file at bad.1

abbrev or_none : Option (ℕ × ℕ) → ℕ × ℕ
or_none None = (0, 0)
or_none (Some p) = p

part_at : (f : StateFile) (block size : ℕ) → ◌≡◌ {A = Option (ℕ × ℕ)} (Some (f.block, f.size)) (Some (block, size)) → (f.block ≡ block) × (f.size ≡ size)
part_at f block size e = (ap (λ (o : Option (ℕ × ℕ)). (or_none o).0) e, ap (λ (o : Option (ℕ × ℕ)). (or_none o).1) e)

-- a file that spells a state is no damage to it
pub whole_state : (sorts : SortsValue) (part : Option StateFile) (block size : ℕ) (files : Files) (r : Result StateValue BlockFault) → option_map {U = ℕ × ℕ} (λ (f : StateFile). (f.block, f.size)) part ≡ Some (block, size) →
    IfOk r (HoldsPart sorts size (files (block_file block))) → OnOk r ((file at : ℕ) → IsStateDamage sorts part files file at → ⊥)
whole_state sorts None block size files (Ok st) e has = λ file at bad. bad
whole_state sorts (Some f) block size files (Ok st) e has =
    let same = part_at f block size e in
    λ file at bad. not_damaged sorts f.size (files (block_file f.block)) at st (subst (λ (n : ℕ). DamagedPartAt sorts f.size (files n) at) bad.0 bad.1)
    (subst (λ (n : ℕ). HoldsPart sorts n (files (block_file f.block)) st) (sym same.1) (subst (λ (n : ℕ). HoldsPart sorts size (files (block_file n)) st) (sym same.0) has))
whole_state sorts part block size files (Err fault) e has = tt

-- ---- which tasks leave a state

module _ (a : Admission) (t : ℕ) (q : Pattern) (is : slice_get a.patterns t ≡ Some q) where
  plan : plan_at a t ≡ task_plan q
  plan = plan_there a.patterns t q is

  keeps : keeps_state (plan_at a t).pattern ≡ keeps_state (task_plan q).pattern
  keeps = ap (λ (p : TaskPlan). keeps_state p.pattern) plan

  pub no_file : (cat : Entered) → keeps_state (task_plan q).pattern ≡ false → state_file (plan_at a t) cat t ≡ None
  no_file cat none = ap (λ (b : Bool). if b then part_file cat t else None) (keeps ∙ none)

  pub keeps_none : keeps_state (task_plan q).pattern ≡ false → (r : Result Made BlockFault) → IfOk r (λ x. x.state ≡ None) → IfOk r (λ x. is_some x.state ≡ keeps_state (plan_at a t).pattern)
  keeps_none none (Ok x) is_none = ap (λ (o : Option StateValue). is_some o) is_none ∙ sym (keeps ∙ none)
  keeps_none none (Err e) is_none = tt

  pub keeps_some : keeps_state (task_plan q).pattern ≡ true → (r : Result Made BlockFault) → IfOk r (λ x. is_some x.state ≡ true) → IfOk r (λ x. is_some x.state ≡ keeps_state (plan_at a t).pattern)
  keeps_some grouping (Ok x) some = some ∙ sym (keeps ∙ grouping)
  keeps_some grouping (Err e) some = tt

pub one_read : (cat : Entered) (r : Read) (now before more : ℕ) → now ≤ before + (read_size cat r + more) → now ≤ before + (reads_size cat (r ∷ []) + more)
one_read cat r now before more least = let one = sum_by-cons (read_size cat) r [] in omega (arith, least, one)
