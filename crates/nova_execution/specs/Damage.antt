-- The damage that a run meets.
use Rattle.std.specs.Prelude.{◌⊎◌, ℕ, List}
use Rattle.nova_outside.specs.Disk.{Files}
use Rattle.nova_workflow.specs.declared.flow.Channel.{Channel}
use Rattle.nova_block.specs.declared.fault.BlockFault.{BlockFault}
use Rattle.nova_block.specs.declared.fault.BlockFault.TheVariants.{Disk, Damaged, NoMemory}
use Rattle.nova_meta.specs.Catalog.{Entered}
use Rattle.nova_machine.specs.Workflow.{TaskPlan}
use Rattle.nova_state.specs.Sorts.{plan_sorts}
use Rattle.nova_execution.specs.Groups.{IsStateDamage, state_file}
use Rattle.nova_execution.specs.Reads.{AreWhole, IsReadDamage, Read}

-- that of the first input on whose path there is one, and where there is none that of the task's state
abbrev pub IsRunDamage : List Channel → TaskPlan → Entered → Files → ℕ → List Read → ℕ → ℕ → Type 0
IsRunDamage channels p cat files t reads file at =
    IsReadDamage channels cat files reads file at
    ⊎ (AreWhole channels cat files reads × IsStateDamage (plan_sorts p.plan) (state_file p cat t) files file at)

-- what is told of a run that made nothing, where the host tells its files
abbrev pub ExecutionTold : List Channel → TaskPlan → Entered → Files → ℕ → List Read → BlockFault → Type 0
ExecutionTold channels p cat files t reads Disk = Unit {0}
ExecutionTold channels p cat files t reads (Damaged file at) = IsRunDamage channels p cat files t reads file at
ExecutionTold channels p cat files t reads NoMemory = Unit {0}
