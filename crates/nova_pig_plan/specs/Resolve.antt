-- The plan of a script, or its first fault.
use Rattle.std.specs.Prelude.{◌≡◌, ℕ, List, map, Option, Some, None, Result, Ok, Err}
use Rattle.nova_value.specs.Rows.{Shape}
use Rattle.nova_pig_tree.specs.declared.statement.Statement.{Statement}
use Rattle.nova_pig_algebra.specs.Plan.{Plan}
use Rattle.nova_pig_plan.specs.declared.fault.Cause.{Cause}
use Rattle.nova_pig_plan.specs.declared.fault.Cause.TheVariants as cause
use Rattle.nova_pig_plan.specs.declared.fault.FaultAt.{FaultAt}
use Rattle.nova_pig_plan.specs.declared.fault.FaultAt.TheVariants as at
use Rattle.nova_pig_plan.specs.declared.fault.PlanFault.{PlanFault}
use Rattle.nova_pig_plan.specs.declared.fault.PlanFault.TheVariants as fault
use Rattle.nova_pig_plan.specs.declared.scope.Channels.{Channels}
use Rattle.nova_pig_plan.specs.declared.scope.Graph.{Graph}
use Rattle.nova_pig_plan.specs.Plans.{graph_of}

-- the schemas of channels
abbrev pub schemas : List (List ℕ × Shape) → List Shape
schemas channels = map (λ c. c.1) channels

-- nodes with the schemas of the channels
abbrev pub plan : Channels → Graph → Plan
plan ch g = record { nodes = g.nodes; stored = g.stored; inputs = schemas ch.inputs; output = ch.output.1 }

-- a fault: its cause, and the number of its statement
abbrev pub Place : Type 0
Place = Cause × ℕ

-- with the schemas of the channels, where there is a plan
abbrev pub with_channels : Channels → Result Graph Place → Result Plan Place
with_channels ch (Ok g) = Ok (plan ch g)
with_channels ch (Err f) = Err f

-- the plan of a script over the channels of a task, or the first fault, statement by statement
abbrev pub plan_of : List Statement → Channels → Result Plan Place
plan_of script ch = with_channels ch (graph_of script ch)

-- what a fault says; want of memory says nothing of the script
abbrev pub said : PlanFault → Option Place
said (fault.UnknownAlias n) = Some (cause.UnknownAlias, n)
said (fault.UnknownField n) = Some (cause.UnknownField, n)
said (fault.Ambiguous n) = Some (cause.Ambiguous, n)
said (fault.WrongType n) = Some (cause.WrongType, n)
said (fault.SchemaDiffers n) = Some (cause.SchemaDiffers, n)
said (fault.UnknownChannel n) = Some (cause.UnknownChannel, n)
said (fault.TooWide n) = Some (cause.TooWide, n)
said (fault.BagMisused n) = Some (cause.BagMisused, n)
said (fault.NoStore n) = Some (cause.NoStore, n)
said (fault.AliasTwice n) = Some (cause.AliasTwice, n)
said fault.NoMemory = None

-- the fault says this cause at this statement
abbrev pub Means : PlanFault → Cause → ℕ → Type 0
Means f c n = said f ≡ Some (c, n)

-- what is said is the first fault
abbrev pub IsFirst : Option Place → Result Plan Place → Type 0
IsFirst None answer = Unit {0}
IsFirst (Some p) answer = answer ≡ Err p

-- a call gives the plan, or the first fault, or finds no memory
abbrev pub GivesPlan : Result Plan PlanFault → Result Plan Place → Type 0
GivesPlan (Ok p) answer = answer ≡ Ok p
GivesPlan (Err f) answer = IsFirst (said f) answer

-- the fault with its number
abbrev pub IsNumbered : FaultAt → PlanFault → Type 0
IsNumbered (at.At c n) f = Means f c n
IsNumbered at.NoMemory f = f ≡ fault.NoMemory
