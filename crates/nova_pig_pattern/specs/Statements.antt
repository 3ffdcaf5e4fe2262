-- What the laws of this crate say.
use Rattle.std.specs.Prelude.{◌≡◌, ◌↔◌, ℕ, Bool, true, List, Option, Some, Result, Ok}
use Rattle.std.specs.Bool.{Decides}
use Rattle.nova_value.specs.Rows.{Shape}
use Rattle.nova_pig_algebra.specs.Tree.{Tree}
use Rattle.nova_pig_pattern.specs.Shapes.{IsChain, IsStateless, IsLookup, IsGrouped}
use Rattle.nova_pig_pattern.specs.declared.task.Input.{Input}
use Rattle.nova_pig_pattern.specs.declared.task.PatternKind.{PatternKind}
use Rattle.nova_pig_pattern.specs.declared.task.PatternKind.TheVariants.{NonIncremental, Stateless, Lookup, Stateful}
use Rattle.nova_pig_pattern.specs.declared.task.TaskFault.{TaskFault}
use Rattle.nova_pig_algebra.specs.Keys.{column_set}
use Rattle.nova_pig_pattern.specs.Patterns.{pattern_of, admission_of}
use Rattle.nova_pig_pattern.specs.Table.{IsOfPattern, IsAdmission}
use Rattle.nova_pig_pattern.specs.Tests.{has_join, chain_of, is_this, is_stateless, is_lookup, is_grouped}

abbrev pub ChainsAreTested : Type 0
ChainsAreTested = (input : ℕ) (t : Tree) → Decides (is_this input (chain_of t)) (IsChain input t)

abbrev pub StatelessIsTested : Type 0
StatelessIsTested = (input : ℕ) (t : Tree) → Decides (is_stateless input t) (IsStateless input t)

abbrev pub LookupIsTested : Type 0
LookupIsTested = (inputs : List Shape) (main : ℕ) (t : Tree) → Decides (is_lookup inputs main t) (IsLookup inputs main t)

abbrev pub GroupedIsTested : Type 0
GroupedIsTested = (input : ℕ) (t : Tree) → Decides (is_grouped input t) (IsGrouped input t)

-- the shape of a pattern, over the main input where it has one
abbrev pub HasShape : List Shape → PatternKind → Tree → Type 0
HasShape shapes NonIncremental t = Unit {0}
HasShape shapes Stateless t = IsStateless 0 t
HasShape shapes Lookup t = (main : ℕ) × IsLookup shapes main t × (has_join t ≡ true)
HasShape shapes Stateful t = IsGrouped 0 t

-- the plan of a task of a pattern has its shape
abbrev pub PatternsHaveShapes : Type 0
PatternsHaveShapes = (shapes : List Shape) (inputs : List Input) (based : Bool) (t : Tree) (p : PatternKind) → pattern_of shapes inputs based t ≡ Some p → HasShape shapes p t

-- the plan of a task that is admitted has the output's key, and its pattern's shape
abbrev pub AdmittedHaveShapes : Type 0
AdmittedHaveShapes = (shapes : List Shape) (inputs : List Input) (based : Bool) (output : List ℕ) (t : Tree) (key : Option (List ℕ)) (p : PatternKind)
    → admission_of shapes inputs based output t key ≡ Ok p → (key ≡ Some (column_set output)) × HasShape shapes p t

-- a task's pattern is that of the table, and there is one where the table has it
abbrev pub PatternsAreTheTable : Type 0
PatternsAreTheTable = (shapes : List Shape) (inputs : List Input) (based : Bool) (t : Tree) (p : PatternKind) → (pattern_of shapes inputs based t ≡ Some p) ↔ IsOfPattern shapes inputs based t p

-- a task's first fault is that of the table, each cause exactly where the table has it
abbrev pub AdmissionIsTheTable : Type 0
AdmissionIsTheTable = (shapes : List Shape) (inputs : List Input) (based : Bool) (output : List ℕ) (t : Tree) (key : Option (List ℕ)) (r : Result PatternKind TaskFault)
    → (admission_of shapes inputs based output t key ≡ r) ↔ IsAdmission shapes inputs based output t key r
