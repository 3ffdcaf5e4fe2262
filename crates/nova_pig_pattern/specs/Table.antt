-- The table of patterns, and that of what is wrong with a task: relations with one case a row.
use Rattle.std.specs.Prelude.{◌≡◌, ◌⊎◌, ℕ, zero, suc, ◌<◌, ◌≤◌, Bool, true, false, List, [], ◌∷◌, length, Option, Some, None, Result, Ok, Err}
use Rattle.nova_value.specs.Rows.{Shape}
use Rattle.nova_pig_algebra.specs.Tree.{Tree, Nothing, Load, Filter, Foreach, Grouped, Join, Union, Distinct, Arms, End, Arm}
use Rattle.nova_pig_algebra.specs.Keys.{column_set}
use Rattle.nova_pig_pattern.specs.declared.task.Input.{Input}
use Rattle.nova_pig_pattern.specs.declared.task.PatternKind.{PatternKind}
use Rattle.nova_pig_pattern.specs.declared.task.PatternKind.TheVariants.{NonIncremental, Stateless, Lookup, Stateful}
use Rattle.nova_pig_pattern.specs.declared.task.TaskFault.{TaskFault}
use Rattle.nova_pig_pattern.specs.declared.task.TaskFault.TheVariants.{NoKey, KeyDiffers, BaseReadAsNew, NotAPattern}
use Rattle.nova_pig_pattern.specs.Shapes.{IsChain, IsStateless, IsLookup, IsGrouped}

abbrev mutual
  -- the stored alias reaches the input: it stands on a LOAD of it
  pub Reaches : ℕ → Tree → Type 0
  Reaches input Nothing = ⊥
  Reaches input (Load i) = i ≡ input
  Reaches input (Filter from cond) = Reaches input from
  Reaches input (Foreach from items) = Reaches input from
  Reaches input (Grouped from columns items) = Reaches input from
  Reaches input (Join left left_by right right_by) = Reaches input left ⊎ Reaches input right
  Reaches input (Union arms) = SomeReaches input arms
  Reaches input (Distinct from) = Reaches input from

  pub SomeReaches : ℕ → Arms → Type 0
  SomeReaches input End = ⊥
  SomeReaches input (Arm arm arms) = Reaches input arm ⊎ SomeReaches input arms

-- all inputs are ALL
abbrev pub AreAll : List Input → Type 0
AreAll [] = Unit {0}
AreAll (i ∷ inputs) = (i.is_new ≡ false) × AreAll inputs

-- the input at this place is NEW, all others are ALL
abbrev pub IsMain : List Input → ℕ → Type 0
IsMain [] main = ⊥
IsMain (i ∷ inputs) zero = (i.is_new ≡ true) × AreAll inputs
IsMain (i ∷ inputs) (suc main) = (i.is_new ≡ false) × IsMain inputs main

-- the table: a task's inputs, whether it writes BASE, and the shape of its stored alias
abbrev pub Fits : List Shape → List Input → Bool → Tree → PatternKind → Type 0
Fits shapes inputs based t NonIncremental = AreAll inputs × (based ≡ true)
Fits shapes inputs based t Stateless = (length inputs ≡ 1) × IsMain inputs 0 × (based ≡ false) × IsStateless 0 t
Fits shapes inputs based t Lookup =
    (main : ℕ) × (2 ≤ length inputs) × IsMain inputs main × (based ≡ false) × IsLookup shapes main t × (IsChain main t → ⊥)
Fits shapes inputs based t Stateful = (length inputs ≡ 1) × IsMain inputs 0 × (based ≡ false) × IsGrouped 0 t

-- and each input is reached
pub record IsOfPattern (shapes : List Shape) (inputs : List Input) (based : Bool) (t : Tree) (p : PatternKind) : Type 0 where
  pub reached : (input : ℕ) → input < length inputs → Reaches input t
  pub fits : Fits shapes inputs based t p

-- ---- what is wrong with a task

-- no NEW input is written as BASE
abbrev pub NoneBased : List Input → Type 0
NoneBased [] = Unit {0}
NoneBased (i ∷ inputs) = (i.is_new ≡ true → i.based ≡ true → ⊥) × NoneBased inputs

-- the first NEW input that is written as BASE is of this channel
abbrev pub FirstBased : List Input → ℕ → Type 0
FirstBased [] channel = ⊥
FirstBased (i ∷ inputs) channel =
    ((i.is_new ≡ true) × (i.based ≡ true) × (i.channel ≡ channel))
    ⊎ ((i.is_new ≡ true → i.based ≡ true → ⊥) × FirstBased inputs channel)

-- a task's pattern, or its first fault: by the output's key and the plan's
abbrev pub IsAdmission : List Shape → List Input → Bool → List ℕ → Tree → Option (List ℕ) → Result PatternKind TaskFault → Type 0
IsAdmission shapes inputs based output t key (Err NoKey) = key ≡ None
IsAdmission shapes inputs based output t key (Err KeyDiffers) = (k : List ℕ) × (key ≡ Some k) × (k ≡ column_set output → ⊥)
IsAdmission shapes inputs based output t key (Err (BaseReadAsNew channel)) = (key ≡ Some (column_set output)) × FirstBased inputs channel
IsAdmission shapes inputs based output t key (Err NotAPattern) =
    (key ≡ Some (column_set output)) × NoneBased inputs × ((p : PatternKind) → IsOfPattern shapes inputs based t p → ⊥)
IsAdmission shapes inputs based output t key (Ok p) = (key ≡ Some (column_set output)) × NoneBased inputs × IsOfPattern shapes inputs based t p
