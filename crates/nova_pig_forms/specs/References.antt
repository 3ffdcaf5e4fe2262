-- Which column a reference names and what a call gathers, one case for each way, and the faults of
-- both, one case for each cause.
use Rattle.std.specs.Prelude.{◌≡◌, ◌≢◌, ℕ, ◌<◌, ◌≤◌, List, [], ◌∷◌, length, Option, Some, None, slice_get}
use Rattle.nova_value.specs.declared.value.Kind.TheVariants as kind
use Rattle.nova_pig_tree.specs.declared.expression.CallKind.{CallKind}
use Rattle.nova_pig_tree.specs.declared.expression.CallKind.TheVariants as call
use Rattle.nova_pig_tree.specs.declared.expression.Field.{Field}
use Rattle.nova_pig_tree.specs.declared.expression.Field.TheVariants as field
use Rattle.nova_pig_algebra.specs.declared.node.PlanExpr.{PlanExpr}
use Rattle.nova_pig_algebra.specs.declared.node.PlanExpr.TheVariants as p
use Rattle.nova_pig_algebra.specs.declared.node.Sort.{Sort}
use Rattle.nova_pig_algebra.specs.declared.node.Sort.TheVariants.{Of}
use Rattle.nova_pig_plan.specs.declared.fault.Cause.{Cause}
use Rattle.nova_pig_plan.specs.declared.fault.Cause.TheVariants.{UnknownField, Ambiguous, WrongType, BagMisused}
use Rattle.nova_pig_plan.specs.declared.scope.ScopeColumn.{ScopeColumn}
use Rattle.nova_pig_plan.specs.declared.scope.Scope.{Scope}
use Rattle.nova_pig_plan.specs.declared.scope.Scope.TheVariants.{Rows, Group}
use Rattle.nova_pig_plan.specs.Exprs.{long, group_name}

-- the column has this name
abbrev pub HasName : List ℕ → ScopeColumn → Type 0
HasName name c = c.name ≡ Some name

-- the column has this name, and this alias as its origin
abbrev pub ComesFrom : List ℕ → List ℕ → ScopeColumn → Type 0
ComesFrom alias name c = (c.origin ≡ Some alias) × (c.name ≡ Some name)

-- the column at place k fits, and no other does
pub record IsOnly (Fits : ScopeColumn → Type 0) (cs : List ScopeColumn) (k : ℕ) (c : ScopeColumn) : Type 0 where
  pub at : slice_get cs k ≡ Some c
  pub fits : Fits c
  pub only : (j : ℕ) (d : ScopeColumn) → slice_get cs j ≡ Some d → Fits d → j ≡ k

-- no column fits
abbrev pub NoneFits : (ScopeColumn → Type 0) → List ScopeColumn → Type 0
NoneFits Fits cs = (j : ℕ) (d : ScopeColumn) → slice_get cs j ≡ Some d → Fits d → ⊥

-- more than one column fits
pub data SeveralFit (Fits : ScopeColumn → Type 0) (cs : List ScopeColumn) : Type 0 where
  several : {j k : ℕ} {c d : ScopeColumn} → j ≢ k → slice_get cs j ≡ Some c → Fits c → slice_get cs k ≡ Some d → Fits d → SeveralFit Fits cs

-- `f` is the one column named f; `A::f` the one named f with origin A; `$n` the column at n, from 0
pub data Names (cs : List ScopeColumn) : Field → ℕ → ScopeColumn → Type 0 where
  plain : {name : List ℕ} {k : ℕ} {c : ScopeColumn} → IsOnly (HasName name) cs k c → Names cs (field.Plain name) k c
  of : {alias name : List ℕ} {k : ℕ} {c : ScopeColumn} → IsOnly (ComesFrom alias name) cs k c → Names cs (field.Of alias name) k c
  at : {n : ℕ} {c : ScopeColumn} → slice_get cs n ≡ Some c → Names cs (field.At n) n c

pub data NameFails (cs : List ScopeColumn) : Field → Cause → Type 0 where
  -- a reference names no column; `group.f` names none but over a group
  none : {name : List ℕ} → NoneFits (HasName name) cs → NameFails cs (field.Plain name) UnknownField
  none_of : {alias name : List ℕ} → NoneFits (ComesFrom alias name) cs → NameFails cs (field.Of alias name) UnknownField
  beyond : {n : ℕ} → length cs ≤ n → NameFails cs (field.At n) UnknownField
  of_group : {name : List ℕ} → NameFails cs (field.GroupOf name) UnknownField
  -- a name fits more than one column
  several : {name : List ℕ} → SeveralFit (HasName name) cs → NameFails cs (field.Plain name) Ambiguous
  several_of : {alias name : List ℕ} → SeveralFit (ComesFrom alias name) cs → NameFails cs (field.Of alias name) Ambiguous

-- over a group: `group` and `$0` are its one BY column, and `group.f` is the BY column named f
pub data NamesGroup (by : List ScopeColumn) : Field → ℕ → ScopeColumn → Type 0 where
  group : {c : ScopeColumn} → by ≡ c ∷ [] → NamesGroup by (field.Plain group_name) 0 c
  first : {c : ScopeColumn} → by ≡ c ∷ [] → NamesGroup by (field.At 0) 0 c
  part : {name : List ℕ} {k : ℕ} {c : ScopeColumn} → IsOnly (HasName name) by k c → NamesGroup by (field.GroupOf name) k c

pub data GroupFails (bag : List ℕ) (by : List ScopeColumn) : Field → Cause → Type 0 where
  -- `$1`, or a field that is the bag's name
  bag : bag ≢ group_name → GroupFails bag by (field.Plain bag) BagMisused
  second : GroupFails bag by (field.At 1) BagMisused
  -- neither a reference nor the bag's name
  none : {name : List ℕ} → name ≢ group_name → name ≢ bag → GroupFails bag by (field.Plain name) UnknownField
  of : {alias name : List ℕ} → GroupFails bag by (field.Of alias name) UnknownField
  no_part : {name : List ℕ} → NoneFits (HasName name) by → GroupFails bag by (field.GroupOf name) UnknownField
  beyond : {n : ℕ} → 1 < n → GroupFails bag by (field.At n) UnknownField
  -- a name fits more than one BY column
  several : {name : List ℕ} → SeveralFit (HasName name) by → GroupFails bag by (field.GroupOf name) Ambiguous
  -- `group` alone with several BY columns
  group : length by ≢ 1 → GroupFails bag by (field.Plain group_name) WrongType
  first : length by ≢ 1 → GroupFails bag by (field.At 0) WrongType

-- what a reference outside a call is in the plan, and the column that it names
pub data Refers : Scope → Field → PlanExpr → ScopeColumn → Type 0 where
  rows : {cs : List ScopeColumn} {f : Field} {k : ℕ} {c : ScopeColumn} → Names cs f k c → Refers (Rows cs) f (p.Column k) c
  groups : {bag : List ℕ} {by cs : List ScopeColumn} {f : Field} {k : ℕ} {c : ScopeColumn} → NamesGroup by f k c → Refers (Group bag by cs) f (p.GroupColumn k) c

pub data RefFails : Scope → Field → Cause → Type 0 where
  rows : {cs : List ScopeColumn} {f : Field} {cause : Cause} → NameFails cs f cause → RefFails (Rows cs) f cause
  groups : {bag : List ℕ} {by cs : List ScopeColumn} {f : Field} {cause : Cause} → GroupFails bag by f cause → RefFails (Group bag by cs) f cause

-- COUNT takes the bag or a column of it and gives a long; SUM takes a long column; MIN and MAX a column of either
-- kind, and give that kind. The field after the dot names a column of the grouped alias's source.
pub data Calls : Scope → CallKind → List ℕ → Option Field → PlanExpr → Sort → Type 0 where
  count : {bag : List ℕ} {by cs : List ScopeColumn} → Calls (Group bag by cs) call.Count bag None (p.Agg call.Count None) long
  count_of : {bag : List ℕ} {by cs : List ScopeColumn} {f : Field} {k : ℕ} {c : ScopeColumn} → Names cs f k c → Calls (Group bag by cs) call.Count bag (Some f) (p.Agg call.Count (Some k)) long
  sum_of : {bag : List ℕ} {by cs : List ScopeColumn} {f : Field} {k : ℕ} {c : ScopeColumn} → Names cs f k c → c.kind ≡ kind.Long → Calls (Group bag by cs) call.Sum bag (Some f) (p.Agg call.Sum (Some k)) long
  min_of : {bag : List ℕ} {by cs : List ScopeColumn} {f : Field} {k : ℕ} {c : ScopeColumn} → Names cs f k c → Calls (Group bag by cs) call.Min bag (Some f) (p.Agg call.Min (Some k)) (Of c.kind)
  max_of : {bag : List ℕ} {by cs : List ScopeColumn} {f : Field} {k : ℕ} {c : ScopeColumn} → Names cs f k c → Calls (Group bag by cs) call.Max bag (Some f) (p.Agg call.Max (Some k)) (Of c.kind)

-- BagMisused comes first, then the call's field, then WrongType
pub data CallFails : Scope → CallKind → List ℕ → Option Field → Cause → Type 0 where
  -- a call over an alias that isn't grouped, as in FILTER
  rows : {cs : List ScopeColumn} {k : CallKind} {alias : List ℕ} {f : Option Field} → CallFails (Rows cs) k alias f BagMisused
  -- a call whose first name isn't the bag's
  other : {bag : List ℕ} {by cs : List ScopeColumn} {k : CallKind} {alias : List ℕ} {f : Option Field} → alias ≢ bag → CallFails (Group bag by cs) k alias f BagMisused
  name : {bag : List ℕ} {by cs : List ScopeColumn} {k : CallKind} {f : Field} {cause : Cause} → NameFails cs f cause → CallFails (Group bag by cs) k bag (Some f) cause
  -- SUM of a text column; SUM, MIN or MAX without a field
  sum_of_text : {bag : List ℕ} {by cs : List ScopeColumn} {f : Field} {k : ℕ} {c : ScopeColumn} → Names cs f k c → c.kind ≡ kind.Text → CallFails (Group bag by cs) call.Sum bag (Some f) WrongType
  without : {bag : List ℕ} {by cs : List ScopeColumn} {k : CallKind} → k ≢ call.Count → CallFails (Group bag by cs) k bag None WrongType
