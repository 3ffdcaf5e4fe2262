-- What the laws of this crate say. Each is the contract of a function of `laws`.
use Rattle.std.specs.Prelude.{◌≡◌, ◌↔◌, ◌<◌, ◌^◌, [], ◌∷◌}
use Rattle.std.specs.FinMap as fin
use Rattle.nova_delta.specs.Merge.{RowMap, EntryMap, TableValue, merged, merge_of}
use Rattle.nova_pig_algebra.specs.Plan.{Plan, IsPlan, tree_of_plan, rows_of}
use Rattle.nova_pig_pattern.specs.Shapes.{IsGrouped}
use Rattle.nova_admit.specs.Shaped.{IsGroupPlan}
use Rattle.nova_groups.specs.State.{StateValue}
use Rattle.nova_group_codec.specs.Spelling.{state_bytes}
use Rattle.nova_group_codec.specs.Written.{SpellsState}
use Rattle.nova_state.specs.Plan.{rule_of}
use Rattle.nova_state.specs.Rule.{rows_made}
use Rattle.nova_state.specs.Advance.{IsInputTable, IsStateOf, state_of, stored, delta_of}
use Rattle.nova_state.specs.Sorts.{plan_sorts}

-- the rows that a plan over groups stores of a table are those of its rule
abbrev pub RowsAreGrouped : Type 0
RowsAreGrouped = (p : Plan) → IsGrouped 0 (tree_of_plan p) → (m : RowMap) → rows_of p (fin.values m ∷ []) ≡ rows_made (rule_of p) m

-- the delta leads from the table that the plan stores of a table to that of the merged one, whatever delta it is
abbrev pub GroupsMerge : Type 0
GroupsMerge = (p : Plan) → IsGroupPlan p → (m : RowMap) (d : EntryMap) → merge_of (stored p m) (delta_of p m d) ≡ stored p (merged m d)

-- a state is that of a table exactly where it is the contributions and the groups of the whole table
abbrev pub StatesAreWhole : Type 0
StatesAreWhole = (p : Plan) (st : StateValue) (m : RowMap) → IsStateOf p st m ↔ (st ≡ state_of p m)

-- no rows give neither contributions nor groups
abbrev pub NoRowsNoState : Type 0
NoRowsNoState = (p : Plan) → state_of p fin.empty ≡ record { shares = fin.empty; groups = fin.empty }

-- the state of a table of a plan's input is one of the plan's sorts, so that it has a spelling where its contributions can be counted
abbrev pub StatesFit : Type 0
StatesFit = (p : Plan) → IsPlan p → IsGroupPlan p → (t : TableValue) → IsInputTable p t → fin.len (state_of p t.rows).shares < 2 ^ 64
    → SpellsState (plan_sorts p) (state_bytes (state_of p t.rows)) (state_of p t.rows)
