-- What `advance` makes of the state of a table and a delta.
use Rattle.std.specs.Prelude.{◌≡◌, ℕ, ◌<◌, Bool, if◌then◌else◌, List, [], ◌∷◌, ◌++◌, flat_map, Option, Some, None}
use Rattle.std.specs.FinMap as fin
use Rattle.nova_value.specs.declared.schema.Entry.{Entry}
use Rattle.nova_value.specs.declared.schema.Entry.TheVariants.{Put, Removal}
use Rattle.nova_value.specs.Rows.{Shape}
use Rattle.nova_delta.specs.Tabulated.{tabulated}
use Rattle.nova_delta.specs.Merge.{RowMap, EntryMap, TableValue, DeltaValue, IsTable, merged}
use Rattle.nova_delta.specs.Seen.{with_entry, table_of}
use Rattle.nova_pig_algebra.specs.Meaning.{Row}
use Rattle.nova_pig_algebra.specs.Plan.{Plan, rows_of}
use Rattle.nova_pig_pattern.specs.OutputKeys.{group_keys}
use Rattle.nova_groups.specs.State.{StateValue, GroupMap, and_then, row_put}
use Rattle.nova_groups.specs.State as steps
use Rattle.nova_groups.specs.Parts.{part, part_count, part_of, slot}
use Rattle.nova_state.specs.Rule.{GroupRule, share_of, kepts, entry_of, row_from}
use Rattle.nova_state.specs.Plan.{rule_of}
use Rattle.nova_state.specs.Fit.{fits_row, fits_key}

-- the state of a table of the plan's input
abbrev pub state_of : Plan → RowMap → StateValue
state_of p m = steps.state_of (share_of (rule_of p)) (kepts (rule_of p)) m

-- a state is that of a table: each part that it holds is that part of the table's state
abbrev pub IsStateOf : Plan → StateValue → RowMap → Type 0
IsStateOf p st m = (s : ℕ) → s < part_count → (held : StateValue) → slot s st ≡ Some held → held ≡ part_of part s (state_of p m)

-- a table of the plan's one input
pub record IsInputTable (p : Plan) (t : TableValue) : Type 0 where
  pub table : IsTable t
  pub schema : p.inputs ≡ t.schema ∷ []

-- the table that the plan stores of a table of its input, from scratch
abbrev pub stored : Plan → RowMap → TableValue
stored p m = table_of p.output (rows_of p (fin.values m ∷ []))

abbrev pub row_list : Option Row → List Row
row_list None = []
row_list (Some row) = row ∷ []

-- the output keys of the old and of the new group of each key of a delta, as far as the rows pass to the GROUP
abbrev pub written : Plan → RowMap → List (Row × Entry) → List Row
written p m es = flat_map (λ e. group_keys p (row_list (fin.get m e.0)) ++ group_keys p (row_list (row_put e.1))) es

-- at each of these keys the row of the table that the plan stores of the merged table, or a removal
unfoldable pub delta_of : Plan → RowMap → EntryMap → DeltaValue
delta_of p m d = record { schema = p.output; entries = tabulated (written p m (fin.entries d)) (λ q. Some (entry_of q (fin.get (stored p (merged m d)).rows q))) }

-- ---- entry after entry
abbrev pub fits_entry : Shape → Entry → Bool
fits_entry s (Put row) = fits_row s row
fits_entry s (Removal key) = fits_key s key

-- the delta with the entry, where this fits
abbrev pub answered : DeltaValue → Entry → DeltaValue
answered d e = if fits_entry d.schema e then with_entry d e else d

abbrev pub answer_entry : GroupRule → (Row → Row) → GroupMap → Row → Entry
answer_entry p key_of gs by = entry_of (key_of by) (and_then (fin.get gs by) (row_from p by))

-- the entries of these groups, from the last to the first
abbrev pub answer_all : Shape → GroupRule → (Row → Row) → GroupMap → DeltaValue → List Row → DeltaValue
answer_all s p key_of gs d [] = d
answer_all s p key_of gs d (by ∷ bys) = answered (answer_all s p key_of gs d bys) (answer_entry p key_of gs by)

abbrev pub answer_of : Shape → GroupRule → (Row → Row) → GroupMap → List Row → DeltaValue
answer_of s p key_of gs bys = answer_all s p key_of gs (record { schema = s; entries = fin.empty }) bys
