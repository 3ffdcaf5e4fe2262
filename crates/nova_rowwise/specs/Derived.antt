-- The delta that a plan makes of a delta, row by row.
use Rattle.std.specs.Prelude.{ℕ, zero, suc, cond, List, [], ◌∷◌, map, flat_map, fold, Option, Some, None}
use Rattle.std.specs.Ordering.{eq_by_cmp}
use Rattle.nova_value.specs.declared.schema.Entry.{Entry}
use Rattle.nova_value.specs.declared.schema.Entry.TheVariants.{Put, Removal}
use Rattle.nova_value.specs.Order.{key_cmp}
use Rattle.nova_value.specs.Rows.{Shape, key_at}
use Rattle.nova_value.specs.Entries.{entry_key}
use Rattle.nova_delta.specs.Merge.{DeltaValue}
use Rattle.nova_delta.specs.Seen.{with_entry}
use Rattle.nova_delta.specs.Merge.{no_change}
use Rattle.nova_delta.specs.Listed.{entries_of}
use Rattle.nova_pig_algebra.specs.Meaning.{Row}
use Rattle.nova_pig_algebra.specs.Tree.{Tree, Nothing, Load, Filter, Foreach, Grouped, Join, Union, Distinct, Arms, End, Arm, rows}
use Rattle.nova_pig_algebra.specs.Plan.{Plan, tree_of_plan}
use Rattle.nova_pig_pattern.specs.OutputKeys.{output_keys}
use Rattle.nova_rowwise.specs.Sources.{Key}

abbrev mutual
  -- the main input: that of the leftmost LOAD
  pub main_of : Tree → ℕ
  main_of (Load i) = i
  main_of (Filter from cond) = main_of from
  main_of (Foreach from items) = main_of from
  main_of (Join left left_by right right_by) = main_of left
  main_of (Union arms) = first_main arms
  main_of Nothing = 0
  main_of (Grouped from columns items) = 0
  main_of (Distinct from) = 0

  pub first_main : Arms → ℕ
  first_main End = 0
  first_main (Arm arm arms) = main_of arm

-- one more at a place, and fillers before it where the list is too short
abbrev pub put_at : {A : Type 0} → A → ℕ → List A → A → List A
put_at filler zero xs x = x ∷ xs
put_at filler (suc k) [] x = filler ∷ put_at filler k [] x
put_at filler (suc k) (y ∷ xs) x = y ∷ put_at filler k xs x

-- the inputs' tables: the lookup tables in their order, and the main one at its place
abbrev pub with_main : ℕ → List (List Row) → List Row → List (List Row)
with_main main lookups m = put_at [] main lookups m

-- their schemas
abbrev pub with_main_schema : ℕ → List Shape → Shape → List Shape
with_main_schema main lookups s = put_at (record { columns = []; key = [] }) main lookups s

-- what a plan makes of rows of its main input, with these lookup tables
abbrev pub made_of : Tree → List (List Row) → List Row → List Row
made_of t lookups m = rows t (with_main (main_of t) lookups m)

-- the first row with the key
abbrev pub found : List ℕ → Key → List Row → Option Row
found key q [] = None
found key q (r ∷ rs) = cond (eq_by_cmp key_cmp q (key_at key r)) (Some r) (found key q rs)

-- put where there is a row, and else removed
abbrev pub put_or_removal : Key → Option Row → Entry
put_or_removal q None = Removal q
put_or_removal q (Some row) = Put row

-- what an entry makes at an output key: the row with that key that is made of the put row, or a removal
abbrev pub answer : Shape → (Row → List Row) → Entry → Key → Entry
answer o of (Put row) q = put_or_removal q (found o.key q (of row))
answer o of (Removal k) q = Removal q

-- at each output key of its key
abbrev pub answers : Shape → Shape → (Key → List Key) → (Row → List Row) → Entry → List Entry
answers s o outs of e = map (answer o of e) (outs (entry_key s e))

-- entries set in turn
abbrev pub set_all : DeltaValue → List Entry → DeltaValue
set_all d es = fold with_entry d es

-- the delta of a rule, by its output keys and by what it makes of a row
abbrev pub derived_by : Shape → (Key → List Key) → (Row → List Row) → DeltaValue → DeltaValue
derived_by o outs of d = set_all (no_change o) (flat_map (answers d.schema o outs of) (entries_of d))

-- the output keys of a key of the main input
abbrev pub plan_keys : Plan → Key → List Key
plan_keys p = output_keys p (main_of (tree_of_plan p))

-- the delta that a plan makes of its main input's, with these lookup tables: at each output key of each key the row that the plan gives for the put row, or a removal
abbrev pub derived : Plan → List (List Row) → DeltaValue → DeltaValue
derived p lookups d = derived_by p.output (plan_keys p) (λ r. made_of (tree_of_plan p) lookups (r ∷ [])) d
