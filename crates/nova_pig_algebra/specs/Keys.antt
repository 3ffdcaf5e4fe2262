-- Constant columns, and the key of an alias: a set of columns, or none.
use Rattle.std.specs.Prelude.{ℕ, zero, suc, ◌+◌, ◌==◌, nat_lt, Bool, true, false, not, ◌&&◌, ◌||◌, if◌then◌else◌, List, [], ◌∷◌, ◌++◌, map, length, slice_get, slice_index_or, Option, Some, None}
use Rattle.std.specs.Ordering.{eq_by_cmp, nat_cmp}
use Rattle.std.specs.Cmp.Lexicographic.{slice_cmp}
use Rattle.nova_value.specs.declared.value.Value.{Value}
use Rattle.nova_value.specs.declared.value.Value.TheVariants.{Long, Text}
use Rattle.nova_value.specs.Order.{value_cmp}
use Rattle.nova_value.specs.Rows.{Shape}
use Rattle.nova_pig_algebra.specs.declared.node.PlanExpr.{PlanExpr, out-PlanExpr}
use Rattle.nova_pig_algebra.specs.declared.node.PlanExpr.TheOpen.{PlanExpr-F}
use Rattle.nova_pig_algebra.specs.declared.facts.Facts.{Facts}
use Rattle.nova_pig_algebra.specs.Tree.{Tree, Nothing, Load, Filter, Foreach, Grouped, Join, Union, Distinct, Arms, End, Arm}

-- constants with a key
abbrev pub facts_of : List (Option Value) → Option (List ℕ) → Facts
facts_of constants key = record { constants = constants; key = key }

-- ---- sets of columns
-- the set with one column more
abbrev pub with_column : ℕ → List ℕ → List ℕ
with_column k [] = k ∷ []
with_column k (j ∷ js) = if nat_lt k j then k ∷ j ∷ js else if k == j then j ∷ js else j ∷ with_column k js

-- the set of columns
abbrev pub column_set : List ℕ → List ℕ
column_set [] = []
column_set (k ∷ ks) = with_column k (column_set ks)

-- whether both sets are equal
abbrev pub same_columns : List ℕ → List ℕ → Bool
same_columns = eq_by_cmp (slice_cmp nat_cmp)

-- whether the column is one of these
abbrev pub is_one_of : ℕ → List ℕ → Bool
is_one_of k [] = false
is_one_of k (j ∷ js) = k == j || is_one_of k js

-- the columns include these
abbrev pub covers : List ℕ → List ℕ → Bool
covers columns [] = true
covers columns (k ∷ ks) = is_one_of k columns && covers columns ks

-- n columns from k on
abbrev pub columns_from : ℕ → ℕ → List ℕ
columns_from k zero = []
columns_from k (suc n) = k ∷ columns_from (suc k) n

-- ---- items
-- what an item is by itself: a plain reference to a column, or to a BY column; a number or a literal; or more than these
pub data Plain : Type 0 where
  Column : ℕ → Plain
  By : ℕ → Plain
  Constant : Value → Plain
  Computed : Plain

abbrev pub plain_step : PlanExpr-F PlanExpr → Plain
plain_step (PlanExpr-F.Column k) = Column k
plain_step (PlanExpr-F.GroupColumn k) = By k
plain_step (PlanExpr-F.Num n) = Constant (Long n)
plain_step (PlanExpr-F.Lit t) = Constant (Text t)
plain_step _ = Computed

-- what the item is
abbrev pub plain : PlanExpr → Plain
plain e = plain_step (out-PlanExpr e)

-- the item is the column
abbrev pub is_column : ℕ → Plain → Bool
is_column k (Column j) = j == k
is_column k _ = false

-- whether the place is there and is this one
abbrev pub is_some : ℕ → Option ℕ → Bool
is_some k None = false
is_some k (Some j) = j == k

-- the item is the column of the source by which these BY columns group
abbrev pub is_by : List ℕ → ℕ → Plain → Bool
is_by columns k (By j) = is_some k (slice_get columns j)
is_by columns k _ = false

-- the place of the first item that passes, counted from n
abbrev pub place_from : (Plain → Bool) → ℕ → List PlanExpr → Option ℕ
place_from test n [] = None
place_from test n (e ∷ es) = if test (plain e) then Some n else place_from test (suc n) es

-- the place of the first item that passes
abbrev pub place_of : (Plain → Bool) → List PlanExpr → Option ℕ
place_of test items = place_from test 0 items

-- a set with one place more, where both are there
abbrev pub and_place : Option ℕ → Option (List ℕ) → Option (List ℕ)
and_place None ps = None
and_place (Some p) None = None
and_place (Some p) (Some ps) = Some (with_column p ps)

-- the first item for each of these columns; none where one is missing
abbrev pub places_of : (ℕ → Plain → Bool) → List PlanExpr → List ℕ → Option (List ℕ)
places_of test items [] = Some []
places_of test items (k ∷ ks) = and_place (place_of (test k) items) (places_of test items ks)

-- ---- constants
-- a column that is not constant
abbrev pub unknown : Option Value
unknown = None

-- the constant of a column
abbrev pub constant_at : List (Option Value) → ℕ → Option Value
constant_at constants k = slice_index_or constants k None

-- the constant of an item: its number or literal, or that of the column to which it is a plain reference
abbrev pub item_constant : List (Option Value) → Plain → Option Value
item_constant constants (Column k) = constant_at constants k
item_constant constants (Constant v) = Some v
item_constant constants _ = None

-- the constants of the columns that items make
abbrev pub item_constants : List (Option Value) → List PlanExpr → List (Option Value)
item_constants constants items = map (λ e. item_constant constants (plain e)) items

-- so many columns that are not constant
abbrev pub unknowns : ℕ → List (Option Value)
unknowns zero = []
unknowns (suc n) = unknown ∷ unknowns n

-- no column is constant
abbrev pub none_constant : {A : Type 0} → List A → List (Option Value)
none_constant xs = unknowns (length xs)

-- ---- keys of the operators
-- LOAD: the channel's key columns, and no constant
abbrev pub load_facts : Shape → Facts
load_facts s = facts_of (none_constant s.columns) (Some (column_set s.key))

-- the places of the key columns
abbrev pub foreach_key : List PlanExpr → Option (List ℕ) → Option (List ℕ)
foreach_key items None = None
foreach_key items (Some key) = places_of is_column items key

-- FOREACH: for each key column of the operand, the first item that is a plain reference to it
abbrev pub foreach_facts : List PlanExpr → Facts → Facts
foreach_facts items from = facts_of (item_constants from.constants items) (foreach_key items from.key)

-- GROUP then FOREACH: for each BY column, the first item that is it; numbers and literals alone are constant
abbrev pub grouped_facts : List ℕ → List PlanExpr → Facts
grouped_facts columns items = facts_of (item_constants [] items) (places_of (is_by columns) items columns)

-- JOIN: the left key where the right BY columns include the right key; else both keys, the right one moved by the left width
abbrev pub join_key : List ℕ → ℕ → Option (List ℕ) → Option (List ℕ) → Option (List ℕ)
join_key right_by width None right = None
join_key right_by width (Some left) None = None
join_key right_by width (Some left) (Some right) = if covers right_by right then Some left else Some (left ++ map (λ k. width + k) right)

-- the left columns and then the right ones
abbrev pub join_facts : List ℕ → Facts → Facts → Facts
join_facts right_by left right = facts_of (left.constants ++ right.constants) (join_key right_by (length left.constants) left.key right.key)

-- what a column has in each arm
abbrev pub in_arms : ℕ → List Facts → List (Option Value)
in_arms k arms = map (λ f. constant_at f.constants k) arms

-- all have a value, other than v
abbrev pub all_other : Value → List (Option Value) → Bool
all_other v [] = true
all_other v (None ∷ os) = false
all_other v (Some w ∷ os) = not (eq_by_cmp value_cmp v w) && all_other v os

-- a value in every arm, pairwise different
abbrev pub are_apart : List (Option Value) → Bool
are_apart [] = true
are_apart (None ∷ os) = false
are_apart (Some v ∷ os) = all_other v os && are_apart os

-- the first of n columns from k on that is constant in every arm with pairwise different values
abbrev pub first_apart : List Facts → ℕ → ℕ → Option ℕ
first_apart arms k zero = None
first_apart arms k (suc n) = if are_apart (in_arms k arms) then Some k else first_apart arms (suc k) n

-- the key is there and is this one
abbrev pub has_key : List ℕ → Option (List ℕ) → Bool
has_key key None = false
has_key key (Some other) = same_columns other key

-- all have this key
abbrev pub all_have : List ℕ → List Facts → Bool
all_have key [] = true
all_have key (f ∷ fs) = has_key key f.key && all_have key fs

-- the key with a column more, where there is one
abbrev pub and_column : Option ℕ → List ℕ → Option (List ℕ)
and_column None key = None
and_column (Some k) key = Some (with_column k key)

-- UNION: where all arms have the same key and some column tells them apart, the key and the first such column
abbrev pub union_key : Option (List ℕ) → List Facts → Option ℕ → Option (List ℕ)
union_key None arms apart = None
union_key (Some key) arms apart = if all_have key arms then and_column apart key else None

-- no column of a UNION is constant
abbrev pub union_facts : List Facts → Facts
union_facts [] = facts_of [] None
union_facts (f ∷ fs) = facts_of (none_constant f.constants) (union_key f.key fs (first_apart (f ∷ fs) 0 (length f.constants)))

-- the key, or all columns
abbrev pub or_all : List ℕ → Option (List ℕ) → Option (List ℕ)
or_all all None = Some all
or_all all (Some key) = Some key

-- DISTINCT: that of the operand, or all columns where it has none
abbrev pub distinct_facts : Facts → Facts
distinct_facts from = facts_of from.constants (or_all (columns_from 0 (length from.constants)) from.key)

-- the schema of an input
abbrev pub shape_at : List Shape → ℕ → Shape
shape_at inputs k = slice_index_or inputs k (record { columns = []; key = [] })

abbrev mutual
  -- what is known of a tree's alias, by the schemas of the inputs
  pub facts : List Shape → Tree → Facts
  facts inputs Nothing = facts_of [] None
  facts inputs (Load input) = load_facts (shape_at inputs input)
  facts inputs (Filter from cond) = facts inputs from
  facts inputs (Foreach from items) = foreach_facts items (facts inputs from)
  facts inputs (Grouped from columns items) = grouped_facts columns items
  facts inputs (Join left left_by right right_by) = join_facts right_by (facts inputs left) (facts inputs right)
  facts inputs (Union arms) = union_facts (arm_facts inputs arms)
  facts inputs (Distinct from) = distinct_facts (facts inputs from)

  pub arm_facts : List Shape → Arms → List Facts
  arm_facts inputs End = []
  arm_facts inputs (Arm arm arms) = facts inputs arm ∷ arm_facts inputs arms
