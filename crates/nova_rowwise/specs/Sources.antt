-- Where the fields of output keys come from, and the output keys of a key.
use Rattle.std.specs.Prelude.{ℕ, suc, ◌==◌, if◌then◌else◌, List, [], ◌∷◌, ◌++◌, map, pos, slice_get, Option, Some, None}
use Rattle.nova_value.specs.declared.value.Value.{Value}
use Rattle.nova_value.specs.declared.value.Value.TheVariants.{Long}
use Rattle.nova_value.specs.Rows.{Shape, value_at}
use Rattle.nova_pig_algebra.specs.declared.node.PlanExpr.{PlanExpr}
use Rattle.nova_pig_algebra.specs.Tree.{Tree, Nothing, Load, Filter, Foreach, Grouped, Join, Union, Distinct, Arms, End, Arm}
use Rattle.nova_pig_algebra.specs.Keys.{Plain, Column, By, Constant, Computed, plain}

-- a key: its values, in the order of the key's columns
abbrev pub Key : Type 0
Key = List Value

-- what an item is, where it is there
abbrev pub item_of : Option PlanExpr → Plain
item_of None = Computed
item_of (Some e) = plain e

-- what the item of a column is
abbrev pub item_at : List PlanExpr → ℕ → Plain
item_at items k = item_of (slice_get items k)

-- where a field of a FOREACH's row comes from: a column from its item, and a constant is one
abbrev pub through : List PlanExpr → Plain → Plain
through items (Column k) = item_at items k
through items (By k) = By k
through items (Constant v) = Constant v
through items Computed = Computed

abbrev mutual
  -- where fields of a tree's rows come from: a list for each arm of UNION. A FILTER keeps them, and a JOIN those of its left side
  pub sources : Tree → List Plain → List (List Plain)
  sources (Load i) fields = fields ∷ []
  sources (Filter from cond) fields = sources from fields
  sources (Foreach from items) fields = sources from (map (through items) fields)
  sources (Join left left_by right right_by) fields = sources left fields
  sources (Union arms) fields = arm_sources arms fields
  sources Nothing fields = []
  sources (Grouped from columns items) fields = []
  sources (Distinct from) fields = []

  pub arm_sources : Arms → List Plain → List (List Plain)
  arm_sources End fields = []
  arm_sources (Arm arm arms) fields = sources arm fields ++ arm_sources arms fields

-- the place of a column among the key's
abbrev pub place_in : List ℕ → ℕ → ℕ
place_in [] c = 0
place_in (p ∷ ps) c = if p == c then 0 else suc (place_in ps c)

-- a field, of the key with these columns: the key's value for the column, or the constant. A plan's key has no other field
abbrev pub field : List ℕ → Key → Plain → Value
field columns k (Column c) = value_at k (place_in columns c)
field columns k (Constant v) = v
field columns k (By c) = Long (pos 0)
field columns k Computed = Long (pos 0)

-- the columns, as fields
abbrev pub as_fields : List ℕ → List Plain
as_fields key = map Column key

-- the keys that these lists of fields make of a key
abbrev pub keys_by : List ℕ → List (List Plain) → Key → List Key
keys_by columns lists k = map (λ fields. map (field columns k) fields) lists

-- the output keys of a key of the input by where their fields come from, each in the order of the output's key
abbrev pub source_keys : Shape → Shape → Tree → Key → List Key
source_keys s o t = keys_by s.key (sources t (as_fields o.key))
