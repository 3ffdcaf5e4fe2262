-- What expressions mean: a value, or a condition that holds or not.
use Rattle.std.specs.Prelude.{ℕ, ℤ, pos, ◌+ℤ◌, ◌-ℤ◌, ◌*ℤ◌, neg_ℤ, Bool, false, not, ◌&&◌, ◌||◌, if◌then◌else◌, List, [], ◌∷◌, ◌++◌, map, fold, length, Option, Some, None}
use Rattle.std.specs.Ordering.{eq_by_cmp, is_eq, is_ne, is_lt, is_le, is_gt, is_ge}
use Rattle.std.specs.declared.cmp.Ordering.{Ordering}
use Rattle.nova_value.specs.declared.value.Value.{Value}
use Rattle.nova_value.specs.declared.value.Value.TheVariants.{Long, Text}
use Rattle.nova_value.specs.Order.{value_cmp, key_cmp}
use Rattle.nova_value.specs.Rows.{value_at}
use Rattle.nova_value.specs.Wrapped.{wrapped}
use Rattle.nova_pig_tree.specs.declared.expression.CallKind.{CallKind}
use Rattle.nova_pig_tree.specs.declared.expression.CallKind.TheVariants as call
use Rattle.nova_pig_tree.specs.declared.expression.CompareOp.{CompareOp}
use Rattle.nova_pig_tree.specs.declared.expression.CompareOp.TheVariants as compare
use Rattle.nova_pig_algebra.specs.declared.node.PlanExpr.{PlanExpr}
use Rattle.nova_pig_algebra.specs.declared.node.PlanExpr.TheOpen.{PlanExpr-F}
use Rattle.nova_pig_algebra.specs.declared.node.PlanExpr.TheFolds.{fold-PlanExpr}

-- a row: its values, in the order of the columns
abbrev pub Row : Type 0
Row = List Value

-- whether both rows are equal
abbrev pub same_row : Row → Row → Bool
same_row = eq_by_cmp key_cmp

-- a call over the members of a group: COUNT, SUM, MIN or MAX, of a column; a COUNT of the bag has none
pub record Call : Type 0 where
  pub kind : CallKind
  pub column : Option ℕ

-- what each call gives
abbrev pub Calls : Type 0
Calls = Call → Value

-- over a row no call stands
abbrev pub no_calls : Calls
no_calls c = Long (pos 0)

-- the number of a long; kinds leave no other value where one is taken
abbrev pub long_of : Value → ℤ
long_of (Long n) = n
long_of (Text t) = pos 0

-- what the order of two values says of a comparison
abbrev pub passes : CompareOp → Ordering → Bool
passes compare.Eq o = is_eq o
passes compare.Ne o = is_ne o
passes compare.Lt o = is_lt o
passes compare.Le o = is_le o
passes compare.Gt o = is_gt o
passes compare.Ge o = is_ge o

-- the whole sum of numbers
abbrev pub total : List ℤ → ℤ
total [] = pos 0
total (n ∷ ns) = n +ℤ total ns

-- the first value that no other comes before
abbrev pub pick : (Value → Value → Ordering) → Value → Value → Value
pick order a b = if is_lt (order b a) then b else a

abbrev pub best : (Value → Value → Ordering) → List Value → Value
best order [] = Long (pos 0)
best order (v ∷ vs) = fold (pick order) v vs

-- the least value
abbrev pub least : List Value → Value
least = best value_cmp

-- the greatest value
abbrev pub greatest : List Value → Value
greatest = best (λ a b. value_cmp b a)

-- the values of a column
abbrev pub column_of : Option ℕ → List Row → List Value
column_of None rows = []
column_of (Some k) rows = map (λ row. value_at row k) rows

-- what a call gives over the members of a group: COUNT their wrapped number, SUM the wrapped sum of a column, MIN and MAX its least and greatest value
abbrev pub kind_over : CallKind → Option ℕ → List Row → Value
kind_over call.Count column members = Long (wrapped (pos (length members)))
kind_over call.Sum column members = Long (wrapped (total (map long_of (column_of column members))))
kind_over call.Min column members = least (column_of column members)
kind_over call.Max column members = greatest (column_of column members)

abbrev pub calls_over : List Row → Calls
calls_over members c = kind_over c.kind c.column members

-- an expression's meaning over a row; or over a group, where the row is its BY values and each call gives what is said of it
pub record Given : Type 0 where
  pub value : Row → Calls → Value
  pub holds : Row → Calls → Bool

-- numbers wrap, and values compare in their order; the kinds leave no other case
abbrev pub value_step : PlanExpr-F Given → Row → Calls → Value
value_step (PlanExpr-F.Num n) row f = Long n
value_step (PlanExpr-F.Lit t) row f = Text t
value_step (PlanExpr-F.Column k) row f = value_at row k
value_step (PlanExpr-F.GroupColumn k) row f = value_at row k
value_step (PlanExpr-F.Agg kind column) row f = f (record { kind = kind; column = column })
value_step (PlanExpr-F.Neg a) row f = Long (wrapped (neg_ℤ (long_of (a.value row f))))
value_step (PlanExpr-F.Add a b) row f = Long (wrapped (long_of (a.value row f) +ℤ long_of (b.value row f)))
value_step (PlanExpr-F.Sub a b) row f = Long (wrapped (long_of (a.value row f) -ℤ long_of (b.value row f)))
value_step (PlanExpr-F.Mul a b) row f = Long (wrapped (long_of (a.value row f) *ℤ long_of (b.value row f)))
value_step (PlanExpr-F.If c a b) row f = if c.holds row f then a.value row f else b.value row f
value_step _ row f = Long (pos 0)

abbrev pub holds_step : PlanExpr-F Given → Row → Calls → Bool
holds_step (PlanExpr-F.Compare op a b) row f = passes op (value_cmp (a.value row f) (b.value row f))
holds_step (PlanExpr-F.And a b) row f = a.holds row f && b.holds row f
holds_step (PlanExpr-F.Or a b) row f = a.holds row f || b.holds row f
holds_step (PlanExpr-F.Not a) row f = not (a.holds row f)
holds_step _ row f = false

-- each variant, by what its parts mean
abbrev pub given_step : PlanExpr-F Given → Given
given_step layer = record { value = value_step layer; holds = holds_step layer }

-- what an expression means
unfoldable pub given : PlanExpr → Given
given = fold-PlanExpr Given given_step

-- the value of an expression
abbrev pub value_of : PlanExpr → Row → Calls → Value
value_of e = (given e).value

-- whether a condition holds
abbrev pub holds : PlanExpr → Row → Calls → Bool
holds e = (given e).holds

-- the row that items make
abbrev pub made : List PlanExpr → Row → Calls → Row
made items row f = map (λ e. value_of e row f) items

-- the calls that stand in an expression, from the left
abbrev pub calls_step : PlanExpr-F (List Call) → List Call
calls_step (PlanExpr-F.Agg kind column) = record { kind = kind; column = column } ∷ []
calls_step (PlanExpr-F.Neg a) = a
calls_step (PlanExpr-F.Not a) = a
calls_step (PlanExpr-F.Add a b) = a ++ b
calls_step (PlanExpr-F.Sub a b) = a ++ b
calls_step (PlanExpr-F.Mul a b) = a ++ b
calls_step (PlanExpr-F.And a b) = a ++ b
calls_step (PlanExpr-F.Or a b) = a ++ b
calls_step (PlanExpr-F.Compare op a b) = a ++ b
calls_step (PlanExpr-F.If c a b) = c ++ (a ++ b)
calls_step _ = []

-- all of them, in the order in which they stand
unfoldable pub calls : PlanExpr → List Call
calls = fold-PlanExpr (List Call) calls_step
