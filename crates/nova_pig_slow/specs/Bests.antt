-- The first of values that no other comes before, value by value.
use Rattle.std.specs.Prelude.{Bool, true, false, List, Option, Some, None}
use Rattle.std.specs.List.{fold}
use Rattle.std.specs.declared.cmp.Ordering.{Ordering}
use Rattle.nova_value.specs.declared.value.Value.{Value}
use Rattle.nova_value.specs.Order.{value_cmp}
use Rattle.nova_pig_algebra.specs.Meaning.{best, pick}

-- from the least, or from the greatest
abbrev pub order_of : Bool → Value → Value → Ordering
order_of false = value_cmp
order_of true = λ a b. value_cmp b a

abbrev pub better : (Value → Value → Ordering) → Option Value → Value → Value
better order None v = v
better order (Some b) v = pick order b v

-- the best so far and of these
abbrev pub best_with : (Value → Value → Ordering) → Option Value → List Value → Value
best_with order None vs = best order vs
best_with order (Some b) vs = fold (pick order) b vs
