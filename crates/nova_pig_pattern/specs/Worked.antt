-- Output keys that are worked out: they are those of the key alone, whether or not its row passes the FILTERs and meets a row in a JOIN.
use Rattle.std.specs.Prelude.{◌≡◌, ℕ, pos, List, [], ◌∷◌, codes}
use Rattle.nova_value.specs.declared.value.Value.{Value}
use Rattle.nova_value.specs.declared.value.Value.TheVariants.{Long, Text}
use Rattle.nova_value.specs.declared.value.Kind.TheVariants as kind
use Rattle.nova_value.specs.declared.schema.Column.{Column}
use Rattle.nova_value.specs.Rows.{Shape}
use Rattle.nova_pig_algebra.specs.declared.node.PlanExpr.{PlanExpr}
use Rattle.nova_pig_algebra.specs.declared.node.Node.TheVariants as node
use Rattle.nova_pig_algebra.specs.Plan.{plan_with}
use Rattle.nova_pig_pattern.specs.OutputKeys.{output_keys}

abbrev long : List ℕ → Column
long name = record { name = name; kind = kind.Long }

abbrev text : List ℕ → Column
text name = record { name = name; kind = kind.Text }

abbrev keyed : List Column → List ℕ → Shape
keyed columns key = record { columns = columns; key = key }

abbrev requests : Shape
requests = keyed (long (codes "id") ∷ text (codes "url") ∷ long (codes "ms") ∷ []) (0 ∷ [])

abbrev pages : Shape
pages = keyed (text (codes "url") ∷ text (codes "tag") ∷ []) (0 ∷ [])

-- the requests with their pages
abbrev tagged : Shape
tagged = keyed (long (codes "id") ∷ text (codes "url") ∷ long (codes "ms") ∷ text (codes "page") ∷ text (codes "tag") ∷ []) (0 ∷ [])

-- by two columns, the last one first
abbrev by_two : List ℕ → Shape
by_two key = keyed (long (codes "id") ∷ text (codes "url") ∷ []) key

abbrev seven : Value
seven = Long (pos 7)

-- a FILTER keeps the key, whatever it asks
abbrev pub FilteredKey : Type 0
FilteredKey = (cond : PlanExpr) → output_keys (plan_with (node.Load 0 ∷ node.Filter 0 cond ∷ []) 1 (requests ∷ []) requests) 0 (seven ∷ []) ≡ (seven ∷ []) ∷ []

-- each arm of a UNION has one
abbrev pub KeyOfEachArm : Type 0
KeyOfEachArm = (cond : PlanExpr) → output_keys (plan_with (node.Load 0 ∷ node.Filter 0 cond ∷ node.Union (0 ∷ 1 ∷ []) ∷ []) 2 (requests ∷ []) requests) 0 (seven ∷ [])
    ≡ (seven ∷ []) ∷ (seven ∷ []) ∷ []

-- a JOIN has that of its left side; the main input is the second one here
abbrev pub JoinedKey : Type 0
JoinedKey = output_keys (plan_with (node.Load 1 ∷ node.Load 0 ∷ node.Join 0 (1 ∷ []) 1 (0 ∷ []) ∷ []) 2 (pages ∷ requests ∷ []) tagged) 1 (seven ∷ []) ≡ (seven ∷ []) ∷ []

-- its values stand in the order of the output's key
abbrev pub KeyInItsOrder : Type 0
KeyInItsOrder = output_keys (plan_with (node.Load 0 ∷ []) 0 (by_two (0 ∷ 1 ∷ []) ∷ []) (by_two (1 ∷ 0 ∷ []))) 0 (seven ∷ Text (codes "/a") ∷ []) ≡ (Text (codes "/a") ∷ seven ∷ []) ∷ []
