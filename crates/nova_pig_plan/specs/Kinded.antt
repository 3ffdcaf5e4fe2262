-- Statements whose nodes have the kinds of their scopes.
use Rattle.std.specs.Prelude.{◌≡◌, List, [], map, Some, Ok, Err, slice_get}
use Rattle.nova_value.specs.declared.value.Kind.{Kind}
use Rattle.nova_pig_plan.specs.declared.scope.Defined.{Defined}
use Rattle.nova_pig_plan.specs.declared.scope.Channels.{Channels}
use Rattle.nova_pig_plan.specs.declared.scope.Graph.{Graph}
use Rattle.nova_pig_plan.specs.Answers.{Answer}
use Rattle.nova_pig_plan.specs.Plans.{Aliases}
use Rattle.nova_pig_plan.specs.Sorts.{Over, Row, over}
pub use Rattle.nova_pig_algebra.specs.Kinds.{with_kind, item_kinds, and_kind, kinds_at, as_rows, as_bag, filter_over, foreach_over, group_over, distinct_over, same_list, join_over, are_rows, all_rows, union_over, node_over, and_then, nodes_over}

abbrev pub overs : Aliases → List Over
overs done = map (λ e. over e.1) done

abbrev pub input_kinds : Channels → List (List Kind)
input_kinds ch = map (λ i. map (λ c. c.kind) i.1.columns) ch.inputs

-- an answered node has the kinds of its scope
abbrev pub Kinded : Channels → Aliases → Answer Defined → Type 0
Kinded ch done (Ok d) = node_over (input_kinds ch) (overs done) d.node ≡ Some (over d.scope)
Kinded ch done (Err c) = Unit {0}

abbrev pub output_over : Channels → Over
output_over ch = Row (map (λ c. c.kind) ch.output.1.columns)

-- each node has kinds, and the stored one those of the output
pub record IsKinded (ch : Channels) (p : Graph) : Type 0 where
  pub all : List Over
  pub nodes : nodes_over (input_kinds ch) [] p.nodes ≡ Some all
  pub stored : slice_get all p.stored ≡ Some (output_over ch)
