-- The kinds of scopes, and of answered expressions.
use Rattle.std.specs.Prelude.{◌≡◌, List, map, Some, Ok, Err}
use Rattle.nova_value.specs.declared.value.Kind.{Kind}
use Rattle.nova_pig_plan.specs.declared.scope.ScopeColumn.{ScopeColumn}
use Rattle.nova_pig_plan.specs.declared.scope.Scope.{Scope}
use Rattle.nova_pig_plan.specs.declared.scope.Scope.TheVariants.{Rows, Group}
use Rattle.nova_pig_plan.specs.declared.scope.Typed.{Typed}
use Rattle.nova_pig_plan.specs.Answers.{Answer}
pub use Rattle.nova_pig_algebra.specs.Sorts.{Over, Row, Bag, of_kind, when, has, are, chosen, col_sort, group_sort, column_agg, bag_agg, agg_sort, long_sort, condition_sort, sort_step}
unfoldable pub use Rattle.nova_pig_algebra.specs.Sorts.{sort_of}

abbrev pub kinds : List ScopeColumn → List Kind
kinds cs = map (λ c. c.kind) cs

-- what an expression in this scope stands over
abbrev pub over : Scope → Over
over (Rows cs) = Row (kinds cs)
over (Group bag by cs) = Bag (kinds by) (kinds cs)

-- an answer has the sort that it says
abbrev pub Sorted : Over → Answer Typed → Type 0
Sorted o (Ok t) = sort_of o t.expr ≡ Some t.sort
Sorted o (Err c) = Unit {0}
