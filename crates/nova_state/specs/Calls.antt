-- Calls and groups as the code finds them.
use Rattle.std.specs.Prelude.{ℕ, nat_lt, Bool, if◌then◌else◌, List, fold, Option, Some, None}
use Rattle.std.specs.List.{list_any}
use Rattle.nova_pig_tree.specs.declared.expression.CallKind.{CallKind}
use Rattle.nova_pig_algebra.specs.declared.node.Node.{Node}
use Rattle.nova_pig_algebra.specs.declared.node.Node.TheVariants as node
use Rattle.nova_pig_algebra.specs.Meaning.{Call}
use Rattle.nova_pig_algebra.specs.Tree.{Tree, Nothing, tree_at, trees}
use Rattle.nova_pig_rows.specs.Outcomes as outcome
use Rattle.nova_state.specs.declared.plan.Parts as code
use Rattle.nova_state.specs.Plan.{Parts, with_call}

abbrev pub same_kind : CallKind → CallKind → Bool
same_kind = outcome.same_kind

abbrev pub same_column : Option ℕ → Option ℕ → Bool
same_column = outcome.same_column

abbrev pub has : List Call → Call → Bool
has cs c = list_any (λ d. outcome.same_call d c) cs

abbrev pub with_calls : List Call → List Call → List Call
with_calls cs ds = fold with_call cs ds

abbrev pub if_earlier : ℕ → ℕ → Option ℕ
if_earlier source node = if nat_lt source node then Some source else None

abbrev pub tree_of_source : List Node → Option ℕ → Tree
tree_of_source nodes None = Nothing
tree_of_source nodes (Some k) = tree_at (trees nodes) k

abbrev pub parts_seen : List Node → code.Parts → Parts
parts_seen nodes p = record { source = tree_of_source nodes p.source; columns = p.columns.now; items = p.items.now }

-- the rows that a GROUP groups, by their node, and its columns
abbrev pub group_node : Option Node → Option (ℕ × List ℕ)
group_node (Some (node.Group source columns)) = Some (source, columns)
group_node _ = None
