-- Literals that are values: numbers of 64 bits, and texts within the bounds of text values.
use Rattle.std.specs.Prelude.{ℕ, ℤ, pos, negsuc, ◌^◌, nat_lt, Bool, true, ◌&&◌, List, [], ◌∷◌, length}
use Rattle.std.specs.Str.{is_utf8}
use Rattle.nova_value.specs.Text.{is_clean}
use Rattle.nova_pig_algebra.specs.declared.node.PlanExpr.{PlanExpr}
use Rattle.nova_pig_algebra.specs.declared.node.PlanExpr.TheOpen.{PlanExpr-F}
use Rattle.nova_pig_algebra.specs.declared.node.PlanExpr.TheFolds.{fold-PlanExpr}
use Rattle.nova_pig_algebra.specs.declared.node.Node.{Node}
use Rattle.nova_pig_algebra.specs.declared.node.Node.TheVariants as node

-- at least -2^63 and below 2^63
abbrev pub is_long : ℤ → Bool
is_long (pos n) = nat_lt n (2 ^ 63)
is_long (negsuc n) = nat_lt n (2 ^ 63)

-- at most 65,535 bytes, UTF-8, no tab and no newline
abbrev pub is_text : List ℕ → Bool
is_text t = nat_lt (length t) 65536 && is_clean t && is_utf8 t

-- each variant, by its parts
abbrev pub literals_step : PlanExpr-F Bool → Bool
literals_step (PlanExpr-F.Num n) = is_long n
literals_step (PlanExpr-F.Lit t) = is_text t
literals_step (PlanExpr-F.Neg a) = a
literals_step (PlanExpr-F.Not a) = a
literals_step (PlanExpr-F.Add a b) = a && b
literals_step (PlanExpr-F.Sub a b) = a && b
literals_step (PlanExpr-F.Mul a b) = a && b
literals_step (PlanExpr-F.Compare op a b) = a && b
literals_step (PlanExpr-F.And a b) = a && b
literals_step (PlanExpr-F.Or a b) = a && b
literals_step (PlanExpr-F.If c a b) = c && (a && b)
literals_step _ = true

-- whether all literals of an expression are values
unfoldable pub has_values : PlanExpr → Bool
has_values = fold-PlanExpr Bool literals_step

-- the literals of all items
abbrev pub all_have_values : List PlanExpr → Bool
all_have_values [] = true
all_have_values (e ∷ es) = has_values e && all_have_values es

-- the literals of a node
abbrev pub node_has_values : Node → Bool
node_has_values (node.Filter from cond) = has_values cond
node_has_values (node.Foreach from items) = all_have_values items
node_has_values _ = true

-- the literals of all nodes
abbrev pub nodes_have_values : List Node → Bool
nodes_have_values [] = true
nodes_have_values (n ∷ ns) = node_has_values n && nodes_have_values ns
