-- FOREACHs over rows.
use Rattle.std.specs.Prelude.{ℕ, nat_lt, Bool, false, Option, Some}
use Rattle.nova_pig_algebra.specs.declared.node.Node.{Node}
use Rattle.nova_pig_algebra.specs.declared.node.Node.TheVariants as node

-- whether the operand of a FOREACH is an earlier node, and no GROUP
abbrev pub over_rows : ℕ → ℕ → Option Node → Bool
over_rows k from (Some (node.Group source columns)) = false
over_rows k from _ = nat_lt from k
