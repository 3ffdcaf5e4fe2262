-- The code of plans, by which a proof tells them apart.
use Rattle.std.specs.Prelude.{ℕ, List, refl}
use Rattle.std.specs.Coded.{Coded, code_by, coded×, coded_list, coded_ℕ}
use Rattle.nova_value.specs.contracts.schema.Schema as schema
use Rattle.nova_value.specs.Rows.{Shape}
use Rattle.nova_pig_algebra.specs.declared.node.Node.{Node}
use Rattle.nova_pig_algebra.specs.contracts.node.Node as node
use Rattle.nova_pig_algebra.specs.Plan.{Plan}

abbrev pub plan_code : Coded Plan
plan_code =
    code_by ((List Node × ℕ) × (List Shape × Shape)) (coded× (coded× (coded_list node.the_row.coded) coded_ℕ) (coded× (coded_list schema.the_row.coded) schema.the_row.coded))
    (λ p. ((p.nodes, p.stored), (p.inputs, p.output))) (λ c. record { nodes = c.0.0; stored = c.0.1; inputs = c.1.0; output = c.1.1 }) (λ _. refl)
