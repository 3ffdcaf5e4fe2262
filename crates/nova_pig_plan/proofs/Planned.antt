-- An answered plan has kinds.
use Rattle.std.proofs.Common.{◌≡◌, ℕ, List, [], ◌∷◌, map, Ok, refl, ap, ◌∙◌}
use Rattle.nova_value.specs.Rows.{Shape, kinds}
use Rattle.nova_pig_tree.specs.declared.statement.Statement.{Statement}
use Rattle.nova_pig_algebra.specs.Plan.{IsKinded, kinds_of_inputs}
use Rattle.nova_pig_algebra.specs.Kinds.{nodes_over}
use Rattle.nova_pig_plan.specs.declared.scope.Channels.{Channels}
use Rattle.nova_pig_plan.specs.declared.scope.Graph.{Graph}
use Rattle.nova_pig_plan.specs.Plans.{graph_of}
use Rattle.nova_pig_plan.specs.Resolve.{schemas, plan}
use Rattle.nova_pig_plan.proofs.PlanKinds.{plan_kinded}

same_inputs : (inputs : List (List ℕ × Shape)) → kinds_of_inputs (schemas inputs) ≡ map (λ i. map (λ c. c.kind) i.1.columns) inputs
same_inputs [] = refl
same_inputs (i ∷ inputs) = ap (λ ks. kinds i.1.columns ∷ ks) (same_inputs inputs)

pub plan_has_kinds : (ss : List Statement) (ch : Channels) (g : Graph) → graph_of ss ch ≡ Ok g → IsKinded (plan ch g)
plan_has_kinds ss ch g e =
    let k = plan_kinded ss ch g e in
    record { all = k.all; nodes = ap (λ ks. nodes_over ks [] g.nodes) (same_inputs ch.inputs) ∙ k.nodes; stored = k.stored }
