-- The plan of a task is over the schemas of its channels.
use Rattle.std.specs.Prelude.{◌≡◌, List, [], ◌∷◌, map, Result, Ok, Err, refl}
use Rattle.std.proofs.Common.{ap, sym, ◌∙◌}
use Rattle.nova_value.specs.Rows.{Shape}
use Rattle.nova_pig_algebra.specs.Plan.{Plan}
use Rattle.nova_pig_plan.specs.declared.scope.Channels.{Channels}
use Rattle.nova_pig_plan.specs.declared.scope.Graph.{Graph}
use Rattle.nova_pig_plan.specs.Plans.{graph_of}
use Rattle.nova_pig_plan.specs.Resolve.{Place, schemas, plan, with_channels}
use Rattle.nova_admit.specs.Texts.{GivesPlan}
use Rattle.nova_workflow.specs.declared.flow.Input.{Input}
use Rattle.nova_workflow.specs.declared.flow.Task.{Task}
use Rattle.nova_workflow.specs.declared.flow.Flow.{Flow}
use Rattle.nova_admit.specs.Flows.{channel_at, named_inputs, channels_of, HasSchemas}

same : (p q : Plan) → (let r : Result Plan Place = Ok p in r) ≡ Ok q → p ≡ q
same p q e = cc

over : (ch : Channels) (g : Result Graph Place) (p : Plan) → with_channels ch g ≡ Ok p → (p.inputs ≡ schemas ch.inputs) × (p.output ≡ ch.output.1)
over ch (Ok g) p e = let s = sym (same (plan ch g) p e) in (ap (λ (z : Plan). z.inputs) s, ap (λ (z : Plan). z.output) s)
over ch (Err f) p e = absurd cc

named_schemas : (f : Flow) (is : List Input) → schemas (named_inputs f is) ≡ map (λ (i : Input). (channel_at f i.channel).schema) is
named_schemas f [] = refl
named_schemas f (i ∷ is) = ap (λ (ss : List Shape). (channel_at f i.channel).schema ∷ ss) (named_schemas f is)

pub has_schemas : (f : Flow) (t : Task) (p : Plan) → GivesPlan t.script (channels_of f t) (Ok p) → HasSchemas f t p
has_schemas f t p h =
    let o = over (channels_of f t) (graph_of h.0 (channels_of f t)) p h.2 in
    record { inputs = o.0 ∙ named_schemas f t.inputs; output = o.1 }
