-- What each workflow of a text keeps.
use Rattle.std.specs.Prelude.{◌≡◌, ℕ, List, Ok}
use Rattle.nova_workflow.specs.declared.flow.Flow.{Flow}
use Rattle.nova_workflow.specs.Whole.{IsFlow}
use Rattle.nova_flow.specs.Flows.{flow_of}

-- the workflow of a text is one
abbrev pub FlowsAreWhole : Type 0
FlowsAreWhole = (text : List ℕ) (f : Flow) → flow_of text ≡ Ok f → IsFlow f
