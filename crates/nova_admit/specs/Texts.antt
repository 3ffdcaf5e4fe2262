-- What is answered of a text.
use Rattle.std.specs.Prelude.{◌≡◌, ℕ, List, Result, Ok, Err}
use Rattle.nova_pig_tree.specs.declared.statement.Statement.{Statement}
use Rattle.nova_pig_parse.specs.declared.text.ParseFault.TheVariants as parse
use Rattle.nova_pig_parse.specs.Script.{IsScriptOf, IsFaultOf}
use Rattle.nova_pig_algebra.specs.Plan.{Plan}
use Rattle.nova_pig_plan.specs.declared.scope.Channels.{Channels}
use Rattle.nova_pig_plan.specs.Resolve.{plan_of, said, IsFirst}
use Rattle.nova_admit.specs.declared.script.ScriptFault.{ScriptFault}
use Rattle.nova_admit.specs.declared.script.ScriptFault.TheVariants as fault

-- a plan is that of the text's script; a fault is the text's, or that of its script; want of memory says nothing of the text
abbrev pub GivesPlan : List ℕ → Channels → Result Plan ScriptFault → Type 0
GivesPlan text ch (Ok p) = (script : List Statement) × IsScriptOf text script × (plan_of script ch ≡ Ok p)
GivesPlan text ch (Err (fault.Parse f)) = (f ≡ parse.NoMemory → ⊥) → IsFaultOf text f
GivesPlan text ch (Err (fault.Plan f)) = (script : List Statement) × IsScriptOf text script × IsFirst (said f) (plan_of script ch)
