-- The tasks of a workflow as they are stated: each rule in its order.
use Rattle.std.specs.Prelude.{ℕ, Bool, true, false, not, ◌&&◌, nat_eq, if◌then◌else◌, List, [], ◌∷◌, ◌++◌, length, Option, Ok, Err, codes}
use Rattle.std.specs.List.{list_any}
use Rattle.toml.specs.Data.{Data}
use Rattle.nova_workflow.specs.declared.flow.Channel.{Channel}
use Rattle.nova_workflow.specs.declared.flow.Input.{Input}
use Rattle.nova_workflow.specs.declared.flow.Mode.{Mode}
use Rattle.nova_workflow.specs.declared.flow.Mode.TheVariants as mode
use Rattle.nova_flow.specs.declared.fault.FlowFault.TheVariants as fault
use Rattle.nova_flow.specs.Answers.{Answer, ◌>>=◌, require, some_or}
use Rattle.nova_name.specs.Keywords.{same_text}
use Rattle.nova_name.specs.Names.{is_name}
use Rattle.nova_flow.specs.Words.{kept, two_words}
use Rattle.nova_flow.specs.Rules.{only, text_needed, texts_needed, text_if_there, at_most, at_least_one}
use Rattle.nova_flow.specs.Channels.{channel_place}

-- a task as its table states it, its trigger not yet read
pub record Stated : Type 0 where
  pub name : List ℕ
  pub script : List ℕ
  pub inputs : List Input
  pub output : ℕ
  pub based : Bool
  pub trigger : Option (List ℕ)

-- UnknownWord: the text isn't two words parted by one space
abbrev pub words_of : List ℕ → Answer (List ℕ × List ℕ)
words_of text = some_or (fault.UnknownWord (kept text)) (two_words text)

-- UnknownWord: the mode isn't one of its two words
abbrev pub mode_of : List ℕ → Answer Mode
mode_of word =
    if same_text word (codes "ALL") then Ok mode.All else
    (if same_text word (codes "NEW") then Ok mode.New else Err (fault.UnknownWord (kept word)))

abbrev pub based_of : List ℕ → Answer Bool
based_of word =
    if same_text word (codes "BASE") then Ok true else
    (if same_text word (codes "DELTA") then Ok false else Err (fault.UnknownWord (kept word)))

-- BadName: there is no channel of this name
abbrev pub channel_named : List Channel → List ℕ → Answer ℕ
channel_named channels name = some_or (fault.BadName (kept name)) (channel_place name channels)

abbrev pub reads : ℕ → List Input → Bool
reads channel inputs = list_any (λ i. nat_eq i.channel channel) inputs

-- an input after these ones: its words, and then its channel, which none of these reads
abbrev pub input_of : List Channel → List Input → List ℕ → Answer Input
input_of channels done text =
    words_of text >>= λ w.
    mode_of w.1 >>= λ mode.
    channel_named channels w.0 >>= λ channel.
    require (fault.BadName (kept w.0)) (not (reads channel done)) >>= λ _.
    Ok (record { channel = channel; mode = mode })

abbrev pub inputs_after : List Channel → List Input → List (List ℕ) → Answer (List Input)
inputs_after channels done [] = Ok done
inputs_after channels done (text ∷ texts) =
    input_of channels done text >>= λ i.
    inputs_after channels (done ++ i ∷ []) texts

-- the output: its words, and then its channel; whether it is written as `BASE`
abbrev pub output_of : List Channel → List ℕ → Answer (ℕ × Bool)
output_of channels text =
    words_of text >>= λ w.
    based_of w.1 >>= λ based.
    channel_named channels w.0 >>= λ channel.
    Ok (channel, based)

abbrev pub has_task : List ℕ → List Stated → Bool
has_task name tasks = list_any (λ t. same_text t.name name) tasks

-- BadName: the name isn't one, or was used before
abbrev pub new_task : List Stated → List ℕ → Answer (List ℕ)
new_task done name =
    if is_name name && not (has_task name done) then Ok name else Err (fault.BadName (kept name))

-- Missing: there is no input
abbrev pub inputs_needed : Data → Answer (List (List ℕ))
inputs_needed d =
    texts_needed (codes "inputs") d >>= λ inputs.
    at_least_one (fault.Missing (codes "inputs")) inputs >>= λ _.
    Ok inputs

abbrev pub task_keys : List (List ℕ)
task_keys = codes "name" ∷ codes "script" ∷ codes "inputs" ∷ codes "output" ∷ codes "trigger" ∷ []

-- a task after these ones
abbrev pub task_of : List Channel → List Stated → Data → Answer Stated
task_of channels done d =
    only task_keys d >>= λ _.
    text_needed (codes "name") d >>= λ name.
    text_needed (codes "script") d >>= λ script.
    inputs_needed d >>= λ inputs.
    text_needed (codes "output") d >>= λ output.
    text_if_there (codes "trigger") d >>= λ trigger.
    new_task done name >>= λ name.
    at_most (codes "inputs") 16 (length inputs) >>= λ _.
    inputs_after channels [] inputs >>= λ ins.
    output_of channels output >>= λ out.
    Ok (record { name = name; script = script; inputs = ins; output = out.0; based = out.1; trigger = trigger })

abbrev pub tasks_after : List Channel → List Stated → List Data → Answer (List Stated)
tasks_after channels done [] = Ok done
tasks_after channels done (d ∷ ds) =
    task_of channels done d >>= λ t.
    tasks_after channels (done ++ t ∷ []) ds

abbrev pub tasks_of : List Channel → List Data → Answer (List Stated)
tasks_of channels ds = tasks_after channels [] ds
