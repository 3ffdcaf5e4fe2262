-- The workflow of a text, or its first fault.
use Rattle.std.specs.Prelude.{ℕ, List, [], ◌∷◌, length, if◌then◌else◌, Option, None, option_map, Result, Ok, codes}
use Rattle.std.specs.Str.{is_utf8}
use Rattle.toml.specs.Data.{Data, table}
use Rattle.toml.specs.Parse.{parse_document}
use Rattle.nova_workflow.specs.declared.flow.Flow.{Flow}
use Rattle.nova_flow.specs.declared.fault.FlowFault.{FlowFault}
use Rattle.nova_flow.specs.declared.fault.FlowFault.TheVariants as fault
use Rattle.nova_flow.specs.Answers.{Answer, ◌>>=◌, some_or}
use Rattle.nova_flow.specs.Rules.{only, tables_needed, tables_if_there, at_most, at_least_one}
use Rattle.nova_flow.specs.Channels.{channels_of}
use Rattle.nova_flow.specs.Tasks.{tasks_of}
use Rattle.nova_flow.specs.Wiring.{all_settled, all_wired}

-- the document of some bytes, which are UTF-8 and TOML
abbrev pub document : List ℕ → Option Data
document text = if is_utf8 text then option_map table (parse_document text) else None

-- Toml: there is none
abbrev pub document_needed : List ℕ → Answer Data
document_needed text = some_or fault.Toml (document text)

-- Missing: `channel` is absent, is no array of tables, or is empty
abbrev pub channels_needed : Data → Answer (List Data)
channels_needed d =
    tables_needed (codes "channel") d >>= λ channels.
    at_least_one (fault.Missing (codes "channel")) channels >>= λ _.
    Ok channels

abbrev pub top_keys : List (List ℕ)
top_keys = codes "channel" ∷ codes "task" ∷ []

-- the workflow of a document: its keys; each channel; each task as it is stated; and each task among the others
abbrev pub flow_of_document : Data → Answer Flow
flow_of_document d =
    only top_keys d >>= λ _.
    channels_needed d >>= λ channels.
    tables_if_there (codes "task") d >>= λ tasks.
    at_most (codes "channel") 256 (length channels) >>= λ _.
    at_most (codes "task") 256 (length tasks) >>= λ _.
    channels_of channels >>= λ cs.
    tasks_of cs tasks >>= λ stated.
    all_settled cs stated >>= λ ts.
    Ok (record { channels = all_wired ts 0 cs; tasks = ts })

-- the workflow of a text, or its first fault
unfoldable pub flow_of : List ℕ → Result Flow FlowFault
flow_of text =
    at_most (codes "text") 1048576 (length text) >>= λ _.
    document_needed text >>= λ d.
    flow_of_document d
