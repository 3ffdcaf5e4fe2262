-- The channels of a workflow: each rule in its order.
use Rattle.std.specs.Prelude.{ℕ, false, not, ◌&&◌, if◌then◌else◌, List, [], ◌∷◌, ◌++◌, length, position, Option, Some, None, option_and_then, is_some, Ok, Err, codes}
use Rattle.toml.specs.Data.{Data}
use Rattle.nova_value.specs.declared.value.Kind.{Kind}
use Rattle.nova_value.specs.declared.schema.Column.{Column}
use Rattle.nova_value.specs.Rows.{Shape, none_is}
use Rattle.nova_workflow.specs.declared.flow.Channel.{Channel}
use Rattle.nova_flow.specs.declared.fault.FlowFault.TheVariants as fault
use Rattle.nova_flow.specs.declared.fault.Stop.{Stop}
use Rattle.nova_flow.specs.declared.fault.Stop.TheVariants.{Fault}
use Rattle.nova_flow.specs.Answers.{Answer, ◌>>=◌, some_or}
use Rattle.nova_name.specs.Keywords.{same_text, is_keyword}
use Rattle.nova_name.specs.Names.{is_name}
use Rattle.nova_flow.specs.Words.{kept, two_words, kind_of}
use Rattle.nova_flow.specs.Rules.{only, text_needed, texts_needed, at_most, at_least_one}

-- the place of the first column of this name
abbrev pub column_place : List ℕ → List Column → Option ℕ
column_place name columns = position (λ c. same_text c.name name) columns

-- a column after these ones: a name that is no keyword and that none of these has
abbrev pub column_named : List Column → List ℕ → Kind → Option Column
column_named done name k =
    if (is_name name && not (is_keyword name)) && not (is_some (column_place name done))
    then Some (record { name = name; kind = k }) else None

-- `NAME KIND`
abbrev pub column_of : List Column → List ℕ → Option Column
column_of done text = option_and_then (λ w. option_and_then (column_named done w.0) (kind_of w.1)) (two_words text)

abbrev pub columns_after : List ℕ → List Column → List (List ℕ) → Answer (List Column)
columns_after channel done [] = Ok done
columns_after channel done (text ∷ texts) =
    some_or (fault.BadColumn channel) (column_of done text) >>= λ c.
    columns_after channel (done ++ c ∷ []) texts

-- BadColumn: there is no column, or one isn't `NAME KIND`, or its name isn't one, is a keyword or was used
-- before
abbrev pub columns_of : List ℕ → List (List ℕ) → Answer (List Column)
columns_of channel texts = at_least_one (fault.BadColumn channel) texts >>= λ _. columns_after channel [] texts

-- the place of a column that isn't in the key yet
abbrev pub place_if_new : List ℕ → ℕ → Option ℕ
place_if_new done place = if none_is place done then Some place else None

abbrev pub key_place : List Column → List ℕ → List ℕ → Option ℕ
key_place columns done name = option_and_then (place_if_new done) (column_place name columns)

abbrev pub key_after : List ℕ → List Column → List ℕ → List (List ℕ) → Answer (List ℕ)
key_after channel columns done [] = Ok done
key_after channel columns done (name ∷ names) =
    some_or (fault.BadKey channel) (key_place columns done name) >>= λ p.
    key_after channel columns (done ++ p ∷ []) names

-- BadKey: the key is empty, or names no column, or names one twice
abbrev pub key_of : List ℕ → List Column → List (List ℕ) → Answer (List ℕ)
key_of channel columns names =
    at_least_one (fault.BadKey channel) names >>= λ _.
    key_after channel columns [] names

-- the columns and then the key, the limit of each first
abbrev pub schema_of : List ℕ → List (List ℕ) → List (List ℕ) → Answer Shape
schema_of channel columns key =
    at_most (codes "columns") 32 (length columns) >>= λ _.
    columns_of channel columns >>= λ cs.
    at_most (codes "key") 8 (length key) >>= λ _.
    key_of channel cs key >>= λ places.
    Ok (record { columns = cs; key = places })

abbrev pub channel_place : List ℕ → List Channel → Option ℕ
channel_place name channels = position (λ c. same_text c.name name) channels

-- BadName: the name isn't one, or was used before
abbrev pub new_channel : List Channel → List ℕ → Answer (List ℕ)
new_channel done name =
    if is_name name && not (is_some (channel_place name done)) then Ok name else Err (fault.BadName (kept name))

abbrev pub channel_keys : List (List ℕ)
channel_keys = codes "name" ∷ codes "columns" ∷ codes "key" ∷ []

-- a channel after these ones; its writer is told later
abbrev pub channel_of : List Channel → Data → Answer Channel
channel_of done d =
    only channel_keys d >>= λ _.
    text_needed (codes "name") d >>= λ name.
    texts_needed (codes "columns") d >>= λ columns.
    texts_needed (codes "key") d >>= λ key.
    new_channel done name >>= λ name.
    schema_of name columns key >>= λ schema.
    Ok (record { name = name; schema = schema; writer = None; based = false })

abbrev pub channels_after : List Channel → List Data → Answer (List Channel)
channels_after done [] = Ok done
channels_after done (d ∷ ds) = channel_of done d >>= λ c. channels_after (done ++ c ∷ []) ds

abbrev pub channels_of : List Data → Answer (List Channel)
channels_of ds = channels_after [] ds

-- the faults as answers of a call
abbrev pub bad_column : List ℕ → Stop
bad_column channel = Fault (fault.BadColumn channel)

abbrev pub bad_key : List ℕ → Stop
bad_key channel = Fault (fault.BadKey channel)
