-- A load that is being read: what is kept of it in memory, and what its lines so far are.
use Rattle.std.specs.Prelude.{◌≡◌, ℕ, ◌^◌, ◌<◌, ◌≤◌, Bool, true, false, List, [], ◌∷◌, ◌++◌, length, Option, Some, None, Result, Ok, Err}
use Rattle.std.specs.List.{AllByRecursion, list_any}
use Rattle.nova_value.specs.Rows.{Shape}
use Rattle.nova_value.specs.Entries.{FitsEntry}
use Rattle.nova_value.specs.declared.schema.Entry.{Entry}
use Rattle.nova_delta.specs.Merge.{DeltaValue}
use Rattle.nova_script.specs.Forms.{is_too_long}
use Rattle.nova_script.specs.Session.{Surroundings, load_end}
use Rattle.nova_script.specs.declared.context.Request.{Request}
use Rattle.nova_script.specs.declared.context.Request.TheVariants as r
use Rattle.nova_script.specs.declared.refusal.Refusal.{Refusal}
use Rattle.nova_machine.specs.Workflow.{is_input, schema_in}
use Rattle.nova_machine.specs.State.{State}
use Rattle.nova_machine.specs.Steps.{load_delta}
use Rattle.nova_machine.specs.Commands.{around, bad_row, loaded_channel, read_rows, rows_for}
use Rattle.nova_building.specs.Building.{built_met}
use Rattle.nova_runner.specs.Around.{around_held}
use Rattle.nova_runner.specs.Held.{Held}
use Rattle.nova_engine.specs.declared.load.Pending.{Pending}
use Rattle.nova_engine.specs.declared.load.Pending.TheVariants.{Refused, Rows}
use Rattle.nova_engine.specs.declared.load.Rows.{Rows as KeptRows}

-- the numbers of what was met are in range: loads are of channels that no task writes, ticks don't go back, tasks that are to run or to begin aren't in flight, and those that are to be dropped are
abbrev pub IsMet : Surroundings → Result Request Refusal → Type 0
IsMet x (Ok (r.Load c)) = (c < length x.channels) × (x.has_writer c ≡ false)
IsMet x (Ok (r.Tick m)) = (x.moment ≤ m) × (m ≤ 2 ^ 62)
IsMet x (Ok (r.Run t)) = (t < length x.tasks) × (x.is_in_flight t ≡ false)
IsMet x (Ok (r.Begin t)) = (t < length x.tasks) × (x.is_in_flight t ≡ false)
IsMet x (Ok (r.Drop t)) = (t < length x.tasks) × (x.is_in_flight t ≡ true)
IsMet x (Ok (r.Show c)) = c < length x.channels
IsMet x (Ok _) = ⊥
IsMet x (Err refusal) = Unit {0}

abbrev pub AreMet : Surroundings → Option (Result Request Refusal) → Type 0
AreMet x None = Unit {0}
AreMet x (Some met) = IsMet x met

-- a load's own line, and the lines that it took
pub record Loading : Type 0 where
  pub line : List ℕ
  pub rows : List (List ℕ)

abbrev pub with_row : Loading → List ℕ → Loading
with_row load line = record { line = load.line; rows = load.rows ++ line ∷ [] }

-- what a load would ask for if its lines ended so
abbrev pub load_asks : State → Result Request Refusal → List (List ℕ) → Bool → Result Request Refusal
load_asks s met rows is_ended = load_end (list_any is_too_long rows) met (bad_row (rows_for s (loaded_channel met) rows)) is_ended

-- these rows are entries, and the delta is what a load of them makes
pub record AreRead (schema : Shape) (rows : List (List ℕ)) (lines : ℕ) (delta : DeltaValue) : Type 0 where
  pub short : list_any is_too_long rows ≡ false
  pub entries : List Entry
  pub read : read_rows schema 1 rows ≡ Ok entries
  pub fit : AllByRecursion (FitsEntry schema) entries
  pub made : delta ≡ record { schema = schema; entries = load_delta schema entries }
  pub counted : lines ≡ length rows

-- a load into this channel, all of whose lines so far are rows
pub record IsRead (s : State) (met : Result Request Refusal) (rows : List (List ℕ)) (channel lines : ℕ) (delta : DeltaValue) : Type 0 where
  pub asks : met ≡ Ok (r.Load channel)
  pub in_range : channel < length s.flow.channels
  pub input : is_input s.flow channel ≡ true
  pub are : AreRead (schema_in s.flow channel) rows lines delta

-- what is kept stands for a load whose line met this, and whose lines so far are these
abbrev pub HoldsRows : State → Pending → Result Request Refusal → List (List ℕ) → Type 0
HoldsRows s (Refused refusal) met rows = load_asks s met rows true ≡ Err refusal
HoldsRows s (Rows kept) met rows = IsRead s met rows kept.channel kept.lines kept.delta

pub record HoldsLoad (s : State) (pending : Pending) (load : Loading) : Type 0 where
  pub met : Result Request Refusal
  pub is : built_met (around s) load.line ≡ Some met
  pub rows : HoldsRows s pending met load.rows

abbrev pub HoldsPending : State → Option Pending → Option Loading → Type 0
HoldsPending s None None = Unit {0}
HoldsPending s None (Some load) = ⊥
HoldsPending s (Some pending) None = ⊥
HoldsPending s (Some pending) (Some load) = HoldsLoad s pending load

-- a channel of the store that no task writes, and a delta of its schema
abbrev pub FitsStore : Held → Option Pending → Type 0
FitsStore store load = (rows : KeptRows) → load ≡ Some (Rows rows) → (rows.channel < length store.flow.channels) × (rows.delta.schema ≡ schema_in store.flow rows.channel) × (is_input store.flow rows.channel ≡ true)

-- how many lines a load has, where they are counted
abbrev pub line_count : Option Pending → ℕ
line_count None = 0
line_count (Some (Refused refusal)) = 0
line_count (Some (Rows rows)) = rows.lines

-- ---- as clauses

-- rows with this delta, from so many lines
abbrev pub HasRows : Pending → ℕ → DeltaValue → ℕ → Type 0
HasRows (Refused refusal) channel delta lines = ⊥
HasRows (Rows rows) channel delta lines = (rows.channel ≡ channel) × (rows.delta ≡ delta) × (rows.lines ≡ lines)

-- rows of the same channel and schema, where they are rows still
abbrev pub KeepsSchema : Pending → Pending → Type 0
KeepsSchema old (Refused refusal) = Unit {0}
KeepsSchema (Refused refusal) (Rows rows) = ⊥
KeepsSchema (Rows old) (Rows new) = (new.channel ≡ old.channel) × (new.delta.schema ≡ old.delta.schema)

-- what the line of a load meets: a channel to load, or a refusal
abbrev pub IsLoadMet : Result Request Refusal → Type 0
IsLoadMet (Ok (r.Load c)) = Unit {0}
IsLoadMet (Ok _) = ⊥
IsLoadMet (Err refusal) = Unit {0}

-- a load without lines, in each state with the workflow and the surroundings of the store
abbrev pub BeginsLoad : Held → Result Request Refusal → Pending → Type 0
BeginsLoad store met new = (s : State) → store.flow ≡ s.flow → around_held store ≡ around s → HoldsRows s new met []

-- a line more of a load, of which no more may be held than shows that it is over the limit
abbrev pub TakesRow : Pending → Pending → List ℕ → Type 0
TakesRow old new line =
    (s : State) (met : Result Request Refusal) (rows : List (List ℕ)) → HoldsRows s old met rows → HoldsRows s new met (rows ++ line ∷ [])
