-- What a load's commit is of its state.
use Rattle.std.specs.Prelude.{◌≡◌, ℕ, ◌+◌, ◌<◌, true, List, length}
use Rattle.nova_value.specs.declared.schema.Entry.{Entry}
use Rattle.nova_delta.specs.Merge.{DeltaValue}
use Rattle.nova_row_codec.specs.Spelling.{spelling_of}
use Rattle.nova_meta.specs.Catalog.{Entered, applied, shelf_at}
use Rattle.nova_meta.specs.Shelves.{IsShelved}
use Rattle.nova_meta.specs.Named.{Channel}
use Rattle.nova_commit.specs.declared.commit.Commit.TheVariants as commit
use Rattle.nova_machine.specs.Workflow.{is_input, schema_in}
use Rattle.nova_machine.specs.State.{State, newest}
use Rattle.nova_machine.specs.Steps.{Load, after, load_delta}
use Rattle.nova_runner.specs.Acts.{load_block}
use Rattle.nova_runner.specs.Files.{bytes_of}
use Rattle.nova_runner.specs.Stands.{drawn, sketch}
use Rattle.nova_runner.specs.Texts.{HasFlow}
use Rattle.nova_runner.specs.Workflow.{wiring_of}

-- the catalog behind the commit draws the state behind the load
abbrev pub LoadsDraw : Type 0
LoadsDraw = (cat : Entered) (s : State) (c b z : ℕ) (entries : List Entry) → HasFlow s.flow.text s.flow → cat.wiring ≡ wiring_of s.flow →
    is_input s.flow c ≡ true → IsShelved (shelf_at cat c) → drawn cat ≡ sketch s → drawn (applied cat (commit.Load c b z)) ≡ sketch (after s (Load c entries))

-- and the block that it brings is that of the new version
abbrev pub LoadsBring : Type 0
LoadsBring = (cat : Entered) (s : State) (c : ℕ) (entries : List Entry) (delta : DeltaValue) → c < length s.channels → is_input s.flow c ≡ true → drawn cat ≡ sketch s →
    delta ≡ record { schema = schema_in s.flow c; entries = load_delta (schema_in s.flow c) entries } →
    spelling_of (load_block cat c delta) ≡ bytes_of (after s (Load c entries)) (Channel c (newest s c) (newest s c + 1))
