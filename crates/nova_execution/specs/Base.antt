-- The block that leads from no rows to a table, and that of a task that computes everything.
use Rattle.std.specs.Prelude.{◌≡◌, List, Option, Some}
use Rattle.nova_outside.specs.Disk.{Files}
use Rattle.nova_value.specs.declared.value.Value.{Value}
use Rattle.nova_value.specs.declared.schema.Entry.{Entry}
use Rattle.nova_value.specs.declared.schema.Entry.TheVariants.{Put}
use Rattle.nova_value.specs.Order.{key_cmp}
use Rattle.nova_delta.specs.Mapped.{mapped}
use Rattle.nova_delta.specs.Merge.{DeltaValue, EntryMap, RowMap, TableValue}
use Rattle.nova_workflow.specs.declared.flow.Channel.{Channel}
use Rattle.nova_pig_algebra.specs.Plan.{Plan}
use Rattle.nova_pig_eval.specs.Stored.{stored}
use Rattle.nova_meta.specs.Catalog.{Entered}
use Rattle.nova_execution.specs.Reads.{AreTables, Read}

abbrev pub some_put : List Value → Option Entry
some_put row = Some (Put row)

-- a put of each row, at its key
abbrev pub puts_of : RowMap → EntryMap
puts_of rows = mapped key_cmp some_put rows

abbrev pub base_of : TableValue → DeltaValue
base_of t = record { schema = t.schema; entries = puts_of t.rows }

-- a block is that of what a plan makes of the tables that these reads give
pub record IsComputed (channels : List Channel) (cat : Entered) (files : Files) (reads : List Read) (p : Plan) (d : DeltaValue) : Type 0 where
  pub tables : List TableValue
  pub are : AreTables channels cat files reads tables
  pub is : d ≡ base_of (stored p tables)
