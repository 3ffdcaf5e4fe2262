-- What a store in memory is seen as.
use Rattle.std.specs.Prelude.{List, Option}
use Rattle.nova_journal.specs.Extent.{Extent}
use Rattle.nova_meta.specs.declared.captured.Captured.{Captured}
use Rattle.nova_meta.specs.Catalog.{Entered}
use Rattle.nova_machine.specs.Workflow.{Workflow}

-- the open journal, the workflow, the catalog, and of each task what its execution in flight captured, or none
pub record Held : Type 0 where
  pub journal : Extent
  pub flow : Workflow
  pub catalog : Entered
  pub flight : List (Option Captured)
