-- The block of a task that goes row by row: what is new of its main input, over the whole tables of the others.
use Rattle.std.specs.Prelude.{◌≡◌, ℕ, suc, ◌==◌, List, ◌∷◌, ◌++◌, map, take, drop, slice_index_or, if◌then◌else◌}
use Rattle.nova_outside.specs.Disk.{Files}
use Rattle.nova_delta.specs.Merge.{DeltaValue, TableValue, puts}
use Rattle.nova_delta.specs.Listed.{rows_of}
use Rattle.nova_workflow.specs.declared.flow.Channel.{Channel}
use Rattle.nova_workflow.specs.declared.flow.Input.{Input}
use Rattle.nova_pig_algebra.specs.Plan.{Plan, tree_of_plan}
use Rattle.nova_meta.specs.Catalog.{Entered, captured, progress_at}
use Rattle.nova_machine.specs.Workflow.{no_input}
use Rattle.nova_channel.specs.Reading.{HasRead}
use Rattle.nova_rowwise.specs.Derived.{derived, main_of}
use Rattle.nova_execution.specs.Reads.{AreTables, Read, intervals_at, schema_at, whole_reads}

-- what is new of an input since a version
abbrev pub since : Input → ℕ → ℕ → Read
since i from v = record { channel = i.channel; from = from; to = v }

-- the k-th of these inputs from a version on, and the others whole
abbrev pub row_reads : ℕ → ℕ → List Input → List ℕ → List Read
row_reads k from is vs =
    whole_reads (take k is) (take k vs) ++ since (slice_index_or is k no_input) from (slice_index_or vs k 0) ∷ whole_reads (drop (suc k) is) (drop (suc k) vs)

-- the blocks that a read gives, chained: a delta of the channel
abbrev pub IsNew : List Channel → Entered → Files → Read → DeltaValue → Type 0
IsNew channels cat files r d =
    (d.schema ≡ schema_at channels r.channel) × HasRead (schema_at channels r.channel) files (intervals_at cat r.channel) r.from r.to d.entries

-- what a run of a task with these inputs reads whose plan goes row by row: the main input from its cursor on
abbrev pub plan_reads : Entered → ℕ → Plan → List Input → List ℕ → List Read
plan_reads cat t p is vs = let k = main_of (tree_of_plan p) in row_reads k (captured (progress_at cat t).last k) is vs

-- these are what is new of the k-th input, and the tables of the others in their order
pub record AreRowInputs (channels : List Channel) (cat : Entered) (files : Files) (k from : ℕ) (is : List Input) (vs : List ℕ) (new : DeltaValue) (lookups : List TableValue) : Type 0 where
  pub before : List TableValue
  pub behind : List TableValue
  pub parts : lookups ≡ before ++ behind
  pub first : AreTables channels cat files (whole_reads (take k is) (take k vs)) before
  pub main : IsNew channels cat files (since (slice_index_or is k no_input) from (slice_index_or vs k 0)) new
  pub rest : AreTables channels cat files (whole_reads (drop (suc k) is) (drop (suc k) vs)) behind

-- the block of a delta that makes the version behind this one: the first has no removals
abbrev pub block_behind : ℕ → DeltaValue → DeltaValue
block_behind n d = record { schema = d.schema; entries = if n == 0 then puts d.entries else d.entries }

-- a block is that of what a plan derives of the reads of a run of a task, behind version n of its output
pub record IsDerived (channels : List Channel) (cat : Entered) (files : Files) (t : ℕ) (is : List Input) (vs : List ℕ) (p : Plan) (n : ℕ) (d : DeltaValue) : Type 0 where
  pub new : DeltaValue
  pub lookups : List TableValue
  pub are : (let k = main_of (tree_of_plan p) in AreRowInputs channels cat files k (captured (progress_at cat t).last k) is vs new lookups)
  pub block : d ≡ block_behind n (derived p (map rows_of lookups) new)
