-- What a run of a task reads: each input, from where it begins to the version that the run captured.
use Rattle.std.specs.Prelude.{◌⊎◌, ℕ, suc, ◌<◌, List, [], ◌∷◌, length, map, if◌then◌else◌, slice_index_or, sum_by}
use Rattle.std.specs.List.{AllByRecursion}
use Rattle.nova_value.specs.Rows.{Shape}
use Rattle.nova_outside.specs.Disk.{Files}
use Rattle.nova_delta.specs.Merge.{EntryMap, TableValue}
use Rattle.nova_path.specs.Shelf.{HasPath}
use Rattle.nova_path.specs.Intervals.{spans}
use Rattle.nova_path.specs.declared.interval.Interval.{Interval}
use Rattle.nova_workflow.specs.declared.flow.Channel.{Channel}
use Rattle.nova_workflow.specs.declared.flow.Input.{Input}
use Rattle.nova_workflow.specs.declared.flow.Task.{Task}
use Rattle.nova_meta.specs.declared.wiring.Edge.{Edge}
use Rattle.nova_block.specs.declared.fault.BlockFault.{BlockFault}
use Rattle.nova_block.specs.declared.fault.BlockFault.TheVariants.{Disk, Damaged, NoMemory}
use Rattle.nova_meta.specs.Catalog.{Entered, captured, progress_at, shelf_at}
use Rattle.nova_machine.specs.Workflow.{is_new, no_channel}
use Rattle.nova_channel.specs.Reading.{AreNumbered, AreRead, HasReadTable, IsDamage, IsRoute, ReadTold, route_size}

-- a channel, from one version to another
pub record Read : Type 0 where
  pub channel : ℕ
  pub from : ℕ
  pub to : ℕ

-- an input of a task, as catalogs have it: its channel, and whether it is read as what is new
abbrev pub edge_of : Input → Edge
edge_of i = record { channel = i.channel; new = is_new i.mode }

abbrev pub edges_of : Task → List Edge
edges_of t = map edge_of t.inputs

-- these inputs, the first of which is the k-th, to these versions: what is new from where the input stands, all from version 0
abbrev pub reads_from : (ℕ → ℕ) → ℕ → List Edge → List ℕ → List Read
reads_from cursor k [] versions = []
reads_from cursor k (e ∷ es) [] = []
reads_from cursor k (e ∷ es) (v ∷ vs) = record { channel = e.channel; from = if e.new then cursor k else 0; to = v } ∷ reads_from cursor (suc k) es vs

-- what a run of a task with these inputs reads that captured these versions
abbrev pub run_reads : List Edge → Entered → ℕ → List ℕ → List Read
run_reads edges cat t versions = reads_from (captured (progress_at cat t).last) 0 edges versions

-- each of these inputs whole
abbrev pub whole : Input → ℕ → Read
whole i v = record { channel = i.channel; from = 0; to = v }

abbrev pub whole_reads : List Input → List ℕ → List Read
whole_reads [] versions = []
whole_reads (i ∷ is) [] = []
whole_reads (i ∷ is) (v ∷ vs) = whole i v ∷ whole_reads is vs

abbrev pub schema_at : List Channel → ℕ → Shape
schema_at channels c = (slice_index_or channels c no_channel).schema

abbrev pub intervals_at : Entered → ℕ → List Interval
intervals_at cat c = (shelf_at cat c).intervals

-- a path of blocks that have files leads from where it begins to where it ends
pub record HasRoute (cat : Entered) (r : Read) : Type 0 where
  pub channel : r.channel < length cat.channels
  pub numbered : AreNumbered (intervals_at cat r.channel)
  pub path : HasPath (spans (intervals_at cat r.channel)) r.from r.to

-- how many bytes the blocks on the chosen path have, and those of several reads
abbrev pub read_size : Entered → Read → ℕ
read_size cat r = route_size (intervals_at cat r.channel) r.from r.to

abbrev pub reads_size : Entered → List Read → ℕ
reads_size cat reads = sum_by (read_size cat) reads

-- ---- what files have of reads

-- each file on the chosen path is a block
pub record IsWhole (s : Shape) (files : Files) (shelf : List Interval) (from to : ℕ) : Type 0 where
  pub route : List Interval
  pub chosen : IsRoute shelf from to route
  pub blocks : List EntryMap
  pub read : AreRead s files route blocks

-- so it is with several reads
abbrev pub AreWhole : List Channel → Entered → Files → List Read → Type 0
AreWhole channels cat files rs = AllByRecursion (λ (r : Read). IsWhole (schema_at channels r.channel) files (intervals_at cat r.channel) r.from r.to) rs

-- the first file on the chosen path that is none
abbrev pub IsDamaged : List Channel → Entered → Files → Read → ℕ → ℕ → Type 0
IsDamaged channels cat files r file at = IsDamage (schema_at channels r.channel) files (intervals_at cat r.channel) r.from r.to file at

-- of several reads, that of the first on whose path there is one
abbrev pub IsReadDamage : List Channel → Entered → Files → List Read → ℕ → ℕ → Type 0
IsReadDamage channels cat files [] file at = ⊥
IsReadDamage channels cat files (r ∷ rs) file at =
    IsDamaged channels cat files r file at
    ⊎ (IsWhole (schema_at channels r.channel) files (intervals_at cat r.channel) r.from r.to × IsReadDamage channels cat files rs file at)

-- what is told of a fault, where the host tells its files
abbrev pub OneTold : List Channel → Entered → Files → Read → BlockFault → Type 0
OneTold channels cat files r fault = ReadTold (schema_at channels r.channel) files (intervals_at cat r.channel) r.from r.to fault

abbrev pub RunTold : List Channel → Entered → Files → List Read → BlockFault → Type 0
RunTold channels cat files reads Disk = Unit {0}
RunTold channels cat files reads (Damaged file at) = IsReadDamage channels cat files reads file at
RunTold channels cat files reads NoMemory = Unit {0}

-- the table that a read from version 0 gives, and those of several
abbrev pub IsTable : List Channel → Entered → Files → Read → TableValue → Type 0
IsTable channels cat files r t = HasReadTable (schema_at channels r.channel) files (intervals_at cat r.channel) r.to t.rows

abbrev pub AreTables : List Channel → Entered → Files → List Read → List TableValue → Type 0
AreTables channels cat files [] [] = Unit {0}
AreTables channels cat files [] (t ∷ ts) = ⊥
AreTables channels cat files (r ∷ rs) [] = ⊥
AreTables channels cat files (r ∷ rs) (t ∷ ts) = IsTable channels cat files r t × AreTables channels cat files rs ts
