-- Reads in turn: their tables, and the first damage.
use Rattle.std.proofs.Common.{◌≡◌, ◌⊎◌, inl, inr, ℕ, zero, suc, ◌+◌, ◌<◌, ◌≤◌, Bool, List, [], ◌∷◌, ◌++◌, length, map, take, drop, get_or, Result, Ok, Err, refl, ap, sym, ◌∙◌, subst, arith, if◌then◌else◌}
use Rattle.std.specs.List.{AllByRecursion}
use Rattle.std.proofs.lemmas.List.{map-append, take_more}
use Rattle.std.proofs.lemmas.List.Sums.{sum_by-append, sum_by-cons}
use Rattle.nova_value.specs.Rows.{Shape}
use Rattle.nova_outside.specs.Disk.{Files}
use Rattle.nova_delta.specs.Merge.{DeltaValue, TableValue}
use Rattle.nova_path.specs.declared.interval.Interval.{Interval}
use Rattle.nova_workflow.specs.declared.flow.Channel.{Channel}
use Rattle.nova_workflow.specs.declared.flow.Input.{Input}
use Rattle.nova_workflow.specs.declared.flow.Mode.{Mode}
use Rattle.nova_workflow.specs.declared.flow.Mode.TheVariants as mode
use Rattle.nova_block.specs.declared.fault.BlockFault.{BlockFault}
use Rattle.nova_block.specs.declared.fault.BlockFault.TheVariants.{Disk, Damaged, NoMemory}
use Rattle.nova_meta.specs.Catalog.{Entered}
use Rattle.nova_workflow.specs.declared.flow.Flow.{Flow}
use Rattle.nova_pig_pattern.specs.Table.{AreAll}
use Rattle.nova_admit.specs.Flows.{input_of, is_new as seen_new}
use Rattle.nova_machine.specs.Workflow.{is_new}
use Rattle.std.specs.Result.{IfOk, OnOk}
use Rattle.nova_path.specs.Intervals.{AreApart}
use Rattle.nova_channel.specs.Reading.{HasRead, HasReadTable, IsDamage}
use Rattle.nova_channel.proofs.Whole.{reads_are_whole, tables_are_whole}
use Rattle.nova_execution.specs.Reads.{AreTables, IsDamaged, IsReadDamage, IsTable, IsWhole, OneTold, Read, RunTold, edge_of, intervals_at, read_size, reads_from, reads_size, schema_at, whole, whole_reads}

abbrev pub no_read : Read
no_read = record { channel = 0; from = 0; to = 0 }

-- ---- the reads of inputs that are read whole

pub same_new : (m : Mode) → seen_new m ≡ is_new m
same_new mode.New = refl
same_new mode.All = refl

pub all_whole : (f : Flow) (cursor : ℕ → ℕ) (k : ℕ) (is : List Input) (vs : List ℕ) → AreAll (map (input_of f) is) → reads_from cursor k (map edge_of is) vs ≡ whole_reads is vs
all_whole f cursor k [] vs old = refl
all_whole f cursor k (i ∷ is) [] old = refl
all_whole f cursor k (i ∷ is) (v ∷ vs) old =
    let from : (if is_new i.mode then cursor k else 0) ≡ 0 = ap (λ (b : Bool). if b then cursor k else 0) (sym (same_new i.mode) ∙ old.0) in
    let rest = all_whole f cursor (suc k) is vs old.1 in
    λ n. record { channel = i.channel; from = from n; to = v } ∷ rest n

pub as_many : (is : List Input) (vs : List ℕ) → length vs ≡ length is → length (whole_reads is vs) ≡ length is
as_many [] vs long = refl
as_many (i ∷ is) [] long = absurd (omega (arith, long))
as_many (i ∷ is) (v ∷ vs) long = let rest = as_many is vs (omega (arith, long)) in omega (arith, rest)

pub nth_read : (is : List Input) (vs : List ℕ) (k : ℕ) (d : Input) → length vs ≡ length is → k < length is → get_or (whole_reads is vs) k no_read ≡ whole (get_or is k d) (get_or vs k 0)
nth_read [] vs k d long lt = absurd (omega (arith, lt))
nth_read (i ∷ is) [] k d long lt = absurd (omega (arith, long))
nth_read (i ∷ is) (v ∷ vs) zero d long lt = refl
nth_read (i ∷ is) (v ∷ vs) (suc k) d long lt = nth_read is vs k d (omega (arith, long)) (omega arith)

-- ---- one read more

pub split_at : (rs : List Read) (k : ℕ) → k < length rs → rs ≡ take k rs ++ get_or rs k no_read ∷ drop (suc k) rs
split_at [] k lt = absurd (omega (arith, lt))
split_at (r ∷ rs) zero lt = refl
split_at (r ∷ rs) (suc k) lt = ap (λ (xs : List Read). r ∷ xs) (split_at rs k (omega arith))

module _ (channels : List Channel) (cat : Entered) (files : Files) where
  pub whole_of : (r : Read) (t : TableValue) → IsTable channels cat files r t → r.from ≡ 0 → IsWhole (schema_at channels r.channel) files (intervals_at cat r.channel) r.from r.to
  whole_of r t is from = subst (λ n. IsWhole (schema_at channels r.channel) files (intervals_at cat r.channel) n r.to) (sym from)
      (record { route = is.route; chosen = is.chosen; blocks = is.merges.blocks; read = is.merges.read })

  abbrev pub FromNothing : List Read → Type 0
  FromNothing rs = AllByRecursion (λ (r : Read). r.from ≡ 0) rs

  pub tables_more : (rs : List Read) (ts : List TableValue) (r : Read) (t : TableValue) → AreTables channels cat files rs ts → IsTable channels cat files r t → AreTables channels cat files (rs ++ r ∷ []) (ts ++ t ∷ [])
  tables_more [] [] r t are is = (is, tt)
  tables_more [] (u ∷ ts) r t are is = absurd are
  tables_more (x ∷ rs) [] r t are is = absurd are
  tables_more (x ∷ rs) (u ∷ ts) r t are is = (are.0, tables_more rs ts r t are.1 is)

  -- damage of reads behind some whose tables were read
  pub damage_behind : (rs : List Read) (ts : List TableValue) (later : List Read) (file at : ℕ) → FromNothing rs → AreTables channels cat files rs ts → IsReadDamage channels cat files later file at → IsReadDamage channels cat files (rs ++ later) file at
  damage_behind [] [] later file at from are bad = bad
  damage_behind [] (t ∷ ts) later file at from are bad = absurd are
  damage_behind (r ∷ rs) [] later file at from are bad = absurd are
  damage_behind (r ∷ rs) (t ∷ ts) later file at from are bad =
      inr (whole_of r t are.0 from.0, damage_behind rs ts later file at from.1 are.1 bad)

  -- and of a read that is the last one
  pub damage_of : (rs : List Read) (r : Read) (file at : ℕ) → IsReadDamage channels cat files (rs ++ r ∷ []) file at → IsReadDamage channels cat files rs file at ⊎ IsDamaged channels cat files r file at
  damage_of [] r file at (inl bad) = inr bad
  damage_of [] r file at (inr more) = absurd more.1
  damage_of (x ∷ rs) r file at (inl bad) = inl (inl bad)
  damage_of (x ∷ rs) r file at (inr more) = elim (damage_of rs r file at more.1) as (λ _. IsReadDamage channels cat files (x ∷ rs) file at ⊎ IsDamaged channels cat files r file at) [
    | inl before ↦ inl (inr (more.0, before))
    | inr here ↦ inr here
  ]

  -- what is told of a read is told of all
  pub told_behind : (all rs : List Read) (ts : List TableValue) (r : Read) (later : List Read) (fault : BlockFault) → all ≡ rs ++ r ∷ later → FromNothing rs → AreTables channels cat files rs ts → OneTold channels cat files r fault → RunTold channels cat files all fault
  told_behind all rs ts r later Disk is from are told = tt
  told_behind all rs ts r later (Damaged file at) is from are told = subst (λ (xs : List Read). IsReadDamage channels cat files xs file at) (sym is) (damage_behind rs ts (r ∷ later) file at from are (inl told))
  told_behind all rs ts r later NoMemory is from are told = tt

pub from_nothing : (is : List Input) (vs : List ℕ) (k : ℕ) → AllByRecursion (λ (r : Read). r.from ≡ 0) (take k (whole_reads is vs))
from_nothing is vs zero = tt
from_nothing [] vs (suc k) = tt
from_nothing (i ∷ is) [] (suc k) = tt
from_nothing (i ∷ is) (v ∷ vs) (suc k) = (refl, from_nothing is vs k)

-- a table that was read has no damage
pub whole_if : (s : Shape) (files : Files) (shelf : List Interval) (to : ℕ) (r : Result TableValue BlockFault) → AreApart shelf → IfOk r (λ t. HasReadTable s files shelf to t.rows) → OnOk r ((file at : ℕ) → IsDamage s files shelf 0 to file at → ⊥)
whole_if s files shelf to (Ok t) apart is = λ file at damage. tables_are_whole s files shelf to t.rows file at apart is damage
whole_if s files shelf to (Err e) apart is = tt

-- and so with what is new
pub new_whole_if : (s : Shape) (files : Files) (shelf : List Interval) (from to : ℕ) (r : Result DeltaValue BlockFault) → AreApart shelf → IfOk r (λ d. HasRead s files shelf from to d.entries) → OnOk r ((file at : ℕ) → IsDamage s files shelf from to file at → ⊥)
new_whole_if s files shelf from to (Ok d) apart is = λ file at damage. reads_are_whole s files shelf from to d.entries file at apart is damage
new_whole_if s files shelf from to (Err e) apart is = tt

-- ---- their sizes

pub size_more : (cat : Entered) (rs : List Read) (k : ℕ) → k < length rs → reads_size cat (take (k + 1) rs) ≡ reads_size cat (take k rs) + read_size cat (get_or rs k no_read)
size_more cat rs k lt =
    let r = get_or rs k no_read in
    let both = sum_by-append (read_size cat) (take k rs) (r ∷ []) in
    let one = sum_by-cons (read_size cat) r [] in
    ap (reads_size cat) (take_more rs k no_read lt) ∙ omega (arith, both, one)

pub size_within : (cat : Entered) (rs : List Read) (k : ℕ) → k < length rs → reads_size cat (take k rs) + read_size cat (get_or rs k no_read) ≤ reads_size cat rs
size_within cat rs k lt =
    let r = get_or rs k no_read in
    let all = ap (reads_size cat) (split_at rs k lt) in
    let both = sum_by-append (read_size cat) (take k rs) (r ∷ drop (suc k) rs) in
    let one = sum_by-cons (read_size cat) r (drop (suc k) rs) in
    omega (arith, all, both, one)

-- ---- their schemas

pub schemas_more : (channels : List Channel) (is : List Input) (ts : List TableValue) (k : ℕ) (d : Input) (t : TableValue) → k < length is → map (λ (x : TableValue). x.schema) ts ≡ map (λ (i : Input). schema_at channels i.channel) (take k is) →
    t.schema ≡ schema_at channels (get_or is k d).channel → map (λ (x : TableValue). x.schema) (ts ++ t ∷ []) ≡ map (λ (i : Input). schema_at channels i.channel) (take (k + 1) is)
schemas_more channels is ts k d t lt same one =
    map-append (λ (x : TableValue). x.schema) ts (t ∷ [])
    ∙ (λ n. same n ++ one n ∷ [])
    ∙ sym (map-append (λ (i : Input). schema_at channels i.channel) (take k is) (get_or is k d ∷ []))
    ∙ ap (map (λ (i : Input). schema_at channels i.channel)) (sym (take_more is k d lt))
