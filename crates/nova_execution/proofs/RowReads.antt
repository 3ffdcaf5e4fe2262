-- The reads of a task that goes row by row: the inputs before the main one, that one from its cursor on, and those behind it.
use Rattle.std.proofs.Common.{◌≡◌, ◌⊎◌, inl, inr, ℕ, zero, suc, ◌+◌, ◌-◌, ◌<◌, Bool, List, [], ◌∷◌, ◌++◌, length, map, take, drop, get_or, refl, ap, sym, ◌∙◌, arith, if◌then◌else◌}
use Rattle.std.specs.List.{All, AllByRecursion}
use Rattle.std.proofs.lemmas.List.Elements.{All-cons, All-head, All-nil, All-tail}
use Rattle.std.proofs.lemmas.List.{take_rest}
use Rattle.std.proofs.lemmas.List.Sums.{sum_by-append, sum_by-cons}
use Rattle.nova_value.specs.Rows.{Shape}
use Rattle.nova_outside.specs.Disk.{Files}
use Rattle.nova_delta.specs.Merge.{DeltaValue, TableValue}
use Rattle.nova_workflow.specs.declared.flow.Channel.{Channel}
use Rattle.nova_workflow.specs.declared.flow.Flow.{Flow}
use Rattle.nova_workflow.specs.declared.flow.Input.{Input}
use Rattle.nova_block.specs.declared.fault.BlockFault.{BlockFault}
use Rattle.nova_block.specs.declared.fault.BlockFault.TheVariants.{Disk, Damaged, NoMemory}
use Rattle.nova_pig_pattern.specs.Table.{IsMain}
use Rattle.nova_admit.specs.Flows.{input_of}
use Rattle.nova_meta.specs.Catalog.{Entered}
use Rattle.nova_machine.specs.Workflow.{is_new, no_input, no_schema}
use Rattle.nova_rowwise.specs.Derived.{put_at}
use Rattle.nova_execution.specs.Reads.{AreTables, AreWhole, IsDamaged, IsReadDamage, IsWhole, OneTold, Read, RunTold, edge_of, intervals_at, read_size, reads_from, reads_size, schema_at, whole_reads}
use Rattle.nova_execution.specs.Rows.{IsNew, row_reads, since}
use Rattle.nova_execution.proofs.Reading.{all_whole, same_new, whole_of}

-- ---- they are what a run of the task reads

row_reads_are : (f : Flow) (cursor : ℕ → ℕ) (k : ℕ) (is : List Input) (vs : List ℕ) (main : ℕ) → length vs ≡ length is → IsMain (map (input_of f) is) main → reads_from cursor k (map edge_of is) vs ≡ row_reads main (cursor (k + main)) is vs
row_reads_are f cursor k [] vs main long new = absurd new
row_reads_are f cursor k (i ∷ is) [] main long new = absurd (omega (arith, long))
row_reads_are f cursor k (i ∷ is) (v ∷ vs) zero long new =
    let here : k ≡ k + 0 = omega arith in
    let from : (if is_new i.mode then cursor k else 0) ≡ cursor (k + 0) = ap (λ (b : Bool). if b then cursor k else 0) (sym (same_new i.mode) ∙ new.0) ∙ ap cursor here in
    let rest = all_whole f cursor (suc k) is vs new.1 in
    λ n. record { channel = i.channel; from = from n; to = v } ∷ rest n
row_reads_are f cursor k (i ∷ is) (v ∷ vs) (suc main) long new =
    let from : (if is_new i.mode then cursor k else 0) ≡ 0 = ap (λ (b : Bool). if b then cursor k else 0) (sym (same_new i.mode) ∙ new.0) in
    let next : suc k + main ≡ k + suc main = omega arith in
    let rest = row_reads_are f cursor (suc k) is vs main (omega (arith, long)) new.1 ∙ ap (λ (c : ℕ). row_reads main (cursor c) is vs) next in
    λ n. record { channel = i.channel; from = from n; to = v } ∷ rest n

pub first_row_reads : (f : Flow) (cursor : ℕ → ℕ) (is : List Input) (vs : List ℕ) (main : ℕ) → length vs ≡ length is → IsMain (map (input_of f) is) main → reads_from cursor 0 (map edge_of is) vs ≡ row_reads main (cursor main) is vs
first_row_reads f cursor is vs main long new =
    let here : 0 + main ≡ main = omega arith in
    row_reads_are f cursor 0 is vs main long new ∙ ap (λ (n : ℕ). row_reads main (cursor n) is vs) here

-- the main input is one of them
pub main_within : (f : Flow) (is : List Input) (main : ℕ) → IsMain (map (input_of f) is) main → main < length is
main_within f [] main new = absurd new
main_within f (i ∷ is) zero new = omega arith
main_within f (i ∷ is) (suc main) new = let rest = main_within f is main new.1 in omega (arith, rest)

-- ---- what stands of a list around one place

-- the schemas of all inputs, by those of the main one and of the others
pub placed : (channels : List Channel) (is : List Input) (k : ℕ) (s : Shape) (others : List Shape) → k < length is → s ≡ schema_at channels (get_or is k no_input).channel →
    others ≡ map (λ (i : Input). schema_at channels i.channel) (take k is ++ drop (suc k) is) → put_at no_schema k others s ≡ map (λ (i : Input). schema_at channels i.channel) is
placed channels is k s others lt main rest = (λ n. put_at no_schema k (rest n) (main n)) ∙ go is k lt
  where
    go : (is : List Input) (k : ℕ) → k < length is → put_at no_schema k (map (λ (i : Input). schema_at channels i.channel) (take k is ++ drop (suc k) is)) (schema_at channels (get_or is k no_input).channel) ≡ map (λ (i : Input). schema_at channels i.channel) is
    go [] k lt = absurd (omega (arith, lt))
    go (i ∷ is) zero lt = refl
    go (i ∷ is) (suc k) lt = ap (λ (ss : List Shape). schema_at channels i.channel ∷ ss) (go is k (omega (arith, lt)))

-- a slice behind a place
pub sliced : {X : Type 0} (xs : List X) (k : ℕ) → take (length xs - (k + 1)) (drop (k + 1) xs) ≡ drop (suc k) xs
sliced xs k = let next : k + 1 ≡ suc k = omega arith in take_rest xs (k + 1) ∙ ap (λ (n : ℕ). drop n xs) next

-- ---- paths, sizes and faults, part by part

All-front : {X : Type 0} (P : X → Type 0) (xs ys : List X) → All P (xs ++ ys) → All P xs
All-front P [] ys all = All-nil P
All-front P (x ∷ xs) ys all = All-cons P x xs (All-head P x (xs ++ ys) all) (All-front P xs ys (All-tail P x (xs ++ ys) all))

All-behind : {X : Type 0} (P : X → Type 0) (xs ys : List X) → All P (xs ++ ys) → All P ys
All-behind P [] ys all = all
All-behind P (x ∷ xs) ys all = All-behind P xs ys (All-tail P x (xs ++ ys) all)

pub size_of_parts : (cat : Entered) (before : List Read) (r : Read) (behind : List Read) → reads_size cat (before ++ r ∷ behind) ≡ reads_size cat before + read_size cat r + reads_size cat behind
size_of_parts cat before r behind =
    let both = sum_by-append (read_size cat) before (r ∷ behind) in
    let one = sum_by-cons (read_size cat) r behind in
    omega (arith, both, one)

module _ (P : Read → Type 0) (main from : ℕ) (is : List Input) (vs : List ℕ) (all : All P (row_reads main from is vs)) where
  abbrev pub before : List Read
  before = whole_reads (take main is) (take main vs)

  abbrev pub there : Read
  there = since (get_or is main no_input) from (get_or vs main 0)

  abbrev pub behind : List Read
  behind = whole_reads (drop (suc main) is) (drop (suc main) vs)

  pub all_before : All P before
  all_before = All-front P before (there ∷ behind) all

  pub at_main : P there
  at_main = All-head P there behind (All-behind P before (there ∷ behind) all)

  pub all_behind : All P behind
  all_behind = All-tail P there behind (All-behind P before (there ∷ behind) all)

pub each_from_nothing : (is : List Input) (vs : List ℕ) → AllByRecursion (λ (r : Read). r.from ≡ 0) (whole_reads is vs)
each_from_nothing [] vs = tt
each_from_nothing (i ∷ is) [] = tt
each_from_nothing (i ∷ is) (v ∷ vs) = (refl, each_from_nothing is vs)

module _ (channels : List Channel) (cat : Entered) (files : Files) where
  pub tables_read : (rs : List Read) (ts : List TableValue) → AllByRecursion (λ (r : Read). r.from ≡ 0) rs → AreTables channels cat files rs ts → AreWhole channels cat files rs
  tables_read [] ts from are = tt
  tables_read (r ∷ rs) [] from are = absurd are
  tables_read (r ∷ rs) (t ∷ ts) from are = (whole_of channels cat files r t are.0 from.0, tables_read rs ts from.1 are.1)

  pub new_read : (r : Read) (d : DeltaValue) → IsNew channels cat files r d → IsWhole (schema_at channels r.channel) files (intervals_at cat r.channel) r.from r.to
  new_read r d is = record { route = is.1.route; chosen = is.1.chosen; blocks = is.1.blocks; read = is.1.read }

  damage_before : (rs later : List Read) (file at : ℕ) → IsReadDamage channels cat files rs file at → IsReadDamage channels cat files (rs ++ later) file at
  damage_before [] later file at bad = absurd bad
  damage_before (r ∷ rs) later file at (inl bad) = inl bad
  damage_before (r ∷ rs) later file at (inr more) = inr (more.0, damage_before rs later file at more.1)

  damage_later : (rs later : List Read) (file at : ℕ) → AreWhole channels cat files rs → IsReadDamage channels cat files later file at → IsReadDamage channels cat files (rs ++ later) file at
  damage_later [] later file at whole bad = bad
  damage_later (r ∷ rs) later file at whole bad = inr (whole.0, damage_later rs later file at whole.1 bad)

  damage_parts : (rs later : List Read) (file at : ℕ) → IsReadDamage channels cat files (rs ++ later) file at → IsReadDamage channels cat files rs file at ⊎ IsReadDamage channels cat files later file at
  damage_parts [] later file at bad = inr bad
  damage_parts (r ∷ rs) later file at (inl bad) = inl (inl bad)
  damage_parts (r ∷ rs) later file at (inr more) = elim (damage_parts rs later file at more.1) as (λ _. IsReadDamage channels cat files (r ∷ rs) file at ⊎ IsReadDamage channels cat files later file at) [
    | inl early ↦ inl (inr (more.0, early))
    | inr late ↦ inr late
  ]

  -- what is told of a part is told of all
  pub told_before : (rs later : List Read) (fault : BlockFault) → RunTold channels cat files rs fault → RunTold channels cat files (rs ++ later) fault
  told_before rs later Disk told = tt
  told_before rs later (Damaged file at) told = damage_before rs later file at told
  told_before rs later NoMemory told = tt

  pub told_there : (rs : List Read) (r : Read) (later : List Read) (fault : BlockFault) → AreWhole channels cat files rs → OneTold channels cat files r fault → RunTold channels cat files (rs ++ r ∷ later) fault
  told_there rs r later Disk whole told = tt
  told_there rs r later (Damaged file at) whole told = damage_later rs (r ∷ later) file at whole (inl told)
  told_there rs r later NoMemory whole told = tt

  pub told_later : (rs : List Read) (r : Read) (later : List Read) (fault : BlockFault) → AreWhole channels cat files rs → IsWhole (schema_at channels r.channel) files (intervals_at cat r.channel) r.from r.to
      → RunTold channels cat files later fault → RunTold channels cat files (rs ++ r ∷ later) fault
  told_later rs r later Disk whole here told = tt
  told_later rs r later (Damaged file at) whole here told = damage_later rs (r ∷ later) file at whole (inr (here, told))
  told_later rs r later NoMemory whole here told = tt

  -- no part is damaged, so nothing is
  pub none_damaged : (rs : List Read) (r : Read) (later : List Read)
      → ((file at : ℕ) → IsReadDamage channels cat files rs file at → ⊥) → ((file at : ℕ) → IsDamaged channels cat files r file at → ⊥) → ((file at : ℕ) → IsReadDamage channels cat files later file at → ⊥)
      → (file at : ℕ) → IsReadDamage channels cat files (rs ++ r ∷ later) file at → ⊥
  none_damaged rs r later early here late file at bad = elim (damage_parts rs (r ∷ later) file at bad) as (λ _. ⊥) [
    | inl one ↦ early file at one
    | inr one ↦ elim one as (λ _. ⊥) [ inl is ↦ here file at is | inr more ↦ late file at more.1 ]
  ]
