-- Blocks that are stored.
use Rattle.std.proofs.Common.{◌≡◌, ◌⊎◌, inl, inr, ℕ, zero, suc, ◌<◌, ◌≤◌, true, false, List, [], ◌∷◌, length, Option, Some, None, Result, Ok, Err, refl, ap, sym, ◌∙◌, subst, arith, sum_by}
use Rattle.std.specs.Prelude.{slice_index_or}
use Rattle.std.proofs.lemmas.List.{length-map}
use Rattle.std.proofs.lemmas.List.Sums.{sum_by-cons}
use Rattle.nova_outside.specs.Disk.{Files}
use Rattle.nova_delta.specs.Merge.{DeltaValue}
use Rattle.nova_block.specs.Files.{HoldsBlock, ReadsFile}
use Rattle.nova_block.proofs.Contents.{files_read}
use Rattle.nova_path.specs.Lists.{IsOneOf}
use Rattle.nova_path.specs.Shelf.{Rises}
use Rattle.nova_path.specs.Intervals.{size_of, spans}
use Rattle.nova_path.specs.declared.interval.Interval.{Interval}
use Rattle.nova_row_codec.specs.Spelling.{spelling_of}
use Rattle.nova_row_codec.proofs.Lengths.{three_bytes_each}
use Rattle.nova_channel.specs.Laws.{GivesBlocks, HoldsBlocks}
use Rattle.nova_channel.specs.Reading.{IsRead, block_file}
use Rattle.nova_channel.proofs.Routes.{not_damaged as block_not_damaged, one_block}
use Rattle.nova_commit.specs.declared.commit.Commit.{Commit}
use Rattle.nova_meta.specs.declared.progress.StateFile.{StateFile}
use Rattle.nova_meta.specs.declared.wiring.Wiring.{Wiring}
use Rattle.nova_meta.specs.Catalog.{Entered, Shelved, nothing_shelved, progress_at, shelf_at}
use Rattle.nova_meta.specs.Wired.{wire_at}
use Rattle.nova_meta.specs.Named.{Channel, Content, Names, State as StatePart}
use Rattle.nova_meta.proofs.Parts.{parts_are_kept, parts_are_wide}
use Rattle.nova_meta.proofs.Sound.{catalogs_are_sound}
use Rattle.nova_groups.specs.State.{StateValue}
use Rattle.nova_groups.proofs.Slots.{first_is_whole}
use Rattle.nova_pig_pattern.specs.declared.task.PatternKind.TheVariants.{Stateful}
use Rattle.nova_state.specs.Sorts.{plan_sorts}
use Rattle.nova_state_part.specs.Files.{HoldsPart, ReadsPart}
use Rattle.nova_state_part.proofs.Parts.{not_damaged, one_part, parts_read}
use Rattle.nova_execution.specs.Groups.{HasState, IsStateDamage, part_file}
use Rattle.nova_machine.specs.Workflow.{Workflow, is_based, plan_in, schema_in}
use Rattle.nova_machine.specs.Versions.{IsKept}
use Rattle.nova_machine.specs.State.{State, block_at, ended, kept_at}
use Rattle.nova_machine.specs.Reachable.{IsReachable}
use Rattle.nova_machine.specs.Sound.{IsFine}
use Rattle.nova_machine.proofs.Counted.{channels_are_kept}
use Rattle.nova_machine.proofs.Keeping.{reachable_keeps}
use Rattle.nova_machine.proofs.Reached.{sound}
use Rattle.nova_runner.specs.Files.{IsStored, Piece, kept_state}
use Rattle.nova_runner.specs.Laws.{IsBlockOrLost, IsPartOrLost, NoLossIsKept, StoredIsNotLost}
use Rattle.nova_runner.specs.Stands.{Drawn, IsLost, StandsBut, StandsBy, drawn_kept, drawn_shelved}
use Rattle.nova_runner.specs.Workflow.{wiring_of}
use Rattle.nova_histories.proofs.Tables.{blocks_are_deltas}
use Rattle.nova_runner.proofs.Flows.{of_stateful, own, shaped_in, well_wired}
use Rattle.nova_runner.proofs.StateParts.{kept_ended, part_spelled}
use Rattle.nova_runner.proofs.Loading.{drawings, drawn_at}

in_shelves : (xs : List Shelved) (c : ℕ) (y : Interval) → IsOneOf (slice_index_or xs c nothing_shelved).intervals y → c < length xs
in_shelves [] c y is = absurd is
in_shelves (x ∷ xs) zero y is = omega arith
in_shelves (x ∷ xs) (suc c) y is = let lt = in_shelves xs c y is in omega (arith, lt)

within : (xs : List Interval) (x : Interval) → IsOneOf xs x → x.size ≤ sum_by size_of xs
within [] x is = absurd is
within (y ∷ ys) x (inl e) = let same = ap size_of e in let all = sum_by-cons size_of y ys in omega (arith, same, all)
within (y ∷ ys) x (inr more) = let rest = within ys x more in let all = sum_by-cons size_of y ys in omega (arith, rest, all)

module _ (x : ℕ) (commits : List Commit) (cat : Entered) (files : Files) (s : State) (reached : IsReachable s) (by : StandsBut x commits cat files (ended s)) where
  pub drawing : (c : ℕ) → (length (kept_at s c).versions ≡ (shelf_at cat c).version) × (spans (shelf_at cat c).intervals ≡ (kept_at s c).shelf)
  drawing c = let d = drawn_at cat (ended s) (drawings cat (ended s) by.agrees.same) c in (sym (ap (λ (y : Drawn). y.version) d), ap (λ (y : Drawn). y.shelf) d)

  pub lengths : length cat.channels ≡ length s.flow.channels
  lengths = sym (length-map cat.channels drawn_shelved) ∙ ap (λ (ds : List Drawn). length ds) (drawings cat (ended s) by.agrees.same) ∙ length-map s.channels drawn_kept ∙ channels_are_kept s reached

  pub fine : (c : ℕ) → IsFine (is_based s.flow c) (kept_at s c)
  fine c = (sound s (own s.flow by.agrees.read).news reached).channels c

  -- its versions keep what they don't write, or all its spans begin at 0
  pub keeps : (c : ℕ) → IsKept (kept_at s c).versions (kept_at s c).shelf
  keeps c = elim (is_based s.flow c) as (λ b. is_based s.flow c ≡ b → IsKept (kept_at s c).versions (kept_at s c).shelf) [
    | true ↦ λ e. inr ((fine c).bases e)
    | false ↦ λ e. inl (reachable_keeps s (own s.flow by.agrees.read).runs reached c e)
  ] refl

  -- the file of a block that is stored is read as that block
  pub stored_is_read : (c : ℕ) (y : Interval) → IsOneOf (shelf_at cat c).intervals y → IsStored files (ended s) (record { content = Channel c y.from y.to; block = y.block; size = y.size }) → IsRead (schema_in s.flow c) files y (block_at s c y.from y.to)
  stored_is_read c y one is =
      let below = let lt = in_shelves cat.channels c y one in let same = lengths in let all : c < length s.flow.channels = omega (arith, lt, same) in all in
      let shape = shaped_in s.flow by.agrees.read c below in
      let delta = blocks_are_deltas s (own s.flow by.agrees.read).planned reached c y.from y.to in
      let few = three_bytes_each (block_at s c y.from y.to) shape delta in
      let room = ((catalogs_are_sound (wiring_of s.flow) commits cat (well_wired s.flow by.agrees.read) by.agrees.catalog.is).shelved c).room in
      let size = within (shelf_at cat c).intervals y one in
      let long : y.size ≡ length (spelling_of (block_at s c y.from y.to)) = is.long in
      (spelling_of (block_at s c y.from y.to), is.file, sym is.long, record { schema = refl; delta = delta; counted = omega (arith, few, room, size, long); is = refl })

  -- a part that is named is the first one, of a grouping task
  pub named_part : (t part b z : ℕ) → Names cat (StatePart t part) b z → (part ≡ 0) × ((t < length s.flow.tasks) × ((plan_in s.flow t).pattern ≡ Stateful))
  named_part t part b z named =
      let kept = parts_are_kept (wiring_of s.flow) commits cat by.agrees.catalog.is t part b z named in
      let wired = (catalogs_are_sound (wiring_of s.flow) commits cat (well_wired s.flow by.agrees.read) by.agrees.catalog.is).same in
      let first : part ≡ 0 = let low = kept.1 in omega (arith, low) in
      (first, of_stateful s.flow by.agrees.read t (ap (λ (w : Wiring). (wire_at w t).stateful) (sym wired) ∙ kept.0))

  -- the file of a part that is stored spells the state
  pub stored_is_state : (t b z : ℕ) → Names cat (StatePart t 0) b z → IsStored files (ended s) (record { content = StatePart t 0; block = b; size = z }) → HoldsPart (plan_sorts (plan_in s.flow t).plan) z (files (block_file b)) (kept_state s t)
  stored_is_state t b z named is =
      let of = named_part t 0 b z named in
      part_spelled s (own s.flow by.agrees.read).planned reached t of.1.0 of.1.1 files b z (parts_are_wide (wiring_of s.flow) commits cat by.agrees.catalog t 0 b z named) is

  -- and isn't lost
  part_not_lost : (t part b z : ℕ) → part ≡ 0 → Names cat (StatePart t part) b z → IsStored files (ended s) (record { content = StatePart t part; block = b; size = z }) → IsLost s.flow files (record { content = StatePart t part; block = b; size = z }) → ⊥
  part_not_lost t part b z first named is (at, damaged) =
      let held = stored_is_state t b z (subst (λ n. Names cat (StatePart t n) b z) first named) (subst (λ n. IsStored files (ended s) (record { content = StatePart t n; block = b; size = z })) first is) in
      not_damaged (plan_sorts (plan_in s.flow t).plan) z (files (block_file b)) at (kept_state s t) damaged held

  pub stored_not_lost : (w : Content) (b z : ℕ) → Names cat w b z → IsStored files (ended s) (record { content = w; block = b; size = z }) → IsLost s.flow files (record { content = w; block = b; size = z }) → ⊥
  stored_not_lost (StatePart t part) b z named is lost = part_not_lost t part b z (named_part t part b z named).0 named is lost
  stored_not_lost (Channel c i j) b z named is (at, damaged) =
      let y : Interval = record { from = i; to = j; block = b; size = z } in
      block_not_damaged (schema_in s.flow c) z (files (block_file b)) at (block_at s c i j) damaged (stored_is_read c y named is)

  -- no file of a channel's shelf is another block
  pub gives : (c : ℕ) → GivesBlocks (schema_in s.flow c) files (kept_at s c).versions (shelf_at cat c).intervals
  gives c = record {
    rises = subst Rises (sym (drawing c).1) (fine c).rises;
    kept = subst (IsKept (kept_at s c).versions) (sym (drawing c).1) (keeps c);
    each = each;
  }
    where
      each : (y : Interval) → IsOneOf (shelf_at cat c).intervals y → (d : DeltaValue) → IsRead (schema_in s.flow c) files y d → d ≡ block_at s c y.from y.to
      each y one d read =
          let p : Piece = record { content = Channel c y.from y.to; block = y.block; size = y.size } in
          elim (by.stored p one) as (λ _. d ≡ block_at s c y.from y.to) [
            | inl is ↦ one_block (schema_in s.flow c) y.size (files (block_file y.block)) d (block_at s c y.from y.to) read (stored_is_read c y one is)
            | inr lost ↦ absurd (block_not_damaged (schema_in s.flow c) y.size (files (block_file y.block)) lost.0 d lost.1 read)
          ]

  -- no file of a task's state has another one, and a part without a file is empty
  has_state : (t : ℕ) (f : Option StateFile) → slice_index_or (progress_at cat t).parts 0 None ≡ f → t < length s.flow.tasks → (plan_in s.flow t).pattern ≡ Stateful → (st : StateValue) → HasState (plan_sorts (plan_in s.flow t).plan) f files st → st ≡ kept_state s t
  has_state t None none lt grouping st is =
      is ∙ sym (by.empty t 0 grouping none) ∙ first_is_whole (kept_state (ended s) t) ∙ kept_ended s t
  has_state t (Some f) named lt grouping st held =
      elim (by.stored (record { content = StatePart t 0; block = f.block; size = f.size }) named) as (λ _. st ≡ kept_state s t) [
        | inl is ↦ one_part (plan_sorts (plan_in s.flow t).plan) f.size (files (block_file f.block)) st (kept_state s t) held (stored_is_state t f.block f.size named is)
        | inr lost ↦ absurd (not_damaged (plan_sorts (plan_in s.flow t).plan) f.size (files (block_file f.block)) lost.0 st lost.1 held)
      ]

  pub one_state : (t : ℕ) → t < length s.flow.tasks → (plan_in s.flow t).pattern ≡ Stateful → (st : StateValue) → HasState (plan_sorts (plan_in s.flow t).plan) (part_file cat t) files st → st ≡ kept_state s t
  one_state t lt grouping st is = has_state t (part_file cat t) refl lt grouping st is

-- where none is lost each is its block
pub holds : (x : ℕ) (commits : List Commit) (cat : Entered) (files : Files) (s : State) → IsReachable s → StandsBy x commits cat files (ended s) → (c : ℕ) → HoldsBlocks (schema_in s.flow c) files (kept_at s c).versions (shelf_at cat c).intervals
holds x commits cat files s reached by c y one = stored_is_read x commits cat files s reached by.but c y one (by.stored (record { content = Channel c y.from y.to; block = y.block; size = y.size }) one)

pub stored_is_not_lost : StoredIsNotLost
stored_is_not_lost x commits cat files s p reached by named is lost = stored_not_lost x commits cat files s reached by p.content p.block p.size named is lost

pub no_loss_is_kept : NoLossIsKept
no_loss_is_kept x y commits later was cat old new s t reached same before after none = record {
  but = after;
  stored = λ p named. elim (after.stored p named) as (λ _. IsStored new (ended t) p) [
    | inl is ↦ is
    | inr lost ↦
        let earlier = none p named lost in
        absurd (stored_is_not_lost x commits was old s p reached before.but earlier.0 (before.stored p earlier.0) (subst (λ (f : Workflow). IsLost f old p) same earlier.1))
  ];
}

-- what a block's file reads as: a block, or damaged, so that the block is lost
read_or_lost : (flow : Workflow) (files : Files) (c from to block size : ℕ) (one : Result DeltaValue ℕ) → ReadsFile (schema_in flow c) size (files (block_file block)) one →
    ((d : DeltaValue) × HoldsBlock (schema_in flow c) size (files (block_file block)) d) ⊎ IsLost flow files (record { content = Channel c from to; block = block; size = size })
read_or_lost flow files c from to block size (Ok d) read = inl (d, read)
read_or_lost flow files c from to block size (Err at) read = inr (at, read)

pub is_block_or_lost : IsBlockOrLost
is_block_or_lost flow files c from to block size bytes =
    let read = files_read (schema_in flow c) size (files (block_file block)) bytes in
    read_or_lost flow files c from to block size read.0 read.1

part_or_lost : (flow : Workflow) (files : Files) (t part block size : ℕ) (one : Result StateValue ℕ) → ReadsPart (plan_sorts (plan_in flow t).plan) size (files (block_file block)) one →
    ((st : StateValue) × HoldsPart (plan_sorts (plan_in flow t).plan) size (files (block_file block)) st) ⊎ IsLost flow files (record { content = StatePart t part; block = block; size = size })
part_or_lost flow files t part block size (Ok st) read = inl (st, read)
part_or_lost flow files t part block size (Err at) read = inr (at, read)

pub is_part_or_lost : IsPartOrLost
is_part_or_lost flow files t part block size bytes =
    let read = parts_read (plan_sorts (plan_in flow t).plan) size (files (block_file block)) bytes in
    part_or_lost flow files t part block size read.0 read.1

-- where none is lost the state's file is not damaged
pub state_holds : (x : ℕ) (commits : List Commit) (cat : Entered) (files : Files) (s : State) → IsReachable s → StandsBy x commits cat files (ended s) → (t : ℕ) (f : Option StateFile) → slice_index_or (progress_at cat t).parts 0 None ≡ f
    → (file at : ℕ) → IsStateDamage (plan_sorts (plan_in s.flow t).plan) f files file at → ⊥
state_holds x commits cat files s reached by t None none file at bad = bad
state_holds x commits cat files s reached by t (Some f) named file at (is, bad) =
    not_damaged (plan_sorts (plan_in s.flow t).plan) f.size (files file) at (kept_state s t) bad
    (subst (λ n. HoldsPart (plan_sorts (plan_in s.flow t).plan) f.size (files n) (kept_state s t)) (sym is)
    (stored_is_state x commits cat files s reached by.but t f.block f.size named (by.stored (record { content = StatePart t 0; block = f.block; size = f.size }) named)))
