-- Blocks that were read along a route.
use Rattle.std.proofs.Common.{◌≡◌, ◌⊎◌, inl, inr, ℕ, ◌<◌, ◌≤◌, ◌+◌, List, [], ◌∷◌, ◌++◌, length, map, take, get_or, Option, Result, Ok, Err, refl, ap, sym, ◌∙◌, subst, arith, fold, sum_by}
use Rattle.std.specs.List.{All, AllByRecursion}
use Rattle.std.specs.FinMap as fin
use Rattle.std.proofs.lemmas.List.{take_more, take-append-drop}
use Rattle.std.proofs.lemmas.List.Elements.{All-get_or, All-head, All-tail}
use Rattle.std.proofs.lemmas.List.Sums.{fold-append, sum_by-append, sum_by-cons}
use Rattle.nova_value.specs.Rows.{Shape}
use Rattle.nova_outside.specs.Disk.{Files}
use Rattle.nova_delta.specs.Merge.{DeltaValue, EntryMap, RowMap, chained, merged}
use Rattle.nova_path.specs.Lists.{IsOneOf}
use Rattle.nova_path.specs.Shelf.{Span, IsPath, Rises}
use Rattle.nova_path.specs.Intervals.{AreApart, at_span, interval_at, size_of, spans, taken, weight_in}
use Rattle.nova_path.specs.declared.interval.Interval.{Interval}
use Rattle.nova_path.proofs.Room.{at_place}
use Rattle.nova_path.proofs.Weights.{chosen_is_first}
use Rattle.nova_block.specs.Files.{DamagedAt, HoldsBlock}
use Rattle.nova_block.specs.declared.fault.BlockFault.{BlockFault}
use Rattle.nova_block.specs.declared.fault.BlockFault.TheVariants.{Disk, Damaged, NoMemory}
use Rattle.nova_block.proofs.Contents.{files_read_one_way}
use Rattle.nova_machine.specs.Versions.{Version, block, blocks_along, read_of}
use Rattle.nova_machine.proofs.Chains.{merge_path, read_path}
use Rattle.nova_channel.specs.Reading.{block_file, route_size, size_along, AreRead, IsFirstBad, IsRead, IsRoute, JoinsBlocks, MergesBlocks, RouteTold}
use Rattle.nova_channel.specs.Laws.{BlocksAreNotBad, GivesBlocks, HoldersGive, HoldsBlocks, OneBlock, ReadsAreBlocks, TablesAreVersions}

module _ (s : Shape) (files : Files) where
  -- one block more
  pub read_more : (xs : List Interval) (ds : List EntryMap) (x : Interval) (d : EntryMap) → AreRead s files xs ds → IsRead s files x (record { schema = s; entries = d }) → AreRead s files (xs ++ x ∷ []) (ds ++ d ∷ [])
  read_more [] [] x d all is = (is, tt)
  read_more [] (e ∷ ds) x d all is = absurd all
  read_more (y ∷ xs) [] x d all is = absurd all
  read_more (y ∷ xs) (e ∷ ds) x d all is = (all.0, read_more xs ds x d all.1 is)

  -- the first bad one behind some that aren't
  pub bad_behind : (xs : List Interval) (ds : List EntryMap) (ys : List Interval) (file at : ℕ) → AreRead s files xs ds → IsFirstBad s files ys file at → IsFirstBad s files (xs ++ ys) file at
  bad_behind [] [] ys file at all bad = bad
  bad_behind [] (d ∷ ds) ys file at all bad = absurd all
  bad_behind (x ∷ xs) [] ys file at all bad = absurd all
  bad_behind (x ∷ xs) (d ∷ ds) ys file at all bad = inr (record { schema = s; entries = d }, all.0, bad_behind xs ds ys file at all.1 bad)

  pub bad_before : (xs ys : List Interval) (file at : ℕ) → IsFirstBad s files xs file at → IsFirstBad s files (xs ++ ys) file at
  bad_before [] ys file at bad = absurd bad
  bad_before (x ∷ xs) ys file at (inl here) = inl here
  bad_before (x ∷ xs) ys file at (inr more) = inr (more.0, more.1, bad_before xs ys file at more.2)

  pub none_joined : JoinsBlocks s files [] fin.empty
  none_joined = record { blocks = []; read = tt; is = refl }

  pub none_merged : MergesBlocks s files [] fin.empty
  none_merged = record { blocks = []; read = tt; is = refl }

  pub joins_more : (xs : List Interval) (x : Interval) (joined d : EntryMap) → JoinsBlocks s files xs joined → IsRead s files x (record { schema = s; entries = d }) → JoinsBlocks s files (xs ++ x ∷ []) (chained joined d)
  joins_more xs x joined d is read = record {
    blocks = is.blocks ++ d ∷ [];
    read = read_more xs is.blocks x d is.read read;
    is = ap (λ (e : EntryMap). chained e d) is.is ∙ sym (fold-append chained fin.empty is.blocks (d ∷ []));
  }

  pub merges_more : (xs : List Interval) (x : Interval) (rows : RowMap) (d : EntryMap) → MergesBlocks s files xs rows → IsRead s files x (record { schema = s; entries = d }) → MergesBlocks s files (xs ++ x ∷ []) (merged rows d)
  merges_more xs x rows d is read = record {
    blocks = is.blocks ++ d ∷ [];
    read = read_more xs is.blocks x d is.read read;
    is = ap (λ (m : RowMap). merged m d) is.is ∙ sym (fold-append merged fin.empty is.blocks (d ∷ []));
  }

-- what is told of one interval is told of a route that has it behind blocks
pub told_behind : (s : Shape) (files : Files) (front : List Interval) (ds : List EntryMap) (x : Interval) (rest : List Interval) (why : BlockFault) → AreRead s files front ds → RouteTold s files (x ∷ []) why → RouteTold s files (front ++ (x ∷ rest)) why
told_behind s files front ds x rest Disk all told = told
told_behind s files front ds x rest (Damaged file at) all told = bad_behind s files front ds (x ∷ rest) file at all (bad_before s files (x ∷ []) rest file at told)
told_behind s files front ds x rest NoMemory all told = told

-- the sizes at the places of a path
pub sizes_taken : (xs : List Interval) → AreApart xs → (places : List ℕ) → All (λ place. place < length xs) places → sum_by (at_span size_of xs) (spans (taken xs places)) ≡ sum_by size_of (taken xs places)
sizes_taken xs apart [] all = refl
sizes_taken xs apart (k ∷ ks) all =
    let here = at_place size_of xs apart k (All-head (λ place. place < length xs) k ks all) in
    let rest = sizes_taken xs apart ks (All-tail (λ place. place < length xs) k ks all) in
    omega (arith, here, rest, sum_by-cons (at_span size_of xs) (record { from = (interval_at xs k).from; to = (interval_at xs k).to }) (spans (taken xs ks)), sum_by-cons size_of (interval_at xs k) (taken xs ks))

ok_is : (d e : DeltaValue) → ◌≡◌ {A = Result DeltaValue ℕ} (Ok d) (Ok e) → d ≡ e
ok_is d e same = cc

pub one_block : OneBlock
one_block s size c d e one other = ok_is d e (files_read_one_way s size c (Ok d) (Ok e) one other)

pub not_damaged : (s : Shape) (size : ℕ) (c : Option (List ℕ)) (at : ℕ) (d : DeltaValue) → DamagedAt s size c at → HoldsBlock s size c d → ⊥
not_damaged s size c at d bad good = let same = files_read_one_way s size c (Ok d) (Err at) good bad in cc

err_is : (a b : ℕ) → ◌≡◌ {A = Result DeltaValue ℕ} (Err a) (Err b) → a ≡ b
err_is a b same = cc

pub one_place : (s : Shape) (size : ℕ) (c : Option (List ℕ)) (at place : ℕ) → DamagedAt s size c at → DamagedAt s size c place → at ≡ place
one_place s size c at place one other = err_is at place (files_read_one_way s size c (Err at) (Err place) one other)

module _ (s : Shape) (files : Files) (vs : List Version) (shelf : List Interval) (gives : GivesBlocks s files vs shelf) where
  along : (route : List Interval) (ds : List EntryMap) → AllByRecursion (IsOneOf shelf) route → AreRead s files route ds → ds ≡ blocks_along vs (spans route)
  along [] [] all read = refl
  along [] (d ∷ ds) all read = absurd read
  along (x ∷ xs) [] all read = absurd read
  along (x ∷ xs) (d ∷ ds) all read =
      let same = gives.each x all.0 (record { schema = s; entries = d }) read.0 in
      let rest = along xs ds all.1 read.1 in
      λ i. (same i).entries ∷ rest i

  is_path : (from to : ℕ) (route : List Interval) → IsRoute shelf from to route → IsPath (spans shelf) from to (spans route)
  is_path from to route is = (chosen_is_first (weight_in shelf) (spans shelf) gives.rises from to (spans route) is.chosen).is_path

pub holders_give : HoldersGive
holders_give s files vs shelf rises kept holds = record {
  rises = rises;
  kept = kept;
  each = λ x one d read. one_block s x.size (files (block_file x.block)) d (record { schema = s; entries = block vs x.from x.to }) read (holds x one);
}

pub reads_are_blocks : ReadsAreBlocks
reads_are_blocks s files vs shelf from to entries gives short is =
    is.is ∙ ap (read_of from) (along s files vs shelf gives is.route is.blocks is.chosen.within is.read)
    ∙ read_path vs (spans shelf) gives.rises gives.kept from to (spans is.route) (is_path s files vs shelf gives from to is.route is.chosen) short

pub tables_are_versions : TablesAreVersions
tables_are_versions s files vs shelf to rows gives short is =
    is.merges.is ∙ ap (λ (ds : List EntryMap). fold merged fin.empty ds) (along s files vs shelf gives is.route is.merges.blocks is.chosen.within is.merges.read)
    ∙ merge_path vs (spans shelf) gives.rises gives.kept 0 to (spans is.route) (is_path s files vs shelf gives 0 to is.route is.chosen) short

module _ (s : Shape) (files : Files) (vs : List Version) (shelf : List Interval) (holds : HoldsBlocks s files vs shelf) where
  not_bad : (route : List Interval) (file at : ℕ) → AllByRecursion (IsOneOf shelf) route → IsFirstBad s files route file at → ⊥
  not_bad [] file at all bad = bad
  not_bad (x ∷ xs) file at all (inl bad) = not_damaged s x.size (files (block_file x.block)) at _ (subst (λ n. DamagedAt s x.size (files n) at) bad.0 bad.1) (holds x all.0)
  not_bad (x ∷ xs) file at all (inr more) = not_bad xs file at all.1 more.2

pub blocks_are_not_bad : BlocksAreNotBad
blocks_are_not_bad s files vs shelf from to file at holds is = not_bad s files vs shelf holds is.route file at is.chosen.within is.bad

-- the sizes of a route are those of the chosen path
pub route_sizes : (xs : List Interval) → AreApart xs → (places : List ℕ) → All (λ place. place < length xs) places → (from to : ℕ) → IsRoute xs from to (taken xs places) → route_size xs from to ≡ sum_by size_of (taken xs places)
route_sizes xs apart places all from to is = ap (size_along xs) is.chosen ∙ sizes_taken xs apart places all

-- the same of a list that is the shelf, and places that are those of the route
pub read_sizes : (shelf xs : List Interval) → xs ≡ shelf → AreApart shelf → (places items : List ℕ) → items ≡ places → All (λ place. place < length xs) places → (from to : ℕ) → IsRoute xs from to (taken xs places) → sum_by size_of (taken xs items) ≡ route_size shelf from to
read_sizes shelf xs same apart places items read all from to is =
    ap (λ (ks : List ℕ). sum_by size_of (taken xs ks)) read
    ∙ sym (route_sizes xs (subst AreApart (sym same) apart) places all from to is)
    ∙ ap (λ (ys : List Interval). route_size ys from to) same
