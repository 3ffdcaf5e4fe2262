-- What steps read no later step changes.
use Rattle.std.proofs.Common.{◌≡◌, ◌⊎◌, inl, inr, ℕ, ◌+◌, ◌<◌, ◌≤◌, Bool, true, false, if◌then◌else◌, List, [], ◌∷◌, ◌++◌, length, map, Option, Some, None, refl, sym, ap, ◌∙◌, subst, arith}
use Rattle.std.specs.List.{AllByRecursion}
use Rattle.nova_value.specs.Rows.{Shape}
use Rattle.nova_outside.specs.Disk.{Files}
use Rattle.nova_outside.specs.History.{Event}
use Rattle.nova_block.specs.Files.{DamagedAt, HoldsBlock}
use Rattle.nova_path.specs.Lists.{IsOneOf}
use Rattle.nova_path.specs.declared.interval.Interval.{Interval}
use Rattle.nova_channel.specs.Reading.{AreRead, IsFirstBad, block_file}
use Rattle.nova_commit.specs.declared.commit.Commit.{Commit}
use Rattle.nova_commit.specs.declared.commit.Commit.TheVariants as commit
use Rattle.nova_meta.specs.Catalog.{Entered, applied, shelf_at}
use Rattle.nova_meta.specs.Named.{Channel, Content, Names, State as StatePart}
use Rattle.nova_commit.specs.declared.commit.PartFile.{PartFile}
use Rattle.nova_meta.specs.declared.progress.StateFile.{StateFile}
use Rattle.nova_group_codec.specs.Sorts.{SortsValue}
use Rattle.nova_state.specs.Sorts.{plan_sorts}
use Rattle.nova_state_part.specs.Files.{DamagedPartAt}
use Rattle.nova_machine.specs.Workflow.{Workflow, plan_in, schema_in}
use Rattle.nova_delta.specs.Merge.{EntryMap}
use Rattle.nova_row_codec.specs.Spelling.{spelling_of}
use Rattle.nova_workflow.specs.declared.flow.Channel.{Channel as Seen}
use Rattle.nova_machine.specs.Due.{capture_of}
use Rattle.nova_execution.specs.Groups.{IsStateDamage, part_file, run_state}
use Rattle.nova_execution.specs.Made.{run_block}
use Rattle.nova_execution.specs.Reads.{AreWhole, IsReadDamage, Read, schema_at}
use Rattle.nova_machine.specs.State.{State, newest}
use Rattle.nova_machine.specs.Steps.{Step, Load, Run, Show, Tick, after, after_all}
use Rattle.nova_runner.specs.Acts.{IsStepDamage, MayChange, behind, catalog_behind, keeps_in, kept_spelling, newest_reads, own_commit, parts_of}
use Rattle.nova_runner.specs.Files.{IsNamed, Piece, bytes_of}
use Rattle.nova_runner.specs.Held.{Held}
use Rattle.nova_runner.specs.Steps.{StoreStands}
use Rattle.nova_runner.specs.Workflow.{wiring_of}
use Rattle.nova_runner.proofs.Allowing.{below_next}
use Rattle.nova_runner.proofs.Flows.{well_wired}
use Rattle.nova_runner.proofs.Readables.{readable}
use Rattle.nova_runner.proofs.RunRules.{below_run}
use Rattle.nova_engine.specs.Turns.{IsTheirs, NoneDamaged, catalog_after, own_commits}

-- ---- the numbers of blocks

-- what it names is below its next number
abbrev pub AreBelow : Entered → Type 0
AreBelow cat = (p : Piece) → IsNamed cat p → p.block < cat.next

pub below_of : (store : Held) (commits : List Commit) (h : List Event) (s : State) → StoreStands store commits h s → AreBelow store.catalog
below_of store commits h s stands = (readable (wiring_of s.flow) commits store.catalog (well_wired s.flow stands.by.agrees.read) stands.by.agrees.catalog.is).below

tick_below : (cat : Entered) (m : ℕ) → AreBelow cat → (w : Content) (b z : ℕ) → Names (applied cat (commit.Tick m)) w b z → b < cat.next
tick_below cat m below (Channel c i j) b z named = below (record { content = Channel c i j; block = b; size = z }) named
tick_below cat m below (StatePart t part) b z named = below (record { content = StatePart t part; block = b; size = z }) named

below_step : (cat : Entered) (s : State) (x : Step) → AreBelow cat → AreBelow (catalog_behind cat (own_commit cat s x))
below_step cat s (Load c entries) below =
    λ p named. below_next cat c (length (bytes_of (after s (Load c entries)) (Channel c (newest s c) (newest s c + 1)))) below p.content p.block p.size named
below_step cat s (Run t) below = λ p named. below_run cat t (capture_of s t) (keeps_in s.flow t) (length (spelling_of (run_block s t (capture_of s t)))) (length (kept_spelling (run_state s t (capture_of s t)))) below p.content p.block p.size named
below_step cat s (Tick m) below = λ p named. tick_below cat m below p.content p.block p.size named
below_step cat s _ below = below

next_step : (cat : Entered) (s : State) (x : Step) → cat.next ≤ (catalog_behind cat (own_commit cat s x)).next
next_step cat s (Load c entries) = omega arith
next_step cat s (Tick m) = omega arith
next_step cat s (Run t) = omega arith
next_step cat s _ = omega arith

next_after : (cat : Entered) (s : State) (xs : List Step) → cat.next ≤ (catalog_after cat s xs).next
next_after cat s [] = omega arith
next_after cat s (x ∷ xs) = let one = next_step cat s x in let rest = next_after (catalog_behind cat (own_commit cat s x)) (after s x) xs in omega (arith, one, rest)

-- ---- files that read the same

-- the blocks below a number read the same
abbrev pub ReadsBelow : ℕ → Files → Files → Type 0
ReadsBelow n old new = (b : ℕ) → b < n → new (block_file b) ≡ old (block_file b)

abbrev SameBlock : Files → Files → Interval → Type 0
SameBlock old new y = new (block_file y.block) ≡ old (block_file y.block)

first_bad : (s : Shape) (old new : Files) (route : List Interval) (file at : ℕ) → AllByRecursion (SameBlock old new) route → IsFirstBad s new route file at → IsFirstBad s old route file at
first_bad s old new [] file at same bad = bad
first_bad s old new (y ∷ ys) file at same (inl (is, damaged)) = inl (is, subst (λ c. DamagedAt s y.size c at) (ap new is ∙ same.0 ∙ ap old (sym is)) damaged)
first_bad s old new (y ∷ ys) file at same (inr (d, read, more)) = inr (d, subst (λ c. HoldsBlock s y.size c d) same.0 read, first_bad s old new ys file at same.1 more)

all_same : (old new : Files) (shelf route : List Interval) → ((y : Interval) → IsOneOf shelf y → SameBlock old new y) → AllByRecursion (IsOneOf shelf) route → AllByRecursion (SameBlock old new) route
all_same old new shelf [] each all = tt
all_same old new shelf (y ∷ ys) each all = (each y all.0, all_same old new shelf ys each all.1)

all_read : (s : Shape) (old new : Files) (route : List Interval) (blocks : List EntryMap) → AllByRecursion (SameBlock old new) route → AreRead s new route blocks → AreRead s old route blocks
all_read s old new [] [] same read = read
all_read s old new [] (d ∷ ds) same read = read
all_read s old new (y ∷ ys) [] same read = read
all_read s old new (y ∷ ys) (d ∷ ds) same read = (subst (λ c. HoldsBlock s y.size c (record { schema = s; entries = d })) same.0 read.0, all_read s old new ys ds same.1 read.1)

-- what several reads find damaged
reads_moved : (channels : List Seen) (cat : Entered) (old new : Files) → ((c : ℕ) (y : Interval) → IsOneOf (shelf_at cat c).intervals y → SameBlock old new y) → (rs : List Read) (file at : ℕ) → IsReadDamage channels cat new rs file at → IsReadDamage channels cat old rs file at
reads_moved channels cat old new each [] file at damage = damage
reads_moved channels cat old new each (r ∷ rs) file at (inl damage) = inl (record {
  route = damage.route;
  chosen = damage.chosen;
  bad = first_bad (schema_at channels r.channel) old new damage.route file at (all_same old new (shelf_at cat r.channel).intervals damage.route (each r.channel) damage.chosen.within) damage.bad;
})
reads_moved channels cat old new each (r ∷ rs) file at (inr (read, more)) = inr (
  record {
    route = read.route;
    chosen = read.chosen;
    blocks = read.blocks;
    read = all_read (schema_at channels r.channel) old new read.route read.blocks (all_same old new (shelf_at cat r.channel).intervals read.route (each r.channel) read.chosen.within) read.read;
  },
  reads_moved channels cat old new each rs file at more,
)

-- and what they find whole
whole_moved : (channels : List Seen) (cat : Entered) (old new : Files) → ((c : ℕ) (y : Interval) → IsOneOf (shelf_at cat c).intervals y → SameBlock old new y) → (rs : List Read) → AreWhole channels cat new rs → AreWhole channels cat old rs
whole_moved channels cat old new each [] whole = tt
whole_moved channels cat old new each (r ∷ rs) whole = (
  record {
    route = whole.0.route;
    chosen = whole.0.chosen;
    blocks = whole.0.blocks;
    read = all_read (schema_at channels r.channel) old new whole.0.route whole.0.blocks (all_same old new (shelf_at cat r.channel).intervals whole.0.route (each r.channel) whole.0.chosen.within) whole.0.read;
  },
  whole_moved channels cat old new each rs whole.1,
)

-- what a state's file is damaged at
part_moved : (sorts : SortsValue) (o : Option StateFile) (old new : Files) → ((f : StateFile) → o ≡ Some f → new (block_file f.block) ≡ old (block_file f.block)) → (file at : ℕ) → IsStateDamage sorts o new file at → IsStateDamage sorts o old file at
part_moved sorts None old new same file at damage = damage
part_moved sorts (Some f) old new same file at (is, damage) = (is, subst (λ c. DamagedPartAt sorts f.size c at) (ap new is ∙ same f refl ∙ ap old (sym is)) damage)

state_moved : (sorts : SortsValue) (cat : Entered) (old new : Files) (t : ℕ) → ((f : StateFile) → part_file cat t ≡ Some f → new (block_file f.block) ≡ old (block_file f.block)) → (b : Bool) (file at : ℕ)
    → IsStateDamage sorts (if b then part_file cat t else None) new file at → IsStateDamage sorts (if b then part_file cat t else None) old file at
state_moved sorts cat old new t same true file at damage = part_moved sorts (part_file cat t) old new same file at damage
state_moved sorts cat old new t same false file at damage = damage

damage_moved : (flow : Workflow) (cat : Entered) (old new : Files) (x : Step) (file at : ℕ) → AreBelow cat → ReadsBelow cat.next old new → IsStepDamage flow cat new x file at → IsStepDamage flow cat old x file at
damage_moved flow cat old new (Show c) file at below same damage = record {
  route = damage.route;
  chosen = damage.chosen;
  bad = first_bad (schema_in flow c) old new damage.route file at
      (all_same old new (shelf_at cat c).intervals damage.route
      (λ y one. same y.block (below (record { content = Channel c y.from y.to; block = y.block; size = y.size }) one)) damage.chosen.within) damage.bad;
}
damage_moved flow cat old new (Run t) file at below same (inl damage) =
    inl (reads_moved flow.channels cat old new (λ c y one. same y.block (below (record { content = Channel c y.from y.to; block = y.block; size = y.size }) one)) (newest_reads cat t) file at damage)
damage_moved flow cat old new (Run t) file at below same (inr damage) =
    inr (
      whole_moved flow.channels cat old new (λ c y one. same y.block (below (record { content = Channel c y.from y.to; block = y.block; size = y.size }) one)) (newest_reads cat t) damage.0,
      state_moved (plan_sorts (plan_in flow t).plan) cat old new t (λ f named. same f.block (below (record { content = StatePart t 0; block = f.block; size = f.size }) named)) (keeps_in flow t) file at damage.1,
    )
damage_moved flow cat old new _ file at below same damage = damage

-- steps without damage are so in later files
pub none_moved : (old new : Files) (cat : Entered) (s : State) (xs : List Step) → AreBelow cat → ReadsBelow (catalog_after cat s xs).next old new → NoneDamaged old cat s xs → NoneDamaged new cat s xs
none_moved old new cat s [] below same none = tt
none_moved old new cat s (x ∷ xs) below same none =
    let next = catalog_behind cat (own_commit cat s x) in
    let up = next_step cat s x in
    let most = next_after next (after s x) xs in (
      λ file at damage. none.0 file at (damage_moved s.flow cat old new x file at below (λ b lt. same b (omega (arith, lt, up, most))) damage),
      none_moved old new next (after s x) xs (below_step cat s x below) same none.1,
    )

pub none_append : (files : Files) (cat : Entered) (s : State) (xs ys : List Step) → NoneDamaged files cat s xs → NoneDamaged files (catalog_after cat s xs) (after_all s xs) ys → NoneDamaged files cat s (xs ++ ys)
none_append files cat s [] ys none more = more
none_append files cat s (x ∷ xs) ys none more = (none.0, none_append files (catalog_behind cat (own_commit cat s x)) (after s x) xs ys none.1 more)

-- ---- files that steps may change

not_part : (keeps : Bool) (next size b block : ℕ) → b < next → IsOneOf (map (λ (p : PartFile). p.block) (parts_of keeps next size)) block → block_file b ≡ block_file block → ⊥
not_part true next size b block lt (inl e) is = omega (arith, lt, e, is)
not_part true next size b block lt (inr none) is = none
not_part false next size b block lt none is = none

-- a step's commit brings no block below the next number
pub not_own : (g : ℕ) (cat : Entered) (s : State) (x : Step) (b : ℕ) → b < cat.next → MayChange g (own_commit cat s x) (block_file b) → ⊥
not_own g cat s (Load c entries) b lt (inl journal) = omega (arith, journal)
not_own g cat s (Load c entries) b lt (inr (block, inl e, is)) = omega (arith, lt, e, is)
not_own g cat s (Load c entries) b lt (inr (block, inr none, is)) = none
not_own g cat s (Run t) b lt (inl journal) = omega (arith, journal)
not_own g cat s (Run t) b lt (inr (block, inl e, is)) = omega (arith, lt, e, is)
not_own g cat s (Run t) b lt (inr (block, inr more, is)) = not_part (keeps_in s.flow t) cat.next _ b block lt more is
not_own g cat s (Tick m) b lt (inl journal) = omega (arith, journal)
not_own g cat s (Tick m) b lt (inr (block, none, is)) = none
not_own g cat s _ b lt may = may

one_of_either : (xs ys : List Commit) (c : Commit) → IsOneOf (xs ++ ys) c → IsOneOf xs c ⊎ IsOneOf ys c
one_of_either [] ys c is = inr is
one_of_either (x ∷ xs) ys c (inl e) = inl (inl e)
one_of_either (x ∷ xs) ys c (inr is) = elim (one_of_either xs ys c is) as (λ _. IsOneOf (x ∷ xs) c ⊎ IsOneOf ys c) [ inl one ↦ inl (inr one) | inr two ↦ inr two ]

only_own : (own : Option Commit) (c : Commit) → IsOneOf (behind [] own) c → own ≡ Some c
only_own None c is = absurd is
only_own (Some d) c (inl e) = ap (λ (x : Commit). Some x) e
only_own (Some d) c (inr none) = absurd none

pub not_theirs : (g : ℕ) (cat : Entered) (s : State) (xs : List Step) (b : ℕ) → b < cat.next → IsTheirs g (own_commits cat s xs) (block_file b) → ⊥
not_theirs g cat s [] b lt (c, one, may) = one
not_theirs g cat s (x ∷ xs) b lt (c, one, may) =
    let next = catalog_behind cat (own_commit cat s x) in
    let up = next_step cat s x in
    elim (one_of_either (behind [] (own_commit cat s x)) (own_commits next (after s x) xs) c one) as (λ _. ⊥) [
      | inl here ↦ not_own g cat s x b lt (subst (λ o. MayChange g o (block_file b)) (sym (only_own (own_commit cat s x) c here)) may)
      | inr later ↦ not_theirs g next (after s x) xs b (omega (arith, lt, up)) (c, later, may)
    ]

-- one step that found none
pub none_one : (g : ℕ) (cat : Entered) (s : State) (x : Step) (old new : Files) → AreBelow cat → ((n : ℕ) → (MayChange g (own_commit cat s x) n → ⊥) → new n ≡ old n) → ((file at : ℕ) → IsStepDamage s.flow cat old x file at → ⊥)
    → NoneDamaged new cat s (x ∷ [])
none_one g cat s x old new below others none =
    (λ file at damage. none file at (damage_moved s.flow cat old new x file at below (λ b lt. others (block_file b) (not_own g cat s x b lt)) damage), tt)
