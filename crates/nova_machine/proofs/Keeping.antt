-- Reachable states keep what isn't written, and so their blocks compose along paths.
use Rattle.std.proofs.Common.{◌≡◌, inl, inr, ℕ, zero, suc, ◌≤◌, ◌==◌, Bool, true, false, not, List, [], ◌∷◌, length, Option, Some, None, is_some, refl, ap, sym, ◌∙◌, subst, arith, if◌then◌else◌}
use Rattle.std.specs.Prelude.{nat_le, nat_lt, slice_index_or}
use Rattle.std.proofs.lemmas.Bool.Decides.{nat_tests}
use Rattle.std.specs.FinMap as fin
use Rattle.nova_value.specs.declared.value.Value.{Value}
use Rattle.nova_value.specs.declared.schema.Entry.{Entry}
use Rattle.nova_delta.specs.Merge.{EntryMap, merged, after as left_by}
use Rattle.nova_delta.specs.ActionLaws.{get-merged, merged-empty}
use Rattle.nova_path.specs.Lists.{IsOneOf}
use Rattle.nova_path.specs.Shelf.{Span, IsPath}
use Rattle.nova_path.proofs.Paths.{path_rises}
use Rattle.nova_workflow.specs.declared.flow.Input.{Input}
use Rattle.nova_workflow.specs.declared.flow.Task.{Task}
use Rattle.nova_machine.specs.Workflow.{Workflow, no_input, no_task, output_in, input_in, is_based, is_input, is_new, schema_in}
use Rattle.nova_machine.specs.Versions.{Version, Keeps, IsKept, has, rows_in, block}
use Rattle.nova_machine.specs.State.{State, Kept, Capture, start, nothing_kept, kept_at, newest, is_in_flight}
use Rattle.nova_machine.specs.Due.{capture_of}
use Rattle.nova_machine.specs.Writing.{made_version}
use Rattle.nova_machine.specs.Steps.{Step, Load, Tick, Begin, Drop, Finish, Run, Worked, Compact, Chain, Collect, Show, Blocks, Refused, after, after_all, set_kept, with_hop, with_version, add_version, version_by, loaded_version, load_delta, add_run, landing, may_begin, may_chain}
use Rattle.nova_machine.specs.Reachable.{AllMade, IsReachable}
use Rattle.nova_machine.specs.Sound.{IsFine, IsWired}
use Rattle.nova_machine.specs.Keeping.{BasesKeep, ChannelsAloneKeep, KeepsAll, RunKeeps, RunsKeep, ReachableKeeps, ReadsAreBlocks}
use Rattle.nova_machine.proofs.Blocks.{merge_block, merge_block-0, block_none}
use Rattle.nova_machine.proofs.Chains.{read_path}
use Rattle.nova_machine.proofs.Growing.{keeps_more}
use Rattle.nova_machine.proofs.Growth.{at_set}
use Rattle.nova_machine.proofs.Collecting.{kept_collected}
use Rattle.nova_machine.proofs.Kept.{same_everywhere, landing_some, both_true}
use Rattle.nova_machine.proofs.Turns.{flow_after}
use Rattle.nova_machine.proofs.Reached.{reachable_more, sound}

abbrev of : State → ℕ → List Version
of s c = (kept_at s c).versions

unsaid : (d : EntryMap) (q : List Value) → has (fin.keys d) q ≡ false → fin.get d q ≡ None
unsaid d q e = none_of (fin.get d q) (fin.contains_key-keys d q ∙ e) where
  none_of : (o : Option Entry) → is_some o ≡ false → o ≡ None
  none_of None f = refl
  none_of (Some x) f = cc

load_keeps : (s : State) (c : ℕ) (d : EntryMap) (q : List Value) → has (version_by s c d).wrote q ≡ false → fin.get (version_by s c d).rows q ≡ fin.get (rows_in (kept_at s c).versions (newest s c)) q
load_keeps s c d q e = get-merged (rows_in (kept_at s c).versions (newest s c)) d q ∙ ap (λ o. left_by o (fin.get (rows_in (kept_at s c).versions (newest s c)) q)) (unsaid d q e)

-- versions keep what they don't write
keeps_at : (s : State) (c : ℕ) (k : Kept) → KeepsAll s → (is_based s.flow c ≡ false → Keeps k.versions) → KeepsAll (set_kept s c k)
keeps_at s c k is here = at_set (λ n (l : Kept). is_based s.flow n ≡ false → Keeps l.versions) s.channels c k nothing_kept is here

keeps_version : (s : State) (c : ℕ) (v : Version) → KeepsAll s → (is_based s.flow c ≡ false → (q : List Value) → has v.wrote q ≡ false → fin.get v.rows q ≡ fin.get (rows_in (kept_at s c).versions (newest s c)) q) → KeepsAll (add_version s c v)
keeps_version s c v is new = keeps_at s c (with_version (is_based s.flow c) (kept_at s c) v) is (λ e. keeps_more (kept_at s c).versions v (is c e) (new e))

keeps_if : (b : Bool) (s t : State) → (b ≡ true → KeepsAll s) → (b ≡ false → KeepsAll t) → KeepsAll (if b then s else t)
keeps_if true s t f g = f refl
keeps_if false s t f g = g refl

keeps_finish : (s : State) (t : ℕ) (o : Option Capture) → landing s t ≡ o → KeepsAll s → ((run : Capture) → landing s t ≡ Some run → is_based s.flow (output_in s.flow t) ≡ false → RunKeeps s t run) → KeepsAll (elim o as (λ _. State) [ None ↦ s | Some run ↦ add_run s t run ])
keeps_finish s t None e is keeps = is
keeps_finish s t (Some run) e is keeps = keeps_version s (output_in s.flow t) (made_version s t run) is (keeps run e)

pub keeps_start : (f : Workflow) → KeepsAll (start f)
keeps_start f c e = subst (λ (k : Kept). Keeps k.versions) (sym (same_everywhere f.channels c nothing_kept)) (λ n lt. absurd (omega (arith, lt)))

pub keeps_after : (s : State) (x : Step) → RunsKeep s.flow → IsReachable s → KeepsAll s → KeepsAll (after s x)
keeps_after s (Load c d) keep at is = keeps_if (is_input s.flow c) (add_version s c (loaded_version s c d)) s (λ _. keeps_version s c (loaded_version s c d) is (λ _. load_keeps s c (load_delta (schema_in s.flow c) d))) (λ _. is)
keeps_after s (Tick m) keep at is = keeps_if (nat_le s.moment m) (record s { moment = m }) s (λ _. is) (λ _. is)
keeps_after s (Begin t) keep at is = keeps_if (may_begin s t) _ s (λ _. is) (λ _. is)
keeps_after s (Drop t) keep at is = is
keeps_after s (Finish t) keep at is = keeps_finish s t (landing s t) refl is (λ run e. let lands = landing_some s t run e in keep s at is refl t lands.0 run (inr lands.1))
keeps_after s (Run t) keep at is = keeps_if (may_begin s t) (add_run s t (capture_of s t)) s (λ may. let e = (both_true (nat_lt t (length s.flow.tasks)) (not (is_in_flight s t)) may).0 in keeps_version s (output_in s.flow t) (made_version s t (capture_of s t)) is (keep s at is refl t (grind (arith, nat_tests)) (capture_of s t) (inl refl))) (λ _. is)
keeps_after s (Worked k) keep at is = is
keeps_after s (Compact c) keep at is = keeps_if (newest s c == 0) s (set_kept s c (with_hop (kept_at s c) 0 (newest s c))) (λ _. is) (λ _. keeps_at s c _ is (is c))
keeps_after s (Chain c i j) keep at is = keeps_if (may_chain s c i j) (set_kept s c (with_hop (kept_at s c) i j)) s (λ _. keeps_at s c _ is (is c)) (λ _. is)
keeps_after s Collect keep at is = λ c e. subst (λ (k : Kept). Keeps k.versions) (sym (kept_collected s c)) (is c e)
keeps_after s (Show c) keep at is = is
keeps_after s (Blocks c) keep at is = is
keeps_after s (Refused line) keep at is = is

keeps_all : (s : State) (xs : List Step) → RunsKeep s.flow → IsReachable s → KeepsAll s → AllMade s xs → KeepsAll (after_all s xs)
keeps_all s [] keep at is made = is
keeps_all s (x ∷ xs) keep at is made = keeps_all (after s x) xs (subst RunsKeep (sym (flow_after s x)) keep) (reachable_more s x at made.0) (keeps_after s x keep at is) made.1

pub reachable_keeps : ReachableKeeps
reachable_keeps s keep at = subst KeepsAll (sym at.is) (keeps_all (start s.flow) at.steps keep (record { steps = []; made = tt; is = refl }) (keeps_start s.flow) at.made)

kept_of : (s : State) (c : ℕ) → KeepsAll s → IsFine (is_based s.flow c) (kept_at s c) → IsKept (of s c) (kept_at s c).shelf
kept_of s c all fine = elim (is_based s.flow c) as (λ b. is_based s.flow c ≡ b → IsKept (of s c) (kept_at s c).shelf) [ true ↦ λ e. inr (fine.bases e) | false ↦ λ e. inl (all c e) ] refl

merge_base : (vs : List Version) (shelf : List Span) → ((x : Span) → IsOneOf shelf x → x.from ≡ 0) → (i j : ℕ) (p : List Span) → IsPath shelf i j p → merged (rows_in vs i) (block vs i j) ≡ rows_in vs j
merge_base vs shelf base zero j p path = merge_block-0 vs j
merge_base vs shelf base (suc i) j [] path =
    let none : block vs (suc i) j ≡ fin.empty = ap (block vs (suc i)) (sym path) ∙ block_none vs (suc i) (omega arith) in
    ap (merged (rows_in vs (suc i))) none ∙ merged-empty (rows_in vs (suc i)) ∙ ap (rows_in vs) path
merge_base vs shelf base (suc i) j (x ∷ xs) path = let z = base x path.0 in let e : x.from ≡ suc i = path.1 in absurd (omega (arith, z, e))

-- from 0, or above it where no BASE is written, or from i to i
merge_ends : (s : State) (c i j : ℕ) (p : List Span) → KeepsAll s → IsFine (is_based s.flow c) (kept_at s c) → IsPath (kept_at s c).shelf i j p → j ≤ newest s c → merged (rows_in (of s c) i) (block (of s c) i j) ≡ rows_in (of s c) j
merge_ends s c i j p all fine path short = elim (is_based s.flow c) as (λ b. is_based s.flow c ≡ b → merged (rows_in (of s c) i) (block (of s c) i j) ≡ rows_in (of s c) j) [
  | true ↦ λ e. merge_base (of s c) (kept_at s c).shelf (fine.bases e) i j p path
  | false ↦ λ e. merge_block (of s c) i j (inr (all c e)) (path_rises (kept_at s c).shelf fine.rises i j p path) short
] refl

pub reads_are_blocks : ReadsAreBlocks
reads_are_blocks s wired keep at c i j p path short =
    let fine = (sound s wired at).channels c in
    let all = reachable_keeps s keep at in
    (read_path (of s c) (kept_at s c).shelf fine.rises (kept_of s c all fine) i j p path short, merge_ends s c i j p all fine path short)

-- ---- premises that are met

pub bases_keep : BasesKeep
bases_keep w bases s at keeps same t within run which changes = let never : true ≡ false = sym (bases t within) ∙ changes in absurd cc

pub channels_alone_keep : ChannelsAloneKeep
channels_alone_keep w none = (wired, bases_keep w (λ t within. let count = ap length none in absurd (omega (arith, within, count))))
  where
    no_input_is : (t k : ℕ) → input_in w t k ≡ no_input
    no_input_is t k = ap (λ (ts : List Task). slice_index_or (slice_index_or ts t no_task).inputs k no_input) none

    wired : IsWired w
    wired t k new = let never : false ≡ true = ap (λ (i : Input). is_new i.mode) (sym (no_input_is t k)) ∙ new in absurd cc
