-- Versions that keep what they don't write, and what reading blocks gives there.
use Rattle.std.specs.Prelude.{◌≡◌, ◌⊎◌, ℕ, ◌<◌, ◌≤◌, true, false, List, [], length, Some}
use Rattle.std.specs.FinMap as fin
use Rattle.nova_value.specs.declared.value.Value.{Value}
use Rattle.nova_delta.specs.Merge.{merged}
use Rattle.nova_path.specs.Shelf.{Span, IsPath}
use Rattle.nova_machine.specs.Workflow.{Workflow, output_in, is_based}
use Rattle.nova_machine.specs.Versions.{Keeps, block, blocks_along, has, read_of, rows_in}
use Rattle.nova_machine.specs.State.{State, Capture, kept_at, done_at, newest}
use Rattle.nova_machine.specs.Due.{capture_of}
use Rattle.nova_machine.specs.Writing.{made_version}
use Rattle.nova_machine.specs.Reachable.{IsReachable}
use Rattle.nova_machine.specs.Sound.{IsWired}

-- of each channel that isn't written anew
abbrev pub KeepsAll : State → Type 0
KeepsAll s = (c : ℕ) → is_based s.flow c ≡ false → Keeps (kept_at s c).versions

-- a run's version differs from the one before only at the keys that it wrote
abbrev pub RunKeeps : State → ℕ → Capture → Type 0
RunKeeps s t run = (q : List Value) → has (made_version s t run).wrote q ≡ false →
    fin.get (made_version s t run).rows q ≡ fin.get (rows_in (kept_at s (output_in s.flow t)).versions (newest s (output_in s.flow t))) q

-- so it is with each run of the workflow that writes changes; the rules of rows, lookups and groups give it
abbrev pub RunsKeep : Workflow → Type 0
RunsKeep w = (s : State) → IsReachable s → KeepsAll s → s.flow ≡ w → (t : ℕ) → t < length w.tasks → (run : Capture) →
    (run ≡ capture_of s t) ⊎ ((done_at s t).flight ≡ Some run) → is_based w (output_in w t) ≡ false → RunKeeps s t run

-- it is so where each task writes anew, or there is none
abbrev pub BasesKeep : Type 0
BasesKeep = (w : Workflow) → ((t : ℕ) → t < length w.tasks → is_based w (output_in w t) ≡ true) → RunsKeep w

-- a workflow without tasks is as the laws ask
abbrev pub ChannelsAloneKeep : Type 0
ChannelsAloneKeep = (w : Workflow) → w.tasks ≡ [] → IsWired w × RunsKeep w

abbrev pub ReachableKeeps : Type 0
ReachableKeeps = (s : State) → RunsKeep s.flow → IsReachable s → KeepsAll s

-- of any channel: the blocks of a path join to the block of its ends, which leads from the table of its start to that of its end
abbrev pub ReadsAreBlocks : Type 0
ReadsAreBlocks = (s : State) → IsWired s.flow → RunsKeep s.flow → IsReachable s → (c i j : ℕ) (path : List Span) →
    let vs = (kept_at s c).versions in
    IsPath (kept_at s c).shelf i j path → j ≤ newest s c → (read_of i (blocks_along vs path) ≡ block vs i j) × (merged (rows_in vs i) (block vs i j) ≡ rows_in vs j)
