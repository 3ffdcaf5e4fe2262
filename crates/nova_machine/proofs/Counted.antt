-- A state that commands reach keeps something of each channel of its workflow.
use Rattle.std.proofs.Common.{◌≡◌, ℕ, suc, ◌+◌, ◌==◌, List, [], ◌∷◌, length, map, Some, refl, ap, ◌∙◌}
use Rattle.std.specs.Prelude.{nat_le}
use Rattle.std.proofs.Math.ListN.{length-set}
use Rattle.nova_workflow.specs.declared.flow.Channel.{Channel}
use Rattle.nova_machine.specs.Workflow.{is_input}
use Rattle.nova_machine.specs.State.{State, Kept, start, nothing_kept, newest, done_at}
use Rattle.nova_machine.specs.Due.{capture_of}
use Rattle.nova_machine.specs.Needed.{left_from}
use Rattle.nova_machine.specs.Steps.{Step, Load, Tick, Run, Begin, Finish, Drop, Worked, Compact, Chain, Collect, Show, Blocks, Refused, after, after_all, set_kept, set_done, add_version, loaded_version, add_run, add_span, landing, may_begin, may_chain}
use Rattle.nova_machine.specs.ReachableLaws.{ChannelsAreKept}
use Rattle.nova_machine.proofs.Turns.{on_either, on_landing}

abbrev Counts : ℕ → State → Type 0
Counts n s = length s.channels ≡ n

set_one : (s : State) (c : ℕ) (k : Kept) → Counts (length s.channels) (set_kept s c k)
set_one s c k = length-set s.channels c k

left_all : (s : State) (c : ℕ) (ks : List Kept) → length (left_from s c ks) ≡ length ks
left_all s c [] = refl
left_all s c (k ∷ ks) = ap suc (left_all s (c + 1) ks)

count_after : (s : State) (x : Step) → length (after s x).channels ≡ length s.channels
count_after s (Load c entries) = on_either (Counts (length s.channels)) (is_input s.flow c) (add_version s c (loaded_version s c entries)) s (λ _. set_one s c _) (λ _. refl)
count_after s (Tick m) = on_either (Counts (length s.channels)) (nat_le s.moment m) (record s { moment = m }) s (λ _. refl) (λ _. refl)
count_after s (Run t) = on_either (Counts (length s.channels)) (may_begin s t) (add_run s t (capture_of s t)) s (λ _. length-set s.channels _ _) (λ _. refl)
count_after s (Begin t) = on_either (Counts (length s.channels)) (may_begin s t) (set_done s t (record (done_at s t) { flight = Some (capture_of s t) })) s (λ _. refl) (λ _. refl)
count_after s (Finish t) = on_landing (Counts (length s.channels)) s t (landing s t) refl refl (λ run e. length-set s.channels _ _)
count_after s (Drop t) = refl
count_after s (Worked k) = refl
count_after s (Compact c) = on_either (Counts (length s.channels)) (newest s c == 0) s (add_span s c 0 (newest s c)) (λ _. refl) (λ _. set_one s c _)
count_after s (Chain c i j) = on_either (Counts (length s.channels)) (may_chain s c i j) (add_span s c i j) s (λ _. set_one s c _) (λ _. refl)
count_after s Collect = left_all s 0 s.channels
count_after s (Show c) = refl
count_after s (Blocks c) = refl
count_after s (Refused refusal) = refl

count_all : (s : State) (xs : List Step) → length (after_all s xs).channels ≡ length s.channels
count_all s [] = refl
count_all s (x ∷ xs) = count_all (after s x) xs ∙ count_after s x

count_start : (cs : List Channel) → length (map (λ (c : Channel). nothing_kept) cs) ≡ length cs
count_start [] = refl
count_start (c ∷ cs) = ap suc (count_start cs)

pub channels_are_kept : ChannelsAreKept
channels_are_kept s at = ap (λ (t : State). length t.channels) at.is ∙ count_all (start s.flow) at.steps ∙ count_start s.flow.channels
