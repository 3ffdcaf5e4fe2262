-- Versions are tables, the keys that they wrote fit, and blocks are deltas.
use Rattle.std.proofs.Common.{inl, inr, ℕ, ◌<◌, ◌==◌, List, [], ◌∷◌, length, Some, refl, sym, subst}
use Rattle.std.specs.Prelude.{nat_le}
use Rattle.std.specs.List.{AllByRecursion}
use Rattle.std.specs.FinMap as fin
use Rattle.nova_value.specs.declared.schema.Entry.{Entry}
use Rattle.nova_value.specs.Entries.{FitsEntry}
use Rattle.nova_machine.specs.Workflow.{Workflow, is_based, is_input, output_in, schema_in}
use Rattle.nova_machine.specs.State.{Capture, Kept, State, done_at, kept_at, newest, nothing_kept, start}
use Rattle.nova_machine.specs.Due.{capture_of}
use Rattle.nova_machine.specs.Writing.{made_version}
use Rattle.nova_machine.specs.Steps.{Step, Load, Tick, Run, Begin, Finish, Drop, Worked, Compact, Chain, Collect, Show, Blocks, Refused, after, after_all, add_run, add_span, add_version, landing, load_delta, loaded_version, may_begin, may_chain, set_done, set_kept, with_hop, with_version}
use Rattle.nova_machine.specs.Reachable.{AllMade, IsMade, IsReachable}
use Rattle.nova_machine.proofs.Growth.{at_set}
use Rattle.nova_machine.proofs.Turns.{flow_after, on_either, on_landing}
use Rattle.nova_machine.proofs.Kept.{landing_some, same_everywhere}
use Rattle.nova_machine.proofs.Collecting.{kept_collected}
use Rattle.nova_machine.proofs.Reached.{reachable_more}
use Rattle.nova_histories.specs.Planned.{IsPlannedFlow}
use Rattle.nova_histories.specs.Made.{IsCurrent}
use Rattle.nova_histories.specs.Statements.{BlocksAreDeltas, IsWhole, VersionsAreTables, WrittenKeysFit}
use Rattle.nova_histories.proofs.Captures.{all_push, begins, captured, current_risen}
use Rattle.nova_histories.proofs.Fitting.{FitsIn, at_version, block_fits, delta_all, delta_none, loaded_fits, one_more}
use Rattle.nova_histories.proofs.Planned.{owned, shaped}
use Rattle.nova_histories.proofs.RunsFit.{run_fits}

abbrev pub AllFit : State → Type 0
AllFit s = (c : ℕ) → AllByRecursion (FitsIn (schema_in s.flow c)) (kept_at s c).versions

fit_set : (s : State) (c : ℕ) (k : Kept) → AllFit s → AllByRecursion (FitsIn (schema_in s.flow c)) k.versions → AllFit (set_kept s c k)
fit_set s c k all new = at_set (λ n (l : Kept). AllByRecursion (FitsIn (schema_in s.flow n)) l.versions) s.channels c k nothing_kept all new

fit_hop : (s : State) (c i j : ℕ) → AllFit s → AllFit (add_span s c i j)
fit_hop s c i j all = fit_set s c (with_hop (kept_at s c) i j) all (all c)

module _ (s : State) (planned : IsPlannedFlow s.flow) (at : IsReachable s) (all : AllFit s) where
  fit_load : (c : ℕ) (entries : List Entry) → c < length s.flow.channels → AllByRecursion (FitsEntry (schema_in s.flow c)) entries → AllFit (add_version s c (loaded_version s c entries))
  fit_load c entries lt fits =
      let schema = schema_in s.flow c in
      let vs = (kept_at s c).versions in
      fit_set s c (with_version (is_based s.flow c) (kept_at s c) (loaded_version s c entries)) all
      (one_more schema vs (loaded_version s c entries) (all c) (loaded_fits schema (shaped s.flow planned c lt) vs (load_delta schema entries) (all c) (delta_all schema fin.empty entries fits (delta_none schema))))

  fit_run : (t : ℕ) (run : Capture) → t < length s.flow.tasks → IsCurrent s t run → AllFit (add_run s t run)
  fit_run t run lt current =
      let own = owned s.flow planned in
      let c = output_in s.flow t in
      let whole = (current_risen s own at t lt run current).0 in
      let wholes = all_push (IsWhole s t) (done_at s t).runs run (captured s own at t).whole whole in
      fit_set s c (with_version (is_based s.flow c) (kept_at s c) (made_version s t run)) all
      (one_more (schema_in s.flow c) (kept_at s c).versions (made_version s t run) (all c) (run_fits s planned all t lt run wholes whole))

  fit_after : (x : Step) → IsMade s x → AllFit (after s x)
  fit_after (Load c entries) made = on_either AllFit (is_input s.flow c) (add_version s c (loaded_version s c entries)) s (λ _. fit_load c entries made.0 made.2) (λ _. all)
  fit_after (Tick m) made = on_either AllFit (nat_le s.moment m) (record s { moment = m }) s (λ _. all) (λ _. all)
  fit_after (Run t) made = on_either AllFit (may_begin s t) (add_run s t (capture_of s t)) s (λ may. fit_run t (capture_of s t) (begins s t may) (inl refl)) (λ _. all)
  fit_after (Begin t) made = on_either AllFit (may_begin s t) (set_done s t (record (done_at s t) { flight = Some (capture_of s t) })) s (λ _. all) (λ _. all)
  fit_after (Finish t) made = on_landing AllFit s t (landing s t) refl all (λ run e. let lands = landing_some s t run e in fit_run t run lands.0 (inr lands.1))
  fit_after (Drop t) made = all
  fit_after (Worked k) made = all
  fit_after (Compact c) made = on_either AllFit (newest s c == 0) s (add_span s c 0 (newest s c)) (λ _. all) (λ _. fit_hop s c 0 (newest s c) all)
  fit_after (Chain c i j) made = on_either AllFit (may_chain s c i j) (add_span s c i j) s (λ _. fit_hop s c i j all) (λ _. all)
  fit_after Collect made = λ c. subst (λ (k : Kept). AllByRecursion (FitsIn (schema_in s.flow c)) k.versions) (sym (kept_collected s c)) (all c)
  fit_after (Show c) made = all
  fit_after (Blocks c) made = all
  fit_after (Refused refusal) made = all

fit_all : (s : State) (xs : List Step) → IsPlannedFlow s.flow → IsReachable s → AllFit s → AllMade s xs → AllFit (after_all s xs)
fit_all s [] planned at all made = all
fit_all s (x ∷ xs) planned at all made = fit_all (after s x) xs (subst IsPlannedFlow (sym (flow_after s x)) planned) (reachable_more s x at made.0) (fit_after s planned at all x made.0) made.1

fit_start : (w : Workflow) → AllFit (start w)
fit_start w c = subst (λ (k : Kept). AllByRecursion (FitsIn (schema_in w c)) k.versions) (sym (same_everywhere w.channels c nothing_kept)) tt

pub versions_fit : (s : State) → IsPlannedFlow s.flow → IsReachable s → AllFit s
versions_fit s planned at = subst AllFit (sym at.is) (fit_all (start s.flow) at.steps planned (record { steps = []; made = tt; is = refl }) (fit_start s.flow) at.made)

pub versions_are_tables : VersionsAreTables
versions_are_tables s planned at c n = (at_version (schema_in s.flow c) (kept_at s c).versions (versions_fit s planned at c) n).table

pub written_keys_fit : WrittenKeysFit
written_keys_fit s planned at c n q is = (at_version (schema_in s.flow c) (kept_at s c).versions (versions_fit s planned at c) n).keys q is

pub blocks_are_deltas : BlocksAreDeltas
blocks_are_deltas s planned at c i j = block_fits (schema_in s.flow c) (kept_at s c).versions (versions_fit s planned at c) i j

-- so does what a run that begins now, or is in flight, makes
pub made_fits : (s : State) → IsPlannedFlow s.flow → IsReachable s → (t : ℕ) → t < length s.flow.tasks → (run : Capture) → IsCurrent s t run → FitsIn (schema_in s.flow (output_in s.flow t)) (made_version s t run)
made_fits s planned at t lt run current =
    let own = owned s.flow planned in
    let whole = (current_risen s own at t lt run current).0 in
    run_fits s planned (versions_fit s planned at) t lt run (all_push (IsWhole s t) (done_at s t).runs run (captured s own at t).whole whole) whole
