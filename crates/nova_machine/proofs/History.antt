-- What is there of versions stays, and so does what runs made of them.
use Rattle.std.proofs.Common.{◌≡◌, ℕ, zero, suc, ◌≤◌, Bool, true, false, inl, inr, List, [], ◌∷◌, ◌++◌, length, Option, Some, None, refl, ap, sym, ◌∙◌, arith, if◌then◌else◌, append-nil}
use Rattle.std.specs.Prelude.{slice_index_or, slice_set, nat_le}
use Rattle.std.specs.List.{flat_map}
use Rattle.std.specs.FinMap as fin
use Rattle.std.proofs.lemmas.List.{get_or_append_left}
use Rattle.nova_value.specs.declared.value.Value.{Value}
use Rattle.nova_delta.specs.Seen.{table_of}
use Rattle.nova_path.specs.Lists.{IsOneOf}
use Rattle.nova_workflow.specs.declared.flow.Input.{Input}
use Rattle.nova_pig_algebra.specs.Meaning.{Row}
use Rattle.nova_pig_algebra.specs.Plan.{rows_of}
use Rattle.nova_pig_pattern.specs.declared.task.PatternKind.{PatternKind}
use Rattle.nova_pig_pattern.specs.declared.task.PatternKind.TheVariants.{NonIncremental, Stateless, Lookup, Stateful}
use Rattle.nova_machine.specs.Workflow.{no_input, task_in, plan_in, input_in, output_in, schema_in, main_place, is_based}
use Rattle.nova_machine.specs.Versions.{Version, has, no_version, version_in, rows_in}
use Rattle.nova_machine.specs.State.{State, Kept, Done, Capture, nothing_kept, kept_at, newest}
use Rattle.nova_machine.specs.Due.{seen_at}
use Rattle.nova_machine.specs.Results.{inputs_at, captured_rows, last_write, taken_up, rows_by, result_rows, result_of}
use Rattle.nova_machine.specs.Steps.{set_kept, with_version, add_version}
use Rattle.nova_machine.proofs.Growth.{at_set}

-- ---- the versions of a channel later on: some more behind them

pub record Extends (old new : List Version) : Type 0 where
  pub more : List Version
  pub is : new ≡ old ++ more

pub extends_itself : (vs : List Version) → Extends vs vs
extends_itself vs = record { more = []; is = sym (append-nil vs) }

pub extends_kept : (s : State) (c : ℕ) (k : Kept) → Extends (kept_at s c).versions k.versions → (n : ℕ) → Extends (kept_at s n).versions (kept_at (set_kept s c k) n).versions
extends_kept s c k e = at_set (λ n (l : Kept). Extends (kept_at s n).versions l.versions) s.channels c k nothing_kept (λ n. extends_itself (kept_at s n).versions) e

pub extends_version : (s : State) (c : ℕ) (v : Version) (n : ℕ) → Extends (kept_at s n).versions (kept_at (add_version s c v) n).versions
extends_version s c v n = extends_kept s c (with_version (is_based s.flow c) (kept_at s c) v) (record { more = v ∷ []; is = refl }) n

version_stays : (vs more : List Version) (n : ℕ) → n ≤ length vs → version_in (vs ++ more) n ≡ version_in vs n
version_stays vs more zero le = refl
version_stays vs more (suc n) le = get_or_append_left vs more no_version n (omega arith)

version_later : (vs new : List Version) (n : ℕ) → Extends vs new → n ≤ length vs → version_in new n ≡ version_in vs n
version_later vs new n e le = ap (λ ws. version_in ws n) e.is ∙ version_stays vs e.more n le

pub rows_stay : (vs new : List Version) (n : ℕ) → Extends vs new → n ≤ length vs → rows_in new n ≡ rows_in vs n
rows_stay vs new n e le = ap (λ (v : Version). v.rows) (version_later vs new n e le)

-- ---- what a run captured is there

abbrev pub Bounded : State → List Input → Capture → Type 0
Bounded s inputs run = (k : ℕ) → seen_at run k ≤ newest s (slice_index_or inputs k no_input).channel

write_stays : (vs new : List Version) → Extends vs new → (n : ℕ) → n ≤ length vs → (key : List Value) → last_write new n key ≡ last_write vs n key
write_stays vs new e zero le key = refl
write_stays vs new e (suc n) le key =
    let here = version_later vs new (suc n) e le in
    λ z. if has (here z).wrote key then suc n else write_stays vs new e n (omega arith) key z

taken_one : (k w : ℕ) (runs : List Capture) (run : Capture) → taken_up k w runs ≡ Some run → IsOneOf runs run
taken_one k w [] run e = absurd cc
taken_one k w (first ∷ runs) run e = go (nat_le w (seen_at first k)) e (taken_one k w runs run)
  where
    go : (b : Bool) → (if b then Some first else taken_up k w runs) ≡ Some run → (taken_up k w runs ≡ Some run → IsOneOf runs run) → IsOneOf (first ∷ runs) run
    go true f rest = let same : first ≡ run = cc in inl same
    go false f rest = inr (rest f)

module _ (s : State) (ks : List Kept) (ds : List Done) (at : ℕ) (later : (n : ℕ) → Extends (kept_at s n).versions (slice_index_or ks n nothing_kept).versions) where
  abbrev next : State
  next = record s { channels = ks; tasks = ds; moment = at }

  inputs_stay : (inputs : List Input) (versions : List ℕ) → ((k : ℕ) → slice_index_or versions k 0 ≤ newest s (slice_index_or inputs k no_input).channel) → inputs_at next inputs versions ≡ inputs_at s inputs versions
  inputs_stay [] versions low = refl
  inputs_stay (i ∷ inputs) [] low = refl
  inputs_stay (i ∷ inputs) (v ∷ versions) low =
      let first = rows_stay (kept_at s i.channel).versions (kept_at next i.channel).versions v (later i.channel) (low 0) in
      let rest = inputs_stay inputs versions (λ k. low (suc k)) in
      λ z. fin.values (first z) ∷ rest z

  captured_stay : (t : ℕ) (run : Capture) → Bounded s (task_in s.flow t).inputs run → captured_rows next t run ≡ captured_rows s t run
  captured_stay t run low = inputs_stay (task_in s.flow t).inputs run.versions low

  rows_by_stays : (t k : ℕ) (row : Row) (o : Option Capture) → ((run : Capture) → o ≡ Some run → Bounded s (task_in s.flow t).inputs run) → rows_by next t k row o ≡ rows_by s t k row o
  rows_by_stays t k row None low = refl
  rows_by_stays t k row (Some run) low = ap (λ tables. rows_of (plan_in s.flow t).plan (slice_set tables k (row ∷ []))) (captured_stay t run (low run refl))

  result_stays : (pattern : PatternKind) (t : ℕ) (before : List Capture) (run : Capture) → ((r : Capture) → IsOneOf (before ++ run ∷ []) r → Bounded s (task_in s.flow t).inputs r) → Bounded s (task_in s.flow t).inputs run
      → result_rows pattern next t before run ≡ result_rows pattern s t before run
  result_stays NonIncremental t before run all low = ap (rows_of (plan_in s.flow t).plan) (captured_stay t run low)
  result_stays Stateless t before run all low = ap (rows_of (plan_in s.flow t).plan) (captured_stay t run low)
  result_stays Stateful t before run all low = ap (rows_of (plan_in s.flow t).plan) (captured_stay t run low)
  result_stays Lookup t before run all low =
      let k = main_place (task_in s.flow t).inputs in
      let main = (input_in s.flow t k).channel in
      let old = (kept_at s main).versions in
      let new = (kept_at next main).versions in
      let v = seen_at run k in
      let runs = before ++ run ∷ [] in
      let same : (e : List Value × Row) → rows_by next t k e.1 (taken_up k (last_write new v e.0) runs) ≡ rows_by s t k e.1 (taken_up k (last_write old v e.0) runs) = λ e.
      ap (λ w. rows_by next t k e.1 (taken_up k w runs)) (write_stays old new (later main) v (low k) e.0)
      ∙ rows_by_stays t k e.1 (taken_up k (last_write old v e.0) runs) (λ r is. all r (taken_one k (last_write old v e.0) runs r is)) in
      λ z. flat_map (λ (e : List Value × Row). same e z) (fin.entries (rows_stay old new v (later main) (low k) z))

  pub made_stays : (t : ℕ) (before : List Capture) (run : Capture) → ((r : Capture) → IsOneOf (before ++ run ∷ []) r → Bounded s (task_in s.flow t).inputs r) → Bounded s (task_in s.flow t).inputs run
      → (result_of next t before run).rows ≡ (result_of s t before run).rows
  made_stays t before run all low = ap (λ (rows : List Row). (table_of (schema_in s.flow (output_in s.flow t)) rows).rows) (result_stays (plan_in s.flow t).pattern t before run all low)
