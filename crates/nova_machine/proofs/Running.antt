-- What runs read, take up and write.
use Rattle.std.proofs.Common.{◌≡◌, ◌⊎◌, inl, inr, ℕ, zero, suc, ◌<◌, ◌≤◌, Bool, true, false, List, [], ◌∷◌, ◌++◌, length, Option, Some, refl, ap, sym, ◌∙◌, arith, if◌then◌else◌}
use Rattle.std.specs.Prelude.{nat_le, slice_index_or}
use Rattle.std.proofs.lemmas.Bool.Decides.{nat_tests}
use Rattle.std.specs.FinMap as fin
use Rattle.nova_value.specs.declared.value.Value.{Value}
use Rattle.nova_delta.specs.Merge.{RowMap}
use Rattle.nova_path.specs.Lists.{IsOneOf}
use Rattle.nova_path.proofs.Paths.{one_flat, of_flat, one_left, one_right, one_either}
use Rattle.nova_workflow.specs.declared.flow.Input.{Input}
use Rattle.nova_pig_algebra.specs.Meaning.{Row}
use Rattle.nova_pig_algebra.specs.Plan.{Plan}
use Rattle.nova_pig_pattern.specs.declared.task.PatternKind.{PatternKind}
use Rattle.nova_pig_pattern.specs.declared.task.PatternKind.TheVariants.{NonIncremental, Stateless, Lookup, Stateful}
use Rattle.nova_pig_pattern.specs.OutputKeys.{output_keys}
use Rattle.nova_machine.specs.Workflow.{no_input, task_in, input_in, plan_in, main_place}
use Rattle.nova_machine.specs.Versions.{Version, has, rows_in, version_in, written}
use Rattle.nova_machine.specs.State.{State, Capture, kept_at, done_at}
use Rattle.nova_machine.specs.Due.{no_capture, seen_at, cursor}
use Rattle.nova_machine.specs.Results.{inputs_at, last_write, rows_by, taken_up, result_of}
use Rattle.nova_machine.specs.Writing.{groups_at, made_version, written_keys}
use Rattle.nova_machine.specs.RunLaws.{TablesAreCaptured, IsLastWrite, LastWrites, captured_by, TookUp, Rise, RunsTakeUp, LookupsByLastWrite, OthersByWholeTables, Writes, RunsWrite}

-- ---- what a run reads

input_at : (s : State) (inputs : List Input) (versions : List ℕ) → length versions ≡ length inputs → (k : ℕ) → k < length inputs
    → slice_index_or (inputs_at s inputs versions) k [] ≡ fin.values (rows_in (kept_at s (slice_index_or inputs k no_input).channel).versions (slice_index_or versions k 0))
input_at s [] versions same k lt = absurd (omega (arith, lt))
input_at s (i ∷ is) [] same k lt = absurd (omega (arith, same))
input_at s (i ∷ is) (v ∷ vs) same zero lt = refl
input_at s (i ∷ is) (v ∷ vs) same (suc k) lt = input_at s is vs (omega (arith, same)) k (omega (arith, lt))

pub tables_are_captured : TablesAreCaptured
tables_are_captured s t run same k lt = input_at s (task_in s.flow t).inputs run.versions same k lt

-- ---- lookup tasks

write_here : (vs : List Version) (v : ℕ) (key : List Value) (b : Bool) → has (version_in vs (suc v)).wrote key ≡ b → IsLastWrite vs v key (last_write vs v key)
    → IsLastWrite vs (suc v) key (if b then suc v else last_write vs v key)
write_here vs v key true is before = record { low = omega arith; wrote = λ some. is; last = λ u above within. absurd (omega (arith, above, within)) }
write_here vs v key false is before =
    let below = before.low in
    record { low = omega (arith, below); wrote = before.wrote; last = later }
  where
    later : (u : ℕ) → last_write vs v key < u → u ≤ suc v → has (version_in vs u).wrote key ≡ false
    later u above within =
        let split : (u ≤ v) ⊎ (suc v ≡ u) = grind arith in
        elim split as (λ _. has (version_in vs u).wrote key ≡ false) [ inl low ↦ before.last u above low | inr here ↦ ap (λ n. has (version_in vs n).wrote key) (sym here) ∙ is ]

pub last_writes : LastWrites
last_writes vs zero key = record { low = omega arith; wrote = λ some. absurd (omega (arith, some)); last = λ u above within. absurd (omega (arith, above, within)) }
last_writes vs (suc v) key = write_here vs v key (has (version_in vs (suc v)).wrote key) refl (last_writes vs v key)

-- behind the first run
rise_behind : (k : ℕ) (run : Capture) (runs : List Capture) → Rise k (run ∷ runs) → Rise k runs
rise_behind k run runs rise zero j low within = omega arith
rise_behind k run runs rise (suc i) zero low within = absurd (omega (arith, low))
rise_behind k run runs rise (suc i) (suc j) low within = rise (suc (suc i)) (suc (suc j)) (omega (arith, low)) (omega (arith, within))

pick_first : (b : Bool) (run : Capture) (o : Option Capture) → b ≡ true → (if b then Some run else o) ≡ Some run
pick_first true run o e = refl
pick_first false run o e = absurd cc

pick_later : (b : Bool) (run : Capture) (o : Option Capture) → b ≡ false → (if b then Some run else o) ≡ o
pick_later true run o e = absurd cc
pick_later false run o e = refl

takes : (k w : ℕ) (runs : List Capture) → 0 < w → Rise k runs → (n : ℕ) → n < length runs → captured_by k runs n < w → w ≤ captured_by k runs (suc n)
    → taken_up k w runs ≡ Some (slice_index_or runs n no_capture)
takes k w [] some rise n within above below = absurd (omega (arith, within))
takes k w (run ∷ runs) some rise zero within above below = pick_first (nat_le w (seen_at run k)) run (taken_up k w runs) (grind (arith, nat_tests, below))
takes k w (run ∷ runs) some rise (suc n) within above below =
    let first = rise 1 (suc n) (omega arith) (omega (arith, within)) in
    let under : seen_at run k < w = omega (arith, first, above) in
    pick_later (nat_le w (seen_at run k)) run (taken_up k w runs) (grind (arith, nat_tests, under))
    ∙ takes k w runs some (rise_behind k run runs rise) n (omega (arith, within)) (behind n above) below
  where
    behind : (m : ℕ) → captured_by k (run ∷ runs) (suc m) < w → captured_by k runs m < w
    behind zero lt = some
    behind (suc m) lt = lt

-- none of the runs before captured it: what is captured before the first of these is below
took : (k w : ℕ) (runs : List Capture) → 0 < w → (run : Capture) → taken_up k w runs ≡ Some run → (n : ℕ) × TookUp k w runs n × (run ≡ slice_index_or runs n no_capture)
took k w [] some run e = absurd cc
took k w (first ∷ runs) some run e = go (nat_le w (seen_at first k)) refl e (took k w runs some run)
  where
    go : (b : Bool) → nat_le w (seen_at first k) ≡ b → (if b then Some first else taken_up k w runs) ≡ Some run
        → (taken_up k w runs ≡ Some run → (n : ℕ) × TookUp k w runs n × (run ≡ slice_index_or runs n no_capture))
        → (n : ℕ) × TookUp k w (first ∷ runs) n × (run ≡ slice_index_or (first ∷ runs) n no_capture)
    go true is f rest =
        let same : first ≡ run = cc in
        let low : w ≤ seen_at first k = grind (arith, nat_tests, is) in
        (0, record { in_range = omega arith; above = some; below = low }, sym same)
    go false is f rest =
        let high : seen_at first k < w = grind (arith, nat_tests, is) in
        let r = rest f in
        let within = r.1.in_range in
        (suc r.0, record { in_range = omega (arith, within); above = ahead r.0 high r.1.above; below = r.1.below }, r.2)
      where
        ahead : (m : ℕ) → seen_at first k < w → captured_by k runs m < w → captured_by k (first ∷ runs) (suc m) < w
        ahead zero high lt = high
        ahead (suc m) high lt = lt

pub runs_take_up : RunsTakeUp
runs_take_up k w runs some = (λ rise n is. takes k w runs some rise n is.in_range is.above is.below, λ run e. took k w runs some run e)

pub lookups_by_last_write : LookupsByLastWrite
lookups_by_last_write s t before run y =
    let k = main_place (task_in s.flow t).inputs in
    let main = (kept_at s (input_in s.flow t k).channel).versions in
    let v = seen_at run k in
    let runs = before ++ run ∷ [] in (
      of_flat (λ (e : List Value × Row). rows_by s t k e.1 (taken_up k (last_write main v e.0) runs)) (fin.entries (rows_in main v)) y,
      λ h. one_flat (λ (e : List Value × Row). rows_by s t k e.1 (taken_up k (last_write main v e.0) runs)) (fin.entries (rows_in main v)) h.0 y h.1 h.2,
    )

pub others_by_whole_tables : OthersByWholeTables
others_by_whole_tables NonIncremental other s t before run = refl
others_by_whole_tables Stateless other s t before run = refl
others_by_whole_tables Stateful other s t before run = refl
others_by_whole_tables Lookup other s t before run = absurd (other refl)

-- ---- what a run writes

writes_by : (pattern : PatternKind) (p : Plan) (k : ℕ) (main : List Version) (i j : ℕ) (made : RowMap) (q : List Value) → IsOneOf (written_keys pattern p k main i j made) q → Writes pattern p k main i j made q
writes_by NonIncremental p k main i j made q h = h
writes_by Stateless p k main i j made q h = of_flat (output_keys p k) (written main i j) q h
writes_by Lookup p k main i j made q h = of_flat (output_keys p k) (written main i j) q h
writes_by Stateful p k main i j made q h =
    let r = of_flat (λ (key : List Value). groups_at p (rows_in main i) key ++ groups_at p (rows_in main j) key) (written main i j) q h in
    (r.0, r.1, one_either (groups_at p (rows_in main i) r.0) (groups_at p (rows_in main j) r.0) q r.2)

by_writes : (pattern : PatternKind) (p : Plan) (k : ℕ) (main : List Version) (i j : ℕ) (made : RowMap) (q : List Value) → Writes pattern p k main i j made q → IsOneOf (written_keys pattern p k main i j made) q
by_writes NonIncremental p k main i j made q h = h
by_writes Stateless p k main i j made q h = one_flat (output_keys p k) (written main i j) h.0 q h.1 h.2
by_writes Lookup p k main i j made q h = one_flat (output_keys p k) (written main i j) h.0 q h.1 h.2
by_writes Stateful p k main i j made q h =
    one_flat (λ (key : List Value). groups_at p (rows_in main i) key ++ groups_at p (rows_in main j) key) (written main i j) h.0 q h.1
    (elim h.2 as (λ _. IsOneOf (groups_at p (rows_in main i) h.0 ++ groups_at p (rows_in main j) h.0) q) [
      | inl old ↦ one_left (groups_at p (rows_in main i) h.0) (groups_at p (rows_in main j) h.0) q old
      | inr new ↦ one_right (groups_at p (rows_in main i) h.0) (groups_at p (rows_in main j) h.0) q new
    ])

pub runs_write : RunsWrite
unfolding made_version
runs_write s t run q =
    let k = main_place (task_in s.flow t).inputs in
    let main = (kept_at s (input_in s.flow t k).channel).versions in
    let pattern = (plan_in s.flow t).pattern in
    let p = (plan_in s.flow t).plan in
    let made = (result_of s t (done_at s t).runs run).rows in (
      refl,
      (writes_by pattern p k main (cursor s t k) (seen_at run k) made q, by_writes pattern p k main (cursor s t k) (seen_at run k) made q),
    )
