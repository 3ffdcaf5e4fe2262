-- What a store asks of a run's commit.
use Rattle.std.proofs.Common.{◌≡◌, ◌≢◌, inl, inr, ℕ, suc, ◌+◌, ◌<◌, ◌≤◌, ◌^◌, ◌==◌, Bool, true, false, not, ◌&&◌, ◌||◌, List, [], ◌∷◌, length, map, Option, Some, None, refl, ap, sym, ◌∙◌, subst, arith, sum_by, if◌then◌else◌}
use Rattle.std.specs.Prelude.{is_some, nat_lt, nat_le, slice_index_or}
use Rattle.std.proofs.lemmas.Bool.Decides.{nat_tests}
use Rattle.nova_path.specs.Lists.{IsOneOf}
use Rattle.nova_path.specs.Shelf.{chosen_path}
use Rattle.nova_path.specs.Intervals.{size_of, spans, weight_in}
use Rattle.nova_path.specs.declared.interval.Interval.{Interval}
use Rattle.nova_path.proofs.Room.{rises_from}
use Rattle.nova_path.proofs.Weights.{none_is_no_path}
use Rattle.nova_workflow.specs.declared.flow.Input.{Input}
use Rattle.nova_workflow.specs.declared.flow.Task.{Task}
use Rattle.nova_workflow.specs.declared.flow.Trigger.{Trigger}
use Rattle.nova_workflow.specs.declared.flow.Trigger.TheVariants.{OnData, Every, After}
use Rattle.nova_channel.specs.Reading.{AreNumbered}
use Rattle.nova_commit.specs.declared.commit.PartFile.{PartFile}
use Rattle.nova_delta.specs.Merge.{DeltaValue}
use Rattle.nova_row_codec.specs.Spelling.{spelling_of}
use Rattle.nova_groups.specs.State.{StateValue}
use Rattle.nova_group_codec.specs.Spelling.{state_bytes}
use Rattle.nova_meta.specs.declared.captured.Captured.{Captured}
use Rattle.nova_meta.specs.declared.progress.Progress.{Progress}
use Rattle.nova_meta.specs.Catalog.{Entered, Shelved, allows, applied, bound, captured, interval_of, is_task, is_timely, last_moment, leads, may_count, may_have_parts, may_parts, may_rise, may_see_all, next_progress, next_shelf, no_run, nothing_shelved, progress_at, shelf_at, total}
use Rattle.nova_meta.specs.Named.{Channel, Content, Names, State as StatePart}
use Rattle.nova_meta.specs.Shelves.{IsShelved}
use Rattle.nova_meta.specs.Wired.{is_based, wire_at}
use Rattle.nova_meta.proofs.Allowed.{and_both}
use Rattle.nova_meta.proofs.Numbered.{parts_either}
use Rattle.nova_meta.proofs.Sound.{sound_step}
use Rattle.nova_meta.proofs.Shelved.{placed_all}
use Rattle.nova_machine.specs.Workflow.{is_new, no_input}
use Rattle.nova_machine.specs.State.{Capture}
use Rattle.nova_machine.proofs.Growth.{at_set}
use Rattle.nova_machine.proofs.Shelves.{shelved}
use Rattle.nova_trigger.specs.Due.{capture_in, captured_of, newest_in, runs_named}
use Rattle.nova_execution.specs.Reads.{edge_of}
use Rattle.nova_runner.specs.Acts.{has_room, own_run, parts_of}
use Rattle.nova_runner.specs.Committing.{AreSpare}
use Rattle.nova_runner.specs.Files.{IsNamed, Piece}
use Rattle.nova_runner.specs.Readable.{IsReadable}
use Rattle.nova_runner.specs.RunFiles.{AreRunFiles, IsFile}
use Rattle.nova_runner.specs.Workflow.{named_by}
use Rattle.nova_runner.specs.declared.ready.Fresh.{Fresh}
use Rattle.nova_runner.proofs.Leading.{which}

pub equal_itself : (n : ℕ) → (n == n) ≡ true
equal_itself n = grind (arith, nat_tests)

low_itself : (n : ℕ) → nat_le n n ≡ true
low_itself n = grind (arith, nat_tests)

-- ---- it is in time, and sees what is there

seen_now : (cat : Entered) (trigger : Trigger) → may_count cat (named_by trigger) (runs_named cat trigger) ≡ true
seen_now cat OnData = refl
seen_now cat (Every period) = refl
seen_now cat (After task) = low_itself (progress_at cat task).runs

in_time : (cat : Entered) (t : ℕ) (trigger : Trigger) (after : Option ℕ) → after ≡ named_by trigger → last_moment (progress_at cat t).last ≤ cat.moment →
    (nat_le (last_moment (progress_at cat t).last) cat.moment && (nat_le cat.moment cat.moment && may_count cat after (runs_named cat trigger))) ≡ true
in_time cat t trigger after is late =
    three (nat_le (last_moment (progress_at cat t).last) cat.moment) (nat_le cat.moment cat.moment) (may_count cat after (runs_named cat trigger)) (grind (arith, nat_tests)) (low_itself cat.moment)
    (ap (λ o. may_count cat o (runs_named cat trigger)) is ∙ seen_now cat trigger)
  where
    three : (a b c : Bool) → a ≡ true → b ≡ true → c ≡ true → (a && (b && c)) ≡ true
    three true true true p q r = refl
    three false b c p q r = cc
    three true false c p q r = cc
    three true true false p q r = cc

-- a path from a version to itself is found
leads_nowhere : (s : Shelved) → IsShelved s → (n : ℕ) → leads s.intervals n n ≡ true
leads_nowhere s is n = elim (chosen_path (weight_in s.intervals) (spans s.intervals) n n) as (λ o. chosen_path (weight_in s.intervals) (spans s.intervals) n n ≡ o → is_some o ≡ true) [
  | None ↦ λ none. absurd ((none_is_no_path (weight_in s.intervals) (spans s.intervals) (rises_from s.intervals is.rise) n n).0 none ([], refl))
  | Some path ↦ λ _. refl
] refl

sees : (cat : Entered) → ((c : ℕ) → IsShelved (shelf_at cat c)) → (last : Option Captured) (k : ℕ) (is : List Input) → ((j : ℕ) → j < length is → is_new (slice_index_or is j no_input).mode ≡ true → captured last (k + j) ≤ newest_in cat (slice_index_or is j no_input))
    → may_see_all cat last k (map edge_of is) (map (newest_in cat) is) ≡ true
sees cat shelved last k [] there = refl
sees cat shelved last k (i ∷ is) there =
    two (nat_le (newest_in cat i) (newest_in cat i)) (is_new i.mode) (nat_le (captured last k) (newest_in cat i)) (leads (shelf_at cat i.channel).intervals (newest_in cat i) (newest_in cat i)) (may_see_all cat last (suc k) (map edge_of is) (map (newest_in cat) is))
    (low_itself (newest_in cat i)) low (leads_nowhere (shelf_at cat i.channel) (shelved i.channel) (newest_in cat i)) (sees cat shelved last (suc k) is rest)
  where
    low : is_new i.mode ≡ true → nat_le (captured last k) (newest_in cat i) ≡ true
    low new = let here : k + 0 ≡ k = omega arith in let le = subst (λ n. captured last n ≤ newest_in cat i) here (there 0 (omega arith) new) in grind (arith, nat_tests)

    rest : (j : ℕ) → j < length is → is_new (slice_index_or is j no_input).mode ≡ true → captured last (suc k + j) ≤ newest_in cat (slice_index_or is j no_input)
    rest j low new = let next : k + suc j ≡ suc k + j = omega arith in subst (λ n. captured last n ≤ newest_in cat (slice_index_or is j no_input)) next (there (suc j) (omega (arith, low)) new)

    two : (a n x y r : Bool) → a ≡ true → (n ≡ true → x ≡ true) → y ≡ true → r ≡ true → ((a && (not n || (x && y))) && r) ≡ true
    two true false x y true p q v s = refl
    two true true true true true p q v s = refl
    two true true false y r p q v s = let no : false ≡ true = q refl in absurd cc
    two true true true false r p q v s = absurd cc
    two false n x y r p q v s = absurd cc
    two true n x y false p q v s = absurd cc

-- ---- only room keeps it out

only_room : (b k m e h p y a v r n : Bool) → b ≡ true → k ≡ true → m ≡ true → e ≡ true → h ≡ true → p ≡ true → y ≡ true →
    (b && (k && (m && (((e && a) && (v && (r && (n && (h && p))))) && y)))) ≡ (a && (v && (r && n)))
only_room true true true true true true true true true true true q1 q2 q3 q4 q5 q6 q7 = refl
only_room true true true true true true true false v r n q1 q2 q3 q4 q5 q6 q7 = refl
only_room true true true true true true true true false r n q1 q2 q3 q4 q5 q6 q7 = refl
only_room true true true true true true true true true false n q1 q2 q3 q4 q5 q6 q7 = refl
only_room true true true true true true true true true true false q1 q2 q3 q4 q5 q6 q7 = refl
only_room false k m e h p y a v r n q1 q2 q3 q4 q5 q6 q7 = cc
only_room true false m e h p y a v r n q1 q2 q3 q4 q5 q6 q7 = cc
only_room true true false e h p y a v r n q1 q2 q3 q4 q5 q6 q7 = cc
only_room true true true false h p y a v r n q1 q2 q3 q4 q5 q6 q7 = cc
only_room true true true true false p y a v r n q1 q2 q3 q4 q5 q6 q7 = cc
only_room true true true true true false y a v r n q1 q2 q3 q4 q5 q6 q7 = cc
only_room true true true true true true false a v r n q1 q2 q3 q4 q5 q6 q7 = cc

-- parts come only where the task keeps state
parts_come : (keeps stateful : Bool) (n z : ℕ) → (keeps ≡ true → stateful ≡ true) → may_have_parts stateful (parts_of keeps n z) ≡ true
parts_come keeps true n z is = refl
parts_come false false n z is = refl
parts_come true false n z is = is refl

parts_numbered : (keeps : Bool) (n z : ℕ) → may_parts 0 (n + 1) (parts_of keeps n z) ≡ true
parts_numbered false n z = refl
parts_numbered true n z = ap (λ (b : Bool). b && true) (equal_itself (n + 1))

-- what the store knows of a task: its wire, whether it keeps state, and that no cursor is above the newest version
pub record IsRunTask (cat : Entered) (task : Task) (t : ℕ) (keeps : Bool) : Type 0 where
  pub begun : cat.begun ≡ true
  pub stateful : keeps ≡ true → (wire_at cat.wiring t).stateful ≡ true
  pub there : t < length cat.tasks
  pub inputs : (wire_at cat.wiring t).inputs ≡ map edge_of task.inputs
  pub after : (wire_at cat.wiring t).after ≡ named_by task.trigger
  pub shelved : (c : ℕ) → IsShelved (shelf_at cat c)
  pub behind : (k : ℕ) → k < length task.inputs → is_new (slice_index_or task.inputs k no_input).mode ≡ true → captured (progress_at cat t).last k ≤ newest_in cat (slice_index_or task.inputs k no_input)
  pub late : last_moment (progress_at cat t).last ≤ cat.moment

pub run_rules : (cat : Entered) (task : Task) (t : ℕ) (keeps : Bool) (size state : ℕ) → IsRunTask cat task t keeps
    → allows cat (own_run cat t (capture_in (captured_of cat task)) keeps size state) ≡ has_room cat (own_run cat t (capture_in (captured_of cat task)) keeps size state)
run_rules cat task t keeps size state is =
    let c = (wire_at cat.wiring t).output in
    let parts = parts_of keeps cat.next state in
    only_room cat.begun (is_task cat t) (is_timely cat t cat.moment (runs_named cat task.trigger)) (cat.next == cat.next) (may_have_parts (wire_at cat.wiring t).stateful parts) (may_parts 0 (cat.next + 1) parts)
    (may_see_all cat (progress_at cat t).last 0 (wire_at cat.wiring t).inputs (map (newest_in cat) task.inputs))
    (nat_le (total (shelf_at cat c) + size) bound) (may_rise (shelf_at cat c).version) (may_rise (progress_at cat t).runs) (may_rise (cat.next + length parts))
    is.begun (let lt = is.there in grind (arith, nat_tests)) (in_time cat t task.trigger (wire_at cat.wiring t).after is.after is.late) (equal_itself cat.next) (parts_come keeps (wire_at cat.wiring t).stateful cat.next state is.stateful) (parts_numbered keeps cat.next state)
    (ap (λ es. may_see_all cat (progress_at cat t).last 0 es (map (newest_in cat) task.inputs)) is.inputs ∙ sees cat is.shelved (progress_at cat t).last 0 task.inputs behind)
  where
    behind : (j : ℕ) → j < length task.inputs → is_new (slice_index_or task.inputs j no_input).mode ≡ true → captured (progress_at cat t).last (0 + j) ≤ newest_in cat (slice_index_or task.inputs j no_input)
    behind j low new = let same : j ≡ 0 + j = omega arith in subst (λ n. captured (progress_at cat t).last n ≤ newest_in cat (slice_index_or task.inputs j no_input)) same (is.behind j low new)

-- what a catalog names behind a run's commit is below its next number again
pub below_run : (cat : Entered) (t : ℕ) (run : Capture) (keeps : Bool) (size state : ℕ) → ((p : Piece) → IsNamed cat p → p.block < cat.next) → (w : Content) (b z : ℕ) → Names (applied cat (own_run cat t run keeps size state)) w b z
    → b < cat.next + 1 + length (parts_of keeps cat.next state)
below_run cat t run keeps size state below (StatePart u part) b z named =
    let parts = parts_of keeps cat.next state in
    at_set (λ n (p : Progress). slice_index_or p.parts part None ≡ Some (record { block = b; size = z }) → b < cat.next + 1 + length parts)
    cat.tasks t (next_progress (progress_at cat t) run.versions run.moment run.seen parts) no_run
    (λ n old. let lt = below (record { content = StatePart n part; block = b; size = z }) old in omega (arith, lt))
    (λ is. elim (parts_either 0 (cat.next + 1) parts (progress_at cat t).parts (parts_numbered keeps cat.next state) part (record { block = b; size = z }) is) as (λ _. b < cat.next + 1 + length parts) [
      | inl old ↦ let lt = below (record { content = StatePart t part; block = b; size = z }) old in omega (arith, lt)
      | inr new ↦ let e = new.block_is in let lt = new.within in omega (arith, e, lt)
    ]) u named
below_run cat t run keeps size state below (Channel d i j) b z named = elim (which cat (wire_at cat.wiring t).output size d (interval_of i j b z) named) as (λ _. b < cat.next + 1 + length (parts_of keeps cat.next state)) [
  | inl old ↦ let lt = below (record { content = Channel d i j; block = b; size = z }) old in omega (arith, lt)
  | inr new ↦ let e = ap (λ (x : Interval). x.block) new.1 in omega (arith, e)
]

-- ---- what room gives

module _ (cat : Entered) (t : ℕ) (run : Capture) (keeps : Bool) (size state : ℕ) (room : has_room cat (own_run cat t run keeps size state) ≡ true) where
  abbrev out : ℕ
  out = (wire_at cat.wiring t).output

  abbrev parts : List PartFile
  parts = parts_of keeps cat.next state

  behind_sum : (nat_lt (shelf_at cat out).version bound && (nat_lt (progress_at cat t).runs bound && nat_lt (cat.next + length parts) bound)) ≡ true
  behind_sum = (and_both (nat_le (total (shelf_at cat out) + size) bound) _ room).1

  pub run_low : cat.next + length parts < 2 ^ 62
  run_low =
      let is : nat_lt (cat.next + length parts) bound ≡ true = (and_both (nat_lt (progress_at cat t).runs bound) _ (and_both (nat_lt (shelf_at cat out).version bound) _ behind_sum).1).1 in
      grind (arith, nat_tests)

  pub run_rise : (shelf_at cat out).version < 2 ^ 62
  run_rise =
      let is : nat_lt (shelf_at cat out).version bound ≡ true = (and_both (nat_lt (shelf_at cat out).version bound) _ behind_sum).0 in
      grind (arith, nat_tests)

  pub runs_rise : (progress_at cat t).runs < 2 ^ 62
  runs_rise =
      let is : nat_lt (progress_at cat t).runs bound ≡ true = (and_both (nat_lt (progress_at cat t).runs bound) _ (and_both (nat_lt (shelf_at cat out).version bound) _ behind_sum).1).0 in
      grind (arith, nat_tests)

  pub run_fit : sum_by size_of (shelf_at cat out).intervals + size ≤ 2 ^ 62
  run_fit =
      let is : nat_le (total (shelf_at cat out) + size) bound ≡ true = (and_both (nat_le (total (shelf_at cat out) + size) bound) _ room).0 in
      grind (arith, nat_tests)

  pub run_readable : run.moment ≤ cat.moment → allows cat (own_run cat t run keeps size state) ≡ true → IsReadable cat → IsReadable (applied cat (own_run cat t run keeps size state))
  run_readable late allowed is =
      let low : cat.next < 2 ^ 62 = let all = run_low in omega (arith, all) in
      let based = is_based cat.wiring out in
      let sh = shelf_at cat out in
      record {
        below = λ p named. below_run cat t run keeps size state is.below p.content p.block p.size named;
        numbered = at_set (λ n (k : Shelved). AreNumbered k.intervals) cat.channels out (next_shelf based sh cat.next size) nothing_shelved is.numbered
            (placed_all (λ (x : Interval). x.block < 2 ^ 62) (interval_of (if based then 0 else sh.version) (sh.version + 1) cat.next size) sh.intervals low (is.numbered out));
        sound = sound_step cat.wiring cat (own_run cat t run keeps size state) is.sound allowed;
        timely = at_set (λ n (p : Progress). last_moment p.last ≤ cat.moment) cat.tasks t (next_progress (progress_at cat t) run.versions run.moment run.seen parts) no_run is.timely late;
      }

  -- a file with a number from the next one on is none that is named
  free : IsReadable cat → (p : Piece) (f : Fresh) → IsNamed cat p → cat.next ≤ f.block → f.block ≢ p.block
  free is p f named high same = let lt = is.below p named in omega (arith, lt, same, high)

-- the files of a run are spare
module _ (cat : Entered) (t : ℕ) (run : Capture) (size state : ℕ) (d : DeltaValue) (is : IsReadable cat) where
  spare_one : has_room cat (own_run cat t run false size state) ≡ true → (f : Fresh) (bytes : List ℕ) → IsFile cat.next bytes f → AreSpare cat (own_run cat t run false size state) (f ∷ [])
  spare_one room f bytes file = record {
    brings = λ i. file.0 i ∷ [];
    spare = λ p g named one. elim one as (λ _. g.block ≢ p.block) [
      | inl e ↦ free cat t run false size state room is p g named (let n = ap (λ (h : Fresh). h.block) e in let own = file.0 in omega (arith, n, own))
      | inr none ↦ absurd none
    ];
    apart = λ g h one other same. only g one ∙ sym (only h other);
    low = ((let lt = run_low cat t run false size state room in let own = file.0 in omega (arith, lt, own)), tt);
  }
    where
      only : (g : Fresh) → IsOneOf (f ∷ []) g → g ≡ f
      only g (inl e) = sym e
      only g (inr none) = absurd none

  spare_two : has_room cat (own_run cat t run true size state) ≡ true → (f g : Fresh) (bytes more : List ℕ) → IsFile cat.next bytes f → IsFile (cat.next + 1) more g → AreSpare cat (own_run cat t run true size state) (f ∷ g ∷ [])
  spare_two room f g bytes more file other = record {
    brings = λ i. file.0 i ∷ other.0 i ∷ [];
    spare = λ p h named one. elim one as (λ _. h.block ≢ p.block) [
      | inl e ↦ free cat t run true size state room is p h named (let n = ap (λ (h : Fresh). h.block) e in let own = file.0 in omega (arith, n, own))
      | inr (inl e) ↦ free cat t run true size state room is p h named (let n = ap (λ (h : Fresh). h.block) e in let own = other.0 in omega (arith, n, own))
      | inr (inr none) ↦ absurd none
    ];
    apart = apart;
    low = ((let lt = run_low cat t run true size state room in let own = file.0 in omega (arith, lt, own)), ((let lt = run_low cat t run true size state room in let own = other.0 in omega (arith, lt, own)), tt));
  }
    where
      apart : (h j : Fresh) → IsOneOf (f ∷ g ∷ []) h → IsOneOf (f ∷ g ∷ []) j → h.block ≡ j.block → h ≡ j
      apart h j (inl a) (inl b) same = sym a ∙ b
      apart h j (inl a) (inr (inl b)) same = let m = ap (λ (x : Fresh). x.block) a in let n = ap (λ (x : Fresh). x.block) b in let one = file.0 in let two = other.0 in absurd (omega (arith, m, n, one, two, same))
      apart h j (inl a) (inr (inr none)) same = absurd none
      apart h j (inr (inl a)) (inl b) same = let m = ap (λ (x : Fresh). x.block) a in let n = ap (λ (x : Fresh). x.block) b in let one = file.0 in let two = other.0 in absurd (omega (arith, m, n, one, two, same))
      apart h j (inr (inl a)) (inr (inl b)) same = sym a ∙ b
      apart h j (inr (inl a)) (inr (inr none)) same = absurd none
      apart h j (inr (inr none)) other same = absurd none

  pub run_spare : (keeps : Bool) (o : Option StateValue) → is_some o ≡ keeps → has_room cat (own_run cat t run keeps size state) ≡ true → (fresh : List Fresh) → AreRunFiles cat.next d o fresh → AreSpare cat (own_run cat t run keeps size state) fresh
  run_spare false None same room fresh (f, are, file) = subst (λ (fs : List Fresh). AreSpare cat (own_run cat t run false size state) fs) (sym are) (spare_one room f (spelling_of d) file)
  run_spare true (Some st) same room fresh (f, g, are, file, other) = subst (λ (fs : List Fresh). AreSpare cat (own_run cat t run true size state) fs) (sym are) (spare_two room f g (spelling_of d) (state_bytes st) file other)
  run_spare true None same room fresh are = absurd cc
  run_spare false (Some st) same room fresh are = absurd cc
