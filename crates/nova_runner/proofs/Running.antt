-- The commit of a run leads to the state behind it.
use Rattle.std.proofs.Common.{◌≡◌, ◌⊎◌, inl, inr, ℕ, zero, suc, ◌+◌, ◌<◌, ◌≤◌, ◌==◌, ◌≢◌, Bool, true, false, not, List, [], ◌∷◌, ◌++◌, length, length-append, Option, Some, None, refl, ap, sym, ◌∙◌, subst, arith, if◌then◌else◌}
use Rattle.std.specs.Prelude.{is_some, slice_index_or, slice_set}
use Rattle.std.specs.List.{AllByRecursion}
use Rattle.std.proofs.lemmas.Bool.Decides.{nat_tests}
use Rattle.std.proofs.lemmas.List.{get_or-set_same, length-map, map-set, set-get_or}
use Rattle.std.proofs.Math.ListN.{get_or-map}
use Rattle.nova_delta.specs.Merge.{DeltaValue, EntryMap}
use Rattle.nova_path.specs.Lists.{IsOneOf}
use Rattle.nova_path.specs.Shelf.{Span}
use Rattle.nova_path.specs.declared.interval.Interval.{Interval}
use Rattle.nova_row_codec.specs.Spelling.{spelling_of}
use Rattle.nova_commit.specs.declared.commit.Commit.{Commit}
use Rattle.nova_commit.specs.declared.commit.PartFile.{PartFile}
use Rattle.nova_meta.specs.declared.progress.Progress.{Progress}
use Rattle.nova_meta.specs.declared.progress.StateFile.{StateFile}
use Rattle.nova_meta.specs.Catalog.{Entered, applied, interval_of, next_progress, next_shelf, no_run, progress_at, shelf_at}
use Rattle.nova_meta.specs.Named.{Channel, Content, HasSlots, IsNumbered, Names, State as StatePart}
use Rattle.nova_meta.specs.Wired.{is_based, wire_at}
use Rattle.nova_meta.specs.declared.wiring.Wiring.{Wiring}
use Rattle.nova_meta.proofs.Allowed.{and_both}
use Rattle.nova_meta.proofs.Numbered.{blocks_are_numbered}
use Rattle.nova_meta.proofs.Parts.{parts_have_slots}
use Rattle.nova_meta.proofs.Sound.{catalogs_are_sound}
use Rattle.nova_path.proofs.Paths.{same_number}
use Rattle.nova_groups.specs.Parts.{part, part_of}
use Rattle.nova_groups.specs.State.{StateValue}
use Rattle.nova_group_codec.specs.Spelling.{state_bytes}
use Rattle.nova_pig_pattern.specs.declared.task.PatternKind.TheVariants.{Stateful}
use Rattle.nova_histories.specs.Made.{IsCurrent}
use Rattle.nova_histories.specs.Planned.{IsPlannedFlow}
use Rattle.nova_execution.specs.Groups.{keeps_state, no_state, state_at}
use Rattle.nova_machine.specs.Workflow.{is_based as flow_based, main_place, output_in, plan_in, schema_in, task_in}
use Rattle.nova_machine.specs.Versions.{block}
use Rattle.nova_machine.specs.State.{Capture, Done, State, Kept, done_at, ended, is_in_flight, kept_at, newest, nothing_done, nothing_kept}
use Rattle.nova_machine.specs.Due.{capture_of, seen_at}
use Rattle.nova_machine.specs.Writing.{made_version}
use Rattle.nova_machine.specs.Steps.{Run, add_run, after, is_task, may_begin, with_run, with_version}
use Rattle.nova_machine.specs.Reachable.{IsReachable}
use Rattle.nova_machine.proofs.Composing.{blocks_stay}
use Rattle.nova_machine.proofs.Ended.{ended_reachable, task_count}
use Rattle.nova_machine.proofs.Growth.{at_set}
use Rattle.nova_machine.proofs.Reached.{hops_have_paths, reachable_more}
use Rattle.nova_execution.specs.Made.{run_block, run_span}
use Rattle.nova_runner.specs.Acts.{keeps_in, kept_spelling, own_run, parts_of}
use Rattle.nova_runner.specs.Committing.{IsFresh, Leads}
use Rattle.nova_runner.specs.Files.{AreEmpty, IsNamed, bytes_of, kept_state}
use Rattle.nova_runner.specs.Flights.{flights_of}
use Rattle.nova_runner.specs.RunFiles.{AreRunFiles, IsFile}
use Rattle.nova_runner.specs.RunLaws.{RunsLead, run_own}
use Rattle.nova_runner.specs.Stands.{Drawn, Sketch, Told, drawn, drawn_kept, drawn_shelved, last_of, sketch, told_done, told_progress}
use Rattle.nova_runner.specs.Workflow.{wiring_of}
use Rattle.nova_runner.specs.declared.ready.Fresh.{Fresh}
use Rattle.nova_runner.proofs.Beginning.{tellings, told_at}
use Rattle.nova_runner.proofs.Flights.{bytes_ended, fresh_ended, sketch_ended}
use Rattle.nova_runner.proofs.Flows.{own, output_known, well_wired}
use Rattle.nova_runner.proofs.Leading.{new_one, one_span, which}
use Rattle.nova_runner.proofs.Loading.{drawings, drawn_at, grown}
use Rattle.nova_runner.proofs.RunRules.{equal_itself}
use Rattle.nova_runner.proofs.StateParts.{first_part, kept_ended, kept_moves, kept_stays_behind, nothing_behind}
use Rattle.nova_runner.proofs.Stored.{fine, named_part}

-- ---- what is kept of tasks

last_behind : (runs : List Capture) (run : Capture) → last_of (runs ++ run ∷ []) ≡ Some run
last_behind [] run = refl
last_behind (r ∷ []) run = refl
last_behind (r ∷ (next ∷ runs)) run = last_behind (next ∷ runs) run

-- a run more, in the catalog and in the state
told_more : (p : Progress) (d : Done) (run : Capture) (parts : List PartFile) → told_progress p ≡ told_done d → told_progress (next_progress p run.versions run.moment run.seen parts) ≡ told_done (with_run d run)
told_more p d run parts same =
    let count : p.runs ≡ length d.runs = ap (λ (t : Told). t.runs) same in
    let long : length (d.runs ++ run ∷ []) ≡ length d.runs + 1 = length-append d.runs (run ∷ []) in
    λ i. record { runs = (ap (λ n. n + 1) count ∙ sym long) i; last = sym (last_behind d.runs run) i }

-- the state with a run more is drawn as the catalog with its commit
like_run : (cat : Entered) (s : State) (t : ℕ) (run : Capture) (keeps : Bool) (z size : ℕ) → (wire_at cat.wiring t).output ≡ output_in s.flow t → is_based cat.wiring (output_in s.flow t) ≡ flow_based s.flow (output_in s.flow t) →
    AllByRecursion (λ (y : Interval). y.to ≤ (shelf_at cat (output_in s.flow t)).version) (shelf_at cat (output_in s.flow t)).intervals →
    drawn cat ≡ sketch s → drawn (applied cat (own_run cat t run keeps z size)) ≡ sketch (add_run s t run)
unfolding drawn sketch
like_run cat s t run keeps z size output based low same =
    let c = output_in s.flow t in
    let v = made_version s t run in
    let parts = parts_of keeps cat.next size in
    let all = drawings cat s same in
    let tasks = tellings cat s same in
    ap (λ n. drawn (record cat { channels = slice_set cat.channels n (next_shelf (is_based cat.wiring n) (shelf_at cat n) cat.next z); tasks = slice_set cat.tasks t (next_progress (progress_at cat t) run.versions run.moment run.seen parts); next = cat.next + 1 + length parts })) output
    ∙ (λ i. record {
      channels = (
          map-set drawn_shelved cat.channels c (next_shelf (is_based cat.wiring c) (shelf_at cat c) cat.next z)
          ∙ (λ j. slice_set (all j) c (grown (shelf_at cat c) (kept_at s c) v (is_based cat.wiring c) (flow_based s.flow c) cat.next z based low (drawn_at cat s all c) j))
          ∙ sym (map-set drawn_kept s.channels c (with_version (flow_based s.flow c) (kept_at s c) v))) i;
      tasks = (
          map-set told_progress cat.tasks t (next_progress (progress_at cat t) run.versions run.moment run.seen parts)
          ∙ (λ j. slice_set (tasks j) t (told_more (progress_at cat t) (done_at s t) run parts (told_at cat s tasks t) j))
          ∙ sym (map-set told_done s.tasks t (with_run (done_at s t) run))) i;
      moment = ap (λ (k : Sketch). k.moment) same i;
    })

-- what is in flight stays so where the task isn't
flights_stay : (s : State) (t : ℕ) (run : Capture) → (done_at s t).flight ≡ None → flights_of (add_run s t run) ≡ flights_of s
flights_stay s t run free =
    map-set (λ (d : Done). d.flight) s.tasks t (with_run (done_at s t) run)
    ∙ ap (slice_set (flights_of s) t) (sym free ∙ sym (get_or-map (λ (d : Done). d.flight) s.tasks t nothing_done))
    ∙ set-get_or (flights_of s) t None

-- as many tasks in the catalog as in the state
as_many : (cat : Entered) (s : State) → drawn cat ≡ sketch s → length cat.tasks ≡ length s.tasks
as_many cat s same =
    sym (length-map cat.tasks told_progress) ∙ ap (λ (ts : List Told). length ts) (tellings cat s same) ∙ length-map s.tasks told_done

-- ---- files

is_it : (t u : ℕ) → (u ≡ t) ⊎ (u ≢ t)
is_it t u = go (u == t) refl
  where
    go : (b : Bool) → (u == t) ≡ b → (u ≡ t) ⊎ (u ≢ t)
    go true e = inl (same_number u t e)
    go false e = inr (λ same. let here = equal_itself t in let no : true ≡ false = sym here ∙ ap (λ n. n == t) (sym same) ∙ e in cc)

-- that of the block, and that of the state
first_file : (next : ℕ) (d : DeltaValue) (o : Option StateValue) (fresh : List Fresh) → AreRunFiles next d o fresh → (f : Fresh) × IsOneOf fresh f × IsFile next (spelling_of d) f
first_file next d None fresh (f, is, file) = (f, subst (λ (fs : List Fresh). IsOneOf fs f) (sym is) (inl refl), file)
first_file next d (Some st) fresh (f, g, is, file, other) = (f, subst (λ (fs : List Fresh). IsOneOf fs f) (sym is) (inl refl), file)

second_file : (next : ℕ) (d : DeltaValue) (st : StateValue) (fresh : List Fresh) → AreRunFiles next d (Some st) fresh → (g : Fresh) × IsOneOf fresh g × IsFile (next + 1) (state_bytes st) g
second_file next d st fresh (f, g, is, file, other) = (g, subst (λ (fs : List Fresh). IsOneOf fs g) (sym is) (inr (inl refl)), other)

-- the first slot is set, and no other
slot_set : (files : List (Option StateFile)) (v w : StateFile) (number : ℕ) → slice_index_or (slice_set files 0 (Some v)) number None ≡ Some w → (slice_index_or files number None ≡ Some w) ⊎ ((number ≡ 0) × (v ≡ w))
slot_set [] v w number e = inl e
slot_set (x ∷ files) v w zero e = inr (refl, cc)
slot_set (x ∷ files) v w (suc number) e = inl e

slot_is : (files : List (Option StateFile)) (v w : StateFile) → 1 ≤ length files → slice_index_or (slice_set files 0 (Some v)) 0 None ≡ Some w → v ≡ w
slot_is [] v w some e = absurd (omega (arith, some))
slot_is (x ∷ files) v w some e = cc

none_left : (st : StateValue) → (let o : Option StateValue = None in o) ≡ Some st → ⊥
none_left st e = cc

some_left : (st other : StateValue) → Some st ≡ Some other → st ≡ other
some_left st other e = cc

slot_there : (files : List (Option StateFile)) (v : StateFile) → 1 ≤ length files → slice_index_or (slice_set files 0 (Some v)) 0 None ≡ None → ⊥
slot_there [] v some e = omega (arith, some)
slot_there (x ∷ files) v some e = cc

-- ---- what the commit of a run names

module _ (cat : Entered) (s : State) (t : ℕ) (run : Capture) (d : DeltaValue) (fresh : List Fresh) (planned : IsPlannedFlow s.flow) (reached : IsReachable s) (below : t < length s.flow.tasks) (current : IsCurrent s t run)
    (low : (c : ℕ) (x : Span) → IsOneOf (kept_at s c).shelf x → x.to ≤ newest s c) (same : drawn cat ≡ sketch s)
    (output : (wire_at cat.wiring t).output ≡ output_in s.flow t) (based : is_based cat.wiring (output_in s.flow t) ≡ flow_based s.flow (output_in s.flow t))
    (block_is : d ≡ run_block s t run) where
  abbrev out : ℕ
  out = output_in s.flow t

  abbrev pub next : State
  next = add_run s t run

  abbrev k : ℕ
  k = main_place (task_in s.flow t).inputs

  abbrev size : ℕ
  size = length (spelling_of d)

  tasks_there : t < length cat.tasks
  tasks_there = let a = as_many cat s same in let b = task_count s reached in omega (arith, a, b, below)

  -- the commit, and what it has of tasks
  abbrev Own : Bool → Option StateValue → Commit
  Own keeps o = own_run cat t run keeps size (length (kept_spelling o))

  abbrev Parts : Bool → Option StateValue → List PartFile
  Parts keeps o = parts_of keeps cat.next (length (kept_spelling o))

  other_task : (keeps : Bool) (o : Option StateValue) (u : ℕ) → u ≢ t → progress_at (applied cat (Own keeps o)) u ≡ progress_at cat u
  other_task keeps o u apart =
      at_set (λ n (p : Progress). n ≢ t → p ≡ progress_at cat n) cat.tasks t (next_progress (progress_at cat t) run.versions run.moment run.seen (Parts keeps o)) no_run (λ n ne. refl) (λ ne. absurd (ne refl)) u apart

  own_task : (keeps : Bool) (o : Option StateValue) → progress_at (applied cat (Own keeps o)) t ≡ next_progress (progress_at cat t) run.versions run.moment run.seen (Parts keeps o)
  own_task keeps o = get_or-set_same cat.tasks t (next_progress (progress_at cat t) run.versions run.moment run.seen (Parts keeps o)) no_run tasks_there

  channel_stays : (c i j b z : ℕ) → Names cat (Channel c i j) b z → bytes_of next (Channel c i j) ≡ bytes_of s (Channel c i j)
  channel_stays c i j b z named =
      let here : IsOneOf (kept_at s c).shelf (record { from = i; to = j }) = subst (λ (x : Drawn). IsOneOf x.shelf (record { from = i; to = j })) (drawn_at cat s (drawings cat s same) c) (one_span (shelf_at cat c).intervals (interval_of i j b z) named) in
      ap (λ (m : EntryMap). spelling_of (record { schema = schema_in s.flow c; entries = m }))
      (at_set (λ n (x : Kept). j ≤ newest s n → block x.versions i j ≡ block (kept_at s n).versions i j) s.channels out (with_version (flow_based s.flow out) (kept_at s out) (made_version s t run)) nothing_kept
      (λ n le. refl) (λ le. blocks_stay (kept_at s out).versions (made_version s t run) i j le) c (low c (record { from = i; to = j }) here))

  channel_named : (keeps : Bool) (o : Option StateValue) → AreRunFiles cat.next d o fresh → (c i j b z : ℕ) → Names (applied cat (Own keeps o)) (Channel c i j) b z → Names cat (Channel c i j) b z ⊎ IsFresh next fresh (record { content = Channel c i j; block = b; size = z })
  channel_named keeps o files c i j b z named = elim (which cat (wire_at cat.wiring t).output size c (interval_of i j b z) named) as (λ _. Names cat (Channel c i j) b z ⊎ IsFresh next fresh (record { content = Channel c i j; block = b; size = z })) [
    | inl old ↦ inl old
    | inr new ↦
        let first = first_file cat.next d o fresh files in
        let there : c ≡ out = new.0 ∙ output in
        let e : new_one cat out size ≡ interval_of i j b z = ap (λ n. new_one cat n size) (sym output) ∙ new.1 in
        let version : (shelf_at cat out).version ≡ newest s out = ap (λ (x : Drawn). x.version) (drawn_at cat s (drawings cat s same) out) in
        let begins : (run_span s t).from ≡ i = (λ n. if sym based n then 0 else sym version n) ∙ ap (λ (x : Interval). x.from) e in
        let ends : (run_span s t).to ≡ j = ap (λ n. n + 1) (sym version) ∙ ap (λ (x : Interval). x.to) e in
        let number : first.0.block ≡ b = first.2.0 ∙ ap (λ (x : Interval). x.block) e in
        let bytes : first.0.bytes.items ≡ bytes_of next (Channel c i j) = first.2.1 ∙ ap spelling_of block_is ∙ (λ n. bytes_of next (Channel (sym there n) (begins n) (ends n))) in
        let long : z ≡ length first.0.bytes.items = sym (ap (λ (x : Interval). x.size) e) ∙ ap length (sym first.2.1) in
        inr (first.0, first.1, number, bytes, long)
  ]

  -- ---- by whether the task keeps a state

  abbrev Left : Bool → Option StateValue
  Left keeps = if keeps then Some (state_at s t (seen_at run k)) else None

  module _ (numbered : IsNumbered cat) (stateful : (u number b z : ℕ) → Names cat (StatePart u number) b z → keeps_state (plan_in s.flow u).pattern ≡ true) (slots : HasSlots cat) (empty : AreEmpty cat s) where
    own_stays : (keeps : Bool) (o : Option StateValue) → keeps_state (plan_in s.flow t).pattern ≡ keeps → (b z : ℕ) → Names cat (StatePart t 0) b z → Names (applied cat (Own keeps o)) (StatePart t 0) b z → ⊥
    own_stays false o plan b z named later = let no : true ≡ false = sym (stateful t 0 b z named) ∙ plan in cc
    own_stays true o plan b z named later =
        let new : StateFile = record { block = cat.next + 1; size = length (kept_spelling o) } in
        let set : slice_index_or (slice_set (progress_at cat t).parts 0 (Some new)) 0 None ≡ Some (record { block = b; size = z }) = ap (λ (p : Progress). slice_index_or p.parts 0 None) (sym (own_task true o)) ∙ later in
        let lt = numbered.below (StatePart t 0) b z named in
        let e = ap (λ (f : StateFile). f.block) (slot_is (progress_at cat t).parts new (record { block = b; size = z }) (let all = slots t in omega (arith, all)) set) in
        omega (arith, lt, e)

    part_stays_on : (keeps : Bool) (o : Option StateValue) → keeps_state (plan_in s.flow t).pattern ≡ keeps → (u number b z : ℕ) → Names cat (StatePart u number) b z → Names (applied cat (Own keeps o)) (StatePart u number) b z → bytes_of next (StatePart u number) ≡ bytes_of s (StatePart u number)
    part_stays_on keeps o plan u (suc number) b z named later = ap state_bytes (nothing_behind number (kept_state next u) ∙ sym (nothing_behind number (kept_state s u)))
    part_stays_on keeps o plan u zero b z named later = elim (is_it t u) as (λ _. bytes_of next (StatePart u 0) ≡ bytes_of s (StatePart u 0)) [
      | inl same ↦ absurd (own_stays keeps o plan b z (subst (λ n. Names cat (StatePart n 0) b z) same named) (subst (λ n. Names (applied cat (Own keeps o)) (StatePart n 0) b z) same later))
      | inr apart ↦ ap (λ (st : StateValue). state_bytes (part_of part 0 st)) (kept_stays_behind s planned reached u t run apart)
    ]

    stays : (keeps : Bool) (o : Option StateValue) → keeps_state (plan_in s.flow t).pattern ≡ keeps → (w : Content) (b z : ℕ) → Names cat w b z → Names (applied cat (Own keeps o)) w b z → bytes_of next w ≡ bytes_of s w
    stays keeps o plan (Channel c i j) b z named later = channel_stays c i j b z named
    stays keeps o plan (StatePart u number) b z named later = part_stays_on keeps o plan u number b z named later

    -- the state that it leaves
    moved : (st : StateValue) → st ≡ state_at s t (seen_at run k) → state_bytes st ≡ bytes_of next (StatePart t 0)
    moved st is = ap state_bytes (is ∙ sym (kept_moves s planned reached t below run current)) ∙ sym (first_part next t)

    own_named : (keeps : Bool) (o : Option StateValue) → o ≡ Left keeps → AreRunFiles cat.next d o fresh → (number b z : ℕ) → Names (applied cat (Own keeps o)) (StatePart t number) b z
        → Names cat (StatePart t number) b z ⊎ IsFresh next fresh (record { content = StatePart t number; block = b; size = z })
    own_named false o is files number b z named = inl (ap (λ (p : Progress). slice_index_or p.parts number None) (sym (own_task false o)) ∙ named)
    own_named true None is files number b z named = absurd (none_left (state_at s t (seen_at run k)) is)
    own_named true (Some st) is files number b z named =
        let new : StateFile = record { block = cat.next + 1; size = length (state_bytes st) } in
        let set : slice_index_or (slice_set (progress_at cat t).parts 0 (Some new)) number None ≡ Some (record { block = b; size = z }) = ap (λ (p : Progress). slice_index_or p.parts number None) (sym (own_task true (Some st))) ∙ named in
        elim (slot_set (progress_at cat t).parts new (record { block = b; size = z }) number set) as (λ _. Names cat (StatePart t number) b z ⊎ IsFresh next fresh (record { content = StatePart t number; block = b; size = z })) [
          | inl old ↦ inl old
          | inr set ↦
              let second = second_file cat.next d st fresh files in
              let number_is : second.0.block ≡ b = second.2.0 ∙ ap (λ (f : StateFile). f.block) set.1 in
              let bytes : second.0.bytes.items ≡ bytes_of next (StatePart t number) = second.2.1 ∙ moved st (some_left st (state_at s t (seen_at run k)) is) ∙ ap (λ n. bytes_of next (StatePart t n)) (sym set.0) in
              let long : z ≡ length second.0.bytes.items = sym (ap (λ (f : StateFile). f.size) set.1) ∙ ap length (sym second.2.1) in
              inr (second.0, second.1, number_is, bytes, long)
        ]

    named_on : (keeps : Bool) (o : Option StateValue) → o ≡ Left keeps → AreRunFiles cat.next d o fresh → (w : Content) (b z : ℕ) → Names (applied cat (Own keeps o)) w b z
        → Names cat w b z ⊎ IsFresh next fresh (record { content = w; block = b; size = z })
    named_on keeps o is files (Channel c i j) b z named = channel_named keeps o files c i j b z named
    named_on keeps o is files (StatePart u number) b z named = elim (is_it t u) as (λ _. Names cat (StatePart u number) b z ⊎ IsFresh next fresh (record { content = StatePart u number; block = b; size = z })) [
      | inl same ↦ subst (λ n. Names cat (StatePart n number) b z ⊎ IsFresh next fresh (record { content = StatePart n number; block = b; size = z })) (sym same)
          (own_named keeps o is files number b z (subst (λ n. Names (applied cat (Own keeps o)) (StatePart n number) b z) same named))
      | inr apart ↦ inl (ap (λ (p : Progress). slice_index_or p.parts number None) (sym (other_task keeps o u apart)) ∙ named)
    ]

    -- no part but the first has anything, and that of the task is there
    empty_on : (keeps : Bool) (o : Option StateValue) → keeps_state (plan_in s.flow t).pattern ≡ keeps → AreEmpty (applied cat (Own keeps o)) next
    empty_on keeps o plan u (suc number) grouping none = nothing_behind number (kept_state next u)
    empty_on keeps o plan u zero grouping none = elim (is_it t u) as (λ _. part_of part 0 (kept_state next u) ≡ no_state) [
      | inl same ↦ absurd (own_there keeps o plan (subst (λ n. (plan_in s.flow n).pattern ≡ Stateful) same grouping) (subst (λ n. slice_index_or (progress_at (applied cat (Own keeps o)) n).parts 0 None ≡ None) same none))
      | inr apart ↦ ap (part_of part 0) (kept_stays_behind s planned reached u t run apart) ∙ empty u 0 grouping (ap (λ (p : Progress). slice_index_or p.parts 0 None) (sym (other_task keeps o u apart)) ∙ none)
    ]
      where
        own_there : (keeps : Bool) (o : Option StateValue) → keeps_state (plan_in s.flow t).pattern ≡ keeps → (plan_in s.flow t).pattern ≡ Stateful → slice_index_or (progress_at (applied cat (Own keeps o)) t).parts 0 None ≡ None → ⊥
        own_there false o plan grouping none = let no : true ≡ false = ap keeps_state (sym grouping) ∙ plan in cc
        own_there true o plan grouping none =
            slot_there (progress_at cat t).parts (record { block = cat.next + 1; size = length (kept_spelling o) }) (let all = slots t in omega (arith, all))
            (ap (λ (p : Progress). slice_index_or p.parts 0 None) (sym (own_task true o)) ∙ none)

-- ---- the step

not_true : (b : Bool) → not b ≡ true → b ≡ false
not_true true e = cc
not_true false e = refl

none_there : (o : Option Capture) → is_some o ≡ false → o ≡ None
none_there None e = refl
none_there (Some run) e = cc

pub ran : (s : State) (t : ℕ) → may_begin s t ≡ true → after s (Run t) ≡ add_run s t (capture_of s t)
ran s t may = ap (λ (b : Bool). if b then add_run s t (capture_of s t) else s) may

pub runs_lead : RunsLead
runs_lead x commits cat files s t made fresh reached wired by is_made is are fits allowed =
    let run = capture_of s t in
    let both = and_both (is_task s t) (not (is_in_flight s t)) is_made in
    let below : t < length s.flow.tasks = let e = both.0 in grind (arith, nat_tests) in
    let free : (done_at s t).flight ≡ None = none_there (done_at s t).flight (not_true (is_in_flight s t) both.1) in
    let kept = own s.flow by.agrees.read in
    let output : (wire_at cat.wiring t).output ≡ output_in s.flow t = ap (λ (w : Wiring). (wire_at w t).output) wired ∙ output_known s.flow by.agrees.read t below in
    let c = output_in s.flow t in
    let based : is_based cat.wiring c ≡ flow_based s.flow c = ap (λ (w : Wiring). is_based w c) wired ∙ kept.based c in
    let well = well_wired s.flow by.agrees.read in
    let shelved = (catalogs_are_sound (wiring_of s.flow) commits cat well by.agrees.catalog.is).shelved c in
    let low = λ (d : ℕ). (fine x commits cat files s reached by d).low in
    let next = add_run s t run in
    let taken = ran s t is_made in
    let reached_then : IsReachable next = subst IsReachable taken (reachable_more s (Run t) reached is_made) in
    let here : drawn cat ≡ sketch s = by.agrees.same ∙ sketch_ended s in
    let numbered = blocks_are_numbered (wiring_of s.flow) commits cat well by.agrees.catalog.is in
    let stateful : (u number b z : ℕ) → Names cat (StatePart u number) b z → keeps_state (plan_in s.flow u).pattern ≡ true =
    λ u number b z named. ap keeps_state (named_part x commits cat files s reached by u number b z named).1.1 in
    let slots = parts_have_slots (wiring_of s.flow) commits cat by.agrees.catalog.is in
    let empty : AreEmpty cat s = λ u number grouping none. ap (part_of part number) (sym (kept_ended s u)) ∙ by.empty u number grouping none in
    let keeps = keeps_in s.flow t in
    let d = made.block in
    let o = made.state in
    subst (λ (u : State). Leads cat s u (run_own cat s t made) fresh) (sym taken) (record {
      fits = fits;
      allowed = allowed;
      flow = refl;
      reached = reached_then;
      flights = flights_stay s t run free;
      like = like_run cat s t run keeps (length (spelling_of d)) (length (kept_spelling o)) output based shelved.low here ∙ sym (sketch_ended next);
      stay = λ p named later. bytes_ended next p.content
          ∙ stays cat s t run d fresh kept.planned reached below (inl refl) low here output based is.0 numbered stateful slots empty keeps o refl p.content p.block p.size named later ∙ sym (bytes_ended s p.content);
      named = λ p named. elim (named_on cat s t run d fresh kept.planned reached below (inl refl) low here output based is.0 numbered stateful slots empty keeps o is.1 are p.content p.block p.size named) as (λ _. IsNamed cat p ⊎ IsFresh (ended next) fresh p) [
        | inl old ↦ inl old
        | inr new ↦ inr (fresh_ended next fresh p new)
      ];
      empty = λ u number grouping none. ap (part_of part number) (kept_ended next u) ∙ empty_on cat s t run d fresh kept.planned reached below (inl refl) low here output based is.0 numbered stateful slots empty keeps o refl u number grouping none;
      paths = λ c h one. let led = hops_have_paths (ended next) kept.news (ended_reachable next reached_then) c h one in (led.0, led.2);
    })
