-- A store that is made.
use Rattle.std.proofs.Common.{◌≡◌, inl, inr, ℕ, zero, suc, ◌+◌, ◌*◌, ◌<◌, ◌^◌, List, [], ◌∷◌, length, map, Option, Some, None, refl, ap, sym, ◌∙◌, subst, arith}
use Rattle.std.specs.FinMap as fin
use Rattle.std.specs.Prelude.{replicate, slice_index_or}
use Rattle.nova_outside.specs.Disk.{Files, LeavesSameBut, Only, SameBut}
use Rattle.nova_outside.specs.History.{Event, Outcome, current, replies}
use Rattle.nova_journal.specs.Log.{IsLog, LogTo, entry, frame, length_bytes}
use Rattle.nova_journal.proofs.Decoding.{length-length_bytes}
use Rattle.std.proofs.lemmas.List.{length-append, length-map}
use Rattle.nova_journal.specs.Marks.{Holds, IsMark, IsUnmarked}
use Rattle.nova_commit.specs.Commits.{commit_bytes}
use Rattle.nova_commit.specs.declared.commit.Commit.{Commit}
use Rattle.nova_commit.specs.declared.commit.Commit.TheVariants as commit
use Rattle.nova_path.specs.Lists.{IsOneOf}
use Rattle.nova_meta.specs.declared.progress.StateFile.{StateFile}
use Rattle.nova_meta.specs.declared.wiring.Wire.{Wire}
use Rattle.nova_meta.specs.Catalog.{Entered, Shelved, applied, blank, no_run, nothing_shelved}
use Rattle.nova_meta.specs.Named.{Channel as Interval, Content, IsCatalogOf, Names, State as StatePart}
use Rattle.nova_workflow.specs.declared.flow.Channel.{Channel}
use Rattle.nova_workflow.specs.declared.flow.Task.{Task}
use Rattle.nova_machine.specs.Workflow.{TaskPlan, Workflow, main_place, plan_in, task_in}
use Rattle.nova_machine.specs.Due.{cursor}
use Rattle.nova_machine.specs.Versions.{Version, rows_in}
use Rattle.nova_rowwise.specs.Runs.{main_channel}
use Rattle.nova_groups.specs.Parts.{part, part_of}
use Rattle.nova_state.specs.Advance.{state_of}
use Rattle.nova_state.proofs.StatesFit.{no_rows_no_state}
use Rattle.nova_delta.specs.Merge.{RowMap}
use Rattle.nova_execution.specs.Groups.{no_state}
use Rattle.nova_machine.specs.State.{Done, Kept, ended, kept_at, landed, nothing_done, nothing_kept, start}
use Rattle.nova_machine.specs.Reachable.{IsReachable}
use Rattle.nova_machine.proofs.Ended.{ended_reachable}
use Rattle.nova_machine.proofs.Reached.{hops_have_paths}
use Rattle.nova_runner.specs.Files.{IsSettled, journal_file, kept_state, mark_file}
use Rattle.nova_runner.specs.Flights.{HoldFlights, idle_slots}
use Rattle.nova_runner.specs.Held.{Held}
use Rattle.nova_runner.specs.Making.{HasFirst, HasNoneOrFirst, InitCause, IsMadeOrNot, Made, NoLaterMarks, NotBlank, OnlyMade, Unmade}
use Rattle.nova_runner.specs.Readable.{IsKept}
use Rattle.nova_runner.specs.Stands.{Agrees, Drawn, FilesStand, StandsBut, StandsBy, Told, drawn, drawn_kept, drawn_shelved, sketch, told_done, told_progress}
use Rattle.nova_runner.specs.Texts.{HasFlow}
use Rattle.nova_runner.specs.Workflow.{IsAdmitted, wires_of, wiring_of}
use Rattle.nova_runner.specs.declared.making.InitFault.{InitFault}
use Rattle.nova_runner.specs.declared.making.InitFault.TheVariants as init
use Rattle.nova_runner.proofs.Flights.{idle_count, idle_hold}
use Rattle.nova_runner.proofs.Flows.{flows_are_admitted, tasks_known}
use Rattle.nova_runner.proofs.Texts.{of_text}
use Rattle.nova_runner.proofs.Readables.{readable}
use Rattle.nova_runner.proofs.StateParts.{nothing_apart}

-- ---- the catalog of a workflow's commit alone draws the machine before its first step

blank_channels : (cs : List Channel) → map drawn_shelved (map (λ w. nothing_shelved) (map (λ (c : Channel). c.writer) cs)) ≡ map drawn_kept (map (λ c. nothing_kept) cs)
blank_channels [] = refl
blank_channels (c ∷ cs) = ap (λ (ds : List Drawn). record { version = 0; shelf = [] } ∷ ds) (blank_channels cs)

blank_tasks : (ts : List Task) (ps : List TaskPlan) → length ps ≡ length ts → map told_progress (map (λ t. no_run) (wires_of ts ps)) ≡ map told_done (map (λ t. nothing_done) ts)
blank_tasks [] ps long = refl
blank_tasks (t ∷ ts) [] long = absurd (omega (arith, long))
blank_tasks (t ∷ ts) (p ∷ ps) long = ap (λ (ds : List Told). record { runs = 0; last = None } ∷ ds) (blank_tasks ts ps (omega (arith, long)))

first_of : Workflow → List ℕ → Entered
first_of w text = applied (blank (wiring_of w)) (commit.Flow text)

like_start : (w : Workflow) (text : List ℕ) → length w.plans ≡ length w.tasks → drawn (applied (blank (wiring_of w)) (commit.Flow text)) ≡ sketch (start w)
unfolding drawn sketch wiring_of
like_start w text planned = λ i. record { channels = blank_channels w.channels i; tasks = blank_tasks w.tasks w.plans planned i; moment = 0 }

landed_none : (ts : List Task) → map landed (map (λ t. nothing_done) ts) ≡ map (λ t. nothing_done) ts
landed_none [] = refl
landed_none (t ∷ ts) = ap (λ (ds : List Done). nothing_done ∷ ds) (landed_none ts)

pub start_rests : (w : Workflow) → ended (start w) ≡ start w
start_rests w = ap (λ (ds : List Done). record (start w) { tasks = ds }) (landed_none w.tasks)

pub start_reachable : (w : Workflow) → IsReachable (start w)
start_reachable w = record { steps = []; made = tt; is = refl }

-- ---- it names no block

no_shelf : (ws : List (Option ℕ)) (c : ℕ) → slice_index_or (map (λ w. nothing_shelved) ws) c nothing_shelved ≡ nothing_shelved
no_shelf [] c = refl
no_shelf (w ∷ ws) zero = refl
no_shelf (w ∷ ws) (suc c) = no_shelf ws c

no_progress : (ws : List Wire) (t : ℕ) → slice_index_or (map (λ w. no_run) ws) t no_run ≡ no_run
no_progress [] t = refl
no_progress (w ∷ ws) zero = refl
no_progress (w ∷ ws) (suc t) = no_progress ws t

no_part : (n k : ℕ) → slice_index_or (replicate n (let o : Option StateFile = None in o)) k None ≡ None
no_part zero k = refl
no_part (suc n) zero = refl
no_part (suc n) (suc k) = no_part n k

none_is_some : (f : StateFile) → None ≡ Some f → ⊥
none_is_some f is = cc

names_none : (w : Workflow) (text : List ℕ) (content : Content) (block size : ℕ) → Names (applied (blank (wiring_of w)) (commit.Flow text)) content block size → ⊥
names_none w text (Interval c from to) block size named =
    subst (λ (s : Shelved). IsOneOf s.intervals (record { from = from; to = to; block = block; size = size })) (no_shelf (wiring_of w).writers c) named
names_none w text (StatePart t part) block size named =
    let some : slice_index_or no_run.parts part None ≡ Some (record { block = block; size = size }) = sym (ap (λ p. slice_index_or p.parts part None) (no_progress (wiring_of w).tasks t)) ∙ named in
    let none : slice_index_or no_run.parts part None ≡ None = no_part 16 part in
    none_is_some (record { block = block; size = size }) (sym none ∙ some)

-- ---- no state has contributions

no_versions : (cs : List Channel) (c : ℕ) → slice_index_or (map (λ _. nothing_kept) cs) c nothing_kept ≡ nothing_kept
no_versions [] c = refl
no_versions (x ∷ cs) zero = refl
no_versions (x ∷ cs) (suc c) = no_versions cs c

none_before : (versions : List Version) → versions ≡ [] → (n : ℕ) → rows_in versions n ≡ fin.empty
none_before versions is n = ap (λ (vs : List Version). rows_in vs n) is ∙ nothing n
  where
    nothing : (n : ℕ) → rows_in [] n ≡ fin.empty
    nothing zero = refl
    nothing (suc n) = refl

pub empty_start : (w : Workflow) (t number : ℕ) → part_of part number (kept_state (ended (start w)) t) ≡ no_state
empty_start w t number =
    let u = ended (start w) in
    let k = main_place (task_in w t).inputs in
    let rows : rows_in (kept_at u (main_channel u t)).versions (cursor u t k) ≡ fin.empty =
    none_before (kept_at u (main_channel u t)).versions (ap (λ (x : Kept). x.versions) (no_versions w.channels (main_channel u t))) (cursor u t k) in
    ap (λ (m : RowMap). part_of part number (state_of (plan_in w t).plan m)) rows
    ∙ ap (part_of part number) (no_rows_no_state (plan_in w t).plan) ∙ nothing_apart number

-- ---- its frame is short

first_length : (text : List ℕ) → length (frame (commit_bytes (commit.Flow text))) ≡ length text + 10
unfolding commit_bytes
first_length text =
    let whole = length-append (entry (1 ∷ text)) (0 ∷ []) in
    let one = length-append (length_bytes (length (1 ∷ text))) (1 ∷ text) in
    let eight = length-length_bytes (length (1 ∷ text)) in
    omega (arith, whole, one, eight)

pub short_first : (text : List ℕ) (w : Workflow) → HasFlow text w → length (frame (commit_bytes (commit.Flow text))) < 2 ^ 62
short_first text w read = let long = first_length text in let few = (flows_are_admitted text w read).short in omega (arith, long, few)

-- ---- the files of a store of this text

module _ (text : List ℕ) (w : Workflow) (read : HasFlow text w) where
  admitted : IsAdmitted text w
  admitted = flows_are_admitted text w read

  abbrev pub first : Entered
  first = applied (blank (wiring_of w)) (commit.Flow text)

  pub one_commit : IsCatalogOf (wiring_of w) (commit.Flow text ∷ []) first
  one_commit = record { fit = (tt, tt); is = refl }

  agrees : Agrees (commit.Flow text ∷ []) first (ended (start w))
  agrees = record {
    read = of_text text w read;
    later = [];
    begins = ap (λ (t : List ℕ). let cs : List Commit = commit.Flow t ∷ [] in cs) (sym admitted.kept);
    catalog = one_commit;
    same = like_start w text admitted.counted ∙ ap sketch (sym (start_rests w));
  }

  pub stands_first : (files : Files) → IsMark files (Some 0) → IsLog (commit_bytes (commit.Flow text) ∷ []) (files (journal_file 0)) → StandsBy 0 (commit.Flow text ∷ []) first files (ended (start w))
  stands_first files marked log = record {
    but = record {
      marked = marked;
      log = log;
      agrees = agrees;
      stored = λ p named. absurd (names_none w text p.content p.block p.size named);
      empty = λ t number grouping none. empty_start w t number;
      paths = λ c h one. let led = hops_have_paths (ended (start w)) admitted.news (ended_reachable (start w) (start_reachable w)) c h one in (led.0, led.2);
    };
    stored = λ p named. absurd (names_none w text p.content p.block p.size named);
  }

  pub files_first : (files : Files) → IsMark files (Some 0) → IsLog (commit_bytes (commit.Flow text) ∷ []) (files (journal_file 0)) → FilesStand files (start w)
  unfolding FilesStand
  files_first files marked log = (0, commit.Flow text ∷ [], first, stands_first files marked log)

  settled_first : (a b : List Event) (end : ℕ) → HasFirst end (commit_bytes (commit.Flow text)) a b → NoLaterMarks 0 a → IsSettled 0 first b
  settled_first a b end has later n (inr (inl e)) = subst (λ m. Only (current b m) (Outcome b m)) (sym e) has.journal_settled
  settled_first a b end has later n (inr (inr (p, named, e))) = absurd (names_none w text p.content p.block p.size named)
  settled_first a b end has later n (inl (zero, le, e)) = subst (λ m. Only (current b m) (Outcome b m)) (sym e) has.mark_settled
  settled_first a b end has later n (inl (suc y, le, e)) =
      subst (λ m. Only (current b m) (Outcome b m)) (sym e) (λ c o. has.later later (suc y) (omega arith) c o ∙ sym (has.marked.1 (suc y) (omega arith)))

  pub made_by : (store : Held) (a b : List Event) → store.journal.generation ≡ 0 → store.flow ≡ w → store.catalog ≡ first → store.flight ≡ idle_slots store.flow → HasFirst store.journal.length (commit_bytes (commit.Flow text)) a b → OnlyMade a b → Made store text a b
  made_by store a b number flow catalog idle has only = record {
    generation = number;
    flow = subst (HasFlow text) (sym flow) read;
    kept = ap (λ (f : Workflow). f.text) flow ∙ admitted.kept;
    stands = record {
      flow = refl;
      reached = start_reachable store.flow;
      flights = subst (HoldFlights store.flight) (start_rests store.flow) (idle_hold store.flow store.flight (start store.flow) (start_reachable store.flow) refl idle);
      by = subst (λ (f : Workflow). StandsBut store.journal.generation (commit.Flow text ∷ []) store.catalog (current b) (ended (start f))) (sym flow)
          (subst (λ (cat : Entered). StandsBut store.journal.generation (commit.Flow text ∷ []) cat (current b) (ended (start w))) (sym catalog)
          (subst (λ x. StandsBut x (commit.Flow text ∷ []) first (current b) (ended (start w))) (sym number) (stands_first (current b) has.marked has.log.log).but));
      long = subst (λ x. LogTo store.journal.length (commit_bytes (commit.Flow text) ∷ []) (current b (journal_file x))) (sym number) has.log;
      settled = subst (λ x. Only (current b (journal_file x)) (Outcome b (journal_file x))) (sym number) has.journal_settled;
    };
    stored = subst (λ (f : Workflow). FilesStand (current b) (start f)) (sym flow) (files_first (current b) has.marked has.log.log);
    settled = λ later. subst (λ (cat : Entered). IsSettled 0 cat b) (sym catalog) (settled_first a b store.journal.length has later);
    only = only;
  }

  pub kept_first : (held : Held) → held.flow ≡ w → held.catalog ≡ first → held.flight ≡ idle_slots held.flow → IsKept held
  kept_first held flow catalog idle = record {
    read = subst (λ (f : Workflow). HasFlow f.text f) (sym flow) (of_text text w read);
    wired = ap (λ (cat : Entered). cat.wiring) catalog ∙ ap wiring_of (sym flow);
    begun = ap (λ (cat : Entered). cat.begun) catalog;
    readable = readable (wiring_of w) (commit.Flow text ∷ []) held.catalog admitted.wiring (ap (λ (cat : Entered). Some cat) (sym catalog));
    tasks = ap (λ (cat : Entered). length cat.tasks) catalog ∙ length-map (wiring_of w).tasks (λ (v : Wire). no_run) ∙ tasks_known w (of_text text w read) ∙ ap (λ (f : Workflow). length f.tasks) (sym flow);
    flights = ap length idle ∙ idle_count (length held.flow.tasks);
  }

  pub made_or_not : (files : Files) → HasNoneOrFirst (commit_bytes (commit.Flow text)) files → IsMadeOrNot text files
  made_or_not files (inl none) = inl none
  made_or_not files (inr (marked, (end, log))) = inr (w, read, files_first files marked log.log, (first, (stands_first files marked log.log).but))

-- ---- the two files

module _ (a m : List Event) (unmarked : IsUnmarked 0 (current a)) (others : SameBut 0 (current a) (current m)) where
  pub no_mark_yet : IsMark (current m) None
  no_mark_yet x = others (4 * x + 1) (λ e. omega (arith, e)) ∙ unmarked x (omega arith)

  pub only_journal : replies m ≡ replies a → OnlyMade a m
  only_journal silent = record { others = λ n journal mark. others n journal; silent = silent }

  module _ (b : List Event) (marks : SameBut 1 (current m) (current b)) where
    pub only_made : replies m ≡ replies a → replies b ≡ replies m → OnlyMade a b
    only_made one two = record { others = λ n journal mark. marks n mark ∙ others n journal; silent = two ∙ one }

    pub has_first : (end : ℕ) (payload : List ℕ) → LeavesSameBut 0 (Outcome a) (Outcome m) → LeavesSameBut 1 (Outcome m) (Outcome b) → Holds 0 end (payload ∷ []) (current b) → IsMark (current b) (Some 0) →
        Only (current m 0) (Outcome m 0) → Only (current b 1) (Outcome b 1) → HasFirst end payload a b
    has_first end payload leaves left holds marked settled mark_settled = record {
      log = holds.log;
      marked = marked;
      journal_settled = λ c o. settled c ((left 0 (λ e. omega (arith, e))).0 c o) ∙ sym (marks 0 (λ e. omega (arith, e)));
      mark_settled = mark_settled;
      later = λ none y lt c o. none y lt c ((leaves (mark_file y) (λ e. omega (arith, e))).0 c ((left (mark_file y) (λ e. omega (arith, lt, e))).0 c o));
    }

-- ---- nothing was done

pub not_made : (why : InitFault) (text : List ℕ) (a : List Event) → NotBlank text why → Unmade why text a a
not_made init.Disk text a is = absurd is
not_made (init.Flow why) text a is = refl
not_made init.NoMemory text a is = refl

pub not_made_cause : (why : InitFault) (text : List ℕ) (n : ℕ) → NotBlank text why → InitCause n n text why
not_made_cause init.Disk text n is = absurd is
not_made_cause (init.Flow why) text n is = (is, refl)
not_made_cause init.NoMemory text n is = refl
