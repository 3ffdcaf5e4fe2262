-- A run is done, or stops.
use Rattle.std.proofs.Common.{◌≡◌, inl, ℕ, ◌+◌, ◌≤◌, ◌^◌, Bool, true, false, List, [], ◌∷◌, ◌++◌, length, length-append, Some, refl, ap, sym, ◌∙◌, subst, arith, append-nil}
use Rattle.std.proofs.lemmas.List.{map-append}
use Rattle.std.specs.Prelude.{map}
use Rattle.std.specs.Bool.{IsTrue}
use Rattle.nova_outside.specs.History.{Event, current, replies}
use Rattle.nova_row_codec.specs.Spelling.{spelling_of}
use Rattle.nova_block.specs.declared.fault.BlockFault.{BlockFault}
use Rattle.nova_block.specs.declared.fault.BlockFault.TheVariants as block
use Rattle.nova_commit.specs.Commits.{Fits, commit_bytes}
use Rattle.nova_commit.specs.declared.commit.Commit.{Commit}
use Rattle.nova_journal.specs.Log.{entry, frame, records}
use Rattle.nova_journal.proofs.Records.{length-records}
use Rattle.nova_meta.specs.Catalog.{allows}
use Rattle.nova_machine.specs.Workflow.{Workflow, plan_in}
use Rattle.nova_machine.specs.State.{Capture, State}
use Rattle.nova_machine.specs.Due.{capture_of}
use Rattle.nova_machine.specs.Steps.{Step, Run, after}
use Rattle.nova_machine.specs.Reachable.{IsMade}
use Rattle.nova_machine.proofs.Turns.{flow_after}
use Rattle.nova_execution.specs.Damage.{ExecutionTold}
use Rattle.nova_execution.specs.Groups.{run_state}
use Rattle.nova_execution.specs.Made.{IsRunOf, run_block}
use Rattle.nova_execution.specs.declared.made.Made.{Made}
use Rattle.nova_runner.specs.Acts.{IsFull, IsStepDamage, keeps_in, kept_spelling, newest_reads, own_commit, own_run}
use Rattle.nova_runner.specs.Committing.{Added, Adds, AreSpare, Breaks, IsReady, Leads, Touched}
use Rattle.nova_runner.specs.Held.{Held}
use Rattle.nova_runner.specs.Readable.{IsKept}
use Rattle.nova_runner.specs.RunFiles.{AreRunFiles}
use Rattle.nova_runner.specs.RunLaws.{run_own}
use Rattle.nova_runner.specs.Runs.{IsRunReady, made_commit, read_stop, run_commit}
use Rattle.nova_runner.specs.Steps.{AsksRun, BrokeOff, Done, IsLeft, IsShortLog, IsStopFull, LosesNone, NoRoom, Stopped, StoreStands, why_of}
use Rattle.nova_runner.specs.Workflow.{wiring_of}
use Rattle.nova_runner.specs.declared.ready.Fresh.{Fresh}
use Rattle.nova_runner.specs.declared.ready.Ready.{Ready}
use Rattle.nova_trigger.specs.Due.{capture_in}
use Rattle.nova_runner.specs.Beginning.{captured_in}
use Rattle.nova_runner.proofs.Capturing.{captures}
use Rattle.nova_runner.proofs.Loads.{ready_room}
use Rattle.nova_runner.proofs.RunRooms.{frame_room, fuller}
use Rattle.nova_runner.proofs.Running.{runs_lead}

-- a commit of a block of another size touches the same files
pub touched_same : (store : Held) (t z state : ℕ) (a b : List Event) → Touched store (run_commit store t z state) a b → Touched store (run_commit store t 0 0) a b
touched_same store t z state a b is = by_keeps (keeps_in store.flow t) is
  where
    by_keeps : (keeps : Bool) → Touched store (own_run store.catalog t (capture_in (captured_in store t)) keeps z state) a b → Touched store (own_run store.catalog t (capture_in (captured_in store t)) keeps 0 0) a b
    by_keeps true is = record { others = is.others; silent = is.silent }
    by_keeps false is = record { others = is.others; silent = is.silent }

-- inputs that weren't read are never want of room
pub not_full : (store : Held) (fault : BlockFault) → IsStopFull (read_stop store fault) → ⊥
not_full store block.Disk full = full
not_full store (block.Damaged file at) full = full
not_full store block.NoMemory full = full

pub untouched : (store : Held) (own : Commit) (a b : List Event) → b ≡ a → Touched store own a b
untouched store own a b same = subst (λ (h : List Event). Touched store own a h) (sym same) (record { others = λ n free. refl; silent = refl })

some_same : (c d : Commit) → Some c ≡ Some d → c ≡ d
some_same c d e = cc

module _ (store : Held) (task : ℕ) (commits : List Commit) (s : State) (x : Step) (a : List Event)
    (stands : StoreStands store commits a s) (asks : AsksRun task s x) where
  abbrev run : Capture
  run = capture_of s task

  abbrev pub size : ℕ
  size = length (spelling_of (run_block s task run))

  abbrev pub left : ℕ
  left = length (kept_spelling (run_state s task run))

  abbrev pub t : State
  t = after s (Run task)

  keeps_is : keeps_in store.flow task ≡ keeps_in s.flow task
  keeps_is = ap (λ (w : Workflow). keeps_in w task) stands.flow

  -- the commit of the step
  abbrev pub own : Commit
  own = own_run store.catalog task run (keeps_in s.flow task) size left

  -- is the one that the store makes of what it made
  pub own_is : (m : Made) → IsRunOf s task run m → made_commit store task m ≡ own
  own_is m is = λ i. own_run store.catalog task (captures store commits s a stands task i) (keeps_is i) (length (spelling_of (is.0 i))) (length (kept_spelling (is.1 i)))

  same_own : own_commit store.catalog s x ≡ Some own
  same_own = ap (λ (y : Step). own_commit store.catalog s y) asks.0

  pub no_room : (m : Made) → IsRunOf s task run m → IsFull store.journal.length store.catalog (made_commit store task m) → NoRoom store s x store.journal.length
  no_room m is full = record { own = own; is = same_own; full = subst (λ (c : Commit). IsFull store.journal.length store.catalog c) (own_is m is) full; length = refl }

  pub no_room_now : IsFull store.journal.length store.catalog (run_commit store task 0 0) → NoRoom store s x store.journal.length
  no_room_now full = record {
    own = own;
    is = same_own;
    full = subst (λ (c : Commit). IsFull store.journal.length store.catalog c) (λ i. own_run store.catalog task (captures store commits s a stands task i) (keeps_is i) size left)
        (fuller store.catalog task (capture_in (captured_in store task)) (keeps_in store.flow task) store.journal.length size left full);
    length = refl;
  }

  -- what it made is what the step's commit names
  own_made : (m : Made) → IsRunOf s task run m → own ≡ run_own store.catalog s task m
  own_made m is = λ i. own_run store.catalog task run (keeps_in s.flow task) (length (spelling_of (sym is.0 i))) (length (kept_spelling (sym is.1 i)))

  pub leads : (m : Made) (fresh : List Fresh) → IsKept store → IsRunOf s task run m → AreRunFiles store.catalog.next m.block m.state fresh →
      Fits (made_commit store task m) → allows store.catalog (made_commit store task m) ≡ true → Leads store.catalog s t own fresh
  leads m fresh kept is files fits allowed =
      let same = own_is m is ∙ own_made m is in
      subst (λ (c : Commit). Leads store.catalog s t c fresh) (sym (own_made m is))
      (runs_lead store.journal.generation commits store.catalog (current a) s task m fresh stands.reached (kept.wired ∙ ap wiring_of stands.flow) stands.by
      (subst (λ (y : Step). IsMade s y) asks.0 asks.1) is files
      (subst Fits same fits) (subst (λ (c : Commit). allows store.catalog c ≡ true) same allowed))

  same_flow : t.flow ≡ s.flow
  same_flow = flow_after s (Run task)

  -- the journal with its frame
  pub short_log : length (frame (commit_bytes own)) + store.journal.length ≤ 2 ^ 62 → IsShortLog (commits ++ own ∷ [])
  short_log room =
      let ends = stands.long.ends in
      let all : length (records (map commit_bytes (commits ++ own ∷ []))) ≡ length (records (map commit_bytes commits ++ commit_bytes own ∷ [])) = ap (λ ps. length (records ps)) (map-append commit_bytes commits (own ∷ [])) in
      let more = length-records (map commit_bytes commits) (commit_bytes own) in
      let framed = length-append (entry (commit_bytes own)) (0 ∷ []) in
      omega (arith, room, ends, all, more, framed)

  pub short_now : (IsFull store.journal.length store.catalog (run_commit store task 0 0) → ⊥) → IsShortLog (commits ++ own ∷ [])
  short_now free = short_log (subst (λ (c : Commit). length (frame (commit_bytes c)) + store.journal.length ≤ 2 ^ 62) (λ i. own_run store.catalog task (captures store commits s a stands task i) (keeps_is i) size left)
      (frame_room store.catalog task (capture_in (captured_in store task)) (keeps_in store.flow task) store.journal.length size left free))

  pub done : (new : Held) (b : List Event) → Added store new commits own t a b → new.journal.generation ≡ store.journal.generation → Touched store own a b →
      ((file at : ℕ) → IsStepDamage s.flow store.catalog (current a) (Run task) file at → ⊥) → IsShortLog (commits ++ own ∷ []) → Done store new commits s x [] a b
  done new b added generation touched undamaged short = subst (λ (y : Step). Done store new commits s y [] a b) (sym asks.0) (record {
    stands = added.stands;
    generation = generation;
    others = touched.others;
    no_loss = subst (λ (f : Workflow). LosesNone f store.catalog new.catalog (current a) (current b)) same_flow added.no_loss;
    settled = added.settled;
    replied = touched.silent ∙ sym (append-nil (replies a));
    undamaged = undamaged;
    room = λ c is. subst (λ o. IsShortLog (commits ++ o ∷ [])) (some_same own c is) short;
  })

  pub broke : (b : List Event) → IsLeft store.journal.generation commits store.catalog (Some own) (current a) (current b) s t → Touched store own a b → IsShortLog (commits ++ own ∷ []) → BrokeOff store commits s x a b
  broke b left touched short = subst (λ (y : Step). BrokeOff store commits s y a b) (sym asks.0) (record {
    left = left;
    others = touched.others;
    silent = touched.silent;
    room = λ c is. subst (λ o. IsShortLog (commits ++ o ∷ [])) (some_same own c is) short;
  })

  -- inputs or a state that weren't read
  pub not_read : (b : List Event) (fault : BlockFault) → b ≡ a → IsShortLog (commits ++ own ∷ []) → ExecutionTold store.flow.channels (plan_in store.flow task) store.catalog (current a) task (newest_reads store.catalog task) fault → Stopped (why_of (read_stop store fault)) store commits s x a b
  not_read b block.Disk same short told = subst (λ (y : Step). BrokeOff store commits s y a b) (sym asks.0) (subst (λ (h : List Event). BrokeOff store commits s (Run task) a h) (sym same) (record {
    left = inl (record { stands = stands.by; no_loss = λ p named lost. (named, lost) });
    others = λ n free. refl;
    silent = refl;
    room = λ c is. subst (λ o. IsShortLog (commits ++ o ∷ [])) (some_same own c is) short;
  }))
  not_read b (block.Damaged file at) same short told = (same, subst (λ (y : Step). IsStepDamage s.flow store.catalog (current a) y file at) (sym asks.0) (subst (λ (f : Workflow). IsStepDamage f store.catalog (current a) (Run task) file at) stands.flow told))
  not_read b block.NoMemory same short told = same

  -- ---- from what the calls of a run give, each over files that read as before

  module _ (h : Bool) (honest : IsTrue h) (kept : IsKept store) (m b : List Event) (same : m ≡ a) (given : Made) (is : IsRunOf s task run given) (fresh : List Fresh) (made : Ready) (ready : IsRunReady store task given fresh made) where
    own_ready : IsReady store own made
    own_ready = subst (λ (o : Commit). IsReady store o made) (own_is given is) ready.ready

    own_spare : AreSpare store.catalog own fresh
    own_spare = subst (λ (o : Commit). AreSpare store.catalog o fresh) (own_is given is) ready.spare

    led : Leads store.catalog s t own fresh
    led = leads given fresh kept is ready.files ready.fits ready.ready.prepared.allowed

    stands_now : StoreStands store commits m s
    stands_now = subst (λ (k : List Event). StoreStands store commits k s) (sym same) stands

    touched_now : ((o : Commit) → IsReady store o made → AreSpare store.catalog o fresh → Touched store o m b) → Touched store own a b
    touched_now touches = subst (λ (k : List Event). Touched store own k b) same (touches own own_ready own_spare)

    pub finished : (new : Held) → ((o : Commit) → IsReady store o made → AreSpare store.catalog o fresh → Adds h store new o fresh m b) → new.journal.generation ≡ store.journal.generation
        → ((o : Commit) → IsReady store o made → AreSpare store.catalog o fresh → Touched store o m b)
        → ((file at : ℕ) → IsStepDamage store.flow store.catalog (current a) (Run task) file at → ⊥) → Done store new commits s x [] a b
    finished new adds generation touches whole =
        let added = subst (λ (k : List Event). Added store new commits own t k b) same (adds own own_ready own_spare honest commits s t stands_now led) in
        done new b added generation (touched_now touches)
        (subst (λ (f : Workflow). (file at : ℕ) → IsStepDamage f store.catalog (current a) (Run task) file at → ⊥) stands.flow whole)
        (short_log (ready_room store own made own_ready))

    pub cut_off : ((o : Commit) → IsReady store o made → AreSpare store.catalog o fresh → Breaks h store o fresh m b)
        → ((o : Commit) → IsReady store o made → AreSpare store.catalog o fresh → Touched store o m b) → BrokeOff store commits s x a b
    cut_off breaks touches =
        broke b (subst (λ (k : List Event). IsLeft store.journal.generation commits store.catalog (Some own) (current k) (current b) s t) same (breaks own own_ready own_spare honest commits s t stands_now led))
        (touched_now touches) (short_log (ready_room store own made own_ready))
