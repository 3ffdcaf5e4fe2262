-- A tick is done, or stops.
use Rattle.std.proofs.Common.{◌≡◌, ℕ, ◌+◌, ◌<◌, ◌≤◌, ◌^◌, Bool, true, false, List, [], ◌∷◌, ◌++◌, length, length-append, map, Some, refl, ap, sym, ◌∙◌, subst, inl, inr, arith, append-nil, if◌then◌else◌}
use Rattle.std.specs.Prelude.{IsErr, Ok, Result, is_err, nat_le}
use Rattle.std.proofs.lemmas.Bool.Decides.{nat_tests}
use Rattle.nova_outside.specs.History.{Event, current, replies}
use Rattle.nova_journal.specs.Fault.{AppendCause}
use Rattle.nova_journal.specs.Log.{frame, entry, length_bytes, records, tick_payload}
use Rattle.nova_journal.proofs.Records.{length-records}
use Rattle.std.proofs.lemmas.List.{map-append}
use Rattle.nova_journal.specs.declared.fault.LogFault.{LogFault}
use Rattle.nova_journal.specs.declared.fault.LogFault.TheVariants as log
use Rattle.nova_commit.specs.Commits.{commit_bytes}
use Rattle.nova_commit.specs.declared.commit.Commit.{Commit}
use Rattle.nova_commit.specs.declared.commit.Commit.TheVariants as commit
use Rattle.nova_meta.specs.Catalog.{Entered, allows, applied, bound}
use Rattle.nova_meta.specs.Named.{Channel, Content, Names, State as StatePart}
use Rattle.nova_machine.specs.Workflow.{Workflow}
use Rattle.nova_machine.specs.State.{State, ended}
use Rattle.nova_machine.specs.Steps.{Step, Tick, after}
use Rattle.nova_machine.specs.Reachable.{IsMade, IsReachable}
use Rattle.nova_machine.proofs.Ended.{ended_reachable}
use Rattle.nova_machine.proofs.Reached.{hops_have_paths, reachable_more}
use Rattle.nova_machine.proofs.Turns.{flow_after}
use Rattle.nova_runner.specs.Acts.{IsFull, own_commit}
use Rattle.nova_runner.specs.Committing.{Added, ArePut, AreSpare, Leads, LeavesAllBut, Touched}
use Rattle.nova_runner.specs.Files.{bytes_of}
use Rattle.nova_runner.specs.Held.{Held}
use Rattle.nova_journal.specs.Extent.{Extent}
use Rattle.nova_runner.specs.Readable.{IsKept, IsReadable}
use Rattle.nova_runner.specs.Stands.{Sketch, drawn, sketch}
use Rattle.nova_runner.specs.Laws.{TicksLead}
use Rattle.nova_runner.specs.Steps.{AsksTick, BrokeOff, Done, IsLeft, IsShortLog, IsStopDamage, IsStopFull, LosesNone, NoRoom, StopCause, Stopped, StoreStands, TakesNoMemory, append_stop, why_of}
use Rattle.nova_runner.proofs.Flows.{own as admitted}

some_same : (c d : Commit) → Some c ≡ Some d → c ≡ d
some_same c d e = cc

-- the record of a tick is its commit's
pub tick_is_framed : (m : ℕ) → frame (tick_payload m) ≡ frame (commit_bytes (commit.Tick m))
unfolding length_bytes commit_bytes
tick_is_framed m = refl

-- a tick that may be taken sets the moment
pub ticked : (s : State) (m : ℕ) → s.moment ≤ m → after s (Tick m) ≡ record s { moment = m }
ticked s m le =
    let test : nat_le s.moment m ≡ true = grind (arith, nat_tests) in
    ap (λ (b : Bool). if b then record s { moment = m } else s) test

named_same : (cat : Entered) (m : ℕ) (w : Content) (b z : ℕ) → Names (applied cat (commit.Tick m)) w b z → Names cat w b z
named_same cat m (Channel c i j) b z named = named
named_same cat m (StatePart t part) b z named = named

bytes_same : (s : State) (m : ℕ) (w : Content) → bytes_of (ended (record s { moment = m })) w ≡ bytes_of (ended s) w
bytes_same s m (Channel c i j) = refl
bytes_same s m (StatePart t part) = refl

like_ticked : (cat : Entered) (s : State) (m : ℕ) → drawn cat ≡ sketch s → drawn (applied cat (commit.Tick m)) ≡ sketch (record s { moment = m })
unfolding drawn sketch
like_ticked cat s m same = λ i. record {
  channels = ap (λ (k : Sketch). k.channels) same i;
  tasks = ap (λ (k : Sketch). k.tasks) same i;
  moment = m;
}

pub tick_readable : (cat : Entered) (m : ℕ) → cat.moment ≤ m → IsReadable cat → IsReadable (applied cat (commit.Tick m))
tick_readable cat m later is = record {
  below = λ p named. is.below p (named_same cat m p.content p.block p.size named);
  numbered = is.numbered;
  sound = record {
    same = refl;
    entered = record { wiring = is.sound.entered.wiring; channels = is.sound.entered.channels; tasks = is.sound.entered.tasks };
    shelved = is.sound.shelved;
    hops = record { whole = is.sound.hops.whole; news = is.sound.hops.news };
    bounded = record { next = is.sound.bounded.next; versions = is.sound.bounded.versions; runs = is.sound.bounded.runs };
  };
  timely = λ t. let before = is.timely t in omega (arith, before, later);
}

pub tick_kept : (store : Held) (m : ℕ) (journal : Extent) (cat : Entered) → IsKept store → store.catalog.moment ≤ m → cat ≡ applied store.catalog (commit.Tick m) → IsKept (record { journal = journal; flow = store.flow; catalog = cat; flight = store.flight })
tick_kept store m journal cat kept later is = subst (λ (k : Entered). IsKept (record { journal = journal; flow = store.flow; catalog = k; flight = store.flight })) (sym is)
    (record { read = kept.read; wired = kept.wired; begun = kept.begun; readable = tick_readable store.catalog m later kept.readable; tasks = kept.tasks; flights = kept.flights })

-- a tick brings no blocks
pub none_spare : (cat : Entered) (m : ℕ) → AreSpare cat (commit.Tick m) []
none_spare cat m = record {
  brings = refl;
  spare = λ p f named one. absurd one;
  apart = λ f g one other same. absurd one;
  low = tt;
}

pub none_put : (h : List Event) → ArePut [] h
none_put h f one = absurd one

pub all_left : (h : List Event) → LeavesAllBut [] h h
all_left h = record { reads = λ n free. refl; leaves = λ n free. ((λ c o. o), (λ c o. o)) }

-- the commit of a tick leads to the state behind it
pub ticks_lead : TicksLead
ticks_lead x commits cat files s m reached by is_made wide allowed =
    let taken = ticked s m is_made.0 in
    let t : State = record s { moment = m } in
    let reached_then : IsReachable t = subst IsReachable taken (reachable_more s (Tick m) reached is_made) in
    subst (λ (u : State). Leads cat s u (commit.Tick m) []) (sym taken) (record {
      fits = wide;
      allowed = allowed;
      flow = refl;
      reached = reached_then;
      flights = refl;
      like = like_ticked cat (ended s) m by.agrees.same;
      stay = λ p named later. bytes_same s m p.content;
      named = λ p named. inl (named_same cat m p.content p.block p.size named);
      empty = by.empty;
      paths = λ d h one. let led = hops_have_paths (ended t) (admitted s.flow by.agrees.read).news (ended_reachable t reached_then) d h one in (led.0, led.2);
    })

-- room for a moment below the bound is room in the journal
pub only_journal : (end : ℕ) (cat : Entered) (m : ℕ) → m ≤ 2 ^ 62 → IsFull end cat (commit.Tick m) → 2 ^ 62 < end + length (frame (commit_bytes (commit.Tick m)))
only_journal end cat m low (inl past) = past
only_journal end cat m low (inr none) =
    let room : nat_le m bound ≡ true = grind (arith, nat_tests) in
    absurd (clash (sym room ∙ none))
  where
    clash : true ≡ false → ⊥
    clash e = cc

pub tick_allowed : (cat : Entered) (m : ℕ) → cat.begun ≡ true → cat.moment ≤ m → allows cat (commit.Tick m) ≡ true
tick_allowed cat m begun later =
    let test : nat_le cat.moment m ≡ true = grind (arith, nat_tests) in
    rw (begun, test) refl

module _ (store : Held) (m : ℕ) (commits : List Commit) (s : State) (x : Step) (a : List Event) (asks : AsksTick m s x) where
  pub no_room : (end : ℕ) → end ≡ store.journal.length → IsFull store.journal.length store.catalog (commit.Tick m) → NoRoom store s x end
  no_room end is full = record { own = commit.Tick m; is = ap (λ (y : Step). own_commit store.catalog s y) asks.0; full = full; length = is }

  pub leads : StoreStands store commits a s → m < 2 ^ 64 → allows store.catalog (commit.Tick m) ≡ true → Leads store.catalog s (after s (Tick m)) (commit.Tick m) []
  leads stands wide allowed =
      ticks_lead store.journal.generation commits store.catalog (current a) s m stands.reached stands.by
      (subst (λ (y : Step). IsMade s y) asks.0 asks.1) wide allowed

  -- the journal with its record
  pub short_log : StoreStands store commits a s → store.journal.length + length (frame (commit_bytes (commit.Tick m))) ≤ 2 ^ 62 → IsShortLog (commits ++ commit.Tick m ∷ [])
  short_log stands room =
      let ends = stands.long.ends in
      let all : length (records (map commit_bytes (commits ++ commit.Tick m ∷ []))) ≡ length (records (map commit_bytes commits ++ commit_bytes (commit.Tick m) ∷ [])) = ap (λ ps. length (records ps)) (map-append commit_bytes commits (commit.Tick m ∷ [])) in
      let more = length-records (map commit_bytes commits) (commit_bytes (commit.Tick m)) in
      let framed = length-append (entry (commit_bytes (commit.Tick m))) (0 ∷ []) in
      omega (arith, room, ends, all, more, framed)

  kept_room : IsShortLog (commits ++ commit.Tick m ∷ []) → (c : Commit) → Some (commit.Tick m) ≡ Some c → IsShortLog (commits ++ c ∷ [])
  kept_room short c is = subst (λ o. IsShortLog (commits ++ o ∷ [])) (some_same (commit.Tick m) c is) short

  pub done : (new : Held) (b : List Event) → Added store new commits (commit.Tick m) (after s (Tick m)) a b → new.journal.generation ≡ store.journal.generation → Touched store (commit.Tick m) a b → IsShortLog (commits ++ commit.Tick m ∷ []) → Done store new commits s x [] a b
  done new b added generation touched short = subst (λ (y : Step). Done store new commits s y [] a b) (sym asks.0) (record {
    stands = added.stands;
    generation = generation;
    others = touched.others;
    no_loss = subst (λ (f : Workflow). LosesNone f store.catalog new.catalog (current a) (current b)) (flow_after s (Tick m)) added.no_loss;
    settled = added.settled;
    replied = touched.silent ∙ sym (append-nil (replies a));
    undamaged = λ file at damage. damage;
    room = kept_room short;
  })

  pub broke : (b : List Event) → IsLeft store.journal.generation commits store.catalog (Some (commit.Tick m)) (current a) (current b) s (after s (Tick m)) → Touched store (commit.Tick m) a b → IsShortLog (commits ++ commit.Tick m ∷ []) → BrokeOff store commits s x a b
  broke b left touched short = subst (λ (y : Step). BrokeOff store commits s y a b) (sym asks.0) (record { left = left; others = touched.others; silent = touched.silent; room = kept_room short })

  -- a record that wasn't appended: it had no room, and nothing was done, or a call failed
  pub stopped_then : (b : List Event) (before now total : ℕ) → (2 ^ 62 < total → b ≡ a) → (2 ^ 62 < total → IsFull store.journal.length store.catalog (commit.Tick m)) → (total ≤ 2 ^ 62 → BrokeOff store commits s x a b)
      → (fault : LogFault) → AppendCause before now store.journal.length total fault → Stopped (why_of (append_stop fault)) store commits s x a b
  stopped_then b before now total same full broken log.Disk cause = broken cause.1
  stopped_then b before now total same full broken (log.Full end) cause = (same cause.0, no_room end cause.1 (full cause.0))
  stopped_then b before now total same full broken log.NoStore cause = absurd cause
  stopped_then b before now total same full broken (log.Damaged file at) cause = absurd cause
  stopped_then b before now total same full broken log.NoMemory cause = absurd cause

pub stop_cause : (store : Held) (before now total : ℕ) (fault : LogFault) → AppendCause before now store.journal.length total fault → StopCause store before now (append_stop fault)
stop_cause store before now total log.Disk cause = cause.0
stop_cause store before now total (log.Full end) cause = cause.1
stop_cause store before now total log.NoStore cause = absurd cause
stop_cause store before now total (log.Damaged file at) cause = absurd cause
stop_cause store before now total log.NoMemory cause = absurd cause

pub stop_takes_none : (fault : LogFault) → TakesNoMemory (append_stop fault)
stop_takes_none log.Disk = tt
stop_takes_none (log.Full end) = tt
stop_takes_none log.NoStore = tt
stop_takes_none (log.Damaged file at) = tt
stop_takes_none log.NoMemory = tt

pub stop_full : (P : Type 0) (before now length total : ℕ) → (2 ^ 62 < total → P) → (fault : LogFault) → AppendCause before now length total fault → IsStopFull (append_stop fault) → P
stop_full P before now length total past log.Disk cause is = absurd is
stop_full P before now length total past (log.Full end) cause is = past cause.0
stop_full P before now length total past log.NoStore cause is = absurd is
stop_full P before now length total past (log.Damaged file at) cause is = absurd is
stop_full P before now length total past log.NoMemory cause is = absurd is

pub no_damage : (fault : LogFault) → IsStopDamage (append_stop fault) → ⊥
no_damage log.Disk damage = damage
no_damage (log.Full end) damage = damage
no_damage log.NoStore damage = damage
no_damage (log.Damaged file at) damage = damage
no_damage log.NoMemory damage = damage

-- what was done is no failure
pub not_err : {T E : Type 0} (r : Result T E) (v : T) → r ≡ Ok v → IsErr r → ⊥
not_err r v is err = clash (sym (ap is_err is) ∙ err)
  where
    clash : false ≡ true → ⊥
    clash e = cc

-- what isn't past the bound is within it
pub within : (n bound : ℕ) → (bound < n → ⊥) → n ≤ bound
within n bound not_past = grind arith

-- a record past the bound is told so
pub full_then : (before now length total : ℕ) → 2 ^ 62 < total → (fault : LogFault) → AppendCause before now length total fault → IsStopFull (append_stop fault)
full_then before now length total past log.Disk cause = let low = cause.1 in absurd (omega (arith, past, low))
full_then before now length total past (log.Full end) cause = tt
full_then before now length total past log.NoStore cause = absurd cause
full_then before now length total past (log.Damaged file at) cause = absurd cause
full_then before now length total past log.NoMemory cause = absurd cause
