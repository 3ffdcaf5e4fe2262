-- A load is done, or stops.
use Rattle.std.proofs.Common.{◌≡◌, ℕ, ◌+◌, ◌<◌, ◌≤◌, ◌^◌, true, ◌&&◌, List, [], ◌∷◌, ◌++◌, length, length-append, Some, refl, ap, sym, ◌∙◌, subst, arith, append-nil}
use Rattle.std.proofs.lemmas.List.{map-append}
use Rattle.std.specs.Prelude.{map, nat_le, nat_lt}
use Rattle.std.proofs.lemmas.Bool.Decides.{nat_tests}
use Rattle.nova_outside.specs.History.{Event, current, replies}
use Rattle.nova_delta.specs.Merge.{DeltaValue}
use Rattle.nova_row_codec.specs.Spelling.{spelling_of}
use Rattle.nova_commit.specs.Commits.{Fits, commit_bytes}
use Rattle.nova_journal.specs.Log.{entry, frame, records}
use Rattle.nova_journal.proofs.Records.{length-records}
use Rattle.nova_meta.specs.Catalog.{Entered, allows, bound, may_rise, shelf_at, total}
use Rattle.nova_commit.specs.declared.commit.Commit.{Commit}
use Rattle.nova_commit.specs.declared.commit.Commit.TheVariants as commit
use Rattle.nova_meta.proofs.Allowed.{and_both}
use Rattle.nova_machine.specs.State.{State, newest}
use Rattle.nova_machine.specs.Steps.{Step, Load, after}
use Rattle.nova_machine.specs.Reachable.{IsMade}
use Rattle.nova_machine.proofs.Counted.{channels_are_kept}
use Rattle.nova_meta.specs.Named.{Channel}
use Rattle.nova_runner.specs.Files.{bytes_of}
use Rattle.nova_runner.specs.Acts.{IsFull, LeavesOthers, has_room, load_block, load_commit, own_commit}
use Rattle.nova_runner.specs.Committing.{Added, IsReady, Leads, Touched}
use Rattle.nova_runner.specs.Held.{Held}
use Rattle.nova_runner.specs.Readable.{IsKept}
use Rattle.nova_runner.specs.Stands.{drawn, sketch}
use Rattle.nova_machine.specs.Workflow.{Workflow, is_input}
use Rattle.nova_machine.proofs.Turns.{flow_after}
use Rattle.nova_runner.proofs.Flights.{sketch_ended}
use Rattle.nova_runner.proofs.Stored.{lengths}
use Rattle.nova_runner.specs.Steps.{AsksLoad, BrokeOff, Done, IsLeft, IsShortLog, LosesNone, NoRoom, StoreStands}
use Rattle.nova_runner.specs.declared.ready.Ready.{Ready}
use Rattle.nova_runner.specs.Workflow.{wiring_of}
use Rattle.nova_runner.specs.declared.ready.Fresh.{Fresh}
use Rattle.nova_runner.proofs.Allowing.{load_low, load_rules}
use Rattle.nova_runner.proofs.Leading.{loads_lead}
use Rattle.nova_runner.proofs.Loading.{load_bytes}

-- the numbers of a load's commit that has room fit their fields
pub load_fits : (cat : Entered) (c size : ℕ) → c < 2 ^ 32 → has_room cat (commit.Load c cat.next size) ≡ true → Fits (commit.Load c cat.next size)
load_fits cat c size narrow room =
    let low = load_low cat c size room in
    let fits : nat_le (total (shelf_at cat c) + size) bound ≡ true = (and_both (nat_le (total (shelf_at cat c) + size) bound) (may_rise (shelf_at cat c).version && nat_lt cat.next bound) room).0 in
    (narrow, (omega (arith, low), grind (arith, nat_tests)))

some_same : (c d : Commit) → Some c ≡ Some d → c ≡ d
some_same c d e = cc

module _ (store : Held) (channel : ℕ) (delta : DeltaValue) (commits : List Commit) (s : State) (x : Step) (a : List Event)
    (stands : StoreStands store commits a s) (asks : AsksLoad channel delta s x) where
  abbrev pub own : Commit
  own = load_commit store.catalog channel delta

  abbrev pub t : State
  t = after s (Load channel asks.0)

  all_lengths : length store.catalog.channels ≡ length s.flow.channels
  all_lengths = lengths store.journal.generation commits store.catalog (current a) s stands.reached stands.by

  here : drawn store.catalog ≡ sketch s
  here = stands.by.agrees.same ∙ sketch_ended s

  input : is_input s.flow channel ≡ true
  input = (subst (λ (y : Step). IsMade s y) asks.1 asks.3).1

  below : channel < length s.channels
  below = let n = channels_are_kept s stands.reached in let m = (subst (λ (y : Step). IsMade s y) asks.1 asks.3).0 in omega (arith, n, m)

  pub same_own : own_commit store.catalog s x ≡ Some own
  same_own = ap (λ (y : Step). own_commit store.catalog s y) asks.1
      ∙ ap (λ (bs : List ℕ). Some (commit.Load channel store.catalog.next (length bs))) (sym (load_bytes store.catalog s channel asks.0 delta below input here asks.2))

  pub no_room : IsFull store.journal.length store.catalog own → NoRoom store s x store.journal.length
  no_room full = record { own = own; is = same_own; full = full; length = refl }

  pub leads : (fresh : Fresh) → IsKept store → channel < 2 ^ 32 → fresh.block ≡ store.catalog.next → fresh.bytes.items ≡ spelling_of (load_block store.catalog channel delta) → allows store.catalog own ≡ true → Leads store.catalog s t own (fresh ∷ [])
  leads fresh kept narrow number bytes allowed =
      let wired = kept.wired ∙ ap wiring_of stands.flow in
      let in_range : channel < length store.catalog.channels = let m = (subst (λ (y : Step). IsMade s y) asks.1 asks.3).0 in let l = all_lengths in omega (arith, m, l) in
      let room = sym (load_rules store.catalog s.flow channel (length (spelling_of (load_block store.catalog channel delta))) stands.by.agrees.read input kept.begun in_range wired) ∙ allowed in
      loads_lead store.journal.generation commits store.catalog (current a) s channel asks.0 delta fresh stands.reached wired stands.by
      (subst (λ (y : Step). IsMade s y) asks.1 asks.3) asks.2 number bytes (load_fits store.catalog channel (length (spelling_of (load_block store.catalog channel delta))) narrow room) allowed

  same_flow : t.flow ≡ s.flow
  same_flow = flow_after s (Load channel asks.0)

  own_is : own ≡ commit.Load channel store.catalog.next (length (bytes_of t (Channel channel (newest s channel) (newest s channel + 1))))
  own_is = ap (λ (bs : List ℕ). let c : Commit = commit.Load channel store.catalog.next (length bs) in c) (load_bytes store.catalog s channel asks.0 delta below input here asks.2)

  -- the commit of the step, as the machine has it
  abbrev pub own_now : Commit
  own_now = commit.Load channel store.catalog.next (length (bytes_of t (Channel channel (newest s channel) (newest s channel + 1))))

  own_some : own_commit store.catalog s (Load channel asks.0) ≡ Some own_now
  own_some = refl

  -- the journal with its frame
  pub short_log : length (frame (commit_bytes own)) + store.journal.length ≤ 2 ^ 62 → IsShortLog (commits ++ own ∷ [])
  short_log room =
      let ends = stands.long.ends in
      let all : length (records (map commit_bytes (commits ++ own ∷ []))) ≡ length (records (map commit_bytes commits ++ commit_bytes own ∷ [])) = ap (λ ps. length (records ps)) (map-append commit_bytes commits (own ∷ [])) in
      let more = length-records (map commit_bytes commits) (commit_bytes own) in
      let framed = length-append (entry (commit_bytes own)) (0 ∷ []) in
      omega (arith, room, ends, all, more, framed)

  pub done : (new : Held) (b : List Event) → Added store new commits own t a b → new.journal.generation ≡ store.journal.generation → Touched store own a b → IsShortLog (commits ++ own ∷ []) → Done store new commits s x [] a b
  done new b added generation touched short = subst (λ (y : Step). Done store new commits s y [] a b) (sym asks.1) (record {
    stands = subst (λ (c : Commit). StoreStands new (commits ++ c ∷ []) b t) own_is added.stands;
    generation = generation;
    others = subst (λ (c : Commit). LeavesOthers store.journal.generation (Some c) (current a) (current b)) own_is touched.others;
    no_loss = subst (λ (f : Workflow). LosesNone f store.catalog new.catalog (current a) (current b)) same_flow added.no_loss;
    settled = added.settled;
    replied = touched.silent ∙ sym (append-nil (replies a));
    undamaged = λ file at damage. damage;
    room = λ c is. subst (λ o. IsShortLog (commits ++ o ∷ [])) (some_same own_now c (sym own_some ∙ is)) (subst (λ (o : Commit). IsShortLog (commits ++ o ∷ [])) own_is short);
  })

  pub broke : (b : List Event) → IsLeft store.journal.generation commits store.catalog (Some own) (current a) (current b) s t → Touched store own a b → IsShortLog (commits ++ own ∷ []) → BrokeOff store commits s x a b
  broke b left touched short = subst (λ (y : Step). BrokeOff store commits s y a b) (sym asks.1) (record {
    left = subst (λ (c : Commit). IsLeft store.journal.generation commits store.catalog (Some c) (current a) (current b) s t) own_is left;
    others = subst (λ (c : Commit). LeavesOthers store.journal.generation (Some c) (current a) (current b)) own_is touched.others;
    silent = touched.silent;
    room = λ c is. subst (λ o. IsShortLog (commits ++ o ∷ [])) (some_same own_now c (sym own_some ∙ is)) (subst (λ (o : Commit). IsShortLog (commits ++ o ∷ [])) own_is short);
  })

-- the frame of what is ready has room
pub ready_room : (store : Held) (own : Commit) (ready : Ready) → IsReady store own ready → length (frame (commit_bytes own)) + store.journal.length ≤ 2 ^ 62
ready_room store own ready is = let room = is.room in let framed = ap length is.framed in omega (arith, room, framed)

-- what is allowed has room
pub room_of : (store : Held) (channel : ℕ) (delta : DeltaValue) → IsKept store → is_input store.flow channel ≡ true → channel < length store.catalog.channels → allows store.catalog (load_commit store.catalog channel delta) ≡ true → has_room store.catalog (load_commit store.catalog channel delta) ≡ true
room_of store channel delta kept input below allowed = sym (load_rules store.catalog store.flow channel (length (spelling_of (load_block store.catalog channel delta))) kept.read input kept.begun below kept.wired) ∙ allowed
