-- One step, and the reply that tells it.
use Rattle.std.proofs.Common.{◌≡◌, ℕ, ◌+◌, ◌≤◌, Bool, List, [], ◌∷◌, ◌++◌, Option, None, refl, sym, ap, ◌∙◌, subst, arith}
use Rattle.std.proofs.lemmas.List.{append-nil}
use Rattle.nova_delta.specs.Merge.{DeltaValue}
use Rattle.nova_outside.specs.History.{Event, current, replies}
use Rattle.nova_outside.specs.Replies.{Gives, GivesInPart, HasReplied, HasRepliedInPart}
use Rattle.nova_outside.proofs.ReplyLemmas.{replies_grow}
use Rattle.nova_commit.specs.declared.commit.Commit.{Commit}
use Rattle.nova_journal.specs.Extent.{Extent}
use Rattle.nova_meta.specs.declared.captured.Captured.{Captured}
use Rattle.nova_meta.specs.Catalog.{Entered, shelf_at}
use Rattle.nova_channel.specs.Reading.{route_size}
use Rattle.nova_script.specs.Refusals.{refusal_text}
use Rattle.nova_script.specs.Replies as line
use Rattle.nova_script.specs.declared.refusal.Refusal.{Refusal}
use Rattle.nova_machine.specs.Workflow.{Workflow, channel_in, output_in, task_in}
use Rattle.nova_machine.specs.State.{State, ended, newest}
use Rattle.nova_machine.specs.Steps.{Step, Begin, Drop, Refused, Run, Show, after}
use Rattle.nova_machine.specs.Reachable.{IsMade}
use Rattle.nova_machine.specs.Replies.{reply_to}
use Rattle.nova_machine.proofs.Turns.{flow_after}
use Rattle.nova_runner.specs.Acts.{IsStepDamage, behind, catalog_behind, own_commit, read_size}
use Rattle.nova_runner.specs.Beginning.{MovesAlone, with_slot}
use Rattle.nova_runner.specs.Files.{IsSettled}
use Rattle.nova_runner.specs.Opening.{IsRead}
use Rattle.nova_runner.specs.Held.{Held}
use Rattle.nova_runner.specs.Stands.{Drawn, StandsBut}
use Rattle.nova_runner.specs.Steps.{AsksLoad, AsksRun, AsksShow, AsksTick, Does, Done, HeldBack, LosesNone, Stops, StoreStands, Why, Reply, silent}
use Rattle.nova_runner.proofs.Loading.{drawings, drawn_at}
use Rattle.nova_runner.proofs.Shows.{current_replied, lost_replied, settled_replied, stands_replied}
use Rattle.nova_engine.specs.Damage.{IsReadIn}
use Rattle.nova_engine.specs.Seen.{Seen}
use Rattle.nova_engine.specs.Taking.{AsksBegin, AsksDrop, AsksOne, AsksRefused, StopsAsked, StopsIn, Takes, TakesAsked}
use Rattle.nova_engine.proofs.Takings.{done_catalog, loses_both, stops_one, takes_one}

-- ---- a step that only replies

refused_done : (store : Held) (commits : List Commit) (s : State) (refusal : Refusal) (a b : List Event) → StoreStands store commits a s → HasReplied a b (refusal_text refusal)
    → Done store store commits s (Refused refusal) (refusal_text refusal) a b
refused_done store commits s refusal a b stands is = record {
  stands = stands_replied a b (refusal_text refusal) is store commits s stands;
  generation = refl;
  others = λ n free. current_replied a b (refusal_text refusal) is n;
  no_loss = lost_replied a b (refusal_text refusal) is s.flow store.catalog;
  settled = settled_replied a b (refusal_text refusal) is store.journal.generation store.catalog;
  replied = replies_grow a b (refusal_text refusal) is;
  undamaged = λ file at damage. damage;
  room = λ d e. cc;
}

refused_held : (store : Held) (commits : List Commit) (s : State) (refusal : Refusal) (a b : List Event) → StoreStands store commits a s → HasRepliedInPart a b (refusal_text refusal)
    → HeldBack store commits s (Refused refusal) a b
refused_held store commits s refusal a b stands part = record {
  kept = record { stands = (stands_replied a b part.given part.replied store commits s stands).by; no_loss = lost_replied a b part.given part.replied s.flow store.catalog };
  others = λ n free. current_replied a b part.given part.replied n;
  given = part.given;
  front = part.front;
  replied = replies_grow a b part.given part.replied;
  undamaged = λ file at damage. damage;
  room = λ d e. cc;
}

pub refused_takes : (h : Bool) (store : Held) (refusal : Refusal) (a b : Seen) → Gives h a.history b.history (refusal_text refusal) → b.read ≡ a.read
    → TakesAsked h (AsksOne (AsksRefused refusal)) store store a b
refused_takes h store refusal a b gives read honest commits s xs stands asks =
    subst (λ ys. Takes store store commits s ys a b) (sym (asks.1 ∙ ap (λ y. y ∷ []) asks.2))
    (takes_one store store commits s (Refused refusal) a b stands (refused_done store commits s refusal a.history b.history stands (gives honest)) (omega (arith, read)))

pub refused_stops : (h : Bool) (store : Held) (refusal : Refusal) (a b : Seen) → GivesInPart h a.history b.history (refusal_text refusal) → b.read ≡ a.read
    → StopsAsked Reply h (AsksOne (AsksRefused refusal)) store a b
refused_stops h store refusal a b gives read honest commits s xs stands asks =
    subst (λ ys. StopsIn Reply store commits s ys a b) (sym (asks.1 ∙ ap (λ y. y ∷ []) asks.2))
    (stops_one Reply store commits s (Refused refusal) a b stands (refused_held store commits s refusal a.history b.history stands (gives honest)) (omega (arith, read)))

-- ---- a step that is told behind its commit

done_replied : (store new : Held) (commits : List Commit) (s : State) (x : Step) (a m b : List Event) (bytes : List ℕ) → Done store new commits s x [] a m → HasReplied m b bytes → Done store new commits s x bytes a b
done_replied store new commits s x a m b bytes done is = record {
  stands = stands_replied m b bytes is new (behind commits (own_commit store.catalog s x)) (after s x) done.stands;
  generation = done.generation;
  others = λ n free. current_replied m b bytes is n ∙ done.others n free;
  no_loss = loses_both s.flow s.flow store.catalog new.catalog new.catalog (current a) (current m) (current b) refl done.no_loss (lost_replied m b bytes is s.flow new.catalog);
  settled = λ was. settled_replied m b bytes is new.journal.generation new.catalog (done.settled was);
  replied = replies_grow m b bytes is ∙ ap (λ t. t ++ bytes) (done.replied ∙ append-nil (replies a));
  undamaged = done.undamaged;
  room = done.room;
}

held_replied : (store new : Held) (commits : List Commit) (s : State) (x : Step) (a m b : List Event) → StoreStands store commits a s → Done store new commits s x [] a m → HasRepliedInPart m b (reply_to s x)
    → HeldBack store commits s x a b
held_replied store new commits s x a m b stands done part =
    let all = done_replied store new commits s x a m b part.given done part.replied in
    let own = own_commit store.catalog s x in
    let catalog = done_catalog store new commits s x [] a m stands done in
    record {
      kept = record {
        stands = subst (λ g. StandsBut g (behind commits own) (catalog_behind store.catalog own) (current b) (ended (after s x))) done.generation
            (subst (λ (c : Entered). StandsBut new.journal.generation (behind commits own) c (current b) (ended (after s x))) catalog all.stands.by);
        no_loss = subst (λ (f : Workflow). LosesNone f store.catalog (catalog_behind store.catalog own) (current a) (current b)) (sym (flow_after s x))
            (subst (λ (c : Entered). LosesNone s.flow store.catalog c (current a) (current b)) catalog all.no_loss);
      };
      others = all.others;
      given = part.given;
      front = part.front;
      replied = all.replied;
      undamaged = done.undamaged;
      room = done.room;
    }

-- what is asked for in these words, over a store that stands for a state, is told by this line
abbrev IsLineOf : (State → Step → Type 0) → Held → List Event → List ℕ → Type 0
IsLineOf asks store a given = (commits : List Commit) (s : State) (x : Step) → StoreStands store commits a s → asks s x → given ≡ reply_to s x

-- and reads at most so much
abbrev ReadsAtMost : (State → Step → Type 0) → Held → ℕ → ℕ → Type 0
ReadsAtMost asks store before now = (s : State) (x : Step) → asks s x → now ≤ before + read_size store.catalog x

module _ (h : Bool) (asks : State → Step → Type 0) (store new : Held) (given : List ℕ) (a m b : Seen) (does : Does h asks silent store new a.history m.history)
    (is : IsLineOf asks store a.history given) (most : ReadsAtMost asks store a.read m.read) (read : b.read ≡ m.read) where
  told_takes : Gives h m.history b.history given → TakesAsked h (AsksOne asks) store new a b
  told_takes gives honest commits s xs stands asked =
      let x = asked.0 in
      let done = does honest commits s x stands asked.2 in
      let told = done_replied store new commits s x a.history m.history b.history (reply_to s x) done (subst (HasReplied m.history b.history) (is commits s x stands asked.2) (gives honest)) in
      let few = most s x asked.2 in
      subst (λ ys. Takes store new commits s ys a b) (sym asked.1) (takes_one store new commits s x a b stands told (omega (arith, few, read)))

  told_stops : GivesInPart h m.history b.history given → StopsAsked Reply h (AsksOne asks) store a b
  told_stops gives honest commits s xs stands asked =
      let x = asked.0 in
      let done = does honest commits s x stands asked.2 in
      let held = held_replied store new commits s x a.history m.history b.history stands done (subst (HasRepliedInPart m.history b.history) (is commits s x stands asked.2) (gives honest)) in
      let few = most s x asked.2 in
      subst (λ ys. StopsIn Reply store commits s ys a b) (sym asked.1) (stops_one Reply store commits s x a b stands held (omega (arith, few, read)))

-- a step that stopped
pub stopped_one : (h : Bool) (asks : State → Step → Type 0) (store : Held) (why other : Why) (a b : Seen) → other ≡ why → Stops why h asks store a.history b.history → ReadsAtMost asks store a.read b.read
    → StopsAsked other h (AsksOne asks) store a b
stopped_one h asks store why other a b is stops most honest commits s xs stands asked =
    let few = most s asked.0 asked.2 in
    subst (λ w. StopsIn w store commits s xs a b) (sym is)
    (subst (λ ys. StopsIn why store commits s ys a b) (sym asked.1) (stops_one why store commits s asked.0 a b stands (stops honest commits s asked.0 stands asked.2) few))

-- the version of a channel is the machine's
version_is : (store : Held) (commits : List Commit) (a : List Event) (s : State) (c : ℕ) → StoreStands store commits a s → (shelf_at store.catalog c).version ≡ newest s c
version_is store commits a s c stands = ap (λ (x : Drawn). x.version) (drawn_at store.catalog (ended s) (drawings store.catalog (ended s) stands.by.agrees.same) c)

-- steps that read nothing
pub reads_nothing : (asks : State → Step → Type 0) (store : Held) (before now : ℕ) → now ≡ before → ReadsAtMost asks store before now
reads_nothing asks store before now same s x asked = omega (arith, same)

-- ---- a load

-- the line that the code makes of a load is the machine's
loaded_line : (store new : Held) (a : List Event) (c version : ℕ) (d : DeltaValue) (given : List ℕ) → new.flow ≡ store.flow
    → version ≡ (shelf_at store.catalog c).version + 1 → given ≡ line.loaded (channel_in new.flow c).name version → IsLineOf (AsksLoad c d) store a given
loaded_line store new a c version d given flow number is commits s x stands asked =
    is ∙ ap (λ (f : Workflow). line.loaded (channel_in f c).name version) (flow ∙ stands.flow)
    ∙ ap (λ n. line.loaded (channel_in s.flow c).name n) (number ∙ ap (λ n. n + 1) (version_is store commits a s c stands))
    ∙ ap (λ y. reply_to s y) (sym asked.1)

module _ (h : Bool) (store new : Held) (c version : ℕ) (d : DeltaValue) (given : List ℕ) (a m b : Seen)
    (does : Does h (AsksLoad c d) silent store new a.history m.history) (flow : new.flow ≡ store.flow) (number : version ≡ (shelf_at store.catalog c).version + 1)
    (is : given ≡ line.loaded (channel_in new.flow c).name version) (same : m.read ≡ a.read) (read : b.read ≡ m.read) where
  pub loaded_takes : Gives h m.history b.history given → TakesAsked h (AsksOne (AsksLoad c d)) store new a b
  loaded_takes = told_takes h (AsksLoad c d) store new given a m b does (loaded_line store new a.history c version d given flow number is) (reads_nothing (AsksLoad c d) store a.read m.read same) read

  pub loaded_stops : GivesInPart h m.history b.history given → StopsAsked Reply h (AsksOne (AsksLoad c d)) store a b
  loaded_stops = told_stops h (AsksLoad c d) store new given a m b does (loaded_line store new a.history c version d given flow number is) (reads_nothing (AsksLoad c d) store a.read m.read same) read

-- ---- a tick

ticked_line : (store : Held) (a : List Event) (moment : ℕ) (given : List ℕ) → given ≡ line.ticked moment → IsLineOf (AsksTick moment) store a given
ticked_line store a moment given is commits s x stands asked = is ∙ ap (λ y. reply_to s y) (sym asked.0)

module _ (h : Bool) (store new : Held) (moment : ℕ) (given : List ℕ) (a m b : Seen)
    (does : Does h (AsksTick moment) silent store new a.history m.history) (is : given ≡ line.ticked moment) (same : m.read ≡ a.read) (read : b.read ≡ m.read) where
  pub ticked_takes : Gives h m.history b.history given → TakesAsked h (AsksOne (AsksTick moment)) store new a b
  ticked_takes = told_takes h (AsksTick moment) store new given a m b does (ticked_line store a.history moment given is) (reads_nothing (AsksTick moment) store a.read m.read same) read

  pub ticked_stops : GivesInPart h m.history b.history given → StopsAsked Reply h (AsksOne (AsksTick moment)) store a b
  ticked_stops = told_stops h (AsksTick moment) store new given a m b does (ticked_line store a.history moment given is) (reads_nothing (AsksTick moment) store a.read m.read same) read

-- ---- a run

ran_line : (store new : Held) (a : List Event) (t version : ℕ) (given : List ℕ) → new.flow ≡ store.flow
    → version ≡ (shelf_at store.catalog (output_in store.flow t)).version + 1 → given ≡ line.ran (task_in new.flow t).name version → IsLineOf (AsksRun t) store a given
ran_line store new a t version given flow number is commits s x stands asked =
    is ∙ ap (λ (f : Workflow). line.ran (task_in f t).name version) (flow ∙ stands.flow)
    ∙ ap (λ n. line.ran (task_in s.flow t).name n) (number ∙ ap (λ (f : Workflow). (shelf_at store.catalog (output_in f t)).version + 1) stands.flow ∙ ap (λ n. n + 1) (version_is store commits a s (output_in s.flow t) stands))
    ∙ ap (λ y. reply_to s y) (sym asked.0)

pub run_reads : (store : Held) (t before now : ℕ) → now ≤ before + read_size store.catalog (Run t) → ReadsAtMost (AsksRun t) store before now
run_reads store t before now most s x asked = subst (λ y. now ≤ before + read_size store.catalog y) (sym asked.0) most

module _ (h : Bool) (store new : Held) (t version : ℕ) (given : List ℕ) (a m b : Seen)
    (does : Does h (AsksRun t) silent store new a.history m.history) (flow : new.flow ≡ store.flow) (number : version ≡ (shelf_at store.catalog (output_in store.flow t)).version + 1)
    (is : given ≡ line.ran (task_in new.flow t).name version) (most : m.read ≤ a.read + read_size store.catalog (Run t)) (read : b.read ≡ m.read) where
  pub ran_takes : Gives h m.history b.history given → TakesAsked h (AsksOne (AsksRun t)) store new a b
  ran_takes = told_takes h (AsksRun t) store new given a m b does (ran_line store new a.history t version given flow number is) (run_reads store t a.read m.read most) read

  pub ran_stops : GivesInPart h m.history b.history given → StopsAsked Reply h (AsksOne (AsksRun t)) store a b
  ran_stops = told_stops h (AsksRun t) store new given a m b does (ran_line store new a.history t version given flow number is) (run_reads store t a.read m.read most) read

-- ---- an execution that begins or is dropped

-- a step without a commit and without a call of the host
alone_done : (store new : Held) (commits : List Commit) (s : State) (x : Step) (a : List Event) → own_commit store.catalog s x ≡ None → ((file at : ℕ) → IsStepDamage s.flow store.catalog (current a) x file at → ⊥)
    → new.journal ≡ store.journal → new.catalog ≡ store.catalog → StoreStands new commits a (after s x) → Done store new commits s x [] a a
alone_done store new commits s x a none undamaged journal catalog stands =
    let generation : new.journal.generation ≡ store.journal.generation = ap (λ (e : Extent). e.generation) journal in
    record {
      stands = subst (λ own. StoreStands new (behind commits own) a (after s x)) (sym none) stands;
      generation = generation;
      others = λ n free. refl;
      no_loss = subst (λ (c : Entered). LosesNone s.flow store.catalog c (current a) (current a)) (sym catalog) (λ p named lost. (named, lost));
      settled = λ was. subst (λ (c : Entered). IsSettled new.journal.generation c a) (sym catalog) (subst (λ g. IsSettled g store.catalog a) (sym generation) was);
      replied = sym (append-nil (replies a));
      undamaged = undamaged;
      room = λ d e. cc;
    }

begin_does : (h : Bool) (store new : Held) (t : ℕ) (slot : Option Captured) (a : List Event) → MovesAlone (Begin t) store new → new ≡ with_slot store t slot → Does h (AsksBegin t) silent store new a a
begin_does h store new t slot a moves is honest commits s x stands asked =
    let made : IsMade s (Begin t) = subst (IsMade s) asked.0 asked.1 in
    subst (λ y. Done store new commits s y [] a a) (sym asked.0)
    (alone_done store new commits s (Begin t) a refl (λ file at damage. damage) (ap (λ (n : Held). n.journal) is) (ap (λ (n : Held). n.catalog) is) (moves commits a s stands made))

drop_does : (h : Bool) (store new : Held) (t : ℕ) (slot : Option Captured) (a : List Event) → MovesAlone (Drop t) store new → new ≡ with_slot store t slot → Does h (AsksDrop t) silent store new a a
drop_does h store new t slot a moves is honest commits s x stands asked =
    let made : IsMade s (Drop t) = subst (IsMade s) asked.0 asked.1 in
    subst (λ y. Done store new commits s y [] a a) (sym asked.0)
    (alone_done store new commits s (Drop t) a refl (λ file at damage. damage) (ap (λ (n : Held). n.journal) is) (ap (λ (n : Held). n.catalog) is) (moves commits a s stands made))

began_line : (store new : Held) (a : List Event) (t : ℕ) (given : List ℕ) → new.flow ≡ store.flow → given ≡ line.began (task_in new.flow t).name → IsLineOf (AsksBegin t) store a given
began_line store new a t given flow is commits s x stands asked =
    is ∙ ap (λ (f : Workflow). line.began (task_in f t).name) (flow ∙ stands.flow) ∙ ap (λ y. reply_to s y) (sym asked.0)

dropped_line : (store new : Held) (a : List Event) (t : ℕ) (given : List ℕ) → new.flow ≡ store.flow → given ≡ line.dropped (task_in new.flow t).name → IsLineOf (AsksDrop t) store a given
dropped_line store new a t given flow is commits s x stands asked =
    is ∙ ap (λ (f : Workflow). line.dropped (task_in f t).name) (flow ∙ stands.flow) ∙ ap (λ y. reply_to s y) (sym asked.0)

module _ (h : Bool) (store new : Held) (t : ℕ) (slot : Option Captured) (given : List ℕ) (a b : Seen) (slots : new ≡ with_slot store t slot) (read : b.read ≡ a.read) where
  flow_of_slot : new.flow ≡ store.flow
  flow_of_slot = ap (λ (n : Held). n.flow) slots

  pub began_takes : MovesAlone (Begin t) store new → given ≡ line.began (task_in new.flow t).name → Gives h a.history b.history given → TakesAsked h (AsksOne (AsksBegin t)) store new a b
  began_takes moves is = told_takes h (AsksBegin t) store new given a a b (begin_does h store new t slot a.history moves slots) (began_line store new a.history t given flow_of_slot is) (reads_nothing (AsksBegin t) store a.read a.read refl) read

  pub began_stops : MovesAlone (Begin t) store new → given ≡ line.began (task_in new.flow t).name → GivesInPart h a.history b.history given → StopsAsked Reply h (AsksOne (AsksBegin t)) store a b
  began_stops moves is = told_stops h (AsksBegin t) store new given a a b (begin_does h store new t slot a.history moves slots) (began_line store new a.history t given flow_of_slot is) (reads_nothing (AsksBegin t) store a.read a.read refl) read

  pub dropped_takes : MovesAlone (Drop t) store new → given ≡ line.dropped (task_in new.flow t).name → Gives h a.history b.history given → TakesAsked h (AsksOne (AsksDrop t)) store new a b
  dropped_takes moves is = told_takes h (AsksDrop t) store new given a a b (drop_does h store new t slot a.history moves slots) (dropped_line store new a.history t given flow_of_slot is) (reads_nothing (AsksDrop t) store a.read a.read refl) read

  pub dropped_stops : MovesAlone (Drop t) store new → given ≡ line.dropped (task_in new.flow t).name → GivesInPart h a.history b.history given → StopsAsked Reply h (AsksOne (AsksDrop t)) store a b
  dropped_stops moves is = told_stops h (AsksDrop t) store new given a a b (drop_does h store new t slot a.history moves slots) (dropped_line store new a.history t given flow_of_slot is) (reads_nothing (AsksDrop t) store a.read a.read refl) read

-- what the journal says of a store, a slot doesn't change
pub read_slot : (h : Bool) (store new : Held) (t : ℕ) (slot : Option Captured) (a : List Event) → new ≡ with_slot store t slot → IsReadIn h store a → IsReadIn h new a
read_slot h store new t slot a is read honest =
    let known = read honest in
    (known.0, subst (λ (n : Held). IsRead n known.0 (current a)) (sym is) (record { marked = known.1.marked; log = known.1.log; in_order = known.1.in_order }))

-- ---- a show

show_read : (store : Held) (s : State) (c : ℕ) (x : Step) (before now : ℕ) → x ≡ Show c → now ≤ before + route_size (shelf_at store.catalog c).intervals 0 (shelf_at store.catalog c).version → now ≤ before + read_size store.catalog x
show_read store s c x before now is most = subst (λ y. now ≤ before + read_size store.catalog y) (sym is) most

pub shown_takes : (h : Bool) (store : Held) (c : ℕ) (a b : Seen) → Does h (AsksShow c) reply_to store store a.history b.history
    → b.read ≤ a.read + route_size (shelf_at store.catalog c).intervals 0 (shelf_at store.catalog c).version → TakesAsked h (AsksOne (AsksShow c)) store store a b
shown_takes h store c a b does read honest commits s xs stands asks =
    subst (λ ys. Takes store store commits s ys a b) (sym asks.1)
    (takes_one store store commits s asks.0 a b stands (does honest commits s asks.0 stands asks.2) (show_read store s c asks.0 a.read b.read asks.2.0 read))

pub shown_stops : (h : Bool) (store : Held) (c : ℕ) (why other : Why) (a b : Seen) → other ≡ why → Stops why h (AsksShow c) store a.history b.history
    → b.read ≤ a.read + route_size (shelf_at store.catalog c).intervals 0 (shelf_at store.catalog c).version → StopsAsked other h (AsksOne (AsksShow c)) store a b
shown_stops h store c why other a b is stops read honest commits s xs stands asks =
    subst (λ w. StopsIn w store commits s xs a b) (sym is)
    (subst (λ ys. StopsIn why store commits s ys a b) (sym asks.1)
    (stops_one why store commits s asks.0 a b stands (stops honest commits s asks.0 stands asks.2) (show_read store s c asks.0 a.read b.read asks.2.0 read)))
