-- Steps behind steps.
use Rattle.std.proofs.Common.{◌≡◌, ◌⊎◌, inl, inr, ℕ, ◌+◌, ◌<◌, ◌≤◌, List, [], ◌∷◌, ◌++◌, Option, Some, None, refl, sym, ap, ◌∙◌, append_assoc, subst, arith}
use Rattle.std.proofs.lemmas.List.{append-nil}
use Rattle.nova_outside.specs.Disk.{Files}
use Rattle.nova_outside.specs.History.{Event, current, replies}
use Rattle.nova_path.specs.Lists.{IsOneOf}
use Rattle.nova_channel.specs.Reading.{block_file}
use Rattle.nova_commit.specs.declared.commit.Commit.{Commit}
use Rattle.nova_meta.specs.Catalog.{Entered}
use Rattle.nova_meta.specs.Named.{IsCatalogOf}
use Rattle.nova_machine.specs.Workflow.{Workflow}
use Rattle.nova_machine.specs.State.{State}
use Rattle.nova_machine.specs.Steps.{Step, after, after_all}
use Rattle.nova_machine.specs.Replies.{reply_to, text}
use Rattle.nova_machine.proofs.Turns.{after_all-append, flow_after, flow_stays, text-append}
use Rattle.nova_runner.specs.Acts.{MayChange, behind, catalog_behind, own_commit, read_size}
use Rattle.nova_runner.specs.Held.{Held}
use Rattle.nova_runner.specs.Steps.{Done, HasKeptRoom, IsShortLog, LosesNone, Stopped, StoreStands, Why, NoMemory}
use Rattle.nova_runner.specs.Workflow.{wiring_of}
use Rattle.nova_engine.specs.Seen.{Seen}
use Rattle.nova_engine.specs.Taking.{StepStops, StopsIn, Takes}
use Rattle.nova_engine.specs.Turns.{IsTheirs, NoneDamaged, StaysShort, catalog_after, own_commits, read_sizes}
use Rattle.nova_engine.proofs.Undamaged.{ReadsBelow, below_of, none_append, none_moved, none_one, not_theirs}
use Rattle.nova_engine.proofs.Turns.{behind_is, catalog_after-append, next_catalog, own_commits-append, read_sizes-append}

pub one_of_left : (xs ys : List Commit) (c : Commit) → IsOneOf xs c → IsOneOf (xs ++ ys) c
one_of_left [] ys c is = absurd is
one_of_left (x ∷ xs) ys c (inl e) = inl e
one_of_left (x ∷ xs) ys c (inr is) = inr (one_of_left xs ys c is)

pub one_of_right : (xs ys : List Commit) (c : Commit) → IsOneOf ys c → IsOneOf (xs ++ ys) c
one_of_right [] ys c is = is
one_of_right (x ∷ xs) ys c is = inr (one_of_right xs ys c is)

-- no step
pub takes_nothing : (store : Held) (commits : List Commit) (s : State) (a : Seen) → StoreStands store commits a.history s → Takes store store commits s [] a a
takes_nothing store commits s a stands = record {
  from = stands;
  stands = subst (λ cs. StoreStands store cs a.history s) (sym (append-nil commits)) stands;
  catalog = refl;
  generation = refl;
  others = λ n free. refl;
  no_loss = λ p named lost. (named, lost);
  replied = sym (append-nil (replies a.history));
  reads = omega arith;
  settled = λ was. was;
  undamaged = tt;
  room = inl refl;
}

-- the catalog behind a step that was done
pub done_catalog : (store new : Held) (commits : List Commit) (s : State) (x : Step) (given : List ℕ) (a b : List Event) → StoreStands store commits a s → Done store new commits s x given a b
    → new.catalog ≡ catalog_behind store.catalog (own_commit store.catalog s x)
done_catalog store new commits s x given a b stands done =
    let own = own_commit store.catalog s x in
    let now : IsCatalogOf (wiring_of s.flow) (behind commits own) new.catalog = subst (λ (w : Workflow). IsCatalogOf (wiring_of w) (behind commits own) new.catalog) (flow_after s x) done.stands.by.agrees.catalog in
    next_catalog (wiring_of s.flow) commits store.catalog new.catalog own stands.by.agrees.catalog now

theirs : (x : ℕ) (own : Option Commit) (n : ℕ) → MayChange x own n → IsTheirs x (behind [] own ++ []) n
theirs x None n may = absurd may
theirs x (Some c) n may = (c, inl refl, may)

-- a step's own commit
pub short_one : (commits : List Commit) (own : Option Commit) → HasKeptRoom commits own → StaysShort commits (behind [] own ++ [])
short_one commits None room = inl refl
short_one commits (Some c) room = inr (room c refl)

-- commits behind commits
pub short_both : (commits xs ys : List Commit) → StaysShort commits xs → StaysShort (commits ++ xs) ys → StaysShort commits (xs ++ ys)
short_both commits xs ys one (inl none) = subst (λ zs. StaysShort commits zs) (sym (append-nil xs) ∙ ap (λ zs. xs ++ zs) (sym none)) one
short_both commits xs ys one (inr short) = inr (subst (λ zs. IsShortLog zs) (append_assoc commits xs ys) short)

-- one step
pub takes_one : (store new : Held) (commits : List Commit) (s : State) (x : Step) (a b : Seen) → StoreStands store commits a.history s
    → Done store new commits s x (reply_to s x) a.history b.history → b.read ≤ a.read + read_size store.catalog x → Takes store new commits s (x ∷ []) a b
takes_one store new commits s x a b stands done reads =
    let own = own_commit store.catalog s x in
    record {
      from = stands;
      stands = subst (λ cs. StoreStands new cs b.history (after s x)) (behind_is commits own) done.stands;
      catalog = done_catalog store new commits s x (reply_to s x) a.history b.history stands done;
      generation = done.generation;
      others = λ n free. done.others n (λ may. free (theirs store.journal.generation own n may));
      no_loss = done.no_loss;
      replied = done.replied ∙ ap (λ t. replies a.history ++ t) (sym (append-nil (reply_to s x)));
      reads = omega (arith, reads);
      settled = done.settled;
      undamaged = none_one store.journal.generation store.catalog s x (current a.history) (current b.history) (below_of store commits a.history s stands) done.others done.undamaged;
      room = short_one commits own done.room;
    }

-- where the second of two turns begins
pub commits_both : (commits : List Commit) (cat mid : Entered) (s : State) (xs ys : List Step) → mid ≡ catalog_after cat s xs
    → (commits ++ own_commits cat s xs) ++ own_commits mid (after_all s xs) ys ≡ commits ++ own_commits cat s (xs ++ ys)
commits_both commits cat mid s xs ys is =
    append_assoc commits (own_commits cat s xs) (own_commits mid (after_all s xs) ys)
    ∙ ap (λ m. commits ++ (own_commits cat s xs ++ own_commits m (after_all s xs) ys)) is
    ∙ ap (λ cs. commits ++ cs) (sym (own_commits-append cat s xs ys))

pub loses_both : (flow other : Workflow) (was mid cat : Entered) (old then new : Files) → other ≡ flow → LosesNone flow was mid old then → LosesNone other mid cat then new → LosesNone flow was cat old new
loses_both flow other was mid cat old then new same one two p named lost =
    let second = subst (λ (w : Workflow). LosesNone w mid cat then new) same two p named lost in
    one p second.0 second.1

-- steps behind steps
module _ (store mid : Held) (commits : List Commit) (s : State) (xs : List Step) (a m : Seen) (one : Takes store mid commits s xs a m) where
  theirs_both : (ys : List Step) (n : ℕ) → IsTheirs store.journal.generation (own_commits store.catalog s xs) n → IsTheirs store.journal.generation (own_commits store.catalog s (xs ++ ys)) n
  theirs_both ys n is =
      (is.0, subst (λ cs. IsOneOf cs is.0) (sym (own_commits-append store.catalog s xs ys)) (one_of_left (own_commits store.catalog s xs) _ is.0 is.1), is.2)

  theirs_later : (ys : List Step) (n : ℕ) → IsTheirs mid.journal.generation (own_commits mid.catalog (after_all s xs) ys) n → IsTheirs store.journal.generation (own_commits store.catalog s (xs ++ ys)) n
  theirs_later ys n is =
      let here = subst (λ c. IsOneOf (own_commits c (after_all s xs) ys) is.0) one.catalog is.1 in
      (is.0, subst (λ cs. IsOneOf cs is.0) (sym (own_commits-append store.catalog s xs ys)) (one_of_right (own_commits store.catalog s xs) _ is.0 here), subst (λ g. MayChange g (Some is.0) n) one.generation is.2)

  -- what they read reads the same behind further steps
  reads_on : (new : Held) (ys : List Step) (b : Seen) → Takes mid new (commits ++ own_commits store.catalog s xs) (after_all s xs) ys m b → ReadsBelow (catalog_after store.catalog s xs).next (current m.history) (current b.history)
  reads_on new ys b two n lt =
      two.others (block_file n) (not_theirs mid.journal.generation mid.catalog (after_all s xs) ys n (subst (λ (c : Entered). n < c.next) (sym one.catalog) lt))

  none_both : (new : Held) (ys : List Step) (b : Seen) → Takes mid new (commits ++ own_commits store.catalog s xs) (after_all s xs) ys m b → NoneDamaged (current b.history) store.catalog s (xs ++ ys)
  none_both new ys b two =
      none_append (current b.history) store.catalog s xs ys
      (none_moved (current m.history) (current b.history) store.catalog s xs (below_of store commits a.history s one.from) (reads_on new ys b two) one.undamaged)
      (subst (λ (c : Entered). NoneDamaged (current b.history) c (after_all s xs) ys) one.catalog two.undamaged)

  pub takes_both : (new : Held) (ys : List Step) (b : Seen) → Takes mid new (commits ++ own_commits store.catalog s xs) (after_all s xs) ys m b → Takes store new commits s (xs ++ ys) a b
  takes_both new ys b two =
      let sizes = read_sizes-append store.catalog s xs ys in
      let rest : read_sizes mid.catalog (after_all s xs) ys ≡ read_sizes (catalog_after store.catalog s xs) (after_all s xs) ys = ap (λ c. read_sizes c (after_all s xs) ys) one.catalog in
      record {
        from = one.from;
        undamaged = none_both new ys b two;
        stands = subst (λ t. StoreStands new (commits ++ own_commits store.catalog s (xs ++ ys)) b.history t) (sym (after_all-append s xs ys))
            (subst (λ cs. StoreStands new cs b.history (after_all (after_all s xs) ys)) (commits_both commits store.catalog mid.catalog s xs ys one.catalog) two.stands);
        catalog = two.catalog ∙ ap (λ c. catalog_after c (after_all s xs) ys) one.catalog ∙ sym (catalog_after-append store.catalog s xs ys);
        generation = two.generation ∙ one.generation;
        others = λ n free. two.others n (λ is. free (theirs_later ys n is)) ∙ one.others n (λ is. free (theirs_both ys n is));
        no_loss = loses_both s.flow (after_all s xs).flow store.catalog mid.catalog new.catalog (current a.history) (current m.history) (current b.history) (flow_stays s xs) one.no_loss two.no_loss;
        replied = two.replied ∙ ap (λ t. t ++ text (after_all s xs) ys) one.replied ∙ append_assoc (replies a.history) (text s xs) (text (after_all s xs) ys) ∙ ap (λ t. replies a.history ++ t) (sym (text-append s xs ys));
        reads = omega (arith, one.reads, two.reads, sizes, rest);
        settled = λ was. two.settled (one.settled was);
        room = subst (λ own. StaysShort commits own) (sym (own_commits-append store.catalog s xs ys))
            (short_both commits (own_commits store.catalog s xs) (own_commits (catalog_after store.catalog s xs) (after_all s xs) ys) one.room
            (subst (λ c. StaysShort (commits ++ own_commits store.catalog s xs) (own_commits c (after_all s xs) ys)) one.catalog two.room));
      }

  -- a stop within further steps
  pub stops_behind : (why : Why) (ys : List Step) (b : Seen) → StopsIn why mid (commits ++ own_commits store.catalog s xs) (after_all s xs) ys m b → StopsIn why store commits s (xs ++ ys) a b
  stops_behind why ys b two =
      let here = commits_both commits store.catalog mid.catalog s xs two.done one.catalog in
      let state = after_all-append s xs two.done in
      record {
        done = xs ++ two.done;
        later = two.later;
        parts = ap (λ zs. xs ++ zs) two.parts ∙ sym (append_assoc xs two.done two.later);
        at = two.at;
        mid = two.mid;
        takes = takes_both two.at two.done two.mid two.takes;
        ends = subst (λ t. StepStops why two.at (commits ++ own_commits store.catalog s (xs ++ two.done)) t two.later two.mid b ⊎ ((why ≡ NoMemory) × (b ≡ two.mid))) (sym state)
            (subst (λ cs. StepStops why two.at cs (after_all (after_all s xs) two.done) two.later two.mid b ⊎ ((why ≡ NoMemory) × (b ≡ two.mid))) here two.ends);
      }

-- with further steps behind them
later_step : (why : Why) (at : Held) (commits : List Commit) (s : State) (xs ys : List Step) (a b : Seen) → StepStops why at commits s xs a b → StepStops why at commits s (xs ++ ys) a b
later_step why at commits s xs ys a b one = record { step = one.step; more = one.more ++ ys; is = ap (λ zs. zs ++ ys) one.is; stopped = one.stopped; reads = one.reads }

pub stops_before : (why : Why) (store : Held) (commits : List Commit) (s : State) (xs ys : List Step) (a b : Seen) → StopsIn why store commits s xs a b → StopsIn why store commits s (xs ++ ys) a b
stops_before why store commits s xs ys a b one = record {
  done = one.done;
  later = one.later ++ ys;
  parts = ap (λ zs. zs ++ ys) one.parts ∙ append_assoc one.done one.later ys;
  at = one.at;
  mid = one.mid;
  takes = one.takes;
  ends = elim one.ends [ inl step ↦ inl (later_step why one.at (commits ++ own_commits store.catalog s one.done) (after_all s one.done) one.later ys one.mid b step) | inr memory ↦ inr memory ];
}

-- before the first of them
pub stops_at_once : (store : Held) (commits : List Commit) (s : State) (xs : List Step) (a : Seen) → StoreStands store commits a.history s → StopsIn NoMemory store commits s xs a a
stops_at_once store commits s xs a stands = record {
  done = [];
  later = xs;
  parts = refl;
  at = store;
  mid = a;
  takes = takes_nothing store commits s a stands;
  ends = inr (refl, refl);
}

-- one step that stopped
pub stops_one : (why : Why) (store : Held) (commits : List Commit) (s : State) (x : Step) (a b : Seen) → StoreStands store commits a.history s
    → Stopped why store commits s x a.history b.history → b.read ≤ a.read + read_size store.catalog x → StopsIn why store commits s (x ∷ []) a b
stops_one why store commits s x a b stands stopped reads = record {
  done = [];
  later = x ∷ [];
  parts = refl;
  at = store;
  mid = a;
  takes = takes_nothing store commits s a stands;
  ends = inl (record {
    step = x;
    more = [];
    is = refl;
    stopped = subst (λ cs. Stopped why store cs s x a.history b.history) (sym (append-nil commits)) stopped;
    reads = reads;
  });
}
