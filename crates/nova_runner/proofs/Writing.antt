-- Blocks are put, and then their commit is appended.
use Rattle.std.proofs.Common.{◌≡◌, ◌≢◌, ◌⊎◌, inl, inr, ℕ, ◌+◌, ◌*◌, ◌<◌, List, [], ◌∷◌, ◌++◌, length, map, Option, Some, None, refl, ap, sym, ◌∙◌, subst, arith}
use Rattle.std.specs.Prelude.{IsSome, true}
use Rattle.nova_outside.specs.Disk.{Files, LeavesSameBut, OneChanges, Only, SameBut, SameOutcomes}
use Rattle.nova_outside.specs.History.{Event, LeftNow, Meanwhile, Outcome, Since, Valid, current, replies}
use Rattle.nova_outside.proofs.Outcomes.{stays}
use Rattle.nova_journal.specs.Log.{BeforeOrAfter, IsLog, LogTo}
use Rattle.nova_journal.specs.Marks.{Holds, IsIn}
use Rattle.nova_path.specs.Lists.{IsOneOf}
use Rattle.nova_channel.specs.Reading.{block_file}
use Rattle.nova_commit.specs.Commits.{Fits, commit_bytes}
use Rattle.nova_meta.specs.Catalog.{Entered, allows, applied}
use Rattle.nova_commit.specs.declared.commit.Commit.{Commit}
use Rattle.nova_commit.specs.declared.commit.Commit.TheVariants as commit
use Rattle.nova_machine.specs.Workflow.{Workflow}
use Rattle.nova_machine.specs.State.{State, ended}
use Rattle.nova_runner.specs.Acts.{MayChange}
use Rattle.nova_runner.specs.Committing.{Added, ArePut, AreSpare, Leads, LeavesAllBut, Touched, number_of}
use Rattle.nova_runner.specs.Files.{Decides, IsNamed, IsSettled, IsStored, Piece, journal_file}
use Rattle.nova_runner.specs.Held.{Held}
use Rattle.nova_runner.specs.Opening.{AreInOrder, IsRead}
use Rattle.nova_runner.specs.Stands.{IsLost, StandsBut}
use Rattle.nova_runner.specs.Steps.{IsKeptBy, IsLeft, LosesNone, StoreStands}
use Rattle.nova_runner.specs.Workflow.{wiring_of}
use Rattle.nova_runner.specs.declared.ready.Fresh.{Fresh}
use Rattle.nova_runner.proofs.Deciding.{catalog_more, commits_lead, deciding_files_decide, lost_same, rebuilt}
use Rattle.nova_runner.proofs.Flights.{hold_on}
use Rattle.nova_runner.proofs.Stored.{stored_is_not_lost}

since_now : (h : List Event) (t : ℕ) (image : Files) (said : List ℕ) → LeftNow h image said → Since h t image said
since_now [] t image said left = left
since_now (e ∷ h) t image said left = inl left

one_mapped : (fresh : List Fresh) (f : Fresh) → IsOneOf fresh f → IsOneOf (map number_of fresh) f.block
one_mapped [] f is = absurd is
one_mapped (g ∷ gs) f (inl e) = inl (ap number_of e)
one_mapped (g ∷ gs) f (inr more) = inr (one_mapped gs f more)

bytes_more : (commits : List Commit) (own : Commit) → map commit_bytes commits ++ commit_bytes own ∷ [] ≡ map commit_bytes (commits ++ own ∷ [])
bytes_more [] own = refl
bytes_more (c ∷ cs) own = ap (λ (ps : List (List ℕ)). commit_bytes c ∷ ps) (bytes_more cs own)

module _ (x : ℕ) (cat : Entered) (own : Commit) (fresh : List Fresh) (spare : AreSpare cat own fresh) (a m : List Event) (puts : LeavesAllBut fresh a m) where
  -- a file that decides is none of the new blocks'
  apart : (n : ℕ) → Decides x cat n → (f : Fresh) → IsOneOf fresh f → n ≢ block_file f.block
  apart n (inl mark) f is e = omega (arith, e, mark.2)
  apart n (inr (inl journal)) f is e = omega (arith, e, journal)
  apart n (inr (inr named)) f is e = spare.spare named.0 f named.1 is (omega (arith, e, named.2))

  pub reads_same : (n : ℕ) → Decides x cat n → current m n ≡ current a n
  reads_same n decides = puts.reads n (apart n decides)

  pub leaves_same : (n : ℕ) → Decides x cat n → SameOutcomes (Outcome a n) (Outcome m n)
  leaves_same n decides = puts.leaves n (apart n decides)

  pub touched_by_puts : (n : ℕ) → (MayChange x (Some own) n → ⊥) → current m n ≡ current a n
  touched_by_puts n free = puts.reads n (λ f is e. free (inr (f.block, subst (λ (bs : List ℕ). IsOneOf bs f.block) spare.brings (one_mapped fresh f is), e)))

-- what was put and appended, whatever was answered
pub touched : (store : Held) (own : Commit) (fresh : List Fresh) → AreSpare store.catalog own fresh → (a m b : List Event) → LeavesAllBut fresh a m → replies m ≡ replies a →
    SameBut (4 * store.journal.generation) (current m) (current b) → replies b ≡ replies m → Touched store own a b
touched store own fresh spare a m b puts quiet same silent = record {
  others = λ n free. same n (λ e. free (inl e)) ∙ touched_by_puts store.journal.generation store.catalog own fresh spare a m puts n free;
  silent = silent ∙ quiet;
}

pub touched_at_once : (store : Held) (own : Commit) (fresh : List Fresh) → AreSpare store.catalog own fresh → (a m : List Event) → LeavesAllBut fresh a m → replies m ≡ replies a → Touched store own a m
touched_at_once store own fresh spare a m puts quiet = record {
  others = λ n free. touched_by_puts store.journal.generation store.catalog own fresh spare a m puts n free;
  silent = quiet;
}

module _ (store : Held) (commits : List Commit) (own : Commit) (fresh : List Fresh) (s t : State) (a m : List Event)
    (stands : StoreStands store commits a s) (leads : Leads store.catalog s t own fresh) (spare : AreSpare store.catalog own fresh) (puts : LeavesAllBut fresh a m) where
  abbrev pub x : ℕ
  x = store.journal.generation

  here : Decides x store.catalog (journal_file x)
  here = inr (inl refl)

  same_journal : current m (journal_file x) ≡ current a (journal_file x)
  same_journal = reads_same x store.catalog own fresh spare a m puts (journal_file x) here

  named_here : (p : Piece) → IsNamed store.catalog p → Decides x store.catalog (block_file p.block)
  named_here p named = inr (inr (p, named, refl))

  still_but : StandsBut x commits store.catalog (current m) (ended s)
  still_but = deciding_files_decide x commits store.catalog (current a) (current m) (ended s) (reads_same x store.catalog own fresh spare a m puts) stands.by

  -- nothing is lost by putting blocks
  pub still : IsKeptBy x commits store.catalog store.catalog (current a) (current m) s
  still = record {
    stands = still_but;
    no_loss = λ p named lost. (named, lost_same s.flow (current m) (current a) p (sym (reads_same x store.catalog own fresh spare a m puts (block_file p.block) (named_here p named))) lost);
  }

  pub still_long : LogTo store.journal.length (map commit_bytes commits) (current m (journal_file x))
  still_long = subst (LogTo store.journal.length (map commit_bytes commits)) (sym same_journal) stands.long

  pub still_settled : Only (current m (journal_file x)) (Outcome m (journal_file x))
  still_settled c h = stands.settled c ((leaves_same x store.catalog own fresh spare a m puts (journal_file x) here).0 c h) ∙ sym same_journal

  pub still_holds : Holds x store.journal.length (map commit_bytes commits) (current m)
  still_holds = record { log = still_long; newest = still_but.marked.1 }

  module _ (b : List Event) (same : SameBut (4 * x) (current m) (current b)) where
    both : (n : ℕ) → Decides x store.catalog n → (n ≡ journal_file x → ⊥) → current b n ≡ current a n
    both n decides other = same n other ∙ reads_same x store.catalog own fresh spare a m puts n decides

    named_then : ArePut fresh m → (p : Piece) → IsNamed (applied store.catalog own) p → IsNamed store.catalog p ⊎ IsStored (current b) (ended t) p
    named_then put p is = elim (leads.named p is) as (λ _. IsNamed store.catalog p ⊎ IsStored (current b) (ended t) p) [
      | inl old ↦ inl old
      | inr new ↦
          let f = new.0 in
          let file : block_file p.block ≡ block_file f.block = ap block_file (sym new.2) in
          let reads = same (block_file p.block) (λ e. omega (arith, e)) ∙ ap (current m) file ∙ (put f new.1).0 in
          inr (record { file = reads ∙ ap (λ (bs : List ℕ). Some bs) new.3; long = new.4 ∙ ap length new.3 })
    ]

    led : ArePut fresh m → IsLog (map commit_bytes (commits ++ own ∷ [])) (current b (journal_file x)) → StandsBut x (commits ++ own ∷ []) (applied store.catalog own) (current b) (ended t)
    led put log = commits_lead x commits own store.catalog (current a) (current b) s t fresh stands.by leads both (named_then put) log

    apart_journal : (n : ℕ) → block_file n ≡ journal_file x → ⊥
    apart_journal n e = omega (arith, e)

    lost_before : (p : Piece) → IsNamed store.catalog p → IsLost t.flow (current b) p → IsLost t.flow (current a) p
    lost_before p named lost = lost_same t.flow (current b) (current a) p (sym (both (block_file p.block) (named_here p named) (apart_journal p.block))) lost

    -- what is named anew is stored, so it isn't lost
    pub led_none : ArePut fresh m → IsLog (map commit_bytes (commits ++ own ∷ [])) (current b (journal_file x)) → LosesNone t.flow store.catalog (applied store.catalog own) (current a) (current b)
    led_none put log p named lost = elim (named_then put p named) as (λ _. IsNamed store.catalog p × IsLost t.flow (current a) p) [
      | inl old ↦ (old, lost_before p old lost)
      | inr new ↦ absurd (stored_is_not_lost x (commits ++ own ∷ []) (applied store.catalog own) (current b) t p leads.reached (led put log) named new lost)
    ]

    pub led_kept : ArePut fresh m → IsLog (map commit_bytes (commits ++ own ∷ [])) (current b (journal_file x)) → IsKeptBy x (commits ++ own ∷ []) store.catalog (applied store.catalog own) (current a) (current b) t
    led_kept put log = record { stands = led put log; no_loss = led_none put log }

    -- an append that failed
    pub left : ArePut fresh m → Valid b → Meanwhile (OneChanges (4 * x) (BeforeOrAfter (map commit_bytes commits) (commit_bytes own)) (Outcome m) (replies m)) m b → IsLeft x commits store.catalog (Some own) (current a) (current b) s t
    left put valid moments =
        let now = moments.each (current b) (replies b) (since_now b (length m) (current b) (replies b) ((λ n. stays b n valid), refl)) in
        elim now.here as (λ _. IsLeft x commits store.catalog (Some own) (current a) (current b) s t) [
          | inl log ↦ inl (record {
            stands = rebuilt x commits store.catalog (current a) (current b) (ended s) both log stands.by;
            no_loss = λ p named lost. (named, subst (λ (f : Workflow). IsLost f (current a) p) leads.flow (lost_before p named (subst (λ (f : Workflow). IsLost f (current b) p) (sym leads.flow) lost)));
          })
          | inr log ↦ inr (own, refl, led_kept put (subst (λ (ps : List (List ℕ)). IsLog ps (current b (journal_file x))) (bytes_more commits own) log))
        ]

    module _ (new : Held) (leaves : LeavesSameBut (4 * x) (Outcome m) (Outcome b)) (put : ArePut fresh m)
        (flow : new.flow ≡ store.flow) (flight : new.flight ≡ store.flight) (cat : new.catalog ≡ applied store.catalog own) (number : new.journal.generation ≡ x)
        (holds : Holds x new.journal.length (map commit_bytes commits ++ commit_bytes own ∷ []) (current b))
        (only : Only (current b (4 * x)) (Outcome b (4 * x))) where
      settles : IsSettled x store.catalog a → (n : ℕ) → Decides x (applied store.catalog own) n → Only (current b n) (Outcome b n)
      settles was n decides c h = elim (same_file n (4 * x)) as (λ _. c ≡ current b n) [
        | inl e ↦ subst (λ k. Outcome b k c → c ≡ current b k) (sym e) (λ o. only c o) h
        | inr ne ↦ other n ne decides c ((leaves n ne).0 c h)
      ]
        where
          same_file : (k l : ℕ) → (k ≡ l) ⊎ (k ≢ l)
          same_file k l = grind arith

          kept : (n : ℕ) → n ≢ 4 * x → Decides x store.catalog n → (c : Option (List ℕ)) → Outcome m n c → c ≡ current b n
          kept n ne d c o = was n d c ((leaves_same x store.catalog own fresh spare a m puts n d).0 c o) ∙ sym (both n d ne)

          other : (n : ℕ) → n ≢ 4 * x → Decides x (applied store.catalog own) n → (c : Option (List ℕ)) → Outcome m n c → c ≡ current b n
          other n ne (inl mark) c o = kept n ne (inl mark) c o
          other n ne (inr (inl journal)) c o = absurd (ne journal)
          other n ne (inr (inr piece)) c o = elim (leads.named piece.0 piece.1) as (λ _. c ≡ current b n) [
            | inl old ↦ kept n ne (inr (inr (piece.0, old, piece.2))) c o
            | inr fresh_one ↦
                let f = fresh_one.0 in
                let file : n ≡ block_file f.block = piece.2 ∙ ap block_file (sym fresh_one.2) in
                let is = put f fresh_one.1 in
                is.1 c (subst (λ k. Outcome m k c) file o) ∙ sym (same n ne ∙ ap (current m) file ∙ is.0)
          ]

      pub added : Added store new commits own t a b
      added =
          let log = subst (λ (ps : List (List ℕ)). LogTo new.journal.length ps (current b (journal_file x))) (bytes_more commits own) holds.log in
          record {
            stands = record {
              flow = flow ∙ stands.flow ∙ sym leads.flow;
              reached = leads.reached;
              flights = hold_on store.flight new.flight s t flight stands.flights leads.flights;
              by = subst (λ y. StandsBut y (commits ++ own ∷ []) new.catalog (current b) (ended t)) (sym number) (subst (λ k. StandsBut x (commits ++ own ∷ []) k (current b) (ended t)) (sym cat) (led put log.log));
              long = subst (λ y. LogTo new.journal.length (map commit_bytes (commits ++ own ∷ [])) (current b (journal_file y))) (sym number) log;
              settled = subst (λ y. Only (current b (journal_file y)) (Outcome b (journal_file y))) (sym number) only;
            };
            no_loss = subst (λ k. LosesNone t.flow store.catalog k (current a) (current b)) (sym cat) (led_none put log.log);
            settled = λ was. subst (λ y. IsSettled y new.catalog b) (sym number) (subst (λ k. IsSettled x k b) (sym cat) (settles was));
          }

-- the journal is in the host still
pub in_host_still : (x end : ℕ) (cat : Entered) (own : Commit) (fresh : List Fresh) (a m : List Event) → LeavesAllBut fresh a m → IsIn x end (current a) → IsIn x end (current m)
in_host_still x end cat own fresh a m puts is = (
  is.0,
  record {
    log = subst (LogTo end is.0) (sym (puts.reads (4 * x) (λ f one e. omega (arith, e)))) is.1.log;
    newest = λ y lt. puts.reads (4 * y + 1) (λ f one e. omega (arith, e)) ∙ is.1.newest y lt;
  },
)

-- one commit more, that is allowed behind those in order
in_order_more : (commits : List Commit) (flow : Workflow) (cat : Entered) (own : Commit) → AreInOrder commits flow cat → Fits own → allows cat own ≡ true → AreInOrder (commits ++ own ∷ []) flow (applied cat own)
in_order_more [] flow cat own order fits allowed = absurd order
in_order_more (commit.Flow text ∷ cs) flow cat own order fits allowed = (order.0, catalog_more (wiring_of flow) (commit.Flow text ∷ cs) own cat order.1 fits allowed)
in_order_more (commit.Load c b z ∷ cs) flow cat own order fits allowed = absurd order
in_order_more (commit.Tick m ∷ cs) flow cat own order fits allowed = absurd order
in_order_more (commit.Run t vs m seen b z ps ∷ cs) flow cat own order fits allowed = absurd order
in_order_more (commit.Joined c i j b z ∷ cs) flow cat own order fits allowed = absurd order
in_order_more (commit.Collected kept ∷ cs) flow cat own order fits allowed = absurd order

module _ (store : Held) (commits : List Commit) (own : Commit) (fresh : List Fresh) (a m : List Event) (puts : LeavesAllBut fresh a m) (read : IsRead store commits (current a)) where
  abbrev pub number : ℕ
  number = store.journal.generation

  -- the new blocks' files are no journal and no mark
  pub read_holds : Holds number store.journal.length (map commit_bytes commits) (current m)
  read_holds = record {
    log = subst (LogTo store.journal.length (map commit_bytes commits)) (sym (puts.reads (4 * number) (λ f one e. omega (arith, e)))) read.log;
    newest = λ y lt. puts.reads (4 * y + 1) (λ f one e. omega (arith, e)) ∙ read.marked.1 y lt;
  }

  pub reads_on : (b : List Event) (new : Held) → SameBut (4 * number) (current m) (current b) → new.flow ≡ store.flow → new.catalog ≡ applied store.catalog own → new.journal.generation ≡ number →
      Holds number new.journal.length (map commit_bytes commits ++ commit_bytes own ∷ []) (current b) → Fits own → allows store.catalog own ≡ true → IsRead new (commits ++ own ∷ []) (current b)
  reads_on b new same flow cat generation holds fits allowed =
      let mark = same (4 * number + 1) (λ e. omega (arith, e)) ∙ puts.reads (4 * number + 1) (λ f one e. omega (arith, e)) in
      record {
        marked = subst (λ x. IsSome (current b (4 * x + 1)) × ((y : ℕ) → x < y → current b (4 * y + 1) ≡ None)) (sym generation) (subst IsSome (sym mark) read.marked.0, holds.newest);
        log = subst (λ x. LogTo new.journal.length (map commit_bytes (commits ++ own ∷ [])) (current b (4 * x))) (sym generation) (subst (λ (ps : List (List ℕ)). LogTo new.journal.length ps (current b (4 * number))) (bytes_more commits own) holds.log);
        in_order = subst (λ (w : Workflow). AreInOrder (commits ++ own ∷ []) w new.catalog) (sym flow) (subst (λ (k : Entered). AreInOrder (commits ++ own ∷ []) store.flow k) (sym cat) (in_order_more commits store.flow store.catalog own read.in_order fits allowed));
      }
