-- A store that is opened again.
use Rattle.std.proofs.Common.{◌≡◌, ◌≢◌, inl, inr, ℕ, ◌+◌, ◌*◌, List, [], ◌∷◌, length, map, Some, refl, ap, sym, ◌∙◌, subst}
use Rattle.std.specs.Prelude.{IsSome}
use Rattle.nova_outside.specs.Disk.{Files, Only}
use Rattle.nova_outside.specs.History.{Event, Outcome, current}
use Rattle.nova_journal.specs.Log.{IsLog, IsReadTo, LogTo}
use Rattle.nova_journal.specs.Marks.{Holds, IsMark}
use Rattle.nova_commit.specs.Commits.{commit_bytes}
use Rattle.nova_meta.specs.Catalog.{Entered, catalog_of}
use Rattle.nova_meta.specs.Named.{IsCatalogOf}
use Rattle.nova_commit.specs.declared.commit.Commit.{Commit}
use Rattle.nova_commit.specs.declared.commit.Commit.TheVariants as commit
use Rattle.nova_commit.proofs.Reading.{spelled_once}
use Rattle.nova_meta.proofs.Once.{lists_once}
use Rattle.nova_machine.specs.Workflow.{Workflow}
use Rattle.nova_machine.specs.State.{State, Done, ended, landed}
use Rattle.nova_machine.proofs.Ended.{ended_reachable}
use Rattle.nova_machine.specs.Reachable.{IsReachable}
use Rattle.nova_runner.specs.Files.{journal_file}
use Rattle.nova_runner.specs.Flights.{idle_slots}
use Rattle.nova_runner.specs.Held.{Held}
use Rattle.nova_runner.specs.Opening.{AreInOrder, AreTaken, HasCommits, IsBadStore, IsOpenedBy, NotReadTold, Opened, UnopenedTold, unread_in}
use Rattle.nova_runner.specs.Readable.{IsKept}
use Rattle.nova_runner.specs.Stands.{FilesStandBut, StandsBut}
use Rattle.nova_runner.specs.Steps.{StoreStands}
use Rattle.nova_runner.specs.Texts.{HasFlow}
use Rattle.nova_runner.specs.Workflow.{wiring_of}
use Rattle.nova_runner.specs.declared.opening.NotRead.{NotRead}
use Rattle.nova_runner.specs.declared.opening.NotRead.TheVariants as not_read
use Rattle.nova_runner.proofs.Deciding.{deciding_files_decide}
use Rattle.nova_runner.proofs.Damage.{not_bad}
use Rattle.nova_runner.proofs.Flights.{idle_count, idle_hold}
use Rattle.nova_runner.proofs.Flows.{text_of}
use Rattle.nova_runner.proofs.Texts.{one_flow}
use Rattle.nova_runner.proofs.Marks.{one_journal, one_mark, some_is}

heads : (a b : List ℕ) (xs ys : List (List ℕ)) → a ∷ xs ≡ b ∷ ys → a ≡ b
heads a b xs ys e = cc

-- commits in order that spell the same are of one workflow
same_flow : (commits : List Commit) (flow f : Workflow) (cat : Entered) (later : List Commit) → AreInOrder commits flow cat → HasFlow f.text f → map commit_bytes (commit.Flow f.text ∷ later) ≡ map commit_bytes commits → (flow ≡ f) × IsCatalogOf (wiring_of flow) commits cat
same_flow [] flow f cat later order read same = absurd order
same_flow (commit.Load c b z ∷ cs) flow f cat later order read same = absurd order
same_flow (commit.Tick m ∷ cs) flow f cat later order read same = absurd order
same_flow (commit.Run t vs m seen b z ps ∷ cs) flow f cat later order read same = absurd order
same_flow (commit.Joined c i j b z ∷ cs) flow f cat later order read same = absurd order
same_flow (commit.Collected kept ∷ cs) flow f cat later order read same = absurd order
same_flow (commit.Flow text ∷ cs) flow f cat later order read same =
    let one : f.text ≡ text = ap text_of (spelled_once (commit.Flow f.text) (commit.Flow text) tt tt (heads _ _ (map commit_bytes later) (map commit_bytes cs) same)) in
    (one_flow text flow f order.0 (subst (λ t. HasFlow t f) one read), order.1)

landed_once : (ds : List Done) → map landed (map landed ds) ≡ map landed ds
landed_once [] = refl
landed_once (d ∷ ds) = ap (λ (es : List Done). landed d ∷ es) (landed_once ds)

-- nothing is in flight behind an end
pub ended_once : (s : State) → ended (ended s) ≡ ended s
ended_once s = ap (λ (ds : List Done). record s { tasks = ds }) (landed_once s.tasks)

-- commits in order are some
some_commits : (commits : List Commit) (flow : Workflow) (cat : Entered) → AreInOrder commits flow cat → commits ≢ []
some_commits [] flow cat order = absurd order
some_commits (c ∷ cs) flow cat order = λ e. let none = e in cc

in_order_taken : (commits : List Commit) (flow : Workflow) (cat : Entered) → AreInOrder commits flow cat → AreTaken commits
in_order_taken [] flow cat order = tt
in_order_taken (c ∷ cs) flow cat order = (flow, cat, order)

module _ (store : Held) (payloads : List (List ℕ)) (a b : List Event)
    (mark : IsMark (current a) (Some store.journal.generation))
    (holds : Holds store.journal.generation store.journal.length payloads (current b))
    (settled : Only (current a (4 * store.journal.generation)) (Outcome b (4 * store.journal.generation)))
    (same : (n : ℕ) → current b n ≡ current a n)
    (has : HasCommits payloads store.flow store.catalog) (idle : store.flight ≡ idle_slots store.flow) where
  abbrev pub x : ℕ
  x = store.journal.generation

  long : LogTo store.journal.length (map commit_bytes has.commits) (current b (journal_file x))
  long = subst (λ (ps : List (List ℕ)). LogTo store.journal.length ps (current b (journal_file x))) has.are holds.log

  -- what files stood for by anything they stood for by the store's own
  once : (y : ℕ) (commits : List Commit) (cat : Entered) (s : State) → StandsBut y commits cat (current a) s → IsOpenedBy store has.commits y commits cat s
  once y commits cat s by =
      let number : y ≡ x = one_mark (current a) y x by.marked mark in
      let there : IsLog (map commit_bytes commits) (current a (journal_file x)) = subst (λ n. IsLog (map commit_bytes commits) (current a (journal_file n))) number by.log in
      let here : IsLog (map commit_bytes has.commits) (current a (journal_file x)) = subst (IsLog (map commit_bytes has.commits)) (same (journal_file x)) long.log in
      let spelled = one_journal (current a (journal_file x)) (map commit_bytes commits) (map commit_bytes has.commits) there here in
      let agreed = same_flow has.commits store.flow s.flow store.catalog by.agrees.later has.in_order by.agrees.read (sym (ap (λ (cs : List Commit). map commit_bytes cs) by.agrees.begins) ∙ spelled) in
      let ours : IsCatalogOf (wiring_of s.flow) has.commits store.catalog = subst (λ (f : Workflow). IsCatalogOf (wiring_of f) has.commits store.catalog) agreed.0 agreed.1 in
      let list : commits ≡ has.commits = lists_once (wiring_of s.flow) commits has.commits cat store.catalog by.agrees.catalog ours spelled in
      let catalog : cat ≡ store.catalog = some_is cat store.catalog (sym by.agrees.catalog.is ∙ ap (catalog_of (wiring_of s.flow)) list ∙ ours.is) in
      record { generation = number; list = list; catalog = catalog; flow = agreed.0 }

  by_all : (s : State) (y : ℕ) (commits : List Commit) (cat : Entered) → IsReachable s → StandsBut y commits cat (current a) (ended s) → StoreStands store has.commits b (ended s)
  by_all s y commits cat reached by =
      let one = once y commits cat (ended s) by in
      let moved : StandsBut x has.commits store.catalog (current a) (ended s) = subst (λ n. StandsBut n has.commits store.catalog (current a) (ended s)) one.generation (subst (λ (cs : List Commit). StandsBut y cs store.catalog (current a) (ended s)) one.list (subst (λ (k : Entered). StandsBut y commits k (current a) (ended s)) one.catalog by)) in
      record {
        flow = one.flow;
        reached = ended_reachable s reached;
        flights = idle_hold store.flow store.flight s reached one.flow idle;
        by = subst (λ (t : State). StandsBut x has.commits store.catalog (current b) t) (sym (ended_once s)) (deciding_files_decide x has.commits store.catalog (current a) (current b) (ended s) (λ n decides. same n) moved);
        long = long;
        settled = λ c o. settled c o ∙ sym (same (journal_file x));
      }

  stands : (s : State) → IsReachable s → FilesStandBut (current a) s → StoreStands store has.commits b (ended s)
  unfolding FilesStandBut
  stands s reached (y, commits, cat, by) = by_all s y commits cat reached by

  good : (file at : ℕ) → IsBadStore (current a) file at → ⊥
  good file at bad =
      let number : x ≡ bad.generation = one_mark (current a) x bad.generation mark bad.marked in
      let file_is : journal_file x ≡ file = ap journal_file number ∙ sym bad.file_is in
      let here : IsLog (map commit_bytes has.commits) (current a file) = subst (λ n. IsLog (map commit_bytes has.commits) (current a n)) file_is (subst (IsLog (map commit_bytes has.commits)) (same (journal_file x)) long.log) in
      not_bad has.commits (current a file) at (in_order_taken has.commits store.flow store.catalog has.in_order) (some_commits has.commits store.flow store.catalog has.in_order) here bad.place

  pub opened : Opened store a b
  opened = record {
    commits = has.commits;
    read = record {
      marked = (subst IsSome (sym (same (4 * x + 1))) mark.0, λ y lt. same (4 * y + 1) ∙ mark.1 y lt);
      log = long;
      in_order = has.in_order;
    };
    once = once;
    stands = stands;
    good = good;
  }

-- a store that was read is kept
pub kept_read : (store : Held) (payloads : List (List ℕ)) → HasCommits payloads store.flow store.catalog → store.flight ≡ idle_slots store.flow → IsKept store
kept_read store payloads has idle = record {
  read = has.read;
  wired = has.wired;
  begun = has.begun;
  readable = has.readable;
  tasks = has.tasks;
  flights = ap length idle ∙ idle_count (length store.flow.tasks);
}

-- payloads that aren't a store's
pub bad_store : (files : Files) (x end file : ℕ) (payloads : List (List ℕ)) (why : NotRead) → file ≡ 4 * x → IsMark files (Some x) → IsReadTo end payloads (files (4 * x)) → NotReadTold why payloads → UnopenedTold (unread_in file why) files
bad_store files x end file payloads (not_read.At at) number mark read (inl none) = absurd (read.2.some none)
bad_store files x end file payloads (not_read.At at) number mark read (inr refused) = record {
  generation = x;
  marked = mark;
  file_is = number;
  place = inr (payloads, end, subst (λ n. IsReadTo end payloads (files n)) (sym number) read, refused);
}
bad_store files x end file payloads not_read.NoMemory number mark read told = (x, mark)
