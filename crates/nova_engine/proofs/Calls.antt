-- What a call tells, by how its store was opened or made.
use Rattle.std.proofs.Common.{◌≡◌, ◌⊎◌, inl, inr, ℕ, ◌+◌, ◌*◌, ◌≤◌, Bool, List, [], ◌++◌, Option, Some, None, refl, sym, ap, ◌∙◌, subst, arith}
use Rattle.std.proofs.lemmas.List.{append-nil}
use Rattle.std.specs.Bool.{IsTrue}
use Rattle.std.specs.Prelude.{IsSome}
use Rattle.nova_outside.specs.Disk.{Files}
use Rattle.nova_outside.specs.History.{Event, Outcome, current, replies}
use Rattle.nova_outside.specs.Replies.{HasReplied}
use Rattle.nova_outside.proofs.ReplyLemmas.{replies_grow}
use Rattle.nova_journal.specs.Log.{file_length}
use Rattle.nova_journal.specs.Marks.{IsMark}
use Rattle.nova_commit.specs.declared.commit.Commit.{Commit}
use Rattle.nova_meta.specs.Catalog.{Entered}
use Rattle.nova_machine.specs.State.{State, ended}
use Rattle.nova_runner.specs.Files.{IsSettled, journal_file}
use Rattle.nova_runner.specs.Held.{Held}
use Rattle.nova_runner.specs.Opening.{IsBadStore, NoBadStore, NoStoreThere, OneBadStore, Opened, UnopenedTold}
use Rattle.nova_runner.specs.Stands.{FilesStandBut, StandsBut}
use Rattle.nova_runner.specs.Steps.{StoreStands}
use Rattle.nova_runner.specs.declared.opening.OpenFault.{OpenFault}
use Rattle.nova_runner.specs.declared.opening.OpenFault.TheVariants as fault
use Rattle.nova_runner.proofs.Shows.{current_replied}
use Rattle.nova_engine.specs.declared.status.Status.{Status}
use Rattle.nova_engine.specs.declared.status.Status.TheVariants as exit
use Rattle.nova_engine.specs.Damage.{IsBadRead, IsReadIn, TellsDamage}
use Rattle.nova_engine.specs.Ending.{DamageTold, EndsUnopened}
use Rattle.nova_engine.specs.Seen.{Seen}
use Rattle.nova_engine.specs.Sessions.{IsKeptBehind, OneMore, Ran, SessionTold, Took}
use Rattle.nova_engine.specs.Status.{IsSessionEnd}
use Rattle.nova_engine.specs.Told.{BadTold, EndedEarly, EndsEarly, FilesTold, Gave, LeftAlone, MissingTold, ReadSame, RunTold, StoreTold, opened_from}
use Rattle.nova_engine.proofs.Damage.{either_tells, grows_same, tells_behind, unopened_tells}

-- ---- a session that was opened

-- files that stand for a state by something stand for it
stand_by : (files : Files) (x : ℕ) (commits : List Commit) (cat : Entered) (s : State) → StandsBut x commits cat files (ended s) → FilesStandBut files s
unfolding FilesStandBut
stand_by files x commits cat s stood = (x, commits, cat, stood)

-- a mark is there, or none is
pub marked_both : (files : Files) (x : ℕ) → IsMark files None → IsMark files (Some x) → ⊥
marked_both files x none some = no_file (files (4 * x + 1)) (none x) some.0
  where
    no_file : (c : Option (List ℕ)) → c ≡ None → IsSome c → ⊥
    no_file None e is = cc
    no_file (Some bytes) e is = cc

-- from before the opening, which read the journal
from_before : (status : Status) (x : ℕ) (commits : List Commit) (cat : Entered) (opened : State) (input taken : List ℕ) (a m b : Seen) → current m.history ≡ current a.history → replies m.history ≡ replies a.history → m.read ≤ a.read
    → (IsSettled x cat a.history → IsSettled x cat m.history) → SessionTold status x commits cat opened input taken m b → SessionTold status x commits cat opened input taken a b
from_before status x commits cat opened input taken a m b same silent read settle told =
    let most = told.reads in
    record {
      done = told.done;
      later = told.later;
      parts = told.parts;
      given = told.given;
      replied = told.replied ∙ ap (λ t. t ++ told.given) silent;
      gives = told.gives;
      kept = subst (λ (f : Files). IsKeptBehind x commits cat opened told.done told.later told.done f (current b.history) ⊎ ((status ≡ exit.DiskFault) × OneMore x commits cat opened told.done told.later f (current b.history))) same told.kept;
      settled = λ steady was. told.settled steady (settle was);
      undamaged = told.undamaged;
      room = told.room;
      others = λ n free. told.others n free ∙ ap (λ (f : Files). f n) same;
      full = told.full;
      cut = told.cut;
      whole = told.whole;
      reads = omega (arith, most, read);
    }

-- a crash leaves no more than it might have left before
abbrev pub KeepsOutcomes : List Event → List Event → Type 0
KeepsOutcomes a m = (n : ℕ) (c : Option (List ℕ)) → Outcome m n c → Outcome a n c

module _ (h : Bool) (store : Held) (ended_by : Status) (a m b : Seen) (opened : Opened store a.history m.history) (same : current m.history ≡ current a.history) (silent : replies m.history ≡ replies a.history)
    (read : m.read ≤ a.read + file_length (current a.history (journal_file store.journal.generation))) where
  -- the store's own
  told_own : KeepsOutcomes a.history m.history → (input taken : List ℕ) → IsSessionEnd ended_by → (commits : List Commit) (s : State) → StoreStands store commits m.history (ended s)
      → SessionTold ended_by store.journal.generation commits store.catalog (ended s) input taken m b → StoreTold ended_by store.journal.generation commits store.catalog (ended s) input taken a b
  told_own crash input taken ends commits s stands told = record {
    ends = ends;
    session = from_before ended_by store.journal.generation commits store.catalog (ended s) input taken (opened_from store.journal.generation a) m b same silent read
        (λ was n decides c o. was n decides c (crash n c o) ∙ sym (ap (λ (f : Files). f n) same)) told;
  }

  pub run_opened : KeepsOutcomes a.history m.history → (input : List ℕ) (left : Option (List ℕ)) → IsTrue h → IsSessionEnd ended_by → Ran ended_by h store input left m b → RunTold ended_by input left a b
  run_opened crash input left honest ends ran = record {
    taken = ran.taken;
    took = ran.took;
    session = λ x by cat s reached stood.
        let once = opened.once x by cat (ended s) stood in
        let stands = opened.stands s reached (stand_by (current a.history) x by cat s stood) in
        let told = ran.told honest opened.commits (ended s) stands in
        inl (subst (λ g. StoreTold ended_by g by cat (ended s) input ran.taken a b) (sym once.generation)
        (subst (λ cs. StoreTold ended_by store.journal.generation cs cat (ended s) input ran.taken a b) (sym once.list)
        (subst (λ (c : Entered). StoreTold ended_by store.journal.generation opened.commits c (ended s) input ran.taken a b) (sym once.catalog)
        (told_own crash input ran.taken ends opened.commits s stands told))));
  }

  pub files_opened : (SourceLeft : Type 0) → (ended_by ≡ exit.NoStore → ⊥) → (ended_by ≡ exit.Damaged → TellsDamage (IsBadRead (current b.history)) m.history b.history) → FilesTold ended_by SourceLeft a b
  files_opened SourceLeft other tells = record {
    missing = λ none. absurd (marked_both (current a.history) store.journal.generation none (subst (λ (f : Files). IsMark f (Some store.journal.generation)) same opened.read.marked));
    bad = λ file at is. absurd (opened.good file at is);
    no_store = λ e. absurd (other e);
    missing_reads = λ none. absurd (marked_both (current a.history) store.journal.generation none (subst (λ (f : Files). IsMark f (Some store.journal.generation)) same opened.read.marked));
    damaged = λ e. tells_behind _ a.history m.history b.history (grows_same a.history m.history silent) (either_tells (current a.history) m.history b.history (tells e));
    bad_reads = λ file at is. absurd (opened.good file at is);
  }

-- ---- no store was opened

damage_reads : (h : Bool) (file at : ℕ) (s : Status) (m b : Seen) → DamageTold h file at s m b → b.read ≡ m.read
damage_reads h file at exit.Damaged m b told = told.reads
damage_reads h file at exit.ReplyFault m b told = told.reads
damage_reads h file at _ m b told = absurd told

-- nothing was read behind the opening
unopened_reads : (h : Bool) (why : OpenFault) (s : Status) (m b : Seen) → EndsUnopened h why s m b → b.read ≡ m.read
unopened_reads h fault.Disk s m b ends = ap (λ (x : Seen). x.read) ends.1
unopened_reads h fault.NoStore s m b ends = ap (λ (x : Seen). x.read) ends.1
unopened_reads h (fault.Damaged file at) s m b ends = damage_reads h file at s m b ends
unopened_reads h fault.NoMemory s m b ends = ap (λ (x : Seen). x.read) ends.1

-- the opening read no more than the journal, and without a mark nothing
abbrev pub ReadJournal : Seen → Seen → Type 0
ReadJournal a m = (x : ℕ) → IsMark (current a.history) (Some x) → m.read ≤ a.read + file_length (current a.history (journal_file x))

abbrev pub ReadNone : Seen → Seen → Type 0
ReadNone a m = IsMark (current a.history) None → m.read ≡ a.read

gave_nothing : (a b : List Event) → replies b ≡ replies a → replies b ≡ replies a ++ []
gave_nothing a b same = same ∙ sym (append-nil (replies a))

module _ (h : Bool) (honest : IsTrue h) (a m b : Seen) (files : current m.history ≡ current a.history) (silent : replies m.history ≡ replies a.history) where
  same_still : b ≡ m → ReadSame a b
  same_still still n = ap (λ (x : Seen). current x.history n) still ∙ ap (λ (f : Files). f n) files

  gave_still : b ≡ m → Gave a b []
  gave_still still = gave_nothing a.history b.history (ap (λ (x : Seen). replies x.history) still ∙ silent)

  same_replied : (bytes : List ℕ) → HasReplied m.history b.history bytes → ReadSame a b
  same_replied bytes is n = current_replied m.history b.history bytes is n ∙ ap (λ (f : Files). f n) files

  gave_replied : (bytes : List ℕ) → HasReplied m.history b.history bytes → Gave a b bytes
  gave_replied bytes is = replies_grow m.history b.history bytes is ∙ ap (λ t. t ++ bytes) silent

  -- the line that tells the damage
  bad_by : (file at : ℕ) (s : Status) → DamageTold h file at s m b → BadTold s file at a b × ReadSame a b
  bad_by file at exit.Damaged told = let is = told.given honest in (gave_replied _ is, same_replied _ is)
  bad_by file at exit.ReplyFault told = let part = told.given honest in ((part.given, part.front, gave_replied part.given part.replied), same_replied part.given part.replied)
  bad_by file at _ told = absurd told

  missing_by : (SourceLeft : Type 0) → SourceLeft → NoStoreThere → (why : OpenFault) (s : Status) → UnopenedTold why (current a.history) → EndsUnopened h why s m b → IsMark (current a.history) None
      → MissingTold s a b × LeftAlone SourceLeft a b
  missing_by SourceLeft source law fault.Disk s told ends none =
      (subst (λ e. MissingTold e a b) (sym ends.0) (gave_still ends.1), record { source = source; files = same_still ends.1 })
  missing_by SourceLeft source law fault.NoStore s told ends none =
      (subst (λ e. MissingTold e a b) (sym ends.0) (gave_still ends.1), record { source = source; files = same_still ends.1 })
  missing_by SourceLeft source law (fault.Damaged file at) s told ends none = absurd ((law (current a.history) none).1 file at told)
  missing_by SourceLeft source law fault.NoMemory s told ends none = absurd (marked_both (current a.history) told.0 none told.1)

  bad_store_by : (SourceLeft : Type 0) → SourceLeft → NoStoreThere → OneBadStore → (why : OpenFault) (s : Status) → UnopenedTold why (current a.history) → EndsUnopened h why s m b → (file at : ℕ) → IsBadStore (current a.history) file at
      → BadTold s file at a b × LeftAlone SourceLeft a b
  bad_store_by SourceLeft source law one fault.Disk s told ends file at bad =
      (subst (λ e. BadTold e file at a b) (sym ends.0) (gave_still ends.1), record { source = source; files = same_still ends.1 })
  bad_store_by SourceLeft source law one fault.NoStore s told ends file at bad = absurd ((law (current a.history) told).1 file at bad)
  bad_store_by SourceLeft source law one (fault.Damaged other place) s told ends file at bad =
      let same = one (current a.history) other place file at told bad in
      let here = bad_by other place s ends in
      (subst (λ p. BadTold s file p a b) same.1 (subst (λ f. BadTold s f place a b) same.0 here.0), record { source = source; files = here.1 })
  bad_store_by SourceLeft source law one fault.NoMemory s told ends file at bad =
      (subst (λ e. BadTold e file at a b) (sym ends.0) (gave_still ends.1), record { source = source; files = same_still ends.1 })

  no_store_by : (why : OpenFault) (s : Status) → UnopenedTold why (current a.history) → EndsUnopened h why s m b → s ≡ exit.NoStore → IsMark (current a.history) None
  no_store_by fault.Disk s told ends e = absurd (no_disk (sym ends.0 ∙ e))
    where
      no_disk : exit.DiskFault ≡ exit.NoStore → ⊥
      no_disk e = cc
  no_store_by fault.NoStore s told ends e = told
  no_store_by (fault.Damaged file at) s told ends e = absurd (subst (λ x. DamageTold h file at x m b) e ends)
  no_store_by fault.NoMemory s told ends e = absurd (no_memory (sym ends.0 ∙ e))
    where
      no_memory : exit.NoMemory ≡ exit.NoStore → ⊥
      no_memory e = cc

  -- of the journal's file
  reads_file : (x file : ℕ) → file ≡ journal_file x → b.read ≤ a.read + file_length (current a.history (journal_file x)) → b.read ≤ a.read + file_length (current a.history file)
  reads_file x file is most = subst (λ n. b.read ≤ a.read + file_length (current a.history n)) (sym is) most

  reads_still : (why : OpenFault) (s : Status) → EndsUnopened h why s m b → ReadJournal a m → ReadJournal a b
  reads_still why s ends most x marked = subst (λ n. n ≤ a.read + file_length (current a.history (journal_file x))) (sym (unopened_reads h why s m b ends)) (most x marked)

  pub files_unopened : (SourceLeft : Type 0) → SourceLeft → NoStoreThere → OneBadStore → ReadNone a m → ReadJournal a m → (why : OpenFault) (s : Status) → UnopenedTold why (current a.history) → EndsUnopened h why s m b → FilesTold s SourceLeft a b
  files_unopened SourceLeft source law one none_read most why s told ends = record {
    missing = λ none. missing_by SourceLeft source law why s told ends none;
    bad = λ file at bad. bad_store_by SourceLeft source law one why s told ends file at bad;
    no_store = λ e. no_store_by why s told ends e;
    missing_reads = λ none. unopened_reads h why s m b ends ∙ none_read none;
    damaged = λ e. tells_behind _ a.history m.history b.history (grows_same a.history m.history silent) (unopened_tells h honest m b (current a.history) why s told ends e);
    bad_reads = λ file at bad. reads_file bad.generation file bad.file_is (reads_still why s ends most bad.generation bad.marked);
  }

  early_by : NoStoreThere → NoBadStore → ReadJournal a m → (why : OpenFault) (s : Status) → UnopenedTold why (current a.history) → EndsUnopened h why s m b → (opened : State) → FilesStandBut (current a.history) opened → EndedEarly s [] a b
  early_by law never most fault.Disk s told ends opened stood =
      record { early = subst EndsEarly (sym ends.0) tt; unread = refl; silent = gave_still ends.1; files = same_still ends.1; reads = reads_still fault.Disk s ends most }
  early_by law never most fault.NoStore s told ends opened stood = absurd ((law (current a.history) told).0 opened stood)
  early_by law never most (fault.Damaged file at) s told ends opened stood = absurd (never (current a.history) opened file at stood told)
  early_by law never most fault.NoMemory s told ends opened stood =
      record { early = subst EndsEarly (sym ends.0) tt; unread = refl; silent = gave_still ends.1; files = same_still ends.1; reads = reads_still fault.NoMemory s ends most }

-- a call that opened no store isn't done, nor was its input read or too long
took_nothing : (s : Status) (input : List ℕ) (left : Option (List ℕ)) → left ≡ Some input → (s ≡ exit.Done → ⊥) → (s ≡ exit.InputTooLong → ⊥) → Took s input left []
took_nothing s input left is done long = record {
  rest = input;
  left_is = is;
  input_is = refl;
  bound = omega arith;
  done = λ e. absurd (done e);
  long = λ e. absurd (long e);
  short = λ e. omega arith;
}

unopened_done : (h : Bool) (why : OpenFault) (s : Status) (m b : Seen) → EndsUnopened h why s m b → (s ≡ exit.Done → ⊥) × (s ≡ exit.InputTooLong → ⊥)
unopened_done h fault.Disk s m b ends = (λ e. no_done (sym ends.0 ∙ e), λ e. no_long (sym ends.0 ∙ e))
  where
    no_done : exit.DiskFault ≡ exit.Done → ⊥
    no_done e = cc

    no_long : exit.DiskFault ≡ exit.InputTooLong → ⊥
    no_long e = cc
unopened_done h fault.NoStore s m b ends = (λ e. no_done (sym ends.0 ∙ e), λ e. no_long (sym ends.0 ∙ e))
  where
    no_done : exit.NoStore ≡ exit.Done → ⊥
    no_done e = cc

    no_long : exit.NoStore ≡ exit.InputTooLong → ⊥
    no_long e = cc
unopened_done h (fault.Damaged file at) s m b ends = (λ e. subst (λ x. DamageTold h file at x m b) e ends, λ e. subst (λ x. DamageTold h file at x m b) e ends)
unopened_done h fault.NoMemory s m b ends = (λ e. no_done (sym ends.0 ∙ e), λ e. no_long (sym ends.0 ∙ e))
  where
    no_done : exit.NoMemory ≡ exit.Done → ⊥
    no_done e = cc

    no_long : exit.NoMemory ≡ exit.InputTooLong → ⊥
    no_long e = cc

-- so it took nothing of its input, whatever the host tells
pub unopened_took : (h : Bool) (why : OpenFault) (s : Status) (m b : Seen) → EndsUnopened h why s m b → (input : List ℕ) (left : Option (List ℕ)) → left ≡ Some input → (taken : List ℕ) × Took s input left taken
unopened_took h why s m b ends input left is =
    let other = unopened_done h why s m b ends in
    ([], took_nothing s input left is other.0 other.1)

pub run_unopened : (h : Bool) (a m b : Seen) → IsTrue h → current m.history ≡ current a.history → replies m.history ≡ replies a.history → NoStoreThere → NoBadStore → ReadJournal a m → (why : OpenFault) (s : Status) → UnopenedTold why (current a.history) → EndsUnopened h why s m b
    → (input : List ℕ) (left : Option (List ℕ)) → left ≡ Some input → RunTold s input left a b
run_unopened h a m b honest files silent law never most why s told ends input left is =
    let other = unopened_done h why s m b ends in
    record {
      taken = [];
      took = took_nothing s input left is other.0 other.1;
      session = λ x by cat opened reached stood. inr (early_by h honest a m b files silent law never most why s told ends opened (stand_by (current a.history) x by cat opened stood));
    }

-- a session doesn't end for want of a store
pub no_store_end : (s : Status) → IsSessionEnd s → s ≡ exit.NoStore → ⊥
no_store_end s is e = subst IsSessionEnd e is

-- the mark that an opened store is of was there before
pub marked_before : (store : Held) (a m : List Event) → Opened store a m → current m ≡ current a → IsMark (current a) (Some store.journal.generation)
marked_before store a m opened same = subst (λ (f : Files). IsMark f (Some store.journal.generation)) same opened.read.marked

-- and it is what its journal says
pub opened_read : (h : Bool) (store : Held) (a m : List Event) → (IsTrue h → Opened store a m) → IsReadIn h store m
opened_read h store a m opens honest = let opened = opens honest in (opened.commits, opened.read)
