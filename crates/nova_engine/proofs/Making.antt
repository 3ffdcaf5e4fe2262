-- A store that a call makes, of the text that it reads.
use Rattle.std.proofs.Common.{◌≡◌, inl, inr, ℕ, Bool, List, [], ◌∷◌, ◌++◌, Option, Some, None, sym, ap, ◌∙◌, subst, IsTrue}
use Rattle.std.proofs.lemmas.List.{append-nil}
use Rattle.nova_outside.specs.Disk.{Files}
use Rattle.nova_outside.specs.History.{Event, current, replies}
use Rattle.nova_outside.specs.Replies.{HasReplied}
use Rattle.nova_outside.proofs.ReplyLemmas.{replies_grow}
use Rattle.nova_journal.specs.Marks.{IsMark}
use Rattle.nova_commit.specs.declared.commit.Commit.TheVariants as commit
use Rattle.nova_machine.specs.State.{ended, start}
use Rattle.nova_runner.specs.Held.{Held}
use Rattle.nova_runner.specs.Making.{IsMadeOrNot, Made, Unmade}
use Rattle.nova_runner.specs.Stands.{FilesStand, StandsBut}
use Rattle.nova_runner.specs.Texts.{HasFault}
use Rattle.nova_runner.specs.declared.text.TextFault.{TextFault}
use Rattle.nova_runner.specs.declared.making.InitFault.TheVariants as init
use Rattle.nova_runner.proofs.Shows.{current_replied, settled_replied}
use Rattle.nova_runner.proofs.Texts.{text_kept}
use Rattle.nova_engine.specs.declared.status.Status.{Status}
use Rattle.nova_engine.specs.declared.status.Status.TheVariants as exit
use Rattle.nova_engine.specs.declared.text.Unread.{Unread}
use Rattle.nova_engine.specs.declared.text.Unread.TheVariants as unread
use Rattle.nova_engine.specs.Ending.{ReadyGiven, RefusalGiven, unread_end}
use Rattle.nova_engine.specs.Refused.{refused_line}
use Rattle.nova_engine.specs.Seen.{Seen}
use Rattle.nova_engine.specs.Taken.{ReadText, TookText}
use Rattle.nova_engine.specs.Told.{Gave, HasMark, HasNoneOrFirst, InitRead, InitTold, IsMade, IsOfText, ready_line}
use Rattle.nova_engine.proofs.Texts.{took_none}
use Rattle.nova_engine.proofs.Calls.{marked_both}

-- a store was made
made_of : (text : List ℕ) (store : Held) (a m b : List Event) (bytes : List ℕ) → HasReplied m b bytes → Made store text a m → IsMade store.flow a b
made_of text store a m b bytes is made =
    let files : current m ≡ current b = λ i n. sym (current_replied m b bytes is n) i in
    record {
      first = record {
        new = subst (λ (f : Files). FilesStand f (start store.flow)) files made.stored;
        catalog = store.catalog;
        by = subst (λ (f : Files). StandsBut 0 (commit.Flow store.flow.text ∷ []) store.catalog f (ended (start store.flow))) files
            (subst (λ t. StandsBut 0 (commit.Flow t ∷ []) store.catalog (current m) (ended (start store.flow))) (sym made.kept)
            (subst (λ g. StandsBut g (commit.Flow text ∷ []) store.catalog (current m) (ended (start store.flow))) made.generation made.stands.by));
      };
      settled = λ later. settled_replied m b bytes is 0 store.catalog (made.settled later);
    }

-- a mark is there, or none is
pub no_mark : (files : Files) → IsMark files None → HasMark files → ⊥
no_mark files none some = marked_both files some.0 none some.1

module _ (text : List ℕ) (a m b : Seen) (none : IsMark (current a.history) None) (same : m.read ≡ a.read) where
  here : (bytes : List ℕ) → HasReplied m.history b.history bytes → current b.history ≡ current m.history
  here bytes is = λ i n. current_replied m.history b.history bytes is n i

  gave : replies m.history ≡ replies a.history → (bytes : List ℕ) → HasReplied m.history b.history bytes → Gave a b bytes
  gave silent bytes is = replies_grow m.history b.history bytes is ∙ ap (λ t. t ++ bytes) silent

  -- the store's line, behind the calls that made it
  module _ (store : Held) (made : Made store text a.history m.history) where
    pub ready_told : (h : Bool) → IsTrue h → (status : Status) → ReadyGiven h store.flow status m b → InitTold text status a b
    ready_told h honest exit.Done is =
        let replied = is.given honest in
        record {
          made = λ _. record { flow = store.flow; says = made.flow; given = gave made.only.silent (ready_line store.flow) replied; made = made_of text store a.history m.history b.history (ready_line store.flow) replied made };
          refused = λ some. absurd (no_mark (current a.history) none some);
          there = λ e. cc;
          others = λ n x y. ap (λ (f : Files). f n) (here (ready_line store.flow) replied) ∙ made.only.others n x y;
          reads = is.reads ∙ same;
        }
    ready_told h honest exit.ReplyFault is =
        let part = is.given honest in
        record {
          made = λ _. inl (record { flow = store.flow; says = made.flow; given = (part.given, part.front, gave made.only.silent part.given part.replied); made = made_of text store a.history m.history b.history part.given part.replied made });
          refused = λ some. absurd (no_mark (current a.history) none some);
          there = λ e. cc;
          others = λ n x y. ap (λ (f : Files). f n) (here part.given part.replied) ∙ made.only.others n x y;
          reads = is.reads ∙ same;
        }
    ready_told h honest exit.Usage is = absurd is
    ready_told h honest exit.ReadFault is = absurd is
    ready_told h honest exit.DiskFault is = absurd is
    ready_told h honest exit.NoMemory is = absurd is
    ready_told h honest exit.NoStore is = absurd is
    ready_told h honest exit.StoreThere is = absurd is
    ready_told h honest exit.FlowRefused is = absurd is
    ready_told h honest exit.Damaged is = absurd is
    ready_told h honest exit.Full is = absurd is
    ready_told h honest exit.InputTooLong is = absurd is

  -- the refusal's line, where nothing was done before
  module _ (why : TextFault) (has : HasFault text why) (rest : m.history ≡ a.history) where
    files : (bytes : List ℕ) → HasReplied m.history b.history bytes → (n : ℕ) → current b.history n ≡ current a.history n
    files bytes is n = ap (λ (f : Files). f n) (here bytes is) ∙ ap (λ (e : List Event). current e n) rest

    pub refusal_told : (h : Bool) → IsTrue h → (status : Status) → RefusalGiven h why status m b → InitTold text status a b
    refusal_told h honest exit.FlowRefused is =
        let replied = is.given honest in
        record {
          made = λ _. record { why = why; has = has; given = gave (ap replies rest) (refused_line why) replied; files = files (refused_line why) replied };
          refused = λ some. absurd (no_mark (current a.history) none some);
          there = λ e. cc;
          others = λ n x y. files (refused_line why) replied n;
          reads = is.reads ∙ same;
        }
    refusal_told h honest exit.ReplyFault is =
        let part = is.given honest in
        record {
          made = λ _. inr (record { why = why; has = has; given = (part.given, part.front, gave (ap replies rest) part.given part.replied); files = files part.given part.replied });
          refused = λ some. absurd (no_mark (current a.history) none some);
          there = λ e. cc;
          others = λ n x y. files part.given part.replied n;
          reads = is.reads ∙ same;
        }
    refusal_told h honest exit.Done is = absurd is
    refusal_told h honest exit.Usage is = absurd is
    refusal_told h honest exit.ReadFault is = absurd is
    refusal_told h honest exit.DiskFault is = absurd is
    refusal_told h honest exit.NoMemory is = absurd is
    refusal_told h honest exit.NoStore is = absurd is
    refusal_told h honest exit.StoreThere is = absurd is
    refusal_told h honest exit.Damaged is = absurd is
    refusal_told h honest exit.Full is = absurd is
    refusal_told h honest exit.InputTooLong is = absurd is

-- none was made
none_or_first : (text : List ℕ) (files : Files) → IsMadeOrNot text files → HasNoneOrFirst text files
none_or_first text files (inl none) = inl none
none_or_first text files (inr (w, says, stood, (cat, but))) =
    inr (
      w,
      says,
      record {
        new = stood;
        catalog = cat;
        by = subst (λ t. StandsBut 0 (commit.Flow t ∷ []) cat files (ended (start w))) (sym (text_kept text w says)) but;
      },
    )

pub disk_told : (text : List ℕ) (a b : Seen) → IsMark (current a.history) None → Unmade init.Disk text a.history b.history → b.read ≡ a.read → InitTold text exit.DiskFault a b
disk_told text a b none unmade read = record {
  made = λ _. (unmade.1.silent ∙ sym (append-nil (replies a.history)), none_or_first text (current b.history) unmade.0);
  refused = λ some. absurd (no_mark (current a.history) none some);
  there = λ e. cc;
  others = unmade.1.others;
  reads = read;
}

-- nothing was done
module _ (text : List ℕ) (a b : Seen) (same : b ≡ a) where
  rested : (n : ℕ) → current b.history n ≡ current a.history n
  rested n = ap (λ (s : Seen). current s.history n) same

  pub memory_told : IsMark (current a.history) None → InitTold text exit.NoMemory a b
  memory_told none = record {
    made = λ _. same;
    refused = λ some. absurd (no_mark (current a.history) none some);
    there = λ e. cc;
    others = λ n x y. rested n;
    reads = ap (λ (s : Seen). s.read) same;
  }

  pub unread_told : IsMark (current a.history) None → (why : Unread) → InitTold text (unread_end why) a b
  unread_told none unread.Source = record {
    made = λ _. same;
    refused = λ some. absurd (no_mark (current a.history) none some);
    there = λ e. cc;
    others = λ n x y. rested n;
    reads = ap (λ (s : Seen). s.read) same;
  }
  unread_told none unread.NoMemory = memory_told none

  -- the marks weren't read
  pub unmarked_told : InitTold text exit.DiskFault a b
  unmarked_told = record {
    made = λ none. (ap (λ (s : Seen). replies s.history) same ∙ sym (append-nil (replies a.history)), inl (subst (λ (s : Seen). IsMark (current s.history) None) (sym same) none));
    refused = λ some. same;
    there = λ e. cc;
    others = λ n x y. rested n;
    reads = ap (λ (s : Seen). s.read) same;
  }

  -- a mark is there
  pub there_told : HasMark (current a.history) → InitTold text exit.StoreThere a b
  there_told some = record {
    made = λ none. absurd (no_mark (current a.history) none some);
    refused = λ _. same;
    there = λ _. some;
    others = λ n x y. rested n;
    reads = ap (λ (s : Seen). s.read) same;
  }

-- ---- of a text that was read, or wasn't

unread_end_of : (why : Unread) → IsOfText (unread_end why) → ⊥
unread_end_of unread.Source is = is
unread_end_of unread.NoMemory is = is

module _ (left : Option (List ℕ)) (a b : Seen) where
  none_taken : (input : List ℕ) → left ≡ Some input → (taken : List ℕ) × TookText input left taken
  none_taken input is = ([], took_none input left is)

  pub unmarked_read : b ≡ a → InitRead exit.DiskFault left left a b
  unmarked_read same = record { text = []; told = unmarked_told [] a b same; read = λ is. absurd is; took = none_taken }

  pub there_read : b ≡ a → HasMark (current a.history) → InitRead exit.StoreThere left left a b
  there_read same some = record { text = []; told = there_told [] a b same some; read = λ is. absurd is; took = none_taken }

  pub unread_read : (new : Option (List ℕ)) (why : Unread) → b ≡ a → IsMark (current a.history) None → ((input : List ℕ) → left ≡ Some input → (taken : List ℕ) × TookText input new taken) → InitRead (unread_end why) left new a b
  unread_read new why same none took = record { text = []; told = unread_told [] a b same none why; read = λ is. absurd (unread_end_of why is); took = took }

  pub text_read : (new : Option (List ℕ)) (text : List ℕ) (status : Status) (m : Seen) → m ≡ a → InitTold text status m b → ((input : List ℕ) → left ≡ Some input → ReadText input new text) → InitRead status left new a b
  text_read new text status m same told read = record {
    text = text;
    told = subst (λ (s : Seen). InitTold text status s b) same told;
    read = λ _. read;
    took = λ input is. (text, (read input is).took);
  }
