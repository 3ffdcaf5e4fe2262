-- A channel is shown, or its reply fails.
use Rattle.std.proofs.Common.{◌≡◌, ℕ, List, [], ◌∷◌, map, Option, refl, ap, sym, ◌∙◌, subst}
use Rattle.nova_outside.specs.Disk.{Files}
use Rattle.nova_outside.specs.History.{Event, Replied, Outcome, current}
use Rattle.nova_outside.specs.Replies.{HasReplied, HasRepliedInPart, after_replies}
use Rattle.nova_outside.proofs.ReplyLemmas.{replies_grow}
use Rattle.nova_delta.specs.Merge.{TableValue}
use Rattle.nova_journal.specs.Log.{LogTo}
use Rattle.nova_commit.specs.Commits.{commit_bytes}
use Rattle.nova_meta.specs.Catalog.{Entered, shelf_at}
use Rattle.nova_commit.specs.declared.commit.Commit.{Commit}
use Rattle.nova_machine.specs.Workflow.{Workflow, channel_in, schema_in}
use Rattle.nova_machine.specs.State.{State, ended, newest, newest_table}
use Rattle.nova_machine.specs.Steps.{Step, Show}
use Rattle.nova_machine.specs.Replies.{reply_to}
use Rattle.nova_runner.specs.Acts.{IsStepDamage}
use Rattle.nova_runner.specs.Files.{IsSettled, journal_file}
use Rattle.nova_runner.specs.Held.{Held}
use Rattle.nova_runner.specs.Reading.{IsNewestDamage, ShownTold, UnshownGave, shown_text, unshown_by}
use Rattle.nova_runner.specs.Stands.{Drawn}
use Rattle.nova_runner.specs.Steps.{AsksShow, Done, HeldBack, LosesNone, StoreStands}
use Rattle.nova_runner.proofs.Deciding.{deciding_files_decide, lost_same}
use Rattle.nova_block.specs.declared.fault.BlockFault.{BlockFault}
use Rattle.nova_block.specs.declared.fault.BlockFault.TheVariants as block
use Rattle.nova_channel.specs.Reading.{ReadTold, block_file}
use Rattle.nova_runner.proofs.Loading.{drawings, drawn_at}

current_after : (h : List Event) (pieces : List (List ℕ)) (n : ℕ) → current (after_replies h pieces) n ≡ current h n
current_after h [] n = refl
current_after h (p ∷ ps) n = current_after (Replied p ∷ h) ps n

outcome_after : (h : List Event) (pieces : List (List ℕ)) (n : ℕ) (c : Option (List ℕ)) → Outcome (after_replies h pieces) n c → Outcome h n c
outcome_after h [] n c is = is
outcome_after h (p ∷ ps) n c is = outcome_after (Replied p ∷ h) ps n c is

-- replies leave the files
module _ (a b : List Event) (bytes : List ℕ) (is : HasReplied a b bytes) where
  pub current_replied : (n : ℕ) → current b n ≡ current a n
  current_replied n = ap (λ (h : List Event). current h n) is.only ∙ current_after a is.pieces n

  outcome_replied : (n : ℕ) (c : Option (List ℕ)) → Outcome b n c → Outcome a n c
  outcome_replied n c o = outcome_after a is.pieces n c (subst (λ (h : List Event). Outcome h n c) is.only o)

  pub stands_replied : (store : Held) (commits : List Commit) (s : State) → StoreStands store commits a s → StoreStands store commits b s
  stands_replied store commits s stands = record {
    flow = stands.flow;
    reached = stands.reached;
    flights = stands.flights;
    by = deciding_files_decide store.journal.generation commits store.catalog (current a) (current b) (ended s) (λ n decides. current_replied n) stands.by;
    long = subst (LogTo store.journal.length (map commit_bytes commits)) (sym (current_replied (journal_file store.journal.generation))) stands.long;
    settled = λ c o. stands.settled c (outcome_replied (journal_file store.journal.generation) c o) ∙ sym (current_replied (journal_file store.journal.generation));
  }

  pub lost_replied : (flow : Workflow) (cat : Entered) → LosesNone flow cat cat (current a) (current b)
  lost_replied flow cat p named lost = (named, lost_same flow (current b) (current a) p (sym (current_replied (block_file p.block))) lost)

  pub settled_replied : (x : ℕ) (cat : Entered) → IsSettled x cat a → IsSettled x cat b
  settled_replied x cat was n decides c o = was n decides c (outcome_replied n c o) ∙ sym (current_replied n)

-- the reply is the machine's
reply_is : (store : Held) (commits : List Commit) (a : List Event) (s : State) (c : ℕ) (t : TableValue) → StoreStands store commits a s → t ≡ newest_table s c → shown_text (channel_in store.flow c).name (shelf_at store.catalog c).version t ≡ reply_to s (Show c)
reply_is store commits a s c t stands newest_one =
    let version : (shelf_at store.catalog c).version ≡ newest s c = ap (λ (x : Drawn). x.version) (drawn_at store.catalog (ended s) (drawings store.catalog (ended s) stands.by.agrees.same) c) in
    ap (λ (f : Workflow). shown_text (channel_in f c).name (shelf_at store.catalog c).version t) stands.flow
    ∙ ap (λ n. shown_text (channel_in s.flow c).name n t) version
    ∙ ap (λ (u : TableValue). shown_text (channel_in s.flow c).name (newest s c) u) newest_one

-- why a table wasn't read says why it wasn't shown
pub unread_told : (store : Held) (c : ℕ) (files : Files) (fault : BlockFault) → ReadTold (schema_in store.flow c) files (shelf_at store.catalog c).intervals 0 (shelf_at store.catalog c).version fault → ShownTold store c files (unshown_by fault)
unread_told store c files block.Disk told = tt
unread_told store c files (block.Damaged file at) told = told
unread_told store c files block.NoMemory told = tt

-- and gave nothing
pub unread_gave : (store : Held) (c : ℕ) (a b : List Event) (fault : BlockFault) → b ≡ a → UnshownGave store c a b (unshown_by fault)
unread_gave store c a b block.Disk same = same
unread_gave store c a b (block.Damaged file at) same = same
unread_gave store c a b block.NoMemory same = same

module _ (store : Held) (commits : List Commit) (s : State) (x : Step) (c : ℕ) (t : TableValue) (a m b : List Event)
    (stands : StoreStands store commits a s) (asks : AsksShow c s x) (newest_one : t ≡ newest_table s c) (same : m ≡ a) (none : (file at : ℕ) → IsNewestDamage store c (current a) file at → ⊥) where
  given : List ℕ
  given = shown_text (channel_in store.flow c).name (shelf_at store.catalog c).version t

  no_damage : (file at : ℕ) → IsStepDamage s.flow store.catalog (current a) (Show c) file at → ⊥
  no_damage file at damage = none file at (subst (λ (f : Workflow). IsStepDamage f store.catalog (current a) (Show c) file at) (sym stands.flow) damage)

  pub shown_done : HasReplied m b (shown_text (channel_in store.flow c).name (shelf_at store.catalog c).version t) → Done store store commits s x (reply_to s x) a b
  shown_done replied =
      let here = subst (λ (h : List Event). HasReplied h b (reply_to s (Show c))) same (subst (HasReplied m b) (reply_is store commits a s c t stands newest_one) replied) in
      subst (λ (y : Step). Done store store commits s y (reply_to s y) a b) (sym asks.0) (record {
        stands = stands_replied a b (reply_to s (Show c)) here store commits s stands;
        generation = refl;
        others = λ n free. current_replied a b (reply_to s (Show c)) here n;
        no_loss = lost_replied a b (reply_to s (Show c)) here s.flow store.catalog;
        settled = settled_replied a b (reply_to s (Show c)) here store.journal.generation store.catalog;
        replied = replies_grow a b (reply_to s (Show c)) here;
        undamaged = no_damage;
        room = λ d is. cc;
      })

  pub shown_in_part : HasRepliedInPart m b (shown_text (channel_in store.flow c).name (shelf_at store.catalog c).version t) → HeldBack store commits s x a b
  shown_in_part part =
      let here = subst (λ (h : List Event). HasRepliedInPart h b (reply_to s (Show c))) same (subst (HasRepliedInPart m b) (reply_is store commits a s c t stands newest_one) part) in
      subst (λ (y : Step). HeldBack store commits s y a b) (sym asks.0) (record {
        kept = record { stands = (stands_replied a b here.given here.replied store commits s stands).by; no_loss = lost_replied a b here.given here.replied s.flow store.catalog };
        others = λ n free. current_replied a b here.given here.replied n;
        given = here.given;
        front = here.front;
        replied = replies_grow a b here.given here.replied;
        undamaged = no_damage;
        room = λ d is. cc;
      })
