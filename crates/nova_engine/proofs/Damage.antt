-- Damage that is told has its cause.
use Rattle.std.proofs.Common.{◌≡◌, ◌⊎◌, inl, inr, ℕ, ◌<◌, Bool, true, false, if◌then◌else◌, List, [], ◌∷◌, ◌++◌, length, map, None, Result, Err, refl, sym, ap, ◌∙◌, append_assoc, subst}
use Rattle.std.proofs.lemmas.List.{append-nil}
use Rattle.std.specs.Bool.{IsTrue}
use Rattle.std.specs.List.{AllByRecursion}
use Rattle.std.specs.Prelude.{IsErrOf}
use Rattle.nova_outside.specs.Causes.{Rose}
use Rattle.nova_outside.specs.Disk.{Files}
use Rattle.nova_outside.specs.History.{Begins, Event, current, replies}
use Rattle.nova_outside.specs.Replies.{Gives, HasReplied}
use Rattle.nova_outside.proofs.ReplyLemmas.{replies_grow}
use Rattle.nova_commit.specs.Commits.{commit_bytes}
use Rattle.nova_commit.specs.declared.commit.Commit.{Commit}
use Rattle.nova_commit.specs.declared.commit.Commit.TheVariants as commit
use Rattle.nova_meta.specs.Catalog.{Entered, shelf_at}
use Rattle.nova_state.specs.Sorts.{plan_sorts}
use Rattle.nova_machine.specs.Workflow.{Workflow, plan_in, schema_in}
use Rattle.nova_machine.specs.Steps.{Run}
use Rattle.nova_execution.specs.Groups.{IsStateDamage, part_file}
use Rattle.nova_execution.specs.Reads.{IsReadDamage, Read}
use Rattle.nova_script.specs.Replies as line
use Rattle.nova_runner.specs.Acts.{IsStepDamage, keeps_in, newest_reads}
use Rattle.nova_runner.specs.Held.{Held}
use Rattle.nova_runner.specs.Opening.{AreInOrder, IsBadStore, IsRead, UnopenedTold}
use Rattle.nova_channel.specs.Reading.{IsDamage}
use Rattle.nova_runner.specs.Reading.{ShowCause, ShownTold, UnshownGave, why_unshown}
use Rattle.nova_runner.specs.Runs.{StopDamage}
use Rattle.nova_runner.specs.Steps.{InHost, IsNoFailedCall, IsStopDamage, StopCause, Why, why_of}
use Rattle.nova_runner.specs.Steps as step
use Rattle.nova_runner.specs.declared.opening.OpenFault.{OpenFault}
use Rattle.nova_runner.specs.declared.opening.OpenFault.TheVariants as fault
use Rattle.nova_runner.specs.declared.show.Unshown.{Unshown}
use Rattle.nova_runner.specs.declared.show.Unshown.TheVariants as unshown
use Rattle.nova_runner.specs.declared.stop.Stopped.{Stopped}
use Rattle.nova_runner.specs.declared.stop.Stopped.TheVariants as stopped
use Rattle.nova_runner.specs.Texts.{HasFlow}
use Rattle.nova_runner.specs.Workflow.{wiring_of}
use Rattle.nova_runner.proofs.Flows.{well_wired}
use Rattle.nova_runner.proofs.Readables.{wired}
use Rattle.nova_runner.proofs.Shows.{current_replied}
use Rattle.nova_runner.proofs.Tasks.{ReadsOn, reads_on, reads_there}
use Rattle.nova_engine.specs.declared.status.Status.{Status}
use Rattle.nova_engine.specs.declared.status.Status.TheVariants as exit
use Rattle.nova_engine.specs.declared.stop.Stop.{Stop}
use Rattle.nova_engine.specs.declared.stop.Stop.TheVariants as stop
use Rattle.nova_engine.specs.Damage.{IsBadBlock, IsBadRead, IsBadState, IsJournalOf, IsReadIn, TellsDamage}
use Rattle.nova_engine.specs.Ending.{DamageTold, EndsStopped, EndsUnopened}
use Rattle.nova_engine.specs.Seen.{Seen}
use Rattle.nova_engine.specs.Stopping.{why}

-- ---- a store that is read

-- its journal is in the host
pub in_host_read : (h : Bool) (store : Held) (a : List Event) → IsReadIn h store a → InHost h store a
in_host_read h store a read honest = let is = read honest in (map commit_bytes is.0, record { log = is.1.log; newest = is.1.marked.1 })

-- so it stays where files read the same
pub read_same : (h : Bool) (store : Held) (a b : List Event) → (IsTrue h → (n : ℕ) → current b n ≡ current a n) → IsReadIn h store a → IsReadIn h store b
read_same h store a b same read honest =
    let is = read honest in
    let files : current b ≡ current a = λ i n. same honest n i in
    (is.0, subst (λ (f : Files). IsRead store is.0 f) (sym files) is.1)

pub read_replied : (h : Bool) (store : Held) (a b : List Event) (bytes : List ℕ) → Gives h a b bytes → IsReadIn h store a → IsReadIn h store b
read_replied h store a b bytes gives = read_same h store a b (λ honest. current_replied a b bytes (gives honest))

-- and behind a commit more
pub read_more : (h : Bool) (store new : Held) (own : Commit) (a b : List Event) → (IsTrue h → (commits : List Commit) → IsRead store commits (current a) → IsRead new (commits ++ own ∷ []) (current b)) → IsReadIn h store a → IsReadIn h new b
read_more h store new own a b adds read honest = let is = read honest in (is.0 ++ own ∷ [], adds honest is.0 is.1)

-- ---- within a session

-- why a result is an error
pub err_is : {T : Type 0} (s other : Stop) (r : Result T Stop) → r ≡ Err s → IsErrOf r other → s ≡ other
err_is s other r is e = cc

-- a failed call of a `show` has its count
pub shown_disk : (disk now reply later : ℕ) (s : Stop) (by : Unshown) → why s ≡ why_unshown by → ShowCause disk now reply later by → s ≡ stop.Disk → Rose disk now
shown_disk disk now reply later s unshown.Disk is cause e = cause
shown_disk disk now reply later s (unshown.Damaged file at) is cause e = absurd (no_damage (sym (ap why e) ∙ is))
  where
    no_damage : step.Disk ≡ step.Damaged file at → ⊥
    no_damage e = cc
shown_disk disk now reply later s unshown.Reply is cause e = absurd (no_reply (sym (ap why e) ∙ is))
  where
    no_reply : step.Disk ≡ step.Reply → ⊥
    no_reply e = cc
shown_disk disk now reply later s unshown.NoMemory is cause e = absurd (no_memory (sym (ap why e) ∙ is))
  where
    no_memory : step.Disk ≡ step.NoMemory → ⊥
    no_memory e = cc

pub shown_reply : (disk now reply later : ℕ) (s : Stop) (by : Unshown) → why s ≡ why_unshown by → ShowCause disk now reply later by → s ≡ stop.Reply → Rose reply later
shown_reply disk now reply later s unshown.Reply is cause e = cause
shown_reply disk now reply later s (unshown.Damaged file at) is cause e = absurd (no_damage (sym (ap why e) ∙ is))
  where
    no_damage : step.Reply ≡ step.Damaged file at → ⊥
    no_damage e = cc
shown_reply disk now reply later s unshown.Disk is cause e = absurd (no_disk (sym (ap why e) ∙ is))
  where
    no_disk : step.Reply ≡ step.Disk → ⊥
    no_disk e = cc
shown_reply disk now reply later s unshown.NoMemory is cause e = absurd (no_memory (sym (ap why e) ∙ is))
  where
    no_memory : step.Reply ≡ step.NoMemory → ⊥
    no_memory e = cc

-- a call that stopped, and told no damage
pub none_told : (s : Stop) (by : Stopped) (file at : ℕ) → why s ≡ why_of by → (IsStopDamage by → ⊥) → s ≡ stop.Damaged file at → ⊥
none_told s stopped.Disk file at is none e = no_disk (sym is ∙ ap why e)
  where
    no_disk : step.Disk ≡ step.Damaged file at → ⊥
    no_disk e = cc
none_told s (stopped.Damaged other place) file at is none e = none tt
none_told s (stopped.Full end) file at is none e = no_full (sym is ∙ ap why e)
  where
    no_full : step.Full end ≡ step.Damaged file at → ⊥
    no_full e = cc
none_told s (stopped.NoMemory store) file at is none e = no_memory (sym is ∙ ap why e)
  where
    no_memory : step.NoMemory ≡ step.Damaged file at → ⊥
    no_memory e = cc

-- a block that a `show` finds to be none is one of the store that its journal says
pub shown_damage : (h : Bool) (store : Held) (c : ℕ) (s : Stop) (by : Unshown) (a b : List Event) → why s ≡ why_unshown by → IsReadIn h store a → c < length store.flow.channels
    → (IsTrue h → ShownTold store c (current a) by) → (IsTrue h → (n : ℕ) → current b n ≡ current a n) → (file at : ℕ) → s ≡ stop.Damaged file at → IsTrue h → IsBadRead (current b) file at
shown_damage h store c s unshown.Disk a b is read within told same file at e honest = absurd (no_disk (sym is ∙ ap why e))
  where
    no_disk : step.Disk ≡ step.Damaged file at → ⊥
    no_disk e = cc
shown_damage h store c s unshown.Reply a b is read within told same file at e honest = absurd (no_reply (sym is ∙ ap why e))
  where
    no_reply : step.Reply ≡ step.Damaged file at → ⊥
    no_reply e = cc
shown_damage h store c s unshown.NoMemory a b is read within told same file at e honest = absurd (no_memory (sym is ∙ ap why e))
  where
    no_memory : step.NoMemory ≡ step.Damaged file at → ⊥
    no_memory e = cc
shown_damage h store c s (unshown.Damaged other place) a b is read within told same file at e honest =
    let found : step.Damaged other place ≡ step.Damaged file at = sym is ∙ ap why e in
    let files : current b ≡ current a = λ i n. same honest n i in
    let own = read honest in
    let here : IsBadBlock (current a) other place = record {
      commits = own.0;
      flow = store.flow;
      catalog = store.catalog;
      journal = record { generation = store.journal.generation; marked = own.1.marked; log = own.1.log.log; in_order = own.1.in_order };
      channel = c;
      in_range = within;
      from = 0;
      hop = inl refl;
      damage = told honest;
    } in
    subst (λ (f : Files). IsBadRead f file at) (sym files) (subst (λ n. IsBadRead (current a) n at) (file_of found) (subst (λ n. IsBadRead (current a) other n) (place_of found) (inl here)))
  where
    file_of : step.Damaged other place ≡ step.Damaged file at → other ≡ file
    file_of e = cc

    place_of : step.Damaged other place ≡ step.Damaged file at → place ≡ at
    place_of e = cc

-- ---- a run

-- a failed call has its count
pub stopped_disk : (store : Held) (before now : ℕ) (s : Stop) (by : Stopped) → why s ≡ why_of by → StopCause store before now by → s ≡ stop.Disk → Rose before now
stopped_disk store before now s stopped.Disk is cause e = cause
stopped_disk store before now s (stopped.Damaged file at) is cause e = absurd (no_damage (sym (ap why e) ∙ is))
  where
    no_damage : step.Disk ≡ step.Damaged file at → ⊥
    no_damage e = cc
stopped_disk store before now s (stopped.Full end) is cause e = absurd (no_full (sym (ap why e) ∙ is))
  where
    no_full : step.Disk ≡ step.Full end → ⊥
    no_full e = cc
stopped_disk store before now s (stopped.NoMemory again) is cause e = absurd (no_memory (sym (ap why e) ∙ is))
  where
    no_memory : step.Disk ≡ step.NoMemory → ⊥
    no_memory e = cc

-- a call of the store replies nothing
pub stopped_reply : (s : Stop) (by : Stopped) → why s ≡ why_of by → s ≡ stop.Reply → ⊥
stopped_reply s stopped.Disk is e = no_disk (sym (ap why e) ∙ is)
  where
    no_disk : step.Reply ≡ step.Disk → ⊥
    no_disk e = cc
stopped_reply s (stopped.Damaged file at) is e = no_damage (sym (ap why e) ∙ is)
  where
    no_damage : step.Reply ≡ step.Damaged file at → ⊥
    no_damage e = cc
stopped_reply s (stopped.Full end) is e = no_full (sym (ap why e) ∙ is)
  where
    no_full : step.Reply ≡ step.Full end → ⊥
    no_full e = cc
stopped_reply s (stopped.NoMemory store) is e = no_memory (sym (ap why e) ∙ is)
  where
    no_memory : step.Reply ≡ step.NoMemory → ⊥
    no_memory e = cc

-- the workflow that the first of the commits has, and its wiring
flow_read : (commits : List Commit) (flow : Workflow) (cat : Entered) → AreInOrder commits flow cat → HasFlow flow.text flow × (cat.wiring ≡ wiring_of flow)
flow_read [] flow cat order = absurd order
flow_read (commit.Flow text ∷ cs) flow cat order =
    let has : HasFlow flow.text flow = subst (λ x. HasFlow x flow) (ap (λ (w : Workflow). w.text) order.0.is) order.0 in
    (has, wired (wiring_of flow) (commit.Flow text ∷ cs) cat (well_wired flow has) order.1.is)
flow_read (commit.Load c block size ∷ cs) flow cat order = absurd order
flow_read (commit.Tick moment ∷ cs) flow cat order = absurd order
flow_read (commit.Run t versions moment seen block size parts ∷ cs) flow cat order = absurd order
flow_read (commit.Joined c from to block size ∷ cs) flow cat order = absurd order
flow_read (commit.Collected kept ∷ cs) flow cat order = absurd order

-- a block that one of several reads finds to be none
bad_read : (files : Files) (commits : List Commit) (flow : Workflow) (cat : Entered) → IsJournalOf files commits flow cat → (rs : List Read) → AllByRecursion (λ (r : Read). r.channel < length flow.channels) rs → AllByRecursion (ReadsOn cat) rs
    → (file at : ℕ) → IsReadDamage flow.channels cat files rs file at → IsBadBlock files file at
bad_read files commits flow cat journal [] within on file at damage = absurd damage
bad_read files commits flow cat journal (r ∷ rs) within on file at (inl damage) = record {
  commits = commits;
  flow = flow;
  catalog = cat;
  journal = journal;
  channel = r.channel;
  in_range = within.0;
  from = r.from;
  hop = on.0.1;
  damage = subst (λ n. IsDamage (schema_in flow r.channel) files (shelf_at cat r.channel).intervals r.from n file at) on.0.0 damage;
}
bad_read files commits flow cat journal (r ∷ rs) within on file at (inr more) = bad_read files commits flow cat journal rs within.1 on.1 file at more.1

-- so it is with the state that it reads
bad_state : (files : Files) (commits : List Commit) (flow : Workflow) (cat : Entered) → IsJournalOf files commits flow cat → (t : ℕ) → t < length flow.tasks → (b : Bool) → keeps_in flow t ≡ b
    → (file at : ℕ) → IsStateDamage (plan_sorts (plan_in flow t).plan) (if b then part_file cat t else None) files file at → IsBadState files file at
bad_state files commits flow cat journal t lt true keeps file at damage = record { commits = commits; flow = flow; catalog = cat; journal = journal; task = t; in_range = lt; keeps = keeps; damage = damage }
bad_state files commits flow cat journal t lt false keeps file at damage = absurd damage

bad_run : (files : Files) (commits : List Commit) (flow : Workflow) (cat : Entered) → IsJournalOf files commits flow cat → (t : ℕ) → t < length flow.tasks → AllByRecursion (λ (r : Read). r.channel < length flow.channels) (newest_reads cat t)
    → (file at : ℕ) → IsStepDamage flow cat files (Run t) file at → IsBadRead files file at
bad_run files commits flow cat journal t lt within file at (inl damage) = inl (bad_read files commits flow cat journal (newest_reads cat t) within (reads_on cat t) file at damage)
bad_run files commits flow cat journal t lt within file at (inr damage) = inr (bad_state files commits flow cat journal t lt (keeps_in flow t) refl file at damage.1)

-- what a run finds bad is of the store that its journal says
pub ran_damage : (h : Bool) (store : Held) (t : ℕ) (s : Stop) (by : Stopped) (a b : List Event) → why s ≡ why_of by → IsReadIn h store a → t < length store.flow.tasks
    → (IsTrue h → StopDamage store t (current a) by) → (IsNoFailedCall by → IsTrue h → b ≡ a) → (file at : ℕ) → s ≡ stop.Damaged file at → IsTrue h → IsBadRead (current b) file at
ran_damage h store t s stopped.Disk a b is read lt told same file at e honest = absurd (no_disk (sym is ∙ ap why e))
  where
    no_disk : step.Disk ≡ step.Damaged file at → ⊥
    no_disk e = cc
ran_damage h store t s (stopped.Full end) a b is read lt told same file at e honest = absurd (no_full (sym is ∙ ap why e))
  where
    no_full : step.Full end ≡ step.Damaged file at → ⊥
    no_full e = cc
ran_damage h store t s (stopped.NoMemory again) a b is read lt told same file at e honest = absurd (no_memory (sym is ∙ ap why e))
  where
    no_memory : step.NoMemory ≡ step.Damaged file at → ⊥
    no_memory e = cc
ran_damage h store t s (stopped.Damaged other place) a b is read lt told same file at e honest =
    let found : step.Damaged other place ≡ step.Damaged file at = sym is ∙ ap why e in
    let own = read honest in
    let flow = flow_read own.0 store.flow store.catalog own.1.in_order in
    let here : IsBadRead (current a) other place =
    bad_run (current a) own.0 store.flow store.catalog (record { generation = store.journal.generation; marked = own.1.marked; log = own.1.log.log; in_order = own.1.in_order })
    t lt (reads_there store.flow flow.0 store.catalog flow.1 t lt) other place (told honest) in
    subst (λ (x : List Event). IsBadRead (current x) file at) (sym (same tt honest)) (subst (λ n. IsBadRead (current a) n at) (file_of found) (subst (λ n. IsBadRead (current a) other n) (place_of found) here))
  where
    file_of : step.Damaged other place ≡ step.Damaged file at → other ≡ file
    file_of e = cc

    place_of : step.Damaged other place ≡ step.Damaged file at → place ≡ at
    place_of e = cc

-- ---- the line

module _ (h : Bool) (honest : IsTrue h) (m b : Seen) where
  told_line : (file at : ℕ) → DamageTold h file at exit.Damaged m b → replies b.history ≡ replies m.history ++ line.damaged file at
  told_line file at told = replies_grow m.history b.history (line.damaged file at) (told.given honest)

  told_files : (file at : ℕ) → DamageTold h file at exit.Damaged m b → current b.history ≡ current m.history
  told_files file at told = λ i n. current_replied m.history b.history (line.damaged file at) (told.given honest) n i

  -- a session that stopped
  pub stop_tells : (reason : Stop) (s : Status) → EndsStopped h reason s m b → ((file at : ℕ) → reason ≡ stop.Damaged file at → IsBadRead (current m.history) file at) → s ≡ exit.Damaged
      → TellsDamage (IsBadRead (current b.history)) m.history b.history
  stop_tells stop.Disk s ends cause e = absurd (no_disk (sym ends.0 ∙ e))
    where
      no_disk : exit.DiskFault ≡ exit.Damaged → ⊥
      no_disk e = cc
  stop_tells stop.Reply s ends cause e = absurd (no_reply (sym ends.0 ∙ e))
    where
      no_reply : exit.ReplyFault ≡ exit.Damaged → ⊥
      no_reply e = cc
  stop_tells (stop.Full length) s ends cause e = absurd (no_full (sym ends.0 ∙ e))
    where
      no_full : exit.Full ≡ exit.Damaged → ⊥
      no_full e = cc
  stop_tells stop.NoMemory s ends cause e = absurd (no_memory (sym ends.0 ∙ e))
    where
      no_memory : exit.NoMemory ≡ exit.Damaged → ⊥
      no_memory e = cc
  stop_tells (stop.Damaged file at) s ends cause e =
      let told : DamageTold h file at exit.Damaged m b = subst (λ x. DamageTold h file at x m b) e ends in
      record {
        file = file;
        at = at;
        cause = subst (λ (f : Files). IsBadRead f file at) (sym (told_files file at told)) (cause file at refl);
        given = [];
        told = told_line file at told;
      }

  -- a store that wasn't opened
  pub unopened_tells : (files : Files) (by : OpenFault) (s : Status) → UnopenedTold by files → EndsUnopened h by s m b → s ≡ exit.Damaged
      → TellsDamage (λ file at. IsBadStore files file at ⊎ IsBadRead (current b.history) file at) m.history b.history
  unopened_tells files fault.Disk s why ends e = absurd (no_disk (sym ends.0 ∙ e))
    where
      no_disk : exit.DiskFault ≡ exit.Damaged → ⊥
      no_disk e = cc
  unopened_tells files fault.NoStore s why ends e = absurd (no_store (sym ends.0 ∙ e))
    where
      no_store : exit.NoStore ≡ exit.Damaged → ⊥
      no_store e = cc
  unopened_tells files fault.NoMemory s why ends e = absurd (no_memory (sym ends.0 ∙ e))
    where
      no_memory : exit.NoMemory ≡ exit.Damaged → ⊥
      no_memory e = cc
  unopened_tells files (fault.Damaged file at) s why ends e =
      let told : DamageTold h file at exit.Damaged m b = subst (λ x. DamageTold h file at x m b) e ends in
      record { file = file; at = at; cause = inl why; given = []; told = told_line file at told }

-- what a session told, told of the whole call
pub either_tells : (files : Files) (a b : List Event) → TellsDamage (IsBadRead (current b)) a b → TellsDamage (λ file at. IsBadStore files file at ⊎ IsBadRead (current b) file at) a b
either_tells files a b tells = record { file = tells.file; at = tells.at; cause = inr tells.cause; given = tells.given; told = tells.told }

-- ---- replies grow

pub grows_nothing : (bytes : List ℕ) → Begins bytes bytes
grows_nothing bytes = ([], sym (append-nil bytes))

pub grows_same : (a b : List Event) → replies b ≡ replies a → Begins (replies a) (replies b)
grows_same a b same = ([], same ∙ sym (append-nil (replies a)))

pub grows_by : (a b : List Event) (bytes : List ℕ) → HasReplied a b bytes → Begins (replies a) (replies b)
grows_by a b bytes is = (bytes, replies_grow a b bytes is)

pub grows_both : (x y z : List ℕ) → Begins x y → Begins y z → Begins x z
grows_both x y z one two = (one.0 ++ two.0, two.1 ∙ ap (λ t. t ++ two.0) one.1 ∙ append_assoc x one.0 two.0)

-- a line that was told behind other replies was told from before them on
pub tells_behind : (Cause : ℕ → ℕ → Type 0) (a m b : List Event) → Begins (replies a) (replies m) → TellsDamage Cause m b → TellsDamage Cause a b
tells_behind Cause a m b grew tells = record {
  file = tells.file;
  at = tells.at;
  cause = tells.cause;
  given = grew.0 ++ tells.given;
  told =
      let line_is = line.damaged tells.file tells.at in
      tells.told ∙ ap (λ t. t ++ (tells.given ++ line_is)) grew.1 ∙ append_assoc (replies a) grew.0 (tells.given ++ line_is) ∙ ap (λ t. replies a ++ t) (sym (append_assoc grew.0 tells.given line_is));
}

-- a broken show gave a front of its text, and one that was stopped otherwise nothing
pub unshown_grows : (store : Held) (c : ℕ) (a b : List Event) (by : Unshown) → UnshownGave store c a b by → Begins (replies a) (replies b)
unshown_grows store c a b unshown.Disk same = grows_same a b (ap replies same)
unshown_grows store c a b (unshown.Damaged file at) same = grows_same a b (ap replies same)
unshown_grows store c a b unshown.Reply gave = grows_by a b gave.replied.given gave.replied.replied
unshown_grows store c a b unshown.NoMemory same = grows_same a b (ap replies same)
