-- How a session ends, told by its steps.
use Rattle.std.proofs.Common.{◌≡◌, ◌≢◌, ◌⊎◌, inl, inr, ℕ, ◌+◌, ◌<◌, ◌≤◌, List, [], ◌∷◌, ◌++◌, map, Option, Some, None, refl, sym, ap, ◌∙◌, append_assoc, subst, arith}
use Rattle.std.proofs.lemmas.List.{append-nil}
use Rattle.nova_outside.specs.Disk.{Files}
use Rattle.nova_outside.specs.History.{Begins, current, replies}
use Rattle.nova_path.specs.Lists.{IsOneOf}
use Rattle.nova_channel.specs.Reading.{block_file}
use Rattle.nova_journal.specs.Log.{LogTo}
use Rattle.nova_commit.specs.Commits.{commit_bytes}
use Rattle.nova_commit.specs.declared.commit.Commit.{Commit}
use Rattle.nova_meta.specs.Catalog.{Entered}
use Rattle.nova_script.specs.Replies as line
use Rattle.nova_machine.specs.Workflow.{Workflow}
use Rattle.nova_machine.specs.State.{State, ended}
use Rattle.nova_machine.specs.Steps.{Step, after, after_all}
use Rattle.nova_machine.specs.Replies.{text}
use Rattle.nova_machine.proofs.Turns.{after_all-append, flow_after, flow_stays}
use Rattle.nova_runner.specs.Acts.{IsFull, IsStepDamage, MayChange, behind, catalog_behind, own_commit, read_size}
use Rattle.nova_runner.specs.Files.{IsSettled, journal_file}
use Rattle.nova_runner.specs.Held.{Held}
use Rattle.nova_runner.specs.Stands.{StandsBut}
use Rattle.nova_runner.specs.Steps.{BrokeOff, HasKeptRoom, HeldBack, IsKeptBy, LosesNone, NoRoom}
use Rattle.nova_engine.specs.declared.status.Status.{Status}
use Rattle.nova_engine.specs.declared.status.Status.TheVariants as exit
use Rattle.nova_engine.specs.Seen.{Seen}
use Rattle.nova_engine.specs.Sessions.{DamagedNext, FullNext, GivenBy, IsKeptBehind, SessionTold, reached, session_steps, whole_steps}
use Rattle.nova_engine.specs.Taking.{Takes}
use Rattle.nova_engine.specs.Turns.{IsTheirs, NoneDamaged, StaysShort, catalog_after, first, own_commits, read_sizes}
use Rattle.nova_engine.proofs.Takings.{loses_both, one_of_left, one_of_right, short_both, short_one}
use Rattle.nova_engine.proofs.Undamaged.{below_of, none_append, none_moved, none_one, not_own}
use Rattle.nova_engine.proofs.Turns.{catalog_after-append, own_commits-append, read_sizes-append}

-- reading no less behind more steps
more_reads : (cat : Entered) (s : State) (xs ys : List Step) → read_sizes cat s xs ≤ read_sizes cat s (xs ++ ys)
more_reads cat s xs ys = let sizes = read_sizes-append cat s xs ys in omega (arith, sizes)

-- ---- steps that were taken

module _ (store new : Held) (commits : List Commit) (s : State) (xs later : List Step) (a b : Seen) (takes : Takes store new commits s xs a b) where
  pub kept_behind : IsKeptBehind store.journal.generation commits store.catalog s xs later xs (current a.history) (current b.history)
  kept_behind = record {
    stands = subst (λ g. StandsBut g (commits ++ own_commits store.catalog s xs) (catalog_after store.catalog s xs) (current b.history) (ended (after_all s xs))) takes.generation
        (subst (λ (c : Entered). StandsBut new.journal.generation (commits ++ own_commits store.catalog s xs) c (current b.history) (ended (after_all s xs))) takes.catalog takes.stands.by);
    no_loss = subst (λ (f : Workflow). LosesNone f store.catalog (catalog_after store.catalog s xs) (current a.history) (current b.history)) (sym (flow_stays s xs))
        (subst (λ (c : Entered). LosesNone s.flow store.catalog c (current a.history) (current b.history)) takes.catalog takes.no_loss);
  }

  -- the call ended right behind them, of its own accord
  pub told_behind : (status : Status) (input taken : List ℕ) → session_steps s input ≡ xs ++ later
      → GivenBy store.journal.generation commits store.catalog s xs later status (current b.history) (text s xs) → reached status xs later ≡ xs → status ≢ exit.Full
      → ((status ≡ exit.ReadFault) ⊎ (status ≡ exit.InputTooLong) → xs ≡ whole_steps s taken) → (status ≡ exit.Done → later ≡ [])
      → SessionTold status store.journal.generation commits store.catalog s input taken a b
  told_behind status input taken parts gives reach full cut whole = record {
    done = xs;
    later = later;
    parts = parts;
    given = text s xs;
    replied = takes.replied;
    gives = gives;
    kept = inl kept_behind;
    settled = λ steady was. subst (λ g. IsSettled g (catalog_after store.catalog s xs) b.history) takes.generation (subst (λ (c : Entered). IsSettled new.journal.generation c b.history) takes.catalog (takes.settled was));
    undamaged = takes.undamaged;
    room = takes.room;
    others = λ n free. takes.others n (λ is. free (subst (λ zs. IsTheirs store.journal.generation (own_commits store.catalog s zs) n) (sym reach) is));
    full = λ e. absurd (full e);
    cut = cut;
    whole = whole;
    reads = let most = more_reads store.catalog s xs (first later) in omega (arith, takes.reads, most);
  }

-- ---- a session that stopped

-- one more step's commit
one_commit : (cat : Entered) (s : State) (xs : List Step) (x : Step) → own_commits cat s (xs ++ x ∷ []) ≡ own_commits cat s xs ++ behind [] (own_commit (catalog_after cat s xs) (after_all s xs) x)
one_commit cat s xs x = own_commits-append cat s xs (x ∷ []) ∙ ap (λ cs. own_commits cat s xs ++ cs) (append-nil (behind [] (own_commit (catalog_after cat s xs) (after_all s xs) x)))

theirs_by : (g : ℕ) (own : Option Commit) (n : ℕ) → MayChange g own n → IsTheirs g (behind [] own) n
theirs_by g None n may = absurd may
theirs_by g (Some c) n may = (c, inl refl, may)

module _ (store at : Held) (commits : List Commit) (s : State) (done more : List Step) (step : Step) (a mid b : Seen) (takes : Takes store at commits s done a mid) where
  abbrev pub cat : Entered
  cat = store.catalog

  abbrev pub state : State
  state = after_all s done

  abbrev pub behind_commits : List Commit
  behind_commits = commits ++ own_commits cat s done

  own_is : own_commit at.catalog state step ≡ own_commit (catalog_after cat s done) state step
  own_is = ap (λ c. own_commit c state step) takes.catalog

  -- what is kept behind the step too
  all_commits : behind behind_commits (own_commit at.catalog state step) ≡ commits ++ own_commits cat s (done ++ step ∷ [])
  all_commits =
      ap (behind behind_commits) own_is
      ∙ with_own behind_commits (own_commit (catalog_after cat s done) state step)
      ∙ append_assoc commits (own_commits cat s done) (behind [] (own_commit (catalog_after cat s done) state step))
      ∙ ap (λ cs. commits ++ cs) (sym (one_commit cat s done step))
    where
      with_own : (cs : List Commit) (own : Option Commit) → behind cs own ≡ cs ++ behind [] own
      with_own cs None = sym (append-nil cs)
      with_own cs (Some c) = refl

  all_catalog : catalog_behind at.catalog (own_commit at.catalog state step) ≡ catalog_after cat s (done ++ step ∷ [])
  all_catalog = ap (λ c. catalog_behind c (own_commit c state step)) takes.catalog ∙ sym (catalog_after-append cat s done (step ∷ []))

  all_state : after state step ≡ after_all s (done ++ step ∷ [])
  all_state = sym (after_all-append s done (step ∷ []))

  later_loss : (flow : Workflow) (now : Entered) (files : Files) → flow ≡ s.flow → LosesNone flow at.catalog now (current mid.history) files → LosesNone s.flow cat now (current a.history) files
  later_loss flow now files same loss = loses_both s.flow flow cat at.catalog now (current a.history) (current mid.history) files same takes.no_loss loss

  pub kept_more : IsKeptBy at.journal.generation (behind behind_commits (own_commit at.catalog state step)) at.catalog (catalog_behind at.catalog (own_commit at.catalog state step)) (current mid.history) (current b.history) (after state step)
      → IsKeptBehind store.journal.generation commits cat s done more (done ++ step ∷ []) (current a.history) (current b.history)
  kept_more kept = record {
    stands = subst (λ g. StandsBut g (commits ++ own_commits cat s (done ++ step ∷ [])) (catalog_after cat s (done ++ step ∷ [])) (current b.history) (ended (after_all s (done ++ step ∷ [])))) takes.generation
        (subst (λ (c : Entered). StandsBut at.journal.generation (commits ++ own_commits cat s (done ++ step ∷ [])) c (current b.history) (ended (after_all s (done ++ step ∷ [])))) all_catalog
        (subst (λ cs. StandsBut at.journal.generation cs (catalog_behind at.catalog (own_commit at.catalog state step)) (current b.history) (ended (after_all s (done ++ step ∷ [])))) all_commits
        (subst (λ (t : State). StandsBut at.journal.generation (behind behind_commits (own_commit at.catalog state step)) (catalog_behind at.catalog (own_commit at.catalog state step)) (current b.history) (ended t)) all_state kept.stands)));
    no_loss = subst (λ (f : Workflow). LosesNone f cat (catalog_after cat s (done ++ step ∷ [])) (current a.history) (current b.history)) (sym (flow_stays s (done ++ step ∷ [])))
        (subst (λ (c : Entered). LosesNone s.flow cat c (current a.history) (current b.history)) all_catalog
        (later_loss (after state step).flow (catalog_behind at.catalog (own_commit at.catalog state step)) (current b.history) (flow_after state step ∙ flow_stays s done) kept.no_loss));
  }

  pub kept_same : IsKeptBy at.journal.generation behind_commits at.catalog at.catalog (current mid.history) (current b.history) state
      → IsKeptBehind store.journal.generation commits cat s done more done (current a.history) (current b.history)
  kept_same kept = record {
    stands = subst (λ g. StandsBut g behind_commits (catalog_after cat s done) (current b.history) (ended state)) takes.generation
        (subst (λ (c : Entered). StandsBut at.journal.generation behind_commits c (current b.history) (ended state)) takes.catalog kept.stands);
    no_loss = subst (λ (f : Workflow). LosesNone f cat (catalog_after cat s done) (current a.history) (current b.history)) (sym (flow_stays s done))
        (subst (λ (c : Entered). LosesNone s.flow cat c (current a.history) (current b.history)) takes.catalog
        (later_loss state.flow at.catalog (current b.history) (flow_stays s done) kept.no_loss));
  }

  -- and the journal stays short
  pub room_more : HasKeptRoom behind_commits (own_commit at.catalog state step) → StaysShort commits (own_commits cat s (done ++ step ∷ []))
  room_more room =
      let here = short_one behind_commits (own_commit (catalog_after cat s done) state step) (subst (λ o. HasKeptRoom behind_commits o) own_is room) in
      subst (λ own. StaysShort commits own) (sym (own_commits-append cat s done (step ∷ [])))
      (short_both commits (own_commits cat s done) (behind [] (own_commit (catalog_after cat s done) state step) ++ []) takes.room here)

  -- files that no step up to this one names
  pub others_more : ((n : ℕ) → (MayChange at.journal.generation (own_commit at.catalog state step) n → ⊥) → current b.history n ≡ current mid.history n)
      → (n : ℕ) → (IsTheirs store.journal.generation (own_commits cat s (done ++ step ∷ [])) n → ⊥) → current b.history n ≡ current a.history n
  others_more others n free =
      others n (λ may. free (theirs_last n may)) ∙ takes.others n (λ is. free (theirs_first n is))
    where
      theirs_first : (n : ℕ) → IsTheirs store.journal.generation (own_commits cat s done) n → IsTheirs store.journal.generation (own_commits cat s (done ++ step ∷ [])) n
      theirs_first n is = (is.0, subst (λ cs. IsOneOf cs is.0) (sym (one_commit cat s done step)) (one_of_left (own_commits cat s done) _ is.0 is.1), is.2)

      theirs_last : (n : ℕ) → MayChange at.journal.generation (own_commit at.catalog state step) n → IsTheirs store.journal.generation (own_commits cat s (done ++ step ∷ [])) n
      theirs_last n may =
          let here = theirs_by store.journal.generation (own_commit (catalog_after cat s done) state step) n
          (subst (λ g. MayChange g (own_commit (catalog_after cat s done) state step) n) takes.generation (subst (λ own. MayChange at.journal.generation own n) own_is may)) in
          (here.0, subst (λ cs. IsOneOf cs here.0) (sym (one_commit cat s done step)) (one_of_right (own_commits cat s done) _ here.0 here.1), here.2)

  -- what was read before the step reads the same behind it
  pub none_before : ((n : ℕ) → (MayChange at.journal.generation (own_commit at.catalog state step) n → ⊥) → current b.history n ≡ current mid.history n) → NoneDamaged (current b.history) cat s done
  none_before others =
      none_moved (current mid.history) (current b.history) cat s done (below_of store commits a.history s takes.from)
      (λ n lt. others (block_file n) (not_own at.journal.generation at.catalog state step n (subst (λ (c : Entered). n < c.next) (sym takes.catalog) lt))) takes.undamaged

  none_more : ((n : ℕ) → (MayChange at.journal.generation (own_commit at.catalog state step) n → ⊥) → current b.history n ≡ current mid.history n)
      → ((file place : ℕ) → IsStepDamage state.flow at.catalog (current mid.history) step file place → ⊥) → NoneDamaged (current b.history) cat s (done ++ step ∷ [])
  none_more others none =
      none_append (current b.history) cat s done (step ∷ []) (none_before others)
      (subst (λ (c : Entered). NoneDamaged (current b.history) c state (step ∷ [])) takes.catalog
      (none_one at.journal.generation at.catalog state step (current mid.history) (current b.history) (below_of at behind_commits mid.history state takes.stands) others none))

  pub reads_more : b.read ≤ mid.read + read_size at.catalog step → b.read ≤ a.read + read_sizes cat s (done ++ step ∷ [])
  reads_more reads =
      let sizes = read_sizes-append cat s done (step ∷ []) in
      let here : read_size at.catalog step ≡ read_size (catalog_after cat s done) step = ap (λ c. read_size c step) takes.catalog in
      omega (arith, reads, takes.reads, sizes, here)

  parts_more : (later : List Step) → later ≡ step ∷ more → (xs : List Step) → xs ≡ done ++ later → xs ≡ (done ++ step ∷ []) ++ more
  parts_more later is xs parts = parts ∙ ap (λ l. done ++ l) is ∙ sym (append_assoc done (step ∷ []) more)

  -- a call on a file failed
  pub told_disk : (later : List Step) (input taken : List ℕ) → later ≡ step ∷ more → session_steps s input ≡ done ++ later → BrokeOff at behind_commits state step mid.history b.history → b.read ≤ mid.read + read_size at.catalog step
      → SessionTold exit.DiskFault store.journal.generation commits cat s input taken a b
  told_disk later input taken is parts broke reads = record {
    done = done;
    later = later;
    parts = parts;
    given = text s done;
    replied = broke.silent ∙ takes.replied;
    gives = refl;
    kept = elim broke.left [
      | inl same ↦ inl (kept_same same)
      | inr next ↦ inr (
        refl,
        record {
          step = step;
          more = more;
          next = is;
          kept = kept_more (subst (λ own. IsKeptBy at.journal.generation (behind behind_commits own) at.catalog (catalog_behind at.catalog own) (current mid.history) (current b.history) (after state step)) (sym next.1) next.2);
          room = room_more broke.room;
        },
      )
    ];
    settled = λ steady was. absurd steady;
    undamaged = none_before broke.others;
    room = takes.room;
    others = λ n free. others_more broke.others n (λ theirs. free (subst (λ l. IsTheirs store.journal.generation (own_commits cat s (done ++ first l)) n) (sym is) theirs));
    full = λ e. cc;
    cut = λ e. elim e [ inl one ↦ absurd (not_read one) | inr two ↦ absurd (not_long two) ];
    whole = λ e. absurd (not_done e);
    reads = subst (λ l. b.read ≤ a.read + read_sizes cat s (done ++ first l)) (sym is) (reads_more reads);
  }
    where
      not_read : exit.DiskFault ≡ exit.ReadFault → ⊥
      not_read e = cc

      not_long : exit.DiskFault ≡ exit.InputTooLong → ⊥
      not_long e = cc

      not_done : exit.DiskFault ≡ exit.Done → ⊥
      not_done e = cc

  -- the step's reply failed
  pub told_reply : (later : List Step) (input taken : List ℕ) → later ≡ step ∷ more → session_steps s input ≡ done ++ later → HeldBack at behind_commits state step mid.history b.history → b.read ≤ mid.read + read_size at.catalog step
      → SessionTold exit.ReplyFault store.journal.generation commits cat s input taken a b
  told_reply later input taken is parts held reads = record {
    done = done ++ step ∷ [];
    later = more;
    parts = parts_more later is (session_steps s input) parts;
    given = text s done ++ held.given;
    replied = held.replied ∙ ap (λ t. t ++ held.given) takes.replied ∙ append_assoc (replies a.history) (text s done) held.given;
    gives = inl (record { before = done; step = step; last = refl; front = held.given; begins = held.front; is = refl });
    kept = inl (kept_more held.kept);
    settled = λ steady was. absurd steady;
    undamaged = none_more held.others held.undamaged;
    room = room_more held.room;
    others = others_more held.others;
    full = λ e. cc;
    cut = λ e. elim e [ inl one ↦ absurd (not_read one) | inr two ↦ absurd (not_long two) ];
    whole = λ e. absurd (not_done e);
    reads = let here = reads_more reads in let most = more_reads cat s (done ++ step ∷ []) (first more) in omega (arith, here, most);
  }
    where
      not_read : exit.ReplyFault ≡ exit.ReadFault → ⊥
      not_read e = cc

      not_long : exit.ReplyFault ≡ exit.InputTooLong → ⊥
      not_long e = cc

      not_done : exit.ReplyFault ≡ exit.Done → ⊥
      not_done e = cc

-- ---- behind steps that were taken, with files that read the same

module _ (store at : Held) (commits : List Commit) (s : State) (done later : List Step) (a mid b : Seen) (takes : Takes store at commits s done a mid) (same : current b.history ≡ current mid.history) (still : (x : ℕ) (c : Entered) → IsSettled x c mid.history → IsSettled x c b.history) (most : b.read ≤ mid.read + read_sizes at.catalog (after_all s done) (first later)) where
  kept_still : IsKeptBehind store.journal.generation commits store.catalog s done later done (current a.history) (current b.history)
  kept_still = subst (λ (f : Files). IsKeptBehind store.journal.generation commits store.catalog s done later done (current a.history) f) (sym same) (kept_behind store at commits s done later a mid takes)

  others_still : (n : ℕ) → (IsTheirs store.journal.generation (own_commits store.catalog s done) n → ⊥) → current b.history n ≡ current a.history n
  others_still n free = ap (λ (f : Files). f n) same ∙ takes.others n free

  settled_still : IsSettled store.journal.generation store.catalog a.history → IsSettled store.journal.generation (catalog_after store.catalog s done) b.history
  settled_still was =
      still store.journal.generation (catalog_after store.catalog s done)
      (subst (λ g. IsSettled g (catalog_after store.catalog s done) mid.history) takes.generation (subst (λ (c : Entered). IsSettled at.journal.generation c mid.history) takes.catalog (takes.settled was)))

  reads_still : b.read ≤ a.read + read_sizes store.catalog s (done ++ first later)
  reads_still =
      let sizes = read_sizes-append store.catalog s done (first later) in
      let here : read_sizes at.catalog (after_all s done) (first later) ≡ read_sizes (catalog_after store.catalog s done) (after_all s done) (first later) = ap (λ c. read_sizes c (after_all s done) (first later)) takes.catalog in
      omega (arith, most, takes.reads, sizes, here)

  -- with this much replied, by a status that has no other part
  pub told_still : (status : Status) (input taken given : List ℕ) → session_steps s input ≡ done ++ later → replies b.history ≡ replies a.history ++ given
      → GivenBy store.journal.generation commits store.catalog s done later status (current b.history) given → reached status done later ≡ done
      → (status ≡ exit.Full → FullNext store.journal.generation commits store.catalog s done later (current b.history))
      → ((status ≡ exit.ReadFault) ⊎ (status ≡ exit.InputTooLong) → ⊥) → (status ≡ exit.Done → ⊥)
      → SessionTold status store.journal.generation commits store.catalog s input taken a b
  told_still status input taken given parts replied gives reach full cut whole = record {
    done = done;
    later = later;
    parts = parts;
    given = given;
    replied = replied;
    gives = gives;
    kept = inl kept_still;
    settled = λ steady was. settled_still was;
    undamaged = subst (λ (f : Files). NoneDamaged f store.catalog s done) (sym same) takes.undamaged;
    room = takes.room;
    others = λ n free. others_still n (λ is. free (subst (λ zs. IsTheirs store.journal.generation (own_commits store.catalog s zs) n) (sym reach) is));
    full = full;
    cut = λ e. absurd (cut e);
    whole = λ e. absurd (whole e);
    reads = reads_still;
  }

  -- the next step found damage
  damaged_next : (file place : ℕ) (step : Step) (more : List Step) → later ≡ step ∷ more → IsStepDamage (after_all s done).flow at.catalog (current mid.history) step file place
      → DamagedNext store.journal.generation commits store.catalog s done later (current b.history) file place
  damaged_next file place step more is damage = record {
    step = step;
    more = more;
    next = is;
    is = subst (λ (f : Files). IsStepDamage s.flow (catalog_after store.catalog s done) f step file place) (sym same)
        (subst (λ (c : Entered). IsStepDamage s.flow c (current mid.history) step file place) takes.catalog
        (subst (λ (f : Workflow). IsStepDamage f at.catalog (current mid.history) step file place) (flow_stays s done) damage));
  }

  pub told_damage : (input taken : List ℕ) (file place : ℕ) (step : Step) (more : List Step) → session_steps s input ≡ done ++ later → later ≡ step ∷ more
      → IsStepDamage (after_all s done).flow at.catalog (current mid.history) step file place → replies b.history ≡ replies mid.history ++ line.damaged file place
      → SessionTold exit.Damaged store.journal.generation commits store.catalog s input taken a b
  told_damage input taken file place step more parts is damage replied =
      told_still exit.Damaged input taken (text s done ++ line.damaged file place) parts
      (replied ∙ ap (λ t. t ++ line.damaged file place) takes.replied ∙ append_assoc (replies a.history) (text s done) (line.damaged file place))
      (record { file = file; at = place; damaged = damaged_next file place step more is damage; is = refl })
      refl (λ e. cc) (λ e. elim e [ inl one ↦ cc | inr two ↦ cc ]) (λ e. cc)

  pub told_broken_line : (input taken : List ℕ) (file place : ℕ) (step : Step) (more : List Step) → session_steps s input ≡ done ++ later → later ≡ step ∷ more
      → IsStepDamage (after_all s done).flow at.catalog (current mid.history) step file place → (front : List ℕ) → Begins front (line.damaged file place) → replies b.history ≡ replies mid.history ++ front
      → SessionTold exit.ReplyFault store.journal.generation commits store.catalog s input taken a b
  told_broken_line input taken file place step more parts is damage front begins replied =
      told_still exit.ReplyFault input taken (text s done ++ front) parts
      (replied ∙ ap (λ t. t ++ front) takes.replied ∙ append_assoc (replies a.history) (text s done) front)
      (inr (record { file = file; at = place; damaged = damaged_next file place step more is damage; front = front; begins = begins; is = refl }))
      refl (λ e. cc) (λ e. elim e [ inl one ↦ cc | inr two ↦ cc ]) (λ e. cc)

  pub told_memory : (input taken : List ℕ) → session_steps s input ≡ done ++ later → replies b.history ≡ replies mid.history → SessionTold exit.NoMemory store.journal.generation commits store.catalog s input taken a b
  told_memory input taken parts replied =
      told_still exit.NoMemory input taken (text s done) parts (replied ∙ takes.replied) refl
      refl (λ e. cc) (λ e. elim e [ inl one ↦ cc | inr two ↦ cc ]) (λ e. cc)

  pub told_full : (input taken : List ℕ) (step : Step) (more : List Step) (end : ℕ) → session_steps s input ≡ done ++ later → later ≡ step ∷ more → NoRoom at (after_all s done) step end → replies b.history ≡ replies mid.history
      → SessionTold exit.Full store.journal.generation commits store.catalog s input taken a b
  told_full input taken step more end parts is room replied =
      told_still exit.Full input taken (text s done) parts (replied ∙ takes.replied) refl
      refl (λ e. record {
        step = step;
        more = more;
        next = is;
        own = room.own;
        is = ap (λ c. own_commit c (after_all s done) step) (sym takes.catalog) ∙ room.is;
        end = at.journal.length;
        long = subst (λ (f : Files). LogTo at.journal.length (map commit_bytes (commits ++ own_commits store.catalog s done)) (f (journal_file store.journal.generation))) (sym same)
            (subst (λ g. LogTo at.journal.length (map commit_bytes (commits ++ own_commits store.catalog s done)) (current mid.history (journal_file g))) takes.generation takes.stands.long);
        full = subst (λ (c : Entered). IsFull at.journal.length c room.own) takes.catalog room.full;
      }) (λ e. elim e [ inl one ↦ cc | inr two ↦ cc ]) (λ e. cc)
