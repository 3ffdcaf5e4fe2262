-- A session that stopped, by why it did.
use Rattle.std.proofs.Common.{◌≡◌, inl, inr, ℕ, ◌+◌, ◌≤◌, Bool, List, ◌∷◌, ◌++◌, sym, ap, subst, arith}
use Rattle.std.specs.Bool.{IsTrue}
use Rattle.nova_outside.specs.History.{current, replies}
use Rattle.nova_outside.specs.Replies.{HasReplied, HasRepliedInPart}
use Rattle.nova_outside.proofs.ReplyLemmas.{replies_grow}
use Rattle.nova_commit.specs.declared.commit.Commit.{Commit}
use Rattle.nova_script.specs.Replies as line
use Rattle.nova_machine.specs.State.{State}
use Rattle.nova_machine.specs.Steps.{Step, after_all}
use Rattle.nova_runner.specs.Acts.{IsStepDamage, read_size}
use Rattle.nova_runner.specs.Files.{IsSettled}
use Rattle.nova_runner.specs.Held.{Held}
use Rattle.nova_runner.specs.Steps.{Why, NoMemory}
use Rattle.nova_runner.specs.Steps as step
use Rattle.nova_runner.proofs.Shows.{current_replied, settled_replied}
use Rattle.nova_engine.specs.declared.status.Status.{Status}
use Rattle.nova_engine.specs.declared.status.Status.TheVariants as exit
use Rattle.nova_engine.specs.declared.stop.Stop.{Stop}
use Rattle.nova_engine.specs.declared.stop.Stop.TheVariants as stop
use Rattle.nova_engine.specs.Ending.{DamageTold, EndsStopped}
use Rattle.nova_engine.specs.Seen.{Seen}
use Rattle.nova_engine.specs.Sessions.{SessionTold, session_steps}
use Rattle.nova_engine.specs.Stopping.{why}
use Rattle.nova_engine.specs.Taking.{StopsIn, Takes}
use Rattle.nova_engine.specs.Turns.{first, read_sizes}
use Rattle.nova_engine.proofs.Ending.{told_broken_line, told_damage, told_disk, told_full, told_memory, told_reply}

-- ---- statuses

-- a session that stopped is neither done, nor did a read fail or was the input too long
pub record IsStopEnd (s : Status) : Type 0 where
  pub done : s ≡ exit.Done → ⊥
  pub read : s ≡ exit.ReadFault → ⊥
  pub long : s ≡ exit.InputTooLong → ⊥

disk_end : IsStopEnd exit.DiskFault
disk_end = record { done = λ e. cc; read = λ e. cc; long = λ e. cc }

reply_end : IsStopEnd exit.ReplyFault
reply_end = record { done = λ e. cc; read = λ e. cc; long = λ e. cc }

full_end : IsStopEnd exit.Full
full_end = record { done = λ e. cc; read = λ e. cc; long = λ e. cc }

memory_end : IsStopEnd exit.NoMemory
memory_end = record { done = λ e. cc; read = λ e. cc; long = λ e. cc }

damaged_end : IsStopEnd exit.Damaged
damaged_end = record { done = λ e. cc; read = λ e. cc; long = λ e. cc }

damage_end : (h : Bool) (file at : ℕ) (s : Status) (m b : Seen) → DamageTold h file at s m b → IsStopEnd s
damage_end h file at exit.Damaged m b told = damaged_end
damage_end h file at exit.ReplyFault m b told = reply_end
damage_end h file at _ m b told = absurd told

pub stop_end : (h : Bool) (why : Stop) (s : Status) (m b : Seen) → EndsStopped h why s m b → IsStopEnd s
stop_end h stop.Disk s m b ends = subst IsStopEnd (sym ends.0) disk_end
stop_end h stop.Reply s m b ends = subst IsStopEnd (sym ends.0) reply_end
stop_end h (stop.Damaged file at) s m b ends = damage_end h file at s m b ends
stop_end h (stop.Full length) s m b ends = subst IsStopEnd (sym ends.0) full_end
stop_end h stop.NoMemory s m b ends = subst IsStopEnd (sym ends.0) memory_end

-- ---- what is told

-- one step is read at most behind those that were taken
one_read : (at : Held) (t : State) (later more : List Step) (step : Step) (before now : ℕ) → later ≡ step ∷ more → now ≤ before + read_size at.catalog step → now ≤ before + read_sizes at.catalog t (first later)
one_read at t later more step before now is reads = subst (λ l. now ≤ before + read_sizes at.catalog t (first l)) (sym is) (omega (arith, reads))

-- and where none was read
none_read : (at : Held) (t : State) (later : List Step) (before now : ℕ) → now ≡ before → now ≤ before + read_sizes at.catalog t (first later)
none_read at t later before now same = omega (arith, same)

module _ (h : Bool) (honest : IsTrue h) (store : Held) (commits : List Commit) (s : State) (input taken : List ℕ) (a m : Seen) where
  -- the line that tells the damage
  told_line : (file place : ℕ) (ended : Status) (b : Seen) (at : Held) (done later more : List Step) (step : Step) (mid : Seen) → Takes store at commits s done a mid → session_steps s input ≡ done ++ later → later ≡ step ∷ more
      → m.history ≡ mid.history → IsStepDamage (after_all s done).flow at.catalog (current mid.history) step file place → m.read ≤ mid.read + read_size at.catalog step → DamageTold h file place ended m b
      → SessionTold ended store.journal.generation commits store.catalog s input taken a b
  told_line file place exit.Damaged b at done later more step mid takes parts is still damage reads told =
      let gave : HasReplied mid.history b.history (line.damaged file place) = subst (λ x. HasReplied x b.history (line.damaged file place)) still (told.given honest) in
      let same : current b.history ≡ current mid.history = λ i n. current_replied mid.history b.history (line.damaged file place) gave n i in
      let read = told.reads in
      told_damage store at commits s done later a mid b takes same (settled_replied mid.history b.history (line.damaged file place) gave) (one_read at (after_all s done) later more step mid.read b.read is (omega (arith, reads, read)))
      input taken file place step more parts is damage (replies_grow mid.history b.history (line.damaged file place) gave)
  told_line file place exit.ReplyFault b at done later more step mid takes parts is still damage reads told =
      let part : HasRepliedInPart mid.history b.history (line.damaged file place) = subst (λ x. HasRepliedInPart x b.history (line.damaged file place)) still (told.given honest) in
      let same : current b.history ≡ current mid.history = λ i n. current_replied mid.history b.history part.given part.replied n i in
      let read = told.reads in
      told_broken_line store at commits s done later a mid b takes same (settled_replied mid.history b.history part.given part.replied) (one_read at (after_all s done) later more step mid.read b.read is (omega (arith, reads, read)))
      input taken file place step more parts is damage part.given part.front (replies_grow mid.history b.history part.given part.replied)
  told_line file place _ b at done later more step mid takes parts is still damage reads told = absurd told

  pub stopped_told : (reason : Stop) (ended : Status) (b : Seen) → StopsIn (why reason) store commits s (session_steps s input) a m → EndsStopped h reason ended m b
      → SessionTold ended store.journal.generation commits store.catalog s input taken a b
  stopped_told stop.Disk ended b stops ends =
      subst (λ e. SessionTold e store.journal.generation commits store.catalog s input taken a b) (sym ends.0)
      (subst (λ x. SessionTold exit.DiskFault store.journal.generation commits store.catalog s input taken a x) (sym ends.1)
      (elim stops.ends [
        | inl one ↦ told_disk store stops.at commits s stops.done one.more one.step a stops.mid m stops.takes stops.later input taken one.is stops.parts one.stopped one.reads
        | inr memory ↦ absurd (no_disk memory.0)
      ]))
    where
      no_disk : step.Disk ≡ NoMemory → ⊥
      no_disk e = cc
  stopped_told stop.Reply ended b stops ends =
      subst (λ e. SessionTold e store.journal.generation commits store.catalog s input taken a b) (sym ends.0)
      (subst (λ x. SessionTold exit.ReplyFault store.journal.generation commits store.catalog s input taken a x) (sym ends.1)
      (elim stops.ends [
        | inl one ↦ told_reply store stops.at commits s stops.done one.more one.step a stops.mid m stops.takes stops.later input taken one.is stops.parts one.stopped one.reads
        | inr memory ↦ absurd (no_reply memory.0)
      ]))
    where
      no_reply : step.Reply ≡ NoMemory → ⊥
      no_reply e = cc
  stopped_told (stop.Damaged file place) ended b stops ends =
      elim stops.ends [
        | inl one ↦ told_line file place ended b stops.at stops.done stops.later one.more one.step stops.mid stops.takes stops.parts one.is one.stopped.0 one.stopped.1 one.reads ends
        | inr memory ↦ absurd (no_damage memory.0)
      ]
    where
      no_damage : step.Damaged file place ≡ NoMemory → ⊥
      no_damage e = cc
  stopped_told (stop.Full length) ended b stops ends =
      subst (λ e. SessionTold e store.journal.generation commits store.catalog s input taken a b) (sym ends.0)
      (subst (λ x. SessionTold exit.Full store.journal.generation commits store.catalog s input taken a x) (sym ends.1)
      (elim stops.ends [
        | inl one ↦ told_full store stops.at commits s stops.done stops.later a stops.mid m stops.takes (ap current one.stopped.0) (λ x c was. subst (λ e. IsSettled x c e) (sym one.stopped.0) was) (one_read stops.at (after_all s stops.done) stops.later one.more one.step stops.mid.read m.read one.is one.reads)
            input taken one.step one.more length stops.parts one.is one.stopped.1 (ap replies one.stopped.0)
        | inr memory ↦ absurd (no_full memory.0)
      ]))
    where
      no_full : step.Full length ≡ NoMemory → ⊥
      no_full e = cc
  stopped_told stop.NoMemory ended b stops ends =
      subst (λ e. SessionTold e store.journal.generation commits store.catalog s input taken a b) (sym ends.0)
      (subst (λ x. SessionTold exit.NoMemory store.journal.generation commits store.catalog s input taken a x) (sym ends.1)
      (elim stops.ends [
        | inl one ↦ told_memory store stops.at commits s stops.done stops.later a stops.mid m stops.takes (ap current one.stopped) (λ x c was. subst (λ e. IsSettled x c e) (sym one.stopped) was) (one_read stops.at (after_all s stops.done) stops.later one.more one.step stops.mid.read m.read one.is one.reads)
            input taken stops.parts (ap replies one.stopped)
        | inr memory ↦ told_memory store stops.at commits s stops.done stops.later a stops.mid m stops.takes (ap (λ (x : Seen). current x.history) memory.1) (λ x c was. subst (λ (e : Seen). IsSettled x c e.history) (sym memory.1) was)
            (none_read stops.at (after_all s stops.done) stops.later stops.mid.read m.read (ap (λ (x : Seen). x.read) memory.1)) input taken stops.parts (ap (λ (x : Seen). replies x.history) memory.1)
      ]))
