-- A session from its first byte on.
use Rattle.std.proofs.Common.{◌≡◌, inl, inr, ℕ, ◌+◌, ◌<◌, ◌≤◌, ◌^◌, Bool, false, List, [], ◌++◌, length, Option, Some, None, Result, Ok, Err, refl, sym, ap, ◌∙◌, subst, arith, length-append}
use Rattle.std.proofs.lemmas.List.{append-nil}
use Rattle.std.specs.Bool.{IsTrue}
use Rattle.std.specs.Io.KnownBytes.{Consumes, IsAtEnd}
use Rattle.std.proofs.KnownBytes.{Consumes-trans}
use Rattle.nova_value.specs.Text.{has_newline}
use Rattle.nova_outside.specs.History.{current}
use Rattle.nova_commit.specs.declared.commit.Commit.{Commit}
use Rattle.nova_script.specs.Session.{Item}
use Rattle.nova_machine.specs.Lines.{whole_lines_of}
use Rattle.nova_machine.specs.Commands.{commands_of, ended_commands, whole_commands_of}
use Rattle.nova_machine.specs.State.{State}
use Rattle.nova_machine.specs.Steps.{Step, after_all}
use Rattle.nova_building.specs.Building.{built_steps}
use Rattle.nova_machine.specs.Replies.{text}
use Rattle.nova_machine.proofs.Cuts.{whole_lines_at_end}
use Rattle.nova_building.proofs.Turns.{built_steps-append}
use Rattle.nova_runner.specs.Held.{Held}
use Rattle.nova_engine.specs.declared.reader.LineReader.{LineReader}
use Rattle.nova_engine.specs.declared.status.Status.{Status}
use Rattle.nova_engine.specs.declared.status.Status.TheVariants as exit
use Rattle.nova_engine.specs.declared.stop.Stop.{Stop}
use Rattle.nova_engine.specs.Ending.{EndsStopped}
use Rattle.nova_engine.specs.Loading.{Loading}
use Rattle.nova_engine.specs.Moves.{BreaksOn, EndedBy, EndsWhole, FinishTold}
use Rattle.nova_engine.specs.Positions.{Position, items_at, items_in, whole_items_at}
use Rattle.nova_engine.specs.Seen.{Seen}
use Rattle.nova_engine.specs.Sessions.{GivenBy, Ran, SessionTold, reached, session_steps}
use Rattle.nova_engine.specs.Stopping.{why}
use Rattle.nova_engine.specs.Taking.{StopsIn, Takes}
use Rattle.nova_engine.specs.Turns.{own_commits}
use Rattle.nova_engine.proofs.Ending.{told_behind}
use Rattle.nova_engine.proofs.Moving.{at_of, breaks_both, stops_items, stops_items_before, takes_items}
use Rattle.nova_engine.proofs.Reached.{Reached, Reaches, opening}
use Rattle.nova_engine.proofs.StopReasons.{stop_end, stopped_told}

-- what a source that tells its bytes has left
consumed_known : (left now : Option (List ℕ)) (input bytes : List ℕ) → left ≡ Some input → Consumes left now bytes → (rest : List ℕ) × (now ≡ Some rest) × (input ≡ bytes ++ rest)
consumed_known None now input bytes is consumed = absurd (cc)
consumed_known (Some xs) None input bytes is consumed = absurd consumed
consumed_known (Some xs) (Some ys) input bytes is consumed = let same : xs ≡ input = cc in (ys, refl, sym same ∙ consumed)

-- nothing whole is left in a line that is being read, nor in a load
nothing_whole : (load : Option Loading) → ended_commands (items_in load []) ≡ []
nothing_whole None = refl
nothing_whole (Some load) = refl

whole_at_end : (p : Position) → has_newline p.carry ≡ false → whole_items_at p [] ≡ []
whole_at_end p clean =
    ap (λ t. ended_commands (items_in p.load (whole_lines_of t))) (append-nil p.carry)
    ∙ ap (λ ls. ended_commands (items_in p.load ls)) (whole_lines_at_end p.carry clean)
    ∙ nothing_whole p.load

-- the steps of a session, by its commands
steps_of : (s : State) (input : List ℕ) (cs ds : List Item) → commands_of input ≡ cs ++ ds → session_steps s input ≡ built_steps s cs ++ built_steps (after_all s (built_steps s cs)) ds
steps_of s input cs ds is = ap (built_steps s) is ∙ built_steps-append s cs ds

-- what is told of a session behind the bytes that were taken
module _ (store : Held) (reader : LineReader) (commits : List Commit) (s : State) (a m : Seen) (bytes rest input : List ℕ) (reaches : Reaches store reader commits s a m bytes) (is : input ≡ bytes ++ rest) where
  abbrev pub items : List Item
  items = reaches.advances.items

  steps_parts : session_steps s input ≡ built_steps s items ++ built_steps (after_all s (built_steps s items)) (items_at reaches.to rest)
  steps_parts = steps_of s input items (items_at reaches.to rest) (ap commands_of is ∙ reaches.advances.cut rest)

  -- the commands that were taken are the whole ones
  whole_taken : whole_commands_of bytes ≡ items
  whole_taken = ap whole_commands_of (sym (append-nil bytes)) ∙ reaches.advances.whole [] ∙ ap (λ cs. items ++ cs) (whole_at_end reaches.to reaches.advances.clean) ∙ append-nil items

  pub between : (ended : Status) → ((done later : List Step) → GivenBy store.journal.generation commits store.catalog s done later ended (current m.history) (text s done))
      → ((done later : List Step) → reached ended done later ≡ done) → (ended ≡ exit.Full → ⊥) → (ended ≡ exit.Done → ⊥) → SessionTold ended store.journal.generation commits store.catalog s input bytes a m
  between ended gives reach full other =
      let xs = built_steps s items in
      let later = built_steps (after_all s xs) (items_at reaches.to rest) in
      told_behind store reader.session.store commits s xs later a m reaches.advances.takes ended input bytes steps_parts (gives xs later) (reach xs later) full
      (λ _. ap (built_steps s) (sym whole_taken)) (λ e. absurd (other e))

  -- the rest was taken
  pub finished : rest ≡ [] → (new : Held) (b : Seen) → Takes reader.session.store new (commits ++ own_commits store.catalog s (built_steps s items)) reaches.to.state (built_steps reaches.to.state (items_at reaches.to [])) m b
      → SessionTold exit.Done store.journal.generation commits store.catalog s input bytes a b
  finished none new b takes =
      let all = takes_items store reader.session.store commits s items a m reaches.advances.takes new reaches.to.state (items_at reaches.to []) b reaches.advances.state takes in
      let parts : session_steps s input ≡ built_steps s (items ++ items_at reaches.to []) ++ [] =
      ap (session_steps s) is ∙ ap (λ r. session_steps s (bytes ++ r)) none ∙ ap (built_steps s) (reaches.advances.cut []) ∙ sym (append-nil (built_steps s (items ++ items_at reaches.to []))) in
      told_behind store new commits s (built_steps s (items ++ items_at reaches.to [])) [] a b all exit.Done input bytes parts refl refl (λ e. cc)
      (λ e. elim e [ inl one ↦ absurd (not_read one) | inr two ↦ absurd (not_long two) ]) (λ e. refl)
    where
      not_read : exit.Done ≡ exit.ReadFault → ⊥
      not_read e = cc

      not_long : exit.Done ≡ exit.InputTooLong → ⊥
      not_long e = cc

  -- the rest stopped
  pub finish_stopped : (h : Bool) → IsTrue h → rest ≡ [] → (reason : Stop) (ended : Status) (mid b : Seen)
      → StopsIn (why reason) reader.session.store (commits ++ own_commits store.catalog s (built_steps s items)) reaches.to.state (built_steps reaches.to.state (items_at reaches.to [])) m mid
      → EndsStopped h reason ended mid b → SessionTold ended store.journal.generation commits store.catalog s input bytes a b
  finish_stopped h honest none reason ended mid b stops ends =
      let all = stops_items store reader.session.store commits s items a m reaches.advances.takes (why reason) reaches.to.state (items_at reaches.to []) mid reaches.advances.state stops in
      let same : session_steps s input ≡ built_steps s (items ++ items_at reaches.to []) = ap (session_steps s) is ∙ ap (λ r. session_steps s (bytes ++ r)) none ∙ ap (built_steps s) (reaches.advances.cut []) in
      stopped_told h honest store commits s input bytes a mid reason ended b (subst (λ xs. StopsIn (why reason) store commits s xs a mid) (sym same) all) ends

-- how a session whose input ended may not end
no_long : (ended : Status) → (ended ≡ exit.InputTooLong → ⊥) → ended ≡ exit.InputTooLong → ⊥
no_long ended not e = not e

ends_whole : (h : Bool) (reader : LineReader) (ended : Status) (m b : Seen) → EndsWhole h reader ended m b → ended ≡ exit.InputTooLong → ⊥
ends_whole h reader ended m b whole = by whole.0 whole.3
  where
    by : (result : Result (Unit {0}) Stop) → EndedBy h result ended whole.1 b → ended ≡ exit.InputTooLong → ⊥
    by (Ok u) ended_by e = done_long (sym ended_by.0 ∙ e)
      where
        done_long : exit.Done ≡ exit.InputTooLong → ⊥
        done_long e = cc
    by (Err reason) ended_by e = (stop_end h reason ended whole.1 b ended_by).long e

module _ (h : Bool) (store : Held) (reader : LineReader) (a m : Seen) (left now : Option (List ℕ)) (count : ℕ) (input : List ℕ) (is : left ≡ Some input) (far : Reached h store reader a m left now count) where
  -- the call ended between two commands
  pub ran_between : (ended : Status) → count ≤ 2 ^ 40 + 1 → (ended ≡ exit.InputTooLong → 2 ^ 40 < count) → (ended ≡ exit.ReadFault → count ≤ 2 ^ 40)
      → ((commits : List Commit) (s : State) (done later : List Step) → GivenBy store.journal.generation commits store.catalog s done later ended (current m.history) (text s done))
      → ((done later : List Step) → reached ended done later ≡ done) → (ended ≡ exit.Full → ⊥) → (ended ≡ exit.Done → ⊥) → Ran ended h store input now a m
  ran_between ended bound long short gives reach full other =
      let known = consumed_known left now input far.bytes is far.consumed in
      let counted = far.counted in
      record {
        taken = far.bytes;
        took = record {
          rest = known.0;
          left_is = known.1;
          input_is = known.2;
          bound = omega (arith, bound, counted);
          done = λ e. absurd (other e);
          long = λ e. let above = long e in omega (arith, above, counted);
          short = λ e. elim e [ inl done ↦ absurd (other done) | inr read ↦ let below = short read in omega (arith, below, counted) ];
        };
        told = λ honest commits s stands. between store reader commits s a m far.bytes known.0 input (far.moves honest commits s stands) known.2 ended (gives commits s) reach full other;
      }

  -- the input was read to its end
  pub ran_end : (ended : Status) (b : Seen) → IsAtEnd now → count ≤ 2 ^ 40 → EndsWhole h reader ended m b → Ran ended h store input now a b
  ran_end ended b end short whole =
      let known = consumed_known left now input far.bytes is far.consumed in
      let none : known.0 ≡ [] = nothing_left now known.0 known.1 end in
      let counted = far.counted in
      record {
        taken = far.bytes;
        took = record {
          rest = known.0;
          left_is = known.1;
          input_is = known.2;
          bound = omega (arith, short, counted);
          done = λ e. none;
          long = λ e. absurd (no_long ended (ends_whole h reader ended m b whole) e);
          short = λ e. omega (arith, short, counted);
        };
        told = λ honest commits s stands. by_result honest commits s (far.moves honest commits s stands) known.0 known.2 none whole.0 ended b whole.1 whole.2 whole.3;
      }
    where
      nothing_left : (now : Option (List ℕ)) (rest : List ℕ) → now ≡ Some rest → IsAtEnd now → rest ≡ []
      nothing_left None rest e end = absurd (cc)
      nothing_left (Some xs) rest e end = let same : xs ≡ rest = cc in sym same ∙ end

      by_result : IsTrue h → (commits : List Commit) (s : State) (reaches : Reaches store reader commits s a m far.bytes) (rest : List ℕ) → input ≡ far.bytes ++ rest → rest ≡ []
          → (result : Result (Unit {0}) Stop) (ended : Status) (b mid : Seen) → FinishTold h reader m mid result → EndedBy h result ended mid b → SessionTold ended store.journal.generation commits store.catalog s input far.bytes a b
      by_result honest commits s reaches rest input_is none (Ok u) ended b mid told by =
          let new = told honest _ reaches.to (at_of store reader commits (opening s) reaches.to a m far.bytes reaches.advances) in
          subst (λ e. SessionTold e store.journal.generation commits store.catalog s input far.bytes a b) (sym by.0)
          (subst (λ x. SessionTold exit.Done store.journal.generation commits store.catalog s input far.bytes a x) (sym by.1)
          (finished store reader commits s a m far.bytes rest input reaches input_is none new.0 mid new.1))
      by_result honest commits s reaches rest input_is none (Err reason) ended b mid told by =
          let stops = told honest _ reaches.to (at_of store reader commits (opening s) reaches.to a m far.bytes reaches.advances) in
          finish_stopped store reader commits s a m far.bytes rest input reaches input_is h honest none reason ended mid b stops by

  -- the call stopped within a piece
  pub ran_broken : (next : Option (List ℕ)) (piece : List ℕ) (reason : Stop) (ended : Status) (mid b : Seen) → Consumes now next piece → count + length piece ≤ 2 ^ 40 + 1 → BreaksOn (why reason) h reader m mid piece
      → EndsStopped h reason ended mid b → Ran ended h store input next a b
  ran_broken next piece reason ended mid b consumed bound breaks ends =
      let bytes = far.bytes ++ piece in
      let known = consumed_known left next input bytes is (Consumes-trans left now next far.bytes piece far.consumed consumed) in
      let counted = far.counted in
      let not = stop_end h reason ended mid b ends in
      record {
        taken = bytes;
        took = record {
          rest = known.0;
          left_is = known.1;
          input_is = known.2;
          bound = omega (arith, bound, counted, length-append far.bytes piece);
          done = λ e. absurd (not.done e);
          long = λ e. absurd (not.long e);
          short = λ e. elim e [ inl done ↦ absurd (not.done done) | inr read ↦ absurd (not.read read) ];
        };
        told = λ honest commits s stands.
            let reaches = far.moves honest commits s stands in
            let broke = breaks_both store reader commits (opening s) reaches.to a m far.bytes reaches.advances (why reason) mid piece (breaks honest _ reaches.to (at_of store reader commits (opening s) reaches.to a m far.bytes reaches.advances)) in
            let more = broke.cut known.0 in
            let same : session_steps s input ≡ built_steps s (broke.items ++ more.0) = ap (built_steps s) (ap commands_of known.2 ∙ more.1) in
            stopped_told h honest store commits s input bytes a mid reason ended b
            (subst (λ xs. StopsIn (why reason) store commits s xs a mid) (sym same) (stops_items_before (why reason) store commits s broke.items more.0 a mid broke.stops)) ends;
      }
