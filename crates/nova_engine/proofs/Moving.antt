-- A session moves on.
use Rattle.std.proofs.Common.{◌≡◌, ◌≢◌, ℕ, Bool, false, List, [], ◌∷◌, ◌++◌, Option, Some, None, Result, Ok, Err, IfOk, IfErr, refl, sym, ap, ◌∙◌, append_assoc, subst}
use Rattle.std.proofs.lemmas.List.{append-nil}
use Rattle.std.specs.Bool.{IsTrue}
use Rattle.nova_value.specs.Text.{has_newline}
use Rattle.nova_commit.specs.declared.commit.Commit.{Commit}
use Rattle.nova_script.specs.Forms.{kept}
use Rattle.nova_script.specs.Session.{Item, WithRows}
use Rattle.nova_machine.specs.Lines.{lines_of, whole_lines_of}
use Rattle.nova_machine.specs.Commands.{ended_commands}
use Rattle.nova_machine.specs.State.{State}
use Rattle.nova_machine.specs.Steps.{after_all}
use Rattle.nova_building.specs.Building.{built_steps}
use Rattle.nova_machine.proofs.Cuts.{has_newline-append}
use Rattle.nova_machine.proofs.Turns.{after_all-append}
use Rattle.nova_building.proofs.Turns.{built_steps-append}
use Rattle.nova_runner.specs.Held.{Held}
use Rattle.nova_runner.specs.Steps.{StoreStands, Why, NoMemory}
use Rattle.nova_engine.specs.declared.reader.LineReader.{LineReader}
use Rattle.nova_engine.specs.declared.reader.Session.{Session}
use Rattle.nova_engine.specs.declared.stop.Stop.{Stop}
use Rattle.nova_engine.specs.declared.stop.Stop.TheVariants as stop
use Rattle.nova_engine.specs.Loading.{HoldsPending, Loading}
use Rattle.nova_engine.specs.Positions.{IsFront, Position, cut_off, ended_by, items_at, items_in, load_after, whole_items_at}
use Rattle.nova_engine.specs.Seen.{Seen}
use Rattle.nova_engine.specs.Stopping.{why}
use Rattle.nova_engine.specs.Taking.{StopsIn, Takes}
use Rattle.nova_engine.specs.Turns.{own_commits}
use Rattle.nova_engine.specs.Moves.{Advances, Breaks, BreaksOn, BytesTold, EndTold, FinishTold, IsAt, LastTold, LineTold, MovesOn, SessionStands, StopsLines, TakesLast, TakesLines}
use Rattle.nova_engine.proofs.ItemLines.{front_pushed, items_at-end, items_at-line, whole_items_at-line}
use Rattle.nova_engine.proofs.Takings.{stops_at_once, stops_before, stops_behind, takes_both, takes_nothing}

-- ---- commands behind commands

module _ (store mid : Held) (commits : List Commit) (s : State) (cs : List Item) (a m : Seen) (one : Takes store mid commits s (built_steps s cs) a m) where
  next : State
  next = after_all s (built_steps s cs)

  -- of a state that is the one behind them
  pub takes_items : (new : Held) (t : State) (ds : List Item) (b : Seen) → t ≡ after_all s (built_steps s cs) → Takes mid new (commits ++ own_commits store.catalog s (built_steps s cs)) t (built_steps t ds) m b
      → Takes store new commits s (built_steps s (cs ++ ds)) a b
  takes_items new t ds b is two =
      let here = subst (λ u. Takes mid new (commits ++ own_commits store.catalog s (built_steps s cs)) u (built_steps u ds) m b) is two in
      subst (λ xs. Takes store new commits s xs a b) (sym (built_steps-append s cs ds))
      (takes_both store mid commits s (built_steps s cs) a m one new (built_steps (after_all s (built_steps s cs)) ds) b here)

  pub stops_items : (why : Why) (t : State) (ds : List Item) (b : Seen) → t ≡ after_all s (built_steps s cs) → StopsIn why mid (commits ++ own_commits store.catalog s (built_steps s cs)) t (built_steps t ds) m b
      → StopsIn why store commits s (built_steps s (cs ++ ds)) a b
  stops_items why t ds b is two =
      let here = subst (λ u. StopsIn why mid (commits ++ own_commits store.catalog s (built_steps s cs)) u (built_steps u ds) m b) is two in
      subst (λ xs. StopsIn why store commits s xs a b) (sym (built_steps-append s cs ds))
      (stops_behind store mid commits s (built_steps s cs) a m one why (built_steps (after_all s (built_steps s cs)) ds) b here)

pub stops_items_before : (why : Why) (store : Held) (commits : List Commit) (s : State) (cs ds : List Item) (a b : Seen) → StopsIn why store commits s (built_steps s cs) a b → StopsIn why store commits s (built_steps s (cs ++ ds)) a b
stops_items_before why store commits s cs ds a b one =
    subst (λ xs. StopsIn why store commits s xs a b) (sym (built_steps-append s cs ds))
    (stops_before why store commits s (built_steps s cs) (built_steps (after_all s (built_steps s cs)) ds) a b one)

pub after_items : (s : State) (cs ds : List Item) → after_all s (built_steps s (cs ++ ds)) ≡ after_all (after_all s (built_steps s cs)) (built_steps (after_all s (built_steps s cs)) ds)
after_items s cs ds = ap (after_all s) (built_steps-append s cs ds) ∙ after_all-append s (built_steps s cs) (built_steps (after_all s (built_steps s cs)) ds)

-- ---- bytes behind bytes

-- where the bytes led
pub at_of : (store : Held) (new : LineReader) (commits : List Commit) (p q : Position) (a b : Seen) (bytes : List ℕ) (one : Advances store new commits p q a b bytes)
    → IsAt new (commits ++ own_commits store.catalog p.state (built_steps p.state one.items)) b.history q
at_of store new commits p q a b bytes one = record {
  stands = subst (λ t. StoreStands new.session.store (commits ++ own_commits store.catalog p.state (built_steps p.state one.items)) b.history t) (sym one.state) one.takes.stands;
  pending = one.pending;
  held = one.held;
  clean = one.clean;
}

pub advances_nothing : (reader : LineReader) (commits : List Commit) (p : Position) (a : Seen) → IsAt reader commits a.history p → Advances reader.session.store reader commits p p a a []
advances_nothing reader commits p a at = record {
  items = [];
  takes = takes_nothing reader.session.store commits p.state a at.stands;
  state = refl;
  pending = at.pending;
  held = at.held;
  clean = at.clean;
  cut = λ more. refl;
  whole = λ more. refl;
}

module _ (store : Held) (mid : LineReader) (commits : List Commit) (p q : Position) (a m : Seen) (xs : List ℕ) (one : Advances store mid commits p q a m xs) where
  pub advances_both : (new : LineReader) (r : Position) (b : Seen) (ys : List ℕ) → Advances mid.session.store new (commits ++ own_commits store.catalog p.state (built_steps p.state one.items)) q r m b ys
      → Advances store new commits p r a b (xs ++ ys)
  advances_both new r b ys two = record {
    items = one.items ++ two.items;
    takes = takes_items store mid.session.store commits p.state one.items a m one.takes new.session.store q.state two.items b one.state two.takes;
    state = two.state ∙ ap (λ s. after_all s (built_steps s two.items)) one.state ∙ sym (after_items p.state one.items two.items);
    pending = two.pending;
    held = two.held;
    clean = two.clean;
    cut = λ more. ap (items_at p) (append_assoc xs ys more) ∙ one.cut (ys ++ more) ∙ ap (λ cs. one.items ++ cs) (two.cut more) ∙ sym (append_assoc one.items two.items (items_at r more));
    whole = λ more. ap (whole_items_at p) (append_assoc xs ys more) ∙ one.whole (ys ++ more) ∙ ap (λ cs. one.items ++ cs) (two.whole more) ∙ sym (append_assoc one.items two.items (whole_items_at r more));
  }

  pub breaks_both : (why : Why) (b : Seen) (ys : List ℕ) → Breaks why mid.session.store (commits ++ own_commits store.catalog p.state (built_steps p.state one.items)) q m b ys → Breaks why store commits p a b (xs ++ ys)
  breaks_both why b ys two = record {
    items = one.items ++ two.items;
    stops = stops_items store mid.session.store commits p.state one.items a m one.takes why q.state two.items b one.state two.stops;
    cut = λ more. let rest = two.cut more in
        (rest.0, ap (items_at p) (append_assoc xs ys more) ∙ one.cut (ys ++ more) ∙ ap (λ cs. one.items ++ cs) rest.1 ∙ sym (append_assoc one.items two.items rest.0));
  }

-- ---- a session's reader

pub moves_nothing : (h : Bool) (r : LineReader) (a : Seen) → MovesOn h r r a a []
moves_nothing h r a honest commits p at = (p, advances_nothing r commits p a at)

pub moves_both : (h : Bool) (r s t : LineReader) (a m b : Seen) (xs ys : List ℕ) → MovesOn h r s a m xs → MovesOn h s t m b ys → MovesOn h r t a b (xs ++ ys)
moves_both h r s t a m b xs ys one two honest commits p at =
    let first = one honest commits p at in
    let second = two honest _ first.0 (at_of r.session.store s commits p first.0 a m xs first.1) in
    (second.0, advances_both r.session.store s commits p first.0 a m xs first.1 t second.0 b ys second.1)

pub breaks_behind : (why : Why) (h : Bool) (r s : LineReader) (a m b : Seen) (xs ys : List ℕ) → MovesOn h r s a m xs → BreaksOn why h s m b ys → BreaksOn why h r a b (xs ++ ys)
breaks_behind why h r s a m b xs ys one two honest commits p at =
    let first = one honest commits p at in
    breaks_both r.session.store s commits p first.0 a m xs first.1 why b ys (two honest _ first.0 (at_of r.session.store s commits p first.0 a m xs first.1))

pub breaks_before : (why : Why) (h : Bool) (r : LineReader) (a b : Seen) (xs ys : List ℕ) → BreaksOn why h r a b xs → BreaksOn why h r a b (xs ++ ys)
breaks_before why h r a b xs ys one honest commits p at =
    let broke = one honest commits p at in
    record {
      items = broke.items;
      stops = broke.stops;
      cut = λ more. let rest = broke.cut (ys ++ more) in (rest.0, ap (items_at p) (append_assoc xs ys more) ∙ rest.1);
    }

pub breaks_at_once : (h : Bool) (r : LineReader) (a : Seen) (bytes : List ℕ) → BreaksOn NoMemory h r a a bytes
breaks_at_once h r a bytes honest commits p at = record {
  items = [];
  stops = stops_at_once r.session.store commits p.state [] a at.stands;
  cut = λ more. (items_at p (bytes ++ more), refl);
}

-- the first bytes of a line
pub moves_carry : (h : Bool) (old new : LineReader) (a : Seen) (bytes : List ℕ) → new.session ≡ old.session → new.held ≡ kept (old.held ++ bytes) → has_newline bytes ≡ false → MovesOn h old new a a bytes
moves_carry h old new a bytes same held clean honest commits p at =
    let q : Position = record { state = p.state; load = p.load; carry = p.carry ++ bytes } in (
      q,
      record {
        items = [];
        takes = subst (λ (x : Session). Takes old.session.store x.store commits p.state [] a a) (sym same) (takes_nothing old.session.store commits p.state a at.stands);
        state = refl;
        pending = subst (λ (x : Session). HoldsPending p.state x.load p.load) (sym same) at.pending;
        held = front_pushed old.held p.carry bytes new.held at.held held;
        clean = has_newline-append p.carry bytes at.clean clean;
        cut = λ more. ap (λ t. items_in p.load (lines_of t)) (sym (append_assoc p.carry bytes more));
        whole = λ more. ap (λ t. ended_commands (items_in p.load (whole_lines_of t))) (sym (append_assoc p.carry bytes more));
      },
    )

-- the rest of a line, and its newline
module _ (h : Bool) (old : LineReader) (a b : Seen) (held bytes : List ℕ) (clean : has_newline bytes ≡ false) (fronts : (carry : List ℕ) → old.held ≡ kept carry → IsFront held (carry ++ bytes)) where
  pub moves_line : (new : LineReader) → TakesLines h old.session.store old.session.load new.session held a b → new.held ≡ [] → MovesOn h old new a b (bytes ++ 10 ∷ [])
  moves_line new moves none honest commits p at =
      let line : List ℕ = p.carry ++ bytes in
      let whole_clean : has_newline line ≡ false = has_newline-append p.carry bytes at.clean clean in
      let taken = moves honest commits p.state p.load line (record { stands = at.stands; pending = at.pending }) (fronts p.carry at.held) in
      let q : Position = record { state = after_all p.state (built_steps p.state (ended_by p.load line)); load = load_after p.load line; carry = [] } in (
        q,
        record {
          items = ended_by p.load line;
          takes = taken.takes;
          state = refl;
          pending = taken.pending;
          held = none;
          clean = refl;
          cut = λ more. items_at-line p bytes more whole_clean;
          whole = λ more. whole_items_at-line p bytes more whole_clean;
        },
      )

  pub breaks_line : (why : Why) → StopsLines why h old.session.store old.session.load held a b → BreaksOn why h old a b (bytes ++ 10 ∷ [])
  breaks_line why breaks honest commits p at =
      let line : List ℕ = p.carry ++ bytes in
      let whole_clean : has_newline line ≡ false = has_newline-append p.carry bytes at.clean clean in
      record {
        items = ended_by p.load line;
        stops = breaks honest commits p.state p.load line (record { stands = at.stands; pending = at.pending }) (fronts p.carry at.held);
        cut = λ more. (items_in (load_after p.load line) (lines_of more), items_at-line p bytes more whole_clean);
      }

-- ---- lines of a piece

pub next_bytes : (bytes done rest line more : List ℕ) → bytes ≡ done ++ rest → rest ≡ line ++ 10 ∷ more → bytes ≡ (done ++ (line ++ 10 ∷ [])) ++ more
next_bytes bytes done rest line more all is =
    all ∙ ap (λ t. done ++ t) (is ∙ sym (append_assoc line (10 ∷ []) more)) ∙ sym (append_assoc done (line ++ 10 ∷ []) more)

-- behind the last newline the bytes are kept, where there is memory
pub moves_kept : (h : Bool) (r : Result LineReader Stop) (old mid : LineReader) (a b : Seen) (bytes done rest : List ℕ) → bytes ≡ done ++ rest → has_newline rest ≡ false → MovesOn h old mid a b done
    → IfOk r (λ new. new.session ≡ mid.session) → IfOk r (λ new. new.held ≡ kept (mid.held ++ rest)) → IfErr r (λ reason. reason ≡ stop.NoMemory) → BytesTold h old bytes a b r
moves_kept h (Ok new) old mid a b bytes done rest all clean moves same held memory =
    subst (λ bs. MovesOn h old new a b bs) (sym all) (moves_both h old mid new a b b done rest moves (moves_carry h mid new b rest same held clean))
moves_kept h (Err reason) old mid a b bytes done rest all clean moves same held memory =
    subst (λ bs. BreaksOn (why reason) h old a b bs) (sym all)
    (subst (λ (w : Stop). BreaksOn (why w) h old a b (done ++ rest)) (sym memory) (breaks_behind NoMemory h old mid a b b done rest moves (breaks_at_once h mid b rest)))

-- ---- the end of the input

-- at the end a load that is left is cut off
pub items_end : (load : Option Loading) → items_in load [] ≡ cut_off load
items_end None = refl
items_end (Some load) = ap (λ rows. WithRows load.line rows false ∷ []) (append-nil load.rows)

pub takes_no_last : (h : Bool) (old : LineReader) (a : Seen) → old.held ≡ [] → ((carry : List ℕ) → kept carry ≡ [] → carry ≡ []) → IsTrue h → (commits : List Commit) (p : Position) → IsAt old commits a.history p → TakesLast old old.session commits p a a
takes_no_last h old a none only honest commits p at =
    let empty : p.carry ≡ [] = only p.carry (sym at.held ∙ none) in
    record {
      items = [];
      takes = takes_nothing old.session.store commits p.state a at.stands;
      load = p.load;
      pending = at.pending;
      rest = ap (λ t. items_in p.load (lines_of (t ++ []))) empty ∙ items_end p.load;
    }

pub takes_last : (h : Bool) (r : Result Session Stop) (old : LineReader) (a b : Seen) → old.held ≢ [] → ((carry : List ℕ) → old.held ≡ kept carry → IsFront old.held carry) → LineTold h old.session.store old.session.load old.held a b r → LastTold h old a b r
takes_last h (Ok new) old a b some fronts moves = λ honest commits p at.
    let taken = moves honest commits p.state p.load p.carry (record { stands = at.stands; pending = at.pending }) (fronts p.carry at.held) in
    let other : p.carry ≢ [] = λ e. some (at.held ∙ ap kept e) in
    record {
      items = ended_by p.load p.carry;
      takes = taken.takes;
      load = load_after p.load p.carry;
      pending = taken.pending;
      rest = items_at-end p at.clean other ∙ ap (λ cs. ended_by p.load p.carry ++ cs) (items_end (load_after p.load p.carry));
    }
takes_last h (Err reason) old a b some fronts breaks = λ honest commits p at.
    let stops = breaks honest commits p.state p.load p.carry (record { stands = at.stands; pending = at.pending }) (fronts p.carry at.held) in
    let other : p.carry ≢ [] = λ e. some (at.held ∙ ap kept e) in
    subst (λ cs. StopsIn (why reason) old.session.store commits p.state (built_steps p.state cs) a b) (sym (items_at-end p at.clean other))
    (stops_items_before (why reason) old.session.store commits p.state (ended_by p.load p.carry) (items_in (load_after p.load p.carry) []) a b stops)

-- the last line, and then the load that the input cut off
last_stands : (old : LineReader) (new : Session) (commits : List Commit) (p : Position) (a m : Seen) (rest : TakesLast old new commits p a m)
    → SessionStands new.store new.load (commits ++ own_commits old.session.store.catalog p.state (built_steps p.state rest.items)) m.history (after_all p.state (built_steps p.state rest.items)) rest.load
last_stands old new commits p a m rest = record { stands = rest.takes.stands; pending = rest.pending }

pub finishes : {T : Type 0} (h : Bool) (r : Result T Stop) (old : LineReader) (new : Session) (a m b : Seen) → (IsTrue h → (commits : List Commit) (p : Position) → IsAt old commits a.history p → TakesLast old new commits p a m)
    → EndTold h new m b r → FinishTold h old a b r
finishes h (Ok u) old new a m b one two = λ honest commits p at.
    let rest = one honest commits p at in
    let end = two honest _ _ rest.load (last_stands old new commits p a m rest) in (
      end.0,
      subst (λ cs. Takes old.session.store end.0 commits p.state (built_steps p.state cs) a b) (sym rest.rest)
          (takes_items old.session.store new.store commits p.state rest.items a m rest.takes end.0 (after_all p.state (built_steps p.state rest.items)) (cut_off rest.load) b refl end.1),
    )
finishes h (Err reason) old new a m b one two = λ honest commits p at.
    let rest = one honest commits p at in
    subst (λ cs. StopsIn (why reason) old.session.store commits p.state (built_steps p.state cs) a b) (sym rest.rest)
    (stops_items old.session.store new.store commits p.state rest.items a m rest.takes (why reason) (after_all p.state (built_steps p.state rest.items)) (cut_off rest.load) b refl
    (two honest _ _ rest.load (last_stands old new commits p a m rest)))
