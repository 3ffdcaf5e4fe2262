-- How far the reading loop has come.
use Rattle.std.proofs.Common.{◌≡◌, ℕ, ◌+◌, Bool, List, [], ◌++◌, length, Option, Some, None, refl, sym, subst, arith, length-append}
use Rattle.std.specs.Bool.{IsTrue}
use Rattle.std.specs.Io.KnownBytes.{Consumes, Keeps}
use Rattle.std.proofs.KnownBytes.{Consumes-nil, Consumes-trans, Consumes-kept}
use Rattle.nova_commit.specs.declared.commit.Commit.{Commit}
use Rattle.nova_script.specs.Forms.{kept}
use Rattle.nova_machine.specs.State.{State}
use Rattle.nova_runner.specs.Held.{Held}
use Rattle.nova_runner.specs.Steps.{StoreStands}
use Rattle.nova_engine.specs.declared.load.Pending.{Pending}
use Rattle.nova_engine.specs.declared.reader.LineReader.{LineReader}
use Rattle.nova_engine.specs.Loading.{HoldsPending}
use Rattle.nova_engine.specs.Moves.{Advances, IsAt, MovesOn}
use Rattle.nova_engine.specs.Positions.{Position}
use Rattle.nova_engine.specs.Seen.{Seen}
use Rattle.nova_engine.proofs.Moving.{advances_both, advances_nothing, at_of}

abbrev pub opening : State → Position
opening s = record { state = s; load = None; carry = [] }

-- a position that these bytes led to, from a state that the store stood for
pub record Reaches (store : Held) (reader : LineReader) (commits : List Commit) (s : State) (a b : Seen) (bytes : List ℕ) : Type 0 where
  pub to : Position
  pub advances : Advances store reader commits (opening s) to a b bytes

-- so many bytes were taken from the source, and the session is behind them
pub record Reached (h : Bool) (store : Held) (reader : LineReader) (a b : Seen) (left now : Option (List ℕ)) (taken : ℕ) : Type 0 where
  pub bytes : List ℕ
  pub consumed : Consumes left now bytes
  pub counted : length bytes ≡ taken
  pub moves : IsTrue h → (commits : List Commit) (s : State) → StoreStands store commits a.history s → Reaches store reader commits s a b bytes

pub reached_start : (h : Bool) (store : Held) (reader : LineReader) (a : Seen) (left : Option (List ℕ)) → reader.session.store ≡ store → reader.session.load ≡ None → reader.held ≡ [] → Reached h store reader a a left left 0
reached_start h store reader a left same load held = record {
  bytes = [];
  consumed = Consumes-nil left;
  counted = refl;
  moves = λ honest commits s stands.
      let at : IsAt reader commits a.history (opening s) = record {
        stands = subst (λ st. StoreStands st commits a.history s) (sym same) stands;
        pending = subst (λ (p : Option Pending). HoldsPending s p None) (sym load) tt;
        held = held;
        clean = refl;
      } in
      record { to = opening s; advances = subst (λ st. Advances st reader commits (opening s) (opening s) a a []) same (advances_nothing reader commits (opening s) a at) };
}

pub reached_more : (h : Bool) (store : Held) (reader new : LineReader) (a m b : Seen) (left now next : Option (List ℕ)) (taken n : ℕ) (piece : List ℕ) → Reached h store reader a m left now taken
    → Consumes now next piece → length piece ≡ n → MovesOn h reader new m b piece → Reached h store new a b left next (taken + n)
reached_more h store reader new a m b left now next taken n piece reached consumed count moves = record {
  bytes = reached.bytes ++ piece;
  consumed = Consumes-trans left now next reached.bytes piece reached.consumed consumed;
  counted = omega (arith, length-append reached.bytes piece, reached.counted, count);
  moves = λ honest commits s stands.
      let before = reached.moves honest commits s stands in
      let behind = moves honest _ before.to (at_of store reader commits (opening s) before.to a m reached.bytes before.advances) in
      record { to = behind.0; advances = advances_both store reader commits (opening s) before.to a m reached.bytes before.advances new behind.0 b piece behind.1 };
}

pub reached_kept : (h : Bool) (store : Held) (reader : LineReader) (a b : Seen) (left now next : Option (List ℕ)) (taken : ℕ) → Reached h store reader a b left now taken → Keeps now next → Reached h store reader a b left next taken
reached_kept h store reader a b left now next taken reached kept = record {
  bytes = reached.bytes;
  consumed = Consumes-kept left now next reached.bytes reached.consumed kept;
  counted = reached.counted;
  moves = reached.moves;
}

-- a read of nothing
pub consumes_nothing : (now next : Option (List ℕ)) → Consumes now next [] → Keeps now next
consumes_nothing None next consumed = tt
consumes_nothing (Some xs) None consumed = consumed
consumes_nothing (Some xs) (Some ys) consumed = sym consumed
