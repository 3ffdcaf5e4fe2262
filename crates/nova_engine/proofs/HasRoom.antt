-- When a session meets no bound.
use Rattle.std.proofs.Common.{◌≡◌, inl, inr, ℕ, ◌+◌, ◌<◌, ◌≤◌, ◌^◌, true, false, ◌&&◌, List, [], ◌∷◌, ◌++◌, length, map, Option, Some, None, refl, sym, ap, ◌∙◌, append_assoc, subst, arith}
use Rattle.std.specs.Prelude.{nat_le, nat_lt}
use Rattle.std.proofs.lemmas.Bool.Decides.{nat_tests}
use Rattle.std.proofs.lemmas.List.{append-nil}
use Rattle.nova_journal.specs.Log.{frame, length_bytes, records}
use Rattle.nova_commit.specs.Commits.{commit_bytes}
use Rattle.nova_commit.specs.declared.commit.Commit.{Commit}
use Rattle.nova_commit.specs.declared.commit.Commit.TheVariants as commit
use Rattle.nova_meta.specs.Catalog.{Entered, bound, shelf_at, total}
use Rattle.nova_meta.specs.Named.{Channel}
use Rattle.nova_machine.specs.State.{State, newest}
use Rattle.nova_machine.specs.Steps.{Load, Step, after, after_all}
use Rattle.nova_runner.specs.Acts.{IsFull, behind, catalog_behind, own_commit}
use Rattle.nova_runner.specs.Files.{bytes_of}
use Rattle.nova_engine.specs.Laws.{HasRoomInTurn, LoadsHaveRoom, NoCommitsHaveRoom, RoomIsByTurns}
use Rattle.nova_engine.specs.Turns.{catalog_after, own_commits}

with_own : (commits : List Commit) (own : Option Commit) → behind commits own ≡ commits ++ behind [] own
with_own commits None = sym (append-nil commits)
with_own commits (Some c) = refl

-- behind the steps before them
later_turns : (commits : List Commit) (cat : Entered) (s : State) (done later : List Step) → HasRoomInTurn commits cat s (done ++ later)
    → HasRoomInTurn (commits ++ own_commits cat s done) (catalog_after cat s done) (after_all s done) later
later_turns commits cat s [] later room = subst (λ cs. HasRoomInTurn cs cat s later) (sym (append-nil commits)) room
later_turns commits cat s (x ∷ xs) later room =
    let own = own_commit cat s x in
    let next = catalog_behind cat own in
    subst (λ cs. HasRoomInTurn cs (catalog_after next (after s x) xs) (after_all (after s x) xs) later)
    (ap (λ cs. cs ++ own_commits next (after s x) xs) (with_own commits own) ∙ append_assoc commits (behind [] own) (own_commits next (after s x) xs))
    (later_turns (behind commits own) next (after s x) xs later room.1)

pub room_is_by_turns : RoomIsByTurns
room_is_by_turns x commits cat opened xs room done later files parts full =
    let turn = later_turns commits cat opened done later (subst (HasRoomInTurn commits cat opened) parts room) in
    let here = subst (HasRoomInTurn (commits ++ own_commits cat opened done) (catalog_after cat opened done) (after_all opened done)) full.next turn in
    here.0 full.own full.is (subst (λ n. IsFull n (catalog_after cat opened done) full.own) (sym full.long.ends) full.full)

none_own : (own : Option Commit) (rest : List Commit) → behind [] own ++ rest ≡ [] → (own ≡ None) × (rest ≡ [])
none_own None rest is = (refl, is)
none_own (Some c) rest is = absurd (cc)

no_turns : (commits : List Commit) (cat : Entered) (s : State) (xs : List Step) → own_commits cat s xs ≡ [] → HasRoomInTurn commits cat s xs
no_turns commits cat s [] none = tt
no_turns commits cat s (x ∷ xs) none =
    let own = own_commit cat s x in
    let parts = none_own own (own_commits (catalog_behind cat own) (after s x) xs) none in (
      λ c is full. never c (sym parts.0 ∙ is),
      no_turns (behind commits own) (catalog_behind cat own) (after s x) xs parts.1,
    )
  where
    never : (c : Commit) → None ≡ Some c → ⊥
    never c e = cc

pub no_commits_have_room : NoCommitsHaveRoom
no_commits_have_room x commits cat opened xs none = room_is_by_turns x commits cat opened xs (no_turns commits cat opened xs none)

load_frame : (c b z : ℕ) → length (frame (commit_bytes (commit.Load c b z))) ≡ 30
unfolding commit_bytes length_bytes
load_frame c b z = refl

not_full : (end c size : ℕ) (cat : Entered) → end + 30 ≤ 2 ^ 62 → (shelf_at cat c).version < 2 ^ 62 → cat.next < 2 ^ 62 → total (shelf_at cat c) + size ≤ 2 ^ 62 → IsFull end cat (commit.Load c cat.next size) → ⊥
not_full end c size cat room version next bytes (inl past) = let long = load_frame c cat.next size in omega (arith, room, past, long)
not_full end c size cat room version next bytes (inr full) =
    let one : nat_le (total (shelf_at cat c) + size) bound ≡ true = grind (arith, nat_tests) in
    let two : nat_lt (shelf_at cat c).version bound ≡ true = grind (arith, nat_tests) in
    let three : nat_lt cat.next bound ≡ true = grind (arith, nat_tests) in
    clash (sym (λ i. one i && (two i && three i)) ∙ full)
  where
    clash : true ≡ false → ⊥
    clash e = cc

pub loads_have_room : LoadsHaveRoom
loads_have_room commits cat s c entries xs room version next bytes rest =
    let size = length (bytes_of (after s (Load c entries)) (Channel c (newest s c) (newest s c + 1))) in
    let mine : Commit = commit.Load c cat.next size in (
      λ own is full. not_full (length (records (map commit_bytes commits)) + 1) c size cat (omega (arith, room)) version next bytes
          (subst (λ (o : Commit). IsFull (length (records (map commit_bytes commits)) + 1) cat o) (sym (same mine own is)) full),
      rest,
    )
  where
    same : (a b : Commit) → Some a ≡ Some b → a ≡ b
    same a b e = cc
