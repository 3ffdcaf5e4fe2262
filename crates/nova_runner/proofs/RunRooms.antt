-- The room of a run.
use Rattle.std.proofs.Common.{◌≡◌, inl, inr, ℕ, ◌+◌, ◌-◌, ◌*◌, ◌<◌, ◌≤◌, ◌^◌, Bool, true, false, ◌&&◌, List, [], ◌∷◌, ◌++◌, length, length-append, refl, ap, sym, ◌∙◌, arith}
use Rattle.std.specs.Prelude.{nat_le, nat_lt}
use Rattle.std.specs.List.{flat_map}
use Rattle.std.proofs.lemmas.Bool.Decides.{nat_tests}
use Rattle.nova_journal.specs.Log.{frame, length_bytes}
use Rattle.nova_commit.specs.Commits.{commit_bytes, eight, part_bytes, parts_bytes}
use Rattle.nova_commit.specs.declared.commit.Commit.TheVariants as commit
use Rattle.nova_commit.specs.declared.commit.PartFile.{PartFile}
use Rattle.nova_meta.specs.Catalog.{Entered, bound, progress_at, shelf_at, total}
use Rattle.nova_meta.specs.Wired.{wire_at}
use Rattle.nova_machine.specs.State.{Capture}
use Rattle.nova_runner.specs.Acts.{IsFull, own_run, parts_of}
use Rattle.nova_runner.specs.Runs.{run_counters}
use Rattle.nova_runner.proofs.Ticks.{within}

eights : (vs : List ℕ) → length (flat_map eight vs) ≡ 8 * length vs
eights [] = refl
eights (v ∷ vs) = let rest = eights vs in omega (arith, rest)

twenties : (ps : List PartFile) → length (flat_map part_bytes ps) ≡ 20 * length ps
twenties [] = refl
twenties (p ∷ ps) = let rest = twenties ps in omega (arith, rest)

-- a run's frame has this length, whatever its block is and how long its state
pub run_frame : (t : ℕ) (vs : List ℕ) (m seen b z : ℕ) (ps : List PartFile) → length (frame (commit_bytes (commit.Run t vs m seen b z ps))) ≡ 54 + 8 * length vs + 20 * length ps
unfolding commit_bytes length_bytes
run_frame t vs m seen b z ps =
    let rest = eight m ++ (eight seen ++ (eight b ++ (eight z ++ parts_bytes ps))) in
    let all = length-append (flat_map eight vs ++ rest) (0 ∷ []) in
    let both = length-append (flat_map eight vs) rest in
    let versions = eights vs in
    let parts = twenties ps in
    omega (arith, all, both, versions, parts)

same_parts : (keeps : Bool) (n a b : ℕ) → length (parts_of keeps n a) ≡ length (parts_of keeps n b)
same_parts true n a b = refl
same_parts false n a b = refl

-- how many parts a run writes
pub one_part : (keeps : Bool) (n : ℕ) → keeps ≡ true → 1 ≡ length (parts_of keeps n 0)
one_part true n e = refl
one_part false n e = absurd cc

pub no_part : (keeps : Bool) (n : ℕ) → keeps ≡ false → 0 ≡ length (parts_of keeps n 0)
no_part false n e = refl
no_part true n e = absurd cc

pub few_parts : (keeps : Bool) (n z : ℕ) → length (parts_of keeps n z) ≤ 1
few_parts true n z = omega arith
few_parts false n z = omega arith

-- a number that has room for some more
pub room_for : (n p : ℕ) → p ≤ 1 → nat_lt n (2 ^ 62 - p) ≡ nat_lt (n + p) bound
room_for n p few = go (nat_lt n (2 ^ 62 - p)) (nat_lt (n + p) bound) refl refl
  where
    go : (a b : Bool) → nat_lt n (2 ^ 62 - p) ≡ a → nat_lt (n + p) bound ≡ b → a ≡ b
    go true true x y = refl
    go false false x y = refl
    go true false x y = absurd (grind (arith, nat_tests, x, y, few))
    go false true x y = absurd (grind (arith, nat_tests, x, y, few))

module _ (cat : Entered) (t : ℕ) (run : Capture) (keeps : Bool) (end : ℕ) where
  abbrev out : ℕ
  out = (wire_at cat.wiring t).output

  -- how many parts it has
  abbrev many : ℕ
  many = length (parts_of keeps cat.next 0)

  pub long_run : (z state : ℕ) → 2 ^ 62 < end + (54 + 8 * length run.versions + 20 * many) → IsFull end cat (own_run cat t run keeps z state)
  long_run z state past =
      let long = run_frame t run.versions run.moment run.seen cat.next z (parts_of keeps cat.next state) in
      let parts = same_parts keeps cat.next state 0 in
      inl (omega (arith, past, long, parts))

  pub counted : (z : ℕ) (b : Bool) → b ≡ false → (nat_le (total (shelf_at cat out) + z) bound && b) ≡ false
  counted z b e = two (nat_le (total (shelf_at cat out) + z) bound) b e
    where
      two : (a c : Bool) → c ≡ false → (a && c) ≡ false
      two true c e = e
      two false c e = refl

  -- a counter has no room
  pub counter_full : run_counters cat t keeps ≡ false → IsFull end cat (own_run cat t run keeps 0 0)
  counter_full e = inr (counted 0 (run_counters cat t keeps) e)

  -- all have
  pub not_full : total (shelf_at cat out) ≤ 2 ^ 62 → end + (54 + 8 * length run.versions + 20 * many) ≤ 2 ^ 62 → run_counters cat t keeps ≡ true → IsFull end cat (own_run cat t run keeps 0 0) → ⊥
  not_full low room all (inl past) = let long = run_frame t run.versions run.moment run.seen cat.next 0 (parts_of keeps cat.next 0) in omega (arith, room, past, long)
  not_full low room all (inr full) =
      let sum : nat_le (total (shelf_at cat out) + 0) bound ≡ true = grind (arith, nat_tests) in
      let here : (nat_le (total (shelf_at cat out) + 0) bound && run_counters cat t keeps) ≡ true = and_true (nat_le (total (shelf_at cat out) + 0) bound) (run_counters cat t keeps) sum all in
      let clash : true ≡ false = sym here ∙ full in cc
    where
      and_true : (a b : Bool) → a ≡ true → b ≡ true → (a && b) ≡ true
      and_true true true p q = refl
      and_true false b p q = cc
      and_true true false p q = cc

  -- the counters don't look at the sizes
  counters_same : (state : ℕ) → (nat_lt (shelf_at cat out).version bound && (nat_lt (progress_at cat t).runs bound && nat_lt (cat.next + length (parts_of keeps cat.next state)) bound)) ≡ run_counters cat t keeps
  counters_same state = ap (λ n. nat_lt (shelf_at cat out).version bound && (nat_lt (progress_at cat t).runs bound && nat_lt (cat.next + n) bound)) (same_parts keeps cat.next state 0)

  -- without room for an empty block and an empty state there is none for any
  pub fuller : (z state : ℕ) → IsFull end cat (own_run cat t run keeps 0 0) → IsFull end cat (own_run cat t run keeps z state)
  fuller z state (inl past) = let none = run_frame t run.versions run.moment run.seen cat.next 0 (parts_of keeps cat.next 0) in long_run z state (omega (arith, past, none))
  fuller z state (inr full) =
      inr (ap (λ b. nat_le (total (shelf_at cat out) + z) bound && b) (counters_same state)
      ∙ two (nat_le (total (shelf_at cat out) + 0) bound) (nat_le (total (shelf_at cat out) + z) bound) (run_counters cat t keeps) (λ is. grind (arith, nat_tests)) full)
    where
      two : (a b c : Bool) → (b ≡ true → a ≡ true) → (a && c) ≡ false → (b && c) ≡ false
      two a false c low full = refl
      two true true c low full = full
      two false true c low full = absurd (let no : false ≡ true = low refl in cc)

  -- with room, the frame has it whatever the block and the state are
  pub frame_room : (z state : ℕ) → (IsFull end cat (own_run cat t run keeps 0 0) → ⊥) → length (frame (commit_bytes (own_run cat t run keeps z state))) + end ≤ 2 ^ 62
  frame_room z state free =
      let long = run_frame t run.versions run.moment run.seen cat.next z (parts_of keeps cat.next state) in
      let parts = same_parts keeps cat.next state 0 in
      let low = within (end + (54 + 8 * length run.versions + 20 * many)) (2 ^ 62) (λ past. free (long_run 0 0 past)) in
      omega (arith, low, long, parts)

-- a counter that has room leaves it to the others
pub counts_on : (v : ℕ) (b : Bool) → v < 2 ^ 62 → b ≡ (nat_lt v bound && b)
counts_on v b low = one (nat_lt v bound) b (grind (arith, nat_tests))
  where
    one : (a b : Bool) → a ≡ true → b ≡ (a && b)
    one true b e = refl
    one false b e = cc

-- and one that has none decides
pub counts_out : (v : ℕ) (b : Bool) → 2 ^ 62 ≤ v → nat_lt v bound ≡ (nat_lt v bound && b)
counts_out v b past = one (nat_lt v bound) b (grind (arith, nat_tests))
  where
    one : (a b : Bool) → a ≡ false → a ≡ (a && b)
    one false b e = refl
    one true b e = cc
