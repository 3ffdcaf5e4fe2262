use Rattle.std.proofs.Common.{◌≡◌, ℕ, ◌+◌, ◌-◌, ◌<◌, ◌≤◌, List, [], ◌++◌, min, length, take, drop, length-drop, take-append-drop, sym, ap, ◌∙◌, arith}
use Rattle.std.proofs.lemmas.List.{drop-drop, drop_all, take_all}
use Rattle.nova_mem.proofs.source.MemSourceSource.take.Goals as goal

-- what was moved to the front of the slice is gone from the bytes that are left
moves : (at n most : ℕ) (bytes given into old : List ℕ) → given ≡ drop at bytes → n ≡ min (min most (length given)) (length old) → take n into ≡ take n given → 1 ≤ most → length into ≡ length old
    → (drop at bytes ≡ take n into ++ drop (at + n) bytes) × (n ≡ 0 → 0 < length into → drop (at + n) bytes ≡ [])
moves at n most bytes given into old is count front some same = (
  sym (take-append-drop n (drop at bytes)) ∙ ap (λ (l : List ℕ). l ++ drop n (drop at bytes)) (sym (front ∙ ap (take n) is)) ∙ ap (λ (l : List ℕ). take n into ++ l) (drop-drop n at bytes),
  λ none room. drop_all (at + n) bytes (let long : length given ≡ length (drop at bytes) = ap length is in omega (arith, none, room, count, some, same, long, length-drop at bytes)),
)

-- what is left, as the slice is taken
all_left : (at : ℕ) (now bytes : List ℕ) → now ≡ bytes → take (length now - at) (drop at now) ≡ drop at bytes
all_left at now bytes is = take_all (length now - at) (drop at now) (omega (arith, length-drop at now)) ∙ ap (drop at) is

pub returns-clause-bytes : goal.returns-clause-bytes
returns-clause-bytes c = moves c.args.self.now.at c.copy_front-count.result c.next_piece-most.result c.args.self.now.bytes.items _ c.copy_front-count.new.into c.args.into.now (all_left c.args.self.now.at c.deref-3.result.now c.args.self.now.bytes.items c.deref-3.ensures.value) c.copy_front-count.ensures.count c.copy_front-count.ensures.bytes c.next_piece-most.ensures.some c.copy_front-count.auto.into
