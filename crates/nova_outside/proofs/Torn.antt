-- What a torn write leaves, as parts of the list.
use Rattle.std.proofs.Common.{◌≡◌, ℕ, ◌+◌, ◌-◌, ◌≤◌, List, length, take, drop, sym, ◌∙◌, ap, arith, length-drop}
use Rattle.std.proofs.lemmas.List.{get_or-take, get_or-drop, length-take-le}
use Rattle.std.proofs.lemmas.Grind.{same_number_lists}
use Rattle.nova_outside.specs.Disk.{Torn}

pub torn_front : (at n : ℕ) (old new : List ℕ) → at ≤ length old → Torn at n old new → take at new ≡ take at old
torn_front at n old new le torn =
    let long : length (take at new) ≡ at = length-take-le at new (omega (arith, le, torn.no_shorter)) in
    let long_old : length (take at old) ≡ at = length-take-le at old le in
    same_number_lists _ _ (long ∙ sym long_old) (λ k lt. get_or-take at new k 0 (omega (arith, long, lt)) ∙ torn.below k (omega (arith, long, lt, le)) (omega (arith, long, lt)) ∙ sym (get_or-take at old k 0 (omega (arith, long, lt))))

pub torn_back : (at n : ℕ) (old new : List ℕ) → at + n ≤ length old → Torn at n old new → drop (at + n) new ≡ drop (at + n) old
torn_back at n old new le torn =
    let same : length new ≡ length old = omega (arith, le, torn.no_shorter, torn.no_longer) in
    let short : length (drop (at + n) new) ≡ length (drop (at + n) old) = length-drop (at + n) new ∙ ap (λ (l : ℕ). l - (at + n)) same ∙ sym (length-drop (at + n) old) in
    same_number_lists _ _ short (λ k lt. get_or-drop (at + n) new k 0 ∙ torn.above (at + n + k) (omega (arith, lt, length-drop (at + n) new, same)) (omega arith) ∙ sym (get_or-drop (at + n) old k 0))
