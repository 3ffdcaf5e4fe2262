-- The test of versions, one input more.
use Rattle.std.proofs.Common.{◌≡◌, ℕ, ◌+◌, ◌<◌, ◌≤◌, Bool, true, false, ◌||◌, List, ◌∷◌, length, get_or, drop, map, nat_lt, refl, sym, ap, ◌∙◌, arith, add-one, drop-cons}
use Rattle.std.proofs.lemmas.Bool.Decides.{nat_tests}
use Rattle.std.proofs.lemmas.List.{get_or-map, length-map}
use Rattle.nova_workflow.specs.declared.flow.Input.{Input}
use Rattle.nova_machine.specs.Due.{is_above}

or_left : (a b : Bool) → a ≡ true → (a || b) ≡ true
or_left true b e = refl
or_left false b e = absurd (cc)

above_next : (k : ℕ) (last now : List ℕ) (v : ℕ) → k < length now → get_or now k 0 ≡ v
    → is_above k last (drop k now) ≡ (nat_lt (get_or last k 0) v || is_above (k + 1) last (drop (k + 1) now))
above_next k last now v within is =
    let next : drop k now ≡ v ∷ drop (k + 1) now = drop-cons now k 0 within ∙ rw (add-one, is) refl in
    ap (is_above k last) next

pub above_input : (f : Input → ℕ) (inputs : List Input) (k : ℕ) (last : List ℕ) (d : Input) (v seen : ℕ) → k < length inputs → v ≡ f (get_or inputs k d) → seen ≡ get_or last k 0
    → is_above k last (drop k (map f inputs)) ≡ (nat_lt seen v || is_above (k + 1) last (drop (k + 1) (map f inputs)))
above_input f inputs k last d v seen within is saw =
    let long : k < length (map f inputs) = rw length-map within in
    let at : get_or (map f inputs) k 0 ≡ v = get_or-map f inputs k d 0 within ∙ sym is in
    rw saw (above_next k last (map f inputs) v long at)

pub above_here : (a b : ℕ) (rest : Bool) → a < b → (nat_lt a b || rest) ≡ true
above_here a b rest less = or_left (nat_lt a b) rest (grind (arith, nat_tests))

pub not_here : (a b : ℕ) (rest : Bool) → b ≤ a → (nat_lt a b || rest) ≡ rest
not_here a b rest more = by (nat_lt a b) refl
  where
    by : (c : Bool) → nat_lt a b ≡ c → (c || rest) ≡ rest
    by true is = absurd (grind (arith, nat_tests))
    by false is = refl
