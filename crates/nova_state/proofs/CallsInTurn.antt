-- Calls one after the other.
use Rattle.std.proofs.Common.{◌≡◌, ◌||◌, true, false, if◌then◌else◌, List, [], ◌∷◌, ◌++◌, map, refl, ap, sym, ◌∙◌}
use Rattle.nova_pig_algebra.specs.Meaning.{Call}
use Rattle.nova_pig_rows.specs.declared.call.Call as code
use Rattle.nova_pig_rows.specs.Outcomes as outcome
use Rattle.nova_pig_rows.specs.Outcomes.{called}
use Rattle.nova_state.specs.Plan.{with_call}
use Rattle.nova_state.specs.Calls.{has, with_calls}

pub with_both : (old xs ys : List Call) → with_calls (with_calls old xs) ys ≡ with_calls old (xs ++ ys)
with_both old [] ys = refl
with_both old (x ∷ xs) ys = with_both (with_call old x) xs ys

pub has-called : (all : List code.Call) (c : Call) → outcome.has all c ≡ has (map called all) c
has-called [] c = refl
has-called (d ∷ all) c = ap (λ b. outcome.same_call (called d) c || b) (has-called all c)

map-push : (all : List code.Call) (c : code.Call) → map called (all ++ c ∷ []) ≡ map called all ++ called c ∷ []
map-push [] c = refl
map-push (d ∷ all) c = ap (λ (cs : List Call). called d ∷ cs) (map-push all c)

pub add_is : (all : List code.Call) (c : code.Call) → outcome.has all (called c) ≡ false → map called (all ++ c ∷ []) ≡ with_call (map called all) (called c)
add_is all c none = map-push all c ∙ ap (λ b. if b then map called all else map called all ++ called c ∷ []) (sym (sym (has-called all (called c)) ∙ none))

pub there_is : (all : List code.Call) (c : Call) → outcome.has all c ≡ true → map called all ≡ with_call (map called all) c
there_is all c some = ap (λ b. if b then map called all else map called all ++ c ∷ []) (sym (sym (has-called all c) ∙ some))
