use Rattle.std.proofs.Common.{◌≡◌, ◌<◌, List, [], ◌∷◌, length, refl, ap, ◌∙◌, arith}
use Rattle.std.specs.FinMap as fin
use Rattle.nova_pig_algebra.specs.Meaning.{greatest}
use Rattle.nova_groups.specs.Numbers.{CountMap}
use Rattle.nova_groups.proofs.Extremes.{greatest_is, none_greatest}
use Rattle.nova_groups.proofs.item.Numbers.greatest.Goals as goal

nothing : {X : Type 0} (xs : List X) → (0 < length xs → ⊥) → xs ≡ []
nothing [] h = refl
nothing (x ∷ xs) h = absurd (h (omega arith))

pub returns-in-Some : goal.returns-in-Some
returns-in-Some c =
    c.lend.ensures ∙ greatest_is c.self.inside.map.entries _ c.in-Some.value.now _ c.in-Some.ensures.last c.in-Some.ensures.all_up_to
    ∙ ap (λ (m : CountMap). greatest (fin.keys m)) c.self.view_is

pub returns-in-None : goal.returns-in-None
returns-in-None c =
    none_greatest c.self.inside.map.entries (nothing c.self.inside.map.entries (λ h. let clash = c.in-None.ensures.variant.1 h in absurd cc))
    ∙ ap (λ (m : CountMap). greatest (fin.keys m)) c.self.view_is
