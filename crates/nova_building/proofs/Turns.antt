-- Commands in two turns.
use Rattle.std.proofs.Common.{[], ◌∷◌, ◌++◌, refl, sym, ap, ◌∙◌, append_assoc}
use Rattle.nova_machine.specs.Steps.{after_all}
use Rattle.nova_machine.proofs.Turns.{after_all-append}
use Rattle.nova_building.specs.Building.{built_steps, built_steps_of}
use Rattle.nova_building.specs.Laws.{BuiltCommandsCompose}

pub built_steps-append : BuiltCommandsCompose
built_steps-append s [] ds = refl
built_steps-append s (c ∷ cs) ds =
    let here = built_steps_of s c in
    let next = after_all s here in
    ap (λ xs. here ++ xs) (built_steps-append next cs ds)
    ∙ sym (append_assoc here (built_steps next cs) (built_steps (after_all next (built_steps next cs)) ds))
    ∙ ap (λ t. (here ++ built_steps next cs) ++ built_steps t ds) (sym (after_all-append s here (built_steps next cs)))
