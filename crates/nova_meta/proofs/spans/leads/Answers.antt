use Rattle.std.proofs.Common.{◌≡◌, List, Option, Some, None, [], true, refl, ap, sym, arith}
use Rattle.std.specs.Option.{is_some}
use Rattle.nova_path.specs.Shelf.{Span}
use Rattle.nova_path.specs.Intervals.{spans, weight_in}
use Rattle.nova_path.proofs.Paths.{no_path_none, path_rises}
use Rattle.nova_path.proofs.Room.{rises_from}
use Rattle.nova_path.proofs.Weights.{none_is_no_path}
use Rattle.nova_meta.proofs.spans.leads.Goals as goal

some_is_found : (o : Option (List Span)) → (o ≡ None → ⊥) → true ≡ is_some o
some_is_found None f = absurd (f refl)
some_is_found (Some path) f = refl

-- the empty path leads from a version to itself
pub returns-then-from-to : goal.returns-then-from-to
returns-then-from-to c =
    let xs = c.args.intervals.now in
    let up = rises_from xs c.requires.rise in
    some_is_found _ (λ none. (none_is_no_path (weight_in xs) (spans xs) up c.args.from c.args.to).0 none ([], c.if-from-to.true))

-- no path leads back
pub returns-then-from-to-2 : goal.returns-then-from-to-2
returns-then-from-to-2 c =
    let xs = c.args.intervals.now in
    let up = rises_from xs c.requires.rise in
    ap is_some (sym (no_path_none (weight_in xs) (spans xs) up c.args.from c.args.to (λ p h. let le = path_rises (spans xs) up c.args.from c.args.to p h in absurd (omega (arith, le, c.if-from-to-2.true)))))
