use Rattle.std.proofs.Common.{◌≡◌, drop, map}
use Rattle.nova_name.specs.Keywords as spec
use Rattle.nova_name.proofs.keywords.is_any_of.Given as goal

abbrev pub invariant-loop-word : goal.invariant-loop-word
invariant-loop-word l = spec.is_any_of (map (λ w. w.now) l.words) l.text ≡ spec.is_any_of (map (λ w. w.now) (drop l.word-index l.words)) l.text
