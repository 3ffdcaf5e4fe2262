-- The laws of rules.
use Rattle.std.specs.Prelude.{refl}
use Rattle.std.proofs.Common.{ap, ◌∙◌}
use Rattle.std.specs.FinMap.{get}
use Rattle.nova_delta.specs.Merge.{RowMap}
use Rattle.nova_delta.specs.ActionLaws.{get-merged}
use Rattle.nova_rowwise.specs.Statements.{RulesMerge}
use Rattle.nova_rowwise.proofs.Merges.{rule_merges}

pub rules_merge : RulesMerge
rules_merge s o outs shape origin of rule m n d is_m is_n is_d next =
    rule_merges s o outs shape origin of of of m n d is_m is_n is_d (λ k. ap (λ (x : RowMap). get x k) next ∙ get-merged m d k) rule rule (λ r i e. refl) (λ r i. refl)
