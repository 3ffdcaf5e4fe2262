use Rattle.std.proofs.Common.{rules, arith, ◌≡◌, ◌++◌, suc, map, take, drop, ap, ◌∙◌}
use Rattle.std.proofs.lemmas.Grind.{common_steps}
use Rattle.nova_delta.specs.Merge.{TableValue}
use Rattle.nova_rowwise.specs.Derived.{with_main_schema}
use Rattle.nova_rowwise_cases.proofs.Whole.{whole}
use Rattle.nova_rowwise_cases.proofs.answers.lookups.Goals as goal

pub returns : goal.returns
returns c own e =
    let front : map (λ (t : TableValue). t.schema) c.add_tables.new.all.items ≡ take c.args.main c.args.schemas.now = first_of (search rules, grind (arith, common_steps)) in
    let all : map (λ (t : TableValue). t.schema) c.add_tables-2.new.all.items ≡ map (λ (t : TableValue). t.schema) c.add_tables.new.all.items ++ drop (suc c.args.main) c.args.schemas.now = first_of (search rules, grind (arith, common_steps)) in
    ap (λ xs. with_main_schema c.args.main xs own) (all ∙ ap (λ xs. xs ++ drop (suc c.args.main) c.args.schemas.now) front) ∙ whole c.args.main c.args.schemas.now own e
