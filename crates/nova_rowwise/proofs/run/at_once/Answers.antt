use Rattle.std.proofs.Common.{rules, arith, ◌≡◌, ◌∙◌, ap, map}
use Rattle.std.proofs.lemmas.Grind.{common_steps}
use Rattle.std.specs.FinMap as fin
use Rattle.nova_value.specs.declared.schema.Entry.TheVariants.{Put}
use Rattle.nova_delta.specs.Merge.{DeltaValue}
use Rattle.nova_delta.specs.Merge.{no_change}
use Rattle.nova_pig_algebra.specs.Plan.{tree_of_plan}
use Rattle.nova_rowwise.specs.AtOnce as once
use Rattle.nova_rowwise.specs.Derived as spec
use Rattle.nova_rowwise.specs.Seen.{plain_of}
use Rattle.nova_rowwise.specs.Sources.{keys_by, sources, as_fields}
use Rattle.nova_rowwise.proofs.Folds.{set_schema}
use Rattle.nova_rowwise.proofs.run.at_once.Goals as goal

pub put_all-requires : goal.put_all-requires
put_all-requires c =
    let s = ap (λ (d : DeltaValue). d.schema) c.in_ok-remove_all.ensures ∙ set_schema (once.removals (keys_by c.args.input.now.schema.key (map (λ q. map plain_of q.items) c.deref-2.result.now)) (fin.keys c.args.input.now.entries)) c.empty-out.result ∙ ap (λ (d : DeltaValue). d.schema) c.empty-out.ensures ∙ c.in_ok-copy.ensures ∙ c.output-2.ensures in
    rw (s, c.in_ok-rows.ensures) c.requires.rows

pub returns : goal.returns
returns c =
    let p = c.args.plan.now in
    let d = c.args.input.now in
    let found : map (λ q. map plain_of q.items) c.add_sources.new.out.items ≡ sources (tree_of_plan p) (as_fields p.output.key) = first_of (search rules, grind (arith, common_steps)) in
    let empty : c.empty-out.result ≡ no_change p.output = first_of (search rules, grind (arith, common_steps)) in
    c.in_ok-put_all.ensures
    ∙ ap (λ x. spec.set_all x (map Put c.in_ok-rows.rows.items)) (c.in_ok-remove_all.ensures
    ∙ ap (λ ls. spec.set_all c.empty-out.result (once.removals (keys_by d.schema.key (map (λ q. map plain_of q.items) ls)) (fin.keys d.entries))) c.deref-2.ensures.value
    ∙ ap (λ x. spec.set_all x (once.removals (keys_by d.schema.key (map (λ q. map plain_of q.items) c.add_sources.new.out.items)) (fin.keys d.entries))) empty
    ∙ ap (λ lists. spec.set_all (no_change p.output) (once.removals (keys_by d.schema.key lists) (fin.keys d.entries))) found)
    ∙ ap (λ rs. spec.set_all (spec.set_all (no_change p.output) (once.removals (keys_by d.schema.key (sources (tree_of_plan p) (as_fields p.output.key))) (fin.keys d.entries))) (map Put rs)) c.in_ok-rows.ensures
