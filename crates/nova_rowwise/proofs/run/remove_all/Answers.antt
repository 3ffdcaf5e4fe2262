use Rattle.std.proofs.Common.{rules, arith, ◌≡◌, ◌∙◌, ap, map}
use Rattle.nova_delta.specs.Merge.{DeltaValue}
use Rattle.nova_rowwise.proofs.Folds.{set_schema, removed_on, fits_on}
use Rattle.std.proofs.lemmas.Grind.{common_steps}
use Rattle.std.proofs.lemmas.Map.Iter.{rest_more}
use Rattle.std.specs.Map.Iter.{deref_pair}
use Rattle.nova_value.specs.declared.schema.Entry.TheVariants.{Removal}
use Rattle.nova_value.specs.Rows.{FitsKey}
use Rattle.nova_rowwise.specs.Derived as spec
use Rattle.nova_rowwise.specs.Fits.{Each}
use Rattle.nova_rowwise.specs.Seen.{plain_of}
use Rattle.nova_rowwise.specs.Sources.{keys_by}
use Rattle.nova_rowwise.proofs.run.remove_all.Goals as goal

pub loop-key-preserved : goal.loop-key-preserved
loop-key-preserved c =
    let outs = keys_by c.args.input.now.schema.key (map (λ p. map plain_of p.items) c.args.sources.now) in
    let k = c.in-Some.key.now in
    let e = c.in-Some.field-0-1.now in
    let step = rest_more deref_pair c.loop-key.key-iterator c.next.new.self c.next.result (c.in-Some.key, c.in-Some.field-0-1) c.in-Some.is c.next.ensures.steps in
    let made : c.remove_keys.new.out ≡ spec.set_all c.loop-key.out (map Removal (outs k)) = first_of (search rules, grind (arith, common_steps)) in
    record {
      schema = ap (λ (d : DeltaValue). d.schema) made ∙ set_schema (map Removal (outs k)) c.loop-key.out ∙ c.loop-key.invariant.schema;
      fit = fits_on outs k e c.loop-key.key-iterator c.next.new.self step (λ j. Each (FitsKey c.args.out.now.schema) (outs j)) c.loop-key.invariant.fit;
      rest = removed_on outs k e c.loop-key.key-iterator c.next.new.self step c.loop-key.out c.remove_keys.new.out _ made c.loop-key.invariant.rest;
    }
