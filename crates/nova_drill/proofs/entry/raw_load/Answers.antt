use Rattle.std.proofs.Common.{refl, sym, ap, ◌∙◌, subst, arith}
use Rattle.nova_value.specs.Rows.{Shape}
use Rattle.nova_value.specs.Entries.{FitsEntry}
use Rattle.nova_delta.specs.Merge.{DeltaValue, no_change}
use Rattle.nova_drill.proofs.Loading.{all_loaded, load_goes_on}
use Rattle.nova_drill.proofs.Loads.{IsLoading}
use Rattle.nova_drill.proofs.entry.raw_load.Goals as goal

pub loop-init : goal.loop-init
loop-init c =
    let empty = c.empty-delta.ensures ∙ ap no_change c.in_ok-raw_schema.ensures in
    subst (λ (d : DeltaValue). IsLoading 8 c.args.number c.args.number d) (sym empty)
    (record { schema = refl; bound = c.requires; goes_on = refl; rest = refl })

pub set-requires : goal.set-requires
set-requires c = subst (λ (s : Shape). FitsEntry s c.in_ok-raw_entry.field-0) (sym c.loop.invariant.schema) c.in_ok-raw_entry.ensures.fits

pub loop-preserved : goal.loop-preserved
loop-preserved c =
    load_goes_on c.loop.counter c.args.number c.loop.last c.next_number-last.result c.loop.delta c.set.new.self c.in_ok-raw_entry.field-0
    c.loop-test.true c.next_number-last.ensures.next c.next_number-last.ensures.bound c.in_ok-raw_entry.ensures.entry c.in_ok-set.ensures.ok c.loop.invariant

pub returns-clause-delta : goal.returns-clause-delta
returns-clause-delta c = (all_loaded c.loop.counter c.args.number c.loop.last c.loop.delta (omega (arith, c.loop-test.false)) c.loop.invariant).0

pub returns-clause-last : goal.returns-clause-last
returns-clause-last c = (all_loaded c.loop.counter c.args.number c.loop.last c.loop.delta (omega (arith, c.loop-test.false)) c.loop.invariant).1
