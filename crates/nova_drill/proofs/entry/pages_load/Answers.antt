use Rattle.std.proofs.Common.{refl, sym, ap, ◌∙◌, subst, arith}
use Rattle.nova_value.specs.Rows.{Shape}
use Rattle.nova_value.specs.Entries.{FitsEntry}
use Rattle.nova_delta.specs.Merge.{DeltaValue, no_change}
use Rattle.nova_drill.proofs.Loading.{all_pages, pages_go_on}
use Rattle.nova_drill.proofs.Loads.{IsLoadingPages}
use Rattle.nova_drill.proofs.entry.pages_load.Goals as goal

pub loop-page-init : goal.loop-page-init
loop-page-init c =
    let empty = c.empty-delta.ensures ∙ ap no_change c.in_ok-pages_schema.ensures in
    subst (λ (d : DeltaValue). IsLoadingPages 0 d) (sym empty) (record { schema = refl; rest = refl })

pub set-requires : goal.set-requires
set-requires c = subst (λ (s : Shape). FitsEntry s c.in_ok-page_entry.field-0) (sym c.loop-page.invariant.schema) c.in_ok-page_entry.ensures.fits

pub loop-page-preserved : goal.loop-page-preserved
loop-page-preserved c =
    pages_go_on c.loop-page.page c.loop-page.delta c.set.new.self c.in_ok-page_entry.field-0
    c.loop-page-test.true c.in_ok-page_entry.ensures.entry c.in_ok-set.ensures.ok c.loop-page.invariant

pub returns : goal.returns
returns c = all_pages c.loop-page.page c.loop-page.delta (omega (arith, c.loop-page-test.false)) c.loop-page.invariant
