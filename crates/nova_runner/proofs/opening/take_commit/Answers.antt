use Rattle.std.proofs.Common.{◌≡◌, ap, sym, ◌∙◌, true, false, Err}
use Rattle.nova_meta.specs.Catalog.{allows}
use Rattle.nova_commit.specs.declared.commit.Commit.{Commit}
use Rattle.nova_commit.proofs.Reading.{spelled_once}
use Rattle.nova_runner.proofs.opening.take_commit.Goals as goal

pub returns-in-Err-BadRecord-prepare : goal.returns-in-Err-BadRecord-prepare
returns-in-Err-BadRecord-prepare c other fits is allowed =
    let found = c.in-Ok.ensures.found in
    let same = spelled_once other c.in-Ok.commit fits found.0 (sym is ∙ found.1) in
    let no : allows c.args.catalog.now c.in-Ok.commit ≡ false = c.in-Err-BadRecord-prepare.ensures.refused (ap Err c.in-Err-BadRecord-prepare.field-0-is) in
    let yes : allows c.args.catalog.now c.in-Ok.commit ≡ true = sym (ap (λ (k : Commit). allows c.args.catalog.now k) same) ∙ allowed in
    absurd (let clash : true ≡ false = sym yes ∙ no in cc)
