use Rattle.std.proofs.Common.{◌≡◌, sym, subst, ◌∙◌, option_map}
use Rattle.nova_path.specs.Choice.{path_in, steps_in}
use Rattle.nova_meta.specs.Catalog.{shelf_at}
use Rattle.nova_channel_cases.proofs.Example.{path_found}
use Rattle.nova_channel_cases.proofs.channel.is_readable.Goals as goal

-- src/channel.rt:58:1
pub returns-clause-path : goal.returns-clause-path
returns-clause-path c told =
    let steps = steps_in c.intervals-intervals.result.now in
    path_found (shelf_at c.args.catalog.now 0) c.intervals-intervals.ensures.shelf c.args.from c.args.to steps c.in_ok-path.field-0
    (subst (λ xs. path_in xs c.args.from c.args.to ≡ option_map steps c.in_ok-path.field-0) c.intervals-intervals.ensures.intervals c.in_ok-path.ensures.chosen)
    (sym c.is_some.ensures ∙ told)
