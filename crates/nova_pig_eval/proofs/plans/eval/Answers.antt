use Rattle.nova_pig_eval.proofs.Tabled.{are_rows}
use Rattle.nova_pig_eval.proofs.plans.eval.Goals as goal

pub from_rows-requires : goal.from_rows-requires
from_rows-requires c =
    let all = are_rows c.keys_tell_rows_apart.ensures.plans c.rows_fit_their_kinds.ensures.plans c.all_fit.ensures.rows c.keys_rise.ensures.rows c.args.plan.now c.nodes.ensures.plan c.requires.key
    c.args.tables.now c.in_ok-lent.ensures.tables c.requires.inputs in
    rw (c.in_ok-schema.ensures, c.output.ensures, c.in_ok-rows.ensures, c.in_ok-relation.ensures, c.nodes.ensures.nodes, c.stored.ensures, c.deref.ensures.value, c.in_ok-lent.ensures.rows) all
