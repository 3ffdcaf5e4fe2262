use Rattle.std.proofs.Common.{ap, map, subst, ◌∙◌}
use Rattle.nova_value.specs.Rows.{IsShape}
use Rattle.nova_delta.specs.Listed.{rows_of}
use Rattle.nova_pig_algebra.specs.Plan.{Plan, IsPlan}
use Rattle.nova_rowwise.specs.AtOnce.{at_once}
use Rattle.nova_rowwise.proofs.Given.{keys_given, derived_is}
use Rattle.nova_rowwise.proofs.RowsFit.{rows_fit}
use Rattle.nova_rowwise.proofs.run.derive.Goals as goal

pub at_once-requires-clause-keys : goal.at_once-requires-clause-keys
at_once-requires-clause-keys c =
    let p = c.args.plan.now in
    rw c.plan-whole.ensures.plan (keys_given c.all_fit.ensures.rows c.keys_rise.ensures.rows p (subst IsPlan c.plan-whole.ensures.plan c.nodes-nodes.ensures.plan) c.plan-whole.ensures.shape c.args.lookups.now c.are_tables.ensures
    c.args.input.now c.entries-entries.ensures.delta (subst IsShape c.schema.ensures c.key-key.ensures.shape) c.requires)

pub at_once-requires-clause-rows : goal.at_once-requires-clause-rows
at_once-requires-clause-rows c =
    let p = c.args.plan.now in
    rw c.plan-whole.ensures.plan (rows_fit c.rows_fit_their_kinds.ensures.nodes c.all_fit.ensures.rows c.all_fit.ensures.entries p (subst IsPlan c.plan-whole.ensures.plan c.nodes-nodes.ensures.plan) c.args.lookups.now c.are_tables.ensures c.args.input.now c.entries-entries.ensures.delta c.requires)

pub returns : goal.returns
returns c =
    let p = c.args.plan.now in
    c.in_ok-delta.ensures ∙ ap (λ (q : Plan). at_once q (map rows_of c.args.lookups.now) c.args.input.now) c.plan-whole.ensures.plan
    ∙ derived_is c.all_fit.ensures.rows c.keys_rise.ensures.rows p (subst IsPlan c.plan-whole.ensures.plan c.nodes-nodes.ensures.plan) c.plan-whole.ensures.shape c.args.lookups.now c.are_tables.ensures
    c.args.input.now c.entries-entries.ensures.delta (subst IsShape c.schema.ensures c.key-key.ensures.shape) c.requires
