use Rattle.nova_admit.proofs.Told.{within, found, has_pattern, over_schemas}
use Rattle.nova_admit.proofs.admitted.Admitted.pattern.Goals as goal

pub bounds-as_slice-task : goal.bounds-as_slice-task
bounds-as_slice-task c =
    rw c.as_slice.ensures (within (record { flow = c.self.inside.flow; patterns = c.self.inside.patterns }) c.args.self.now c.args.task c.self.view_is c.self.invariant.1 c.requires)

pub returns-clause-pattern : goal.returns-clause-pattern
returns-clause-pattern c =
    found (record { flow = c.self.inside.flow; patterns = c.self.inside.patterns }) c.args.self.now c.args.task c.self.view_is c.self.invariant.1 c.requires c.as_slice.result.now c.index-as_slice-task.result c.as_slice.ensures c.index-as_slice-task.is

pub returns-clause-admitted : goal.returns-clause-admitted
returns-clause-admitted c =
    has_pattern (record { flow = c.self.inside.flow; patterns = c.self.inside.patterns }) c.args.self.now c.args.task c.self.view_is c.self.invariant.1 c.requires c.as_slice.result.now c.index-as_slice-task.result c.as_slice.ensures c.index-as_slice-task.is

pub returns-clause-schemas : goal.returns-clause-schemas
returns-clause-schemas c =
    over_schemas (record { flow = c.self.inside.flow; patterns = c.self.inside.patterns }) c.args.self.now c.args.task c.self.view_is c.self.invariant.1 c.requires c.as_slice.result.now c.index-as_slice-task.result c.as_slice.ensures c.index-as_slice-task.is
