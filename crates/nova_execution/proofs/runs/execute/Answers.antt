use Rattle.std.proofs.Common.{◌≡◌, ◌∙◌, ◌≤◌, ◌<◌, ◌+◌, inl, inr, ℕ, List, [], ◌∷◌, length, Some, None, refl, ap, sym, subst}
use Rattle.std.specs.Bool.{IsTrue}
use Rattle.std.specs.List.{All}
use Rattle.std.proofs.lemmas.List.Elements.{All-head}
use Rattle.std.specs.Result.{IfErr, IfOk, OnOk}
use Rattle.nova_value.specs.Rows.{Shape}
use Rattle.nova_outside.specs.History.{current}
use Rattle.nova_workflow.specs.declared.flow.Flow.{Flow}
use Rattle.nova_pig_algebra.specs.Plan.{tree_of_plan}
use Rattle.nova_pig_pattern.specs.OutputKey.{HasOutputKey}
use Rattle.nova_admit.specs.Flows.{HasPattern, HasSchemas}
use Rattle.nova_admit.specs.TaskPlans.{kind_of, plan_of}
use Rattle.nova_admit.specs.declared.plans.Pattern.{Pattern}
use Rattle.nova_admit.specs.declared.plans.Pattern.TheVariants.{N, S, L, F}
use Rattle.nova_groups.specs.State.{StateValue}
use Rattle.nova_pig_pattern.specs.declared.task.PatternKind.TheVariants.{Stateful}
use Rattle.nova_machine.specs.Workflow.{TaskPlan}
use Rattle.nova_meta.specs.Catalog.{shelf_at}
use Rattle.nova_rowwise.specs.Derived.{main_of}
use Rattle.nova_trigger.specs.Due.{task_at}
use Rattle.nova_execution.specs.Base.{IsComputed}
use Rattle.nova_execution.specs.Damage.{ExecutionTold, IsRunDamage}
use Rattle.nova_execution.specs.Groups.{IsAdvanced, file_size, group_read, part_file, plan_at, state_file, task_plan}
use Rattle.nova_execution.specs.Reads.{HasRoute, IsReadDamage, Read, RunTold, edges_of, read_size, reads_size, run_reads, whole_reads}
use Rattle.nova_execution.specs.Rows.{IsDerived, plan_reads}
use Rattle.nova_execution.proofs.Admission.{IsByRow, has_at, is_anew, is_by_group, is_by_row, reads_new, reads_one, reads_whole, schemas_at}
use Rattle.nova_execution.proofs.Damages.{keeps_none, keeps_some, more_bytes, no_file, one_read, told_of_reads, whole_of_reads}
use Rattle.nova_execution.proofs.Executions.{executed_if, run_if}
use Rattle.nova_execution.proofs.Making.{plan_there}
use Rattle.nova_execution.proofs.RowReads.{main_within}
use Rattle.nova_execution.proofs.runs.execute.Goals as goal

-- ---- a task that computes everything

pub compute-requires-clause-key : goal.compute-requires-clause-key
compute-requires-clause-key g c = subst (λ (q : Pattern). HasOutputKey (plan_of q)) c.in-N.is (has_at c.args.admitted.now.flow c.args.task c.pattern.result.now c.requires.in_range c.pattern.ensures.admitted).key

pub compute-requires-clause-schemas : goal.compute-requires-clause-schemas
compute-requires-clause-schemas g c =
    subst (λ (f : Flow). HasSchemas f (task_at f c.args.task) c.in-N.plan) (sym c.flow-flow.ensures.flow)
    (subst (λ (q : Pattern). HasSchemas c.args.admitted.now.flow (task_at c.args.admitted.now.flow c.args.task) (plan_of q)) c.in-N.is
    (schemas_at c.args.admitted.now.flow c.args.task (plan_of c.pattern.result.now) c.requires.in_range c.pattern.ensures.schemas))

pub compute-requires-clause-paths : goal.compute-requires-clause-paths
compute-requires-clause-paths g c =
    let f = c.args.admitted.now.flow in
    let anew = is_anew f (task_at f c.args.task) c.pattern.result.now (has_at f c.args.task c.pattern.result.now c.requires.in_range c.pattern.ensures.admitted) (ap kind_of c.in-N.is) in
    subst (λ (h : Flow). All (HasRoute c.args.catalog.now) (whole_reads (task_at h c.args.task).inputs c.args.run.now.versions)) (sym c.flow-flow.ensures.flow)
    (subst (λ (rs : List Read). All (HasRoute c.args.catalog.now) rs) (reads_whole f c.args.task c.args.catalog.now c.args.run.now.versions anew) c.requires.paths)

pub returns-in-N-clause-given : goal.returns-in-N-clause-given
returns-in-N-clause-given g c honest =
    let a = c.args.admitted.now in
    let f = a.flow in
    let t = c.args.task in
    let cat = c.args.catalog.now in
    let files = current (g.H.Host.history c.args.host.now) in
    executed_if a cat files t c.args.run.now.versions (N c.in-N.plan) (c.pattern.ensures.pattern ∙ ap (λ (q : Pattern). Some q) c.in-N.is) c.compute.result
    (subst (λ (h : Flow). IfOk c.compute.result (λ x. IsComputed h.channels cat files (whole_reads (task_at h t).inputs c.args.run.now.versions) c.in-N.plan x.block × (x.state ≡ None))) c.flow-flow.ensures.flow (c.compute.ensures.made honest))

pub returns-in-N-clause-made : goal.returns-in-N-clause-made
returns-in-N-clause-made g c honest =
    let a = c.args.admitted.now in
    let f = a.flow in
    let t = c.args.task in
    let cat = c.args.catalog.now in
    let files = current (g.H.Host.history c.args.host.now) in
    let has = subst (HasPattern f (task_at f t)) c.in-N.is (has_at f t c.pattern.result.now c.requires.in_range c.pattern.ensures.admitted) in
    run_if a cat files t c.args.run.now (N c.in-N.plan) c.flow-flow.ensures.whole c.requires.in_range c.requires.each has (c.pattern.ensures.pattern ∙ ap (λ (q : Pattern). Some q) c.in-N.is) c.compute.result
    (subst (λ (h : Flow). IfOk c.compute.result (λ x. IsComputed h.channels cat files (whole_reads (task_at h t).inputs c.args.run.now.versions) c.in-N.plan x.block × (x.state ≡ None))) c.flow-flow.ensures.flow (c.compute.ensures.made honest))

pub returns-in-N-clause-schema : goal.returns-in-N-clause-schema
returns-in-N-clause-schema g c =
    let f = c.args.admitted.now.flow in
    let schemas = subst (λ (q : Pattern). HasSchemas f (task_at f c.args.task) (plan_of q)) c.in-N.is (schemas_at f c.args.task (plan_of c.pattern.result.now) c.requires.in_range c.pattern.ensures.schemas) in
    subst (λ (s : Shape). IfOk c.compute.result (λ x. x.block.schema ≡ s)) schemas.output c.compute.ensures.schema

pub returns-in-N-clause-keeps : goal.returns-in-N-clause-keeps
returns-in-N-clause-keeps g c = keeps_none c.args.admitted.now c.args.task (N c.in-N.plan) (c.pattern.ensures.pattern ∙ ap (λ (q : Pattern). Some q) c.in-N.is) refl c.compute.result c.compute.ensures.kept

pub returns-in-N-clause-told : goal.returns-in-N-clause-told
returns-in-N-clause-told g c honest =
    let a = c.args.admitted.now in
    let f = a.flow in
    let t = c.args.task in
    let cat = c.args.catalog.now in
    let files = current (g.H.Host.history c.args.host.now) in
    let anew = is_anew f (task_at f t) c.pattern.result.now (has_at f t c.pattern.result.now c.requires.in_range c.pattern.ensures.admitted) (ap kind_of c.in-N.is) in
    let reads = reads_whole f t cat c.args.run.now.versions anew in
    told_of_reads f.channels (plan_at a t) cat files t (run_reads (edges_of (task_at f t)) cat t c.args.run.now.versions) c.compute.result
    (subst (λ (rs : List Read). IfErr c.compute.result (RunTold f.channels cat files rs)) (sym reads) (subst (λ (h : Flow). IsTrue g.H.Host.is_honest → IfErr c.compute.result (RunTold h.channels cat files (whole_reads (task_at h t).inputs c.args.run.now.versions))) c.flow-flow.ensures.flow c.compute.ensures.told honest))

pub returns-in-N-clause-undamaged : goal.returns-in-N-clause-undamaged
returns-in-N-clause-undamaged g c honest =
    let a = c.args.admitted.now in
    let f = a.flow in
    let t = c.args.task in
    let cat = c.args.catalog.now in
    let files = current (g.H.Host.history c.args.host.now) in
    let anew = is_anew f (task_at f t) c.pattern.result.now (has_at f t c.pattern.result.now c.requires.in_range c.pattern.ensures.admitted) (ap kind_of c.in-N.is) in
    let reads = reads_whole f t cat c.args.run.now.versions anew in
    whole_of_reads f.channels (plan_at a t) cat files t (run_reads (edges_of (task_at f t)) cat t c.args.run.now.versions) (no_file a t (N c.in-N.plan) (c.pattern.ensures.pattern ∙ ap (λ (q : Pattern). Some q) c.in-N.is) cat refl) c.compute.result
    (subst (λ (rs : List Read). OnOk c.compute.result ((file at : ℕ) → IsReadDamage f.channels cat files rs file at → ⊥)) (sym reads) (subst (λ (h : Flow). IsTrue g.H.Host.is_honest → OnOk c.compute.result ((file at : ℕ) → IsReadDamage h.channels cat files (whole_reads (task_at h t).inputs c.args.run.now.versions) file at → ⊥)) c.flow-flow.ensures.flow c.compute.ensures.undamaged honest))

pub returns-in-N-clause-bytes_read : goal.returns-in-N-clause-bytes_read
returns-in-N-clause-bytes_read g c =
    let a = c.args.admitted.now in
    let f = a.flow in
    let t = c.args.task in
    let cat = c.args.catalog.now in
    let anew = is_anew f (task_at f t) c.pattern.result.now (has_at f t c.pattern.result.now c.requires.in_range c.pattern.ensures.admitted) (ap kind_of c.in-N.is) in
    let reads = reads_whole f t cat c.args.run.now.versions anew in
    more_bytes (g.H.Host.bytes_read c.compute.new.host) (g.H.Host.bytes_read c.args.host.now) _ _
    (subst (λ (rs : List Read). g.H.Host.bytes_read c.compute.new.host ≤ g.H.Host.bytes_read c.args.host.now + reads_size cat rs) (sym reads)
    (subst (λ (h : Flow). g.H.Host.bytes_read c.compute.new.host ≤ g.H.Host.bytes_read c.args.host.now + reads_size cat (whole_reads (task_at h t).inputs c.args.run.now.versions)) c.flow-flow.ensures.flow c.compute.ensures.bytes_read))

-- ---- a stateless task

pub derive_block-requires-clause-main : goal.derive_block-requires-clause-main
derive_block-requires-clause-main g c =
    let f = c.args.admitted.now.flow in
    let t = c.args.task in
    let by_row = subst (λ (q : Pattern). IsByRow f (task_at f t) (plan_of q)) c.in-S.is (is_by_row f (task_at f t) c.pattern.result.now (has_at f t c.pattern.result.now c.requires.in_range c.pattern.ensures.admitted) (inl (ap kind_of c.in-S.is))) in
    subst (λ (h : Flow). main_of (tree_of_plan c.in-S.plan) < length (task_at h t).inputs) (sym c.flow-flow.ensures.flow) (main_within f (task_at f t).inputs (main_of (tree_of_plan c.in-S.plan)) by_row.main)

pub derive_block-requires-clause-schemas : goal.derive_block-requires-clause-schemas
derive_block-requires-clause-schemas g c =
    subst (λ (f : Flow). HasSchemas f (task_at f c.args.task) c.in-S.plan) (sym c.flow-flow.ensures.flow)
    (subst (λ (q : Pattern). HasSchemas c.args.admitted.now.flow (task_at c.args.admitted.now.flow c.args.task) (plan_of q)) c.in-S.is
    (schemas_at c.args.admitted.now.flow c.args.task (plan_of c.pattern.result.now) c.requires.in_range c.pattern.ensures.schemas))

pub derive_block-requires-clause-paths : goal.derive_block-requires-clause-paths
derive_block-requires-clause-paths g c =
    let f = c.args.admitted.now.flow in
    let t = c.args.task in
    let by_row = subst (λ (q : Pattern). IsByRow f (task_at f t) (plan_of q)) c.in-S.is (is_by_row f (task_at f t) c.pattern.result.now (has_at f t c.pattern.result.now c.requires.in_range c.pattern.ensures.admitted) (inl (ap kind_of c.in-S.is))) in
    subst (λ (h : Flow). All (HasRoute c.args.catalog.now) (plan_reads c.args.catalog.now t c.in-S.plan (task_at h t).inputs c.args.run.now.versions)) (sym c.flow-flow.ensures.flow)
    (subst (λ (rs : List Read). All (HasRoute c.args.catalog.now) rs) (reads_new f t c.args.catalog.now c.in-S.plan c.args.run.now.versions c.requires.each by_row) c.requires.paths)

pub returns-in-S-clause-given : goal.returns-in-S-clause-given
returns-in-S-clause-given g c honest =
    let a = c.args.admitted.now in
    let f = a.flow in
    let t = c.args.task in
    let cat = c.args.catalog.now in
    let files = current (g.H.Host.history c.args.host.now) in
    executed_if a cat files t c.args.run.now.versions (S c.in-S.plan) (c.pattern.ensures.pattern ∙ ap (λ (q : Pattern). Some q) c.in-S.is) c.derive_block.result
    (subst (λ (h : Flow). IfOk c.derive_block.result (λ x. IsDerived h.channels cat files t (task_at h t).inputs c.args.run.now.versions c.in-S.plan (shelf_at cat (task_at h t).output).version x.block × (x.state ≡ None))) c.flow-flow.ensures.flow (c.derive_block.ensures.made honest))

pub returns-in-S-clause-made : goal.returns-in-S-clause-made
returns-in-S-clause-made g c honest =
    let a = c.args.admitted.now in
    let f = a.flow in
    let t = c.args.task in
    let cat = c.args.catalog.now in
    let files = current (g.H.Host.history c.args.host.now) in
    let has = subst (HasPattern f (task_at f t)) c.in-S.is (has_at f t c.pattern.result.now c.requires.in_range c.pattern.ensures.admitted) in
    run_if a cat files t c.args.run.now (S c.in-S.plan) c.flow-flow.ensures.whole c.requires.in_range c.requires.each has (c.pattern.ensures.pattern ∙ ap (λ (q : Pattern). Some q) c.in-S.is) c.derive_block.result
    (subst (λ (h : Flow). IfOk c.derive_block.result (λ x. IsDerived h.channels cat files t (task_at h t).inputs c.args.run.now.versions c.in-S.plan (shelf_at cat (task_at h t).output).version x.block × (x.state ≡ None))) c.flow-flow.ensures.flow (c.derive_block.ensures.made honest))

pub returns-in-S-clause-schema : goal.returns-in-S-clause-schema
returns-in-S-clause-schema g c =
    let f = c.args.admitted.now.flow in
    let schemas = subst (λ (q : Pattern). HasSchemas f (task_at f c.args.task) (plan_of q)) c.in-S.is (schemas_at f c.args.task (plan_of c.pattern.result.now) c.requires.in_range c.pattern.ensures.schemas) in
    subst (λ (s : Shape). IfOk c.derive_block.result (λ x. x.block.schema ≡ s)) schemas.output c.derive_block.ensures.schema

pub returns-in-S-clause-keeps : goal.returns-in-S-clause-keeps
returns-in-S-clause-keeps g c = keeps_none c.args.admitted.now c.args.task (S c.in-S.plan) (c.pattern.ensures.pattern ∙ ap (λ (q : Pattern). Some q) c.in-S.is) refl c.derive_block.result c.derive_block.ensures.kept

pub returns-in-S-clause-told : goal.returns-in-S-clause-told
returns-in-S-clause-told g c honest =
    let a = c.args.admitted.now in
    let f = a.flow in
    let t = c.args.task in
    let cat = c.args.catalog.now in
    let files = current (g.H.Host.history c.args.host.now) in
    let by_row = subst (λ (q : Pattern). IsByRow f (task_at f t) (plan_of q)) c.in-S.is (is_by_row f (task_at f t) c.pattern.result.now (has_at f t c.pattern.result.now c.requires.in_range c.pattern.ensures.admitted) (inl (ap kind_of c.in-S.is))) in
    let reads = reads_new f t cat c.in-S.plan c.args.run.now.versions c.requires.each by_row in
    told_of_reads f.channels (plan_at a t) cat files t (run_reads (edges_of (task_at f t)) cat t c.args.run.now.versions) c.derive_block.result
    (subst (λ (rs : List Read). IfErr c.derive_block.result (RunTold f.channels cat files rs)) (sym reads) (subst (λ (h : Flow). IsTrue g.H.Host.is_honest → IfErr c.derive_block.result (RunTold h.channels cat files (plan_reads cat t c.in-S.plan (task_at h t).inputs c.args.run.now.versions))) c.flow-flow.ensures.flow c.derive_block.ensures.told honest))

pub returns-in-S-clause-undamaged : goal.returns-in-S-clause-undamaged
returns-in-S-clause-undamaged g c honest =
    let a = c.args.admitted.now in
    let f = a.flow in
    let t = c.args.task in
    let cat = c.args.catalog.now in
    let files = current (g.H.Host.history c.args.host.now) in
    let by_row = subst (λ (q : Pattern). IsByRow f (task_at f t) (plan_of q)) c.in-S.is (is_by_row f (task_at f t) c.pattern.result.now (has_at f t c.pattern.result.now c.requires.in_range c.pattern.ensures.admitted) (inl (ap kind_of c.in-S.is))) in
    let reads = reads_new f t cat c.in-S.plan c.args.run.now.versions c.requires.each by_row in
    whole_of_reads f.channels (plan_at a t) cat files t (run_reads (edges_of (task_at f t)) cat t c.args.run.now.versions) (no_file a t (S c.in-S.plan) (c.pattern.ensures.pattern ∙ ap (λ (q : Pattern). Some q) c.in-S.is) cat refl) c.derive_block.result
    (subst (λ (rs : List Read). OnOk c.derive_block.result ((file at : ℕ) → IsReadDamage f.channels cat files rs file at → ⊥)) (sym reads) (subst (λ (h : Flow). IsTrue g.H.Host.is_honest → OnOk c.derive_block.result ((file at : ℕ) → IsReadDamage h.channels cat files (plan_reads cat t c.in-S.plan (task_at h t).inputs c.args.run.now.versions) file at → ⊥)) c.flow-flow.ensures.flow c.derive_block.ensures.undamaged honest))

pub returns-in-S-clause-bytes_read : goal.returns-in-S-clause-bytes_read
returns-in-S-clause-bytes_read g c =
    let a = c.args.admitted.now in
    let f = a.flow in
    let t = c.args.task in
    let cat = c.args.catalog.now in
    let by_row = subst (λ (q : Pattern). IsByRow f (task_at f t) (plan_of q)) c.in-S.is (is_by_row f (task_at f t) c.pattern.result.now (has_at f t c.pattern.result.now c.requires.in_range c.pattern.ensures.admitted) (inl (ap kind_of c.in-S.is))) in
    let reads = reads_new f t cat c.in-S.plan c.args.run.now.versions c.requires.each by_row in
    more_bytes (g.H.Host.bytes_read c.derive_block.new.host) (g.H.Host.bytes_read c.args.host.now) _ _
    (subst (λ (rs : List Read). g.H.Host.bytes_read c.derive_block.new.host ≤ g.H.Host.bytes_read c.args.host.now + reads_size cat rs) (sym reads)
    (subst (λ (h : Flow). g.H.Host.bytes_read c.derive_block.new.host ≤ g.H.Host.bytes_read c.args.host.now + reads_size cat (plan_reads cat t c.in-S.plan (task_at h t).inputs c.args.run.now.versions)) c.flow-flow.ensures.flow c.derive_block.ensures.bytes_read))

-- ---- a task with lookup tables

pub derive_block-requires-in-L-clause-main : goal.derive_block-requires-in-L-clause-main
derive_block-requires-in-L-clause-main g c =
    let f = c.args.admitted.now.flow in
    let t = c.args.task in
    let by_row = subst (λ (q : Pattern). IsByRow f (task_at f t) (plan_of q)) c.in-L.is (is_by_row f (task_at f t) c.pattern.result.now (has_at f t c.pattern.result.now c.requires.in_range c.pattern.ensures.admitted) (inr (ap kind_of c.in-L.is))) in
    subst (λ (h : Flow). main_of (tree_of_plan c.in-L.plan) < length (task_at h t).inputs) (sym c.flow-flow.ensures.flow) (main_within f (task_at f t).inputs (main_of (tree_of_plan c.in-L.plan)) by_row.main)

pub derive_block-requires-in-L-clause-schemas : goal.derive_block-requires-in-L-clause-schemas
derive_block-requires-in-L-clause-schemas g c =
    subst (λ (f : Flow). HasSchemas f (task_at f c.args.task) c.in-L.plan) (sym c.flow-flow.ensures.flow)
    (subst (λ (q : Pattern). HasSchemas c.args.admitted.now.flow (task_at c.args.admitted.now.flow c.args.task) (plan_of q)) c.in-L.is
    (schemas_at c.args.admitted.now.flow c.args.task (plan_of c.pattern.result.now) c.requires.in_range c.pattern.ensures.schemas))

pub derive_block-requires-in-L-clause-paths : goal.derive_block-requires-in-L-clause-paths
derive_block-requires-in-L-clause-paths g c =
    let f = c.args.admitted.now.flow in
    let t = c.args.task in
    let by_row = subst (λ (q : Pattern). IsByRow f (task_at f t) (plan_of q)) c.in-L.is (is_by_row f (task_at f t) c.pattern.result.now (has_at f t c.pattern.result.now c.requires.in_range c.pattern.ensures.admitted) (inr (ap kind_of c.in-L.is))) in
    subst (λ (h : Flow). All (HasRoute c.args.catalog.now) (plan_reads c.args.catalog.now t c.in-L.plan (task_at h t).inputs c.args.run.now.versions)) (sym c.flow-flow.ensures.flow)
    (subst (λ (rs : List Read). All (HasRoute c.args.catalog.now) rs) (reads_new f t c.args.catalog.now c.in-L.plan c.args.run.now.versions c.requires.each by_row) c.requires.paths)

pub returns-in-L-clause-given : goal.returns-in-L-clause-given
returns-in-L-clause-given g c honest =
    let a = c.args.admitted.now in
    let f = a.flow in
    let t = c.args.task in
    let cat = c.args.catalog.now in
    let files = current (g.H.Host.history c.args.host.now) in
    executed_if a cat files t c.args.run.now.versions (L c.in-L.plan) (c.pattern.ensures.pattern ∙ ap (λ (q : Pattern). Some q) c.in-L.is) c.derive_block-in-L.result
    (subst (λ (h : Flow). IfOk c.derive_block-in-L.result (λ x. IsDerived h.channels cat files t (task_at h t).inputs c.args.run.now.versions c.in-L.plan (shelf_at cat (task_at h t).output).version x.block × (x.state ≡ None))) c.flow-flow.ensures.flow (c.derive_block-in-L.ensures.made honest))

pub returns-in-L-clause-made : goal.returns-in-L-clause-made
returns-in-L-clause-made g c honest =
    let a = c.args.admitted.now in
    let f = a.flow in
    let t = c.args.task in
    let cat = c.args.catalog.now in
    let files = current (g.H.Host.history c.args.host.now) in
    let has = subst (HasPattern f (task_at f t)) c.in-L.is (has_at f t c.pattern.result.now c.requires.in_range c.pattern.ensures.admitted) in
    run_if a cat files t c.args.run.now (L c.in-L.plan) c.flow-flow.ensures.whole c.requires.in_range c.requires.each has (c.pattern.ensures.pattern ∙ ap (λ (q : Pattern). Some q) c.in-L.is) c.derive_block-in-L.result
    (subst (λ (h : Flow). IfOk c.derive_block-in-L.result (λ x. IsDerived h.channels cat files t (task_at h t).inputs c.args.run.now.versions c.in-L.plan (shelf_at cat (task_at h t).output).version x.block × (x.state ≡ None))) c.flow-flow.ensures.flow (c.derive_block-in-L.ensures.made honest))

pub returns-in-L-clause-schema : goal.returns-in-L-clause-schema
returns-in-L-clause-schema g c =
    let f = c.args.admitted.now.flow in
    let schemas = subst (λ (q : Pattern). HasSchemas f (task_at f c.args.task) (plan_of q)) c.in-L.is (schemas_at f c.args.task (plan_of c.pattern.result.now) c.requires.in_range c.pattern.ensures.schemas) in
    subst (λ (s : Shape). IfOk c.derive_block-in-L.result (λ x. x.block.schema ≡ s)) schemas.output c.derive_block-in-L.ensures.schema

pub returns-in-L-clause-keeps : goal.returns-in-L-clause-keeps
returns-in-L-clause-keeps g c = keeps_none c.args.admitted.now c.args.task (L c.in-L.plan) (c.pattern.ensures.pattern ∙ ap (λ (q : Pattern). Some q) c.in-L.is) refl c.derive_block-in-L.result c.derive_block-in-L.ensures.kept

pub returns-in-L-clause-told : goal.returns-in-L-clause-told
returns-in-L-clause-told g c honest =
    let a = c.args.admitted.now in
    let f = a.flow in
    let t = c.args.task in
    let cat = c.args.catalog.now in
    let files = current (g.H.Host.history c.args.host.now) in
    let by_row = subst (λ (q : Pattern). IsByRow f (task_at f t) (plan_of q)) c.in-L.is (is_by_row f (task_at f t) c.pattern.result.now (has_at f t c.pattern.result.now c.requires.in_range c.pattern.ensures.admitted) (inr (ap kind_of c.in-L.is))) in
    let reads = reads_new f t cat c.in-L.plan c.args.run.now.versions c.requires.each by_row in
    told_of_reads f.channels (plan_at a t) cat files t (run_reads (edges_of (task_at f t)) cat t c.args.run.now.versions) c.derive_block-in-L.result
    (subst (λ (rs : List Read). IfErr c.derive_block-in-L.result (RunTold f.channels cat files rs)) (sym reads) (subst (λ (h : Flow). IsTrue g.H.Host.is_honest → IfErr c.derive_block-in-L.result (RunTold h.channels cat files (plan_reads cat t c.in-L.plan (task_at h t).inputs c.args.run.now.versions))) c.flow-flow.ensures.flow c.derive_block-in-L.ensures.told honest))

pub returns-in-L-clause-undamaged : goal.returns-in-L-clause-undamaged
returns-in-L-clause-undamaged g c honest =
    let a = c.args.admitted.now in
    let f = a.flow in
    let t = c.args.task in
    let cat = c.args.catalog.now in
    let files = current (g.H.Host.history c.args.host.now) in
    let by_row = subst (λ (q : Pattern). IsByRow f (task_at f t) (plan_of q)) c.in-L.is (is_by_row f (task_at f t) c.pattern.result.now (has_at f t c.pattern.result.now c.requires.in_range c.pattern.ensures.admitted) (inr (ap kind_of c.in-L.is))) in
    let reads = reads_new f t cat c.in-L.plan c.args.run.now.versions c.requires.each by_row in
    whole_of_reads f.channels (plan_at a t) cat files t (run_reads (edges_of (task_at f t)) cat t c.args.run.now.versions) (no_file a t (L c.in-L.plan) (c.pattern.ensures.pattern ∙ ap (λ (q : Pattern). Some q) c.in-L.is) cat refl) c.derive_block-in-L.result
    (subst (λ (rs : List Read). OnOk c.derive_block-in-L.result ((file at : ℕ) → IsReadDamage f.channels cat files rs file at → ⊥)) (sym reads) (subst (λ (h : Flow). IsTrue g.H.Host.is_honest → OnOk c.derive_block-in-L.result ((file at : ℕ) → IsReadDamage h.channels cat files (plan_reads cat t c.in-L.plan (task_at h t).inputs c.args.run.now.versions) file at → ⊥)) c.flow-flow.ensures.flow c.derive_block-in-L.ensures.undamaged honest))

pub returns-in-L-clause-bytes_read : goal.returns-in-L-clause-bytes_read
returns-in-L-clause-bytes_read g c =
    let a = c.args.admitted.now in
    let f = a.flow in
    let t = c.args.task in
    let cat = c.args.catalog.now in
    let by_row = subst (λ (q : Pattern). IsByRow f (task_at f t) (plan_of q)) c.in-L.is (is_by_row f (task_at f t) c.pattern.result.now (has_at f t c.pattern.result.now c.requires.in_range c.pattern.ensures.admitted) (inr (ap kind_of c.in-L.is))) in
    let reads = reads_new f t cat c.in-L.plan c.args.run.now.versions c.requires.each by_row in
    more_bytes (g.H.Host.bytes_read c.derive_block-in-L.new.host) (g.H.Host.bytes_read c.args.host.now) _ _
    (subst (λ (rs : List Read). g.H.Host.bytes_read c.derive_block-in-L.new.host ≤ g.H.Host.bytes_read c.args.host.now + reads_size cat rs) (sym reads)
    (subst (λ (h : Flow). g.H.Host.bytes_read c.derive_block-in-L.new.host ≤ g.H.Host.bytes_read c.args.host.now + reads_size cat (plan_reads cat t c.in-L.plan (task_at h t).inputs c.args.run.now.versions)) c.flow-flow.ensures.flow c.derive_block-in-L.ensures.bytes_read))

-- ---- a grouping task

pub advance_block-requires-clause-one : goal.advance_block-requires-clause-one
advance_block-requires-clause-one g c =
    let f = c.args.admitted.now.flow in
    let t = c.args.task in
    let by = is_by_group f (task_at f t) c.pattern.result.now (has_at f t c.pattern.result.now c.requires.in_range c.pattern.ensures.admitted) (ap kind_of c.in-F.is) in
    subst (λ (h : Flow). length (task_at h t).inputs ≡ 1) (sym c.flow-flow.ensures.flow) by.one

pub advance_block-requires-clause-path : goal.advance_block-requires-clause-path
advance_block-requires-clause-path g c =
    let f = c.args.admitted.now.flow in
    let t = c.args.task in
    let cat = c.args.catalog.now in
    let by = is_by_group f (task_at f t) c.pattern.result.now (has_at f t c.pattern.result.now c.requires.in_range c.pattern.ensures.admitted) (ap kind_of c.in-F.is) in
    subst (λ (h : Flow). HasRoute cat (group_read cat t (task_at h t).inputs c.args.run.now.versions)) (sym c.flow-flow.ensures.flow)
    (All-head (HasRoute cat) (group_read cat t (task_at f t).inputs c.args.run.now.versions) [] (subst (λ (rs : List Read). All (HasRoute cat) rs) (reads_one f t cat c.args.run.now.versions c.requires.each by) c.requires.paths))

pub returns-in-F-clause-given : goal.returns-in-F-clause-given
returns-in-F-clause-given g c honest =
    let a = c.args.admitted.now in
    let f = a.flow in
    let t = c.args.task in
    let cat = c.args.catalog.now in
    let files = current (g.H.Host.history c.args.host.now) in
    executed_if a cat files t c.args.run.now.versions (F c.in-F.plan) (c.pattern.ensures.pattern ∙ ap (λ (q : Pattern). Some q) c.in-F.is) c.advance_block.result
    (subst (λ (h : Flow). IfOk c.advance_block.result (λ x. (after : StateValue) × (x.state ≡ Some after) × IsAdvanced h.channels cat files t (task_at h t).inputs c.args.run.now.versions c.in-F.plan (shelf_at cat (task_at h t).output).version x.block after)) c.flow-flow.ensures.flow (c.advance_block.ensures.made honest))

pub returns-in-F-clause-made : goal.returns-in-F-clause-made
returns-in-F-clause-made g c honest =
    let a = c.args.admitted.now in
    let f = a.flow in
    let t = c.args.task in
    let cat = c.args.catalog.now in
    let files = current (g.H.Host.history c.args.host.now) in
    let has = subst (HasPattern f (task_at f t)) c.in-F.is (has_at f t c.pattern.result.now c.requires.in_range c.pattern.ensures.admitted) in
    run_if a cat files t c.args.run.now (F c.in-F.plan) c.flow-flow.ensures.whole c.requires.in_range c.requires.each has (c.pattern.ensures.pattern ∙ ap (λ (q : Pattern). Some q) c.in-F.is) c.advance_block.result
    (subst (λ (h : Flow). IfOk c.advance_block.result (λ x. (after : StateValue) × (x.state ≡ Some after) × IsAdvanced h.channels cat files t (task_at h t).inputs c.args.run.now.versions c.in-F.plan (shelf_at cat (task_at h t).output).version x.block after)) c.flow-flow.ensures.flow (c.advance_block.ensures.made honest))

pub returns-in-F-clause-schema : goal.returns-in-F-clause-schema
returns-in-F-clause-schema g c =
    let f = c.args.admitted.now.flow in
    let schemas = subst (λ (q : Pattern). HasSchemas f (task_at f c.args.task) (plan_of q)) c.in-F.is (schemas_at f c.args.task (plan_of c.pattern.result.now) c.requires.in_range c.pattern.ensures.schemas) in
    subst (λ (s : Shape). IfOk c.advance_block.result (λ x. x.block.schema ≡ s)) schemas.output c.advance_block.ensures.schema

pub returns-in-F-clause-keeps : goal.returns-in-F-clause-keeps
returns-in-F-clause-keeps g c = keeps_some c.args.admitted.now c.args.task (F c.in-F.plan) (c.pattern.ensures.pattern ∙ ap (λ (q : Pattern). Some q) c.in-F.is) refl c.advance_block.result c.advance_block.ensures.kept

pub returns-in-F-clause-told : goal.returns-in-F-clause-told
returns-in-F-clause-told g c honest =
    let a = c.args.admitted.now in
    let f = a.flow in
    let t = c.args.task in
    let cat = c.args.catalog.now in
    let files = current (g.H.Host.history c.args.host.now) in
    let by = is_by_group f (task_at f t) c.pattern.result.now (has_at f t c.pattern.result.now c.requires.in_range c.pattern.ensures.admitted) (ap kind_of c.in-F.is) in
    let reads = reads_one f t cat c.args.run.now.versions c.requires.each by in
    let plan : plan_at a t ≡ task_plan (F c.in-F.plan) = plan_there a.patterns t (F c.in-F.plan) (c.pattern.ensures.pattern ∙ ap (λ (q : Pattern). Some q) c.in-F.is) in
    subst (λ (rs : List Read). IfErr c.advance_block.result (ExecutionTold f.channels (plan_at a t) cat files t rs)) (sym reads)
    (subst (λ (p : TaskPlan). IfErr c.advance_block.result (ExecutionTold f.channels p cat files t ((group_read cat t (task_at f t).inputs c.args.run.now.versions) ∷ []))) (sym plan)
    (subst (λ (h : Flow). IfErr c.advance_block.result (ExecutionTold h.channels (record { plan = c.in-F.plan; pattern = Stateful }) cat files t ((group_read cat t (task_at h t).inputs c.args.run.now.versions) ∷ []))) c.flow-flow.ensures.flow (c.advance_block.ensures.told honest)))

pub returns-in-F-clause-undamaged : goal.returns-in-F-clause-undamaged
returns-in-F-clause-undamaged g c honest =
    let a = c.args.admitted.now in
    let f = a.flow in
    let t = c.args.task in
    let cat = c.args.catalog.now in
    let files = current (g.H.Host.history c.args.host.now) in
    let by = is_by_group f (task_at f t) c.pattern.result.now (has_at f t c.pattern.result.now c.requires.in_range c.pattern.ensures.admitted) (ap kind_of c.in-F.is) in
    let reads = reads_one f t cat c.args.run.now.versions c.requires.each by in
    let plan : plan_at a t ≡ task_plan (F c.in-F.plan) = plan_there a.patterns t (F c.in-F.plan) (c.pattern.ensures.pattern ∙ ap (λ (q : Pattern). Some q) c.in-F.is) in
    subst (λ (rs : List Read). OnOk c.advance_block.result ((file at : ℕ) → IsRunDamage f.channels (plan_at a t) cat files t rs file at → ⊥)) (sym reads)
    (subst (λ (p : TaskPlan). OnOk c.advance_block.result ((file at : ℕ) → IsRunDamage f.channels p cat files t ((group_read cat t (task_at f t).inputs c.args.run.now.versions) ∷ []) file at → ⊥)) (sym plan)
    (subst (λ (h : Flow). OnOk c.advance_block.result ((file at : ℕ) → IsRunDamage h.channels (record { plan = c.in-F.plan; pattern = Stateful }) cat files t ((group_read cat t (task_at h t).inputs c.args.run.now.versions) ∷ []) file at → ⊥)) c.flow-flow.ensures.flow (c.advance_block.ensures.undamaged honest)))

pub returns-in-F-clause-bytes_read : goal.returns-in-F-clause-bytes_read
returns-in-F-clause-bytes_read g c =
    let a = c.args.admitted.now in
    let f = a.flow in
    let t = c.args.task in
    let cat = c.args.catalog.now in
    let by = is_by_group f (task_at f t) c.pattern.result.now (has_at f t c.pattern.result.now c.requires.in_range c.pattern.ensures.admitted) (ap kind_of c.in-F.is) in
    let reads = reads_one f t cat c.args.run.now.versions c.requires.each by in
    let plan : plan_at a t ≡ task_plan (F c.in-F.plan) = plan_there a.patterns t (F c.in-F.plan) (c.pattern.ensures.pattern ∙ ap (λ (q : Pattern). Some q) c.in-F.is) in
    subst (λ (rs : List Read). g.H.Host.bytes_read c.advance_block.new.host ≤ g.H.Host.bytes_read c.args.host.now + (reads_size cat rs + file_size (state_file (plan_at a t) cat t))) (sym reads)
    (subst (λ (p : TaskPlan). g.H.Host.bytes_read c.advance_block.new.host ≤ g.H.Host.bytes_read c.args.host.now + (reads_size cat ((group_read cat t (task_at f t).inputs c.args.run.now.versions) ∷ []) + file_size (state_file p cat t))) (sym plan)
    (one_read cat (group_read cat t (task_at f t).inputs c.args.run.now.versions) (g.H.Host.bytes_read c.advance_block.new.host) (g.H.Host.bytes_read c.args.host.now) (file_size (part_file cat t))
    (subst (λ (h : Flow). g.H.Host.bytes_read c.advance_block.new.host ≤ g.H.Host.bytes_read c.args.host.now + (read_size cat (group_read cat t (task_at h t).inputs c.args.run.now.versions) + file_size (part_file cat t))) c.flow-flow.ensures.flow c.advance_block.ensures.bytes_read)))
