use Rattle.std.proofs.Common.{◌≡◌, ◌≤◌, ◌+◌, ℕ, IsTrue, map, take}
use Rattle.nova_outside.specs.History.{current}
use Rattle.nova_delta.specs.Merge.{TableValue}
use Rattle.nova_workflow.specs.declared.flow.Input.{Input}
use Rattle.nova_execution.specs.Reads.{AreTables, IsReadDamage, reads_size, schema_at, whole_reads}
use Rattle.nova_execution.proofs.inputs.read_inputs.Given as goal

abbrev pub invariant-loop-at : goal.invariant-loop-at
invariant-loop-at g l = record {
  reads : IsTrue g.H.Host.is_honest → AreTables l.channels l.catalog (current (g.H.Host.history l.fn.host)) (take l.at (whole_reads l.inputs l.versions)) l.tables.items;
  undamaged : IsTrue g.H.Host.is_honest → (file at : ℕ) → IsReadDamage l.channels l.catalog (current (g.H.Host.history l.fn.host)) (take l.at (whole_reads l.inputs l.versions)) file at → ⊥;
  schemas : map (λ (t : TableValue). t.schema) l.tables.items ≡ map (λ (i : Input). schema_at l.channels i.channel) (take l.at l.inputs);
  same : IsTrue g.H.Host.is_honest → g.H.Host.history l.host ≡ g.H.Host.history l.fn.host;
  later : g.H.Host.disk_faults l.fn.host ≤ g.H.Host.disk_faults l.host;
  reply_faults : g.H.Host.reply_faults l.host ≡ g.H.Host.reply_faults l.fn.host;
  bytes_read : g.H.Host.bytes_read l.host ≤ g.H.Host.bytes_read l.fn.host + reads_size l.catalog (take l.at (whole_reads l.inputs l.versions));
}
