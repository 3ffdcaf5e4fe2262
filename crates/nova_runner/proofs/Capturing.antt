-- What a store captures and reads is what its state has.
use Rattle.std.proofs.Common.{◌≡◌, inl, ℕ, suc, ◌<◌, List, [], ◌∷◌, length, map, ap, sym, ◌∙◌, subst, arith}
use Rattle.std.specs.List.{All}
use Rattle.std.proofs.lemmas.List.Elements.{All-cons, All-nil}
use Rattle.nova_outside.specs.History.{Event, current}
use Rattle.nova_workflow.specs.declared.flow.Input.{Input}
use Rattle.nova_commit.specs.declared.commit.Commit.{Commit}
use Rattle.nova_meta.specs.Catalog.{shelf_at}
use Rattle.nova_machine.specs.Workflow.{Workflow, output_in, task_in}
use Rattle.nova_machine.specs.State.{State, newest}
use Rattle.nova_machine.specs.Due.{capture_of}
use Rattle.nova_trigger.specs.Due.{capture_in, newest_in}
use Rattle.nova_trigger.proofs.Machine.{captures_are_the_machines}
use Rattle.nova_admit.specs.Flows.{Admission}
use Rattle.nova_execution.specs.Made.{IsHeld, IsHeldFor, IsOf}
use Rattle.nova_execution.specs.Reads.{edge_of, edges_of, reads_from, run_reads}
use Rattle.nova_runner.specs.Beginning.{captured_in}
use Rattle.nova_runner.specs.Flights.{flow_of}
use Rattle.nova_runner.specs.Held.{Held}
use Rattle.nova_runner.specs.Steps.{StoreStands}
use Rattle.nova_runner.specs.Texts.{workflow_of}
use Rattle.nova_runner.proofs.Beginning.{stand_for}
use Rattle.nova_runner.proofs.Flows.{own}
use Rattle.nova_runner.proofs.Stored.{gives, one_state}

-- the workflow of a store is the admitted one, and so is its state's
pub of_admitted : (adm : Admission) (text : List ℕ) (w v : Workflow) → workflow_of text adm.flow adm.patterns ≡ w → w ≡ v → IsOf adm v
of_admitted adm text w v same is =
    let e = sym is ∙ sym same in
    record { channels = ap (λ (u : Workflow). u.channels) e; tasks = ap (λ (u : Workflow). u.tasks) e; plans = ap (λ (u : Workflow). u.plans) e }

module _ (store : Held) (commits : List Commit) (s : State) (a : List Event) (stands : StoreStands store commits a s) where
  -- an execution that begins now captures what it captures in the state
  pub captures : (t : ℕ) → capture_in (captured_in store t) ≡ capture_of s t
  captures t = captures_are_the_machines (flow_of store.flow) store.catalog store.flight s t (stand_for store commits a s stands)

  version_is : (c : ℕ) → newest s c ≡ (shelf_at store.catalog c).version
  version_is c = (stand_for store commits a s stands).versions c

  -- the files have what such a run reads
  held : (cursor : ℕ → ℕ) (k : ℕ) (is : List Input) → All (IsHeld store.catalog (current a) s) (reads_from cursor k (map edge_of is) (map (newest_in store.catalog) is))
  held cursor k [] = All-nil (IsHeld store.catalog (current a) s)
  held cursor k (i ∷ is) =
      let there = version_is i.channel in
      All-cons (IsHeld store.catalog (current a) s) _ (reads_from cursor (suc k) (map edge_of is) (map (newest_in store.catalog) is))
      (record { gives = gives store.journal.generation commits store.catalog (current a) s stands.reached stands.by i.channel; there = omega (arith, there) })
      (held cursor (suc k) is)

  pub held_for : (adm : Admission) (t : ℕ) → t < length s.flow.tasks → IsOf adm s.flow → IsHeldFor adm store.catalog (current a) t (captured_in store t) s
  held_for adm t lt is = record {
    flow = is;
    planned = (own s.flow stands.by.agrees.read).planned;
    reached = stands.reached;
    current = inl (captures t);
    last = (stand_for store commits a s stands).last t;
    newest = version_is (output_in s.flow t);
    inputs = subst (λ (w : Workflow). All (IsHeld store.catalog (current a) s) (run_reads (edges_of (task_in w t)) store.catalog t (map (newest_in store.catalog) (task_in store.flow t).inputs))) stands.flow
        (held _ 0 (task_in store.flow t).inputs);
    state = λ grouping st is. one_state store.journal.generation commits store.catalog (current a) s stands.reached stands.by t lt grouping st is;
  }
