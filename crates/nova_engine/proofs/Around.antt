-- What a store that stands for a state refuses by is what the state does.
use Rattle.std.proofs.Common.{◌≡◌, List, map, ap}
use Rattle.std.specs.Prelude.{is_some}
use Rattle.nova_outside.specs.History.{Event}
use Rattle.nova_commit.specs.declared.commit.Commit.{Commit}
use Rattle.nova_meta.specs.Catalog.{Entered}
use Rattle.nova_workflow.specs.declared.flow.Channel.{Channel}
use Rattle.nova_workflow.specs.declared.flow.Task.{Task}
use Rattle.nova_machine.specs.Workflow.{channel_in}
use Rattle.nova_machine.specs.State.{State, ended}
use Rattle.nova_machine.specs.Commands.{around}
use Rattle.nova_runner.specs.Around.{around_held}
use Rattle.nova_runner.specs.Held.{Held}
use Rattle.nova_runner.specs.Stands.{Sketch, drawn, sketch}
use Rattle.nova_runner.specs.Steps.{StoreStands}
use Rattle.nova_runner.proofs.Flights.{slot_taken}

same_moment : (cat : Entered) (s : State) → drawn cat ≡ sketch s → cat.moment ≡ s.moment
unfolding drawn sketch
same_moment cat s same = ap (λ (x : Sketch). x.moment) same

pub stands_around : (store : Held) (commits : List Commit) (h : List Event) (s : State) → StoreStands store commits h s → around_held store ≡ around s
stands_around store commits h s stands =
    let moment = same_moment store.catalog (ended s) stands.by.agrees.same in
    λ i. record {
      channels = map (λ (c : Channel). c.name) (stands.flow i).channels;
      tasks = map (λ (t : Task). t.name) (stands.flow i).tasks;
      has_writer = λ c. is_some (channel_in (stands.flow i) c).writer;
      is_in_flight = λ t. slot_taken store.flight s.tasks t stands.flights i;
      moment = moment i;
    }
