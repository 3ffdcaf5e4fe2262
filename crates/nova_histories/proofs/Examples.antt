-- The worked workflow, by the definitions alone.
use Rattle.std.proofs.Common.{◌≡◌, ℕ, zero, suc, ◌<◌, List, [], ◌∷◌, length, Some, refl, subst, arith}
use Rattle.std.specs.Prelude.{IfSome, nat_eq, position}
use Rattle.nova_value.specs.declared.value.Kind.TheVariants as kind
use Rattle.nova_value.specs.declared.schema.Column.{Column}
use Rattle.nova_value.proofs.Shapes.{shape_from_test}
use Rattle.nova_name.specs.Keywords.{same_in_any_case, same_text}
use Rattle.nova_workflow.specs.declared.flow.Channel.{Channel}
use Rattle.nova_workflow.specs.declared.flow.Input.{Input}
use Rattle.nova_workflow.specs.declared.flow.Task.{Task}
use Rattle.nova_workflow.specs.Whole.{Each, EachOnce, IsChannel, IsColumn, IsFlow, IsTask}
use Rattle.nova_workflow.specs.Writers.{writer_of}
use Rattle.nova_machine.specs.FlowA as flow_a
use Rattle.nova_pig_algebra.specs.Plan.{IsPlan}
use Rattle.nova_pig_algebra.specs.Sorts.{Row}
use Rattle.nova_pig_algebra.specs.Tree.{trees_after}
use Rattle.nova_machine.specs.Workflow.{channel_in, task_in}
use Rattle.nova_histories.specs.Planned.{IsPlannedTask, flow_in}
use Rattle.nova_histories.specs.Worked.{WorkedIsPlanned, copy, join, joined, pages, requests, worked}

-- each with its place, one after the other
abbrev AllAt : {A : Type 0} → (ℕ → A → Type 0) → List A → Type 0
AllAt P [] = Unit {0}
AllAt P (x ∷ xs) = P 0 x × AllAt (λ k. P (suc k)) xs

each : {A : Type 0} (P : ℕ → A → Type 0) (xs : List A) → AllAt P xs → Each P xs
each P [] all k x e = absurd cc
each P (y ∷ xs) all zero x e = let same : y ≡ x = cc in subst (P 0) same all.0
each P (y ∷ xs) all (suc k) x e = each (λ n. P (suc n)) xs all.1 k x e

copy_plan : IsPlan copy
copy_plan = record { kinded = record { all = Row (kind.Long ∷ kind.Text ∷ kind.Long ∷ []) ∷ []; nodes = refl; stored = refl }; literals = refl }

join_plan : IsPlan join
join_plan = record {
  kinded = record {
    all = Row (kind.Long ∷ kind.Text ∷ kind.Long ∷ []) ∷ Row (kind.Text ∷ kind.Text ∷ []) ∷ Row (kind.Long ∷ kind.Text ∷ kind.Long ∷ kind.Text ∷ kind.Text ∷ []) ∷ [];
    nodes = refl;
    stored = refl;
  };
  literals = refl;
}

names_once : (cs : List Column) → AllAt (λ k (c : Column). position (λ (d : Column). same_text d.name c.name) cs ≡ Some k) cs → EachOnce (λ (a b : Column). same_text a.name b.name) cs
names_once cs all = each (λ k (c : Column). position (λ (d : Column). same_text d.name c.name) cs ≡ Some k) cs all

channels_once : (cs : List Channel) → AllAt (λ k (c : Channel). position (λ (d : Channel). same_text d.name c.name) cs ≡ Some k) cs → EachOnce (λ (a b : Channel). same_text a.name b.name) cs
channels_once cs all = each (λ k (c : Channel). position (λ (d : Channel). same_text d.name c.name) cs ≡ Some k) cs all

tasks_once : (ts : List Task) → AllAt (λ k (t : Task). position (λ (u : Task). same_text u.name t.name) ts ≡ Some k) ts → EachOnce (λ (a b : Task). same_text a.name b.name) ts
tasks_once ts all = each (λ k (t : Task). position (λ (u : Task). same_text u.name t.name) ts ≡ Some k) ts all

inputs_once : (is : List Input) → AllAt (λ k (i : Input). position (λ (j : Input). nat_eq j.channel i.channel) is ≡ Some k) is → EachOnce (λ (a b : Input). nat_eq a.channel b.channel) is
inputs_once is all = each (λ k (i : Input). position (λ (j : Input). nat_eq j.channel i.channel) is ≡ Some k) is all

within : (is : List Input) → AllAt (λ k (i : Input). i.channel < 4) is → Each (λ k (i : Input). i.channel < 4) is
within is all = each (λ k (i : Input). i.channel < 4) is all

earlier : (n : ℕ) (is : List Input) → AllAt (λ k (i : Input). IfSome (writer_of worked.tasks i.channel) (λ writer. writer < n)) is → Each (λ k (i : Input). IfSome (writer_of worked.tasks i.channel) (λ writer. writer < n)) is
earlier n is all = each (λ k (i : Input). IfSome (writer_of worked.tasks i.channel) (λ writer. writer < n)) is all

requests_channel : IsChannel (flow_in worked) 0 (channel_in worked 0)
unfolding same_in_any_case
requests_channel = record { name = refl; shape = shape_from_test _ refl; columns = each IsColumn requests.columns ((refl, refl), ((refl, refl), ((refl, refl), tt))); once = names_once requests.columns (refl, (refl, (refl, tt))); writer = refl; based = refl }

pages_channel : IsChannel (flow_in worked) 1 (channel_in worked 1)
unfolding same_in_any_case
pages_channel = record { name = refl; shape = shape_from_test _ refl; columns = each IsColumn pages.columns ((refl, refl), ((refl, refl), tt)); once = names_once pages.columns (refl, (refl, tt)); writer = refl; based = refl }

copied_channel : IsChannel (flow_in worked) 2 (channel_in worked 2)
unfolding same_in_any_case
copied_channel = record { name = refl; shape = shape_from_test _ refl; columns = each IsColumn requests.columns ((refl, refl), ((refl, refl), ((refl, refl), tt))); once = names_once requests.columns (refl, (refl, (refl, tt))); writer = refl; based = refl }

joined_channel : IsChannel (flow_in worked) 3 (channel_in worked 3)
unfolding same_in_any_case
joined_channel = record { name = refl; shape = shape_from_test _ refl; columns = each IsColumn joined.columns ((refl, refl), ((refl, refl), ((refl, refl), ((refl, refl), ((refl, refl), tt))))); once = names_once joined.columns (refl, (refl, (refl, (refl, (refl, tt))))); writer = refl; based = refl }

copy_task : IsTask (flow_in worked) 0 (task_in worked 0)
copy_task = record { name = refl; some_input = omega arith; few_inputs = omega arith; inputs = within (flow_a.new 0 ∷ []) (omega arith, tt); once = inputs_once (flow_a.new 0 ∷ []) (refl, tt); earlier = earlier 0 (flow_a.new 0 ∷ []) (tt, tt); output = omega arith; writes = refl; trigger = tt }

join_task : IsTask (flow_in worked) 1 (task_in worked 1)
join_task = record { name = refl; some_input = omega arith; few_inputs = omega arith; inputs = within (flow_a.new 2 ∷ flow_a.all 1 ∷ []) (omega arith, (omega arith, tt)); once = inputs_once (flow_a.new 2 ∷ flow_a.all 1 ∷ []) (refl, (refl, tt)); earlier = earlier 1 (flow_a.new 2 ∷ flow_a.all 1 ∷ []) (omega arith, (tt, tt)); output = omega arith; writes = refl; trigger = tt }

flow : IsFlow (flow_in worked)
flow = record {
  some_channel = omega arith;
  few_channels = omega arith;
  few_tasks = omega arith;
  channels = each (IsChannel (flow_in worked)) worked.channels (requests_channel, (pages_channel, (copied_channel, (joined_channel, tt))));
  channels_once = channels_once worked.channels (refl, (refl, (refl, (refl, tt))));
  tasks = each (IsTask (flow_in worked)) worked.tasks (copy_task, (join_task, tt));
  tasks_once = tasks_once worked.tasks (refl, (refl, tt));
}

planned : (t : ℕ) → t < length worked.tasks → IsPlannedTask worked t
unfolding trees_after
planned zero lt = record { plan = copy_plan; schemas = record { inputs = refl; output = refl }; key = refl; pattern = refl }
planned (suc zero) lt = record { plan = join_plan; schemas = record { inputs = refl; output = refl }; key = refl; pattern = refl }
planned (suc (suc t)) lt = absurd (omega (arith, lt))

pub worked_is_planned : WorkedIsPlanned
worked_is_planned = record { flow = flow; tasks = planned }
