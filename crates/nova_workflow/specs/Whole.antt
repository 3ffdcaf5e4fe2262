-- What a workflow keeps.
use Rattle.std.specs.Prelude.{◌≡◌, ℕ, ◌≤◌, ◌<◌, Bool, true, false, nat_eq, List, length, position, slice_get, Some, IfSome}
use Rattle.nova_value.specs.declared.schema.Column.{Column}
use Rattle.nova_value.specs.Rows.{IsShape}
use Rattle.nova_workflow.specs.declared.flow.Channel.{Channel}
use Rattle.nova_workflow.specs.declared.flow.Task.{Task}
use Rattle.nova_workflow.specs.declared.flow.Trigger.{Trigger}
use Rattle.nova_workflow.specs.declared.flow.Trigger.TheVariants.{OnData, Every, After}
use Rattle.nova_workflow.specs.declared.flow.Flow.{Flow}
use Rattle.nova_name.specs.Names.{is_name}
use Rattle.nova_name.specs.Keywords.{same_text, is_keyword}
use Rattle.nova_workflow.specs.Writers.{writer_of, is_based}

-- each element, with its place
abbrev pub Each : {A : Type 0} → (ℕ → A → Type 0) → List A → Type 0
Each {A} P xs = (k : ℕ) (x : A) → slice_get xs k ≡ Some x → P k x

-- no two are the same: each is the first that is the same as it
abbrev pub EachOnce : {A : Type 0} → (A → A → Bool) → List A → Type 0
EachOnce same xs = Each (λ k x. position (λ y. same y x) xs ≡ Some k) xs

-- a column's name is one, and no keyword
abbrev pub IsColumn : ℕ → Column → Type 0
IsColumn k c = (is_name c.name ≡ true) × (is_keyword c.name ≡ false)

-- a channel with its writer, which is the task with this output
pub record IsChannel (f : Flow) (n : ℕ) (c : Channel) : Type 0 where
  pub name : is_name c.name ≡ true
  pub shape : IsShape c.schema
  pub columns : Each IsColumn c.schema.columns
  pub once : EachOnce (λ a b. same_text a.name b.name) c.schema.columns
  pub writer : c.writer ≡ writer_of f.tasks n
  pub based : c.based ≡ is_based f.tasks n

-- a period is from 1 to 1,000,000,000, and a task that is named stands before
abbrev pub IsInTime : ℕ → Trigger → Type 0
IsInTime n OnData = Unit {0}
IsInTime n (Every period) = (1 ≤ period) × (period ≤ 1000000000)
IsInTime n (After task) = task < n

-- a task: its inputs are channels, each once, none written by it or by a later task; it alone
-- writes its output
pub record IsTask (f : Flow) (n : ℕ) (t : Task) : Type 0 where
  pub name : is_name t.name ≡ true
  pub some_input : 1 ≤ length t.inputs
  pub few_inputs : length t.inputs ≤ 16
  pub inputs : Each (λ k i. i.channel < length f.channels) t.inputs
  pub once : EachOnce (λ a b. nat_eq a.channel b.channel) t.inputs
  pub earlier : Each (λ k i. IfSome (writer_of f.tasks i.channel) (λ writer. writer < n)) t.inputs
  pub output : t.output < length f.channels
  pub writes : writer_of f.tasks t.output ≡ Some n
  pub trigger : IsInTime n t.trigger

pub record IsFlow (f : Flow) : Type 0 where
  pub some_channel : 1 ≤ length f.channels
  pub few_channels : length f.channels ≤ 256
  pub few_tasks : length f.tasks ≤ 256
  pub channels : Each (IsChannel f) f.channels
  pub channels_once : EachOnce (λ a b. same_text a.name b.name) f.channels
  pub tasks : Each (IsTask f) f.tasks
  pub tasks_once : EachOnce (λ a b. same_text a.name b.name) f.tasks
