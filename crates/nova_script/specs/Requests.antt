-- What a command asks for, and why it is refused, by the names and the state that it meets: one case a rule.
use Rattle.std.specs.Prelude.{◌≡◌, ◌≢◌, ℕ, ◌<◌, ◌≤◌, true, false, List, [], length, slice_index_or}
use Rattle.nova_script.specs.Session.{Surroundings}
use Rattle.nova_script.specs.declared.command.Command.{Command}
use Rattle.nova_script.specs.declared.command.Command.TheVariants as c
use Rattle.nova_script.specs.declared.context.Request.{Request}
use Rattle.nova_script.specs.declared.context.Request.TheVariants as r
use Rattle.nova_script.specs.declared.refusal.Refusal.{Refusal}
use Rattle.nova_script.specs.declared.refusal.Refusal.TheVariants as why

-- the n-th of these names is this one, and none before it is
pub record IsNamed (names : List (List ℕ)) (name : List ℕ) (n : ℕ) : Type 0 where
  pub in_range : n < length names
  pub here : slice_index_or names n [] ≡ name
  pub first : (k : ℕ) → k < n → slice_index_or names k [] ≢ name

-- none of these names is this one
abbrev pub IsUnknown : List (List ℕ) → List ℕ → Type 0
IsUnknown names name = (k : ℕ) → k < length names → slice_index_or names k [] ≢ name

-- what it asks for: a load is of a channel that no task writes, a tick doesn't go back, a run or an execution begins where none is in flight, and ends where one is
pub data Asks (x : Surroundings) : Command → Request → Type 0 where
  load : {name : List ℕ} {n : ℕ} → IsNamed x.channels name n → x.has_writer n ≡ false → Asks x (c.Load name) (r.Load n)
  tick : {m : ℕ} → x.moment ≤ m → Asks x (c.Tick m) (r.Tick m)
  run : {name : List ℕ} {n : ℕ} → IsNamed x.tasks name n → x.is_in_flight n ≡ false → Asks x (c.Run name) (r.Run n)
  begin : {name : List ℕ} {n : ℕ} → IsNamed x.tasks name n → x.is_in_flight n ≡ false → Asks x (c.Begin name) (r.Begin n)
  finish : {name : List ℕ} {n : ℕ} → IsNamed x.tasks name n → x.is_in_flight n ≡ true → Asks x (c.Finish name) (r.Finish n)
  drop : {name : List ℕ} {n : ℕ} → IsNamed x.tasks name n → x.is_in_flight n ≡ true → Asks x (c.Drop name) (r.Drop n)
  work : Asks x c.Work r.Work
  compact : {name : List ℕ} {n : ℕ} → IsNamed x.channels name n → Asks x (c.Compact name) (r.Compact n)
  chain : {name : List ℕ} {n i j : ℕ} → IsNamed x.channels name n → Asks x (c.Chain name i j) (r.Chain n i j)
  collect : Asks x c.Collect r.Collect
  show : {name : List ℕ} {n : ℕ} → IsNamed x.channels name n → Asks x (c.Show name) (r.Show n)
  blocks : {name : List ℕ} {n : ℕ} → IsNamed x.channels name n → Asks x (c.Blocks name) (r.Blocks n)

-- the command is about the channel with this name, or about the task
pub data NamesChannel : Command → List ℕ → Type 0 where
  of_load : {name : List ℕ} → NamesChannel (c.Load name) name
  of_compact : {name : List ℕ} → NamesChannel (c.Compact name) name
  of_chain : {name : List ℕ} {i j : ℕ} → NamesChannel (c.Chain name i j) name
  of_show : {name : List ℕ} → NamesChannel (c.Show name) name
  of_blocks : {name : List ℕ} → NamesChannel (c.Blocks name) name

pub data NamesTask : Command → List ℕ → Type 0 where
  of_run : {name : List ℕ} → NamesTask (c.Run name) name
  of_begin : {name : List ℕ} → NamesTask (c.Begin name) name
  of_finish : {name : List ℕ} → NamesTask (c.Finish name) name
  of_drop : {name : List ℕ} → NamesTask (c.Drop name) name

-- it begins an execution, or ends one
pub data Begins : Command → List ℕ → Type 0 where
  by_run : {name : List ℕ} → Begins (c.Run name) name
  by_begin : {name : List ℕ} → Begins (c.Begin name) name

pub data Ends : Command → List ℕ → Type 0 where
  by_finish : {name : List ℕ} → Ends (c.Finish name) name
  by_drop : {name : List ℕ} → Ends (c.Drop name) name

-- why it is refused
pub data Meets (x : Surroundings) : Command → Refusal → Type 0 where
  no_channel : {command : Command} {name : List ℕ} → NamesChannel command name → IsUnknown x.channels name → Meets x command why.UnknownChannel
  no_task : {command : Command} {name : List ℕ} → NamesTask command name → IsUnknown x.tasks name → Meets x command why.UnknownTask
  written : {name : List ℕ} {n : ℕ} → IsNamed x.channels name n → x.has_writer n ≡ true → Meets x (c.Load name) why.NotAnInputChannel
  back : {m : ℕ} → m < x.moment → Meets x (c.Tick m) (why.ClockBack x.moment)
  in_flight : {command : Command} {name : List ℕ} {n : ℕ} → Begins command name → IsNamed x.tasks name n → x.is_in_flight n ≡ true → Meets x command why.InFlight
  not_in_flight : {command : Command} {name : List ℕ} {n : ℕ} → Ends command name → IsNamed x.tasks name n → x.is_in_flight n ≡ false → Meets x command why.NotInFlight
