-- What a store reads of a channel is the state's.
use Rattle.std.proofs.Common.{◌≡◌, inl, inr, ℕ, Bool, true, false, List, [], ◌∷◌, length, None, Result, Ok, Err, refl, ap, sym, ◌∙◌, subst, arith, if◌then◌else◌}
use Rattle.nova_value.specs.Rows.{Shape}
use Rattle.nova_outside.specs.History.{Event, current}
use Rattle.nova_delta.specs.Merge.{TableValue}
use Rattle.nova_path.specs.declared.interval.Interval.{Interval}
use Rattle.nova_channel.specs.Reading.{HasReadTable, ReadTold}
use Rattle.nova_channel.proofs.Routes.{blocks_are_not_bad, tables_are_versions}
use Rattle.nova_block.specs.declared.fault.BlockFault.{BlockFault}
use Rattle.nova_block.specs.declared.fault.BlockFault.TheVariants as block
use Rattle.nova_outside.specs.Disk.{Files}
use Rattle.nova_workflow.specs.declared.flow.Channel.{Channel}
use Rattle.nova_execution.specs.Reads.{IsDamaged, IsReadDamage, Read}
use Rattle.nova_meta.specs.Catalog.{Entered, shelf_at}
use Rattle.nova_commit.specs.declared.commit.Commit.{Commit}
use Rattle.nova_machine.specs.Workflow.{Workflow, plan_in, schema_in}
use Rattle.nova_machine.specs.Versions.{rows_in}
use Rattle.nova_machine.specs.State.{State, ended, kept_at, newest, newest_table}
use Rattle.nova_machine.specs.Steps.{Step, Load, Tick, Run, Begin, Finish, Drop, Worked, Compact, Chain, Collect, Show, Blocks, Refused}
use Rattle.nova_runner.proofs.Stored.{drawing, gives, holds, state_holds}
use Rattle.nova_machine.specs.Reachable.{IsReachable}
use Rattle.nova_state.specs.Sorts.{plan_sorts}
use Rattle.nova_execution.specs.Groups.{IsStateDamage, keeps_state, part_file}
use Rattle.nova_runner.specs.Stands.{StandsBy}
use Rattle.nova_runner.specs.Held.{Held}
use Rattle.std.specs.Bool.{IsTrue}
use Rattle.std.specs.Result.{IfOk, IfErr, IsErr}
use Rattle.nova_runner.specs.Reading.{GivesNewest, IsNewestDamage, IsNewestRead, ReadStops, why_unread}
use Rattle.nova_path.specs.Intervals.{AreApart}
use Rattle.nova_channel.proofs.Whole.{tables_are_whole}
use Rattle.nova_runner.specs.Acts.{newest_reads}
use Rattle.nova_runner.specs.Laws.{NoStepDamage}
use Rattle.nova_runner.specs.Steps.{AsksShow, BrokeOff, Stopped, StoreStands}

-- several reads have no damage where each has none
none_bad : (channels : List Channel) (cat : Entered) (files : Files) → ((r : Read) (file at : ℕ) → IsDamaged channels cat files r file at → ⊥) → (rs : List Read) (file at : ℕ) → IsReadDamage channels cat files rs file at → ⊥
none_bad channels cat files each [] file at bad = bad
none_bad channels cat files each (r ∷ rs) file at (inl bad) = each r file at bad
none_bad channels cat files each (r ∷ rs) file at (inr more) = none_bad channels cat files each rs file at more.1

no_state_damage : (x : ℕ) (commits : List Commit) (cat : Entered) (files : Files) (s : State) (t : ℕ) → IsReachable s → StandsBy x commits cat files (ended s) → (b : Bool) (file at : ℕ)
    → IsStateDamage (plan_sorts (plan_in s.flow t).plan) (if b then part_file cat t else None) files file at → ⊥
no_state_damage x commits cat files s t reached by true file at bad = state_holds x commits cat files s reached by t (part_file cat t) refl file at bad
no_state_damage x commits cat files s t reached by false file at bad = bad

-- no step tells damage where files stand for a state
pub no_step_damage : NoStepDamage
no_step_damage x commits cat files s (Show c) file at reached by made bad =
    blocks_are_not_bad (schema_in s.flow c) files (kept_at s c).versions (shelf_at cat c).intervals 0 (shelf_at cat c).version file at (holds x commits cat files s reached by c) bad
no_step_damage x commits cat files s (Run t) file at reached by made (inl bad) =
    none_bad s.flow.channels cat files (λ r f a. blocks_are_not_bad (schema_in s.flow r.channel) files (kept_at s r.channel).versions (shelf_at cat r.channel).intervals r.from r.to f a (holds x commits cat files s reached by r.channel))
    (newest_reads cat t) file at bad
no_step_damage x commits cat files s (Run t) file at reached by made (inr bad) = no_state_damage x commits cat files s t reached by (keeps_state (plan_in s.flow t).pattern) file at bad.1
no_step_damage x commits cat files s (Load c entries) file at reached by made bad = bad
no_step_damage x commits cat files s (Tick m) file at reached by made bad = bad
no_step_damage x commits cat files s (Begin t) file at reached by made bad = bad
no_step_damage x commits cat files s (Finish t) file at reached by made bad = bad
no_step_damage x commits cat files s (Drop t) file at reached by made bad = bad
no_step_damage x commits cat files s (Worked k) file at reached by made bad = bad
no_step_damage x commits cat files s (Compact c) file at reached by made bad = bad
no_step_damage x commits cat files s (Chain c i j) file at reached by made bad = bad
no_step_damage x commits cat files s Collect file at reached by made bad = bad
no_step_damage x commits cat files s (Blocks c) file at reached by made bad = bad
no_step_damage x commits cat files s (Refused refusal) file at reached by made bad = bad

module _ (store : Held) (commits : List Commit) (s : State) (a : List Event) (stands : StoreStands store commits a s) (c : ℕ) where
  abbrev pub intervals : List Interval
  intervals = (shelf_at store.catalog c).intervals

  pub newest_is : (t : TableValue) (to : ℕ) → to ≡ (shelf_at store.catalog c).version → t.schema ≡ schema_in store.flow c → HasReadTable (schema_in store.flow c) (current a) intervals to t.rows → t ≡ newest_table s c
  newest_is t to number schema reads =
      let here = subst (λ (f : Workflow). HasReadTable (schema_in f c) (current a) intervals to t.rows) stands.flow reads in
      let end : to ≡ length (kept_at s c).versions = number ∙ sym (drawing store.journal.generation commits store.catalog (current a) s stands.reached stands.by c).0 in
      let rows : t.rows ≡ rows_in (kept_at s c).versions to = tables_are_versions (schema_in s.flow c) (current a) (kept_at s c).versions intervals to t.rows (gives store.journal.generation commits store.catalog (current a) s stands.reached stands.by c) (omega (arith, end)) here in
      let shape : t.schema ≡ schema_in s.flow c = schema ∙ ap (λ (f : Workflow). schema_in f c) stands.flow in
      let last : t.rows ≡ rows_in (kept_at s c).versions (newest s c) = rows ∙ ap (rows_in (kept_at s c).versions) end in
      λ i. record { schema = shape i; rows = last i }

  -- a table that wasn't read
  pub stops_is : (b : List Event) (x : Step) (fault : BlockFault) (to : ℕ) → AsksShow c s x → b ≡ a → to ≡ (shelf_at store.catalog c).version → ReadTold (schema_in store.flow c) (current a) intervals 0 to fault → Stopped (why_unread fault) store commits s x a b
  stops_is b x block.Disk to asks same number told = subst (λ (y : Step). BrokeOff store commits s y a b) (sym asks.0) (subst (λ (h : List Event). BrokeOff store commits s (Show c) a h) (sym same) (record { left = inl (record { stands = stands.by; no_loss = λ p named lost. (named, lost) }); others = λ n free. refl; silent = refl; room = λ d is. cc }))
  stops_is b x (block.Damaged file at) to asks same number told = subst (λ (y : Step). Stopped (why_unread (block.Damaged file at)) store commits s y a b) (sym asks.0)
      (same, subst (λ n. ReadTold (schema_in s.flow c) (current a) intervals 0 n (block.Damaged file at)) number (subst (λ (f : Workflow). ReadTold (schema_in f c) (current a) intervals 0 to (block.Damaged file at)) stands.flow told))
  stops_is b x block.NoMemory to asks same number told = same

-- the same of what a read answers
module _ (h : Bool) (store : Held) (c : ℕ) (a : List Event) (schema : Shape) (to : ℕ) (shape : schema ≡ schema_in store.flow c) (number : to ≡ (shelf_at store.catalog c).version) where
  pub gives_newest : (r : Result TableValue BlockFault) → IfOk r (λ t. t.schema ≡ schema) → (IsTrue h → IfOk r (λ t. HasReadTable schema (current a) (shelf_at store.catalog c).intervals to t.rows)) → IfOk r (λ t. GivesNewest h store c t a)
  gives_newest (Ok t) same reads = λ honest commits s stands. newest_is store commits s a stands c t to number (same ∙ shape) (subst (λ (x : Shape). HasReadTable x (current a) (shelf_at store.catalog c).intervals to t.rows) shape (reads honest))
  gives_newest (Err e) same reads = tt

  pub newest_read : (r : Result TableValue BlockFault) → IfOk r (λ t. t.schema ≡ schema) → (IsTrue h → IfOk r (λ t. HasReadTable schema (current a) (shelf_at store.catalog c).intervals to t.rows)) → IsTrue h → IfOk r (IsNewestRead store c (current a))
  newest_read (Ok t) same reads honest =
      (same ∙ shape, subst (λ (x : Shape). HasReadTable x (current a) (shelf_at store.catalog c).intervals (shelf_at store.catalog c).version t.rows) shape (subst (λ n. HasReadTable schema (current a) (shelf_at store.catalog c).intervals n t.rows) number (reads honest)))
  newest_read (Err e) same reads honest = tt

  pub read_stops : (b : List Event) (r : Result TableValue BlockFault) → (IsTrue h → b ≡ a) → (IsTrue h → IfErr r (ReadTold schema (current a) (shelf_at store.catalog c).intervals 0 to)) → IfErr r (λ fault. ReadStops fault h (AsksShow c) store a b)
  read_stops b (Ok t) same told = tt
  read_stops b (Err fault) same told = λ honest commits s x stands asks. stops_is store commits s a stands c b x fault to asks (same honest) number (subst (λ (y : Shape). ReadTold y (current a) (shelf_at store.catalog c).intervals 0 to fault) shape (told honest))

  pub table_whole : (r : Result TableValue BlockFault) → AreApart (shelf_at store.catalog c).intervals → (IsTrue h → IfOk r (λ t. HasReadTable schema (current a) (shelf_at store.catalog c).intervals to t.rows)) → IsTrue h → (file at : ℕ) → IsNewestDamage store c (current a) file at → IsErr r
  table_whole (Ok t) apart reads honest file at damage =
      absurd (tables_are_whole (schema_in store.flow c) (current a) (shelf_at store.catalog c).intervals (shelf_at store.catalog c).version t.rows file at apart
      (subst (λ (x : Shape). HasReadTable x (current a) (shelf_at store.catalog c).intervals (shelf_at store.catalog c).version t.rows) shape (subst (λ n. HasReadTable schema (current a) (shelf_at store.catalog c).intervals n t.rows) number (reads honest))) damage)
  table_whole (Err e) apart reads honest file at damage = refl
