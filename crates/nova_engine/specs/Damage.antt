-- What damage is told of, whatever the files stand for.
use Rattle.std.specs.Prelude.{◌≡◌, ◌⊎◌, ℕ, ◌<◌, Bool, true, List, ◌++◌, length, map, Some, IsTrue}
use Rattle.nova_outside.specs.Disk.{Files}
use Rattle.nova_outside.specs.History.{Event, current, replies}
use Rattle.nova_journal.specs.Log.{IsLog}
use Rattle.nova_journal.specs.Marks.{IsMark}
use Rattle.nova_channel.specs.Reading.{IsDamage}
use Rattle.nova_commit.specs.Commits.{commit_bytes}
use Rattle.nova_commit.specs.declared.commit.Commit.{Commit}
use Rattle.nova_meta.specs.Catalog.{Entered, shelf_at}
use Rattle.nova_state.specs.Sorts.{plan_sorts}
use Rattle.nova_execution.specs.Groups.{IsStateDamage, part_file}
use Rattle.nova_machine.specs.Workflow.{Workflow, plan_in, schema_in}
use Rattle.nova_runner.specs.Acts.{IsHop, keeps_in}
use Rattle.nova_runner.specs.Files.{journal_file}
use Rattle.nova_runner.specs.Held.{Held}
use Rattle.nova_runner.specs.Opening.{AreInOrder, IsRead}
use Rattle.nova_script.specs.Replies as line

-- The journal of the greatest mark has these commits, and they are in order: a workflow's, and what its catalog allows.
pub record IsJournalOf (files : Files) (commits : List Commit) (flow : Workflow) (cat : Entered) : Type 0 where
  pub generation : ℕ
  pub marked : IsMark files (Some generation)
  pub log : IsLog (map commit_bytes commits) (files (journal_file generation))
  pub in_order : AreInOrder commits flow cat

-- By the catalog of their journal, the first block that is none on a path to a channel's newest version, from 0 or from where a task stands that reads what is new of it, is in this file, and none at this place.
pub record IsBadBlock (files : Files) (file at : ℕ) : Type 0 where
  pub commits : List Commit
  pub flow : Workflow
  pub catalog : Entered
  pub journal : IsJournalOf files commits flow catalog
  pub channel : ℕ
  pub in_range : channel < length flow.channels
  pub from : ℕ
  pub hop : IsHop catalog channel from
  pub damage : IsDamage (schema_in flow channel) files (shelf_at catalog channel).intervals from (shelf_at catalog channel).version file at

-- By the catalog of their journal, the state of a grouping task is in this file, and from this place on the file spells none.
pub record IsBadState (files : Files) (file at : ℕ) : Type 0 where
  pub commits : List Commit
  pub flow : Workflow
  pub catalog : Entered
  pub journal : IsJournalOf files commits flow catalog
  pub task : ℕ
  pub in_range : task < length flow.tasks
  pub keeps : keeps_in flow task ≡ true
  pub damage : IsStateDamage (plan_sorts (plan_in flow task).plan) (part_file catalog task) files file at

-- what a step reads is bad
abbrev pub IsBadRead : Files → ℕ → ℕ → Type 0
IsBadRead files file at = IsBadBlock files file at ⊎ IsBadState files file at

-- Replies were given from then on, the last of them the line that tells a file and a place, and these have this cause.
pub record TellsDamage (Cause : ℕ → ℕ → Type 0) (a b : List Event) : Type 0 where
  pub file : ℕ
  pub at : ℕ
  pub cause : Cause file at
  pub given : List ℕ
  pub told : replies b ≡ replies a ++ (given ++ line.damaged file at)

-- a store in memory is what the journal in its host says, where that is honest
abbrev pub IsReadIn : Bool → Held → List Event → Type 0
IsReadIn is_honest store h = IsTrue is_honest → (commits : List Commit) × IsRead store commits (current h)
