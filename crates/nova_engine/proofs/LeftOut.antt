-- What follows of a call from what it tells.
use Rattle.std.proofs.Common.{◌≡◌, ◌≢◌, ◌⊎◌, inl, inr, ℕ, List, [], ◌∷◌, ◌++◌, length, refl, sym, ap, ◌∙◌, subst, arith, length-append}
use Rattle.std.proofs.lemmas.List.{append-nil}
use Rattle.nova_outside.specs.Disk.{Files}
use Rattle.nova_outside.specs.History.{current, replies}
use Rattle.nova_commit.specs.declared.commit.Commit.{Commit}
use Rattle.nova_meta.specs.Catalog.{Entered}
use Rattle.nova_machine.specs.State.{State, ended}
use Rattle.nova_machine.specs.Steps.{Step, after, after_all}
use Rattle.nova_machine.specs.Reachable.{AllMade, IsMade, IsReachable}
use Rattle.nova_machine.specs.Workflow.{Workflow}
use Rattle.nova_building.proofs.Making.{commands_make_steps}
use Rattle.nova_machine.proofs.Ended.{ended_reachable}
use Rattle.nova_machine.proofs.Reached.{reachable_more}
use Rattle.nova_machine.proofs.Turns.{flow_stays}
use Rattle.nova_machine.specs.Replies.{text}
use Rattle.nova_runner.specs.Acts.{IsStepDamage}
use Rattle.nova_runner.specs.Stands.{FilesStand, StandsBy}
use Rattle.nova_runner.proofs.Newest.{no_step_damage}
use Rattle.nova_runner.proofs.Stored.{no_loss_is_kept}
use Rattle.nova_engine.specs.declared.status.Status.{Status}
use Rattle.nova_engine.specs.declared.status.Status.TheVariants as exit
use Rattle.nova_engine.specs.Laws.{Completeness, HasRoom, NoDamageWhereFilesStand}
use Rattle.nova_engine.specs.Seen.{Seen}
use Rattle.nova_engine.specs.Sessions.{IsKeptBehind, SessionTold, session_steps}
use Rattle.nova_engine.specs.Told.{EndedEarly, StoreTold, opened_from}
use Rattle.nova_engine.specs.Turns.{catalog_after, own_commits}

-- ---- steps in two turns

made_front : (s : State) (xs ys : List Step) → AllMade s (xs ++ ys) → AllMade s xs
made_front s [] ys made = tt
made_front s (x ∷ xs) ys made = (made.0, made_front (after s x) xs ys made.1)

made_rest : (s : State) (xs ys : List Step) → AllMade s (xs ++ ys) → AllMade (after_all s xs) ys
made_rest s [] ys made = made
made_rest s (x ∷ xs) ys made = made_rest (after s x) xs ys made.1

reachable_all : (s : State) (xs : List Step) → IsReachable s → AllMade s xs → IsReachable (after_all s xs)
reachable_all s [] at made = at
reachable_all s (x ∷ xs) at made = reachable_all (after s x) xs (reachable_more s x at made.0) made.1

-- a session makes no step but those that can be made
steps_made : (s : State) (input : List ℕ) → AllMade s (session_steps s input)
steps_made s input = commands_make_steps s input

-- ---- from files that stood

files_stand : (x : ℕ) (commits : List Commit) (cat : Entered) (files : Files) (s : State) → StandsBy x commits cat files (ended s) → FilesStand files s
unfolding FilesStand
files_stand x commits cat files s by = (x, commits, cat, by)

module _ (x : ℕ) (commits : List Commit) (cat : Entered) (opened : State) (input : List ℕ) (a b : Seen) (reached : IsReachable opened) (stood : StandsBy x commits cat (current a.history) (ended opened)) where
  -- the files stand for the state behind these steps
  stands_behind : (done later : List Step) → IsKeptBehind x commits cat (ended opened) done later done (current a.history) (current b.history)
      → StandsBy x (commits ++ own_commits cat (ended opened) done) (catalog_after cat (ended opened) done) (current b.history) (ended (after_all (ended opened) done))
  stands_behind done later kept =
      no_loss_is_kept x x commits (commits ++ own_commits cat (ended opened) done) cat (catalog_after cat (ended opened) done) (current a.history) (current b.history) opened (after_all (ended opened) done)
      reached (flow_stays (ended opened) done) stood kept.stands kept.no_loss

  behind_reached : (done later : List Step) → session_steps (ended opened) input ≡ done ++ later → IsReachable (after_all (ended opened) done)
  behind_reached done later parts =
      reachable_all (ended opened) done (ended_reachable opened reached) (made_front (ended opened) done later (subst (AllMade (ended opened)) parts (steps_made (ended opened) input)))

  next_made : (done later more : List Step) (step : Step) → session_steps (ended opened) input ≡ done ++ later → later ≡ step ∷ more → IsMade (after_all (ended opened) done) step
  next_made done later more step parts next =
      (subst (AllMade (after_all (ended opened) done)) next (made_rest (ended opened) done later (subst (AllMade (ended opened)) parts (steps_made (ended opened) input)))).0

  no_damage_line : (taken : List ℕ) (told : SessionTold exit.Damaged x commits cat (ended opened) input taken a b) → ⊥
  no_damage_line taken told =
      let line = told.gives in
      let damage = line.damaged in
      let by = by_kept told.kept in
      let here : IsStepDamage (after_all (ended opened) told.done).flow (catalog_after cat (ended opened) told.done) (current b.history) damage.step line.file line.at =
      subst (λ (f : Workflow). IsStepDamage f (catalog_after cat (ended opened) told.done) (current b.history) damage.step line.file line.at) (sym (flow_stays (ended opened) told.done)) damage.is in
      no_step_damage x (commits ++ own_commits cat (ended opened) told.done) (catalog_after cat (ended opened) told.done) (current b.history) (after_all (ended opened) told.done) damage.step line.file line.at
      (behind_reached told.done told.later told.parts) by (next_made told.done told.later damage.more damage.step told.parts damage.next) here
    where
      not_disk : exit.Damaged ≡ exit.DiskFault → ⊥
      not_disk e = cc

      by_kept : {More : Type 0} → IsKeptBehind x commits cat (ended opened) told.done told.later told.done (current a.history) (current b.history) ⊎ ((exit.Damaged ≡ exit.DiskFault) × More)
          → StandsBy x (commits ++ own_commits cat (ended opened) told.done) (catalog_after cat (ended opened) told.done) (current b.history) (ended (after_all (ended opened) told.done))
      by_kept (inl kept) = stands_behind told.done told.later kept
      by_kept (inr disk) = absurd (not_disk disk.0)

  -- all steps were done
  all_told : (taken : List ℕ) → SessionTold exit.Done x commits cat (ended opened) input taken a b
      → (replies b.history ≡ replies a.history ++ text (ended opened) (session_steps (ended opened) input)) × FilesStand (current b.history) (after_all (ended opened) (session_steps (ended opened) input))
  all_told taken told =
      let none : told.later ≡ [] = told.whole refl in
      let all : told.done ≡ session_steps (ended opened) input = sym (append-nil told.done) ∙ ap (λ l. told.done ++ l) (sym none) ∙ sym told.parts in (
        told.replied ∙ ap (λ t. replies a.history ++ t) (told.gives ∙ ap (text (ended opened)) all),
        subst (λ xs. FilesStand (current b.history) (after_all (ended opened) xs)) all (files_stand x (commits ++ own_commits cat (ended opened) told.done) (catalog_after cat (ended opened) told.done) (current b.history) (after_all (ended opened) told.done) (by_kept told.kept)),
      )
    where
      not_disk : exit.Done ≡ exit.DiskFault → ⊥
      not_disk e = cc

      by_kept : {More : Type 0} → IsKeptBehind x commits cat (ended opened) told.done told.later told.done (current a.history) (current b.history) ⊎ ((exit.Done ≡ exit.DiskFault) × More)
          → StandsBy x (commits ++ own_commits cat (ended opened) told.done) (catalog_after cat (ended opened) told.done) (current b.history) (ended (after_all (ended opened) told.done))
      by_kept (inl kept) = stands_behind told.done told.later kept
      by_kept (inr disk) = absurd (not_disk disk.0)

pub no_damage_where_files_stand : NoDamageWhereFilesStand
no_damage_where_files_stand status x commits cat opened input taken a b reached stood told e =
    no_damage_line x commits cat opened input a b reached stood taken (subst (λ s. SessionTold s x commits cat (ended opened) input taken a b) e told)

-- by the status of a session
abbrev Complete : Status → State → List ℕ → Seen → Seen → Type 0
Complete status opened input a b =
    (status ≡ exit.NoMemory)
    ⊎ ((status ≡ exit.Done) × (replies b.history ≡ replies a.history ++ text (ended opened) (session_steps (ended opened) input))
    × FilesStand (current b.history) (after_all (ended opened) (session_steps (ended opened) input)))

by_status : (status : Status) (x : ℕ) (commits : List Commit) (cat : Entered) (opened : State) (input taken : List ℕ) (a b : Seen) → IsReachable opened → StandsBy x commits cat (current a.history) (ended opened)
    → StoreTold status x commits cat (ended opened) input taken a b → status ≢ exit.ReadFault → status ≢ exit.DiskFault → status ≢ exit.ReplyFault → status ≢ exit.InputTooLong
    → HasRoom x commits cat (ended opened) (session_steps (ended opened) input) → Complete status opened input a b
by_status exit.Done x commits cat opened input taken a b reached stood told read disk reply long room =
    let all = all_told x commits cat opened input (opened_from x a) b reached stood taken told.session in
    inr (refl, all.0, all.1)
by_status exit.NoMemory x commits cat opened input taken a b reached stood told read disk reply long room = inl refl
by_status exit.ReadFault x commits cat opened input taken a b reached stood told read disk reply long room = absurd (read refl)
by_status exit.DiskFault x commits cat opened input taken a b reached stood told read disk reply long room = absurd (disk refl)
by_status exit.ReplyFault x commits cat opened input taken a b reached stood told read disk reply long room = absurd (reply refl)
by_status exit.InputTooLong x commits cat opened input taken a b reached stood told read disk reply long room = absurd (long refl)
by_status exit.Damaged x commits cat opened input taken a b reached stood told read disk reply long room = absurd (no_damage_line x commits cat opened input (opened_from x a) b reached stood taken told.session)
by_status exit.Full x commits cat opened input taken a b reached stood told read disk reply long room = absurd (room told.session.done told.session.later (current b.history) told.session.parts (told.session.full refl))
by_status exit.Usage x commits cat opened input taken a b reached stood told read disk reply long room = absurd told.ends
by_status exit.NoStore x commits cat opened input taken a b reached stood told read disk reply long room = absurd told.ends
by_status exit.StoreThere x commits cat opened input taken a b reached stood told read disk reply long room = absurd told.ends
by_status exit.FlowRefused x commits cat opened input taken a b reached stood told read disk reply long room = absurd told.ends

by_early : (status : Status) (opened : State) (input taken : List ℕ) (a b : Seen) → EndedEarly status taken a b → status ≢ exit.DiskFault → Complete status opened input a b
by_early exit.NoMemory opened input taken a b early disk = inl refl
by_early exit.DiskFault opened input taken a b early disk = absurd (disk refl)
by_early _ opened input taken a b early disk = absurd early.early

pub complete : Completeness
complete status x commits cat opened input left a b told reached stood read disk reply short room =
    let long : status ≢ exit.InputTooLong = λ e. let above = told.took.long e in let all = ap length told.took.input_is in omega (arith, above, all, short, length-append told.taken told.took.rest) in
    elim (told.session x commits cat opened reached stood.but) [
      | inl session ↦ by_status status x commits cat opened input told.taken a b reached stood session read disk reply long room
      | inr early ↦ by_early status opened input told.taken a b early disk
    ]
