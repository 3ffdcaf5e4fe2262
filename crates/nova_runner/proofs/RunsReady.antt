-- What is made ready of a run.
use Rattle.std.proofs.Common.{◌≡◌, inl, inr, ℕ, ◌+◌, ◌<◌, ◌≤◌, ◌^◌, Bool, false, List, [], ◌∷◌, length, Option, Some, None, Vec, refl, ap, sym, ◌∙◌, subst, arith}
use Rattle.std.specs.Prelude.{is_some, option_map}
use Rattle.std.specs.declared.alloc.Global.{Global}
use Rattle.nova_outside.specs.Disk.{Files}
use Rattle.nova_delta.specs.Merge.{DeltaValue}
use Rattle.nova_path.specs.Lists.{IsOneOf}
use Rattle.nova_channel.specs.Reading.{block_file}
use Rattle.nova_row_codec.specs.Spelling.{spelling_of}
use Rattle.nova_groups.specs.State.{StateValue}
use Rattle.nova_group_codec.specs.Spelling.{state_bytes}
use Rattle.nova_runner.specs.Committing.{HaveBytes}
use Rattle.nova_meta.specs.Catalog.{allows}
use Rattle.nova_machine.specs.Workflow.{task_in}
use Rattle.nova_machine.specs.State.{Capture}
use Rattle.nova_trigger.specs.Due.{capture_in}
use Rattle.nova_execution.specs.declared.made.Made.{Made}
use Rattle.nova_runner.specs.Acts.{IsFull, keeps_in, kept_spelling}
use Rattle.nova_runner.specs.Beginning.{captured_in}
use Rattle.nova_runner.specs.Held.{Held}
use Rattle.nova_runner.specs.Readable.{IsKept}
use Rattle.nova_runner.specs.RunFiles.{AreRunFiles, HasRunFiles, IsFile}
use Rattle.nova_runner.specs.Runs.{IsPreparedFor, IsRunReady, RunReady, made_commit, run_commit}
use Rattle.nova_runner.specs.declared.ready.Fresh.{Fresh}
use Rattle.nova_runner.specs.declared.ready.Ready.{Ready}
use Rattle.nova_runner.proofs.RunRooms.{frame_room}
use Rattle.nova_runner.proofs.RunRules.{run_readable, run_rules, run_spare}
use Rattle.nova_runner.proofs.Tasks.{run_fits, run_task}

one_there : (number : ℕ) (bytes : List ℕ) (f : Fresh) (files : Files) → IsFile number bytes f → files (block_file f.block) ≡ Some f.bytes.items → files (block_file number) ≡ Some bytes
one_there number bytes f files is have = ap (λ n. files (block_file n)) (sym is.0) ∙ have ∙ ap (λ (b : List ℕ). Some b) is.1

-- the files of what leaves no state, and of what leaves one
pub one_file : (next : ℕ) (d : DeltaValue) (o : Option StateValue) (fresh : List Fresh) (f : Fresh) → o ≡ None → fresh ≡ f ∷ [] → IsFile next (spelling_of d) f → AreRunFiles next d o fresh
one_file next d o fresh f none are file = subst (λ (x : Option StateValue). AreRunFiles next d x fresh) (sym none) (f, are, file)

pub two_files : (next : ℕ) (d : DeltaValue) (o : Option StateValue) (st : StateValue) (fresh : List Fresh) (f g : Fresh) → o ≡ Some st → fresh ≡ f ∷ g ∷ [] → IsFile next (spelling_of d) f → IsFile (next + 1) (state_bytes st) g → AreRunFiles next d o fresh
two_files next d o st fresh f g some are file other = subst (λ (x : Option StateValue). AreRunFiles next d x fresh) (sym some) (f, g, are, file, other)

-- the files of a run have its block and its state
pub files_there : (next : ℕ) (d : DeltaValue) (o : Option StateValue) (fresh : List Fresh) (files : Files) → AreRunFiles next d o fresh → HaveBytes fresh files → HasRunFiles next d o files
files_there next d None fresh files (f, are, file) have = one_there next (spelling_of d) f files file (have f (subst (λ (fs : List Fresh). IsOneOf fs f) (sym are) (inl refl)))
files_there next d (Some st) fresh files (f, g, are, file, other) have = (
  one_there next (spelling_of d) f files file (have f (subst (λ (fs : List Fresh). IsOneOf fs f) (sym are) (inl refl))),
  one_there (next + 1) (state_bytes st) g files other (have g (subst (λ (fs : List Fresh). IsOneOf fs g) (sym are) (inr (inl refl)))),
)

-- what was made ready, as the call hands it on
abbrev pub IsReadyOf : Held → ℕ → Made → Option (Vec Fresh Global × Ready) → Type 0
IsReadyOf store t x o = RunReady store t x (option_map {U = List Fresh × Ready} (λ (m : Vec Fresh Global × Ready). (m.0.items, m.1)) o)

pub ready_at : (store : Held) (t : ℕ) (x : Made) (o : Option (Vec Fresh Global × Ready)) (all : Vec Fresh Global × Ready) (fresh : List Fresh) → o ≡ Some all → IsReadyOf store t x o → fresh ≡ all.0.items → IsRunReady store t x fresh all.1
ready_at store t x o all fresh is made same = subst (λ (fs : List Fresh). IsRunReady store t x fs all.1) (sym same) (subst (IsReadyOf store t x) is made)

module _ (store : Held) (t : ℕ) (kept : IsKept store) (lt : t < length store.flow.tasks) where
  abbrev run : Capture
  run = capture_in (captured_in store t)

  abbrev keeps : Bool
  keeps = keeps_in store.flow t

  -- what the rules refuse has no room
  pub refused_full : (size state : ℕ) → allows store.catalog (run_commit store t size state) ≡ false → IsFull store.journal.length store.catalog (run_commit store t size state)
  refused_full size state refused = inr (sym (run_rules store.catalog (task_in store.flow t) t keeps size state (run_task store t kept lt)) ∙ refused)

  pub made_ready : (x : Made) (fresh : List Fresh) (made : Ready) → t < 2 ^ 32 → store.catalog.moment < 2 ^ 64 → (IsFull store.journal.length store.catalog (run_commit store t 0 0) → ⊥) →
      is_some x.state ≡ keeps → length (kept_spelling x.state) < 2 ^ 64 → AreRunFiles store.catalog.next x.block x.state fresh → IsPreparedFor store (made_commit store t x) (Some made) → IsRunReady store t x fresh made
  made_ready x fresh made narrow moment free same wide files (framed, prepared) =
      let size = length (spelling_of x.block) in
      let state = length (kept_spelling x.state) in
      let room = sym (run_rules store.catalog (task_in store.flow t) t keeps size state (run_task store t kept lt)) ∙ prepared.allowed in
      let short = frame_room store.catalog t run keeps store.journal.length size state free in
      let long = ap length framed in
      let late : store.catalog.moment ≤ store.catalog.moment = omega arith in
      record {
        ready = record { framed = framed; prepared = prepared; room = omega (arith, short, long); readable = run_readable store.catalog t run keeps size state room late prepared.allowed kept.readable };
        fits = run_fits store t kept lt size state narrow moment wide room;
        spare = run_spare store.catalog t run size state x.block kept.readable keeps x.state same room fresh files;
        files = files;
      }
