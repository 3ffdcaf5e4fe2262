-- The worked sessions, by the definitions alone; and values of definitions.
use Rattle.std.proofs.Common.{◌≡◌, ◌<◌, ℕ, zero, suc, pos, List, [], ◌∷◌, ◌++◌, length, map, Some, refl, sym, ◌∙◌, arith}
use Rattle.std.specs.Prelude.{codes}
use Rattle.std.specs.List.{flat_map}
use Rattle.std.specs.FinMap as fin
use Rattle.nova_value.specs.declared.value.Value.{Value}
use Rattle.nova_value.specs.Order.{key_cmp}
use Rattle.nova_value.specs.RowLine.{row_line}
use Rattle.nova_script.specs.Replies as line
use Rattle.std.specs.Fmt.{digits}
use Rattle.nova_value.specs.declared.value.Value.TheVariants.{Long}
use Rattle.nova_value.specs.Line.{row_of_text, fields_of, values_of}
use Rattle.nova_path.specs.Shelf.{chosen_path}
use Rattle.nova_pig_algebra.specs.declared.node.Node.TheVariants as node
use Rattle.nova_pig_algebra.specs.Plan.{Plan}
use Rattle.nova_pig_algebra.specs.Tree.{trees_after}
use Rattle.nova_workflow.specs.declared.flow.Trigger.TheVariants.{Every}
use Rattle.nova_machine.specs.State.{Capture}
use Rattle.nova_machine.specs.Sound.{IsWired}
use Rattle.nova_machine.specs.RunLaws.{IsOwned}
use Rattle.nova_machine.specs.Needed.{weight_of}
use Rattle.nova_pig_pattern.specs.OutputKeys.{output_keys}
use Rattle.nova_machine.specs.Results.{taken_up}
use Rattle.nova_machine.specs.Workflow.{main_place}
use Rattle.nova_machine.specs.FlowA.{all, flow_a, new, requests}
use Rattle.nova_machine.specs.Sessions.{CallAfterCall, OrdinaryDay, LookupChanges, CompactionBehindACursor, Overlap, Clock, Period, Cascade, RefusedAndTruncated, OtherRefusals, LeastCause, Chaining, NoPathToChain, IntervalsOnce, Bases, ShownEmpty, LoadedEntries, WholeCommands}

pub call_after_call : CallAfterCall
unfolding digits
call_after_call = refl

pub ordinary_day : OrdinaryDay
unfolding digits row_of_text fields_of values_of
ordinary_day = refl

pub lookup_changes : LookupChanges
unfolding digits
lookup_changes = refl

pub compaction_behind_a_cursor : CompactionBehindACursor
unfolding digits chosen_path weight_of row_of_text fields_of values_of
compaction_behind_a_cursor = refl

pub overlap : Overlap
unfolding digits chosen_path weight_of row_of_text fields_of values_of
overlap = refl

pub clock : Clock
unfolding digits
clock = refl

pub period : Period
unfolding digits
period = refl

pub cascade : Cascade
unfolding digits
cascade = refl

pub refused_and_truncated : RefusedAndTruncated
unfolding digits row_of_text fields_of values_of
refused_and_truncated = refl

pub other_refusals : OtherRefusals
unfolding digits
other_refusals = refl

pub chaining : Chaining
unfolding digits chosen_path weight_of
chaining = refl

pub no_path_to_chain : NoPathToChain
unfolding digits chosen_path weight_of
no_path_to_chain = refl

pub intervals_once : IntervalsOnce
unfolding digits
intervals_once = refl

pub least_cause : LeastCause
unfolding digits row_of_text fields_of values_of
least_cause = refl

pub loaded_entries : LoadedEntries
unfolding row_of_text fields_of values_of
loaded_entries = refl

pub whole_commands : WholeCommands
whole_commands = (refl, refl)

-- a table without rows, shown
pub no_entries : fin.entries (fin.empty {X = List Value} {R = key_cmp}) ≡ []
no_entries = none (fin.entries fin.empty) (sym (fin.len-entries fin.empty) ∙ fin.len-empty key_cmp (List Value))
  where
    none : (es : List (List Value × List Value)) → length es ≡ 0 → es ≡ []
    none [] e = refl
    none (x ∷ es) e = absurd (omega (arith, e))

pub shown_empty : ShownEmpty
unfolding digits
shown_empty z = (flat_map row_line (map (λ (e : List Value × List Value). e.1) (no_entries z)) ++ line.shown (codes "raw") 0 (fin.len-empty key_cmp (List Value) z)) ++ []

pub bases : Bases
unfolding digits chosen_path weight_of
bases = refl

-- a row that version 1 wrote keeps the first run, one that version 2 or 3 wrote the second
abbrev saw : ℕ → Capture
saw v = record { versions = v ∷ []; moment = 0; seen = 0 }

first : taken_up 0 1 (saw 1 ∷ saw 3 ∷ []) ≡ Some (saw 1)
first = refl

second : taken_up 0 2 (saw 1 ∷ saw 3 ∷ []) ≡ Some (saw 3)
second = refl

-- a script that stores what it loads has each key as its output key
abbrev copy : Plan
copy = record { nodes = node.Load 0 ∷ []; stored = 0; inputs = requests ∷ []; output = requests }

copied : output_keys copy 0 (Long (pos 7) ∷ []) ≡ (Long (pos 7) ∷ []) ∷ []
unfolding trees_after
copied = refl

-- the main input is the one that is NEW, wherever it stands
third : main_place (all 0 ∷ all 1 ∷ new 2 ∷ []) ≡ 2
third = refl

-- the workflow is wired as laws ask
wired : IsWired (flow_a (Every 60))
wired zero zero new = refl
wired zero (suc k) new = cc
wired (suc zero) zero new = refl
wired (suc zero) (suc zero) new = cc
wired (suc zero) (suc (suc k)) new = cc
wired (suc (suc zero)) zero new = refl
wired (suc (suc zero)) (suc k) new = cc
wired (suc (suc (suc zero))) zero new = cc
wired (suc (suc (suc zero))) (suc k) new = cc
wired (suc (suc (suc (suc t)))) k new = cc

-- and each of its channels has the writer that it should
owned : IsOwned (flow_a (Every 60))
owned zero lt = let low : 2 < 6 = omega arith in (low, refl)
owned (suc zero) lt = let low : 3 < 6 = omega arith in (low, refl)
owned (suc (suc zero)) lt = let low : 4 < 6 = omega arith in (low, refl)
owned (suc (suc (suc zero))) lt = let low : 5 < 6 = omega arith in (low, refl)
owned (suc (suc (suc (suc t)))) lt = let low : suc (suc (suc (suc t))) < 4 = lt in absurd (omega (arith, low))
