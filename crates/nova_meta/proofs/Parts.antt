-- State parts are named of tasks that keep state.
use Rattle.std.proofs.Common.{◌≡◌, ◌⊎◌, inl, inr, ℕ, zero, suc, ◌+◌, ◌<◌, ◌==◌, ◌^◌, Bool, true, false, if◌then◌else◌, List, [], ◌∷◌, length, get_or, Option, Some, None, refl, ap, ◌∙◌, subst, arith}
use Rattle.std.specs.Prelude.{nat_le, nat_lt, slice_set}
use Rattle.std.specs.List.{AllByRecursion}
use Rattle.std.proofs.Math.ListN.{get_or-map}
use Rattle.std.proofs.lemmas.List.{length-set}
use Rattle.std.proofs.lemmas.Bool.Decides.{nat_tests}
use Rattle.nova_path.proofs.Paths.{same_number}
use Rattle.nova_commit.specs.Commits.{Fits, FitsPart}
use Rattle.nova_commit.specs.declared.commit.Commit.{Commit}
use Rattle.nova_commit.specs.declared.commit.Commit.TheVariants.{Flow, Load, Tick, Run, Joined, Collected}
use Rattle.nova_commit.specs.declared.commit.PartFile.{PartFile}
use Rattle.nova_meta.specs.declared.progress.Progress.{Progress}
use Rattle.nova_meta.specs.declared.progress.StateFile.{StateFile}
use Rattle.nova_meta.specs.declared.wiring.Wiring.{Wiring}
use Rattle.nova_meta.specs.Wired.{no_wire, wire_at}
use Rattle.nova_meta.specs.Catalog.{Entered, allows, applied, blank, may_have_parts, may_parts, next_progress, no_run, part_count, progress_at, with_commits, with_parts}
use Rattle.nova_meta.specs.Named.{HasKeptParts, HasSlots, HasWideParts, PartsAreKept, PartsAreWide, PartsHaveSlots}
use Rattle.nova_meta.specs.Named.Content.{State}
use Rattle.nova_meta.proofs.Allowed.{RunKeeps, and_both, run_keeps}
use Rattle.nova_meta.proofs.Numbered.{IsPart, no_part, none_named, parts_either}
use Rattle.nova_meta.proofs.Sound.{by_commits, put_at}

below_count : (least block : ℕ) (ps : List PartFile) → may_parts least block ps ≡ true → (k : ℕ) → k < length ps → (get_or ps k no_part).part < part_count
below_count least block [] ok k lt = absurd (omega (arith, lt))
below_count least block (p ∷ ps) ok zero lt =
    let a = and_both (nat_le least p.part) _ ok in
    let b = and_both (nat_lt p.part part_count) _ a.1 in
    let low : nat_lt p.part part_count ≡ true = b.0 in
    grind (arith, nat_tests)
below_count least block (p ∷ ps) ok (suc k) lt =
    let a = and_both (nat_le least p.part) _ ok in
    let b = and_both (nat_lt p.part part_count) _ a.1 in
    let c = and_both (p.block == block) (may_parts (suc p.part) (suc block) ps) b.1 in
    below_count (suc p.part) (suc block) ps c.1 k (omega (arith, lt))

of_stateful : (keeps : Bool) (ps : List PartFile) (k : ℕ) → k < length ps → may_have_parts keeps ps ≡ true → keeps ≡ true
of_stateful true ps k lt ok = refl
of_stateful false ps k lt ok = let none = same_number (length ps) 0 ok in absurd (omega (arith, lt, none))

abbrev Kept : Entered → ℕ → Progress → Type 0
Kept cat t p = (part b z : ℕ) → get_or p.parts part None ≡ Some (record { block = b; size = z }) → ((wire_at cat.wiring t).stateful ≡ true) × (part < part_count)

-- the parts of a run
module _ (cat : Entered) (is : HasKeptParts cat) (t : ℕ) (versions : List ℕ) (moment seen block size : ℕ) (parts : List PartFile) (ok : allows cat (Run t versions moment seen block size parts) ≡ true) where
  keeps : RunKeeps cat t versions block size parts
  keeps = run_keeps cat t versions moment seen block size parts ok

  new : (part b z : ℕ) → IsPart parts (cat.next + 1) part b z → ((wire_at cat.wiring t).stateful ≡ true) × (part < part_count)
  new part b z h = (of_stateful (wire_at cat.wiring t).stateful parts h.k h.within keeps.kept, subst (λ n. n < part_count) h.part_is (below_count 0 (cat.next + 1) parts keeps.numbers h.k h.within))

  here : Kept cat t (next_progress (progress_at cat t) versions moment seen parts)
  here part b z h = elim (parts_either 0 (cat.next + 1) parts (progress_at cat t).parts keeps.numbers part (record { block = b; size = z }) h) as (λ _. ((wire_at cat.wiring t).stateful ≡ true) × (part < part_count)) [
    | inl old ↦ is t part b z old
    | inr one ↦ new part b z one
  ]

  parts_run : HasKeptParts (applied cat (Run t versions moment seen block size parts))
  parts_run = put_at cat.tasks t (next_progress (progress_at cat t) versions moment seen parts) no_run keeps.task (Kept cat) here is

-- a commit that is allowed names parts of tasks that keep state
parts_step : (cat : Entered) (c : Commit) → HasKeptParts cat → allows cat c ≡ true → HasKeptParts (applied cat c)
parts_step cat (Flow text) is ok = is
parts_step cat (Load c block size) is ok = is
parts_step cat (Tick moment) is ok = is
parts_step cat (Run t versions moment seen block size parts) is ok = parts_run cat is t versions moment seen block size parts ok
parts_step cat (Joined c from to block size) is ok = is
parts_step cat (Collected kept) is ok = is

pub parts_are_kept : PartsAreKept
parts_are_kept w commits cat e = by_commits HasKeptParts parts_step (blank w) cat commits (λ t part b z named. absurd (none_named w (State t part) b z named)) e

-- ---- their sizes

abbrev Wide : Progress → Type 0
Wide p = (part b z : ℕ) → get_or p.parts part None ≡ Some (record { block = b; size = z }) → z < 2 ^ 64

size_wide : (ps : List PartFile) → AllByRecursion FitsPart ps → (k : ℕ) → k < length ps → (get_or ps k no_part).size < 2 ^ 64
size_wide [] fit k lt = absurd (omega (arith, lt))
size_wide (p ∷ ps) fit zero lt = fit.0.size
size_wide (p ∷ ps) fit (suc k) lt = size_wide ps fit.1 k (omega (arith, lt))

module _ (cat : Entered) (is : HasWideParts cat) (t : ℕ) (versions : List ℕ) (moment seen block size : ℕ) (parts : List PartFile)
    (fit : AllByRecursion FitsPart parts) (ok : allows cat (Run t versions moment seen block size parts) ≡ true) where
  wide_here : Wide (next_progress (progress_at cat t) versions moment seen parts)
  wide_here part b z h = elim (parts_either 0 (cat.next + 1) parts (progress_at cat t).parts (run_keeps cat t versions moment seen block size parts ok).numbers part (record { block = b; size = z }) h) as (λ _. z < 2 ^ 64) [
    | inl old ↦ is t part b z old
    | inr one ↦ subst (λ n. n < 2 ^ 64) one.size_is (size_wide parts fit one.k one.within)
  ]

  wide_run : HasWideParts (applied cat (Run t versions moment seen block size parts))
  wide_run = put_at cat.tasks t (next_progress (progress_at cat t) versions moment seen parts) no_run (run_keeps cat t versions moment seen block size parts ok).task (λ u (p : Progress). Wide p) wide_here is

wide_step : (cat : Entered) (c : Commit) → Fits c → HasWideParts cat → allows cat c ≡ true → HasWideParts (applied cat c)
wide_step cat (Flow text) fit is ok = is
wide_step cat (Load c block size) fit is ok = is
wide_step cat (Tick moment) fit is ok = is
wide_step cat (Run t versions moment seen block size parts) fit is ok = wide_run cat is t versions moment seen block size parts fit.1.1.1.1.1.1.1 ok
wide_step cat (Joined c from to block size) fit is ok = is
wide_step cat (Collected kept) fit is ok = is

same_catalog : (a b : Entered) → Some a ≡ Some b → a ≡ b
same_catalog a b e = cc

none_follow : (cs : List Commit) (last : Entered) → with_commits None cs ≡ Some last → ⊥
none_follow [] last e = cc
none_follow (c ∷ cs) last e = none_follow cs last e

wide_by : (cat last : Entered) (cs : List Commit) → AllByRecursion Fits cs → HasWideParts cat → with_commits (Some cat) cs ≡ Some last → HasWideParts last
wide_by cat last [] fit is e = subst HasWideParts (same_catalog cat last e) is
wide_by cat last (c ∷ cs) fit is e = by_case (wide_by (applied cat c) last cs fit.1) (allows cat c) refl e
  where
    by_case : (HasWideParts (applied cat c) → with_commits (Some (applied cat c)) cs ≡ Some last → HasWideParts last) → (b : Bool) → allows cat c ≡ b → with_commits (if b then Some (applied cat c) else None) cs ≡ Some last → HasWideParts last
    by_case rest true ok f = rest (wide_step cat c fit.0 is ok) f
    by_case rest false not_ok f = absurd (none_follow cs last f)

pub parts_are_wide : PartsAreWide
parts_are_wide w commits cat is = wide_by (blank w) cat commits is.fit (λ t part b z named. absurd (none_named w (State t part) b z named)) is.is

-- ---- their slots

same_slots : (ps : List PartFile) (files : List (Option StateFile)) → length (with_parts ps files) ≡ length files
same_slots [] files = refl
same_slots (p ∷ ps) files = same_slots ps (slice_set files p.part (Some (record { block = p.block; size = p.size }))) ∙ length-set files p.part (Some (record { block = p.block; size = p.size }))

slots_step : (cat : Entered) (c : Commit) → HasSlots cat → allows cat c ≡ true → HasSlots (applied cat c)
slots_step cat (Flow text) is ok = is
slots_step cat (Load c block size) is ok = is
slots_step cat (Tick moment) is ok = is
slots_step cat (Run t versions moment seen block size parts) is ok =
    put_at cat.tasks t (next_progress (progress_at cat t) versions moment seen parts) no_run (run_keeps cat t versions moment seen block size parts ok).task (λ u (p : Progress). length p.parts ≡ 16)
    (same_slots parts (progress_at cat t).parts ∙ is t) is
slots_step cat (Joined c from to block size) is ok = is
slots_step cat (Collected kept) is ok = is

blank_slots : (w : Wiring) → HasSlots (blank w)
blank_slots w t = ap (λ (p : Progress). length p.parts) (get_or-map (λ x. no_run) w.tasks t no_wire)

pub parts_have_slots : PartsHaveSlots
parts_have_slots w commits cat e = by_commits HasSlots slots_step (blank w) cat commits (blank_slots w) e
