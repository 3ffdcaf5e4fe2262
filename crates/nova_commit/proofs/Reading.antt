-- What is read is spelled so, and what is spelled so is read.
use Rattle.std.proofs.Common.{◌≡◌, ◌⊎◌, inl, inr, ℕ, suc, ◌^◌, ◌==◌, Bool, true, false, List, [], ◌∷◌, ◌++◌, length, Option, Some, None, refl, sym, ap, subst, ◌∙◌, if◌then◌else◌}
use Rattle.std.specs.Option.{option_map}
use Rattle.std.specs.List.{AllByRecursion}
use Rattle.std.specs.Int.{w32, w64}
use Rattle.std.proofs.lemmas.Bool.{eqb-true}
use Rattle.nova_commit.specs.declared.commit.PartFile.{PartFile}
use Rattle.nova_commit.specs.declared.commit.Commit.{Commit}
use Rattle.nova_commit.specs.declared.commit.Commit.TheVariants.{Flow, Load, Tick, Run, Joined, Collected}
use Rattle.nova_commit.specs.Commits.{four, eight, part_bytes, versions_bytes, parts_bytes, kept_bytes, commit_bytes, rise, IsNarrow, IsWide, FitsPart, Fits, HasSpelling}
use Rattle.nova_commit.specs.Fields.{◌>>=◌, number_at, pair_at, whole, part_at, versions_at, parts_at, kept_at, load_of, tick_of, run_of, joined_of, collected_of, commit_of}
use Rattle.nova_commit.proofs.Items.{IsBytes, IsField, Takes, bind_some, when_some, some_is, narrow, wide, wide32, wide64, pair_field, list_field, whole_takes, whole_again}

two_wide : IsField (pair_at (number_at w64) (number_at w64)) (λ x. eight x.0 ++ eight x.1) (λ x. IsWide x.0 × IsWide x.1)
two_wide = pair_field (number_at w64) (number_at w64) eight eight IsWide IsWide wide wide

part_fields : IsField (pair_at (number_at w32) (pair_at (number_at w64) (number_at w64))) (λ x. four x.0 ++ (eight x.1.0 ++ eight x.1.1)) (λ x. IsNarrow x.0 × (IsWide x.1.0 × IsWide x.1.1))
part_fields = pair_field (number_at w32) (pair_at (number_at w64) (number_at w64)) four (λ x. eight x.0 ++ eight x.1) IsNarrow (λ x. IsWide x.0 × IsWide x.1) narrow two_wide

abbrev made_part : ℕ × (ℕ × ℕ) → PartFile
made_part a = record { part = a.0; block = a.1.0; size = a.1.1 }

part_takes : (bytes : List ℕ) (a : PartFile × List ℕ) → IsBytes bytes → part_at bytes ≡ Some a → Takes bytes (part_bytes a.0) a.1 × FitsPart a.0
unfolding part_at
part_takes bytes a fits e =
    let x = bind_some (pair_at (number_at w32) (pair_at (number_at w64) (number_at w64)) bytes) (λ x. Some (made_part x.0, x.1)) a e in
    let t = part_fields.takes bytes x.0 fits x.1 in
    let made : PartFile × List ℕ = (made_part x.0.0, x.0.1) in
    subst (λ (z : PartFile × List ℕ). Takes bytes (part_bytes z.0) z.1 × FitsPart z.0) (some_is made a x.2) (t.0, record { part = t.1.0; block = t.1.1.0; size = t.1.1.1 })

part_again : (p : PartFile) (rest : List ℕ) → FitsPart p → part_at (part_bytes p ++ rest) ≡ Some (p, rest)
unfolding part_at
part_again p rest fits = ap (λ o. o >>= λ x. Some (made_part x.0, x.1)) (part_fields.again (p.part, (p.block, p.size)) rest (fits.part, (fits.block, fits.size)))

part_field : IsField part_at part_bytes FitsPart
part_field = record { takes = part_takes; again = part_again }

versions_field : IsField versions_at versions_bytes (λ xs. IsNarrow (length xs) × AllByRecursion IsWide xs)
unfolding versions_at
versions_field = list_field (number_at w64) eight IsWide wide w32 (2 ^ 32) wide32

parts_field : IsField parts_at parts_bytes (λ ps. IsNarrow (length ps) × AllByRecursion FitsPart ps)
unfolding parts_at
parts_field = list_field part_at part_bytes FitsPart part_field w32 (2 ^ 32) wide32

kept_field : IsField kept_at kept_bytes (λ xs. IsWide (length xs) × AllByRecursion IsWide xs)
unfolding kept_at
kept_field = list_field (number_at w64) eight IsWide wide w64 (2 ^ 64) wide64

-- ---- commits

made_of : {A B : Type 0} (f : A → B) (o : Option A) (y : B) → option_map f o ≡ Some y → (x : A) × (o ≡ Some x) × (f x ≡ y)
made_of f (Some x) y e = (x, refl, some_is (f x) y e)
made_of f None y e = absurd cc

-- what the fields behind a tag spell
abbrev Behind : ℕ → List ℕ → Commit → Type 0
Behind tag bytes c = (tag ∷ bytes ≡ commit_bytes c) × Fits c

load_takes : (bytes : List ℕ) (c : Commit) → IsBytes bytes → load_of bytes ≡ Some c → Behind 2 bytes c
unfolding load_of commit_bytes
load_takes bytes c fits e =
    let a = made_of (λ a. Load a.0 a.1.0 a.1.1) _ c e in
    let t = whole_takes _ _ _ part_fields bytes a.0 fits a.1 in
    subst (Behind 2 bytes) a.2 (ap (λ (r : List ℕ). 2 ∷ r) t.0, t.1)

tick_takes : (bytes : List ℕ) (c : Commit) → IsBytes bytes → tick_of bytes ≡ Some c → Behind 3 bytes c
unfolding tick_of commit_bytes
tick_takes bytes c fits e =
    let a = made_of (λ a. Tick a) _ c e in
    let t = whole_takes _ _ _ wide bytes a.0 fits a.1 in
    subst (Behind 3 bytes) a.2 (ap (λ (r : List ℕ). 3 ∷ r) t.0, t.1)

-- the fields of a run, from the last to the first
module _ where
  abbrev PartsFit : List PartFile → Type 0
  PartsFit ps = IsNarrow (length ps) × AllByRecursion FitsPart ps

  abbrev from_size : List ℕ → Option ((ℕ × List PartFile) × List ℕ)
  from_size = pair_at (number_at w64) parts_at

  abbrev size_bytes : ℕ × List PartFile → List ℕ
  size_bytes x = eight x.0 ++ parts_bytes x.1

  abbrev SizeFits : ℕ × List PartFile → Type 0
  SizeFits x = IsWide x.0 × PartsFit x.1

  size_field : IsField from_size size_bytes SizeFits
  size_field = pair_field (number_at w64) parts_at eight parts_bytes IsWide PartsFit wide parts_field

  abbrev from_block : List ℕ → Option ((ℕ × (ℕ × List PartFile)) × List ℕ)
  from_block = pair_at (number_at w64) from_size

  abbrev block_bytes : ℕ × (ℕ × List PartFile) → List ℕ
  block_bytes x = eight x.0 ++ size_bytes x.1

  abbrev BlockFits : ℕ × (ℕ × List PartFile) → Type 0
  BlockFits x = IsWide x.0 × SizeFits x.1

  block_field : IsField from_block block_bytes BlockFits
  block_field = pair_field (number_at w64) from_size eight size_bytes IsWide SizeFits wide size_field

  abbrev from_seen : List ℕ → Option ((ℕ × (ℕ × (ℕ × List PartFile))) × List ℕ)
  from_seen = pair_at (number_at w64) from_block

  abbrev seen_bytes : ℕ × (ℕ × (ℕ × List PartFile)) → List ℕ
  seen_bytes x = eight x.0 ++ block_bytes x.1

  abbrev SeenFits : ℕ × (ℕ × (ℕ × List PartFile)) → Type 0
  SeenFits x = IsWide x.0 × BlockFits x.1

  seen_field : IsField from_seen seen_bytes SeenFits
  seen_field = pair_field (number_at w64) from_block eight block_bytes IsWide BlockFits wide block_field

  abbrev from_moment : List ℕ → Option ((ℕ × (ℕ × (ℕ × (ℕ × List PartFile)))) × List ℕ)
  from_moment = pair_at (number_at w64) from_seen

  abbrev moment_bytes : ℕ × (ℕ × (ℕ × (ℕ × List PartFile))) → List ℕ
  moment_bytes x = eight x.0 ++ seen_bytes x.1

  abbrev MomentFits : ℕ × (ℕ × (ℕ × (ℕ × List PartFile))) → Type 0
  MomentFits x = IsWide x.0 × SeenFits x.1

  moment_field : IsField from_moment moment_bytes MomentFits
  moment_field = pair_field (number_at w64) from_seen eight seen_bytes IsWide SeenFits wide seen_field

  abbrev VersionsFit : List ℕ → Type 0
  VersionsFit xs = IsNarrow (length xs) × AllByRecursion IsWide xs

  abbrev AfterTask : Type 0
  AfterTask = List ℕ × (ℕ × (ℕ × (ℕ × (ℕ × List PartFile))))

  abbrev from_versions : List ℕ → Option (AfterTask × List ℕ)
  from_versions = pair_at versions_at from_moment

  abbrev from_versions_bytes : AfterTask → List ℕ
  from_versions_bytes x = versions_bytes x.0 ++ moment_bytes x.1

  abbrev AfterTaskFits : AfterTask → Type 0
  AfterTaskFits x = VersionsFit x.0 × MomentFits x.1

  after_task_field : IsField from_versions from_versions_bytes AfterTaskFits
  after_task_field = pair_field versions_at from_moment versions_bytes moment_bytes VersionsFit MomentFits versions_field moment_field

  run_fields : IsField (pair_at (number_at w32) from_versions) (λ x. four x.0 ++ from_versions_bytes x.1) (λ x. IsNarrow x.0 × AfterTaskFits x.1)
  run_fields = pair_field (number_at w32) from_versions four from_versions_bytes IsNarrow AfterTaskFits narrow after_task_field

run_takes : (bytes : List ℕ) (c : Commit) → IsBytes bytes → run_of bytes ≡ Some c → Behind 4 bytes c
unfolding run_of commit_bytes
run_takes bytes c fits e =
    let a = made_of (λ a. Run a.0 a.1.0 a.1.1.0 a.1.1.1.0 a.1.1.1.1.0 a.1.1.1.1.1.0 a.1.1.1.1.1.1) _ c e in
    let t = whole_takes _ _ _ run_fields bytes a.0 fits a.1 in
    subst (Behind 4 bytes) a.2 (ap (λ (r : List ℕ). 4 ∷ r) t.0, t.1)

joined_fields : IsField (pair_at (number_at w32) (pair_at (number_at w64) (pair_at (number_at w64) (pair_at (number_at w64) (number_at w64))))) (λ x. four x.0 ++ (eight x.1.0 ++ (eight x.1.1.0 ++ (eight x.1.1.1.0 ++ eight x.1.1.1.1)))) (λ x. IsNarrow x.0 × (IsWide x.1.0 × (IsWide x.1.1.0 × (IsWide x.1.1.1.0 × IsWide x.1.1.1.1))))
joined_fields =
    let three = pair_field (number_at w64) (pair_at (number_at w64) (number_at w64)) eight (λ (x : ℕ × ℕ). eight x.0 ++ eight x.1) IsWide (λ (x : ℕ × ℕ). IsWide x.0 × IsWide x.1) wide two_wide in
    let fourth = pair_field (number_at w64) (pair_at (number_at w64) (pair_at (number_at w64) (number_at w64))) eight (λ (x : ℕ × (ℕ × ℕ)). eight x.0 ++ (eight x.1.0 ++ eight x.1.1)) IsWide (λ (x : ℕ × (ℕ × ℕ)). IsWide x.0 × (IsWide x.1.0 × IsWide x.1.1)) wide three in
    pair_field (number_at w32) (pair_at (number_at w64) (pair_at (number_at w64) (pair_at (number_at w64) (number_at w64)))) four (λ (x : ℕ × (ℕ × (ℕ × ℕ))). eight x.0 ++ (eight x.1.0 ++ (eight x.1.1.0 ++ eight x.1.1.1))) IsNarrow (λ (x : ℕ × (ℕ × (ℕ × ℕ))). IsWide x.0 × (IsWide x.1.0 × (IsWide x.1.1.0 × IsWide x.1.1.1))) narrow fourth

joined_takes : (bytes : List ℕ) (c : Commit) → IsBytes bytes → joined_of bytes ≡ Some c → Behind 5 bytes c
unfolding joined_of commit_bytes
joined_takes bytes c fits e =
    let a = made_of (λ a. Joined a.0 a.1.0 a.1.1.0 a.1.1.1.0 a.1.1.1.1) _ c e in
    let t = whole_takes _ _ _ joined_fields bytes a.0 fits a.1 in
    subst (Behind 5 bytes) a.2 (ap (λ (r : List ℕ). 5 ∷ r) t.0, t.1)

collected_takes : (bytes : List ℕ) (c : Commit) → IsBytes bytes → collected_of bytes ≡ Some c → Behind 6 bytes c
unfolding collected_of commit_bytes
collected_takes bytes c fits e =
    let a = bind_some (whole kept_at bytes) (λ kept. if rise kept then Some (Collected kept) else None) c e in
    let g = when_some (rise a.0) (Collected a.0) c a.2 in
    let t = whole_takes _ _ _ kept_field bytes a.0 fits a.1 in
    subst (Behind 6 bytes) g.1 (ap (λ (r : List ℕ). 6 ∷ r) t.0, (t.1, g.0))

flow_takes : (bytes : List ℕ) (c : Commit) → Some (Flow bytes) ≡ Some c → Behind 1 bytes c
unfolding commit_bytes
flow_takes bytes c e = subst (Behind 1 bytes) (some_is (Flow bytes) c e) (refl, tt)

-- which way a test went
went : {X : Type 0} (b : Bool) (x y : Option X) (z : X) → (if b then x else y) ≡ Some z → ((b ≡ true) × (x ≡ Some z)) ⊎ ((b ≡ false) × (y ≡ Some z))
went true x y z e = inl (refl, e)
went false x y z e = inr (refl, e)

tagged : (tag n : ℕ) (bytes : List ℕ) (c : Commit) → (tag == n) ≡ true → Behind n bytes c → Behind tag bytes c
tagged tag n bytes c e h = subst (λ (k : ℕ). Behind k bytes c) (sym (eqb-true tag n e)) h

pub commit_takes : (bytes : List ℕ) (c : Commit) → IsBytes bytes → commit_of bytes ≡ Some c → (bytes ≡ commit_bytes c) × Fits c
unfolding commit_of
commit_takes [] c fits e = absurd cc
commit_takes (tag ∷ rest) c fits e =
    let fits_rest : IsBytes rest = λ i. fits (suc i) in
    elim (went (tag == 1) _ _ c e) as (λ _. Behind tag rest c) [
      | inl h ↦ tagged tag 1 rest c h.0 (flow_takes rest c h.1)
      | inr n1 ↦
          elim (went (tag == 2) _ _ c n1.1) as (λ _. Behind tag rest c) [
            | inl h ↦ tagged tag 2 rest c h.0 (load_takes rest c fits_rest h.1)
            | inr n2 ↦
                elim (went (tag == 3) _ _ c n2.1) as (λ _. Behind tag rest c) [
                  | inl h ↦ tagged tag 3 rest c h.0 (tick_takes rest c fits_rest h.1)
                  | inr n3 ↦
                      elim (went (tag == 4) _ _ c n3.1) as (λ _. Behind tag rest c) [
                        | inl h ↦ tagged tag 4 rest c h.0 (run_takes rest c fits_rest h.1)
                        | inr n4 ↦
                            elim (went (tag == 5) _ _ c n4.1) as (λ _. Behind tag rest c) [
                              | inl h ↦ tagged tag 5 rest c h.0 (joined_takes rest c fits_rest h.1)
                              | inr n5 ↦
                                  elim (went (tag == 6) _ _ c n5.1) as (λ _. Behind tag rest c) [ inl h ↦ tagged tag 6 rest c h.0 (collected_takes rest c fits_rest h.1) | inr n6 ↦ absurd (nothing n6.1) ]
                            ]
                      ]
                ]
          ]
    ]
  where
    nothing : None ≡ Some c → ⊥
    nothing h = cc

pub commit_again : (c : Commit) → Fits c → commit_of (commit_bytes c) ≡ Some c
unfolding commit_of commit_bytes load_of tick_of run_of joined_of collected_of
commit_again (Flow text) fits = refl
commit_again (Load channel block size) fits = ap (option_map (λ a. Load a.0 a.1.0 a.1.1)) (whole_again _ _ _ part_fields (channel, (block, size)) fits)
commit_again (Tick moment) fits = ap (option_map (λ a. Tick a)) (whole_again _ _ _ wide moment fits)
commit_again (Run task versions moment seen block size parts) fits =
    ap (option_map (λ (a : ℕ × AfterTask). Run a.0 a.1.0 a.1.1.0 a.1.1.1.0 a.1.1.1.1.0 a.1.1.1.1.1.0 a.1.1.1.1.1.1)) (whole_again _ _ _ run_fields (task, (versions, (moment, (seen, (block, (size, parts)))))) fits)
commit_again (Joined channel from to block size) fits = ap (option_map (λ a. Joined a.0 a.1.0 a.1.1.0 a.1.1.1.0 a.1.1.1.1)) (whole_again _ _ _ joined_fields (channel, (from, (to, (block, size)))) fits)
commit_again (Collected kept) fits =
    ap (λ o. o >>= λ kept. if rise kept then Some (Collected kept) else None) (whole_again _ _ _ kept_field kept fits.0) ∙ ap (λ b. if b then Some (Collected kept) else None) fits.1

-- no two commits have one spelling
pub spelled_once : (c d : Commit) → Fits c → Fits d → commit_bytes c ≡ commit_bytes d → c ≡ d
spelled_once c d f g e = some_is c d (sym (commit_again c f) ∙ ap commit_of e ∙ commit_again d g)

-- what is read can be written
pub fits_spelling : (c : Commit) → Fits c → HasSpelling c
fits_spelling (Flow text) f = tt
fits_spelling (Load channel block size) f = tt
fits_spelling (Tick moment) f = tt
fits_spelling (Run task versions moment seen block size parts) f = (f.1.0.0, f.1.1.1.1.1.1.0)
fits_spelling (Joined channel from to block size) f = tt
fits_spelling (Collected kept) f = f.1
