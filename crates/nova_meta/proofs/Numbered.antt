-- Each block that a catalog names is named once, and before the next one.
use Rattle.std.proofs.Common.{◌≡◌, ◌⊎◌, inl, inr, ℕ, zero, suc, ◌+◌, ◌-◌, ◌<◌, ◌≤◌, ◌==◌, Bool, true, false, List, [], ◌∷◌, length, get_or, set, map, Option, Some, None, replicate, refl, ap, sym, ◌∙◌, subst, arith, if◌then◌else◌}
use Rattle.std.specs.Prelude.{nat_le, nat_lt}
use Rattle.std.specs.List.{filter}
use Rattle.std.proofs.Math.ListN.{get_or-map}
use Rattle.std.proofs.lemmas.Bool.Decides.{nat_tests}
use Rattle.nova_path.specs.Lists.{IsOneOf}
use Rattle.nova_path.specs.declared.interval.Interval.{Interval}
use Rattle.nova_path.proofs.Paths.{equal_number, same_number}
use Rattle.nova_commit.specs.declared.commit.Commit.{Commit}
use Rattle.nova_commit.specs.declared.commit.Commit.TheVariants.{Flow, Load, Tick, Run, Joined, Collected}
use Rattle.nova_commit.specs.declared.commit.PartFile.{PartFile}
use Rattle.nova_meta.specs.declared.progress.Progress.{Progress}
use Rattle.nova_meta.specs.declared.progress.StateFile.{StateFile}
use Rattle.nova_meta.specs.declared.wiring.Wiring.{Wiring}
use Rattle.nova_meta.specs.Wired.{is_based, no_wire, wire_at}
use Rattle.nova_meta.specs.Catalog.{Entered, Shelved, allows, applied, blank, interval_of, is_before, is_kept, kept_shelf, may_parts, next_progress, no_run, nothing_shelved, part_count, placed, progress_at, shelf_at, with_parts}
use Rattle.nova_meta.specs.Named.{BlocksAreNumbered, Content, IsNumbered, Names}
use Rattle.nova_meta.specs.Named.Content.{Channel, State}
use Rattle.nova_meta.specs.Sound.{IsSound}
use Rattle.nova_meta.proofs.Allowed.{and_both, join_keeps, load_keeps, run_keeps}
use Rattle.nova_meta.proofs.Sound.{blank_sound, by_commits, put_at, sound_step}

-- what this block is for, and its size
abbrev IsNew : Entered → ℕ → (ℕ → Content × ℕ) → Content → ℕ → ℕ → Type 0
IsNew cat next fresh x block size = (cat.next ≤ block) × ((block < next) × ((x, size) ≡ fresh block))

-- each name behind a commit is an earlier one, or of a block that the commit took
abbrev OldOrNew : Entered → ℕ → (ℕ → Content × ℕ) → Content → ℕ → ℕ → Type 0
OldOrNew cat next fresh x block size = Names cat x block size ⊎ IsNew cat next fresh x block size

numbered_step : (cat behind : Entered) (fresh : ℕ → Content × ℕ) → cat.next ≤ behind.next → ((x : Content) (block size : ℕ) → Names behind x block size → OldOrNew cat behind.next fresh x block size) → IsNumbered cat → IsNumbered behind
numbered_step cat behind fresh le names is = record { below = λ x b s h. below b s x (names x b s h); once = λ x y b s t h g. once x y b s t (names x b s h) (names y b t g) }
  where
    below : (b s : ℕ) (x : Content) → OldOrNew cat behind.next fresh x b s → b < behind.next
    below b s x (inl h) = omega (arith, is.below x b s h, le)
    below b s x (inr h) = h.1.0

    once : (x y : Content) (b s t : ℕ) → OldOrNew cat behind.next fresh x b s → OldOrNew cat behind.next fresh y b t → (x ≡ y) × (s ≡ t)
    once x y b s t (inl h) (inl g) = is.once x y b s t h g
    once x y b s t (inl h) (inr g) = absurd (omega (arith, is.below x b s h, g.0))
    once x y b s t (inr h) (inl g) = absurd (omega (arith, is.below y b t g, h.0))
    once x y b s t (inr h) (inr g) = let same : (x, s) ≡ (y, t) = h.1.1 ∙ sym g.1.1 in (ap (λ (p : Content × ℕ). p.0) same, ap (λ (p : Content × ℕ). p.1) same)

-- ---- lists

placed_either : (x : Interval) (ys : List Interval) (z : Interval) → IsOneOf (placed x ys) z → (x ≡ z) ⊎ IsOneOf ys z
placed_either x [] z (inl e) = inl e
placed_either x [] z (inr m) = absurd m
placed_either x (y ∷ ys) z h = by_case (λ m. placed_either x ys z m) (is_before x y) h
  where
    by_case : (IsOneOf (placed x ys) z → (x ≡ z) ⊎ IsOneOf ys z) → (b : Bool) → IsOneOf (if b then x ∷ (y ∷ ys) else y ∷ placed x ys) z → (x ≡ z) ⊎ ((y ≡ z) ⊎ IsOneOf ys z)
    by_case rest true (inl e) = inl e
    by_case rest true (inr m) = inr m
    by_case rest false (inl e) = inr (inl e)
    by_case rest false (inr m) = elim (rest m) [ inl e ↦ inl e | inr k ↦ inr (inr k) ]

filter_one : (p : Interval → Bool) (xs : List Interval) (z : Interval) → IsOneOf (filter p xs) z → IsOneOf xs z
filter_one p [] z h = absurd h
filter_one p (x ∷ xs) z h = by_case (λ m. filter_one p xs z m) (p x) h
  where
    by_case : (IsOneOf (filter p xs) z → IsOneOf xs z) → (b : Bool) → IsOneOf (if b then x ∷ filter p xs else filter p xs) z → (x ≡ z) ⊎ IsOneOf xs z
    by_case rest true (inl e) = inl e
    by_case rest true (inr m) = inr (rest m)
    by_case rest false m = inr (rest m)

set_either : (xs : List (Option StateFile)) (i j : ℕ) (y : Option StateFile) (v : StateFile) → get_or (set xs i y) j None ≡ Some v → (get_or xs j None ≡ Some v) ⊎ ((j ≡ i) × (y ≡ Some v))
set_either [] i j y v e = inl e
set_either (x ∷ xs) zero zero y v e = inr (refl, e)
set_either (x ∷ xs) zero (suc j) y v e = inl e
set_either (x ∷ xs) (suc i) zero y v e = inl e
set_either (x ∷ xs) (suc i) (suc j) y v e = elim (set_either xs i j y v e) [ inl h ↦ inl h | inr h ↦ inr (ap suc h.0, h.1) ]

pub no_part : PartFile
no_part = record { part = 0; block = 0; size = 0 }

-- the k-th of these parts has the block that is k after the first, and this number and size
pub record IsPart (ps : List PartFile) (block part b size : ℕ) : Type 0 where
  pub k : ℕ
  pub within : k < length ps
  pub block_is : b ≡ block + k
  pub part_is : (get_or ps k no_part).part ≡ part
  pub size_is : (get_or ps k no_part).size ≡ size

pub parts_either : (least block : ℕ) (ps : List PartFile) (files : List (Option StateFile)) → may_parts least block ps ≡ true → (j : ℕ) (v : StateFile) → get_or (with_parts ps files) j None ≡ Some v → (get_or files j None ≡ Some v) ⊎ IsPart ps block j v.block v.size
parts_either least block [] files ok j v e = inl e
parts_either least block (p ∷ ps) files ok j v e =
    let a = and_both (nat_le least p.part) _ ok in
    let b = and_both (nat_lt p.part part_count) _ a.1 in
    let c = and_both (p.block == block) (may_parts (suc p.part) (suc block) ps) b.1 in
    let file : StateFile = record { block = p.block; size = p.size } in
    elim (parts_either (suc p.part) (suc block) ps (set files p.part (Some file)) c.1 j v e) [
      | inr h ↦ inr (record { k = suc h.k; within = omega (arith, h.within); block_is = omega (arith, h.block_is); part_is = h.part_is; size_is = h.size_is })
      | inl h ↦
          elim (set_either files p.part j (Some file) v h) [
            | inl old ↦ inl old
            | inr new ↦
                let same : file ≡ v = is_value file v new.1 in
                inr (record { k = 0; within = omega arith; block_is = sym (ap (λ (f : StateFile). f.block) same) ∙ (same_number p.block block c.0 ∙ omega arith); part_is = sym new.0; size_is = ap (λ (f : StateFile). f.size) same })
          ]
    ]
  where
    is_value : (a b : StateFile) → Some a ≡ Some b → a ≡ b
    is_value a b e = cc

-- ---- a channel with an interval more

abbrev for_interval : ℕ → Interval → Content × ℕ
for_interval c x = (Channel c x.from x.to, x.size)

-- the names of the channels behind it
shelf_names : (cat : Entered) (c : ℕ) (x : Interval) (version next : ℕ) (fresh : ℕ → Content × ℕ) → c < length cat.channels → x.block ≡ cat.next → cat.next < next → fresh cat.next ≡ for_interval c x →
    (d from to block size : ℕ) → IsOneOf (get_or (set cat.channels c (record { version = version; intervals = placed x (shelf_at cat c).intervals })) d nothing_shelved).intervals (interval_of from to block size) → OldOrNew cat next fresh (Channel d from to) block size
shelf_names cat c x version next fresh lt number up is =
    put_at cat.channels c (record { version = version; intervals = placed x (shelf_at cat c).intervals }) nothing_shelved lt
    (λ d s. (from to block size : ℕ) → IsOneOf s.intervals (interval_of from to block size) → OldOrNew cat next fresh (Channel d from to) block size)
    (λ from to block size h. elim (placed_either x (shelf_at cat c).intervals (interval_of from to block size) h) [ inr old ↦ inl old | inl e ↦ inr (new from to block size e) ])
    (λ d from to block size h. inl h)
  where
    new : (from to block size : ℕ) → x ≡ interval_of from to block size → IsNew cat next fresh (Channel c from to) block size
    new from to block size e =
        let b : block ≡ cat.next = sym (ap (λ (y : Interval). y.block) e) ∙ number in
        (omega (arith, b), (omega (arith, b, up), sym (ap (for_interval c) e) ∙ (sym is ∙ ap fresh (sym b))))

one_new : (cat : Entered) (c : ℕ) (x : Interval) (version : ℕ) → c < length cat.channels → x.block ≡ cat.next → IsNumbered cat → IsNumbered (record cat { channels = set cat.channels c (record { version = version; intervals = placed x (shelf_at cat c).intervals }); next = cat.next + 1 })
one_new cat c x version lt number is = numbered_step cat _ (λ b. for_interval c x) (omega arith) names is
  where
    names : (y : Content) (block size : ℕ) → Names (record cat { channels = set cat.channels c (record { version = version; intervals = placed x (shelf_at cat c).intervals }); next = cat.next + 1 }) y block size → OldOrNew cat (cat.next + 1) (λ b. for_interval c x) y block size
    names (Channel d from to) block size h = shelf_names cat c x version (cat.next + 1) (λ b. for_interval c x) lt number (omega arith) refl d from to block size h
    names (State t part) block size h = inl h

-- ---- a run

abbrev run_fresh : ℕ → ℕ → Interval → List PartFile → ℕ → ℕ → Content × ℕ
run_fresh t c x parts next b = if b == next then for_interval c x else (State t (get_or parts (b - (next + 1)) no_part).part, (get_or parts (b - (next + 1)) no_part).size)

fresh_block : (t c : ℕ) (x : Interval) (parts : List PartFile) (next : ℕ) → run_fresh t c x parts next next ≡ for_interval c x
fresh_block t c x parts next = ap (λ b. if b then for_interval c x else (State t (get_or parts (next - (next + 1)) no_part).part, (get_or parts (next - (next + 1)) no_part).size)) (equal_number next next refl)

fresh_part : (t c : ℕ) (x : Interval) (parts : List PartFile) (next k b : ℕ) → b ≡ next + 1 + k → run_fresh t c x parts next b ≡ (State t (get_or parts k no_part).part, (get_or parts k no_part).size)
fresh_part t c x parts next k b e =
    let other : (b == next) ≡ false = apart b next (omega (arith, e)) in
    let place : b - (next + 1) ≡ k = omega (arith, e) in
    ap (λ z. if z then for_interval c x else (State t (get_or parts (b - (next + 1)) no_part).part, (get_or parts (b - (next + 1)) no_part).size)) other
    ∙ ap (λ n. (State t (get_or parts n no_part).part, (get_or parts n no_part).size)) place
  where
    apart : (m n : ℕ) → n < m → (m == n) ≡ false
    apart m n lt = grind (arith, nat_tests)

run_numbered : (cat : Entered) (t c : ℕ) (x : Interval) (version : ℕ) (p : Progress) (parts : List PartFile) → c < length cat.channels → t < length cat.tasks → x.block ≡ cat.next → p.parts ≡ with_parts parts (progress_at cat t).parts → may_parts 0 (cat.next + 1) parts ≡ true → IsNumbered cat →
    IsNumbered (record cat { channels = set cat.channels c (record { version = version; intervals = placed x (shelf_at cat c).intervals }); tasks = set cat.tasks t p; next = cat.next + 1 + length parts })
run_numbered cat t c x version p parts lt t_in number files ok is = numbered_step cat _ fresh (omega arith) names is
  where
    fresh : ℕ → Content × ℕ
    fresh = run_fresh t c x parts cat.next

    next : ℕ
    next = cat.next + 1 + length parts

    up : cat.next < next
    up = omega arith

    new : (j block size : ℕ) → IsPart parts (cat.next + 1) j block size → IsNew cat next fresh (State t j) block size
    new j block size h =
        (omega (arith, h.block_is), (omega (arith, h.block_is, h.within), (λ i. (State t (sym h.part_is i), sym h.size_is i)) ∙ sym (fresh_part t c x parts cat.next h.k block h.block_is)))

    here : (j block size : ℕ) → get_or p.parts j None ≡ Some (record { block = block; size = size }) → OldOrNew cat next fresh (State t j) block size
    here j block size h =
        elim (parts_either 0 (cat.next + 1) parts (progress_at cat t).parts ok j (record { block = block; size = size }) (ap (λ (fs : List (Option StateFile)). get_or fs j None) (sym files) ∙ h)) [
          | inl old ↦ inl old
          | inr part ↦ inr (new j block size part)
        ]

    names : (y : Content) (block size : ℕ) → Names (record cat { channels = set cat.channels c (record { version = version; intervals = placed x (shelf_at cat c).intervals }); tasks = set cat.tasks t p; next = cat.next + 1 + length parts }) y block size → OldOrNew cat next fresh y block size
    names (Channel d from to) block size h = shelf_names cat c x version next fresh lt number up (fresh_block t c x parts cat.next) d from to block size h
    names (State u j) block size h =
        put_at cat.tasks t p no_run t_in (λ u q. (j block size : ℕ) → get_or q.parts j None ≡ Some (record { block = block; size = size }) → OldOrNew cat next fresh (State u j) block size) here (λ u j block size h. inl h) u j block size h

-- ---- a collection

kept_names : (cat : Entered) (kept : List ℕ) (x : Content) (block size : ℕ) → Names (record cat { channels = map (kept_shelf kept) cat.channels }) x block size → Names cat x block size
kept_names cat kept (Channel c from to) block size h =
    filter_one (is_kept kept) (shelf_at cat c).intervals (interval_of from to block size) (subst (λ (s : Shelved). IsOneOf s.intervals (interval_of from to block size)) (get_or-map (kept_shelf kept) cat.channels c nothing_shelved) h)
kept_names cat kept (State t part) block size h = h

-- ---- each commit

same_names : (cat : Entered) (x : Content) (block size : ℕ) (moment : ℕ) → Names (record cat { moment = moment }) x block size → Names cat x block size
same_names cat (Channel c from to) block size moment h = h
same_names cat (State t part) block size moment h = h

begun_names : (cat : Entered) (x : Content) (block size : ℕ) → Names (record cat { begun = true }) x block size → Names cat x block size
begun_names cat (Channel c from to) block size h = h
begun_names cat (State t part) block size h = h

none_fresh : ℕ → Content × ℕ
none_fresh b = (State 0 0, 0)

numbered : (w : Wiring) (cat : Entered) (c : Commit) → IsSound w cat → IsNumbered cat → allows cat c ≡ true → IsNumbered (applied cat c)
numbered w cat (Flow text) sound is ok = numbered_step cat _ none_fresh (omega arith) (λ x b s h. inl (begun_names cat x b s h)) is
numbered w cat (Load c block size) sound is ok =
    let keeps = load_keeps cat c block size ok in
    one_new cat c (interval_of (if is_based cat.wiring c then 0 else (shelf_at cat c).version) ((shelf_at cat c).version + 1) block size) ((shelf_at cat c).version + 1) keeps.channel keeps.number is
numbered w cat (Tick moment) sound is ok = numbered_step cat _ none_fresh (omega arith) (λ x b s h. inl (same_names cat x b s moment h)) is
numbered w cat (Run t versions moment seen block size parts) sound is ok =
    let keeps = run_keeps cat t versions moment seen block size parts ok in
    let c = (wire_at cat.wiring t).output in
    let t_in : t < length cat.wiring.tasks = omega (arith, keeps.task, sound.entered.tasks) in
    let lt : c < length cat.channels = omega (arith, (sound.entered.wiring.tasks t t_in).output, sound.entered.channels) in
    run_numbered cat t c (interval_of (if is_based cat.wiring c then 0 else (shelf_at cat c).version) ((shelf_at cat c).version + 1) block size) ((shelf_at cat c).version + 1) (next_progress (progress_at cat t) versions moment seen parts) parts lt keeps.task
    (same_number block cat.next (and_both (block == cat.next) _ keeps.add).0) refl keeps.numbers is
numbered w cat (Joined c from to block size) sound is ok =
    let keeps = join_keeps cat c from to block size ok in
    one_new cat c (interval_of from to block size) (shelf_at cat c).version keeps.channel keeps.number is
numbered w cat (Collected kept) sound is ok = numbered_step cat _ none_fresh (omega arith) (λ x b s h. inl (kept_names cat kept x b s h)) is

-- no commit, no name
pub none_named : (w : Wiring) (x : Content) (b s : ℕ) → Names (blank w) x b s → ⊥
none_named w = never
  where
    no_file : (i : ℕ) (v : StateFile) → get_or no_run.parts i None ≡ Some v → ⊥
    no_file i v e = nothing (none_at 16 i) e
      where
        none_at : (n i : ℕ) → get_or {A = Option StateFile} (replicate n None) i None ≡ None
        none_at zero i = refl
        none_at (suc n) zero = refl
        none_at (suc n) (suc i) = none_at n i

        nothing : get_or no_run.parts i None ≡ None → get_or no_run.parts i None ≡ Some v → ⊥
        nothing f g = let no : None ≡ Some v = sym f ∙ g in cc

    never : (x : Content) (b s : ℕ) → Names (blank w) x b s → ⊥
    never (Channel c from to) b s h = subst (λ (t : Shelved). IsOneOf t.intervals (interval_of from to b s)) (get_or-map (λ (x : Option ℕ). nothing_shelved) w.writers c None) h
    never (State t part) b s h = no_file part (record { block = b; size = s }) (subst (λ (p : Progress). get_or p.parts part None ≡ Some (record { block = b; size = s })) (get_or-map (λ x. no_run) w.tasks t no_wire) h)

blank_numbered : (w : Wiring) → IsNumbered (blank w)
blank_numbered w = record { below = λ x b s h. absurd (none_named w x b s h); once = λ x y b s t h g. absurd (none_named w x b s h) }

pub blocks_are_numbered : BlocksAreNumbered
blocks_are_numbered w commits cat is e =
    (by_commits (λ c. IsSound w c × IsNumbered c) (λ before c both ok. (sound_step w before c both.0 ok, numbered w before c both.0 both.1 ok)) (blank w) cat commits (blank_sound w is, blank_numbered w) e).1
