-- Each commit that is allowed leaves a sound catalog sound.
use Rattle.std.proofs.Common.{◌≡◌, inl, inr, ℕ, zero, suc, ◌+◌, ◌<◌, ◌≤◌, ◌^◌, ◌==◌, Bool, true, false, not, ◌&&◌, ◌||◌, List, [], ◌∷◌, ◌++◌, length, get_or, set, map, Option, Some, None, refl, ap, sym, ◌∙◌, subst, arith, if◌then◌else◌}
use Rattle.std.specs.Option.{is_some}
use Rattle.std.specs.List.{list_all, sum_by}
use Rattle.std.proofs.Math.ListN.{get_or-map}
use Rattle.std.proofs.lemmas.List.{get_or-set_same, get_or-set_other, get_or_past, length-set, length-map}
use Rattle.std.proofs.lemmas.Bool.{cases_lt}
use Rattle.nova_path.specs.Lists.{IsOneOf}
use Rattle.nova_path.specs.Shelf.{Span, HasPath, chosen_path}
use Rattle.nova_path.specs.Intervals.{span, spans, size_of, weight_in}
use Rattle.nova_path.specs.declared.interval.Interval.{Interval}
use Rattle.nova_path.proofs.Paths.{other_number, path_append, path_grows, same_number}
use Rattle.nova_path.proofs.Room.{rises_from}
use Rattle.nova_path.proofs.Weights.{chosen_is_first}
use Rattle.nova_meta.specs.declared.captured.Captured.{Captured}
use Rattle.nova_commit.specs.declared.commit.Commit.{Commit}
use Rattle.nova_commit.specs.declared.commit.Commit.TheVariants.{Flow, Load, Tick, Run, Joined, Collected}
use Rattle.nova_meta.specs.declared.progress.Progress.{Progress}
use Rattle.nova_meta.specs.declared.wiring.Edge.{Edge}
use Rattle.nova_meta.specs.declared.wiring.Wiring.{Wiring}
use Rattle.nova_meta.specs.Wired.{IsWiring, is_based, no_edge, no_wire, wire_at}
use Rattle.nova_meta.specs.Catalog.{Entered, Shelved, allows, applied, blank, captured, indices, interval_of, is_before, joined_shelf, keeps_all, keeps_cursors, keeps_hops, kept_shelf, leads, may_collect, may_see, may_see_all, next_progress, next_shelf, no_run, nothing_shelved, placed, progress_at, shelf_at, with_commits, has_block}
use Rattle.nova_commit.specs.Commits.{rise}
use Rattle.nova_meta.specs.Shelves.{IsShelved}
use Rattle.nova_meta.specs.Sound.{CatalogsAreSound, IsSound, LeadsOn, cursor_at, edge_at}
use Rattle.nova_meta.proofs.Allowed.{and_both, is_at_most, is_less, join_keeps, load_keeps, run_keeps}
use Rattle.nova_meta.proofs.Collected.{one_index_fails}
use Rattle.nova_meta.proofs.Filters.{kept_kept}
use Rattle.nova_meta.proofs.Shelved.{joined_kept, next_kept}

on_if : {X : Type 0} (P : X → Type 0) (b : Bool) (x y : X) → P x → P y → P (if b then x else y)
on_if P true x y f g = f
on_if P false x y f g = g

-- ---- induction over commits in order

none_stays : (cs : List Commit) → with_commits None cs ≡ None
none_stays [] = refl
none_stays (c ∷ cs) = none_stays cs

-- what a catalog has, and each commit that is allowed keeps, the last catalog has
pub by_commits : (P : Entered → Type 0) → ((cat : Entered) (c : Commit) → P cat → allows cat c ≡ true → P (applied cat c)) → (cat last : Entered) (cs : List Commit) → P cat → with_commits (Some cat) cs ≡ Some last → P last
by_commits P keeps cat last [] p e = subst P (same cat last e) p
  where
    same : (a b : Entered) → Some a ≡ Some b → a ≡ b
    same a b e = cc
by_commits P keeps cat last (c ∷ cs) p e = by_case (by_commits P keeps (applied cat c) last cs) (allows cat c) refl e
  where
    by_case : (P (applied cat c) → with_commits (Some (applied cat c)) cs ≡ Some last → P last) → (b : Bool) → allows cat c ≡ b → with_commits (if b then Some (applied cat c) else None) cs ≡ Some last → P last
    by_case rest true ok e = rest (keeps cat c p ok) e
    by_case rest false not_ok e = absurd (never (sym (none_stays cs) ∙ e))
      where
        never : None ≡ Some last → ⊥
        never h = cc

-- ---- paths

-- a path that the search found
pub leads_path : (s : Shelved) → IsShelved s → (i j : ℕ) → leads s.intervals i j ≡ true → HasPath (spans s.intervals) i j
leads_path s is i j e = by_case (chosen_path (weight_in s.intervals) (spans s.intervals) i j) refl
  where
    by_case : (o : Option (List Span)) → chosen_path (weight_in s.intervals) (spans s.intervals) i j ≡ o → HasPath (spans s.intervals) i j
    by_case None none = absurd (never (sym (ap is_some none) ∙ e))
      where
        never : false ≡ true → ⊥
        never h = cc
    by_case (Some p) found = (p, (chosen_is_first (weight_in s.intervals) (spans s.intervals) (rises_from s.intervals is.rise) i j p found).is_path)

old_placed : (x : Interval) (ys : List Interval) (s : Span) → IsOneOf (spans ys) s → IsOneOf (spans (placed x ys)) s
old_placed x [] s h = absurd h
old_placed x (y ∷ ys) s (inl e) = on_if (λ zs. IsOneOf (spans zs) s) (is_before x y) (x ∷ (y ∷ ys)) (y ∷ placed x ys) (inr (inl e)) (inl e)
old_placed x (y ∷ ys) s (inr m) = on_if (λ zs. IsOneOf (spans zs) s) (is_before x y) (x ∷ (y ∷ ys)) (y ∷ placed x ys) (inr (inr m)) (inr (old_placed x ys s m))

new_placed : (x : Interval) (ys : List Interval) → IsOneOf (spans (placed x ys)) (span x)
new_placed x [] = inl refl
new_placed x (y ∷ ys) = on_if (λ zs. IsOneOf (spans zs) (span x)) (is_before x y) (x ∷ (y ∷ ys)) (y ∷ placed x ys) (inl refl) (inr (new_placed x ys))

path_placed : (x : Interval) (ys : List Interval) (i j : ℕ) → HasPath (spans ys) i j → HasPath (spans (placed x ys)) i j
path_placed x ys i j has = (has.0, path_grows (spans ys) (spans (placed x ys)) (old_placed x ys) i j has.0 has.1)

-- ---- one channel behind a commit

pub record Follows (w : Wiring) (c : ℕ) (s t : Shelved) : Type 0 where
  pub shelved : IsShelved t
  pub version : t.version ≤ 2 ^ 62
  pub whole : LeadsOn t 0
  pub news : is_based w c ≡ false → (i : ℕ) → LeadsOn s i → LeadsOn t i

-- a version more, by a block from the version before: each path goes on
goes_on : (s : Shelved) (block size i : ℕ) → LeadsOn s i → LeadsOn (next_shelf false s block size) i
goes_on s block size i has =
    let x = interval_of s.version (s.version + 1) block size in
    let shelf = spans (placed x s.intervals) in
    let old = path_placed x s.intervals i s.version has in
    (old.0 ++ span x ∷ [], path_append shelf i s.version (s.version + 1) old.0 (span x ∷ []) old.1 (new_placed x s.intervals, refl, refl))

begins_anew : (s : Shelved) (block size : ℕ) → LeadsOn (next_shelf true s block size) 0
begins_anew s block size = let x = interval_of 0 (s.version + 1) block size in (span x ∷ [], (new_placed x s.intervals, refl, refl))

next_whole : (based : Bool) (s : Shelved) (block size : ℕ) → LeadsOn s 0 → LeadsOn (next_shelf based s block size) 0
next_whole true s block size has = begins_anew s block size
next_whole false s block size has = goes_on s block size 0 has

pub next_follows : (w : Wiring) (c : ℕ) (s : Shelved) (block size : ℕ) → IsShelved s → LeadsOn s 0 → sum_by size_of s.intervals + size ≤ 2 ^ 62 → s.version < 2 ^ 62 → Follows w c s (next_shelf (is_based w c) s block size)
next_follows w c s block size is has room grow = record {
  shelved = next_kept (is_based w c) s block size is room;
  version = omega (arith, grow);
  whole = next_whole (is_based w c) s block size has;
  news = λ flat i h. subst (λ b. LeadsOn (next_shelf b s block size) i) (sym flat) (goes_on s block size i h);
}

-- ---- a channel of a catalog

pub put_at : {X : Type 0} (xs : List X) (i : ℕ) (y d : X) → i < length xs → (P : ℕ → X → Type 0) → P i y → ((j : ℕ) → P j (get_or xs j d)) → (j : ℕ) → P j (get_or (set xs i y) j d)
put_at xs i y d lt P here others j = by_case (j == i) refl
  where
    by_case : (b : Bool) → (j == i) ≡ b → P j (get_or (set xs i y) j d)
    by_case true e = subst (λ n. P n (get_or (set xs i y) n d)) (sym (same_number j i e)) (subst (P i) (sym (get_or-set_same xs i y d lt)) here)
    by_case false e = subst (P j) (sym (get_or-set_other xs i j y d (other_number j i e))) (others j)

-- an input that is read as new is one of the task's
pub record IsInput (w : Wiring) (t k : ℕ) : Type 0 where
  pub task : t < length w.tasks
  pub input : k < length (wire_at w t).inputs

pub new_is_input : (w : Wiring) (t k : ℕ) → (get_or (wire_at w t).inputs k no_edge).new ≡ true → IsInput w t k
new_is_input w t k new = record { task = task; input = input }
  where
    not_new : (e : Edge) → e ≡ no_edge → e.new ≡ true → ⊥
    not_new e same new = let no : false ≡ true = sym (ap (λ (x : Edge). x.new) same) ∙ new in cc

    input : k < length (wire_at w t).inputs
    input = elim (cases_lt k (length (wire_at w t).inputs)) as (λ _. k < length (wire_at w t).inputs) [
      | inl lt ↦ lt
      | inr past ↦ absurd (not_new (get_or (wire_at w t).inputs k no_edge) (get_or_past (wire_at w t).inputs k no_edge past) new)
    ]

    task : t < length w.tasks
    task = elim (cases_lt t (length w.tasks)) as (λ _. t < length w.tasks) [
      | inl lt ↦ lt
      | inr past ↦
          let none : wire_at w t ≡ no_wire = get_or_past w.tasks t no_wire past in
          absurd (omega (arith, input, ap (λ v. length v.inputs) none))
    ]

new_not_based : (w : Wiring) → IsWiring w → (t k : ℕ) → (get_or (wire_at w t).inputs k no_edge).new ≡ true → is_based w (get_or (wire_at w t).inputs k no_edge).channel ≡ false
new_not_based w is t k new = let at = new_is_input w t k new in (is.tasks t at.task).whole k no_edge at.input new

-- the same path in a catalog with one channel changed
shelf_leads : (cat : Entered) (c : ℕ) (s : Shelved) → c < length cat.channels → Follows cat.wiring c (shelf_at cat c) s → (d : ℕ) → is_based cat.wiring d ≡ false → (i : ℕ) → LeadsOn (shelf_at cat d) i → LeadsOn (get_or (set cat.channels c s) d nothing_shelved) i
shelf_leads cat c s lt f = put_at cat.channels c s nothing_shelved lt (λ d t. is_based cat.wiring d ≡ false → (i : ℕ) → LeadsOn (shelf_at cat d) i → LeadsOn t i) f.news (λ d no i h. h)

shelf_step : (w : Wiring) (cat : Entered) (c next : ℕ) (s : Shelved) → IsSound w cat → c < length cat.channels → Follows cat.wiring c (shelf_at cat c) s → next ≤ 2 ^ 62 → IsSound w (record cat { channels = set cat.channels c s; next = next })
shelf_step w cat c next s is lt f low = record {
  same = is.same;
  entered = record { wiring = is.entered.wiring; channels = length-set cat.channels c s ∙ is.entered.channels; tasks = is.entered.tasks };
  shelved = put_at cat.channels c s nothing_shelved lt (λ d t. IsShelved t) f.shelved is.shelved;
  hops = record {
    whole = put_at cat.channels c s nothing_shelved lt (λ d t. LeadsOn t 0) f.whole is.hops.whole;
    news = λ t k new. shelf_leads cat c s lt f (edge_at cat t k).channel (new_not_based cat.wiring is.entered.wiring t k new) (cursor_at cat t k) (is.hops.news t k new);
  };
  bounded = record {
    next = low;
    versions = put_at cat.channels c s nothing_shelved lt (λ d t. t.version ≤ 2 ^ 62) f.version is.bounded.versions;
    runs = is.bounded.runs;
  };
}

-- ---- a task of a catalog

task_step : (w : Wiring) (cat : Entered) (t : ℕ) (p : Progress) → IsSound w cat → t < length cat.tasks → p.runs ≤ 2 ^ 62 → ((k : ℕ) → (edge_at cat t k).new ≡ true → LeadsOn (shelf_at cat (edge_at cat t k).channel) (captured p.last k)) → IsSound w (record cat { tasks = set cat.tasks t p })
task_step w cat t p is lt low news = record {
  same = is.same;
  entered = record { wiring = is.entered.wiring; channels = is.entered.channels; tasks = length-set cat.tasks t p ∙ is.entered.tasks };
  shelved = is.shelved;
  hops = record {
    whole = is.hops.whole;
    news = put_at cat.tasks t p no_run lt (λ u q. (k : ℕ) → (edge_at cat u k).new ≡ true → LeadsOn (shelf_at cat (edge_at cat u k).channel) (captured q.last k)) news is.hops.news;
  };
  bounded = record {
    next = is.bounded.next;
    versions = is.bounded.versions;
    runs = put_at cat.tasks t p no_run lt (λ u q. q.runs ≤ 2 ^ 62) low is.bounded.runs;
  };
}

-- what a run saw of an input that is read as new leads on
seen_at : (cat : Entered) (last : Option Captured) (n : ℕ) (es : List Edge) (vs : List ℕ) → may_see_all cat last n es vs ≡ true → (k : ℕ) → (get_or es k no_edge).new ≡ true →
    leads (shelf_at cat (get_or es k no_edge).channel).intervals (get_or vs k 0) (shelf_at cat (get_or es k no_edge).channel).version ≡ true
seen_at cat last n [] vs ok k new = absurd (never new)
  where
    never : false ≡ true → ⊥
    never h = cc
seen_at cat last n (e ∷ es) [] ok k new = absurd (never ok)
  where
    never : false ≡ true → ⊥
    never h = cc
seen_at cat last n (e ∷ es) (v ∷ vs) ok zero new =
    let here = and_both (may_see cat last n e v) (may_see_all cat last (suc n) es vs) ok in
    when_new e.new (leads (shelf_at cat e.channel).intervals v (shelf_at cat e.channel).version) _ _ new here.0
  where
    when_new : (new l a b : Bool) → new ≡ true → (a && (not new || (b && l))) ≡ true → l ≡ true
    when_new true l true true e h = h
    when_new true l true false e h = cc
    when_new true l false b e h = cc
    when_new false l a b e h = cc
seen_at cat last n (e ∷ es) (v ∷ vs) ok (suc k) new = seen_at cat last (suc n) es vs (and_both (may_see cat last n e v) (may_see_all cat last (suc n) es vs) ok).1 k new

-- ---- a collection

all_indices : (p : ℕ → Bool) (n : ℕ) → list_all p (indices n) ≡ true → (k : ℕ) → k < n → p k ≡ true
all_indices p n all k lt = by_case (p k) refl
  where
    by_case : (b : Bool) → p k ≡ b → p k ≡ true
    by_case true e = e
    by_case false e = absurd (never (sym (one_index_fails p n k lt e) ∙ all))
      where
        never : false ≡ true → ⊥
        never h = cc

kept_at : (last : Option Captured) (n : ℕ) (es : List Edge) (c : ℕ) (left : Shelved) → keeps_cursors last n es c left ≡ true → (k : ℕ) → (get_or es k no_edge).new ≡ true → (get_or es k no_edge).channel ≡ c → leads left.intervals (captured last (k + n)) left.version ≡ true
kept_at last n [] c left ok k new here = absurd (never new)
  where
    never : false ≡ true → ⊥
    never h = cc
kept_at last n (e ∷ es) c left ok zero new here =
    subst (λ m. leads left.intervals (captured last m) left.version ≡ true) (omega arith)
    (when_here e.new (e.channel == c) (leads left.intervals (captured last n) left.version) (keeps_cursors last (suc n) es c left) new (is_same e.channel c here) ok)
  where
    is_same : (a b : ℕ) → a ≡ b → (a == b) ≡ true
    is_same a b h = grind arith

    when_here : (new at l rest : Bool) → new ≡ true → at ≡ true → ((not (new && at) || l) && rest) ≡ true → l ≡ true
    when_here true true true rest e f h = refl
    when_here true true false rest e f h = cc
    when_here true false l rest e f h = cc
    when_here false at l rest e f h = cc
kept_at last n (e ∷ es) c left ok (suc k) new here =
    subst (λ m. leads left.intervals (captured last m) left.version ≡ true) (omega arith) (kept_at last (suc n) es c left (and_both (not (e.new && (e.channel == c)) || leads left.intervals (captured last n) left.version) (keeps_cursors last (suc n) es c left) ok).1 k new here)

collect_step : (w : Wiring) (cat : Entered) (kept : List ℕ) → IsSound w cat → keeps_all cat kept ≡ true → IsSound w (record cat { channels = map (kept_shelf kept) cat.channels })
collect_step w cat kept is all = record {
  same = is.same;
  entered = record { wiring = is.entered.wiring; channels = length-map cat.channels (kept_shelf kept) ∙ is.entered.channels; tasks = is.entered.tasks };
  shelved = λ c. subst IsShelved (sym (at c)) (left_shelved c);
  hops = record {
    whole = λ c. subst (λ s. LeadsOn s 0) (sym (at c)) (whole c);
    news = λ t k new. subst (λ s. LeadsOn s (cursor_at cat t k)) (sym (at (edge_at cat t k).channel)) (news t k new);
  };
  bounded = record { next = is.bounded.next; versions = λ c. subst (λ s. s.version ≤ 2 ^ 62) (sym (at c)) (is.bounded.versions c); runs = is.bounded.runs };
}
  where
    left : ℕ → Shelved
    left c = kept_shelf kept (shelf_at cat c)

    at : (c : ℕ) → get_or (map (kept_shelf kept) cat.channels) c nothing_shelved ≡ left c
    at c = get_or-map (kept_shelf kept) cat.channels c nothing_shelved

    left_shelved : (c : ℕ) → IsShelved (left c)
    left_shelved c = kept_kept kept (shelf_at cat c) (is.shelved c)

    hops : (c : ℕ) → c < length cat.channels → keeps_hops cat c (left c) ≡ true
    hops = all_indices (λ c. keeps_hops cat c (kept_shelf kept (shelf_at cat c))) (length cat.channels) all

    cursors : Entered → ℕ → ℕ → Bool
    cursors e c t = keeps_cursors (progress_at e t).last 0 (wire_at e.wiring t).inputs c (left c)

    both : (c : ℕ) → c < length cat.channels → (leads (left c).intervals 0 (left c).version ≡ true) × (list_all (cursors cat c) (indices (length cat.tasks)) ≡ true)
    both c lt = and_both (leads (left c).intervals 0 (left c).version) (list_all (cursors cat c) (indices (length cat.tasks))) (hops c lt)

    whole : (c : ℕ) → LeadsOn (left c) 0
    whole c = elim (cases_lt c (length cat.channels)) as (λ _. LeadsOn (left c) 0) [
      | inl lt ↦ leads_path (left c) (left_shelved c) 0 (left c).version (both c lt).0
      | inr past ↦ ([], sym (ap (λ (s : Shelved). s.version) (get_or_past cat.channels c nothing_shelved past)))
    ]

    news : (t k : ℕ) → (edge_at cat t k).new ≡ true → LeadsOn (left (edge_at cat t k).channel) (cursor_at cat t k)
    news t k new =
        let c = (edge_at cat t k).channel in
        let input = new_is_input cat.wiring t k new in
        let wired = is.entered.wiring.tasks t input.task in
        let lt : c < length cat.channels = omega (arith, wired.inputs k no_edge input.input, is.entered.channels) in
        let t_in : t < length cat.tasks = omega (arith, input.task, is.entered.tasks) in
        let kept_cursors = all_indices (cursors cat c) (length cat.tasks) (both c lt).1 t t_in in
        let here = kept_at (progress_at cat t).last 0 (wire_at cat.wiring t).inputs c (left c) kept_cursors k new refl in
        leads_path (left c) (left_shelved c) (cursor_at cat t k) (left c).version (subst (λ n. leads (left c).intervals (captured (progress_at cat t).last n) (left c).version ≡ true) (omega arith) here)

-- ---- each commit

pub sound_step : (w : Wiring) (cat : Entered) (c : Commit) → IsSound w cat → allows cat c ≡ true → IsSound w (applied cat c)
sound_step w cat (Flow text) is ok = record {
  same = is.same;
  entered = record { wiring = is.entered.wiring; channels = is.entered.channels; tasks = is.entered.tasks };
  shelved = is.shelved;
  hops = record { whole = is.hops.whole; news = is.hops.news };
  bounded = record { next = is.bounded.next; versions = is.bounded.versions; runs = is.bounded.runs };
}
sound_step w cat (Load c block size) is ok =
    let keeps = load_keeps cat c block size ok in
    shelf_step w cat c (cat.next + 1) (next_shelf (is_based cat.wiring c) (shelf_at cat c) block size) is keeps.channel (next_follows cat.wiring c (shelf_at cat c) block size (is.shelved c) (is.hops.whole c) keeps.room keeps.grow) (omega (arith, keeps.next))
sound_step w cat (Tick moment) is ok = record {
  same = is.same;
  entered = record { wiring = is.entered.wiring; channels = is.entered.channels; tasks = is.entered.tasks };
  shelved = is.shelved;
  hops = record { whole = is.hops.whole; news = is.hops.news };
  bounded = record { next = is.bounded.next; versions = is.bounded.versions; runs = is.bounded.runs };
}
sound_step w cat (Run t versions moment seen block size parts) is ok =
    let keeps = run_keeps cat t versions moment seen block size parts ok in
    let c = (wire_at cat.wiring t).output in
    let s = next_shelf (is_based cat.wiring c) (shelf_at cat c) block size in
    let t_in : t < length cat.wiring.tasks = omega (arith, keeps.task, is.entered.tasks) in
    let lt : c < length cat.channels = omega (arith, (is.entered.wiring.tasks t t_in).output, is.entered.channels) in
    let room = (and_both (block == cat.next) _ keeps.add).1 in
    let f = next_follows cat.wiring c (shelf_at cat c) block size (is.shelved c) (is.hops.whole c) (is_at_most _ _ room) (is_less (shelf_at cat c).version _ keeps.grow) in
    let next : cat.next + 1 + length parts ≤ 2 ^ 62 = omega (arith, keeps.next) in
    let behind : Entered = record cat { channels = set cat.channels c s; next = cat.next + 1 + length parts } in
    task_step w behind t (next_progress (progress_at cat t) versions moment seen parts) (shelf_step w cat c (cat.next + 1 + length parts) s is lt f next) keeps.task (omega (arith, keeps.runs))
    (λ k new.
    let d = (edge_at cat t k).channel in
    let path = leads_path (shelf_at cat d) (is.shelved d) (get_or versions k 0) (shelf_at cat d).version (seen_at cat (progress_at cat t).last 0 (wire_at cat.wiring t).inputs versions keeps.seen k new) in
    shelf_leads cat c s lt f d (new_not_based cat.wiring is.entered.wiring t k new) (get_or versions k 0) path)
sound_step w cat (Joined c from to block size) is ok =
    let keeps = join_keeps cat c from to block size ok in
    let s = shelf_at cat c in
    let x = interval_of from to block size in
    let grows : (i : ℕ) → LeadsOn s i → LeadsOn (joined_shelf s from to block size) i = λ i h. path_placed x s.intervals i s.version h in
    shelf_step w cat c (cat.next + 1) (joined_shelf s from to block size) is keeps.channel
    (record { shelved = joined_kept s from to block size (is.shelved c) keeps.rises keeps.low keeps.absent keeps.room; version = is.bounded.versions c; whole = grows 0 (is.hops.whole c); news = λ flat i h. grows i h })
    (omega (arith, keeps.next))
sound_step w cat (Collected kept) is ok =
    let a = and_both cat.begun (may_collect cat kept) ok in
    let b = and_both (rise kept) (list_all (has_block cat) kept && keeps_all cat kept) a.1 in
    let d = and_both (list_all (has_block cat) kept) (keeps_all cat kept) b.1 in
    collect_step w cat kept is d.1

-- ---- the catalog of no commits

nothing_is_shelved : IsShelved nothing_shelved
nothing_is_shelved = record { rise = tt; low = tt; order = tt; apart = tt; room = omega arith }

pub blank_sound : (w : Wiring) → IsWiring w → IsSound w (blank w)
blank_sound w is = record {
  same = refl;
  entered = record { wiring = is; channels = length-map w.writers _; tasks = length-map w.tasks _ };
  shelved = λ c. subst IsShelved (sym (shelf c)) nothing_is_shelved;
  hops = record {
    whole = λ c. subst (λ s. LeadsOn s 0) (sym (shelf c)) ([], refl);
    news = λ t k new. subst (λ s. LeadsOn s (cursor_at (blank w) t k)) (sym (shelf _)) ([], ap (λ (p : Progress). captured p.last k) (task t));
  };
  bounded = record {
    next = omega arith;
    versions = λ c. subst (λ s. s.version ≤ 2 ^ 62) (sym (shelf c)) (omega arith);
    runs = λ t. subst (λ p. p.runs ≤ 2 ^ 62) (sym (task t)) (omega arith);
  };
}
  where
    shelf : (c : ℕ) → shelf_at (blank w) c ≡ nothing_shelved
    shelf c = get_or-map (λ (x : Option ℕ). nothing_shelved) w.writers c None

    task : (t : ℕ) → progress_at (blank w) t ≡ no_run
    task t = get_or-map (λ x. no_run) w.tasks t no_wire

pub catalogs_are_sound : CatalogsAreSound
catalogs_are_sound w commits cat is e = by_commits (IsSound w) (λ before c sound ok. sound_step w before c sound ok) (blank w) cat commits (blank_sound w is) e
