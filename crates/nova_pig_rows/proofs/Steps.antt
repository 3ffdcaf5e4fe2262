-- One more node of a plan.
use Rattle.std.proofs.Common.{◌≡◌, ◌⊎◌, ℕ, zero, suc, ◌+◌, ◌<◌, ◌≤◌, ◌==◌, Bool, true, false, ◌||◌, if◌then◌else◌, List, [], ◌∷◌, ◌++◌, map, filter, flat_map, nat_eq, drop, length, get_or, slice_get, Option, Some, None, refl, ap, sym, ◌∙◌, inl, inr, arith, add-one, drop-cons, length-append}
use Rattle.std.specs.List.{list_any}
use Rattle.std.proofs.Math.ListN.{drop_of_length-le}
use Rattle.std.proofs.lemmas.Bool.Decides.{nat_tests}
use Rattle.nova_pig_algebra.specs.declared.node.PlanExpr.{PlanExpr}
use Rattle.nova_pig_algebra.specs.declared.node.Node.{Node}
use Rattle.nova_pig_algebra.specs.declared.node.Node.TheVariants as node
use Rattle.nova_pig_algebra.specs.Meaning.{Row, made, holds, no_calls}
use Rattle.nova_pig_algebra.specs.Keys.{is_one_of}
use Rattle.nova_pig_algebra.specs.Tree.{Tree, tree_at, arms_at, foreach_tree, tree_of, trees_after, trees, rows, arm_rows, rows_at, joined, distinct}
use Rattle.nova_pig_rows.specs.Grouping.{grouped}
use Rattle.nova_pig_rows.specs.Picked.{picked}
use Rattle.nova_pig_algebra.specs.Readers.{read, read_by, read_at, last_at, ClosedFrom}
use Rattle.nova_pig_algebra.proofs.Marks.{itself, behind}
use Rattle.nova_pig_rows.specs.Keeps.{Keeps, KeepsLater}
use Rattle.nova_pig_rows.specs.Step.{node_rows, foreach_rows}
use Rattle.nova_pig_rows.specs.Led.{Led}

pub picked_passing : (p : Row → Bool) (xs : List Row) → picked (map p xs) xs ≡ filter p xs
picked_passing p [] = refl
picked_passing p (x ∷ xs) = ap (λ l. if p x then x ∷ l else l) (picked_passing p xs)

module _ (tables : List (List Row)) (nodes : List Node) (done : List (List Row)) (ts : List Tree) where
  abbrev Has : ℕ → Type 0
  Has k = rows_at done k ≡ rows (tree_at ts k) tables

  arms : (ks : List ℕ) → ((k : ℕ) → is_one_of k ks ≡ true → Has k) → flat_map (rows_at done) ks ≡ arm_rows (arms_at ts ks) tables
  arms [] h = refl
  arms (k ∷ ks) h = ap (λ r. r ++ flat_map (rows_at done) ks) (h k (itself k ks)) ∙ ap (λ r. rows (tree_at ts k) tables ++ r) (arms ks (λ j e. h j (behind j k ks e)))

  each : (items : List PlanExpr) (from : ℕ) (o : Option Node) → Has (read_by from o) → foreach_rows items done from o ≡ rows (foreach_tree ts from items o) tables
  each items from None h = ap (map (λ row. made items row no_calls)) h
  each items from (Some (node.Group source columns)) h = ap (grouped columns items) h
  each items from (Some (node.Load i)) h = ap (map (λ row. made items row no_calls)) h
  each items from (Some (node.Filter f c)) h = ap (map (λ row. made items row no_calls)) h
  each items from (Some (node.Foreach f c)) h = ap (map (λ row. made items row no_calls)) h
  each items from (Some (node.Join a b c d)) h = ap (map (λ row. made items row no_calls)) h
  each items from (Some (node.Union a)) h = ap (map (λ row. made items row no_calls)) h
  each items from (Some (node.Distinct f)) h = ap (map (λ row. made items row no_calls)) h

  -- a node whose operands have their rows gives the rows of its tree
  pub node_tree : (n : Node) → ((k : ℕ) → is_one_of k (read nodes n) ≡ true → Has k) → node_rows tables nodes done n ≡ rows (tree_of nodes ts n) tables
  node_tree (node.Load input) h = refl
  node_tree (node.Filter from cond) h = ap (filter (λ row. holds cond row no_calls)) (h from (itself from []))
  node_tree (node.Foreach from items) h = each items from (slice_get nodes from) (h (read_by from (slice_get nodes from)) (itself (read_by from (slice_get nodes from)) []))
  node_tree (node.Group from columns) h = refl
  node_tree (node.Join left left_by right right_by) h =
      ap (λ l. joined left_by right_by l (rows_at done right)) (h left (itself left (right ∷ [])))
      ∙ ap (joined left_by right_by (rows (tree_at ts left) tables)) (h right (behind right left (right ∷ []) (itself right [])))
  node_tree (node.Union ks) h = arms ks h
  node_tree (node.Distinct from) h = ap distinct (h from (itself from []))

-- a node that this reader reads last may change
pub keeps_but : (reader node : ℕ) (last : List ℕ) (old new newer : List (List Row)) → last_at last node ≡ suc reader → KeepsLater reader last old new → Keeps node new newer → KeepsLater reader last old newer
keeps_but reader node last old new newer e later one = (one.0 ∙ later.0, λ j h. one.1 j (λ is. let z = ap (last_at last) is in omega (arith, z, e, h)) ∙ later.1 j h)

-- where these are other nodes than the one that may change, their rows stay
pub others_stay : (node : ℕ) (ks : List ℕ) (old new : List (List Row)) → list_any (λ k. nat_eq k node) ks ≡ false → Keeps node old new → flat_map (rows_at new) ks ≡ flat_map (rows_at old) ks
others_stay node [] old new e keeps = refl
others_stay node (k ∷ ks) old new e keeps = go (nat_eq k node) refl e (others_stay node ks old new)
  where
    go : (b : Bool) → nat_eq k node ≡ b → (b || list_any (λ j. nat_eq j node) ks) ≡ false
        → (list_any (λ j. nat_eq j node) ks ≡ false → Keeps node old new → flat_map (rows_at new) ks ≡ flat_map (rows_at old) ks) → flat_map (rows_at new) (k ∷ ks) ≡ flat_map (rows_at old) (k ∷ ks)
    go true is h more = absurd (grind (arith, h))
    go false is h more = ap (λ r. r ++ flat_map (rows_at new) ks) (keeps.1 k (λ same. grind (arith, nat_tests, same, is))) ∙ ap (λ r. rows_at old k ++ r) (more h keeps)

pub keeps_twice : (reader : ℕ) (last : List ℕ) (old new newer : List (List Row)) → KeepsLater reader last old new → KeepsLater reader last new newer → KeepsLater reader last old newer
keeps_twice reader last old new newer a b = (b.0 ∙ a.0, λ j h. b.1 j h ∙ a.1 j h)

-- beyond the last no node has rows, and none has a tree
no_rows : (done : List (List Row)) (k : ℕ) → length done ≤ k → rows_at done k ≡ []
no_rows [] k h = refl
no_rows (d ∷ done) zero h = absurd (omega arith)
no_rows (d ∷ done) (suc k) h = no_rows done k (omega arith)

no_tree : (tables : List (List Row)) (ts : List Tree) (k : ℕ) → length ts ≤ k → rows (tree_at ts k) tables ≡ []
no_tree tables [] k h = refl
no_tree tables (t ∷ ts) zero h = absurd (omega arith)
no_tree tables (t ∷ ts) (suc k) h = no_tree tables ts k (omega arith)

push_rows : (tables done : List (List Row)) (ts : List Tree) (out : List Row) (t : Tree) → length done ≡ length ts → (k : ℕ)
    → (k < length ts → rows_at done k ≡ rows (tree_at ts k) tables) → (k ≡ length ts → out ≡ rows t tables)
    → rows_at (done ++ out ∷ []) k ≡ rows (tree_at (ts ++ t ∷ []) k) tables
push_rows tables [] [] out t e zero f g = g refl
push_rows tables [] [] out t e (suc k) f g = refl
push_rows tables [] (u ∷ ts) out t e k f g = absurd (omega arith)
push_rows tables (d ∷ done) [] out t e k f g = absurd (omega arith)
push_rows tables (d ∷ done) (u ∷ ts) out t e zero f g = f (omega arith)
push_rows tables (d ∷ done) (u ∷ ts) out t e (suc k) f g = push_rows tables done ts out t (omega arith) k (λ lt. f (omega arith)) (λ is. g (ap suc is))

pub led_none : (tables : List (List Row)) (nodes : List Node) (last : List ℕ) → Led tables nodes last [] 0
led_none tables nodes last = record { ts = []; trees_are = refl; many = refl; long = refl; rows_are = λ k lt. refl }

module _ (tables : List (List Row)) (nodes : List Node) (last : List ℕ) (done : List (List Row)) (i : ℕ) (node : Node) (lt : i < length nodes) (is : node ≡ get_or nodes i node) (led : Led tables nodes last done i) where
  abbrev t : Tree
  t = tree_of nodes led.ts node

  further : trees_after nodes (led.ts ++ t ∷ []) (drop (i + 1) nodes) ≡ trees_after nodes [] nodes
  unfolding trees_after
  further =
      ap (λ n. trees_after nodes (led.ts ++ t ∷ []) (drop n nodes)) (add-one i)
      ∙ ap (λ n. trees_after nodes (led.ts ++ tree_of nodes led.ts n ∷ []) (drop (suc i) nodes)) is
      ∙ sym (ap (trees_after nodes led.ts) (drop-cons nodes i node lt))
      ∙ led.trees_are

  more : (kept : List (List Row)) (out : List Row) (new : List (List Row)) → new ≡ kept ++ out ∷ [] → length kept ≡ length done
      → ((k : ℕ) → suc i < last_at last k → k < i → rows_at kept k ≡ rows (tree_at led.ts k) tables)
      → ((k : ℕ) → suc i < last_at last k → k ≡ i → out ≡ rows t tables) → Led tables nodes last new (i + 1)
  more kept out new new-is long-is before here = record {
    ts = led.ts ++ t ∷ [];
    trees_are = further;
    many = let a = length-append led.ts (t ∷ []) in let m = led.many in omega (arith, a, m);
    long = let a = ap length new-is in let b = length-append kept (out ∷ []) in let l = led.long in omega (arith, a, b, l, long-is);
    rows_are = λ k h. ap (λ (r : List (List Row)). rows_at r k) new-is ∙ push_rows tables kept led.ts out t (let l = led.long in let m = led.many in omega (arith, l, m, long-is)) k
        (λ lt2. before k (omega (arith, h)) (let m = led.many in omega (arith, lt2, m))) (λ e. here k (omega (arith, h)) (let m = led.many in omega (arith, e, m)));
  }

  -- a node that nothing reads has no rows
  pub led_skip : (new : List (List Row)) → last_at last i ≡ 0 → new ≡ done ++ [] ∷ [] → Led tables nodes last new (i + 1)
  led_skip new none new-is = more done [] new new-is refl
      (λ k h lt2. led.rows_are k (omega (arith, h)))
      (λ k h e. let z = ap (last_at last) e in absurd (omega (arith, z, none, h)))

  get_here : slice_get nodes i ≡ Some node
  get_here = go nodes i lt is
    where
      go : (ns : List Node) (j : ℕ) → j < length ns → node ≡ get_or ns j node → slice_get ns j ≡ Some node
      go [] j h e = absurd (omega (arith, h))
      go (n ∷ ns) zero h e = ap Some (sym e)
      go (n ∷ ns) (suc j) h e = go ns j (omega (arith, h)) e

  -- the operands of a node that is read have their rows
  operands : ClosedFrom nodes 0 last → 0 < last_at last i → (k : ℕ) → is_one_of k (read nodes node) ≡ true → rows_at done k ≡ rows (tree_at led.ts k) tables
  operands closed pos k e = go (within k i)
    where
      within : (a b : ℕ) → (a < b) ⊎ (b ≤ a)
      within a zero = inr (omega arith)
      within zero (suc b) = inl (omega arith)
      within (suc a) (suc b) = step (within a b)
        where
          step : (a < b) ⊎ (b ≤ a) → (suc a < suc b) ⊎ (suc b ≤ suc a)
          step (inl h) = inl (omega (arith, h))
          step (inr h) = inr (omega (arith, h))

      here : is_one_of k (read_at nodes (slice_get nodes i)) ≡ true
      here = ap (λ (o : Option Node). is_one_of k (read_at nodes o)) get_here ∙ e

      go : (k < i) ⊎ (i ≤ k) → rows_at done k ≡ rows (tree_at led.ts k) tables
      go (inl h) = led.rows_are k (closed i k (omega arith) pos here h)
      go (inr h) = no_rows done k (let l = led.long in omega (arith, l, h)) ∙ sym (no_tree tables led.ts k (let m = led.many in omega (arith, m, h)))

  -- a node that is read
  pub led_more : ClosedFrom nodes 0 last → 0 < last_at last i → (kept : List (List Row)) (out : List Row) (new : List (List Row)) → KeepsLater i last done kept
      → out ≡ node_rows tables nodes done node → new ≡ kept ++ out ∷ [] → Led tables nodes last new (i + 1)
  led_more closed pos kept out new keeps out-is new-is = more kept out new new-is keeps.0
      (λ k h lt2. keeps.1 k h ∙ led.rows_are k (omega (arith, h)))
      (λ k h e. out-is ∙ node_tree tables nodes done led.ts node (operands closed pos))

-- behind the last node
pub led_all : (tables : List (List Row)) (nodes : List Node) (last : List ℕ) (done : List (List Row)) (i stored : ℕ) → i ≡ length nodes → Led tables nodes last done i
    → (stored < length nodes → length nodes < last_at last stored) → rows_at done stored ≡ rows (tree_at (trees nodes) stored) tables
unfolding trees_after
led_all tables nodes last done i stored i-is led answers =
    go (within stored (length nodes)) ∙ ap (λ (ts : List Tree). rows (tree_at ts stored) tables) (sym (ap (trees_after nodes led.ts) (drop_of_length-le nodes (omega (arith, i-is)))) ∙ led.trees_are)
  where
    within : (a b : ℕ) → (a < b) ⊎ (b ≤ a)
    within a zero = inr (omega arith)
    within zero (suc b) = inl (omega arith)
    within (suc a) (suc b) = step (within a b)
      where
        step : (a < b) ⊎ (b ≤ a) → (suc a < suc b) ⊎ (suc b ≤ suc a)
        step (inl h) = inl (omega (arith, h))
        step (inr h) = inr (omega (arith, h))

    go : (stored < length nodes) ⊎ (length nodes ≤ stored) → rows_at done stored ≡ rows (tree_at led.ts stored) tables
    go (inl h) = led.rows_are stored (let a = answers h in omega (arith, a, i-is))
    go (inr h) = no_rows done stored (let l = led.long in omega (arith, l, h, i-is)) ∙ sym (no_tree tables led.ts stored (let m = led.many in omega (arith, m, h, i-is)))
