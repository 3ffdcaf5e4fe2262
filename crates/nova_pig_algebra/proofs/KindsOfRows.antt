-- The rows of each node have its kinds.
use Rattle.std.specs.Prelude.{◌≡◌, ◌⊎◌, ℕ, zero, suc, Bool, true, false, cond, List, [], ◌∷◌, ◌++◌, map, filter, length, slice_get, Option, Some, None, refl}
use Rattle.std.proofs.Common.{ap, sym, ◌∙◌, inl, inr, subst, arith, length-append}
use Rattle.nova_value.specs.declared.value.Kind.{Kind}
use Rattle.nova_value.specs.Orders.{same_keys}
use Rattle.nova_value.specs.Rows.{Shape, FitKinds, kinds, key_at}
use Rattle.nova_pig_algebra.specs.declared.node.PlanExpr.{PlanExpr}
use Rattle.nova_pig_algebra.specs.declared.node.Node.{Node}
use Rattle.nova_pig_algebra.specs.declared.node.Node.TheVariants as node
use Rattle.nova_pig_algebra.specs.Meaning.{Row, same_row, holds, made, no_calls, calls_over}
use Rattle.nova_pig_algebra.specs.Tree.{Tree, Nothing, Load, Filter, Foreach, Join, Union, Distinct, End, tree_at, arms_at, foreach_tree, tree_of, trees_after, rows, arm_rows, rows_at, rising, members, joined}
use Rattle.nova_pig_algebra.specs.Sorts.{Over, Row as OverRows, Bag}
use Rattle.nova_pig_algebra.specs.Kinds.{item_kinds, kinds_at, as_rows, are_rows, all_rows, node_over, and_then, nodes_over}
use Rattle.nova_pig_algebra.specs.Literals.{all_have_values, node_has_values, nodes_have_values}
use Rattle.nova_pig_algebra.specs.Plan.{kinds_of_inputs}
use Rattle.nova_pig_algebra.specs.Statements.{In, AreTables}
use Rattle.nova_pig_algebra.proofs.Lists.{in_either, in_filtered, in_mapped, in_flattened}
use Rattle.nova_pig_algebra.proofs.Sets.{both_true}
use Rattle.nova_pig_algebra.proofs.Rising.{in_rising, in_distinct}
use Rattle.nova_pig_algebra.specs.Statements.{TablesFit, RowsFitTheirKinds, NodesFitTheirKinds}
use Rattle.nova_pig_algebra.proofs.KindsOfNodes.{rows_of_kinds, filter_from, distinct_from, foreach_from, group_from, join_from, union_from}
use Rattle.nova_pig_algebra.proofs.KindsOfValues.{AllOf, made_fits, over_row, over_group, by_fits}

-- ---- rows
in_kept : (test : Row → Bool) (x : Row) (xs : List Row) → In x xs → test x ≡ true → In x (filter test xs)
in_kept test x [] i h = absurd i
in_kept test x (y ∷ xs) (inl e) h = go (test y) (ap test (sym e) ∙ h)
  where
    go : (b : Bool) → b ≡ true → In x (cond b (y ∷ filter test xs) (filter test xs))
    go true t = inl e
    go false t = absurd cc
in_kept test x (y ∷ xs) (inr i) h = go (test y) (in_kept test x xs i h)
  where
    go : (b : Bool) → In x (filter test xs) → In x (cond b (y ∷ filter test xs) (filter test xs))
    go true r = inr r
    go false r = r

both_fit : (ks js : List Kind) (a b : Row) → FitKinds ks a → FitKinds js b → FitKinds (ks ++ js) (a ++ b)
both_fit [] js [] b f g = g
both_fit [] js (v ∷ vs) b f g = absurd f
both_fit (k ∷ ks) js [] b f g = absurd f
both_fit (k ∷ ks) js (v ∷ vs) b f g = (f.0, both_fit ks js vs b f.1 g)

joined_fits : (ks js : List Kind) (lb rb : List ℕ) (left right : List Row) → AllOf ks left → AllOf js right → AllOf (ks ++ js) (joined lb rb left right)
joined_fits ks js lb rb left right f g x i =
    let p = in_flattened (λ a. map (λ b. a ++ b) (filter (λ b. same_row (key_at lb a) (key_at rb b)) right)) x left i in
    let q = in_mapped (λ b. p.0 ++ b) x (filter (λ b. same_row (key_at lb p.0) (key_at rb b)) right) p.2 in
    let r = in_filtered (λ b. same_row (key_at lb p.0) (key_at rb b)) q.0 right q.1 in
    subst (FitKinds (ks ++ js)) (sym q.2) (both_fit ks js p.0 q.0 (f p.0 p.1) (g q.0 r.0))

each_fits : (ks js : List Kind) (items : List PlanExpr) → item_kinds (OverRows ks) items ≡ Some js → all_have_values items ≡ true → (xs : List Row) → AllOf ks xs → AllOf js (map (λ row. made items row no_calls) xs)
each_fits ks js items e h xs f x i =
    let p = in_mapped (λ row. made items row no_calls) x xs i in
    subst (FitKinds js) (sym p.2) (made_fits (OverRows ks) p.0 no_calls (over_row ks p.0 no_calls (f p.0 p.1)) items h js e)

groups_fit : (bs ks js : List Kind) (columns : List ℕ) (items : List PlanExpr) → kinds_at ks columns ≡ Some bs → item_kinds (Bag bs ks) items ≡ Some js → all_have_values items ≡ true → (xs : List Row) → AllOf ks xs
    → AllOf js (map (λ by. made items by (calls_over (members columns xs by))) (rising (map (key_at columns) xs)))
groups_fit bs ks js columns items at e h xs f x i =
    let p = in_mapped (λ by. made items by (calls_over (members columns xs by))) x (rising (map (key_at columns) xs)) i in
    let q = in_mapped (key_at columns) p.0 xs (in_rising (map (key_at columns) xs) p.0 p.1) in
    let ms = members columns xs p.0 in
    let fits : FitKinds bs p.0 = subst (FitKinds bs) (sym q.2) (by_fits ks q.0 (f q.0 q.1) columns bs at) in
    let one : In q.0 ms = in_kept (λ row. same_row p.0 (key_at columns row)) q.0 xs q.1 ((same_keys p.0 (key_at columns q.0)).1 q.2) in
    let all : AllOf ks ms = λ y j. f y (in_filtered (λ row. same_row p.0 (key_at columns row)) y xs j).0 in
    subst (FitKinds js) (sym p.2) (made_fits (Bag bs ks) p.0 (calls_over ms) (over_group bs ks p.0 fits ms q.0 one all) items h js e)

either_fits : (ks : List Kind) (xs ys : List Row) → AllOf ks xs → AllOf ks ys → AllOf ks (xs ++ ys)
either_fits ks xs ys f g x i = go (in_either x xs ys i)
  where
    go : In x xs ⊎ In x ys → FitKinds ks x
    go (inl j) = f x j
    go (inr j) = g x j

load_fits : (shapes : List Shape) (tables : List (List Row)) → TablesFit shapes tables → (i : ℕ) (ks : List Kind) → slice_get (kinds_of_inputs shapes) i ≡ Some ks → AllOf ks (rows_at tables i)
load_fits [] tables fit i ks e = absurd cc
load_fits (s ∷ shapes) [] fit i ks e = absurd fit
load_fits (s ∷ shapes) (t ∷ tables) fit zero ks e = let is : kinds s.columns ≡ ks = cc in λ x j. subst (λ z. FitKinds z x) is (fit.0 x j)
load_fits (s ∷ shapes) (t ∷ tables) fit (suc i) ks e = load_fits shapes tables fit.1 i ks e

-- ---- lists that grow
still_there : {X : Type 0} (xs : List X) (y : X) (k : ℕ) (x : X) → slice_get xs k ≡ Some x → slice_get (xs ++ y ∷ []) k ≡ Some x
still_there [] y k x e = absurd cc
still_there (z ∷ xs) y zero x e = e
still_there (z ∷ xs) y (suc k) x e = still_there xs y k x e

at_end : {X : Type 0} (xs : List X) (y : X) (ys : List X) (n : ℕ) → length xs ≡ n → slice_get (xs ++ y ∷ ys) n ≡ Some y
at_end [] y ys zero e = refl
at_end [] y ys (suc n) e = absurd cc
at_end (x ∷ xs) y ys zero e = absurd cc
at_end (x ∷ xs) y ys (suc n) e = at_end xs y ys n (omega arith)

push_each : (P : ℕ → Tree → Over → Type 0) (done : List Tree) (overs : List Over) (t : Tree) (o : Over) → length done ≡ length overs
    → ((k : ℕ) (p : Over) → slice_get overs k ≡ Some p → P k (tree_at done k) p) → P (length overs) t o
    → (k : ℕ) (p : Over) → slice_get (overs ++ o ∷ []) k ≡ Some p → P k (tree_at (done ++ t ∷ []) k) p
push_each P [] [] t o same h w zero p e = let is : o ≡ p = cc in subst (λ z. P 0 t z) is w
push_each P [] [] t o same h w (suc k) p e = absurd cc
push_each P [] (q ∷ overs) t o same h w k p e = absurd (omega arith)
push_each P (d ∷ done) [] t o same h w k p e = absurd (omega arith)
push_each P (d ∷ done) (q ∷ overs) t o same h w zero p e = h 0 p e
push_each P (d ∷ done) (q ∷ overs) t o same h w (suc k) p e = push_each (λ n. P (suc n)) done overs t o (omega arith) (λ j r f. h (suc j) r f) w k p e

-- ---- the nodes, from the left
abbrev IsUngrouped : Option Node → Type 0
IsUngrouped (Some (node.Group source columns)) = ⊥
IsUngrouped _ = Unit {0}

foreach_ungrouped : (done : List Tree) (from : ℕ) (items : List PlanExpr) (n : Option Node) → IsUngrouped n → foreach_tree done from items n ≡ Foreach (tree_at done from) items
foreach_ungrouped done from items None u = refl
foreach_ungrouped done from items (Some (node.Load i)) u = refl
foreach_ungrouped done from items (Some (node.Filter f c)) u = refl
foreach_ungrouped done from items (Some (node.Foreach f is)) u = refl
foreach_ungrouped done from items (Some (node.Group source columns)) u = absurd u
foreach_ungrouped done from items (Some (node.Join l lb r rb)) u = refl
foreach_ungrouped done from items (Some (node.Union arms)) u = refl
foreach_ungrouped done from items (Some (node.Distinct f)) u = refl

module _ (inputs : List Shape) (tables : List (List Row)) (fit : TablesFit inputs tables) (nodes : List Node) where
  -- a GROUP with the kinds of its source and of its BY list
  record IsGroup (overs : List Over) (k : ℕ) (bs ks : List Kind) : Type 0 where
    source : ℕ
    columns : List ℕ
    here : slice_get nodes k ≡ Some (node.Group source columns)
    each : kinds_at ks columns ≡ Some bs
    from : slice_get overs source ≡ Some (OverRows ks)

  -- what the kinds of a node say of its tree
  abbrev Says : List Over → ℕ → Tree → Over → Type 0
  Says overs k t (OverRows ks) = IsUngrouped (slice_get nodes k) × AllOf ks (rows t tables)
  Says overs k t (Bag bs ks) = IsGroup overs k bs ks

  record Sound (done : List Tree) (overs : List Over) : Type 0 where
    same : length done ≡ length overs
    says : (k : ℕ) (o : Over) → slice_get overs k ≡ Some o → Says overs k (tree_at done k) o

  says_still : (overs : List Over) (o : Over) (k : ℕ) (t : Tree) (p : Over) → Says overs k t p → Says (overs ++ o ∷ []) k t p
  says_still overs o k t (OverRows ks) h = h
  says_still overs o k t (Bag bs ks) h = record { source = h.source; columns = h.columns; here = h.here; each = h.each; from = still_there overs o h.source (OverRows ks) h.from }

  one_more : (done : List Tree) (overs : List Over) → Sound done overs → (t : Tree) (o : Over) → Says overs (length overs) t o → Sound (done ++ t ∷ []) (overs ++ o ∷ [])
  one_more done overs s t o h = record {
    same = let a = s.same in let b = length-append done (t ∷ []) in let c = length-append overs (o ∷ []) in omega arith;
    says = push_each (Says (overs ++ o ∷ [])) done overs t o s.same (λ k p e. says_still overs o k (tree_at done k) p (s.says k p e)) (says_still overs o (length overs) t o h);
  }

  module _ (done : List Tree) (overs : List Over) (s : Sound done overs) where
    fits_at : (k : ℕ) (ks : List Kind) → slice_get overs k ≡ Some (OverRows ks) → AllOf ks (rows (tree_at done k) tables)
    fits_at k ks e = (s.says k (OverRows ks) e).1

    arms_fit : (ks : List Kind) (arms : List ℕ) → all_rows overs ks arms ≡ true → AllOf ks (arm_rows (arms_at done arms) tables)
    arms_fit ks [] e = λ x i. absurd i
    arms_fit ks (a ∷ arms) e =
        let p = both_true (are_rows ks (slice_get overs a)) (all_rows overs ks arms) e in
        either_fits ks (rows (tree_at done a) tables) (arm_rows (arms_at done arms) tables) (fits_at a ks (rows_of_kinds ks (slice_get overs a) p.0)) (arms_fit ks arms p.1)

    foreach_fits : (from : ℕ) (items : List PlanExpr) → all_have_values items ≡ true → (js : List Kind) (p : Over) → slice_get overs from ≡ Some p → item_kinds p items ≡ Some js
        → AllOf js (rows (foreach_tree done from items (slice_get nodes from)) tables)
    foreach_fits from items h js (OverRows ks) e k =
        subst (λ t. AllOf js (rows t tables)) (sym (foreach_ungrouped done from items (slice_get nodes from) (s.says from (OverRows ks) e).0))
        (each_fits ks js items k h (rows (tree_at done from) tables) (fits_at from ks e))
    foreach_fits from items h js (Bag bs ks) e k =
        let g : IsGroup overs from bs ks = s.says from (Bag bs ks) e in
        subst (λ n. AllOf js (rows (foreach_tree done from items n) tables)) (sym g.here)
        (groups_fit bs ks js g.columns items g.each k h (rows (tree_at done g.source) tables) (fits_at g.source ks g.from))

    -- what is said of the next node
    abbrev Next : Tree → Over → Type 0
    Next t o = Says overs (length overs) t o

    ungrouped : (n : Node) → slice_get nodes (length overs) ≡ Some n → IsUngrouped (Some n) → IsUngrouped (slice_get nodes (length overs))
    ungrouped n here u = subst IsUngrouped (sym here) u

    next_rows : (n : Node) → slice_get nodes (length overs) ≡ Some n → IsUngrouped (Some n) → (t : Tree) (o : Over) (ks : List Kind) → o ≡ OverRows ks → AllOf ks (rows t tables) → Next t o
    next_rows n here u t o ks is f = subst (λ z. Next t z) (sym is) (ungrouped n here u, f)

    load_next : (i : ℕ) → slice_get nodes (length overs) ≡ Some (node.Load i) → (x : Option (List Kind)) (o : Over) → slice_get (kinds_of_inputs inputs) i ≡ x → as_rows x ≡ Some o → Next (Load i) o
    load_next i here None o a e = absurd cc
    load_next i here (Some ks) o a e = let is : OverRows ks ≡ o = cc in next_rows (node.Load i) here tt (Load i) o ks (sym is) (load_fits inputs tables fit i ks a)

    node_says : (n : Node) → slice_get nodes (length overs) ≡ Some n → node_has_values n ≡ true → (o : Over) → node_over (kinds_of_inputs inputs) overs n ≡ Some o → Next (tree_of nodes done n) o
    node_says (node.Load i) here h o e = load_next i here (slice_get (kinds_of_inputs inputs) i) o refl e
    node_says (node.Filter from c) here h o e =
        let p = filter_from c (slice_get overs from) o e in
        next_rows (node.Filter from c) here tt (Filter (tree_at done from) c) o p.0 p.2
        (λ x i. fits_at from p.0 p.1 x (in_filtered (λ row. holds c row no_calls) x (rows (tree_at done from) tables) i).0)
    node_says (node.Foreach from items) here h o e =
        let p = foreach_from items (slice_get overs from) o e in
        next_rows (node.Foreach from items) here tt (foreach_tree done from items (slice_get nodes from)) o p.made_of p.is (foreach_fits from items h p.made_of p.source p.from p.each)
    node_says (node.Group from columns) here h o e =
        let p = group_from columns (slice_get overs from) o e in
        subst (λ z. Next Nothing z) (sym p.is) (record { source = from; columns = columns; here = here; each = p.each; from = p.from })
    node_says (node.Join l lb r rb) here h o e =
        let p = join_from lb rb (slice_get overs l) (slice_get overs r) o e in
        next_rows (node.Join l lb r rb) here tt (Join (tree_at done l) lb (tree_at done r) rb) o (p.left ++ p.right) p.is
        (joined_fits p.left p.right lb rb (rows (tree_at done l) tables) (rows (tree_at done r) tables) (fits_at l p.left p.on_left) (fits_at r p.right p.on_right))
    node_says (node.Union []) here h o e =
        let is : OverRows [] ≡ o = cc in
        next_rows (node.Union []) here tt (Union End) o [] (sym is) (λ x i. absurd i)
    node_says (node.Union (a ∷ arms)) here h o e =
        let p = union_from overs (a ∷ arms) (slice_get overs a) o e in
        next_rows (node.Union (a ∷ arms)) here tt (Union (arms_at done (a ∷ arms))) o p.own p.is (arms_fit p.own (a ∷ arms) p.all)
    node_says (node.Distinct from) here h o e =
        let p = distinct_from (slice_get overs from) o e in
        next_rows (node.Distinct from) here tt (Distinct (tree_at done from)) o p.0 p.2
        (λ x i. fits_at from p.0 p.1 x (in_distinct x (rows (tree_at done from) tables) i))

  all_sound : (before : List Node) (rest : List Node) → nodes ≡ before ++ rest → (done : List Tree) (overs : List Over) → length before ≡ length overs → Sound done overs → nodes_have_values rest ≡ true
      → (all : List Over) → nodes_over (kinds_of_inputs inputs) overs rest ≡ Some all → Sound (trees_after nodes done rest) all
  unfolding trees_after
  all_sound before [] whole done overs many s h all e = let is : overs ≡ all = cc in subst (λ z. Sound done z) is s
  all_sound before (n ∷ rest) whole done overs many s h all e =
      let p = both_true (node_has_values n) (nodes_have_values rest) h in
      let here : slice_get nodes (length overs) ≡ Some n = ap (λ ns. slice_get ns (length overs)) whole ∙ at_end before n rest (length overs) many in
      step (node_over (kinds_of_inputs inputs) overs n) refl e
      (λ o a f. all_sound (before ++ n ∷ []) rest (whole ∙ sym (moved_over before n rest)) (done ++ tree_of nodes done n ∷ []) (overs ++ o ∷ [])
      (let b = length-append before (n ∷ []) in let c = length-append overs (o ∷ []) in omega arith)
      (one_more done overs s (tree_of nodes done n) o (node_says done overs s n here p.0 o a)) p.1 all f)
    where
      moved_over : (xs : List Node) (y : Node) (ys : List Node) → (xs ++ y ∷ []) ++ ys ≡ xs ++ y ∷ ys
      moved_over [] y ys = refl
      moved_over (x ∷ xs) y ys = ap (λ zs. x ∷ zs) (moved_over xs y ys)

      step : (x : Option Over) → node_over (kinds_of_inputs inputs) overs n ≡ x → and_then x (λ o. nodes_over (kinds_of_inputs inputs) (overs ++ o ∷ []) rest) ≡ Some all
          → ((o : Over) → node_over (kinds_of_inputs inputs) overs n ≡ Some o → nodes_over (kinds_of_inputs inputs) (overs ++ o ∷ []) rest ≡ Some all → Sound (trees_after nodes (done ++ tree_of nodes done n ∷ []) rest) all)
          → Sound (trees_after nodes (done ++ tree_of nodes done n ∷ []) rest) all
      step None a f go = absurd cc
      step (Some o) a f go = go o a f

  at_first : Sound [] []
  at_first = record { same = refl; says = λ k o e. absurd cc }

tables_fit : (inputs : List Shape) (tables : List (List Row)) → AreTables inputs tables → TablesFit inputs tables
tables_fit [] [] are = tt
tables_fit [] (t ∷ tables) are = absurd are
tables_fit (s ∷ inputs) [] are = absurd are
tables_fit (s ∷ inputs) (t ∷ tables) are = (are.0.fit, tables_fit inputs tables are.1)

pub nodes_fit : NodesFitTheirKinds
nodes_fit p is all over tables fit k ks at row i =
    let s = all_sound p.inputs tables fit p.nodes [] p.nodes refl [] [] refl (at_first p.inputs tables fit p.nodes) is.literals all over in
    (s.says k (OverRows ks) at).1 row i

pub rows_fit : RowsFitTheirKinds
rows_fit p is tables are row i = nodes_fit p is is.kinded.all is.kinded.nodes tables (tables_fit p.inputs tables are) p.stored (kinds p.output.columns) is.kinded.stored row i
