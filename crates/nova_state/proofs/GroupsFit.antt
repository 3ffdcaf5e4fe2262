-- The rows of groups have the kinds of the output, whether or not they pass the FILTERs behind the GROUP.
use Rattle.std.specs.Prelude.{◌≡◌, ℕ, zero, suc, ◌<◌, true, List, [], ◌∷◌, ◌++◌, map, length, slice_get, Option, Some, None, refl}
use Rattle.std.proofs.Common.{ap, sym, ◌∙◌, subst, arith, length-append}
use Rattle.nova_value.specs.declared.value.Kind.{Kind}
use Rattle.nova_value.specs.Rows.{FitKinds, kinds}
use Rattle.nova_pig_algebra.specs.declared.node.PlanExpr.{PlanExpr}
use Rattle.nova_pig_algebra.specs.declared.node.Node.{Node}
use Rattle.nova_pig_algebra.specs.declared.node.Node.TheVariants as node
use Rattle.nova_pig_algebra.specs.Meaning.{Row, made, no_calls}
use Rattle.nova_pig_algebra.specs.Tree.{Tree, Nothing, Load, Filter, Foreach, Join, Union, Distinct, tree_at, trees, arms_at, foreach_tree, tree_of, trees_after, rows}
use Rattle.nova_pig_algebra.specs.Sorts.{Over, Row as OverRows, Bag}
use Rattle.nova_pig_algebra.specs.Kinds.{item_kinds, node_over, and_then, nodes_over}
use Rattle.nova_pig_algebra.specs.Literals.{all_have_values, node_has_values, nodes_have_values}
use Rattle.nova_pig_algebra.specs.Plan.{Plan, IsPlan, tree_of_plan, kinds_of_inputs}
use Rattle.nova_pig_algebra.proofs.Lists.{in_mapped}
use Rattle.nova_pig_algebra.proofs.Sets.{both_true}
use Rattle.nova_pig_algebra.proofs.KindsOfNodes.{filter_from, foreach_from}
use Rattle.nova_pig_algebra.proofs.KindsOfValues.{AllOf, made_fits, over_row}
use Rattle.nova_pig_pattern.specs.OutputKeys.{all_groups}
use Rattle.nova_pig_pattern.specs.Shapes.{IsGrouped}
use Rattle.nova_state.proofs.KindsInTurn.{at_end, overs_stay}

-- ---- lists that grow
tree_last : (done : List Tree) (t : Tree) (n : ℕ) → length done ≡ n → tree_at (done ++ t ∷ []) n ≡ t
tree_last [] t zero e = refl
tree_last [] t (suc n) e = absurd cc
tree_last (d ∷ done) t zero e = absurd cc
tree_last (d ∷ done) t (suc n) e = tree_last done t n (omega arith)

tree_still : (done : List Tree) (t : Tree) (k : ℕ) → k < length done → tree_at (done ++ t ∷ []) k ≡ tree_at done k
tree_still [] t k lt = absurd (omega (arith, lt))
tree_still (d ∷ done) t zero lt = refl
tree_still (d ∷ done) t (suc k) lt = tree_still done t k (omega (arith, lt))

push_each : (P : Tree → Over → Type 0) (done : List Tree) (overs : List Over) (t : Tree) (o : Over) → length done ≡ length overs
    → ((k : ℕ) (p : Over) → slice_get overs k ≡ Some p → P (tree_at done k) p) → P t o
    → (k : ℕ) (p : Over) → slice_get (overs ++ o ∷ []) k ≡ Some p → P (tree_at (done ++ t ∷ []) k) p
push_each P [] [] t o same h w zero p e = let is : o ≡ p = cc in subst (λ z. P t z) is w
push_each P [] [] t o same h w (suc k) p e = absurd cc
push_each P [] (q ∷ overs) t o same h w k p e = absurd (omega arith)
push_each P (d ∷ done) [] t o same h w k p e = absurd (omega arith)
push_each P (d ∷ done) (q ∷ overs) t o same h w zero p e = h 0 p e
push_each P (d ∷ done) (q ∷ overs) t o same h w (suc k) p e = push_each P done overs t o (omega arith) (λ j r f. h (suc j) r f) w k p e

-- the trees of earlier nodes stay
trees_still : (nodes : List Node) (rest : List Node) (done : List Tree) (k : ℕ) → k < length done → tree_at (trees_after nodes done rest) k ≡ tree_at done k
unfolding trees_after
trees_still nodes [] done k lt = refl
trees_still nodes (n ∷ rest) done k lt =
    trees_still nodes rest (done ++ tree_of nodes done n ∷ []) k (let a = length-append done (tree_of nodes done n ∷ []) in omega (arith, a, lt))
    ∙ tree_still done (tree_of nodes done n) k lt

next_tree : (nodes : List Node) (n : Node) (rest : List Node) (done : List Tree) (k : ℕ) → length done ≡ k → tree_at (trees_after nodes done (n ∷ rest)) k ≡ tree_of nodes done n
unfolding trees_after
next_tree nodes n rest done k e =
    trees_still nodes rest (done ++ tree_of nodes done n ∷ []) k (let a = length-append done (tree_of nodes done n ∷ []) in omega (arith, a, e))
    ∙ tree_last done (tree_of nodes done n) k e

module _ (p : Plan) (is : IsPlan p) (tables : List (List Row)) (nodes_fit : (k : ℕ) (ks : List Kind) → slice_get is.kinded.all k ≡ Some (OverRows ks) → AllOf ks (rows (tree_at (trees p.nodes) k) tables)) where
  abbrev Inputs : List (List Kind)
  Inputs = kinds_of_inputs p.inputs

  -- what the kinds of a node say of its tree
  abbrev Says : Tree → Over → Type 0
  Says t (OverRows ks) = IsGrouped 0 t → AllOf ks (rows (all_groups t) tables)
  Says t (Bag bs ks) = IsGrouped 0 t → ⊥

  none : (t : Tree) → (IsGrouped 0 t → ⊥) → (o : Over) → Says t o
  none t h (OverRows ks) = λ w. absurd (h w)
  none t h (Bag bs ks) = h

  record Sound (done : List Tree) (overs : List Over) : Type 0 where
    same : length done ≡ length overs
    says : (k : ℕ) (o : Over) → slice_get overs k ≡ Some o → Says (tree_at done k) o

  one_more : (done : List Tree) (overs : List Over) → Sound done overs → (t : Tree) (o : Over) → Says t o → Sound (done ++ t ∷ []) (overs ++ o ∷ [])
  one_more done overs s t o h = record {
    same = let a = s.same in let b = length-append done (t ∷ []) in let c = length-append overs (o ∷ []) in omega arith;
    says = push_each Says done overs t o s.same s.says h;
  }

  each_fits : (ks js : List Kind) (items : List PlanExpr) → item_kinds (OverRows ks) items ≡ Some js → all_have_values items ≡ true → (xs : List Row) → AllOf ks xs → AllOf js (map (λ row. made items row no_calls) xs)
  each_fits ks js items e h xs f x i =
      let q = in_mapped (λ row. made items row no_calls) x xs i in
      subst (FitKinds js) (sym q.2) (made_fits (OverRows ks) q.0 no_calls (over_row ks q.0 no_calls (f q.0 q.1)) items h js e)

  module _ (done : List Tree) (overs : List Over) (s : Sound done overs) where
    foreach_says : (from : ℕ) (items : List PlanExpr) (js : List Kind) (source : Over) → slice_get overs from ≡ Some source → item_kinds source items ≡ Some js → all_have_values items ≡ true → Says (Foreach (tree_at done from) items) (OverRows js)
    foreach_says from items js (OverRows ks) at e h = λ w. each_fits ks js items e h (rows (all_groups (tree_at done from)) tables) (s.says from (OverRows ks) at w)
    foreach_says from items js (Bag bs ks) at e h = λ w. absurd (s.says from (Bag bs ks) at w)

    by_source : (from : ℕ) (items : List PlanExpr) (js : List Kind) (x : Option Node) → AllOf js (rows (foreach_tree done from items x) tables) → Says (Foreach (tree_at done from) items) (OverRows js) → Says (foreach_tree done from items x) (OverRows js)
    by_source from items js (Some (node.Group source columns)) all over = λ w. all
    by_source from items js None all over = over
    by_source from items js (Some (node.Load i)) all over = over
    by_source from items js (Some (node.Filter f c)) all over = over
    by_source from items js (Some (node.Foreach f xs)) all over = over
    by_source from items js (Some (node.Join l lb r rb)) all over = over
    by_source from items js (Some (node.Union arms)) all over = over
    by_source from items js (Some (node.Distinct f)) all over = over

    node_says : (n : Node) → tree_at (trees p.nodes) (length overs) ≡ tree_of p.nodes done n → node_has_values n ≡ true → (o : Over) → node_over Inputs overs n ≡ Some o → slice_get is.kinded.all (length overs) ≡ Some o → Says (tree_of p.nodes done n) o
    node_says (node.Load i) here h o e at = none (Load i) (λ w. w) o
    node_says (node.Filter from c) here h o e at =
        let q = filter_from c (slice_get overs from) o e in
        subst (λ z. Says (Filter (tree_at done from) c) z) (sym q.2) (s.says from (OverRows q.0) q.1)
    node_says (node.Foreach from items) here h o e at =
        let q = foreach_from items (slice_get overs from) o e in
        let fits : AllOf q.made_of (rows (foreach_tree done from items (slice_get p.nodes from)) tables) =
        subst (λ t. AllOf q.made_of (rows t tables)) here (nodes_fit (length overs) q.made_of (at ∙ ap (λ (z : Over). let x : Option Over = Some z in x) q.is)) in
        subst (λ z. Says (foreach_tree done from items (slice_get p.nodes from)) z) (sym q.is)
        (by_source from items q.made_of (slice_get p.nodes from) fits (foreach_says from items q.made_of q.source q.from q.each h))
    node_says (node.Group from columns) here h o e at = none Nothing (λ w. w) o
    node_says (node.Join l lb r rb) here h o e at = none (Join (tree_at done l) lb (tree_at done r) rb) (λ w. w) o
    node_says (node.Union arms) here h o e at = none (Union (arms_at done arms)) (λ w. w) o
    node_says (node.Distinct from) here h o e at = none (Distinct (tree_at done from)) (λ w. w) o

  all_sound : (rest : List Node) (done : List Tree) (overs : List Over) → Sound done overs → nodes_have_values rest ≡ true → trees p.nodes ≡ trees_after p.nodes done rest
      → nodes_over Inputs overs rest ≡ Some is.kinded.all → Sound (trees p.nodes) is.kinded.all
  unfolding trees_after
  all_sound [] done overs s h whole e =
      let same : overs ≡ is.kinded.all = cc in
      subst (λ z. Sound (trees p.nodes) z) same (subst (λ z. Sound z overs) (sym whole) s)
  all_sound (n ∷ rest) done overs s h whole e =
      let has = both_true (node_has_values n) (nodes_have_values rest) h in
      let here : tree_at (trees p.nodes) (length overs) ≡ tree_of p.nodes done n = ap (λ ts. tree_at ts (length overs)) whole ∙ next_tree p.nodes n rest done (length overs) s.same in
      step (node_over Inputs overs n) refl e (λ o a f.
      let at = overs_stay Inputs rest (overs ++ o ∷ []) is.kinded.all f (length overs) o (at_end overs o (length overs) refl) in
      all_sound rest (done ++ tree_of p.nodes done n ∷ []) (overs ++ o ∷ []) (one_more done overs s (tree_of p.nodes done n) o (node_says done overs s n here has.0 o a at)) has.1 whole f)
    where
      step : (x : Option Over) → node_over Inputs overs n ≡ x → and_then x (λ o. nodes_over Inputs (overs ++ o ∷ []) rest) ≡ Some is.kinded.all
          → ((o : Over) → node_over Inputs overs n ≡ Some o → nodes_over Inputs (overs ++ o ∷ []) rest ≡ Some is.kinded.all → Sound (trees p.nodes) is.kinded.all) → Sound (trees p.nodes) is.kinded.all
      step None a f go = absurd cc
      step (Some o) a f go = go o a f

  pub all_groups_fit : IsGrouped 0 (tree_of_plan p) → AllOf (kinds p.output.columns) (rows (all_groups (tree_of_plan p)) tables)
  all_groups_fit w =
      let first : Sound [] [] = record { same = refl; says = λ k o e. absurd cc } in
      let s = all_sound p.nodes [] [] first is.literals refl is.kinded.nodes in
      s.says p.stored (OverRows (kinds p.output.columns)) is.kinded.stored w
