-- In a plan whose nodes have kinds, the arms of each UNION have one width.
use Rattle.std.specs.Prelude.{◌≡◌, ℕ, zero, suc, ◌+◌, true, List, [], ◌∷◌, ◌++◌, map, length, slice_get, Option, Some, None, refl}
use Rattle.std.proofs.Common.{ap, sym, ◌∙◌, subst, arith, length-append}
use Rattle.nova_value.specs.declared.value.Kind.{Kind}
use Rattle.nova_value.specs.Rows.{Shape, kinds}
use Rattle.nova_pig_algebra.specs.declared.node.PlanExpr.{PlanExpr}
use Rattle.nova_pig_algebra.specs.declared.node.Node.{Node}
use Rattle.nova_pig_algebra.specs.declared.node.Node.TheVariants as node
use Rattle.nova_pig_algebra.specs.declared.node.Sort.{Sort}
use Rattle.nova_pig_algebra.specs.declared.node.Sort.TheVariants.{Of, Condition}
use Rattle.nova_pig_algebra.specs.Tree.{Tree, Nothing, Load, Filter, Join, Union, Distinct, End, Arm, tree_at, arms_at, foreach_tree, tree_of, trees_after, trees}
use Rattle.nova_pig_algebra.specs.Sorts.{Over, Row, Bag, sort_of}
use Rattle.nova_pig_algebra.specs.Kinds.{with_kind, item_kinds, as_rows, are_rows, all_rows, node_over, and_then, nodes_over}
use Rattle.nova_pig_algebra.specs.Keys.{facts, arm_facts, shape_at, none_constant, unknowns}
use Rattle.nova_pig_algebra.specs.Plan.{Plan, IsKinded, kinds_of_inputs, tree_of_plan}
use Rattle.nova_pig_algebra.proofs.Sets.{both_true}
use Rattle.nova_pig_algebra.proofs.KindsOfNodes.{rows_of_kinds, filter_from, distinct_from, foreach_from, group_from, join_from, union_from}
use Rattle.nova_pig_algebra.proofs.Keyed.{IsEven, AreEven, AreWide}

mapped_length : {A B : Type 0} (f : A → B) (xs : List A) → length (map f xs) ≡ length xs
mapped_length f [] = refl
mapped_length f (x ∷ xs) = let rest = mapped_length f xs in omega arith

unknown_count : (n : ℕ) → length (unknowns n) ≡ n
unknown_count zero = refl
unknown_count (suc n) = let rest = unknown_count n in omega arith

item_count : (o : Over) (items : List PlanExpr) (ks : List Kind) → item_kinds o items ≡ Some ks → length items ≡ length ks
item_count o [] ks e = let is : [] ≡ ks = cc in ap length is
item_count o (x ∷ items) ks e = step (sort_of o x) (item_kinds o items) refl e (item_count o items)
  where
    step : (s : Option Sort) (r : Option (List Kind)) → item_kinds o items ≡ r → with_kind s r ≡ Some ks → ((js : List Kind) → item_kinds o items ≡ Some js → length items ≡ length js) → length (x ∷ items) ≡ length ks
    step (Some (Of k)) (Some js) a f go = let is : k ∷ js ≡ ks = cc in let rest = go js a in ap suc rest ∙ ap length is
    step (Some (Of k)) None a f go = absurd cc
    step (Some Condition) r a f go = absurd cc
    step None r a f go = absurd cc

same_over : (x : Option Over) (ks : List Kind) (o : Over) → x ≡ Some (Row ks) → o ≡ Row ks → x ≡ Some o
same_over x ks o e f = e ∙ ap (λ (p : Over). let q : Option Over = Some p in q) (sym f)

module _ (inputs : List Shape) where
  width : Tree → ℕ
  width t = length (facts inputs t).constants

  abbrev Wide : Tree → Over → Type 0
  Wide t (Row ks) = length (facts inputs t).constants ≡ length ks
  Wide t (Bag bs ks) = Unit {0}

  wide_same : (t u : Tree) (o : Over) → length (facts inputs u).constants ≡ length (facts inputs t).constants → Wide t o → Wide u o
  wide_same t u (Row ks) e w = e ∙ w
  wide_same t u (Bag bs ks) e w = tt

  push_all : (P : Tree → Type 0) (done : List Tree) (t : Tree) → P Nothing → ((k : ℕ) → P (tree_at done k)) → P t → (k : ℕ) → P (tree_at (done ++ t ∷ []) k)
  push_all P [] t none h p zero = p
  push_all P [] t none h p (suc k) = none
  push_all P (d ∷ done) t none h p zero = h 0
  push_all P (d ∷ done) t none h p (suc k) = push_all P done t none (λ j. h (suc j)) p k

  push_wide : (done : List Tree) (overs : List Over) (t : Tree) (o : Over) → length done ≡ length overs
      → ((k : ℕ) (p : Over) → slice_get overs k ≡ Some p → Wide (tree_at done k) p) → Wide t o
      → (k : ℕ) (p : Over) → slice_get (overs ++ o ∷ []) k ≡ Some p → Wide (tree_at (done ++ t ∷ []) k) p
  push_wide [] [] t o same h w zero p e = let is : o ≡ p = cc in subst (λ z. Wide t z) is w
  push_wide [] [] t o same h w (suc k) p e = absurd cc
  push_wide [] (q ∷ overs) t o same h w k p e = absurd (omega arith)
  push_wide (d ∷ done) [] t o same h w k p e = absurd (omega arith)
  push_wide (d ∷ done) (q ∷ overs) t o same h w zero p e = h 0 p e
  push_wide (d ∷ done) (q ∷ overs) t o same h w (suc k) p e = push_wide done overs t o (omega arith) (λ j r f. h (suc j) r f) w k p e

  -- the trees and the kinds of the nodes so far
  record Sound (done : List Tree) (overs : List Over) : Type 0 where
    same : length done ≡ length overs
    even : (k : ℕ) → IsEven inputs (tree_at done k)
    wide : (k : ℕ) (o : Over) → slice_get overs k ≡ Some o → Wide (tree_at done k) o

  load_width : (shapes : List Shape) (i : ℕ) (ks : List Kind) → slice_get (kinds_of_inputs shapes) i ≡ Some ks → length (none_constant (shape_at shapes i).columns) ≡ length ks
  load_width [] i ks e = absurd cc
  load_width (s ∷ shapes) zero ks e =
      let is : kinds s.columns ≡ ks = cc in
      unknown_count (length s.columns) ∙ sym (mapped_length (λ c. c.kind) s.columns) ∙ ap length is
  load_width (s ∷ shapes) (suc i) ks e = load_width shapes i ks e

  load_wide : (i : ℕ) (x : Option (List Kind)) (o : Over) → slice_get (kinds_of_inputs inputs) i ≡ x → as_rows x ≡ Some o → Wide (Load i) o
  load_wide i None o a e = absurd cc
  load_wide i (Some ks) o a e = let is : Row ks ≡ o = cc in subst (λ z. Wide (Load i) z) is (load_width inputs i ks a)

  module _ (done : List Tree) (overs : List Over) (s : Sound done overs) where
    arms_even : (arms : List ℕ) → AreEven inputs (arms_at done arms)
    arms_even [] = tt
    arms_even (a ∷ arms) = (s.even a, arms_even arms)

    arms_wide : (ks : List Kind) (arms : List ℕ) → all_rows overs ks arms ≡ true → AreWide (length ks) (arm_facts inputs (arms_at done arms))
    arms_wide ks [] e = tt
    arms_wide ks (a ∷ arms) e =
        let p = both_true (are_rows ks (slice_get overs a)) (all_rows overs ks arms) e in
        (s.wide a (Row ks) (rows_of_kinds ks (slice_get overs a) p.0), arms_wide ks arms p.1)

    record Next (t : Tree) (o : Over) : Type 0 where
      even : IsEven inputs t
      wide : Wide t o

    foreach_even : (from : ℕ) (items : List PlanExpr) (n : Option Node) (ks : List Kind) → length items ≡ length ks → Next (foreach_tree done from items n) (Row ks)
    foreach_even from items None ks e = record { even = s.even from; wide = mapped_length _ items ∙ e }
    foreach_even from items (Some (node.Load i)) ks e = record { even = s.even from; wide = mapped_length _ items ∙ e }
    foreach_even from items (Some (node.Filter f c)) ks e = record { even = s.even from; wide = mapped_length _ items ∙ e }
    foreach_even from items (Some (node.Foreach f is)) ks e = record { even = s.even from; wide = mapped_length _ items ∙ e }
    foreach_even from items (Some (node.Group source columns)) ks e = record { even = s.even source; wide = mapped_length _ items ∙ e }
    foreach_even from items (Some (node.Join l lb r rb)) ks e = record { even = s.even from; wide = mapped_length _ items ∙ e }
    foreach_even from items (Some (node.Union arms)) ks e = record { even = s.even from; wide = mapped_length _ items ∙ e }
    foreach_even from items (Some (node.Distinct f)) ks e = record { even = s.even from; wide = mapped_length _ items ∙ e }

    node_even : (nodes : List Node) (n : Node) (o : Over) → node_over (kinds_of_inputs inputs) overs n ≡ Some o → Next (tree_of nodes done n) o
    node_even nodes (node.Load i) o e = record { even = tt; wide = load_wide i (slice_get (kinds_of_inputs inputs) i) o refl e }
    node_even nodes (node.Filter from cond) o e =
        let p = filter_from cond (slice_get overs from) o e in
        record { even = s.even from; wide = wide_same (tree_at done from) (Filter (tree_at done from) cond) o refl (s.wide from o (same_over (slice_get overs from) p.0 o p.1 p.2)) }
    node_even nodes (node.Foreach from items) o e =
        let p = foreach_from items (slice_get overs from) o e in
        subst (λ z. Next (foreach_tree done from items (slice_get nodes from)) z) (sym p.is) (foreach_even from items (slice_get nodes from) p.made_of (item_count p.source items p.made_of p.each))
    node_even nodes (node.Group from by) o e =
        let p = group_from by (slice_get overs from) o e in
        subst (λ z. Next Nothing z) (sym p.is) (record { even = tt; wide = tt })
    node_even nodes (node.Join l lb r rb) o e =
        let p = join_from lb rb (slice_get overs l) (slice_get overs r) o e in
        let a = s.wide l (Row p.left) p.on_left in
        let b = s.wide r (Row p.right) p.on_right in
        let t = Join (tree_at done l) lb (tree_at done r) rb in
        let w : length ((facts inputs (tree_at done l)).constants ++ (facts inputs (tree_at done r)).constants) ≡ length (p.left ++ p.right) =
        length-append (facts inputs (tree_at done l)).constants (facts inputs (tree_at done r)).constants ∙ (λ i. a i + b i) ∙ sym (length-append p.left p.right) in
        subst (λ z. Next t z) (sym p.is) (record { even = (s.even l, s.even r); wide = w })
    node_even nodes (node.Union []) o e =
        let is : Row [] ≡ o = cc in
        subst (λ z. Next (Union End) z) is (record { even = (tt, tt); wide = refl })
    node_even nodes (node.Union (a ∷ arms)) o e =
        let p = union_from overs (a ∷ arms) (slice_get overs a) o e in
        let w = s.wide a (Row p.own) p.first in
        let q = both_true (are_rows p.own (slice_get overs a)) (all_rows overs p.own arms) p.all in
        let t = Union (Arm (tree_at done a) (arms_at done arms)) in
        subst (λ z. Next t z) (sym p.is) (record {
          even = ((s.even a, arms_even arms), subst (λ n. AreWide n (arm_facts inputs (arms_at done arms))) (sym w) (arms_wide p.own arms q.1));
          wide = unknown_count (length (facts inputs (tree_at done a)).constants) ∙ w;
        })
    node_even nodes (node.Distinct from) o e =
        let p = distinct_from (slice_get overs from) o e in
        record { even = s.even from; wide = wide_same (tree_at done from) (Distinct (tree_at done from)) o refl (s.wide from o (same_over (slice_get overs from) p.0 o p.1 p.2)) }

    one_more : (t : Tree) (o : Over) → Next t o → Sound (done ++ t ∷ []) (overs ++ o ∷ [])
    one_more t o n = record {
      same = let a = s.same in let b = length-append done (t ∷ []) in let c = length-append overs (o ∷ []) in omega arith;
      even = push_all (λ z. IsEven inputs z) done t tt s.even n.even;
      wide = push_wide done overs t o s.same s.wide n.wide;
    }

  all_sound : (nodes : List Node) (done : List Tree) (overs : List Over) → Sound done overs → (rest : List Node) (all : List Over)
      → nodes_over (kinds_of_inputs inputs) overs rest ≡ Some all → Sound (trees_after nodes done rest) all
  unfolding trees_after
  all_sound nodes done overs s [] all e = let is : overs ≡ all = cc in subst (λ z. Sound done z) is s
  all_sound nodes done overs s (n ∷ rest) all e = step (node_over (kinds_of_inputs inputs) overs n) refl e (λ o h f. all_sound nodes (done ++ tree_of nodes done n ∷ []) (overs ++ o ∷ []) (one_more done overs s (tree_of nodes done n) o h) rest all f)
    where
      step : (x : Option Over) → node_over (kinds_of_inputs inputs) overs n ≡ x → and_then x (λ o. nodes_over (kinds_of_inputs inputs) (overs ++ o ∷ []) rest) ≡ Some all
          → ((o : Over) → Next done overs s (tree_of nodes done n) o → nodes_over (kinds_of_inputs inputs) (overs ++ o ∷ []) rest ≡ Some all → Sound (trees_after nodes (done ++ tree_of nodes done n ∷ []) rest) all)
          → Sound (trees_after nodes (done ++ tree_of nodes done n ∷ []) rest) all
      step None a f go = absurd cc
      step (Some o) a f go = go o (node_even done overs s nodes n o a) f

  at_first : Sound [] []
  at_first = record { same = refl; even = λ k. tt; wide = λ k o e. absurd cc }

pub nodes_even : (p : Plan) → IsKinded p → (k : ℕ) → IsEven p.inputs (tree_at (trees p.nodes) k)
nodes_even p is k =
    let s = all_sound p.inputs p.nodes [] [] (at_first p.inputs) p.nodes is.all is.nodes in
    s.even k

pub plan_even : (p : Plan) → IsKinded p → IsEven p.inputs (tree_of_plan p)
plan_even p is = nodes_even p is p.stored
