-- The tree of a node, by the trees of its operands.
use Rattle.std.specs.Prelude.{◌≡◌, ℕ, zero, suc, ◌+◌, ◌<◌, ◌≤◌, nat_lt, Bool, true, false, if◌then◌else◌, List, [], ◌∷◌, ◌++◌, length, slice_get, Option, Some, None, refl}
use Rattle.std.proofs.Common.{ap, sym, ◌∙◌, arith, length-append}
use Rattle.std.proofs.lemmas.Bool.Decides.{nat_tests}
use Rattle.nova_pig_algebra.specs.declared.node.PlanExpr.{PlanExpr}
use Rattle.nova_pig_algebra.specs.declared.node.Node.{Node}
use Rattle.nova_pig_algebra.specs.declared.node.Node.TheVariants as node
use Rattle.nova_pig_algebra.specs.Tree.{Tree, Nothing, Filter, Foreach, Grouped, Join, Union, Distinct, Arm, tree_at, arms_at, foreach_tree, tree_of, trees_after, trees}
use Rattle.nova_pig_algebra.specs.Nodes.{earlier, earlier_arms, over, node_tree}

before_end : (done : List Tree) (t : Tree) (j : ℕ) → j < length done → tree_at (done ++ t ∷ []) j ≡ tree_at done j
before_end [] t j h = absurd (omega arith)
before_end (d ∷ done) t zero h = refl
before_end (d ∷ done) t (suc j) h = before_end done t j (omega arith)

at_end : (done : List Tree) (t : Tree) (n : ℕ) → length done ≡ n → tree_at (done ++ t ∷ []) n ≡ t
at_end [] t zero e = refl
at_end [] t (suc n) e = absurd cc
at_end (d ∷ done) t zero e = absurd cc
at_end (d ∷ done) t (suc n) e = at_end done t n (omega arith)

past_end : (done : List Tree) (j : ℕ) → length done ≤ j → tree_at done j ≡ Nothing
past_end [] j h = refl
past_end (d ∷ done) zero h = absurd (omega arith)
past_end (d ∷ done) (suc j) h = past_end done j (omega arith)

-- trees stay as they are made
stays : (nodes : List Node) (done : List Tree) (rest : List Node) (j : ℕ) → j < length done → tree_at (trees_after nodes done rest) j ≡ tree_at done j
unfolding trees_after
stays nodes done [] j h = refl
stays nodes done (n ∷ rest) j h =
    let t = tree_of nodes done n in
    let a = length-append done (t ∷ []) in
    stays nodes (done ++ t ∷ []) rest j (omega arith) ∙ before_end done t j h

none_past : (nodes : List Node) (done : List Tree) (rest : List Node) (j : ℕ) → length done + length rest ≤ j → tree_at (trees_after nodes done rest) j ≡ Nothing
unfolding trees_after
none_past nodes done [] j h = past_end done j (omega arith)
none_past nodes done (n ∷ rest) j h =
    let t = tree_of nodes done n in
    let a = length-append done (t ∷ []) in
    none_past nodes (done ++ t ∷ []) rest j (omega arith)

-- the trees before a node's
record Before (nodes : List Node) (done : List Tree) (rest : List Node) (k : ℕ) (n : Node) : Type 0 where
  ts : List Tree
  many : length ts ≡ k
  is : tree_at (trees_after nodes done rest) k ≡ tree_of nodes ts n
  same : (j : ℕ) → j < k → tree_at ts j ≡ tree_at (trees_after nodes done rest) j

before : (nodes : List Node) (done : List Tree) (rest : List Node) (i k : ℕ) (n : Node) → slice_get rest i ≡ Some n → k ≡ length done + i → Before nodes done rest k n
unfolding trees_after
before nodes done [] i k n e at = absurd cc
before nodes done (m ∷ rest) zero k n e at =
    let is : m ≡ n = cc in
    let t = tree_of nodes done m in
    let a = length-append done (t ∷ []) in
    record {
      ts = done;
      many = omega arith;
      is = stays nodes (done ++ t ∷ []) rest k (omega arith) ∙ at_end done t k (omega arith) ∙ ap (tree_of nodes done) is;
      same = λ j h. sym (stays nodes done (m ∷ rest) j (omega arith));
    }
before nodes done (m ∷ rest) (suc i) k n e at =
    let t = tree_of nodes done m in
    let a = length-append done (t ∷ []) in
    let r = before nodes (done ++ t ∷ []) rest i k n e (omega arith) in
    record { ts = r.ts; many = r.many; is = r.is; same = r.same }

missing : (rest : List Node) (i : ℕ) → slice_get rest i ≡ None → length rest ≤ i
missing [] i e = omega arith
missing (m ∷ rest) zero e = absurd cc
missing (m ∷ rest) (suc i) e = let r = missing rest i e in omega arith

module _ (nodes : List Node) (k : ℕ) where
  module _ (ts : List Tree) (many : length ts ≡ k) (same : (j : ℕ) → j < k → tree_at ts j ≡ tree_at (trees nodes) j) where
    operand : (from : ℕ) → tree_at ts from ≡ earlier nodes k from
    operand from = go (nat_lt from k) refl
      where
        go : (b : Bool) → nat_lt from k ≡ b → tree_at ts from ≡ (if b then tree_at (trees nodes) from else Nothing)
        go true e = let h : from < k = grind (arith, nat_tests, e) in same from h
        go false e = let h : length ts ≤ from = grind (arith, nat_tests, e, many) in past_end ts from h

    operands : (arms : List ℕ) → arms_at ts arms ≡ earlier_arms nodes k arms
    operands [] = refl
    operands (a ∷ arms) = let first = operand a in let rest = operands arms in λ i. Arm (first i) (rest i)

    each_over : (from : ℕ) (items : List PlanExpr) (o : Option Node) → foreach_tree ts from items o ≡ over nodes k from items o
    each_over from items None = ap (λ t. Foreach t items) (operand from)
    each_over from items (Some (node.Load i)) = ap (λ t. Foreach t items) (operand from)
    each_over from items (Some (node.Filter f c)) = ap (λ t. Foreach t items) (operand from)
    each_over from items (Some (node.Foreach f is)) = ap (λ t. Foreach t items) (operand from)
    each_over from items (Some (node.Group source columns)) = ap (λ t. Grouped t columns items) (operand source)
    each_over from items (Some (node.Join l lb r rb)) = ap (λ t. Foreach t items) (operand from)
    each_over from items (Some (node.Union arms)) = ap (λ t. Foreach t items) (operand from)
    each_over from items (Some (node.Distinct f)) = ap (λ t. Foreach t items) (operand from)

    of_tree : (n : Node) → tree_of nodes ts n ≡ node_tree nodes k (Some n)
    of_tree (node.Load i) = refl
    of_tree (node.Filter from c) = ap (λ t. Filter t c) (operand from)
    of_tree (node.Foreach from items) = each_over from items (slice_get nodes from)
    of_tree (node.Group from columns) = refl
    of_tree (node.Join l lb r rb) = let a = operand l in let b = operand r in λ i. Join (a i) lb (b i) rb
    of_tree (node.Union arms) = ap Union (operands arms)
    of_tree (node.Distinct from) = ap Distinct (operand from)

  -- the tree of a node
  pub tree_is : tree_at (trees nodes) k ≡ node_tree nodes k (slice_get nodes k)
  tree_is = go (slice_get nodes k) refl
    where
      go : (o : Option Node) → slice_get nodes k ≡ o → tree_at (trees nodes) k ≡ node_tree nodes k o
      go None e = let h = missing nodes k e in none_past nodes [] nodes k (omega arith)
      go (Some n) e = let b = before nodes [] nodes k k n e (omega arith) in b.is ∙ of_tree b.ts b.many b.same n

  pub is_tree : (o : Option Node) → o ≡ slice_get nodes k → node_tree nodes k o ≡ tree_at (trees nodes) k
  is_tree o e = ap (node_tree nodes k) e ∙ sym tree_is

pub early : (nodes : List Node) (k from : ℕ) → from < k → earlier nodes k from ≡ tree_at (trees nodes) from
early nodes k from h =
    let e : nat_lt from k ≡ true = grind (arith, nat_tests, h) in
    ap (λ b. if b then tree_at (trees nodes) from else Nothing) e

pub late : (nodes : List Node) (k from : ℕ) → k ≤ from → earlier nodes k from ≡ Nothing
late nodes k from h =
    let e : nat_lt from k ≡ false = grind (arith, nat_tests, h) in
    ap (λ b. if b then tree_at (trees nodes) from else Nothing) e

-- no tree stands beyond the last node
pub tree_past : (nodes : List Node) (k : ℕ) → length nodes ≤ k → tree_at (trees nodes) k ≡ Nothing
tree_past nodes k h = none_past nodes [] nodes k (omega (arith, h))
