-- What is known node by node is what is known of the trees.
use Rattle.std.proofs.Common.{◌≡◌, ◌⊎◌, ℕ, zero, suc, ◌+◌, ◌<◌, ◌≤◌, ◌==◌, Bool, true, false, if◌then◌else◌, List, [], ◌∷◌, ◌++◌, length, get_or, slice_get, Option, Some, None, refl, ap, sym, ◌∙◌, subst, inl, inr, arith, length-append}
use Rattle.std.proofs.lemmas.Bool.Decides.{nat_tests}
use Rattle.nova_value.specs.Rows.{Shape}
use Rattle.nova_pig_algebra.specs.declared.facts.Facts.{Facts}
use Rattle.nova_pig_algebra.specs.declared.node.PlanExpr.{PlanExpr}
use Rattle.nova_pig_algebra.specs.declared.node.Node.{Node}
use Rattle.nova_pig_algebra.specs.declared.node.Node.TheVariants as node
use Rattle.nova_pig_algebra.specs.Tree.{tree_at, trees}
use Rattle.nova_pig_algebra.specs.Nodes.{earlier, earlier_arms, over, node_tree}
use Rattle.nova_pig_algebra.specs.Keys.{facts_of, facts, arm_facts, foreach_facts, join_facts, union_facts, distinct_facts, is_one_of}
use Rattle.nova_pig_algebra.specs.Readers.{read_by, read, read_at, last_at, ClosedFrom}
use Rattle.nova_pig_algebra.specs.Steps.{fact_at, facts_at, foreach_of, node_facts, facts_if_read, AreKnown}
use Rattle.nova_pig_algebra.proofs.Marks.{itself, behind, get_some}
use Rattle.nova_pig_algebra.proofs.TreesOfNodes.{is_tree, tree_past, early, late}

-- beyond the last node nothing is known
nothing_past : (done : List Facts) (k : ℕ) → length done ≤ k → fact_at done k ≡ facts_of [] None
nothing_past [] k h = refl
nothing_past (f ∷ done) zero h = absurd (omega arith)
nothing_past (f ∷ done) (suc k) h = nothing_past done k (omega arith)

stays : (done : List Facts) (f : Facts) (k : ℕ) → k < length done → fact_at (done ++ f ∷ []) k ≡ fact_at done k
stays [] f k h = absurd (omega arith)
stays (g ∷ done) f zero h = refl
stays (g ∷ done) f (suc k) h = stays done f k (omega arith)

at_end : (done : List Facts) (f : Facts) (n : ℕ) → length done ≡ n → fact_at (done ++ f ∷ []) n ≡ f
at_end [] f zero e = refl
at_end [] f (suc n) e = absurd cc
at_end (g ∷ done) f zero e = absurd cc
at_end (g ∷ done) f (suc n) e = at_end done f n (omega arith)

within : (a b : ℕ) → (a < b) ⊎ (b ≤ a)
within a zero = inr (omega arith)
within zero (suc b) = inl (omega arith)
within (suc a) (suc b) = step (within a b)
  where
    step : (a < b) ⊎ (b ≤ a) → (suc a < suc b) ⊎ (suc b ≤ suc a)
    step (inl h) = inl (omega (arith, h))
    step (inr h) = inr (omega (arith, h))

module _ (inputs : List Shape) (nodes : List Node) (done : List Facts) (i : ℕ) where
  -- what is known of a node is what is known of its tree, as the node i names it
  abbrev Known : ℕ → Type 0
  Known k = fact_at done k ≡ facts inputs (earlier nodes i k)

  arms_known : (ks : List ℕ) → ((k : ℕ) → is_one_of k ks ≡ true → Known k) → facts_at done ks ≡ arm_facts inputs (earlier_arms nodes i ks)
  arms_known [] h = refl
  arms_known (k ∷ ks) h = let a = h k (itself k ks) in let b = arms_known ks (λ j e. h j (behind j k ks e)) in λ i. a i ∷ b i

  foreach_known : (from : ℕ) (items : List PlanExpr) (o : Option Node) → Known (read_by from o) → foreach_of o items (fact_at done from) ≡ facts inputs (over nodes i from items o)
  foreach_known from items None h = ap (foreach_facts items) h
  foreach_known from items (Some (node.Load n)) h = ap (foreach_facts items) h
  foreach_known from items (Some (node.Filter f c)) h = ap (foreach_facts items) h
  foreach_known from items (Some (node.Foreach f is)) h = ap (foreach_facts items) h
  foreach_known from items (Some (node.Group source columns)) h = refl
  foreach_known from items (Some (node.Join l lb r rb)) h = ap (foreach_facts items) h
  foreach_known from items (Some (node.Union arms)) h = ap (foreach_facts items) h
  foreach_known from items (Some (node.Distinct f)) h = ap (foreach_facts items) h

  node_known : (n : Node) → ((k : ℕ) → is_one_of k (read nodes n) ≡ true → Known k) → node_facts inputs nodes done n ≡ facts inputs (node_tree nodes i (Some n))
  node_known (node.Load n) h = refl
  node_known (node.Filter from cond) h = h from (itself from [])
  node_known (node.Foreach from items) h = let by = read_by from (slice_get nodes from) in foreach_known from items (slice_get nodes from) (h by (itself by []))
  node_known (node.Group from by) h = refl
  node_known (node.Join l lb r rb) h = let a = h l (itself l (r ∷ [])) in let b = h r (behind r l (r ∷ []) (itself r [])) in λ i. join_facts rb (a i) (b i)
  node_known (node.Union arms) h = ap union_facts (arms_known arms h)
  node_known (node.Distinct from) h = ap distinct_facts (h from (itself from []))

module _ (inputs : List Shape) (nodes : List Node) (last : List ℕ) (done : List Facts) (i : ℕ) (node : Node) (closed : ClosedFrom nodes 0 last)
    (are : AreKnown inputs nodes last i done) (is : slice_get nodes i ≡ Some node) where
  -- what is known of the operands of a node that is read
  operand : 0 < last_at last i → (k : ℕ) → is_one_of k (read nodes node) ≡ true → fact_at done k ≡ facts inputs (earlier nodes i k)
  operand pos k e = go (within k i)
    where
      here : is_one_of k (read_at nodes (slice_get nodes i)) ≡ true
      here = ap (λ (o : Option Node). is_one_of k (read_at nodes o)) is ∙ e

      go : (k < i) ⊎ (i ≤ k) → fact_at done k ≡ facts inputs (earlier nodes i k)
      go (inl h) = let c = closed i k (omega arith) pos here h in are.known k h (omega (arith, c, h)) ∙ sym (ap (facts inputs) (early nodes i k h))
      go (inr h) = let l = are.long in nothing_past done k (omega (arith, l, h)) ∙ sym (ap (facts inputs) (late nodes i k h))

  -- a node that is read
  is_known : (f : Facts) → f ≡ facts_if_read inputs nodes done (last_at last i) node → 0 < last_at last i → f ≡ facts inputs (tree_at (trees nodes) i)
  is_known f f-is pos =
      f-is ∙ go (last_at last i == 0) refl
      ∙ node_known inputs nodes done i node (operand pos)
      ∙ ap (facts inputs) (is_tree nodes i (Some node) (sym is))
    where
      go : (b : Bool) → (last_at last i == 0) ≡ b → (if b then facts_of [] None else node_facts inputs nodes done node) ≡ node_facts inputs nodes done node
      go false e = refl
      go true e = absurd (grind (arith, nat_tests, e, pos))

  one_more : (f : Facts) → f ≡ facts_if_read inputs nodes done (last_at last i) node → AreKnown inputs nodes last (i + 1) (done ++ f ∷ [])
  one_more f f-is = record {
    long = let a = length-append done (f ∷ []) in let l = are.long in omega (arith, a, l);
    known = λ k h pos. go k pos (within k i) h;
  }
    where
      go : (k : ℕ) → 0 < last_at last k → (k < i) ⊎ (i ≤ k) → k < i + 1 → fact_at (done ++ f ∷ []) k ≡ facts inputs (tree_at (trees nodes) k)
      go k pos (inl h) lt = stays done f k (let l = are.long in omega (arith, l, h)) ∙ are.known k h pos
      go k pos (inr h) lt =
          let e : k ≡ i = omega (arith, h, lt) in
          subst (λ (n : ℕ). fact_at (done ++ f ∷ []) n ≡ facts inputs (tree_at (trees nodes) n)) (sym e)
          (at_end done f i are.long ∙ is_known f f-is (subst (λ (n : ℕ). 0 < last_at last n) e pos))

-- the next node
pub known_next : (inputs : List Shape) (nodes : List Node) (last : List ℕ) (done new : List Facts) (i : ℕ) (node : Node) (f : Facts) → ClosedFrom nodes 0 last
    → AreKnown inputs nodes last i done → i < length nodes → node ≡ get_or nodes i node → f ≡ facts_if_read inputs nodes done (last_at last i) node → new ≡ done ++ f ∷ []
    → AreKnown inputs nodes last (i + 1) new
known_next inputs nodes last done new i node f closed are lt is f-is new-is =
    subst (λ (fs : List Facts). AreKnown inputs nodes last (i + 1) fs) (sym new-is)
    (one_more inputs nodes last done i node closed are (get_some nodes i node lt is) f f-is)

-- what is known of the node that is asked for
pub known_at : (inputs : List Shape) (nodes : List Node) (last : List ℕ) (done : List Facts) (k : ℕ) → AreKnown inputs nodes last (length nodes) done
    → (k < length nodes → length nodes < last_at last k) → fact_at done k ≡ facts inputs (tree_at (trees nodes) k)
known_at inputs nodes last done k are answers = go (within k (length nodes))
  where
    go : (k < length nodes) ⊎ (length nodes ≤ k) → fact_at done k ≡ facts inputs (tree_at (trees nodes) k)
    go (inl h) = let a = answers h in are.known k h (omega (arith, a))
    go (inr h) = nothing_past done k (let l = are.long in omega (arith, l, h)) ∙ sym (ap (facts inputs) (tree_past nodes k h))
