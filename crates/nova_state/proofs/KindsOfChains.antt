-- The kinds that code finds: of an expression by its variant, of a row chain by its node.
use Rattle.std.specs.Prelude.{◌≡◌, ℕ, ℤ, ◌<◌, ◌≤◌, List, [], map, slice_get, Option, Some, None, Result, Ok, Err, Vec, refl}
use Rattle.std.proofs.Common.{ap, sym, ◌∙◌}
use Rattle.std.specs.Result.{IfOk}
use Rattle.std.specs.declared.alloc.AllocError.{AllocError}
use Rattle.std.specs.declared.alloc.Global.{Global}
use Rattle.nova_value.specs.declared.value.Kind.{Kind}
use Rattle.nova_value.specs.declared.value.Kind.TheVariants as kind
use Rattle.nova_pig_tree.specs.declared.expression.CallKind.{CallKind}
use Rattle.nova_pig_tree.specs.declared.expression.CompareOp.{CompareOp}
use Rattle.nova_pig_algebra.specs.declared.node.PlanExpr.{PlanExpr}
use Rattle.nova_pig_algebra.specs.declared.node.PlanExpr.TheOpen.{PlanExpr-F}
use Rattle.nova_pig_algebra.specs.declared.node.PlanExpr.TheVariants as e
use Rattle.nova_pig_algebra.specs.declared.node.PlanExpr.TheFolds.{fold-roll-PlanExpr}
use Rattle.nova_pig_algebra.specs.declared.node.Node.{Node}
use Rattle.nova_pig_algebra.specs.declared.node.Node.TheVariants as node
use Rattle.nova_pig_algebra.specs.Tree.{Tree, Nothing, tree_at, foreach_tree, tree_of, trees}
use Rattle.nova_group_codec.specs.Pieces.{kind_at}
use Rattle.nova_state.specs.Calls.{group_node}
use Rattle.nova_state.specs.Sorts.{kind_step, kind_in, chain_kinds}
use Rattle.nova_state.proofs.PlanNodes.{at, nowhere}

-- ---- expressions
module _ (ks : List Kind) where
  pub kind_in-Num : (n : ℤ) → kind.Long ≡ kind_in ks (e.Num n)
  unfolding kind_in
  kind_in-Num n = sym (ap (kind_in ks) (sym (e.rolls-Num n)) ∙ fold-roll-PlanExpr Kind (kind_step ks) (PlanExpr-F.Num n))

  pub kind_in-Lit : (t : List ℕ) → kind.Text ≡ kind_in ks (e.Lit t)
  unfolding kind_in
  kind_in-Lit t = sym (ap (kind_in ks) (sym (e.rolls-Lit t)) ∙ fold-roll-PlanExpr Kind (kind_step ks) (PlanExpr-F.Lit t))

  pub kind_in-Column : (k : ℕ) → kind_at ks k ≡ kind_in ks (e.Column k)
  unfolding kind_in
  kind_in-Column k = sym (ap (kind_in ks) (sym (e.rolls-Column k)) ∙ fold-roll-PlanExpr Kind (kind_step ks) (PlanExpr-F.Column k))

  pub kind_in-GroupColumn : (k : ℕ) → kind.Long ≡ kind_in ks (e.GroupColumn k)
  unfolding kind_in
  kind_in-GroupColumn k = sym (ap (kind_in ks) (sym (e.rolls-GroupColumn k)) ∙ fold-roll-PlanExpr Kind (kind_step ks) (PlanExpr-F.GroupColumn k))

  pub kind_in-Agg : (c : CallKind) (column : Option ℕ) → kind.Long ≡ kind_in ks (e.Agg c column)
  unfolding kind_in
  kind_in-Agg c column = sym (ap (kind_in ks) (sym (e.rolls-Agg c column)) ∙ fold-roll-PlanExpr Kind (kind_step ks) (PlanExpr-F.Agg c column))

  pub kind_in-Neg : (a : PlanExpr) → kind.Long ≡ kind_in ks (e.Neg a)
  unfolding kind_in
  kind_in-Neg a = sym (ap (kind_in ks) (sym (e.rolls-Neg a)) ∙ fold-roll-PlanExpr Kind (kind_step ks) (PlanExpr-F.Neg a))

  pub kind_in-Not : (a : PlanExpr) → kind.Long ≡ kind_in ks (e.Not a)
  unfolding kind_in
  kind_in-Not a = sym (ap (kind_in ks) (sym (e.rolls-Not a)) ∙ fold-roll-PlanExpr Kind (kind_step ks) (PlanExpr-F.Not a))

  pub kind_in-Add : (a b : PlanExpr) → kind.Long ≡ kind_in ks (e.Add a b)
  unfolding kind_in
  kind_in-Add a b = sym (ap (kind_in ks) (sym (e.rolls-Add a b)) ∙ fold-roll-PlanExpr Kind (kind_step ks) (PlanExpr-F.Add a b))

  pub kind_in-Sub : (a b : PlanExpr) → kind.Long ≡ kind_in ks (e.Sub a b)
  unfolding kind_in
  kind_in-Sub a b = sym (ap (kind_in ks) (sym (e.rolls-Sub a b)) ∙ fold-roll-PlanExpr Kind (kind_step ks) (PlanExpr-F.Sub a b))

  pub kind_in-Mul : (a b : PlanExpr) → kind.Long ≡ kind_in ks (e.Mul a b)
  unfolding kind_in
  kind_in-Mul a b = sym (ap (kind_in ks) (sym (e.rolls-Mul a b)) ∙ fold-roll-PlanExpr Kind (kind_step ks) (PlanExpr-F.Mul a b))

  pub kind_in-Compare : (op : CompareOp) (a b : PlanExpr) → kind.Long ≡ kind_in ks (e.Compare op a b)
  unfolding kind_in
  kind_in-Compare op a b = sym (ap (kind_in ks) (sym (e.rolls-Compare op a b)) ∙ fold-roll-PlanExpr Kind (kind_step ks) (PlanExpr-F.Compare op a b))

  pub kind_in-And : (a b : PlanExpr) → kind.Long ≡ kind_in ks (e.And a b)
  unfolding kind_in
  kind_in-And a b = sym (ap (kind_in ks) (sym (e.rolls-And a b)) ∙ fold-roll-PlanExpr Kind (kind_step ks) (PlanExpr-F.And a b))

  pub kind_in-Or : (a b : PlanExpr) → kind.Long ≡ kind_in ks (e.Or a b)
  unfolding kind_in
  kind_in-Or a b = sym (ap (kind_in ks) (sym (e.rolls-Or a b)) ∙ fold-roll-PlanExpr Kind (kind_step ks) (PlanExpr-F.Or a b))

  pub kind_in-If : (c a b : PlanExpr) → kind_in ks a ≡ kind_in ks (e.If c a b)
  unfolding kind_in
  kind_in-If c a b = sym (ap (kind_in ks) (sym (e.rolls-If c a b)) ∙ fold-roll-PlanExpr Kind (kind_step ks) (PlanExpr-F.If c a b))

-- ---- row chains, by what they are for the operand
module _ (nodes : List Node) (k : ℕ) (ks : List Kind) where
  abbrev Given : List Kind → Type 0
  Given js = js ≡ chain_kinds ks (tree_at (trees nodes) k)

  foreach_kinds : (ts : List Tree) (from : ℕ) (items : List PlanExpr) (o : Option Node) → group_node o ≡ None → chain_kinds ks (foreach_tree ts from items o) ≡ map (kind_in (chain_kinds ks (tree_at ts from))) items
  foreach_kinds ts from items None e = refl
  foreach_kinds ts from items (Some (node.Load i)) e = refl
  foreach_kinds ts from items (Some (node.Filter g c)) e = refl
  foreach_kinds ts from items (Some (node.Foreach g is)) e = refl
  foreach_kinds ts from items (Some (node.Group source columns)) e = absurd cc
  foreach_kinds ts from items (Some (node.Join l lb r rb)) e = refl
  foreach_kinds ts from items (Some (node.Union arms)) e = refl
  foreach_kinds ts from items (Some (node.Distinct g)) e = refl

  group_kinds : (ts : List Tree) (from : ℕ) (items : List PlanExpr) (o : Option Node) (g : ℕ × List ℕ) → group_node o ≡ Some g → chain_kinds ks (foreach_tree ts from items o) ≡ []
  group_kinds ts from items None g e = absurd cc
  group_kinds ts from items (Some (node.Load i)) g e = absurd cc
  group_kinds ts from items (Some (node.Filter h c)) g e = absurd cc
  group_kinds ts from items (Some (node.Foreach h is)) g e = absurd cc
  group_kinds ts from items (Some (node.Group source columns)) g e = refl
  group_kinds ts from items (Some (node.Join l lb r rb)) g e = absurd cc
  group_kinds ts from items (Some (node.Union arms)) g e = absurd cc
  group_kinds ts from items (Some (node.Distinct h)) g e = absurd cc

  pub of_node : (n : Node) → Some n ≡ slice_get nodes k → (js : List Kind) → ((ts : List Tree) → js ≡ chain_kinds ks (tree_of nodes ts n)) → Given js
  of_node n e js is = let t = at nodes k n e in is t.ts ∙ ap (chain_kinds ks) (sym t.is)

  pub no_node : None ≡ slice_get nodes k → Given []
  no_node e = sym (ap (chain_kinds ks) (nowhere nodes k e))

  pub late_filter : (from : ℕ) (c : PlanExpr) → Some (node.Filter from c) ≡ slice_get nodes k → k ≤ from → Given []
  late_filter from c e h = let t = at nodes k (node.Filter from c) e in sym (ap (chain_kinds ks) t.is ∙ ap (chain_kinds ks) (t.none from h))

  pub over_filter : (from : ℕ) (c : PlanExpr) → Some (node.Filter from c) ≡ slice_get nodes k → from < k → (js : List Kind) → js ≡ chain_kinds ks (tree_at (trees nodes) from) → Given js
  over_filter from c e h js is = let t = at nodes k (node.Filter from c) e in is ∙ sym (ap (chain_kinds ks) t.is ∙ ap (chain_kinds ks) (t.same from h))

  pub over_group : (from : ℕ) (items : List PlanExpr) → Some (node.Foreach from items) ≡ slice_get nodes k → (g : ℕ × List ℕ) → Some g ≡ group_node (slice_get nodes from) → Given []
  over_group from items e g bag =
      let t = at nodes k (node.Foreach from items) e in
      sym (ap (chain_kinds ks) t.is ∙ group_kinds t.ts from items (slice_get nodes from) g (sym bag))

  over_rows : (from : ℕ) (items : List PlanExpr) → Some (node.Foreach from items) ≡ slice_get nodes k → None ≡ group_node (slice_get nodes from) → (ts : List Tree) → tree_at (trees nodes) k ≡ tree_of nodes ts (node.Foreach from items)
      → (s : Tree) → tree_at ts from ≡ s → (js : List Kind) → js ≡ map (kind_in (chain_kinds ks s)) items → Given js
  over_rows from items e rows ts is s same js made =
      made ∙ ap (λ (t : Tree). map (kind_in (chain_kinds ks t)) items) (sym same) ∙ sym (ap (chain_kinds ks) is ∙ foreach_kinds ts from items (slice_get nodes from) (sym rows))

  pub late_foreach : (from : ℕ) (items : List PlanExpr) → Some (node.Foreach from items) ≡ slice_get nodes k → None ≡ group_node (slice_get nodes from) → k ≤ from → (js : List Kind) → js ≡ map (kind_in []) items → Given js
  late_foreach from items e rows h js made =
      let t = at nodes k (node.Foreach from items) e in
      over_rows from items e rows t.ts t.is Nothing (t.none from h) js made

  pub over_foreach : (from : ℕ) (items : List PlanExpr) → Some (node.Foreach from items) ≡ slice_get nodes k → None ≡ group_node (slice_get nodes from) → from < k
      → (hs : List Kind) → hs ≡ chain_kinds ks (tree_at (trees nodes) from) → (js : List Kind) → js ≡ map (kind_in hs) items → Given js
  over_foreach from items e rows h hs is js made =
      let t = at nodes k (node.Foreach from items) e in
      over_rows from items e rows t.ts t.is (tree_at (trees nodes) from) (t.same from h) js (made ∙ ap (λ (xs : List Kind). map (kind_in xs) items) is)

  -- the same of what a call answers
  abbrev If : Result (Vec Kind Global) AllocError → Type 0
  If r = IfOk r (λ js. Given js.items)

  pub loaded : (i : ℕ) → Some (node.Load i) ≡ slice_get nodes k → (r : Result (Vec Kind Global) AllocError) → IfOk r (λ js. js.items ≡ ks) → If r
  loaded i e (Ok js) is = of_node (node.Load i) e js.items (λ ts. is)
  loaded i e (Err x) is = tt

  pub filtered : (from : ℕ) (c : PlanExpr) → Some (node.Filter from c) ≡ slice_get nodes k → from < k → (r : Result (Vec Kind Global) AllocError) → IfOk r (λ js. js.items ≡ chain_kinds ks (tree_at (trees nodes) from)) → If r
  filtered from c e h (Ok js) is = over_filter from c e h js.items is
  filtered from c e h (Err x) is = tt

  pub made_late : (from : ℕ) (items : List PlanExpr) → Some (node.Foreach from items) ≡ slice_get nodes k → None ≡ group_node (slice_get nodes from) → k ≤ from
      → (own : List PlanExpr) → own ≡ items → (r : Result (Vec Kind Global) AllocError) → IfOk r (λ js. js.items ≡ map (kind_in []) own) → If r
  made_late from items e rows h own same (Ok js) is = late_foreach from items e rows h js.items (is ∙ ap (map (kind_in [])) same)
  made_late from items e rows h own same (Err x) is = tt

  pub made_of : (from : ℕ) (items : List PlanExpr) → Some (node.Foreach from items) ≡ slice_get nodes k → None ≡ group_node (slice_get nodes from) → from < k
      → (hs : List Kind) → hs ≡ chain_kinds ks (tree_at (trees nodes) from) → (own : List PlanExpr) → own ≡ items → (r : Result (Vec Kind Global) AllocError) → IfOk r (λ js. js.items ≡ map (kind_in hs) own) → If r
  made_of from items e rows h hs before own same (Ok js) is = over_foreach from items e rows h hs before js.items (is ∙ ap (map (kind_in hs)) same)
  made_of from items e rows h hs before own same (Err x) is = tt
