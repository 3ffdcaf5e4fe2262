-- The GROUP under a node, and the places of its BY values, by what they are for the operand.
use Rattle.std.specs.Prelude.{◌≡◌, ℕ, zero, suc, ◌<◌, ◌≤◌, nat_lt, Bool, true, false, if◌then◌else◌, List, [], ◌∷◌, slice_get, Option, Some, None, refl}
use Rattle.std.proofs.Common.{ap, sym, ◌∙◌, arith}
use Rattle.std.proofs.lemmas.Bool.Decides.{nat_tests}
use Rattle.nova_pig_algebra.specs.declared.node.PlanExpr.{PlanExpr}
use Rattle.nova_pig_algebra.specs.declared.node.Node.{Node}
use Rattle.nova_pig_algebra.specs.declared.node.Node.TheVariants as node
use Rattle.nova_pig_algebra.specs.Tree.{Tree, Nothing, tree_at, foreach_tree, tree_of, trees}
use Rattle.nova_pig_rows.proofs.ChainRows.{past_end, none_past, before, missing}
use Rattle.nova_state.specs.Plan.{Parts, parts, by_place, item_place}
use Rattle.nova_state.specs.Calls.{group_node, tree_of_source, if_earlier}

-- what is said of a tree, by what it says of the operand's
module _ (nodes : List Node) (k : ℕ) where
  -- the tree of a node, where its operands' trees are earlier
  pub record At (n : Node) : Type 0 where
    pub ts : List Tree
    pub is : tree_at (trees nodes) k ≡ tree_of nodes ts n
    pub same : (j : ℕ) → j < k → tree_at ts j ≡ tree_at (trees nodes) j
    pub none : (j : ℕ) → k ≤ j → tree_at ts j ≡ Nothing

  pub at : (n : Node) → Some n ≡ slice_get nodes k → At n
  at n e =
      let b = before nodes [] nodes k k n (sym e) (omega arith) in
      record { ts = b.ts; is = b.is; same = b.same; none = λ j h. past_end b.ts j (omega (arith, b.many, h)) }

  pub nowhere : None ≡ slice_get nodes k → tree_at (trees nodes) k ≡ Nothing
  nowhere e = let h = missing nodes k (sym e) in none_past nodes [] nodes k (omega arith)

  source_is : (ts : List Tree) → ((j : ℕ) → j < k → tree_at ts j ≡ tree_at (trees nodes) j) → ((j : ℕ) → k ≤ j → tree_at ts j ≡ Nothing) → (source : ℕ) → tree_of_source nodes (if_earlier source k) ≡ tree_at ts source
  source_is ts same none source = go (nat_lt source k) refl
    where
      go : (b : Bool) → nat_lt source k ≡ b → tree_of_source nodes (if b then Some source else None) ≡ tree_at ts source
      go true e = sym (same source (grind (arith, nat_tests, e)))
      go false e = sym (none source (grind (arith, nat_tests, e)))

  foreach_parts : (ts : List Tree) (from : ℕ) (items : List PlanExpr) (o : Option Node) → group_node o ≡ None → parts (foreach_tree ts from items o) ≡ parts (tree_at ts from)
  foreach_parts ts from items None e = refl
  foreach_parts ts from items (Some (node.Load i)) e = refl
  foreach_parts ts from items (Some (node.Filter g c)) e = refl
  foreach_parts ts from items (Some (node.Foreach g is)) e = refl
  foreach_parts ts from items (Some (node.Group source columns)) e = absurd cc
  foreach_parts ts from items (Some (node.Join l lb r rb)) e = refl
  foreach_parts ts from items (Some (node.Union arms)) e = refl
  foreach_parts ts from items (Some (node.Distinct g)) e = refl

  group_parts : (ts : List Tree) (from : ℕ) (items : List PlanExpr) (o : Option Node) (source : ℕ) (columns : List ℕ) → group_node o ≡ Some (source, columns)
      → parts (foreach_tree ts from items o) ≡ Some (record { source = tree_at ts source; columns = columns; items = items })
  group_parts ts from items None source columns e = absurd cc
  group_parts ts from items (Some (node.Load i)) source columns e = absurd cc
  group_parts ts from items (Some (node.Filter g c)) source columns e = absurd cc
  group_parts ts from items (Some (node.Foreach g is)) source columns e = absurd cc
  group_parts ts from items (Some (node.Group s cs)) source columns e =
      let both : ◌≡◌ {A = ℕ × List ℕ} (s, cs) (source, columns) = cc in
      λ i. Some (record { source = tree_at ts (both i).0; columns = (both i).1; items = items })
  group_parts ts from items (Some (node.Join l lb r rb)) source columns e = absurd cc
  group_parts ts from items (Some (node.Union arms)) source columns e = absurd cc
  group_parts ts from items (Some (node.Distinct g)) source columns e = absurd cc

  abbrev Given : Option Parts → Type 0
  Given o = o ≡ parts (tree_at (trees nodes) k)

  pub no_parts : (n : Node) → Some n ≡ slice_get nodes k → ((ts : List Tree) → parts (tree_of nodes ts n) ≡ None) → Given None
  no_parts n e none = let t = at n e in sym (ap parts t.is ∙ none t.ts)

  pub no_node : None ≡ slice_get nodes k → Given None
  no_node e = sym (ap parts (nowhere e))

  pub filter_late : (from : ℕ) (c : PlanExpr) → Some (node.Filter from c) ≡ slice_get nodes k → k ≤ from → Given None
  filter_late from c e h = let t = at (node.Filter from c) e in sym (ap parts t.is ∙ ap parts (t.none from h))

  pub filter_is : (from : ℕ) (c : PlanExpr) → Some (node.Filter from c) ≡ slice_get nodes k → from < k → (o : Option Parts) → o ≡ parts (tree_at (trees nodes) from) → Given o
  filter_is from c e h o is = let t = at (node.Filter from c) e in is ∙ sym (ap parts t.is ∙ ap parts (t.same from h))

  pub over_group : (from : ℕ) (items : List PlanExpr) → Some (node.Foreach from items) ≡ slice_get nodes k → (source : ℕ) (columns : List ℕ) → Some (source, columns) ≡ group_node (slice_get nodes from)
      → Given (Some (record { source = tree_of_source nodes (if_earlier source k); columns = columns; items = items }))
  over_group from items e source columns bag =
      let t = at (node.Foreach from items) e in
      ap (λ (s : Tree). let o : Option Parts = Some (record { source = s; columns = columns; items = items }) in o) (source_is t.ts t.same t.none source)
      ∙ sym (ap parts t.is ∙ group_parts t.ts from items (slice_get nodes from) source columns (sym bag))

  pub foreach_late : (from : ℕ) (items : List PlanExpr) → Some (node.Foreach from items) ≡ slice_get nodes k → None ≡ group_node (slice_get nodes from) → k ≤ from → Given None
  foreach_late from items e rows h =
      let t = at (node.Foreach from items) e in
      sym (ap parts t.is ∙ foreach_parts t.ts from items (slice_get nodes from) (sym rows) ∙ ap parts (t.none from h))

  pub foreach_is : (from : ℕ) (items : List PlanExpr) → Some (node.Foreach from items) ≡ slice_get nodes k → None ≡ group_node (slice_get nodes from) → from < k
      → (o : Option Parts) → o ≡ parts (tree_at (trees nodes) from) → Given o
  foreach_is from items e rows h o is =
      let t = at (node.Foreach from items) e in
      is ∙ sym (ap parts t.is ∙ foreach_parts t.ts from items (slice_get nodes from) (sym rows) ∙ ap parts (t.same from h))

  -- ---- places
  place_over : (ts : List Tree) (from : ℕ) (items : List PlanExpr) (o : Option Node) (p : ℕ) → group_node o ≡ None → by_place (foreach_tree ts from items o) p ≡ by_place (tree_at ts from) (item_place items p)
  place_over ts from items None p e = refl
  place_over ts from items (Some (node.Load i)) p e = refl
  place_over ts from items (Some (node.Filter g c)) p e = refl
  place_over ts from items (Some (node.Foreach g is)) p e = refl
  place_over ts from items (Some (node.Group source columns)) p e = absurd cc
  place_over ts from items (Some (node.Join l lb r rb)) p e = refl
  place_over ts from items (Some (node.Union arms)) p e = refl
  place_over ts from items (Some (node.Distinct g)) p e = refl

  place_group : (ts : List Tree) (from : ℕ) (items : List PlanExpr) (o : Option Node) (p : ℕ) (g : ℕ × List ℕ) → group_node o ≡ Some g → by_place (foreach_tree ts from items o) p ≡ item_place items p
  place_group ts from items None p g e = absurd cc
  place_group ts from items (Some (node.Load i)) p g e = absurd cc
  place_group ts from items (Some (node.Filter h c)) p g e = absurd cc
  place_group ts from items (Some (node.Foreach h is)) p g e = absurd cc
  place_group ts from items (Some (node.Group s cs)) p g e = refl
  place_group ts from items (Some (node.Join l lb r rb)) p g e = absurd cc
  place_group ts from items (Some (node.Union arms)) p g e = absurd cc
  place_group ts from items (Some (node.Distinct h)) p g e = absurd cc

  module _ (p : ℕ) where
    abbrev Stands : ℕ → Type 0
    Stands n = n ≡ by_place (tree_at (trees nodes) k) p

    pub no_place : (n : Node) → Some n ≡ slice_get nodes k → ((ts : List Tree) → by_place (tree_of nodes ts n) p ≡ 0) → Stands 0
    no_place n e none = let t = at n e in sym (ap (λ (s : Tree). by_place s p) t.is ∙ none t.ts)

    pub no_node_place : None ≡ slice_get nodes k → Stands 0
    no_node_place e = sym (ap (λ (s : Tree). by_place s p) (nowhere e))

    pub filter_late_place : (from : ℕ) (c : PlanExpr) → Some (node.Filter from c) ≡ slice_get nodes k → k ≤ from → Stands 0
    filter_late_place from c e h = let t = at (node.Filter from c) e in sym (ap (λ (s : Tree). by_place s p) t.is ∙ ap (λ (s : Tree). by_place s p) (t.none from h))

    pub filter_place : (from : ℕ) (c : PlanExpr) → Some (node.Filter from c) ≡ slice_get nodes k → from < k → (n : ℕ) → n ≡ by_place (tree_at (trees nodes) from) p → Stands n
    filter_place from c e h n is = let t = at (node.Filter from c) e in is ∙ sym (ap (λ (s : Tree). by_place s p) t.is ∙ ap (λ (s : Tree). by_place s p) (t.same from h))

    pub group_place : (from : ℕ) (items : List PlanExpr) → Some (node.Foreach from items) ≡ slice_get nodes k → (g : ℕ × List ℕ) → Some g ≡ group_node (slice_get nodes from) → Stands (item_place items p)
    group_place from items e g bag =
        let t = at (node.Foreach from items) e in
        sym (ap (λ (s : Tree). by_place s p) t.is ∙ place_group t.ts from items (slice_get nodes from) p g (sym bag))

    pub foreach_late_place : (from : ℕ) (items : List PlanExpr) → Some (node.Foreach from items) ≡ slice_get nodes k → None ≡ group_node (slice_get nodes from) → k ≤ from → Stands 0
    foreach_late_place from items e rows h =
        let t = at (node.Foreach from items) e in
        sym (ap (λ (s : Tree). by_place s p) t.is ∙ place_over t.ts from items (slice_get nodes from) p (sym rows) ∙ ap (λ (s : Tree). by_place s (item_place items p)) (t.none from h))

    pub foreach_place : (from : ℕ) (items : List PlanExpr) → Some (node.Foreach from items) ≡ slice_get nodes k → None ≡ group_node (slice_get nodes from) → from < k
        → (n : ℕ) → n ≡ by_place (tree_at (trees nodes) from) (item_place items p) → Stands n
    foreach_place from items e rows h n is =
        let t = at (node.Foreach from items) e in
        is ∙ sym (ap (λ (s : Tree). by_place s p) t.is ∙ place_over t.ts from items (slice_get nodes from) p (sym rows) ∙ ap (λ (s : Tree). by_place s (item_place items p)) (t.same from h))

pub item_place-at : (items : List PlanExpr) (k : ℕ) (e : PlanExpr) → Some e ≡ slice_get items k → item_place (e ∷ []) 0 ≡ item_place items k
item_place-at [] k e h = absurd cc
item_place-at (x ∷ items) zero e h = let is : e ≡ x = cc in ap (λ (y : PlanExpr). item_place (y ∷ []) 0) is
item_place-at (x ∷ items) (suc k) e h = item_place-at items k e h

pub item_place-none : (items : List PlanExpr) (k : ℕ) → None ≡ slice_get items k → 0 ≡ item_place items k
item_place-none [] k h = refl
item_place-none (x ∷ items) zero h = absurd cc
item_place-none (x ∷ items) (suc k) h = item_place-none items k h
