-- The rows that a plan groups are of the kinds that its state's sorts say.
use Rattle.std.specs.Prelude.{◌≡◌, ℕ, zero, suc, ◌<◌, true, List, [], ◌∷◌, map, flat_map, slice_get, Option, Some, None, refl}
use Rattle.std.proofs.Common.{ap, sym, ◌∙◌, subst, arith}
use Rattle.nova_value.specs.declared.value.Kind.{Kind}
use Rattle.nova_value.specs.Rows.{Shape, FitKinds, kinds}
use Rattle.nova_pig_algebra.specs.declared.node.PlanExpr.{PlanExpr}
use Rattle.nova_pig_algebra.specs.declared.node.Node.{Node}
use Rattle.nova_pig_algebra.specs.declared.node.Node.TheVariants as node
use Rattle.nova_pig_algebra.specs.Meaning.{Row, calls, made, no_calls}
use Rattle.nova_pig_algebra.specs.Tree.{Tree, Nothing, Load, Filter, Foreach, Grouped, Join, Union, Distinct, tree_at, trees, arms_at, foreach_tree, tree_of}
use Rattle.nova_pig_algebra.specs.Sorts.{Over, Row as OverRows, Bag}
use Rattle.nova_pig_algebra.specs.Kinds.{item_kinds, as_rows, foreach_over}
use Rattle.nova_pig_algebra.specs.Literals.{all_have_values}
use Rattle.nova_pig_algebra.specs.Plan.{Plan, IsPlan, tree_of_plan, kinds_of_inputs}
use Rattle.nova_pig_algebra.proofs.KindsOfNodes.{filter_from, foreach_from, group_from}
use Rattle.nova_pig_algebra.proofs.KindsOfValues.{made_fits, over_row}
use Rattle.nova_pig_pattern.specs.Shapes.{IsChain, IsGrouped}
use Rattle.nova_pig_rows.specs.ChainRows.{chain_row}
use Rattle.nova_state.specs.Plan.{Parts, parts, or_nothing}
use Rattle.nova_state.specs.Sorts.{chain_kinds, first_input, kind_in}
use Rattle.nova_state.proofs.ByPlaces.{kept_is, remade_is}
use Rattle.nova_state.proofs.KindsInTurn.{Here, here_at, values_at_node}
use Rattle.nova_state.proofs.KindsOfCalls.{AllSum, items_are, items_sum}
use Rattle.nova_state.proofs.PlanNodes.{at, nowhere}

-- rows that a chain gives of rows of these kinds are of its kinds
abbrev pub Fits : List Kind → Tree → Type 0
Fits own t = (row r : Row) → FitKinds own row → chain_row t row ≡ Some r → FitKinds (chain_kinds own t) r

-- a chain's rows are of these kinds
abbrev Makes : List Kind → Tree → List Kind → Type 0
Makes own t ks = (chain_kinds own t ≡ ks) × Fits own t

-- so are the rows that a GROUP groups, and its sums are of numbers
abbrev pub IsSound : List Kind → Parts → Type 0
IsSound own g = Fits own g.source × AllSum (chain_kinds own g.source) (flat_map calls g.items)

-- ---- step by step
of_input : (inputs : List Shape) (ks : List Kind) → slice_get (kinds_of_inputs inputs) 0 ≡ Some ks → kinds (first_input inputs).columns ≡ ks
of_input [] ks e = absurd cc
of_input (s ∷ inputs) ks e = cc

makes_load : (own ks : List Kind) (i : ℕ) → own ≡ ks → Makes own (Load i) ks
makes_load own ks i e = (e, λ row r fit is. let same : row ≡ r = cc in subst (FitKinds own) same fit)

makes_filter : (own ks : List Kind) (t : Tree) (c : PlanExpr) → Makes own t ks → Makes own (Filter t c) ks
makes_filter own ks t c m = (m.0, λ row r fit is. m.1 row r fit (kept_is c (chain_row t row) r is))

foreach_kinds : (own hs js : List Kind) (t : Tree) (items : List PlanExpr) → chain_kinds own t ≡ hs → item_kinds (OverRows hs) items ≡ Some js → chain_kinds own (Foreach t items) ≡ js
foreach_kinds own hs js t items same e = ap (λ (ks : List Kind). map (kind_in ks) items) same ∙ items_are hs items js e

makes_foreach : (own hs js : List Kind) (t : Tree) (items : List PlanExpr) → Makes own t hs → item_kinds (OverRows hs) items ≡ Some js → all_have_values items ≡ true → Makes own (Foreach t items) js
makes_foreach own hs js t items m e values =
    let is = foreach_kinds own hs js t items m.0 e in (
      is,
      λ row r fit given.
          let q = remade_is items (chain_row t row) r given in
          let before = subst (λ ks. FitKinds ks q.0) m.0 (m.1 row q.0 fit q.1) in
          subst (FitKinds (chain_kinds own (Foreach t items))) (sym q.2)
          (subst (λ ks. FitKinds ks (made items q.0 no_calls)) (sym is) (made_fits (OverRows hs) q.0 no_calls (over_row hs q.0 no_calls before) items values js e)),
    )

no_bag : (o : Option (List Kind)) (bs ks : List Kind) → as_rows o ≡ Some (Bag bs ks) → ⊥
no_bag None bs ks e = cc
no_bag (Some js) bs ks e = cc

rows_are : (o : Option (List Kind)) (ks : List Kind) → as_rows o ≡ Some (OverRows ks) → o ≡ Some ks
rows_are None ks e = absurd cc
rows_are (Some js) ks e = cc

-- ---- node by node
module _ (p : Plan) (is : IsPlan p) where
  abbrev Own : List Kind
  Own = kinds (first_input p.inputs).columns

  abbrev Inputs : List (List Kind)
  Inputs = kinds_of_inputs p.inputs

  abbrev All : List Over
  All = is.kinded.all

  abbrev T : ℕ → Tree
  T k = tree_at (trees p.nodes) k

  here : (k : ℕ) (n : Node) → slice_get p.nodes k ≡ Some n → Here Inputs All k n
  here k n e = here_at Inputs p.nodes [] All k k n is.kinded.nodes e (omega arith)

  -- a chain's node gives rows
  abbrev NoBag : ℕ → Type 0
  NoBag k = (bs ks : List Kind) → slice_get All k ≡ Some (Bag bs ks) → IsChain 0 (T k) → ⊥

  bag_node : (k : ℕ) (n : Node) → slice_get p.nodes k ≡ Some n → (h : Here Inputs All k n) → (bs ks : List Kind) → h.over ≡ Bag bs ks → (ts : List Tree) → IsChain 0 (tree_of p.nodes ts n) → ⊥
  bag_node k (node.Load i) e h bs ks bag ts w = no_bag (slice_get Inputs i) bs ks (h.here ∙ ap (λ (o : Over). let x : Option Over = Some o in x) bag)
  bag_node k (node.Filter from c) e h bs ks bag ts w = let q = filter_from c (slice_get h.done from) h.over h.here in let no : OverRows q.0 ≡ Bag bs ks = sym q.2 ∙ bag in cc
  bag_node k (node.Foreach from items) e h bs ks bag ts w = let q = foreach_from items (slice_get h.done from) h.over h.here in let no : OverRows q.made_of ≡ Bag bs ks = sym q.is ∙ bag in cc
  bag_node k (node.Group from columns) e h bs ks bag ts w = w
  bag_node k (node.Join l lb r rb) e h bs ks bag ts w = w
  bag_node k (node.Union arms) e h bs ks bag ts w = w
  bag_node k (node.Distinct from) e h bs ks bag ts w = w

  no_bag_at : (k : ℕ) (o : Option Node) → slice_get p.nodes k ≡ o → NoBag k
  no_bag_at k None e bs ks bag w = subst (IsChain 0) (nowhere p.nodes k (sym e)) w
  no_bag_at k (Some n) e bs ks bag w =
      let h = here k n e in
      let over : h.over ≡ Bag bs ks = let same : ◌≡◌ {A = Option Over} (Some h.over) (Some (Bag bs ks)) = sym h.is ∙ bag in cc in
      let t = at p.nodes k n (sym e) in
      bag_node k n e h bs ks over t.ts (subst (IsChain 0) t.is w)

  abbrev Chain : ℕ → Type 0
  Chain k = (ks : List Kind) → slice_get All k ≡ Some (OverRows ks) → IsChain 0 (T k) → Makes Own (T k) ks

  -- a FOREACH over a GROUP is no chain, over any other node one where that is
  over_rows : (ts : List Tree) (from : ℕ) (items : List PlanExpr) (o : Option Node) → IsChain 0 (foreach_tree ts from items o) → (foreach_tree ts from items o ≡ Foreach (tree_at ts from) items) × IsChain 0 (tree_at ts from)
  over_rows ts from items (Some (node.Group source columns)) w = absurd w
  over_rows ts from items None w = (refl, w)
  over_rows ts from items (Some (node.Load i)) w = (refl, w)
  over_rows ts from items (Some (node.Filter f c)) w = (refl, w)
  over_rows ts from items (Some (node.Foreach f xs)) w = (refl, w)
  over_rows ts from items (Some (node.Join l lb r rb)) w = (refl, w)
  over_rows ts from items (Some (node.Union arms)) w = (refl, w)
  over_rows ts from items (Some (node.Distinct f)) w = (refl, w)

  module _ (k : ℕ) (below : (j : ℕ) → j < k → Chain j) where
    foreach_makes : (from : ℕ) (items : List PlanExpr) → slice_get p.nodes k ≡ Some (node.Foreach from items) → (h : Here Inputs All k (node.Foreach from items)) → (ts : List Tree) → ((j : ℕ) → j < k → tree_at ts j ≡ T j)
        → IsChain 0 (tree_at ts from) → (source : Over) (js : List Kind) → slice_get h.done from ≡ Some source → item_kinds source items ≡ Some js → Makes Own (Foreach (tree_at ts from) items) js
    foreach_makes from items e h ts same w (OverRows hs) js has each =
        let j = h.same from (OverRows hs) has in
        let tree = same from j.0 in
        makes_foreach Own hs js (tree_at ts from) items (subst (λ t. Makes Own t hs) (sym tree) (below from j.0 hs j.1 (subst (IsChain 0) tree w))) each
        (values_at_node p.nodes k (node.Foreach from items) is.literals e)
    foreach_makes from items e h ts same w (Bag bs ks) js has each =
        let j = h.same from (Bag bs ks) has in
        absurd (no_bag_at from (slice_get p.nodes from) refl bs ks j.1 (subst (IsChain 0) (same from j.0) w))

    node_makes : (n : Node) → slice_get p.nodes k ≡ Some n → (h : Here Inputs All k n) → (ks : List Kind) → h.over ≡ OverRows ks → (ts : List Tree) → ((j : ℕ) → j < k → tree_at ts j ≡ T j)
        → IsChain 0 (tree_of p.nodes ts n) → Makes Own (tree_of p.nodes ts n) ks
    node_makes (node.Load i) e h ks over ts same w =
        let own : slice_get Inputs i ≡ Some ks = rows_are (slice_get Inputs i) ks (h.here ∙ ap (λ (o : Over). let x : Option Over = Some o in x) over) in
        makes_load Own ks i (of_input p.inputs ks (ap (slice_get Inputs) (sym w) ∙ own))
    node_makes (node.Filter from c) e h ks over ts same w =
        let q = filter_from c (slice_get h.done from) h.over h.here in
        let kinds_are : q.0 ≡ ks = let both : OverRows q.0 ≡ OverRows ks = sym q.2 ∙ over in cc in
        let j = h.same from (OverRows q.0) q.1 in
        let tree = same from j.0 in
        makes_filter Own ks (tree_at ts from) c (subst (λ t. Makes Own t ks) (sym tree) (subst (Makes Own (T from)) kinds_are (below from j.0 q.0 j.1 (subst (IsChain 0) tree w))))
    node_makes (node.Foreach from items) e h ks over ts same w =
        let q = foreach_from items (slice_get h.done from) h.over h.here in
        let kinds_are : q.made_of ≡ ks = let both : OverRows q.made_of ≡ OverRows ks = sym q.is ∙ over in cc in
        let rows = over_rows ts from items (slice_get p.nodes from) w in
        subst (Makes Own (foreach_tree ts from items (slice_get p.nodes from))) kinds_are
        (subst (λ t. Makes Own t q.made_of) (sym rows.0) (foreach_makes from items e h ts same rows.1 q.source q.made_of q.from q.each))
    node_makes (node.Group from columns) e h ks over ts same w = absurd w
    node_makes (node.Join l lb r rb) e h ks over ts same w = absurd w
    node_makes (node.Union arms) e h ks over ts same w = absurd w
    node_makes (node.Distinct from) e h ks over ts same w = absurd w

    chain_at : (o : Option Node) → slice_get p.nodes k ≡ o → Chain k
    chain_at None e ks rows w = absurd (subst (IsChain 0) (nowhere p.nodes k (sym e)) w)
    chain_at (Some n) e ks rows w =
        let h = here k n e in
        let over : h.over ≡ OverRows ks = let both : ◌≡◌ {A = Option Over} (Some h.over) (Some (OverRows ks)) = sym h.is ∙ rows in cc in
        let t = at p.nodes k n (sym e) in
        subst (λ u. Makes Own u ks) (sym t.is) (node_makes n e h ks over t.ts t.same (subst (IsChain 0) t.is w))

  chain_below : (n k : ℕ) → k < n → Chain k
  chain_below zero k lt = absurd (omega (arith, lt))
  chain_below (suc n) k lt = chain_at k (λ j less. chain_below n j (omega (arith, lt, less))) (slice_get p.nodes k) refl

  chain : (k : ℕ) → Chain k
  chain k = chain_below (suc k) k (omega arith)

  -- ---- the GROUP on which a node stands
  abbrev Grouping : ℕ → Type 0
  Grouping k = IsGrouped 0 (T k) → IsSound Own (or_nothing (parts (T k)))

  bag_of : (from : ℕ) (source : ℕ) (columns : List ℕ) → slice_get p.nodes from ≡ Some (node.Group source columns) → (so : Over) → slice_get All from ≡ Some so
      → (bs : List Kind) × (own : List Kind) × (so ≡ Bag bs own) × (source < from) × (slice_get All source ≡ Some (OverRows own))
  bag_of from source columns e so has =
      let h = here from (node.Group source columns) e in
      let q = group_from columns (slice_get h.done source) h.over h.here in
      let j = h.same source (OverRows q.own) q.from in
      let same : so ≡ h.over = let both : ◌≡◌ {A = Option Over} (Some so) (Some h.over) = sym has ∙ h.is in cc in
      (q.bys, q.own, same ∙ q.is, j.0, j.1)

  -- a FOREACH over a GROUP
  group_sound : (from source : ℕ) (columns : List ℕ) (items : List PlanExpr) (js : List Kind) (so : Over) → slice_get p.nodes from ≡ Some (node.Group source columns) → slice_get All from ≡ Some so → item_kinds so items ≡ Some js
      → (t : Tree) → (source < from → t ≡ T source) → IsChain 0 t → IsSound Own (record { source = t; columns = columns; items = items })
  group_sound from source columns items js so e has each t same w =
      let b = bag_of from source columns e so has in
      let tree = same b.3 in
      let m = chain source b.1 b.4 (subst (IsChain 0) tree w) in
      let calls_sum = items_sum b.0 b.1 items js (subst (λ o. item_kinds o items ≡ Some js) b.2 each) in
      subst (λ u. IsSound Own (record { source = u; columns = columns; items = items })) (sym tree) (m.1, subst (λ ks. AllSum ks (flat_map calls items)) (sym m.0) calls_sum)

  module _ (k : ℕ) (below : (j : ℕ) → j < k → Grouping j) where
    down : (from : ℕ) (ts : List Tree) → ((j : ℕ) → j < k → tree_at ts j ≡ T j) → from < k → IsGrouped 0 (tree_at ts from) → IsSound Own (or_nothing (parts (tree_at ts from)))
    down from ts same lt w =
        let tree = same from lt in
        subst (λ t. IsSound Own (or_nothing (parts t))) (sym tree) (below from lt (subst (IsGrouped 0) tree w))

    foreach_sound : (from : ℕ) (items : List PlanExpr) → (ts : List Tree) → ((j : ℕ) → j < k → tree_at ts j ≡ T j) → from < k → (so : Over) (js : List Kind) → slice_get All from ≡ Some so → item_kinds so items ≡ Some js
        → (o : Option Node) → slice_get p.nodes from ≡ o → IsGrouped 0 (foreach_tree ts from items o) → IsSound Own (or_nothing (parts (foreach_tree ts from items o)))
    foreach_sound from items ts same lt so js has each (Some (node.Group source columns)) e w =
        group_sound from source columns items js so e has each (tree_at ts source) (λ less. same source (omega (arith, lt, less))) w
    foreach_sound from items ts same lt so js has each None e w = down from ts same lt w
    foreach_sound from items ts same lt so js has each (Some (node.Load i)) e w = down from ts same lt w
    foreach_sound from items ts same lt so js has each (Some (node.Filter f c)) e w = down from ts same lt w
    foreach_sound from items ts same lt so js has each (Some (node.Foreach f xs)) e w = down from ts same lt w
    foreach_sound from items ts same lt so js has each (Some (node.Join l lb r rb)) e w = down from ts same lt w
    foreach_sound from items ts same lt so js has each (Some (node.Union arms)) e w = down from ts same lt w
    foreach_sound from items ts same lt so js has each (Some (node.Distinct f)) e w = down from ts same lt w

    node_sound : (n : Node) → (h : Here Inputs All k n) → (ts : List Tree) → ((j : ℕ) → j < k → tree_at ts j ≡ T j) → IsGrouped 0 (tree_of p.nodes ts n) → IsSound Own (or_nothing (parts (tree_of p.nodes ts n)))
    node_sound (node.Filter from c) h ts same w =
        let q = filter_from c (slice_get h.done from) h.over h.here in
        let j = h.same from (OverRows q.0) q.1 in
        down from ts same j.0 w
    node_sound (node.Foreach from items) h ts same w =
        let q = foreach_from items (slice_get h.done from) h.over h.here in
        let j = h.same from q.source q.from in
        foreach_sound from items ts same j.0 q.source q.made_of j.1 q.each (slice_get p.nodes from) refl w
    node_sound (node.Load i) h ts same w = absurd w
    node_sound (node.Group from columns) h ts same w = absurd w
    node_sound (node.Join l lb r rb) h ts same w = absurd w
    node_sound (node.Union arms) h ts same w = absurd w
    node_sound (node.Distinct from) h ts same w = absurd w

    sound_at : (o : Option Node) → slice_get p.nodes k ≡ o → Grouping k
    sound_at None e w = absurd (subst (IsGrouped 0) (nowhere p.nodes k (sym e)) w)
    sound_at (Some n) e w =
        let t = at p.nodes k n (sym e) in
        subst (λ u. IsSound Own (or_nothing (parts u))) (sym t.is) (node_sound n (here k n e) t.ts t.same (subst (IsGrouped 0) t.is w))

  sound_below : (n k : ℕ) → k < n → Grouping k
  sound_below zero k lt = absurd (omega (arith, lt))
  sound_below (suc n) k lt = sound_at k (λ j less. sound_below n j (omega (arith, lt, less))) (slice_get p.nodes k) refl

  -- the rows that the plan groups
  pub sources_fit : IsGrouped 0 (tree_of_plan p) → IsSound Own (or_nothing (parts (tree_of_plan p)))
  sources_fit w = sound_below (suc p.stored) p.stored (omega arith) w
