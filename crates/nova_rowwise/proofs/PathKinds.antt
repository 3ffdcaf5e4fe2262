-- A field has the kind of its column where a path leads it.
use Rattle.std.specs.Prelude.{◌≡◌, ◌⊎◌, ℕ, ℤ, pos, negsuc, zero, suc, nat_lt, Bool, true, ◌&&◌, List, [], ◌∷◌, ◌++◌, length, slice_get, Option, Some, None, refl}
use Rattle.std.proofs.Common.{ap, sym, ◌∙◌, inl, inr, subst, arith, length-append}
use Rattle.std.proofs.lemmas.Bool.Decides.{nat_tests}
use Rattle.std.specs.Str.{is_utf8}
use Rattle.nova_value.specs.Text.{is_clean, IsText}
use Rattle.nova_value.specs.declared.value.Value.TheVariants.{Long, Text}
use Rattle.nova_value.specs.declared.value.Kind.{Kind}
use Rattle.nova_value.specs.declared.value.Kind.TheVariants as kind
use Rattle.nova_value.specs.Rows.{Shape, IsOf, IsLong, kinds}
use Rattle.nova_pig_algebra.specs.declared.node.PlanExpr.{PlanExpr}
use Rattle.nova_pig_algebra.specs.declared.node.PlanExpr.TheOpen.{PlanExpr-F}
use Rattle.nova_pig_algebra.specs.declared.node.PlanExpr.TheViews.{out-PlanExpr, roll-PlanExpr, roll-out-PlanExpr}
use Rattle.nova_pig_algebra.specs.declared.node.PlanExpr.TheFolds.{fold-roll-PlanExpr}
use Rattle.nova_pig_algebra.specs.declared.node.Node.{Node}
use Rattle.nova_pig_algebra.specs.declared.node.Node.TheVariants as node
use Rattle.nova_pig_algebra.specs.declared.node.Sort.{Sort}
use Rattle.nova_pig_algebra.specs.declared.node.Sort.TheVariants.{Of, Condition}
use Rattle.nova_pig_algebra.specs.Tree.{Tree, Nothing, Load, Filter, Foreach, Join, Union, Distinct, End, tree_at, arms_at, foreach_tree, tree_of, trees_after}
use Rattle.nova_pig_algebra.specs.Keys.{Plain, Column, By, Constant, Computed, plain, plain_step, shape_at}
use Rattle.nova_pig_algebra.specs.Kinds.{with_kind, item_kinds, as_rows, are_rows, all_rows, node_over, and_then, nodes_over}
use Rattle.nova_pig_algebra.specs.Literals.{is_long, is_text, literals_step, has_values, all_have_values, node_has_values, nodes_have_values}
use Rattle.nova_pig_algebra.specs.Plan.{Plan, IsPlan, tree_of_plan, kinds_of_inputs}
use Rattle.nova_pig_algebra.specs.Sorts.{Over, Row as OverRows, Bag, of_kind, sort_step, sort_of}
use Rattle.nova_pig_algebra.proofs.KindsOfNodes.{rows_of_kinds, filter_from, foreach_from, group_from, join_from, union_from}
use Rattle.nova_pig_algebra.proofs.Sets.{both_true}
use Rattle.nova_rowwise.specs.Sources.{item_at, through}
use Rattle.nova_rowwise.proofs.Paths.{IsPath, IsArmPath}
use Rattle.nova_rowwise.proofs.Spread.{IsRowwise, AreRowwise}

-- a column of these kinds has the kind, if it is in range, and a constant is of it
abbrev pub HasKind : List Kind → Kind → Plain → Type 0
HasKind ks κ (Column c) = (slice_get ks c ≡ Some κ) ⊎ (slice_get ks c ≡ None)
HasKind ks κ (Constant v) = IsOf κ v
HasKind ks κ (By c) = Unit {0}
HasKind ks κ Computed = Unit {0}

-- ---- items
number_is : (n : ℤ) → is_long n ≡ true → IsLong n
number_is (pos n) e = grind (arith, nat_tests, e)
number_is (negsuc n) e = grind (arith, nat_tests, e)

text_is : (t : List ℕ) → is_text t ≡ true → IsText t
text_is t is =
    let p = both_true (nat_lt (length t) 65536 && is_clean t) (is_utf8 t) is in
    let q = both_true (nat_lt (length t) 65536) (is_clean t) p.0 in
    record { short = grind (arith, nat_tests, q.0); clean = q.1; utf8 = p.1 }

kind_of_column : (ks : List Kind) (κ : Kind) (o : Option Kind) → of_kind o ≡ Some (Of κ) → o ≡ Some κ
kind_of_column ks κ None e = absurd cc
kind_of_column ks κ (Some k) e = let same : k ≡ κ = cc in ap (λ (x : Kind). let o : Option Kind = Some x in o) same

plain_kind : (ks : List Kind) (x : PlanExpr) (κ : Kind) → sort_of (OverRows ks) x ≡ Some (Of κ) → has_values x ≡ true → HasKind ks κ (plain x)
unfolding sort_of has_values
plain_kind ks x κ s h = go (out-PlanExpr x) (sym (roll-out-PlanExpr x))
  where
    sort_at : (y : PlanExpr-F PlanExpr) → x ≡ roll-PlanExpr y → sort_of (OverRows ks) (roll-PlanExpr y) ≡ Some (Of κ)
    sort_at y is = ap (sort_of (OverRows ks)) (sym is) ∙ s

    has_at : (y : PlanExpr-F PlanExpr) → x ≡ roll-PlanExpr y → has_values (roll-PlanExpr y) ≡ true
    has_at y is = ap has_values (sym is) ∙ h

    of_long : (n : ℤ) → Some (Of kind.Long) ≡ Some (Of κ) → is_long n ≡ true → IsOf κ (Long n)
    of_long n e f = let same : kind.Long ≡ κ = cc in subst (λ k. IsOf k (Long n)) same (number_is n f)

    of_text : (t : List ℕ) → Some (Of kind.Text) ≡ Some (Of κ) → is_text t ≡ true → IsOf κ (Text t)
    of_text t e f = let same : kind.Text ≡ κ = cc in subst (λ k. IsOf k (Text t)) same (text_is t f)

    go : (y : PlanExpr-F PlanExpr) → x ≡ roll-PlanExpr y → HasKind ks κ (plain_step y)
    go (PlanExpr-F.Column k) is = inl (kind_of_column ks κ (slice_get ks k) (sym (fold-roll-PlanExpr (Option Sort) (sort_step (OverRows ks)) (PlanExpr-F.Column k)) ∙ sort_at (PlanExpr-F.Column k) is))
    go (PlanExpr-F.Num n) is = of_long n (sym (fold-roll-PlanExpr (Option Sort) (sort_step (OverRows ks)) (PlanExpr-F.Num n)) ∙ sort_at (PlanExpr-F.Num n) is) (sym (fold-roll-PlanExpr Bool literals_step (PlanExpr-F.Num n)) ∙ has_at (PlanExpr-F.Num n) is)
    go (PlanExpr-F.Lit t) is = of_text t (sym (fold-roll-PlanExpr (Option Sort) (sort_step (OverRows ks)) (PlanExpr-F.Lit t)) ∙ sort_at (PlanExpr-F.Lit t) is) (sym (fold-roll-PlanExpr Bool literals_step (PlanExpr-F.Lit t)) ∙ has_at (PlanExpr-F.Lit t) is)
    go y is = tt

record FirstKind (o : Option Sort) (ks : Option (List Kind)) (js : List Kind) : Type 0 where
  first : Kind
  rest : List Kind
  sort : o ≡ Some (Of first)
  others : ks ≡ Some rest
  is : first ∷ rest ≡ js

first_kind : (o : Option Sort) (ks : Option (List Kind)) (js : List Kind) → with_kind o ks ≡ Some js → FirstKind o ks js
first_kind (Some (Of k)) (Some ks) js e = let same : k ∷ ks ≡ js = cc in record { first = k; rest = ks; sort = refl; others = refl; is = same }
first_kind (Some (Of k)) None js e = absurd cc
first_kind (Some Condition) ks js e = absurd cc
first_kind None ks js e = absurd cc

item_kind : (ks : List Kind) (items : List PlanExpr) (js : List Kind) → item_kinds (OverRows ks) items ≡ Some js → all_have_values items ≡ true → (κ : Kind) (c : ℕ) → HasKind js κ (Column c) → HasKind ks κ (item_at items c)
item_kind ks [] js e h κ c k = tt
item_kind ks (x ∷ items) js e h κ c k = go (λ rest same d has. item_kind ks items rest same (both_true (has_values x) (all_have_values items) h).1 κ d has) (first_kind (sort_of (OverRows ks) x) (item_kinds (OverRows ks) items) js e) c k
  where
    has : (has_values x ≡ true) × (all_have_values items ≡ true)
    has = both_true (has_values x) (all_have_values items) h

    go : ((rest : List Kind) → item_kinds (OverRows ks) items ≡ Some rest → (d : ℕ) → HasKind rest κ (Column d) → HasKind ks κ (item_at items d))
        → FirstKind (sort_of (OverRows ks) x) (item_kinds (OverRows ks) items) js → (c : ℕ) → HasKind js κ (Column c) → HasKind ks κ (item_at (x ∷ items) c)
    go on f zero (inl is) = let same : f.first ≡ κ = let e : Some f.first ≡ Some κ = ap (λ zs. slice_get zs 0) f.is ∙ is in cc in subst (λ z. HasKind ks z (plain x)) same (plain_kind ks x f.first f.sort has.0)
    go on f zero (inr is) = let e : Some f.first ≡ None = ap (λ zs. slice_get zs 0) f.is ∙ is in absurd cc
    go on f (suc c) (inl is) = on f.rest f.others c (inl (ap (λ zs. slice_get zs (suc c)) f.is ∙ is))
    go on f (suc c) (inr is) = on f.rest f.others c (inr (ap (λ zs. slice_get zs (suc c)) f.is ∙ is))

kind_through : (ks : List Kind) (items : List PlanExpr) (js : List Kind) → item_kinds (OverRows ks) items ≡ Some js → all_have_values items ≡ true → (κ : Kind) (p : Plain) → HasKind js κ p → HasKind ks κ (through items p)
kind_through ks items js e h κ (Column c) k = item_kind ks items js e h κ c k
kind_through ks items js e h κ (Constant v) k = k
kind_through ks items js e h κ (By c) k = tt
kind_through ks items js e h κ Computed k = tt

-- of a JOIN's columns those of the left side
kind_on_left : (ks js : List Kind) (κ : Kind) (c : ℕ) → HasKind (ks ++ js) κ (Column c) → HasKind ks κ (Column c)
kind_on_left [] js κ c h = inr refl
kind_on_left (k ∷ ks) js κ zero h = h
kind_on_left (k ∷ ks) js κ (suc c) h = kind_on_left ks js κ c h

on_left : (ks js : List Kind) (κ : Kind) (p : Plain) → HasKind (ks ++ js) κ p → HasKind ks κ p
on_left ks js κ (Column c) h = kind_on_left ks js κ c h
on_left ks js κ (Constant v) h = h
on_left ks js κ (By c) h = tt
on_left ks js κ Computed h = tt

either : (A B C : Type 0) → (A → C) → (B → C) → A ⊎ B → C
either A B C f g (inl a) = f a
either A B C f g (inr b) = g b

-- ---- lists that grow
at_end : {X : Type 0} (xs : List X) (y : X) (ys : List X) (n : ℕ) → length xs ≡ n → slice_get (xs ++ y ∷ ys) n ≡ Some y
at_end [] y ys zero e = refl
at_end [] y ys (suc n) e = absurd cc
at_end (x ∷ xs) y ys zero e = absurd cc
at_end (x ∷ xs) y ys (suc n) e = at_end xs y ys n (omega arith)

push_each : (P : Tree → Over → Type 0) (done : List Tree) (overs : List Over) (t : Tree) (o : Over) → length done ≡ length overs
    → ((k : ℕ) (p : Over) → slice_get overs k ≡ Some p → P (tree_at done k) p) → P t o
    → (k : ℕ) (p : Over) → slice_get (overs ++ o ∷ []) k ≡ Some p → P (tree_at (done ++ t ∷ []) k) p
push_each P [] [] t o same h w zero p e = let is : o ≡ p = cc in subst (λ z. P t z) is w
push_each P [] [] t o same h w (suc k) p e = absurd cc
push_each P [] (q ∷ overs) t o same h w k p e = absurd (omega arith)
push_each P (d ∷ done) [] t o same h w k p e = absurd (omega arith)
push_each P (d ∷ done) (q ∷ overs) t o same h w zero p e = h 0 p e
push_each P (d ∷ done) (q ∷ overs) t o same h w (suc k) p e = push_each P done overs t o (omega arith) (λ j r f. h (suc j) r f) w k p e

-- ---- the nodes, from the left
module _ (inputs : List Shape) (main : ℕ) (nodes : List Node) where
  abbrev pub main_kinds : List Kind
  main_kinds = kinds (shape_at inputs main).columns

  -- what the kinds of a node say of the fields of its tree
  abbrev pub Says : Tree → Over → Type 0
  Says t (OverRows ks) = IsRowwise main t → (f : Plain → Plain) → IsPath t f → (κ : Kind) (p : Plain) → HasKind ks κ p → HasKind main_kinds κ (f p)
  Says t (Bag bs ks) = IsRowwise main t → ⊥

  record Sound (done : List Tree) (overs : List Over) : Type 0 where
    same : length done ≡ length overs
    says : (k : ℕ) (o : Over) → slice_get overs k ≡ Some o → Says (tree_at done k) o

  one_more : (done : List Tree) (overs : List Over) → Sound done overs → (t : Tree) (o : Over) → Says t o → Sound (done ++ t ∷ []) (overs ++ o ∷ [])
  one_more done overs s t o h = record {
    same = let a = s.same in let b = length-append done (t ∷ []) in let c = length-append overs (o ∷ []) in omega arith;
    says = push_each Says done overs t o s.same s.says h;
  }

  load_kinds : (ins : List Shape) (i : ℕ) (ks : List Kind) → slice_get (kinds_of_inputs ins) i ≡ Some ks → kinds (shape_at ins i).columns ≡ ks
  load_kinds [] i ks e = absurd cc
  load_kinds (s ∷ ins) zero ks e = cc
  load_kinds (s ∷ ins) (suc i) ks e = load_kinds ins i ks e

  load_says : (i : ℕ) (x : Option (List Kind)) (o : Over) → slice_get (kinds_of_inputs inputs) i ≡ x → as_rows x ≡ Some o → Says (Load i) o
  load_says i None o a e = absurd cc
  load_says i (Some ks) o a e =
      let is : OverRows ks ≡ o = cc in
      subst (Says (Load i)) is (λ w f path κ p h.
      let own : ks ≡ main_kinds = sym (load_kinds inputs i ks a) ∙ ap (λ n. kinds (shape_at inputs n).columns) w in
      subst (HasKind main_kinds κ) (sym (path p)) (subst (λ js. HasKind js κ p) own h))

  -- a FOREACH over a GROUP isn't row by row
  over_rows_alone : (done : List Tree) (from : ℕ) (items : List PlanExpr) (n : Option Node) → IsRowwise main (foreach_tree done from items n) → foreach_tree done from items n ≡ Foreach (tree_at done from) items
  over_rows_alone done from items None w = refl
  over_rows_alone done from items (Some (node.Load i)) w = refl
  over_rows_alone done from items (Some (node.Filter f c)) w = refl
  over_rows_alone done from items (Some (node.Foreach f is)) w = refl
  over_rows_alone done from items (Some (node.Group source columns)) w = absurd w
  over_rows_alone done from items (Some (node.Join l lb r rb)) w = refl
  over_rows_alone done from items (Some (node.Union arms)) w = refl
  over_rows_alone done from items (Some (node.Distinct f)) w = refl

  module _ (done : List Tree) (overs : List Over) (s : Sound done overs) where
    foreach_says : (from : ℕ) (items : List PlanExpr) → all_have_values items ≡ true → (js : List Kind) (source : Over) → slice_get overs from ≡ Some source → item_kinds source items ≡ Some js → Says (Foreach (tree_at done from) items) (OverRows js)
    foreach_says from items h js (OverRows ks) e k = λ w f path κ p has.
        subst (HasKind main_kinds κ) (sym (path.2 p)) (s.says from (OverRows ks) e w path.0 path.1 κ (through items p) (kind_through ks items js k h κ p has))
    foreach_says from items h js (Bag bs ks) e k = λ w. absurd (s.says from (Bag bs ks) e w)

    arms_say : (ks : List Kind) (arms : List ℕ) → all_rows overs ks arms ≡ true → AreRowwise main (arms_at done arms) → (f : Plain → Plain) → IsArmPath (arms_at done arms) f → (κ : Kind) (p : Plain) → HasKind ks κ p → HasKind main_kinds κ (f p)
    arms_say ks [] e w f path κ p h = absurd path
    arms_say ks (a ∷ arms) e w f path κ p h =
        let both = both_true (are_rows ks (slice_get overs a)) (all_rows overs ks arms) e in
        either (IsPath (tree_at done a) f) (IsArmPath (arms_at done arms) f) (HasKind main_kinds κ (f p))
        (λ i. s.says a (OverRows ks) (rows_of_kinds ks (slice_get overs a) both.0) w.0 f i κ p h) (λ i. arms_say ks arms both.1 w.1 f i κ p h) path

    node_says : (n : Node) → node_has_values n ≡ true → (o : Over) → node_over (kinds_of_inputs inputs) overs n ≡ Some o → Says (tree_of nodes done n) o
    node_says (node.Load i) h o e = load_says i (slice_get (kinds_of_inputs inputs) i) o refl e
    node_says (node.Filter from c) h o e =
        let p = filter_from c (slice_get overs from) o e in
        subst (Says (Filter (tree_at done from) c)) (sym p.2) (s.says from (OverRows p.0) p.1)
    node_says (node.Foreach from items) h o e =
        let p = foreach_from items (slice_get overs from) o e in
        subst (Says (foreach_tree done from items (slice_get nodes from))) (sym p.is)
        (λ w. let same = over_rows_alone done from items (slice_get nodes from) w in
        subst (λ t. (f : Plain → Plain) → IsPath t f → (κ : Kind) (q : Plain) → HasKind p.made_of κ q → HasKind main_kinds κ (f q)) (sym same)
        (foreach_says from items h p.made_of p.source p.from p.each (subst (IsRowwise main) same w)))
    node_says (node.Group from columns) h o e =
        let p = group_from columns (slice_get overs from) o e in
        subst (Says Nothing) (sym p.is) (λ w. w)
    node_says (node.Join l lb r rb) h o e =
        let p = join_from lb rb (slice_get overs l) (slice_get overs r) o e in
        subst (Says (Join (tree_at done l) lb (tree_at done r) rb)) (sym p.is) (λ w f path κ q has. s.says l (OverRows p.left) p.on_left w.0 f path κ q (on_left p.left p.right κ q has))
    node_says (node.Union []) h o e =
        let is : OverRows [] ≡ o = cc in
        subst (Says (Union End)) is (λ w f path κ p has. absurd path)
    node_says (node.Union (a ∷ arms)) h o e =
        let p = union_from overs (a ∷ arms) (slice_get overs a) o e in
        subst (Says (Union (arms_at done (a ∷ arms)))) (sym p.is) (λ w f path κ q has. arms_say p.own (a ∷ arms) p.all w f path κ q has)
    node_says (node.Distinct from) h o e = no_path o
      where
        no_path : (o : Over) → Says (Distinct (tree_at done from)) o
        no_path (OverRows ks) = λ w. absurd w
        no_path (Bag bs ks) = λ w. w

  all_sound : (rest : List Node) (done : List Tree) (overs : List Over) → Sound done overs → nodes_have_values rest ≡ true
      → (all : List Over) → nodes_over (kinds_of_inputs inputs) overs rest ≡ Some all → Sound (trees_after nodes done rest) all
  unfolding trees_after
  all_sound [] done overs s h all e = let is : overs ≡ all = cc in subst (λ z. Sound done z) is s
  all_sound (n ∷ rest) done overs s h all e =
      step (node_over (kinds_of_inputs inputs) overs n) refl e
      (λ o a f. all_sound rest (done ++ tree_of nodes done n ∷ []) (overs ++ o ∷ []) (one_more done overs s (tree_of nodes done n) o (node_says done overs s n p.0 o a)) p.1 all f)
    where
      p : (node_has_values n ≡ true) × (nodes_have_values rest ≡ true)
      p = both_true (node_has_values n) (nodes_have_values rest) h

      step : (x : Option Over) → node_over (kinds_of_inputs inputs) overs n ≡ x → and_then x (λ o. nodes_over (kinds_of_inputs inputs) (overs ++ o ∷ []) rest) ≡ Some all
          → ((o : Over) → node_over (kinds_of_inputs inputs) overs n ≡ Some o → nodes_over (kinds_of_inputs inputs) (overs ++ o ∷ []) rest ≡ Some all → Sound (trees_after nodes (done ++ tree_of nodes done n ∷ []) rest) all)
          → Sound (trees_after nodes (done ++ tree_of nodes done n ∷ []) rest) all
      step None a f go = absurd cc
      step (Some o) a f go = go o a f

-- the fields of a plan's rows
pub fields_have_kinds : (p : Plan) → IsPlan p → (main : ℕ) → IsRowwise main (tree_of_plan p) → (f : Plain → Plain) → IsPath (tree_of_plan p) f → (κ : Kind) (q : Plain) → HasKind (kinds p.output.columns) κ q → HasKind (kinds (shape_at p.inputs main).columns) κ (f q)
fields_have_kinds p is main w f path κ q h =
    let first : Sound p.inputs main p.nodes [] [] = record { same = refl; says = λ k o e. absurd cc } in
    let s = all_sound p.inputs main p.nodes p.nodes [] [] first is.literals is.kinded.all is.kinded.nodes in
    s.says p.stored (OverRows (kinds p.output.columns)) is.kinded.stored w f path κ q h
