-- FOREACHs over rows of earlier nodes, and lists that grow.
use Rattle.std.specs.Prelude.{◌≡◌, ℕ, zero, suc, ◌<◌, ◌≤◌, map, true, false, if◌then◌else◌, List, [], ◌∷◌, ◌++◌, length, Option, Some, None, refl}
use Rattle.std.proofs.Common.{ap, sym, ◌∙◌, arith, take, drop}
use Rattle.std.proofs.lemmas.List.{append_assoc}
use Rattle.nova_pig_algebra.specs.declared.node.PlanExpr.{PlanExpr}
use Rattle.nova_pig_algebra.specs.declared.node.Node.{Node}
use Rattle.nova_pig_algebra.specs.declared.node.Node.TheVariants as node
use Rattle.nova_pig_algebra.specs.Tree.{Nothing, Foreach, tree_at, trees}
use Rattle.nova_pig_algebra.specs.Keys.{Plain}
use Rattle.nova_pig_algebra.specs.Meaning.{Row}
use Rattle.nova_pig_algebra.specs.Nodes.{earlier, earlier_arms, over}
use Rattle.nova_rowwise.specs.OverRows.{over_rows}
use Rattle.nova_rowwise.specs.Sources.{through, sources, arm_sources}
use Rattle.nova_rowwise.specs.Derived.{main_of, with_main}

-- a FOREACH over rows of an earlier node
pub over_early : (nodes : List Node) (k from : ℕ) (items : List PlanExpr) (o : Option Node) → over_rows k from o ≡ true → over nodes k from items o ≡ Foreach (tree_at (trees nodes) from) items
over_early nodes k from items None e = ap (λ b. Foreach (if b then tree_at (trees nodes) from else Nothing) items) e
over_early nodes k from items (Some (node.Load i)) e = ap (λ b. Foreach (if b then tree_at (trees nodes) from else Nothing) items) e
over_early nodes k from items (Some (node.Filter f c)) e = ap (λ b. Foreach (if b then tree_at (trees nodes) from else Nothing) items) e
over_early nodes k from items (Some (node.Foreach f is)) e = ap (λ b. Foreach (if b then tree_at (trees nodes) from else Nothing) items) e
over_early nodes k from items (Some (node.Group source columns)) e = absurd cc
over_early nodes k from items (Some (node.Join l lb r rb)) e = ap (λ b. Foreach (if b then tree_at (trees nodes) from else Nothing) items) e
over_early nodes k from items (Some (node.Union arms)) e = ap (λ b. Foreach (if b then tree_at (trees nodes) from else Nothing) items) e
over_early nodes k from items (Some (node.Distinct f)) e = ap (λ b. Foreach (if b then tree_at (trees nodes) from else Nothing) items) e

-- a FOREACH over anything else gives nothing
pub no_main : (nodes : List Node) (k from : ℕ) (items : List PlanExpr) (o : Option Node) → over_rows k from o ≡ false → main_of (over nodes k from items o) ≡ 0
no_main nodes k from items None e = ap (λ b. main_of (if b then tree_at (trees nodes) from else Nothing)) e
no_main nodes k from items (Some (node.Load i)) e = ap (λ b. main_of (if b then tree_at (trees nodes) from else Nothing)) e
no_main nodes k from items (Some (node.Filter f c)) e = ap (λ b. main_of (if b then tree_at (trees nodes) from else Nothing)) e
no_main nodes k from items (Some (node.Foreach f is)) e = ap (λ b. main_of (if b then tree_at (trees nodes) from else Nothing)) e
no_main nodes k from items (Some (node.Group source columns)) e = refl
no_main nodes k from items (Some (node.Join l lb r rb)) e = ap (λ b. main_of (if b then tree_at (trees nodes) from else Nothing)) e
no_main nodes k from items (Some (node.Union arms)) e = ap (λ b. main_of (if b then tree_at (trees nodes) from else Nothing)) e
no_main nodes k from items (Some (node.Distinct f)) e = ap (λ b. main_of (if b then tree_at (trees nodes) from else Nothing)) e

pub no_sources : (nodes : List Node) (k from : ℕ) (items : List PlanExpr) (ps : List Plain) (o : Option Node) → over_rows k from o ≡ false → sources (over nodes k from items o) ps ≡ []
no_sources nodes k from items ps None e = ap (λ b. sources (if b then tree_at (trees nodes) from else Nothing) (map (through items) ps)) e
no_sources nodes k from items ps (Some (node.Load i)) e = ap (λ b. sources (if b then tree_at (trees nodes) from else Nothing) (map (through items) ps)) e
no_sources nodes k from items ps (Some (node.Filter f c)) e = ap (λ b. sources (if b then tree_at (trees nodes) from else Nothing) (map (through items) ps)) e
no_sources nodes k from items ps (Some (node.Foreach f is)) e = ap (λ b. sources (if b then tree_at (trees nodes) from else Nothing) (map (through items) ps)) e
no_sources nodes k from items ps (Some (node.Group source columns)) e = refl
no_sources nodes k from items ps (Some (node.Join l lb r rb)) e = ap (λ b. sources (if b then tree_at (trees nodes) from else Nothing) (map (through items) ps)) e
no_sources nodes k from items ps (Some (node.Union arms)) e = ap (λ b. sources (if b then tree_at (trees nodes) from else Nothing) (map (through items) ps)) e
no_sources nodes k from items ps (Some (node.Distinct f)) e = ap (λ b. sources (if b then tree_at (trees nodes) from else Nothing) (map (through items) ps)) e

pub nothing_more : {X : Type 0} (xs ys : List X) → ys ≡ [] → xs ≡ xs ++ ys
nothing_more [] ys e = sym e
nothing_more (x ∷ xs) ys e = ap (λ zs. x ∷ zs) (nothing_more xs ys e)

pub map_more : {X Y : Type 0} (f : X → Y) (xs : List X) (x : X) (y : Y) → f x ≡ y → map f (xs ++ x ∷ []) ≡ map f xs ++ y ∷ []
map_more f [] x y e = ap (λ z. z ∷ []) e
map_more f (z ∷ xs) x y e = ap (λ ys. f z ∷ ys) (map_more f xs x y e)

pub arms_more : (nodes : List Node) (k : ℕ) (ps : List Plain) (arms : List ℕ) (a : ℕ)
    → arm_sources (earlier_arms nodes k (arms ++ a ∷ [])) ps ≡ arm_sources (earlier_arms nodes k arms) ps ++ sources (earlier nodes k a) ps
arms_more nodes k ps [] a = sym (nothing_more (sources (earlier nodes k a) ps) [] refl)
arms_more nodes k ps (b ∷ arms) a = ap (λ zs. sources (earlier nodes k b) ps ++ zs) (arms_more nodes k ps arms a) ∙ sym (append_assoc (sources (earlier nodes k b) ps) (arm_sources (earlier_arms nodes k arms) ps) (sources (earlier nodes k a) ps))

-- a relation at its place
pub filled : (k : ℕ) (xs : List (List Row)) → length xs < k → (m : List Row) → with_main k (xs ++ [] ∷ []) m ≡ with_main k xs m
filled zero xs h m = absurd (omega arith)
filled (suc k) [] h m = refl
filled (suc k) (x ∷ xs) h m = ap (λ ys. x ∷ ys) (filled k xs (omega arith) m)

pub inserted : (k : ℕ) (xs : List (List Row)) (m : List Row) → k ≤ length xs → take k xs ++ m ∷ drop k xs ≡ with_main k xs m
inserted zero xs m h = refl
inserted (suc k) [] m h = absurd (omega arith)
inserted (suc k) (x ∷ xs) m h = ap (λ ys. x ∷ ys) (inserted k xs m (omega arith))
