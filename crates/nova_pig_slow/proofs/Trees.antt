-- The rows of trees, tree by tree.
use Rattle.std.proofs.Common.{◌≡◌, ℕ, List, [], ◌∷◌, ◌++◌, flat_map, refl, ap, ◌∙◌}
use Rattle.std.proofs.Math.ListN.{get_or-map}
use Rattle.nova_pig_algebra.specs.declared.node.Node.{Node}
use Rattle.nova_pig_algebra.specs.Meaning.{Row}
use Rattle.nova_pig_algebra.specs.Tree.{Tree, Nothing, arm_rows, arms_at, rows, rows_at, tree_at, tree_of, trees_after}
use Rattle.nova_pig_slow.specs.Done.{AreRowsOf}

module _ (tables : List (List Row)) (ts : List Tree) (done : List (List Row)) (are : AreRowsOf tables ts done) where
  -- the rows of the tree at a place
  pub at_tree : (k : ℕ) → rows_at done k ≡ rows (tree_at ts k) tables
  at_tree k = ap (λ (all : List (List Row)). rows_at all k) are ∙ get_or-map (λ t. rows t tables) ts k Nothing

  pub at_arms : (arms : List ℕ) → flat_map (rows_at done) arms ≡ arm_rows (arms_at ts arms) tables
  at_arms [] = refl
  at_arms (k ∷ ks) = λ i. at_tree k i ++ at_arms ks i

pub one_tree_more : (nodes : List Node) (ts : List Tree) (ns : List Node) (n : Node) → trees_after nodes ts (ns ++ n ∷ []) ≡ trees_after nodes ts ns ++ tree_of nodes (trees_after nodes ts ns) n ∷ []
unfolding trees_after
one_tree_more nodes ts [] n = refl
one_tree_more nodes ts (m ∷ ns) n = one_tree_more nodes (ts ++ tree_of nodes ts m ∷ []) ns n

pub no_trees : (nodes : List Node) → trees_after nodes [] [] ≡ []
unfolding trees_after
no_trees nodes = refl
