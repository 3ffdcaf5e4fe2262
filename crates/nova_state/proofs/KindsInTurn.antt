-- What the kinds of a plan's nodes say of each node.
use Rattle.std.specs.Prelude.{◌≡◌, ℕ, zero, suc, ◌+◌, ◌<◌, Bool, true, ◌&&◌, List, [], ◌∷◌, ◌++◌, length, slice_get, Option, Some, None, refl}
use Rattle.std.proofs.Common.{ap, sym, ◌∙◌, subst, arith, length-append}
use Rattle.nova_value.specs.declared.value.Kind.{Kind}
use Rattle.nova_pig_algebra.specs.declared.node.Node.{Node}
use Rattle.nova_pig_algebra.specs.Sorts.{Over}
use Rattle.nova_pig_algebra.specs.Kinds.{node_over, and_then, nodes_over}
use Rattle.nova_pig_algebra.specs.Literals.{node_has_values, nodes_have_values}
use Rattle.nova_pig_algebra.proofs.Sets.{both_true}

-- ---- lists that grow
pub still_there : {X : Type 0} (xs : List X) (y : X) (k : ℕ) (x : X) → slice_get xs k ≡ Some x → slice_get (xs ++ y ∷ []) k ≡ Some x
still_there [] y k x e = absurd cc
still_there (z ∷ xs) y zero x e = e
still_there (z ∷ xs) y (suc k) x e = still_there xs y k x e

pub at_end : {X : Type 0} (xs : List X) (y : X) (n : ℕ) → length xs ≡ n → slice_get (xs ++ y ∷ []) n ≡ Some y
at_end [] y zero e = refl
at_end [] y (suc n) e = absurd cc
at_end (x ∷ xs) y zero e = absurd cc
at_end (x ∷ xs) y (suc n) e = at_end xs y n (omega arith)

within : {X : Type 0} (xs : List X) (k : ℕ) (x : X) → slice_get xs k ≡ Some x → k < length xs
within [] k x e = absurd cc
within (z ∷ xs) zero x e = omega arith
within (z ∷ xs) (suc k) x e = omega (arith, within xs k x e)

module _ (inputs : List (List Kind)) where
  abbrev Rest : List Over → List Node → Option Over → Option (List Over)
  Rest done rest x = and_then x (λ o. nodes_over inputs (done ++ o ∷ []) rest)

  pub overs_stay : (rest : List Node) (overs : List Over) (all : List Over) → nodes_over inputs overs rest ≡ Some all → (k : ℕ) (o : Over) → slice_get overs k ≡ Some o → slice_get all k ≡ Some o
  overs_stay [] overs all e k o at = let same : overs ≡ all = cc in subst (λ z. slice_get z k ≡ Some o) same at
  overs_stay (n ∷ rest) overs all e k o at = step (node_over inputs overs n) e (λ q f. overs_stay rest (overs ++ q ∷ []) all f k o (still_there overs q k o at))
    where
      step : (x : Option Over) → Rest overs rest x ≡ Some all → ((q : Over) → nodes_over inputs (overs ++ q ∷ []) rest ≡ Some all → slice_get all k ≡ Some o) → slice_get all k ≡ Some o
      step None f go = absurd cc
      step (Some q) f go = go q f

  -- what a node gives, of what those before it give
  pub record Here (all : List Over) (k : ℕ) (n : Node) : Type 0 where
    pub done : List Over
    pub over : Over
    pub here : node_over inputs done n ≡ Some over
    pub is : slice_get all k ≡ Some over
    pub same : (j : ℕ) (o : Over) → slice_get done j ≡ Some o → (j < k) × (slice_get all j ≡ Some o)

  first_here : (n : Node) (rest : List Node) (done all : List Over) (k : ℕ) → length done ≡ k → (x : Option Over) → node_over inputs done n ≡ x → Rest done rest x ≡ Some all → Here all k n
  first_here n rest done all k many None a f = absurd cc
  first_here n rest done all k many (Some o) a f = record {
    done = done;
    over = o;
    here = a;
    is = overs_stay rest (done ++ o ∷ []) all f k o (at_end done o k many);
    same = λ j p at. (omega (arith, many, within done j p at), overs_stay rest (done ++ o ∷ []) all f j p (still_there done o j p at));
  }

  later_here : (n : Node) (rest : List Node) (done all : List Over) (k : ℕ) → ((o : Over) → nodes_over inputs (done ++ o ∷ []) rest ≡ Some all → Here all k n) → (x : Option Over) → Rest done rest x ≡ Some all → Here all k n
  later_here n rest done all k go None f = absurd cc
  later_here n rest done all k go (Some o) f = go o f

  pub here_at : (rest : List Node) (done all : List Over) (i k : ℕ) (n : Node) → nodes_over inputs done rest ≡ Some all → slice_get rest i ≡ Some n → length done + i ≡ k → Here all k n
  here_at [] done all i k n e at many = absurd cc
  here_at (m ∷ rest) done all zero k n e at many =
      let same : m ≡ n = cc in
      subst (Here all k) same (first_here m rest done all k (omega (arith, many)) (node_over inputs done m) refl e)
  here_at (m ∷ rest) done all (suc i) k n e at many =
      later_here n rest done all k (λ o f. here_at rest (done ++ o ∷ []) all i k n f at (let long = length-append done (o ∷ []) in omega (arith, many, long))) (node_over inputs done m) e

-- its literals are values
pub values_at_node : (nodes : List Node) (k : ℕ) (n : Node) → nodes_have_values nodes ≡ true → slice_get nodes k ≡ Some n → node_has_values n ≡ true
values_at_node [] k n h e = absurd cc
values_at_node (m ∷ nodes) zero n h e =
    let same : m ≡ n = cc in
    subst (λ z. node_has_values z ≡ true) same (both_true (node_has_values m) (nodes_have_values nodes) h).0
values_at_node (m ∷ nodes) (suc k) n h e = values_at_node nodes k n (both_true (node_has_values m) (nodes_have_values nodes) h).1 e
