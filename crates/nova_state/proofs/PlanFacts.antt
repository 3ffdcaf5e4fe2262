-- What a plan's rule is, by the GROUP on which its stored node stands.
use Rattle.std.proofs.Common.{◌≡◌, ℕ, List, Option, Some, None, ap, sym, ◌∙◌}
use Rattle.nova_pig_algebra.specs.declared.node.PlanExpr.{PlanExpr}
use Rattle.nova_value.specs.Rows.{key_at}
use Rattle.nova_pig_algebra.specs.Meaning.{Row, Call}
use Rattle.nova_pig_algebra.specs.Tree.{Tree, Nothing}
use Rattle.nova_pig_algebra.specs.Plan.{Plan, tree_of_plan}
use Rattle.nova_pig_rows.specs.ChainRows.{chain_row}
use Rattle.nova_groups.specs.declared.group.Share.{Share}
use Rattle.nova_state.specs.Plan.{Parts, parts, or_nothing, calls_in, rule_by, rule_of}
use Rattle.nova_state.specs.Rule.{share_of, passed, kept, arguments}

module _ (p : Plan) (row : Row) where
  given : (o : Option Parts) → o ≡ parts (tree_of_plan p) → share_of (rule_by (or_nothing o) (tree_of_plan p)) row ≡ share_of (rule_of p) row
  unfolding rule_of
  given o e = ap (λ (g : Option Parts). share_of (rule_by (or_nothing g) (tree_of_plan p)) row) e

  pub no_group : None ≡ parts (tree_of_plan p) → None ≡ share_of (rule_of p) row
  no_group e = given None e

  module _ (s : Tree) (columns : List ℕ) (items : List PlanExpr) (e : Some (record { source = s; columns = columns; items = items }) ≡ parts (tree_of_plan p)) where
    its_calls : calls_in items ≡ (rule_of p).calls
    unfolding rule_of
    its_calls = ap (λ (g : Option Parts). calls_in (or_nothing g).items) e

    abbrev Own : Option Row → Option Share
    Own o = passed (rule_by (record { source = s; columns = columns; items = items }) (tree_of_plan p)) o

    of_row : (o : Option Row) → o ≡ chain_row s row → Own o ≡ share_of (rule_of p) row
    of_row o is = ap Own is ∙ given (Some (record { source = s; columns = columns; items = items })) e

    pub no_row : None ≡ chain_row s row → None ≡ share_of (rule_of p) row
    no_row is = of_row None is

    pub no_source : s ≡ Nothing → None ≡ share_of (rule_of p) row
    no_source is = no_row (sym (ap (λ (t : Tree). chain_row t row) is))

    pub its_share : (r : Row) → Some r ≡ chain_row s row → (cs : List Call) → cs ≡ (rule_of p).calls → (x : Share) → x ≡ record { by = key_at columns r; args = arguments (kept cs) r } → Some x ≡ share_of (rule_of p) row
    its_share r is cs h x made =
        ap (λ (y : Share). let o : Option Share = Some y in o) (made ∙ (λ i. record { by = key_at columns r; args = arguments (kept ((h ∙ sym its_calls) i)) r }))
        ∙ of_row (Some r) is
