-- What a plan makes of a group depends on its BY values and on what its calls give.
use Rattle.std.proofs.Common.{◌≡◌, Bool, true, false, ◌&&◌, ◌||◌, ℕ, if◌then◌else◌, List, [], ◌∷◌, ◌++◌, flat_map, Option, Some, None, refl, ap, ◌∙◌}
use Rattle.std.specs.Cmp.{nat_eq_equiv}
use Rattle.std.specs.List.{list_any, AllByRecursion}
use Rattle.nova_delta.specs.ActionLaws.{list_any-append}
use Rattle.nova_pig_tree.specs.declared.expression.CallKind.{CallKind}
use Rattle.nova_pig_tree.specs.declared.expression.CallKind.TheVariants as call
use Rattle.nova_pig_algebra.specs.declared.node.PlanExpr.{PlanExpr}
use Rattle.nova_pig_algebra.specs.Meaning.{Row, Call, Calls, made, calls}
use Rattle.nova_pig_algebra.specs.Tree.{Tree, Nothing, Load, Filter, Foreach, Grouped, Join, Union, Distinct}
use Rattle.nova_pig_algebra.specs.Plan.{Plan, tree_of_plan}
use Rattle.nova_pig_algebra.proofs.Agree.{same_by_calls}
use Rattle.nova_pig_rows.specs.Outcomes.{same_kind, same_column, same_call}
use Rattle.nova_pig_rows.specs.ChainRows.{kept, remade}
use Rattle.nova_pig_rows.specs.GroupRows.{group_row}
use Rattle.nova_state.specs.Rule.{Depends}
use Rattle.nova_state.specs.Plan.{parts, or_nothing, with_call, calls_in, rule_of}
use Rattle.nova_state.specs.Calls.{has, with_calls}

own_kind : (k : CallKind) → same_kind k k ≡ true
own_kind call.Count = refl
own_kind call.Sum = refl
own_kind call.Min = refl
own_kind call.Max = refl

own_column : (o : Option ℕ) → same_column o o ≡ true
own_column None = refl
own_column (Some n) = nat_eq_equiv.refl n

own : (c : Call) → same_call c c ≡ true
own c = ap (λ b. b && same_column c.column c.column) (own_kind c.kind) ∙ own_column c.column

or_right : (a b : Bool) → b ≡ true → (a || b) ≡ true
or_right true b e = refl
or_right false b e = e

or_left : (a b : Bool) → a ≡ true → (a || b) ≡ true
or_left true b e = refl
or_left false b e = cc

abbrev With : Bool → List Call → Call → List Call
With b cs d = if b then cs else cs ++ d ∷ []

stays_one : (cs : List Call) (d c : Call) → has cs c ≡ true → has (with_call cs d) c ≡ true
stays_one cs d c h = go (list_any (λ e. same_call e d) cs)
  where
    go : (b : Bool) → has (With b cs d) c ≡ true
    go true = h
    go false = list_any-append (λ e. same_call e c) cs (d ∷ []) ∙ or_left _ _ h

there : (cs : List Call) (d : Call) → has (with_call cs d) d ≡ true
there cs d = go (list_any (λ e. same_call e d) cs) refl
  where
    go : (b : Bool) → list_any (λ e. same_call e d) cs ≡ b → has (With b cs d) d ≡ true
    go true is = is
    go false is = list_any-append (λ e. same_call e d) cs (d ∷ []) ∙ or_right (has cs d) _ (or_left (same_call d d) false (own d))

stays : (cs ds : List Call) (c : Call) → has cs c ≡ true → has (with_calls cs ds) c ≡ true
stays cs [] c h = h
stays cs (d ∷ ds) c h = stays (with_call cs d) ds c (stays_one cs d c h)

all_have : (cs ds : List Call) → AllByRecursion (λ c. has (with_calls cs ds) c ≡ true) ds
all_have cs [] = tt
all_have cs (d ∷ ds) = (stays (with_call cs d) ds d (there cs d), all_have (with_call cs d) ds)

told : (P Q : Call → Type 0) → ((c : Call) → P c → Q c) → (cs : List Call) → AllByRecursion P cs → AllByRecursion Q cs
told P Q f [] h = tt
told P Q f (c ∷ cs) h = (f c h.0, told P Q f cs h.1)

all-left : (P : Call → Type 0) (cs ds : List Call) → AllByRecursion P (cs ++ ds) → AllByRecursion P cs
all-left P [] ds h = tt
all-left P (c ∷ cs) ds h = (h.0, all-left P cs ds h.1)

all-right : (P : Call → Type 0) (cs ds : List Call) → AllByRecursion P (cs ++ ds) → AllByRecursion P ds
all-right P [] ds h = h
all-right P (c ∷ cs) ds h = all-right P cs ds h.1

made_same : (items : List PlanExpr) (by : Row) (f g : Calls) → AllByRecursion (λ c. f c ≡ g c) (flat_map calls items) → made items by f ≡ made items by g
made_same [] by f g h = refl
made_same (e ∷ items) by f g h =
    let first = (same_by_calls e by f g (all-left (λ (c : Call). f c ≡ g c) (calls e) (flat_map calls items) h)).0 in
    let others = made_same items by f g (all-right (λ (c : Call). f c ≡ g c) (calls e) (flat_map calls items) h) in
    λ i. first i ∷ others i

row_same : (t : Tree) (by : Row) (f g : Calls) → AllByRecursion (λ c. f c ≡ g c) (flat_map calls (or_nothing (parts t)).items) → group_row t by f ≡ group_row t by g
row_same (Grouped from columns items) by f g h = ap (λ (r : Row). let o : Option Row = Some r in o) (made_same items by f g h)
row_same (Filter from c) by f g h = ap (kept c) (row_same from by f g h)
row_same (Foreach from items) by f g h = ap (remade items) (row_same from by f g h)
row_same Nothing by f g h = refl
row_same (Load input) by f g h = refl
row_same (Join left left_by right right_by) by f g h = refl
row_same (Union arms) by f g h = refl
row_same (Distinct from) by f g h = refl

pub rule_depends : (p : Plan) → Depends (rule_of p)
unfolding rule_of calls_in
rule_depends p by f g h =
    let cs = flat_map calls (or_nothing (parts (tree_of_plan p))).items in
    row_same (tree_of_plan p) by f g (told (λ (c : Call). has (with_calls [] cs) c ≡ true) (λ (c : Call). f c ≡ g c) h cs (all_have [] cs))
