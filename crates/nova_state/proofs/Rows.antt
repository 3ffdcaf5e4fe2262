-- The row of a group from the state is the row that the plan makes of its members.
use Rattle.std.proofs.Common.{◌≡◌, ℕ, suc, ℤ, pos, Bool, true, false, cond, ◌&&◌, ◌||◌, if◌then◌else◌, List, [], ◌∷◌, map, length, fold, Option, Some, None, refl, ap, sym, ◌∙◌, eqb-true, arith}
use Rattle.std.specs.Ordering.{eq_by_cmp, is_eq, is_lt}
use Rattle.std.specs.declared.cmp.Ordering.{Ordering}
use Rattle.std.specs.List.{filter_map, cons_option, list_any}
use Rattle.std.specs.Cmp.{eq_by_cmp_equiv}
use Rattle.std.specs.FinMap.{get, values, keys}
use Rattle.std.proofs.lemmas.Cmp.{back_total}
use Rattle.std.proofs.lemmas.Int.{ints}
use Rattle.nova_value.specs.declared.value.Value.{Value}
use Rattle.nova_value.specs.declared.value.Value.TheVariants.{Long}
use Rattle.nova_value.specs.Order.{value_cmp, key_cmp}
use Rattle.nova_value.specs.Orders.{exact_values, values_total}
use Rattle.nova_value.specs.Rows.{key_at}
use Rattle.nova_delta.specs.Merge.{RowMap}
use Rattle.nova_pig_tree.specs.declared.expression.CallKind.{CallKind}
use Rattle.nova_pig_tree.specs.declared.expression.CallKind.TheVariants as call
use Rattle.nova_pig_algebra.specs.Meaning.{Row, Call, Calls, calls_over, kind_over, pick, best}
use Rattle.nova_pig_algebra.specs.Tree.{members}
use Rattle.nova_pig_rows.specs.Outcomes.{Out, same_kind, same_column, same_call, look}
use Rattle.nova_groups.specs.declared.item.Item.{Item}
use Rattle.nova_groups.specs.declared.group.Share.{Share}
use Rattle.nova_groups.specs.Kinds.{Group}
use Rattle.nova_value.specs.Wrapped.{wrapped}
use Rattle.nova_groups.specs.State.{counted, item, items, tally, shown, of_group, groups, shares_of, and_then, total, head, rest}
use Rattle.nova_state.specs.Rule.{GroupRule, Depends, aggregate, row_of, row_at, is_kept, is_kept_kind, kept, kepts, argument, argument_at, arguments, share_from, passed, share_of, call_value, first_item, later_items, outcomes, calls_from, row_from}
use Rattle.nova_groups.proofs.Groups.{get-groups}
use Rattle.nova_groups.proofs.Best.{best_same, any-counted}

any-same : (p q : Value → Bool) → ((v : Value) → p v ≡ q v) → (vs : List Value) → list_any p vs ≡ list_any q vs
any-same p q h [] = refl
any-same p q h (v ∷ vs) = λ i. h v i || any-same p q h vs i

turn : (v : Value) (vs : List Value) → list_any (λ w. is_eq (value_cmp w v)) vs ≡ list_any (eq_by_cmp value_cmp v) vs
turn v vs = any-same (λ w. is_eq (value_cmp w v)) (eq_by_cmp value_cmp v) (λ w. (eq_by_cmp_equiv values_total).symm w v) vs

-- the aggregate of a kept item
call_value-item : (k : CallKind) (vs : List Value) → call_value k (item k vs) ≡ aggregate k vs
call_value-item call.Count vs = refl
call_value-item call.Sum vs = refl
call_value-item call.Min vs = best_same value_cmp values_total exact_values (keys (counted vs)) vs (λ v. any-counted v vs)
call_value-item call.Max vs =
    best_same (λ a b. value_cmp b a) (back_total values_total) (λ a b e. sym (exact_values b a e)) (keys (counted vs)) vs
    (λ v. turn v (keys (counted vs)) ∙ any-counted v vs ∙ sym (turn v vs))

map-map : {A B C : Type 0} (f : B → C) (g : A → B) (xs : List A) → map f (map g xs) ≡ map (λ x. f (g x)) xs
map-map f g [] = refl
map-map {C = C} f g (x ∷ xs) = ap (λ (ys : List C). f (g x) ∷ ys) (map-map f g xs)

pub length-map : {A B : Type 0} (f : A → B) (xs : List A) → length (map f xs) ≡ length xs
length-map f [] = refl
length-map f (x ∷ xs) = ap suc (length-map f xs)

-- a call without a column has the argument 0 of each row
abbrev zeros : List Row → List Value
zeros ms = map (λ row. Long (pos 0)) ms

total-zeros : (ms : List Row) → total (zeros ms) ≡ pos 0
total-zeros [] = refl
total-zeros (m ∷ ms) = let rest = total-zeros ms in omega (arith, ints, rest)

picked-zero : (b : Bool) → (if b then Long (pos 0) else Long (pos 0)) ≡ Long (pos 0)
picked-zero true = refl
picked-zero false = refl

fold-zeros : (order : Value → Value → Ordering) (v : Value) → v ≡ Long (pos 0) → (ms : List Row) → fold (pick order) v (zeros ms) ≡ Long (pos 0)
fold-zeros order v is [] = is
fold-zeros order v is (m ∷ ms) =
    fold-zeros order (pick order v (Long (pos 0))) (ap (λ w. if is_lt (order (Long (pos 0)) w) then Long (pos 0) else w) is ∙ picked-zero (is_lt (order (Long (pos 0)) (Long (pos 0))))) ms

best-zeros : (order : Value → Value → Ordering) (ms : List Row) → best order (zeros ms) ≡ Long (pos 0)
best-zeros order [] = refl
best-zeros order (m ∷ ms) = fold-zeros order (Long (pos 0)) refl ms

-- what a kept call gives over its arguments
aggregate-kind : (k : CallKind) → is_kept_kind k ≡ true → (column : Option ℕ) (ms : List Row) → aggregate k (map (argument_at column) ms) ≡ kind_over k column ms
aggregate-kind call.Count h column ms = absurd cc
aggregate-kind call.Sum h None ms = ap (λ (n : ℤ). Long (wrapped n)) (total-zeros ms)
aggregate-kind call.Sum h (Some k) ms = refl
aggregate-kind call.Min h None ms = best-zeros value_cmp ms
aggregate-kind call.Min h (Some k) ms = refl
aggregate-kind call.Max h None ms = best-zeros (λ a b. value_cmp b a) ms
aggregate-kind call.Max h (Some k) ms = refl

count-kind : (k : CallKind) → is_kept_kind k ≡ false → (column : Option ℕ) (ms : List Row) → Long (wrapped (pos (length ms))) ≡ kind_over k column ms
count-kind call.Count h column ms = refl
count-kind call.Sum h column ms = absurd cc
count-kind call.Min h column ms = absurd cc
count-kind call.Max h column ms = absurd cc

abbrev kinds_in : List Call → List CallKind
kinds_in cs = map (λ c. c.kind) (kept cs)

abbrev AllOf : Call → List Call → Bool → List Call
AllOf c cs b = cond b (c ∷ kept cs) (kept cs)

abbrev Outs : Call → List Call → List Row → Bool → List Out
Outs c cs ms b =
    let is : List Item = items (map (λ d. d.kind) (AllOf c cs b)) (map (arguments (AllOf c cs b)) ms) in
    if b then (c, call_value c.kind (first_item is)) ∷ outcomes cs (length ms) (later_items is) else (c, Long (wrapped (pos (length ms)))) ∷ outcomes cs (length ms) is

-- what the calls give of the tally of these members
outcomes-over : (cs : List Call) (ms : List Row) → outcomes cs (length ms) (items (kinds_in cs) (map (arguments (kept cs)) ms)) ≡ map (λ c. (c, calls_over ms c)) cs
outcomes-over [] ms = refl
outcomes-over (c ∷ cs) ms = by_kept (is_kept c) refl (outcomes-over cs ms)
  where
    by_kept : (b : Bool) → is_kept c ≡ b → outcomes cs (length ms) (items (kinds_in cs) (map (arguments (kept cs)) ms)) ≡ map (λ d. (d, calls_over ms d)) cs
        → Outs c cs ms b ≡ (c, calls_over ms c) ∷ map (λ d. (d, calls_over ms d)) cs
    by_kept true is others =
        let firsts : call_value c.kind (item c.kind (map head (map (arguments (c ∷ kept cs)) ms))) ≡ calls_over ms c =
        ap (λ (vs : List Value). call_value c.kind (item c.kind vs)) (map-map head (arguments (c ∷ kept cs)) ms) ∙ call_value-item c.kind (map (argument c) ms) ∙ aggregate-kind c.kind is c.column ms in
        let later : outcomes cs (length ms) (items (kinds_in cs) (map rest (map (arguments (c ∷ kept cs)) ms))) ≡ map (λ d. (d, calls_over ms d)) cs =
        ap (λ (argss : List (List Value)). outcomes cs (length ms) (items (kinds_in cs) argss)) (map-map rest (arguments (c ∷ kept cs)) ms) ∙ others in
        λ i. (c, firsts i) ∷ later i
    by_kept false is others = let count = count-kind c.kind is c.column ms in λ i. (c, count i) ∷ others i

and_first : (a b : Bool) → (a && b) ≡ true → a ≡ true
and_first true b e = refl
and_first false b e = e

and_second : (a b : Bool) → (a && b) ≡ true → b ≡ true
and_second true b e = e
and_second false b e = cc

kind_is : (a b : CallKind) → same_kind a b ≡ true → a ≡ b
kind_is call.Count call.Count e = refl
kind_is call.Sum call.Sum e = refl
kind_is call.Min call.Min e = refl
kind_is call.Max call.Max e = refl
kind_is _ _ e = absurd cc

column_is : (a b : Option ℕ) → same_column a b ≡ true → a ≡ b
column_is None None e = refl
column_is (Some a) (Some b) e = ap (λ (n : ℕ). let o : Option ℕ = Some n in o) (eqb-true a b e)
column_is None (Some b) e = absurd cc
column_is (Some a) None e = absurd cc

pub call_is : (a b : Call) → same_call a b ≡ true → a ≡ b
call_is a b e =
    let kind = kind_is a.kind b.kind (and_first _ _ e) in
    let column = column_is a.column b.column (and_second (same_kind a.kind b.kind) _ e) in
    λ i. record { kind = kind i; column = column i }

-- at a call that stands among them
look-at : (f : Calls) (cs : List Call) (c : Call) → list_any (λ d. same_call d c) cs ≡ true → look (map (λ d. (d, f d)) cs) c ≡ f c
look-at f [] c e = absurd cc
look-at f (d ∷ ds) c e = by_test (look-at f ds c) (same_call d c) refl e
  where
    by_test : (list_any (λ b. same_call b c) ds ≡ true → look (map (λ b. (b, f b)) ds) c ≡ f c) → (b : Bool) → same_call d c ≡ b → (b || list_any (λ b. same_call b c) ds) ≡ true
        → (if b then f d else look (map (λ b. (b, f b)) ds) c) ≡ f c
    by_test later true is e = ap f (call_is d c is)
    by_test later false is e = later e

of_group-members : (p : GroupRule) (by : List Value) (rows : List (List Value)) → of_group by (filter_map (share_of p) rows) ≡ map (share_from p) (members p.columns (filter_map p.chain rows) by)
of_group-members p by [] = refl
of_group-members p by (row ∷ rows) = by_chain (p.chain row) (of_group-members p by rows)
  where
    later : List Share
    later = filter_map (share_of p) rows

    passing : List (List Value)
    passing = filter_map p.chain rows

    by_chain : (o : Option (List Value)) → of_group by later ≡ map (share_from p) (members p.columns passing by) → of_group by (cons_option (passed p o) later) ≡ map (share_from p) (members p.columns (cons_option o passing) by)
    by_chain None h = h
    by_chain (Some r) h =
        elim (eq_by_cmp key_cmp by (key_at p.columns r)) as (λ b. cond b (share_from p r ∷ of_group by later) (of_group by later) ≡ map (share_from p) (cond b (r ∷ members p.columns passing by) (members p.columns passing by))) [
          | true ↦ ap (λ (ss : List Share). share_from p r ∷ ss) h
          | false ↦ h
        ]

abbrev pub is_cons : {X : Type 0} → List X → Bool
is_cons [] = false
is_cons (x ∷ xs) = true

pub any-members : (columns : List ℕ) (by : List Value) (rows : List (List Value)) → list_any (eq_by_cmp key_cmp by) (map (key_at columns) rows) ≡ is_cons (members columns rows by)
any-members columns by [] = refl
any-members columns by (row ∷ rows) =
    elim (eq_by_cmp key_cmp by (key_at columns row)) as (λ b. (b || list_any (eq_by_cmp key_cmp by) (map (key_at columns) rows)) ≡ is_cons (cond b (row ∷ members columns rows by) (members columns rows by))) [
      | true ↦ refl
      | false ↦ any-members columns by rows
    ]

-- by the members alone
pub row_at-members : (p : GroupRule) (m : RowMap) (by : List Value) → row_at p m by ≡ cond (is_cons (members p.columns (filter_map p.chain (values m)) by)) (row_of p by (members p.columns (filter_map p.chain (values m)) by)) None
row_at-members p m by = ap (λ b. cond b (row_of p by (members p.columns (filter_map p.chain (values m)) by)) None) (any-members p.columns by (filter_map p.chain (values m)))

-- the row that the state's group gives
pub row_from-state : (p : GroupRule) → Depends p → (m : RowMap) (by : List Value) → and_then (get (groups (kepts p) (shares_of (share_of p) m)) by) (row_from p by) ≡ row_at p m by
row_from-state p depends m by =
    let ms = members p.columns (filter_map p.chain (values m)) by in
    ap (λ (o : Option Group). and_then o (row_from p by)) (get-groups (kepts p) (shares_of (share_of p) m) by)
    ∙ ap (λ (ss : List Share). and_then (shown (tally (kepts p) ss)) (row_from p by)) (of_group-members p by (values m))
    ∙ by_members ms
    ∙ sym (row_at-members p m by)
  where
    whole : (ms : List Row) → row_from p by (tally (kepts p) (map (share_from p) ms)) ≡ row_of p by ms
    whole ms = depends by (calls_from p (tally (kepts p) (map (share_from p) ms))) (calls_over ms) (λ c here.
        let argss : map (λ (s : Share). s.args) (map (share_from p) ms) ≡ map (arguments (kept p.calls)) ms = map-map (λ (s : Share). s.args) (share_from p) ms in
        let given : outcomes p.calls (length (map (share_from p) ms)) (items (kepts p) (map (λ (s : Share). s.args) (map (share_from p) ms))) ≡ map (λ d. (d, calls_over ms d)) p.calls =
        (λ i. outcomes p.calls (length-map (share_from p) ms i) (items (kepts p) (argss i))) ∙ outcomes-over p.calls ms in
        ap (λ (os : List Out). look os c) given ∙ look-at (calls_over ms) p.calls c here)

    by_members : (ms : List Row) → and_then (shown (tally (kepts p) (map (share_from p) ms))) (row_from p by) ≡ cond (is_cons ms) (row_of p by ms) None
    by_members [] = refl
    by_members (r ∷ ms) = whole (r ∷ ms)
