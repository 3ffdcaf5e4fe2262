-- Steps of the code.
use Rattle.std.proofs.Common.{◌≡◌, ℕ, zero, suc, List, [], ◌∷◌, ◌++◌, map, length, Some, None, refl, ap, sym, ◌∙◌, arith}
use Rattle.std.specs.FinMap.{get, insert, remove, empty, get-insert, get-remove, same_map}
use Rattle.std.specs.Ordering.{eq_by_cmp}
use Rattle.std.specs.Prelude.{Bool, true, false, cond}
use Rattle.nova_value.specs.Order.{key_cmp}
use Rattle.nova_value.specs.Orders.{keys_total, exact_keys}
use Rattle.nova_groups.specs.Kinds.{Group}
use Rattle.nova_groups.specs.declared.group.Share.{Share}
use Rattle.nova_groups.proofs.Groups.{get-put_group}
use Rattle.nova_value.specs.declared.value.Value.{Value}
use Rattle.nova_groups.specs.Numbers.{CountMap}
use Rattle.nova_pig_tree.specs.declared.expression.CallKind.{CallKind}
use Rattle.nova_groups.specs.State.{counted, put_count, item, items, GroupMap, ShareMap, put_group, put_share, or_blank, changed, change_group, shown}

pub counted-empty : empty ≡ counted []
unfolding counted
counted-empty = refl

pub put_count_some : (m : CountMap) (v : Value) (n : ℕ) → (n ≡ 0 → ⊥) → insert m v n ≡ put_count m v n
put_count_some m v zero h = absurd (h refl)
put_count_some m v (suc n) h = refl

pub blank-items : (ks : List CallKind) → map (λ k. item k []) ks ≡ items ks []
blank-items [] = refl
blank-items (k ∷ ks) = λ i. item k [] ∷ blank-items ks i

pub push : {X : Type 0} (xs ys : List X) (x : X) → (xs ++ x ∷ []) ++ ys ≡ xs ++ x ∷ ys
push [] ys x = refl
push {X = X} (y ∷ xs) ys x = ap (λ (zs : List X). y ∷ zs) (push xs ys x)

pub no_items : {X : Type 0} (xs : List X) → length xs ≡ 0 → xs ≡ []
no_items [] e = refl
no_items (x ∷ xs) e = absurd (omega arith)

pub append-nil : {X : Type 0} (xs : List X) → xs ++ [] ≡ xs
append-nil [] = refl
append-nil {X = X} (x ∷ xs) = ap (λ (ys : List X). x ∷ ys) (append-nil xs)

pub put_group-none : (gs : GroupMap) (by : List Value) (g : Group) → g.members ≡ 0 → remove gs by ≡ put_group gs by g
put_group-none gs by g e = ap (λ n. elim n as (λ _. GroupMap) [ zero ↦ remove gs by | suc m ↦ insert gs by g ]) (sym e)

pub put_group-some : (gs : GroupMap) (by : List Value) (g : Group) → (g.members ≡ 0 → ⊥) → insert gs by g ≡ put_group gs by g
put_group-some gs by g h = go g.members refl
  where
    go : (n : ℕ) → g.members ≡ n → insert gs by g ≡ elim n as (λ _. GroupMap) [ zero ↦ remove gs by | suc m ↦ insert gs by g ]
    go zero e = absurd (h e)
    go (suc n) e = refl

twice : {A : Type 0} (b : Bool) (x y z : A) → cond b x (cond b y z) ≡ cond b x z
twice true x y z = refl
twice false x y z = refl

-- to take a group out before it is put changes nothing
pub put_group-again : (gs : GroupMap) (by : List Value) (g : Group) → put_group (remove gs by) by g ≡ put_group gs by g
put_group-again gs by g = same_map keys_total exact_keys _ _ (λ q.
    get-put_group (remove gs by) by g q ∙ ap (cond (eq_by_cmp key_cmp q by) (shown g)) (get-remove keys_total gs by q)
    ∙ twice (eq_by_cmp key_cmp q by) (shown g) None (get gs q) ∙ sym (get-put_group gs by g q))

pub change_group-is : (grows : Bool) (ks : List CallKind) (gs : GroupMap) (s : Share) → put_group gs s.by (changed grows (or_blank ks (get gs s.by)) s.args) ≡ change_group grows ks gs (Some s)
change_group-is true ks gs s = refl
change_group-is false ks gs s = refl

pub change_group-none : (grows : Bool) (ks : List CallKind) (gs : GroupMap) → gs ≡ change_group grows ks gs None
change_group-none true ks gs = refl
change_group-none false ks gs = refl

pub put_share-none : (m : ShareMap) (k : List Value) → remove m k ≡ put_share m k None
put_share-none m k = refl

pub put_share-some : (m : ShareMap) (k : List Value) (s : Share) → insert (remove m k) k s ≡ put_share m k (Some s)
put_share-some m k s = same_map keys_total exact_keys _ _ (λ q.
    get-insert keys_total (remove m k) k s q ∙ ap (cond (eq_by_cmp key_cmp q k) (Some s)) (get-remove keys_total m k q)
    ∙ twice (eq_by_cmp key_cmp q k) (Some s) None (get m q) ∙ sym (get-insert keys_total m k s q))
