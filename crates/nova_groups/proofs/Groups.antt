-- The groups of a list of shares, with one share more or less.
use Rattle.std.proofs.Common.{◌≡◌, zero, suc, ◌+◌, ◌<◌, ◌≤◌, ◌^◌, arith, Bool, true, false, cond, ◌||◌, List, [], ◌∷◌, ◌++◌, map, length, fold, append-nil, Option, Some, None, refl, ap, sym, ◌∙◌}
use Rattle.std.specs.declared.cmp.Ordering.{Ordering}
use Rattle.std.specs.declared.cmp.Ordering.TheVariants.{Less, Equal, Greater}
use Rattle.std.specs.Ordering.{eq_by_cmp, is_eq}
use Rattle.std.specs.List.{list_any}
use Rattle.std.specs.FinMap.{get, insert, remove, get-insert, get-remove, same_map}
use Rattle.std.proofs.lemmas.Cmp.{tied_itself}
use Rattle.std.proofs.lemmas.List.Elements.{filter-append}
use Rattle.std.proofs.lemmas.List.{length-append}
use Rattle.std.proofs.lemmas.List.Sums.{length-filter, count_by-le-length}
use Rattle.nova_value.specs.declared.value.Value.{Value}
use Rattle.nova_value.specs.Order.{key_cmp}
use Rattle.nova_value.specs.Orders.{exact_keys, keys_total}
use Rattle.nova_delta.specs.ActionLaws.{get-tabulated}
use Rattle.nova_pig_tree.specs.declared.expression.CallKind.{CallKind}
use Rattle.nova_groups.specs.declared.group.Share.{Share}
use Rattle.nova_groups.specs.Kinds.{Group}
use Rattle.nova_groups.specs.State.{GroupMap, tally, shown, of_group, groups, joined, left, or_blank, put_group, join, leave}
use Rattle.nova_groups.proofs.Counts.{tally-more, tally-fewer}

or_first : (a b : Bool) → (a || b) ≡ false → a ≡ false
or_first true b e = e
or_first false b e = refl

or_second : (a b : Bool) → (a || b) ≡ false → b ≡ false
or_second true b e = cc
or_second false b e = e

equal : (o : Ordering) → is_eq o ≡ true → o ≡ Equal
equal Less e = cc
equal Equal e = refl
equal Greater e = cc

pub of_group-none : (by : List Value) (ss : List Share) → list_any (eq_by_cmp key_cmp by) (map (λ s. s.by) ss) ≡ false → of_group by ss ≡ []
of_group-none by [] h = refl
of_group-none by (s ∷ ss) h = ap (λ b. cond b (s ∷ of_group by ss) (of_group by ss)) (or_first _ _ h) ∙ of_group-none by ss (or_second (eq_by_cmp key_cmp by s.by) _ h)

-- the group at any BY values
pub get-groups : (ks : List CallKind) (ss : List Share) (by : List Value) → get (groups ks ss) by ≡ shown (tally ks (of_group by ss))
unfolding groups
get-groups ks ss by =
    get-tabulated exact_keys by (λ q. shown (tally ks (of_group q ss))) keys_total (map (λ s. s.by) ss)
    (λ none. ap (λ (ms : List Share). shown (tally ks ms)) (of_group-none by ss none))

pub get-put_group : (gs : GroupMap) (by : List Value) (g : Group) (q : List Value) → get (put_group gs by g) q ≡ cond (eq_by_cmp key_cmp q by) (shown g) (get gs q)
get-put_group gs by g q =
    elim g.members as (λ n. get (elim n as (λ _. GroupMap) [ zero ↦ remove gs by | suc n ↦ insert gs by g ]) q ≡ cond (eq_by_cmp key_cmp q by) (elim n as (λ _. Option Group) [ zero ↦ None | suc n ↦ Some g ]) (get gs q)) [
      | zero ↦ get-remove keys_total gs by q
      | suc n ↦ get-insert keys_total gs by g q
    ]

or_blank-shown : (ks : List CallKind) (ms : List Share) → or_blank ks (shown (tally ks ms)) ≡ tally ks ms
or_blank-shown ks [] = refl
or_blank-shown ks (s ∷ ms) = refl

-- groups that differ from those of one list at one place as those of the other list do
groups_change : (ks : List CallKind) (ss ts : List Share) (by : List Value) (g : Group) → g ≡ tally ks (of_group by ts) → ((q : List Value) → eq_by_cmp key_cmp q by ≡ false → of_group q ss ≡ of_group q ts) → put_group (groups ks ss) by g ≡ groups ks ts
groups_change ks ss ts by g here others = same_map keys_total exact_keys _ _ (λ q.
    get-put_group (groups ks ss) by g q ∙ by_test q (eq_by_cmp key_cmp q by) refl ∙ sym (get-groups ks ts q))
  where
    by_test : (q : List Value) (b : Bool) → eq_by_cmp key_cmp q by ≡ b → cond b (shown g) (get (groups ks ss) q) ≡ shown (tally ks (of_group q ts))
    by_test q true ties = ap shown here ∙ ap (λ x. shown (tally ks (of_group x ts))) (sym (exact_keys q by (equal _ ties)))
    by_test q false apart = get-groups ks ss q ∙ ap (λ (ms : List Share). shown (tally ks ms)) (others q apart)

-- the members of one group, around a share
pub of_group-in : (by : List Value) (s : Share) (front back : List Share) → eq_by_cmp key_cmp by s.by ≡ true → of_group by (front ++ s ∷ back) ≡ of_group by front ++ s ∷ of_group by back
of_group-in by s front back ties =
    filter-append (λ (t : Share). eq_by_cmp key_cmp by t.by) front (s ∷ back)
    ∙ ap (λ b. of_group by front ++ cond b (s ∷ of_group by back) (of_group by back)) ties

pub of_group-out : (by : List Value) (s : Share) (front back : List Share) → eq_by_cmp key_cmp by s.by ≡ false → of_group by (front ++ s ∷ back) ≡ of_group by (front ++ back)
of_group-out by s front back apart =
    filter-append (λ (t : Share). eq_by_cmp key_cmp by t.by) front (s ∷ back)
    ∙ ap (λ b. of_group by front ++ cond b (s ∷ of_group by back) (of_group by back)) apart
    ∙ sym (filter-append (λ (t : Share). eq_by_cmp key_cmp by t.by) front back)

fewer : (by : List Value) (front back : List Share) → length (of_group by front ++ of_group by back) ≤ length (front ++ back)
fewer by front back = omega (arith, length-append (of_group by front) (of_group by back), length-append front back, length-filter (λ (t : Share). eq_by_cmp key_cmp by t.by) front, length-filter (λ (t : Share). eq_by_cmp key_cmp by t.by) back, count_by-le-length (λ (t : Share). eq_by_cmp key_cmp by t.by) front, count_by-le-length (λ (t : Share). eq_by_cmp key_cmp by t.by) back)

own : (s : Share) → eq_by_cmp key_cmp s.by s.by ≡ true
own s = ap is_eq (tied_itself keys_total s.by)

old_group : (ks : List CallKind) (by : List Value) (ss : List Share) → or_blank ks (get (groups ks ss) by) ≡ tally ks (of_group by ss)
old_group ks by ss = ap (or_blank ks) (get-groups ks ss by) ∙ or_blank-shown ks (of_group by ss)

pub groups-join : (ks : List CallKind) (s : Share) (front back : List Share) → length (front ++ back) + 1 < 2 ^ 64 → join ks (groups ks (front ++ back)) (Some s) ≡ groups ks (front ++ s ∷ back)
groups-join ks s front back short =
    groups_change ks (front ++ back) (front ++ s ∷ back) s.by _
    (ap (λ (g : Group). joined g s.args) (old_group ks s.by (front ++ back) ∙ ap (tally ks) (filter-append (λ (t : Share). eq_by_cmp key_cmp s.by t.by) front back))
    ∙ tally-more ks s (of_group s.by front) (of_group s.by back) (omega (arith, short, fewer s.by front back))
    ∙ ap (tally ks) (sym (of_group-in s.by s front back (own s))))
    (λ q apart. sym (of_group-out q s front back apart))

pub groups-leave : (ks : List CallKind) (s : Share) (front back : List Share) → leave ks (groups ks (front ++ s ∷ back)) (Some s) ≡ groups ks (front ++ back)
groups-leave ks s front back =
    groups_change ks (front ++ s ∷ back) (front ++ back) s.by _
    (ap (λ (g : Group). left g s.args) (old_group ks s.by (front ++ s ∷ back) ∙ ap (tally ks) (of_group-in s.by s front back (own s)))
    ∙ tally-fewer ks s (of_group s.by front) (of_group s.by back)
    ∙ ap (tally ks) (sym (filter-append (λ (t : Share). eq_by_cmp key_cmp s.by t.by) front back)))
    (λ q apart. of_group-out q s front back apart)

-- members joined one after the other make the tally of all
pub running : (ks : List CallKind) (ss done : List Share) → length (done ++ ss) < 2 ^ 64 → fold (λ (g : Group) (s : Share). joined g s.args) (tally ks done) ss ≡ tally ks (done ++ ss)
running ks [] done short = ap (tally ks) (sym (append-nil done))
running ks (s ∷ ss) done short =
    ap (λ (g : Group). fold (λ (h : Group) (t : Share). joined h t.args) g ss)
    (ap (λ (ms : List Share). joined (tally ks ms) s.args) (sym (append-nil done)) ∙ tally-more ks s done [] (omega (arith, short, length-append done [], length-append done (s ∷ ss))))
    ∙ running ks ss (done ++ s ∷ []) (omega (arith, short, length-append done (s ∷ ss), length-append (done ++ s ∷ []) ss, length-append done (s ∷ [])))
    ∙ ap (tally ks) (push done ss s)
  where
    push : (xs ys : List Share) (x : Share) → (xs ++ x ∷ []) ++ ys ≡ xs ++ x ∷ ys
    push [] ys x = refl
    push (y ∷ xs) ys x = ap (λ (zs : List Share). y ∷ zs) (push xs ys x)
