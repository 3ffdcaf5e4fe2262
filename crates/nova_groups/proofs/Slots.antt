-- Each part of a moved state is that part moved.
use Rattle.std.proofs.Common.{◌≡◌, ℕ, ◌==◌, Bool, true, false, cond, ◌||◌, List, [], ◌∷◌, ◌++◌, Option, Some, None, refl, ap, sym, ◌∙◌}
use Rattle.std.specs.Ordering.{eq_by_cmp}
use Rattle.std.specs.FinMap.{FinMap, get, retain_keys, get-retain_keys, same_map}
use Rattle.nova_value.specs.declared.value.Value.{Value}
use Rattle.nova_value.specs.Order.{key_cmp}
use Rattle.nova_value.specs.Orders.{keys_total, exact_keys, same_keys}
use Rattle.nova_groups.specs.declared.group.Share.{Share}
use Rattle.nova_pig_tree.specs.declared.expression.CallKind.{CallKind}
use Rattle.nova_groups.specs.Kinds.{Group}
use Rattle.nova_groups.specs.State.{ShareMap, GroupMap, StateValue, or_blank, shown, changed, change_group, put_group, put_share, moved, moved_all, and_then, row_put, by_list, touches}
use Rattle.std.specs.List.{list_any}
use Rattle.nova_value.specs.declared.schema.Entry.{Entry}
use Rattle.nova_delta.specs.ActionLaws.{list_any-append}
use Rattle.nova_groups.specs.Parts.{part_of, change_in, moved_part}
use Rattle.nova_groups.specs.Parts as parts
use Rattle.nova_groups.proofs.Groups.{get-put_group}
use Rattle.nova_groups.proofs.Steps.{get-put_share}
use Rattle.nova_groups.proofs.Small.{change_group-is}

module _ {X : Type 0} (test : List Value → Bool) where
  pub get-kept : (m : FinMap key_cmp X) (q : List Value) → get (retain_keys m test) q ≡ cond (test q) (get m q) None
  get-kept m q = get-retain_keys m test q (λ x t. ap test (sym (exact_keys q x t)))

  -- a map that has o at k and m elsewhere, kept by a test, likewise
  change_kept : (m n : FinMap key_cmp X) (f : FinMap key_cmp X → FinMap key_cmp X) (k : List Value) (o : Option X)
      → ((l : FinMap key_cmp X) (q : List Value) → get (f l) q ≡ cond (eq_by_cmp key_cmp q k) o (get l q))
      → retain_keys (f m) test ≡ cond (test k) (f (retain_keys m test)) (retain_keys m test)
  change_kept m n f k o at = same_map keys_total exact_keys _ _ (λ q.
      get-kept (f m) q ∙ ap (λ x. cond (test q) x None) (at m q) ∙ by_test q (test k) refl)
    where
      by_key : (q : List Value) (b : Bool) → test k ≡ b → (c : Bool) → eq_by_cmp key_cmp q k ≡ c → test q ≡ cond c b (test q)
      by_key q b is true ties = ap test ((same_keys q k).0 ties) ∙ is
      by_key q b is false apart = refl

      swap : (t c : Bool) (x y : Option X) → (c ≡ true → t ≡ true) → cond t (cond c x y) None ≡ cond c x (cond t y None)
      swap true true x y h = refl
      swap true false x y h = refl
      swap false true x y h = absurd (clash (h refl))
        where
          clash : false ≡ true → ⊥
          clash e = cc
      swap false false x y h = refl

      drop : (t c : Bool) (x y : Option X) → (c ≡ true → t ≡ false) → cond t (cond c x y) None ≡ cond t y None
      drop true true x y h = absurd (clash (h refl))
        where
          clash : true ≡ false → ⊥
          clash e = cc
      drop true false x y h = refl
      drop false c x y h = refl

      by_test : (q : List Value) (b : Bool) → test k ≡ b → cond (test q) (cond (eq_by_cmp key_cmp q k) o (get m q)) None ≡ get (cond b (f (retain_keys m test)) (retain_keys m test)) q
      by_test q true is =
          swap (test q) (eq_by_cmp key_cmp q k) o (get m q) (λ ties. by_key q true is true ties)
          ∙ ap (cond (eq_by_cmp key_cmp q k) o) (sym (get-kept m q)) ∙ sym (at (retain_keys m test) q)
      by_test q false is =
          drop (test q) (eq_by_cmp key_cmp q k) o (get m q) (λ ties. by_key q false is true ties) ∙ sym (get-kept m q)

module _ (part : List Value → ℕ) (s : ℕ) (ks : List CallKind) where
  shares_kept : (m : ShareMap) (k : List Value) (o : Option Share) → retain_keys (put_share m k o) (λ q. part q == s) ≡ cond (part k == s) (put_share (retain_keys m (λ q. part q == s)) k o) (retain_keys m (λ q. part q == s))
  shares_kept m k o = change_kept (λ q. part q == s) m m (λ l. put_share l k o) k o (λ l q. get-put_share l k o q)

  groups_kept : (grows : Bool) (gs : GroupMap) (x : Option Share) → retain_keys (change_group grows ks gs x) (λ q. part q == s) ≡ change_in part s grows ks (retain_keys gs (λ q. part q == s)) x
  groups_kept true gs None = refl
  groups_kept false gs None = refl
  groups_kept grows gs (Some x) =
      let test : List Value → Bool = λ q. part q == s in
      let g : Group = changed grows (or_blank ks (get gs x.by)) x.args in
      ap (λ (hs : GroupMap). retain_keys hs test) (sym (change_group-is grows ks gs x))
      ∙ change_kept test gs gs (λ hs. put_group hs x.by g) x.by (shown g) (λ hs q. get-put_group hs x.by g q)
      ∙ by_part (part x.by == s) refl
    where
      by_part : (b : Bool) → (part x.by == s) ≡ b
          → cond b (put_group (retain_keys gs (λ q. part q == s)) x.by (changed grows (or_blank ks (get gs x.by)) x.args)) (retain_keys gs (λ q. part q == s))
          ≡ cond b (change_group grows ks (retain_keys gs (λ q. part q == s)) (Some x)) (retain_keys gs (λ q. part q == s))
      by_part true is =
          ap (λ (o : Option Group). put_group (retain_keys gs (λ q. part q == s)) x.by (changed grows (or_blank ks o) x.args))
          (sym (get-kept (λ q. part q == s) gs x.by ∙ ap (λ b. cond b (get gs x.by) None) is))
          ∙ change_group-is grows ks (retain_keys gs (λ q. part q == s)) x
      by_part false is = refl

  -- a part needs the key's old and new share, and no other part
  pub part_moved : (st : StateValue) (k : List Value) (new : Option Share) → part_of part s (moved ks st k new) ≡ moved_part part s ks (part_of part s st) k (get st.shares k) new
  part_moved st k new =
      let shares = shares_kept st.shares k new in
      let groups = groups_kept true (change_group false ks st.groups (get st.shares k)) new ∙ ap (λ (gs : GroupMap). change_in part s true ks gs new) (groups_kept false st.groups (get st.shares k)) in
      λ i. record { shares = shares i; groups = groups i }

  -- the old share stands in the key's own part
  pub old_in_part : (st : StateValue) (k : List Value) → (part k == s) ≡ true → get (part_of part s st).shares k ≡ get st.shares k
  old_in_part st k is = get-kept (λ q. part q == s) st.shares k ∙ ap (λ b. cond b (get st.shares k) None) is

or_first : (a b : Bool) → (a || b) ≡ false → a ≡ false
or_first true b e = e
or_first false b e = refl

or_second : (a b : Bool) → (a || b) ≡ false → b ≡ false
or_second true b e = cc
or_second false b e = e

module _ (part : List Value → ℕ) (s : ℕ) (ks : List CallKind) (share : List Value → Option Share) where
  unchanged : (grows : Bool) (gs : GroupMap) (o : Option Share) → list_any (λ by. part by == s) (by_list o) ≡ false → change_in part s grows ks gs o ≡ gs
  unchanged grows gs None none = refl
  unchanged grows gs (Some x) none = ap (λ b. cond b (change_group grows ks gs (Some x)) gs) (or_first _ _ none)

  part_kept : (st : StateValue) (k : List Value) (new : Option Share) → (part k == s) ≡ false → list_any (λ by. part by == s) (by_list (get st.shares k)) ≡ false → list_any (λ by. part by == s) (by_list new) ≡ false
      → part_of part s (moved ks st k new) ≡ part_of part s st
  part_kept st k new apart old_out new_out =
      let p = part_of part s st in
      let shares = ap (λ b. cond b (put_share p.shares k new) p.shares) apart in
      let groups = unchanged true (change_in part s false ks p.groups (get st.shares k)) new new_out ∙ unchanged false p.groups (get st.shares k) old_out in
      part_moved part s ks st k new ∙ (λ i. record { shares = shares i; groups = groups i })

  -- a part that no written key and none of their old and new groups names stays
  pub part_untouched : (st : StateValue) (es : List (List Value × Entry)) → list_any (λ (e : List Value × Entry). part e.0 == s) es ≡ false → list_any (λ by. part by == s) (touches share ks st es) ≡ false
      → part_of part s (moved_all share ks st es) ≡ part_of part s st
  part_untouched st [] keys bys = refl
  part_untouched st (e ∷ es) keys bys =
      let new = and_then (row_put e.1) share in
      let first = sym (list_any-append (λ by. part by == s) (by_list (get st.shares e.0)) (by_list new ++ touches share ks (moved ks st e.0 new) es)) ∙ bys in
      let second = sym (list_any-append (λ by. part by == s) (by_list new) (touches share ks (moved ks st e.0 new) es)) ∙ or_second (list_any (λ by. part by == s) (by_list (get st.shares e.0))) _ first in
      part_untouched (moved ks st e.0 new) es (or_second (part e.0 == s) _ keys) (or_second (list_any (λ by. part by == s) (by_list new)) _ second)
      ∙ part_kept st e.0 new (or_first _ _ keys) (or_first _ _ first) (or_first _ _ second)

-- the first part is all of it
pub first_is_whole : (st : StateValue) → part_of parts.part 0 st ≡ st
first_is_whole st =
    let shares : retain_keys st.shares (λ k. 0 == 0) ≡ st.shares = same_map keys_total exact_keys _ _ (λ q. get-kept (λ k. 0 == 0) st.shares q) in
    let groups : retain_keys st.groups (λ k. 0 == 0) ≡ st.groups = same_map keys_total exact_keys _ _ (λ q. get-kept (λ k. 0 == 0) st.groups q) in
    λ i. record { shares = shares i; groups = groups i }
