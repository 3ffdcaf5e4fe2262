-- A rule that makes rows of each row by itself, and what its delta merges to.
use Rattle.std.specs.Prelude.{◌≡◌, ◌⊎◌, Bool, true, false, cond, List, [], ◌∷◌, flat_map, Option, Some, None, refl}
use Rattle.std.proofs.Common.{ap, sym, ◌∙◌, inl, inr, subst}
use Rattle.std.specs.Ordering.{eq_by_cmp}
use Rattle.std.specs.FinMap as fin
use Rattle.std.specs.FinMap.{get, get-entries, get-insert, get-empty, entries_sorted}
use Rattle.nova_value.specs.declared.schema.Entry.{Entry}
use Rattle.nova_value.specs.declared.schema.Entry.TheVariants.{Put, Removal}
use Rattle.nova_value.specs.Order.{key_cmp}
use Rattle.nova_value.specs.Orders.{keys_total, same_keys}
use Rattle.nova_value.specs.Rows.{Shape, IsShape, FitsRow, key_at}
use Rattle.nova_value.specs.Entries.{entry_key}
use Rattle.nova_value.proofs.Fit.{key_fits}
use Rattle.nova_delta.specs.Merge.{RowMap, EntryMap, TableValue, DeltaValue, IsTable, IsDelta, after, merge_of}
use Rattle.nova_delta.specs.ActionLaws.{get-merged, same_rows}
use Rattle.nova_delta.specs.Seen.{table_of, with_entry}
use Rattle.nova_delta.specs.Listed.{entries_of}
use Rattle.nova_pig_algebra.specs.Meaning.{Row}
use Rattle.nova_pig_algebra.specs.Statements.{In}
use Rattle.nova_rowwise.specs.Rule.{Sole, Rule, Origin}
use Rattle.nova_rowwise.proofs.Members.{in_map, in_flat}
use Rattle.nova_pig_algebra.proofs.Lists.{in_mapped, in_flattened}
use Rattle.nova_rowwise.specs.Derived.{found, put_or_removal, answer, answers, set_all, derived_by}
use Rattle.nova_rowwise.specs.Sources.{Key}
use Rattle.nova_rowwise.proofs.Found.{get-table_of, found_is, found_same, find_in, in_found}

-- the rows of a table
abbrev pub rows_in : TableValue → List Row
rows_in t = fin.values t.rows

pub row_got : (t : TableValue) (r : Row) → IsTable t → In r (rows_in t) → get t.rows (key_at t.schema.key r) ≡ Some r
row_got t r is i =
    let p = in_mapped (λ (e : Key × Row). e.1) r (fin.entries t.rows) i in
    let here : get t.rows (p.0).0 ≡ Some r = get-entries t.rows (p.0).0 ∙ find_in (fin.entries t.rows) p.0 (entries_sorted t.rows) p.1 ∙ ap Some (sym p.2) in
    ap (get t.rows) (is.each (p.0).0 r here).1 ∙ here

pub got_row : (t : TableValue) (k : Key) (r : Row) → get t.rows k ≡ Some r → In r (rows_in t)
got_row t k r e =
    let p = in_found (fin.entries t.rows) k r (sym (get-entries t.rows k) ∙ e) in
    subst (λ x. In x (rows_in t)) p.2 (in_map (λ (e : Key × Row). e.1) p.0 (fin.entries t.rows) p.1)

pub entry_got : (d : DeltaValue) (e : Entry) → IsDelta d → In e (entries_of d) → get d.entries (entry_key d.schema e) ≡ Some e
entry_got d e is i =
    let p = in_mapped (λ (x : Key × Entry). x.1) e (fin.entries d.entries) i in
    let here : get d.entries (p.0).0 ≡ Some e = get-entries d.entries (p.0).0 ∙ find_in (fin.entries d.entries) p.0 (entries_sorted d.entries) p.1 ∙ ap Some (sym p.2) in
    ap (get d.entries) (is.each (p.0).0 e here).1 ∙ here

pub got_entry : (d : DeltaValue) (k : Key) (e : Entry) → get d.entries k ≡ Some e → In e (entries_of d)
got_entry d k e f =
    let p = in_found (fin.entries d.entries) k e (sym (get-entries d.entries k) ∙ f) in
    subst (λ x. In x (entries_of d)) p.2 (in_map (λ (x : Key × Entry). x.1) p.0 (fin.entries d.entries) p.1)

-- what entries that are set in turn leave at a key: one of them, or what was there
abbrev pub LeftAt : DeltaValue → List Entry → Key → Type 0
LeftAt d es q =
    ((e : Entry) × In e es × (entry_key d.schema e ≡ q) × (get (set_all d es).entries q ≡ Some e))
    ⊎ (((e : Entry) → In e es → entry_key d.schema e ≡ q → ⊥) × (get (set_all d es).entries q ≡ get d.entries q))

pub left_at : (es : List Entry) (d : DeltaValue) (q : Key) → LeftAt d es q
left_at [] d q = inr (λ e i f. absurd i, refl)
left_at (e ∷ es) d q = go (left_at es (with_entry d e) q)
  where
    here : (b : Bool) → eq_by_cmp key_cmp q (entry_key d.schema e) ≡ b → ((f : Entry) → In f es → entry_key d.schema f ≡ q → ⊥)
        → get (set_all d (e ∷ es)).entries q ≡ cond b (Some e) (get d.entries q) → LeftAt d (e ∷ es) q
    here true ties none is = inl (e, inl refl, sym ((same_keys q (entry_key d.schema e)).0 ties), is)
    here false apart none is = inr (λ f i k. last f i k, is)
      where
        last : (f : Entry) → In f (e ∷ es) → entry_key d.schema f ≡ q → ⊥
        last f (inl same) k = let no : true ≡ false = sym ((same_keys q (entry_key d.schema e)).1 (sym k ∙ ap (entry_key d.schema) same)) ∙ apart in absurd cc
        last f (inr i) k = none f i k

    go : LeftAt (with_entry d e) es q → LeftAt d (e ∷ es) q
    go (inl f) = inl (f.0, inr f.1, f.2, f.3)
    go (inr n) = here (eq_by_cmp key_cmp q (entry_key d.schema e)) refl n.0 (n.1 ∙ get-insert keys_total d.entries (entry_key d.schema e) e q)

module _ (s o : Shape) (outs : Key → List Key) (shape : IsShape s) (origin : Origin s outs) where
  abbrev pub table : RowMap → TableValue
  table m = record { schema = s; rows = m }

  abbrev pub delta : EntryMap → DeltaValue
  delta d = record { schema = s; entries = d }

  -- the rows that a rule makes of a table
  abbrev pub made_of : (Row → List Row) → RowMap → List Row
  made_of of m = flat_map of (fin.values m)

  -- rows of one output key come from one row
  same_origin : (of on : Row → List Row) → Rule s o outs of → Rule s o outs on → (q r x y : Row) → FitsRow s q → FitsRow s r → In x (of q) → In y (on r) → key_at o.key x ≡ key_at o.key y → key_at s.key q ≡ key_at s.key r
  same_origin of on f g q r x y fq fr i j e =
      origin (key_at s.key q) (key_at s.key r) (key_at o.key x) (key_fits s q shape fq) (key_fits s r shape fr) (f.kept q x fq i) (subst (λ k. In k (outs (key_at s.key r))) (sym e) (g.kept r y fr j))

  fits : (m : RowMap) → IsTable (table m) → (r : Row) → In r (fin.values m) → FitsRow s r
  fits m is r i = (is.each (key_at s.key r) r (row_got (table m) r is i)).0

  pub sole_made : (of : Row → List Row) (m : RowMap) → Rule s o outs of → IsTable (table m) → Sole o.key (made_of of m)
  sole_made of m rule is x y i j e =
      let p = in_flattened of x (fin.values m) i in
      let r = in_flattened of y (fin.values m) j in
      let keys : key_at s.key p.0 ≡ key_at s.key r.0 = same_origin of of rule rule p.0 r.0 x y (fits m is p.0 p.1) (fits m is r.0 r.1) p.2 r.2 e in
      let got : Some p.0 ≡ Some r.0 = sym (row_got (table m) p.0 is p.1) ∙ ap (get m) keys ∙ row_got (table m) r.0 is r.1 in
      let same : p.0 ≡ r.0 = cc in
      rule.one r.0 (fits m is r.0 r.1) x y (subst (λ w. In x (of w)) same p.2) r.2 e

  module _ (before after_ changed : Row → List Row) (m n : RowMap) (d : EntryMap)
      (is_m : IsTable (table m)) (is_n : IsTable (table n)) (is_d : IsDelta (delta d))
      (next : (k : Key) → get n k ≡ after (get d k) (get m k))
      (rule_m : Rule s o outs before) (rule_n : Rule s o outs after_)
      (stays : (r : Row) → In r (fin.values m) → get d (key_at s.key r) ≡ None → before r ≡ after_ r)
      (puts : (r : Row) → In (Put r) (entries_of (delta d)) → changed r ≡ after_ r) where
    -- a row of n that an entry of d doesn't touch was there
    untouched : (r : Row) → In r (fin.values n) → get d (key_at s.key r) ≡ None → In r (fin.values m)
    untouched r i none = got_row (table m) (key_at s.key r) r (sym (ap (λ (e : Option Entry). after e (get m (key_at s.key r))) none) ∙ sym (next (key_at s.key r)) ∙ row_got (table n) r is_n i)

    stayed : (r : Row) → In r (fin.values m) → get d (key_at s.key r) ≡ None → In r (fin.values n)
    stayed r i none = got_row (table n) (key_at s.key r) r (next (key_at s.key r) ∙ ap (λ (e : Option Entry). after e (get m (key_at s.key r))) none ∙ row_got (table m) r is_m i)

    abbrev all : List Entry
    all = flat_map (answers s o outs changed) (entries_of (delta d))

    abbrev pub out : DeltaValue
    out = derived_by o outs changed (delta d)

    -- an answer is at its key
    at_its_key : (e : Entry) (q : Key) → entry_key o (answer o changed e q) ≡ q
    at_its_key (Removal k) q = refl
    at_its_key (Put row) q = go (found o.key q (changed row)) refl
      where
        go : (f : Option Row) → found o.key q (changed row) ≡ f → entry_key o (put_or_removal q f) ≡ q
        go None e = refl
        go (Some x) e = (found_is o.key q (changed row) x e).1

    -- where an entry says what is at an output key
    at_change : (e : Entry) (q : Key) → In e (entries_of (delta d)) → In q (outs (entry_key s e)) → after (Some (answer o changed e q)) (found o.key q (made_of before m)) ≡ found o.key q (made_of after_ n)
    at_change (Removal k) q i j = go (found o.key q (made_of after_ n)) refl
      where
        gone : get n k ≡ None
        gone = next k ∙ ap (λ (e : Option Entry). after e (get m k)) (entry_got (delta d) (Removal k) is_d i)

        go : (f : Option Row) → found o.key q (made_of after_ n) ≡ f → None ≡ found o.key q (made_of after_ n)
        go None e = sym e
        go (Some x) e =
            let is = found_is o.key q (made_of after_ n) x e in
            let r = in_flattened after_ x (fin.values n) is.0 in
            let fit = fits n is_n r.0 r.1 in
            let key : key_at s.key r.0 ≡ k = origin (key_at s.key r.0) k q (key_fits s r.0 shape fit) (is_d.each k (Removal k) (entry_got (delta d) (Removal k) is_d i)).0 (subst (λ w. In w (outs (key_at s.key r.0))) is.1 (rule_n.kept r.0 x fit r.2)) j in
            let no : Some r.0 ≡ None = sym (row_got (table n) r.0 is_n r.1) ∙ ap (get n) key ∙ gone in
            absurd cc
    at_change (Put row) q i j = merge_put (found o.key q (changed row)) ∙ found_same o.key q (changed row) (made_of after_ n) sole (sole_made after_ n rule_n is_n) there back
      where
        merge_put : (f : Option Row) → after (Some (put_or_removal q f)) (found o.key q (made_of before m)) ≡ f
        merge_put None = refl
        merge_put (Some x) = refl

        same : changed row ≡ after_ row
        same = puts row i

        got : get n (key_at s.key row) ≡ Some row
        got = next (key_at s.key row) ∙ ap (λ (e : Option Entry). after e (get m (key_at s.key row))) (entry_got (delta d) (Put row) is_d i)

        in_n : In row (fin.values n)
        in_n = got_row (table n) (key_at s.key row) row got

        sole : Sole o.key (changed row)
        sole = subst (Sole o.key) (sym same) (rule_n.one row (fits n is_n row in_n))

        there : (x : Row) → key_at o.key x ≡ q → In x (changed row) → In x (made_of after_ n)
        there x e k = in_flat after_ row x (fin.values n) in_n (subst (In x) same k)

        back : (x : Row) → key_at o.key x ≡ q → In x (made_of after_ n) → In x (changed row)
        back x e k =
            let r = in_flattened after_ x (fin.values n) k in
            let fit = fits n is_n r.0 r.1 in
            let keys : key_at s.key r.0 ≡ key_at s.key row = origin (key_at s.key r.0) (key_at s.key row) q (key_fits s r.0 shape fit) (key_fits s row shape (fits n is_n row in_n)) (subst (λ w. In w (outs (key_at s.key r.0))) e (rule_n.kept r.0 x fit r.2)) j in
            let both : Some r.0 ≡ Some row = sym (row_got (table n) r.0 is_n r.1) ∙ ap (get n) keys ∙ got in
            let one : r.0 ≡ row = cc in
            subst (In x) (sym same) (subst (λ w. In x (after_ w)) one r.2)

    -- where no entry does
    no_change : (q : Key) → ((e : Entry) → In e all → entry_key o e ≡ q → ⊥) → found o.key q (made_of before m) ≡ found o.key q (made_of after_ n)
    no_change q none = found_same o.key q (made_of before m) (made_of after_ n) (sole_made before m rule_m is_m) (sole_made after_ n rule_n is_n) there back
      where
        -- no entry is at the key of a row that makes one with key q
        off : (of : Row → List Row) → Rule s o outs of → (r x : Row) → FitsRow s r → In x (of r) → key_at o.key x ≡ q → get d (key_at s.key r) ≡ None
        off of rule r x fit i e = go (get d (key_at s.key r)) refl
          where
            go : (f : Option Entry) → get d (key_at s.key r) ≡ f → get d (key_at s.key r) ≡ None
            go None g = g
            go (Some f) g =
                let j = got_entry (delta d) (key_at s.key r) f g in
                let key : entry_key s f ≡ key_at s.key r = (is_d.each (key_at s.key r) f g).1 in
                let k : In q (outs (entry_key s f)) = subst (λ w. In q (outs w)) (sym key) (subst (λ w. In w (outs (key_at s.key r))) e (rule.kept r x fit i)) in
                absurd (none (answer o changed f q) (in_flat (answers s o outs changed) f (answer o changed f q) (entries_of (delta d)) j (in_map (answer o changed f) q (outs (entry_key s f)) k)) (at_its_key f q))

        there : (x : Row) → key_at o.key x ≡ q → In x (made_of before m) → In x (made_of after_ n)
        there x e i =
            let r = in_flattened before x (fin.values m) i in
            let none_at = off before rule_m r.0 x (fits m is_m r.0 r.1) r.2 e in
            in_flat after_ r.0 x (fin.values n) (stayed r.0 r.1 none_at) (subst (In x) (stays r.0 r.1 none_at) r.2)

        back : (x : Row) → key_at o.key x ≡ q → In x (made_of after_ n) → In x (made_of before m)
        back x e i =
            let r = in_flattened after_ x (fin.values n) i in
            let none_at = off after_ rule_n r.0 x (fits n is_n r.0 r.1) r.2 e in
            let in_m = untouched r.0 r.1 none_at in
            in_flat before r.0 x (fin.values m) in_m (subst (In x) (sym (stays r.0 in_m none_at)) r.2)

    at_key : (q : Key) → after (get out.entries q) (found o.key q (made_of before m)) ≡ found o.key q (made_of after_ n)
    at_key q = go (left_at all (record { schema = o; entries = fin.empty }) q)
      where
        go : LeftAt (record { schema = o; entries = fin.empty }) all q → after (get out.entries q) (found o.key q (made_of before m)) ≡ found o.key q (made_of after_ n)
        go (inl l) =
            let e = in_flattened (answers s o outs changed) l.0 (entries_of (delta d)) l.1 in
            let k = in_mapped (answer o changed e.0) l.0 (outs (entry_key s e.0)) e.2 in
            let key : k.0 ≡ q = sym (at_its_key e.0 k.0) ∙ ap (entry_key o) (sym k.2) ∙ l.2 in
            let here : Some l.0 ≡ Some (answer o changed e.0 q) = ap Some (k.2 ∙ ap (answer o changed e.0) key) in
            ap (λ (f : Option Entry). after f (found o.key q (made_of before m))) (l.3 ∙ here)
            ∙ at_change e.0 q e.1 (subst (λ w. In w (outs (entry_key s e.0))) key k.1)
        go (inr n') = ap (λ (f : Option Entry). after f (found o.key q (made_of before m))) (n'.1 ∙ get-empty key_cmp q) ∙ no_change q n'.0

    -- the delta merges to what the rule makes of the new table
    pub rule_merges : merge_of (table_of o (made_of before m)) out ≡ table_of o (made_of after_ n)
    rule_merges = ap (λ (r : RowMap). record { schema = o; rows = r }) (same_rows _ _ (λ q.
        get-merged (table_of o (made_of before m)).rows out.entries q
        ∙ ap (after (get out.entries q)) (get-table_of o (made_of before m) q)
        ∙ at_key q ∙ sym (get-table_of o (made_of after_ n) q)))

    -- each entry of the delta is what the new table has at its key: the row as a put, or a removal
    answer_is : (e : Entry) (q : Key) → In e (entries_of (delta d)) → In q (outs (entry_key s e)) → answer o changed e q ≡ put_or_removal q (found o.key q (made_of after_ n))
    answer_is (Removal k) q i j = ap (put_or_removal q) (at_change (Removal k) q i j)
    answer_is (Put row) q i j = ap (put_or_removal q) (sym (kept_put (found o.key q (changed row))) ∙ at_change (Put row) q i j)
      where
        kept_put : (f : Option Row) → after (Some (put_or_removal q f)) (found o.key q (made_of before m)) ≡ f
        kept_put None = refl
        kept_put (Some x) = refl

    pub rule_block : (q : Key) (e : Entry) → get out.entries q ≡ Some e → e ≡ put_or_removal q (get (table_of o (made_of after_ n)).rows q)
    rule_block q e has = go (left_at all (record { schema = o; entries = fin.empty }) q)
      where
        go : LeftAt (record { schema = o; entries = fin.empty }) all q → e ≡ put_or_removal q (get (table_of o (made_of after_ n)).rows q)
        go (inl l) =
            let f = in_flattened (answers s o outs changed) l.0 (entries_of (delta d)) l.1 in
            let k = in_mapped (answer o changed f.0) l.0 (outs (entry_key s f.0)) f.2 in
            let key : k.0 ≡ q = sym (at_its_key f.0 k.0) ∙ ap (entry_key o) (sym k.2) ∙ l.2 in
            let here : l.0 ≡ answer o changed f.0 q = k.2 ∙ ap (answer o changed f.0) key in
            let both : Some e ≡ Some l.0 = sym has ∙ l.3 in
            let same : e ≡ l.0 = cc in
            same ∙ here ∙ answer_is f.0 q f.1 (subst (λ w. In w (outs (entry_key s f.0))) key k.1) ∙ ap (put_or_removal q) (sym (get-table_of o (made_of after_ n) q))
        go (inr n') = let no : Some e ≡ None = sym has ∙ n'.1 ∙ get-empty key_cmp q in absurd cc

    -- its keys are the output keys of the keys of d
    pub key_from : (q : Key) (e : Entry) → get out.entries q ≡ Some e → (k : Key) × (f : Entry) × (get d k ≡ Some f) × In q (outs k)
    key_from q e has = go (left_at all (record { schema = o; entries = fin.empty }) q)
      where
        go : LeftAt (record { schema = o; entries = fin.empty }) all q → (k : Key) × (f : Entry) × (get d k ≡ Some f) × In q (outs k)
        go (inl l) =
            let f = in_flattened (answers s o outs changed) l.0 (entries_of (delta d)) l.1 in
            let k = in_mapped (answer o changed f.0) l.0 (outs (entry_key s f.0)) f.2 in
            let key : k.0 ≡ q = sym (at_its_key f.0 k.0) ∙ ap (entry_key o) (sym k.2) ∙ l.2 in
            (entry_key s f.0, f.0, entry_got (delta d) f.0 is_d f.1, subst (λ w. In w (outs (entry_key s f.0))) key k.1)
        go (inr n') = let no : Some e ≡ None = sym has ∙ n'.1 ∙ get-empty key_cmp q in absurd cc

    pub key_to : (q k : Key) (f : Entry) → get d k ≡ Some f → In q (outs k) → (e : Entry) × (get out.entries q ≡ Some e)
    key_to q k f has j = go (left_at all (record { schema = o; entries = fin.empty }) q)
      where
        i : In f (entries_of (delta d))
        i = got_entry (delta d) k f has

        its : In q (outs (entry_key s f))
        its = subst (λ w. In q (outs w)) (sym (is_d.each k f has).1) j

        go : LeftAt (record { schema = o; entries = fin.empty }) all q → (e : Entry) × (get out.entries q ≡ Some e)
        go (inl l) = (l.0, l.3)
        go (inr n') = absurd (n'.0 (answer o changed f q) (in_flat (answers s o outs changed) f (answer o changed f q) (entries_of (delta d)) i (in_map (answer o changed f) q (outs (entry_key s f)) its)) (at_its_key f q))
