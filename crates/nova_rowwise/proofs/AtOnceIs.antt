-- All put rows at once give the delta that they give one by one.
use Rattle.std.specs.Prelude.{◌≡◌, List, [], ◌∷◌, map, flat_map, Option, Some, None, refl}
use Rattle.std.proofs.Common.{ap, sym, ◌∙◌, inl, inr, subst}
use Rattle.std.specs.FinMap as fin
use Rattle.std.specs.FinMap.{get, get-empty, get-entries, entries_sorted}
use Rattle.nova_value.specs.declared.schema.Entry.{Entry}
use Rattle.nova_value.specs.declared.schema.Entry.TheVariants.{Put, Removal}
use Rattle.nova_value.specs.Order.{key_cmp}
use Rattle.nova_value.specs.Rows.{Shape, IsShape, FitsRow, FitsKey, key_at}
use Rattle.nova_value.specs.Entries.{FitsEntry, entry_key}
use Rattle.nova_value.proofs.Fit.{key_fits}
use Rattle.nova_delta.specs.Merge.{DeltaValue, IsDelta, no_change}
use Rattle.nova_delta.specs.ActionLaws.{same_entries}
use Rattle.nova_delta.specs.Listed.{entries_of}
use Rattle.nova_pig_algebra.specs.Meaning.{Row}
use Rattle.nova_pig_algebra.specs.Statements.{In}
use Rattle.nova_pig_algebra.proofs.Lists.{in_mapped, in_flattened}
use Rattle.nova_rowwise.specs.AtOnce.{put_rows, removals, at_once_by}
use Rattle.nova_rowwise.specs.Derived.{found, put_or_removal, answer, answers, set_all, derived_by}
use Rattle.nova_rowwise.specs.Rule.{Rule, Origin}
use Rattle.nova_rowwise.specs.Sources.{Key}
use Rattle.nova_rowwise.proofs.Folds.{set_schema}
use Rattle.nova_rowwise.proofs.Found.{found_is, found_in, find_in}
use Rattle.nova_rowwise.proofs.Members.{in_map, in_flat}
use Rattle.nova_rowwise.proofs.Merges.{LeftAt, left_at, entry_got}

pub entry_key_fits : (s : Shape) (e : Entry) → IsShape s → FitsEntry s e → FitsKey s (entry_key s e)
entry_key_fits s (Put row) shape fit = key_fits s row shape fit
entry_key_fits s (Removal k) shape fit = fit

abbrev removal : Key → Entry
removal = Removal

abbrev put : Row → Entry
put = Put

-- put rows and puts
put_in : (es : List Entry) (r : Row) → In r (put_rows es) → In (Put r) es
put_in [] r i = absurd i
put_in (Put row ∷ es) r (inl e) = inl (ap put e)
put_in (Put row ∷ es) r (inr i) = inr (put_in es r i)
put_in (Removal k ∷ es) r i = inr (put_in es r i)

in_puts : (es : List Entry) (r : Row) → In (Put r) es → In r (put_rows es)
in_puts [] r i = absurd i
in_puts (Put row ∷ es) r (inl e) = let same : r ≡ row = cc in inl same
in_puts (Put row ∷ es) r (inr i) = inr (in_puts es r i)
in_puts (Removal k ∷ es) r (inl e) = absurd cc
in_puts (Removal k ∷ es) r (inr i) = in_puts es r i

module _ (s o : Shape) (outs : Key → List Key) (shape : IsShape s) (origin : Origin s outs) (of : Row → List Row)
    (d : DeltaValue) (its : d.schema ≡ s) (is_d : IsDelta d) where
  abbrev pub es : List Entry
  es = entries_of d

  abbrev one_by_one : List Entry
  one_by_one = flat_map (answers d.schema o outs of) es

  abbrev gone : DeltaValue
  gone = set_all (no_change o) (removals outs (fin.keys d.entries))

  at_its_key : (e : Entry) (q : Key) → entry_key o (answer o of e q) ≡ q
  at_its_key (Removal k) q = refl
  at_its_key (Put row) q = go (found o.key q (of row)) refl
    where
      go : (f : Option Row) → found o.key q (of row) ≡ f → entry_key o (put_or_removal q f) ≡ q
      go None e = refl
      go (Some x) e = (found_is o.key q (of row) x e).1

  -- an entry of d is at an output key
  pub record From (q : Key) : Type 0 where
    pub e : Entry
    pub there : In e es
    pub key : In q (outs (entry_key d.schema e))

  got : (e : Entry) → In e es → get d.entries (entry_key d.schema e) ≡ Some e
  got e i = entry_got d e is_d i

  key_fitting : (e : Entry) → In e es → FitsKey s (entry_key d.schema e)
  key_fitting e i = subst (λ z. FitsKey z (entry_key d.schema e)) its (entry_key_fits d.schema e (subst IsShape (sym its) shape) (is_d.each (entry_key d.schema e) e (got e i)).0)

  row_fitting : (r : Row) → In (Put r) es → FitsRow s r
  row_fitting r i = subst (λ z. FitsRow z r) its (is_d.each (entry_key d.schema (Put r)) (Put r) (got (Put r) i)).0

  -- only one is
  one_from : (q : Key) (a b : From q) → a.e ≡ b.e
  one_from q a b =
      let same : entry_key d.schema a.e ≡ entry_key d.schema b.e = origin (entry_key d.schema a.e) (entry_key d.schema b.e) q (key_fitting a.e a.there) (key_fitting b.e b.there) a.key b.key in
      let both : Some a.e ≡ Some b.e = sym (got a.e a.there) ∙ ap (get d.entries) same ∙ got b.e b.there in
      cc

  from_answer : (q : Key) (e : Entry) → In e one_by_one → entry_key o e ≡ q → (a : From q) × (e ≡ answer o of a.e q)
  from_answer q e i key =
      let f = in_flattened (answers d.schema o outs of) e es i in
      let k = in_mapped (answer o of f.0) e (outs (entry_key d.schema f.0)) f.2 in
      let same : k.0 ≡ q = sym (at_its_key f.0 k.0) ∙ ap (entry_key o) (sym k.2) ∙ key in
      (record { e = f.0; there = f.1; key = subst (λ w. In w (outs (entry_key d.schema f.0))) same k.1 }, k.2 ∙ ap (answer o of f.0) same)

  to_answer : (q : Key) (a : From q) → In (answer o of a.e q) one_by_one
  to_answer q a = in_flat (answers d.schema o outs of) a.e (answer o of a.e q) es a.there (in_map (answer o of a.e) q (outs (entry_key d.schema a.e)) a.key)

  -- an entry stands at its key
  stands : (p : Key × Entry) → In p (fin.entries d.entries) → p.0 ≡ entry_key d.schema p.1
  stands p i = sym (is_d.each p.0 p.1 (get-entries d.entries p.0 ∙ find_in (fin.entries d.entries) p (entries_sorted d.entries) i)).1

  key_in : (e : Entry) → In e es → In (entry_key d.schema e) (fin.keys d.entries)
  key_in e i =
      let p = in_mapped (λ (x : Key × Entry). x.1) e (fin.entries d.entries) i in
      subst (λ k. In k (fin.keys d.entries)) (stands p.0 p.1 ∙ ap (entry_key d.schema) (sym p.2)) (in_map (λ (x : Key × Entry). x.0) p.0 (fin.entries d.entries) p.1)

  from_removal : (q : Key) (e : Entry) → In e (removals outs (fin.keys d.entries)) → entry_key o e ≡ q → From q × (e ≡ Removal q)
  from_removal q e i key =
      let f = in_flattened (λ k. map removal (outs k)) e (fin.keys d.entries) i in
      let k = in_mapped removal e (outs f.0) f.2 in
      let same : k.0 ≡ q = ap (entry_key o) (sym k.2) ∙ key in
      let p = in_mapped (λ (x : Key × Entry). x.0) f.0 (fin.entries d.entries) f.1 in
      let there : In (p.0).1 es = in_map (λ (x : Key × Entry). x.1) p.0 (fin.entries d.entries) p.1 in
      let at : f.0 ≡ entry_key d.schema (p.0).1 = p.2 ∙ stands p.0 p.1 in
      (record { e = (p.0).1; there = there; key = subst (λ w. In q (outs w)) at (subst (λ w. In w (outs f.0)) same k.1) }, k.2 ∙ ap removal same)

  to_removal : (q : Key) → From q → In (Removal q) (removals outs (fin.keys d.entries))
  to_removal q a = in_flat (λ k. map removal (outs k)) (entry_key d.schema a.e) (Removal q) (fin.keys d.entries) (key_in a.e a.there) (in_map removal q (outs (entry_key d.schema a.e)) a.key)

  gone_schema : gone.schema ≡ o
  gone_schema = set_schema (removals outs (fin.keys d.entries)) (no_change o)

  abbrev pub each : DeltaValue
  each = set_all (no_change o) one_by_one

  -- the delta has at a key what its one entry there answers, and nothing where there is none
  pub answered : (q : Key) (e : Entry) → get each.entries q ≡ Some e → (a : From q) × (e ≡ answer o of a.e q)
  answered q e has = go (left_at one_by_one (no_change o) q)
    where
      go : LeftAt (no_change o) one_by_one q → (a : From q) × (e ≡ answer o of a.e q)
      go (inl l) = let both : Some e ≡ Some l.0 = sym has ∙ l.3 in let same : e ≡ l.0 = cc in let f = from_answer q l.0 l.1 l.2 in (f.0, same ∙ f.1)
      go (inr n) = let no : Some e ≡ None = sym has ∙ n.1 ∙ get-empty key_cmp q in absurd cc

  pub answers_at : (q : Key) (a : From q) → get each.entries q ≡ Some (answer o of a.e q)
  answers_at q a = go (left_at one_by_one (no_change o) q)
    where
      go : LeftAt (no_change o) one_by_one q → get each.entries q ≡ Some (answer o of a.e q)
      go (inl l) = let f = from_answer q l.0 l.1 l.2 in l.3 ∙ ap (λ (e : Entry). Some e) (f.1 ∙ ap (λ e. answer o of e q) (one_from q f.0 a))
      go (inr n) = absurd (n.0 (answer o of a.e q) (to_answer q a) (at_its_key a.e q))

  module _ (rule : Rule s o outs of) (made : List Row)
      (goes : (x : Row) → In x made → (r : Row) × In r (put_rows (entries_of d)) × In x (of r))
      (comes : (r x : Row) → In r (put_rows (entries_of d)) → In x (of r) → In x made) where
    -- a made row is at an output key of its put
    made_from : (x : Row) → In x made → (r : Row) × (a : From (key_at o.key x)) × (a.e ≡ Put r) × In x (of r)
    made_from x i =
        let g = goes x i in
        let j = put_in es g.0 g.1 in
        let kept = rule.kept g.0 x (row_fitting g.0 j) g.2 in
        let key = subst (λ z. In (key_at o.key x) (outs (key_at z.key g.0))) (sym its) kept in
        (g.0, record { e = Put g.0; there = j; key = key }, refl, g.2)

    abbrev both : DeltaValue
    both = set_all gone (map put made)

    -- at the key of a made row
    at_made : (q : Key) (x : Row) → In x made → key_at o.key x ≡ q → LeftAt (no_change o) one_by_one q → get each.entries q ≡ Some (Put x)
    at_made q x i key left = go (subst (λ w. (r : Row) × (a : From w) × (a.e ≡ Put r) × In x (of r)) key (made_from x i)) left
      where
        go : (r : Row) × (a : From q) × (a.e ≡ Put r) × In x (of r) → LeftAt (no_change o) one_by_one q → get each.entries q ≡ Some (Put x)
        go m (inr n) = absurd (n.0 (answer o of m.1.e q) (to_answer q m.1) (at_its_key m.1.e q))
        go m (inl l) =
            let f = from_answer q l.0 l.1 l.2 in
            let here : f.0.e ≡ Put m.0 = one_from q f.0 m.1 ∙ m.2 in
            let fit = row_fitting m.0 (subst (λ e. In e es) m.2 m.1.there) in
            let found_x : found o.key q (of m.0) ≡ Some x = found_in o.key q (of m.0) x (rule.one m.0 fit) m.3 key in
            l.3 ∙ ap (λ (e : Entry). Some e) (f.1 ∙ ap (λ e. answer o of e q) here ∙ ap (put_or_removal q) found_x)

    -- at no such key an answer is a removal
    no_row : (q : Key) → ((x : Row) → In x made → key_at o.key x ≡ q → ⊥) → (a : From q) → answer o of a.e q ≡ Removal q
    no_row q none a = by_entry a.e a.there
      where
        by_entry : (e : Entry) → In e es → answer o of e q ≡ Removal q
        by_entry (Removal k) i = refl
        by_entry (Put row) i = go (found o.key q (of row)) refl
          where
            go : (f : Option Row) → found o.key q (of row) ≡ f → put_or_removal q f ≡ Removal q
            go None e = refl
            go (Some x) e = let f = found_is o.key q (of row) x e in absurd (none x (comes row x (in_puts es row i) f.0) f.1)

    at_key : (q : Key) → get both.entries q ≡ get each.entries q
    at_key q = go (left_at (map put made) gone q) (left_at one_by_one (no_change o) q)
      where
        no_made : ((e : Entry) → In e (map put made) → entry_key gone.schema e ≡ q → ⊥) → (x : Row) → In x made → key_at o.key x ≡ q → ⊥
        no_made none x i key = none (Put x) (in_map put x made i) (ap (λ (z : Shape). key_at z.key x) gone_schema ∙ key)

        go : LeftAt gone (map put made) q → LeftAt (no_change o) one_by_one q → get both.entries q ≡ get each.entries q
        go (inl l) right =
            let x = in_mapped put l.0 made l.1 in
            let key : key_at o.key x.0 ≡ q = ap (λ (z : Shape). key_at z.key x.0) (sym gone_schema) ∙ ap (entry_key gone.schema) (sym x.2) ∙ l.2 in
            l.3 ∙ ap (λ (e : Entry). Some e) x.2 ∙ sym (at_made q x.0 x.1 key right)
        go (inr l) right = l.1 ∙ past (no_made l.0) (left_at (removals outs (fin.keys d.entries)) (no_change o) q) right
          where
            past : ((x : Row) → In x made → key_at o.key x ≡ q → ⊥) → LeftAt (no_change o) (removals outs (fin.keys d.entries)) q → LeftAt (no_change o) one_by_one q → get gone.entries q ≡ get each.entries q
            past none (inl g) (inl r) =
                let a = from_removal q g.0 g.1 g.2 in
                let f = from_answer q r.0 r.1 r.2 in
                g.3 ∙ ap (λ (e : Entry). Some e) (a.1 ∙ sym (f.1 ∙ no_row q none f.0)) ∙ sym r.3
            past none (inl g) (inr r) = let a = from_removal q g.0 g.1 g.2 in absurd (r.0 (answer o of a.0.e q) (to_answer q a.0) (at_its_key a.0.e q))
            past none (inr g) (inl r) = let f = from_answer q r.0 r.1 r.2 in absurd (g.0 (Removal q) (to_removal q f.0) refl)
            past none (inr g) (inr r) = g.1 ∙ sym r.1

    pub at_once_is : at_once_by o outs made d ≡ derived_by o outs of d
    at_once_is =
        let schemas : both.schema ≡ each.schema = set_schema (map put made) gone ∙ gone_schema ∙ sym (set_schema one_by_one (no_change o)) in
        let entries = same_entries both.entries each.entries at_key in
        λ i. record { schema = schemas i; entries = entries i }
