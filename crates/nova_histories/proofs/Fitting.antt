-- Versions that fit a schema, and the blocks between them.
use Rattle.std.proofs.Common.{◌≡◌, ◌⊎◌, inl, inr, ℕ, zero, suc, ◌≤◌, Bool, true, false, ◌||◌, cond, List, [], ◌∷◌, ◌++◌, length, Option, Some, None, is_some, refl, ap, sym, ◌∙◌, subst, arith}
use Rattle.std.specs.Prelude.{slice_index_or}
use Rattle.std.specs.List.{AllByRecursion}
use Rattle.std.specs.FinMap as fin
use Rattle.std.specs.Ordering.{eq_by_cmp}
use Rattle.nova_value.specs.declared.value.Value.{Value}
use Rattle.nova_value.specs.declared.schema.Entry.{Entry}
use Rattle.nova_value.specs.Order.{key_cmp}
use Rattle.nova_value.specs.Orders.{same_keys}
use Rattle.nova_value.specs.Rows.{Shape, IsShape, FitsKey}
use Rattle.nova_value.specs.Entries.{FitsEntry, entry_key}
use Rattle.nova_delta.specs.Merge.{EntryMap, IsDelta, IsTable, merged}
use Rattle.nova_delta.proofs.Keeps.{delta_empty, delta_with, table_empty, table_merged}
use Rattle.nova_pig_algebra.specs.Statements.{In}
use Rattle.nova_machine.specs.Versions.{Version, block, entry_of, has, no_version, rows_in, version_in, written, wrote_by}
use Rattle.nova_machine.specs.Steps.{set_entries}
use Rattle.nova_machine.proofs.Blocks.{get-block, has_more, written-0, written-wrote, wrote_none}
use Rattle.nova_rowwise.proofs.AtOnceIs.{entry_key_fits}

-- a key that a list has is one of it
pub any_in : (q : List Value) (ks : List (List Value)) → has ks q ≡ true → In q ks
any_in q [] e = absurd cc
any_in q (k ∷ ks) e = go (eq_by_cmp key_cmp q k) refl e (λ f. any_in q ks f)
  where
    go : (b : Bool) → eq_by_cmp key_cmp q k ≡ b → (b || has ks q) ≡ true → (has ks q ≡ true → In q ks) → In q (k ∷ ks)
    go true same f rest = inl ((same_keys q k).0 same)
    go false other f rest = inr (rest f)

pub in_any : (q : List Value) (ks : List (List Value)) → In q ks → has ks q ≡ true
in_any q [] i = absurd i
in_any q (k ∷ ks) (inl e) = ap (λ b. b || has ks q) ((same_keys q k).1 e)
in_any q (k ∷ ks) (inr i) = go (eq_by_cmp key_cmp q k) (in_any q ks i)
  where
    go : (b : Bool) → has ks q ≡ true → (b || has ks q) ≡ true
    go true f = refl
    go false f = f

pub some_at : {X : Type 0} (o : Option X) → is_some o ≡ true → (e : X) × (o ≡ Some e)
some_at None is = absurd cc
some_at (Some e) is = (e, refl)

-- a version's rows are a table, and the keys that it wrote fit
pub record FitsIn (schema : Shape) (v : Version) : Type 0 where
  pub table : IsTable (record { schema = schema; rows = v.rows })
  pub keys : (q : List Value) → has v.wrote q ≡ true → FitsKey schema q

nothing_fits : (schema : Shape) → FitsIn schema no_version
nothing_fits schema = record { table = table_empty schema; keys = λ q is. absurd cc }

in_list : (schema : Shape) (vs : List Version) → AllByRecursion (FitsIn schema) vs → (n : ℕ) → FitsIn schema (slice_index_or vs n no_version)
in_list schema [] all n = nothing_fits schema
in_list schema (v ∷ vs) all zero = all.0
in_list schema (v ∷ vs) all (suc n) = in_list schema vs all.1 n

pub at_version : (schema : Shape) (vs : List Version) → AllByRecursion (FitsIn schema) vs → (n : ℕ) → FitsIn schema (version_in vs n)
at_version schema vs all zero = nothing_fits schema
at_version schema vs all (suc n) = in_list schema vs all n

pub one_more : (schema : Shape) (vs : List Version) (v : Version) → AllByRecursion (FitsIn schema) vs → FitsIn schema v → AllByRecursion (FitsIn schema) (vs ++ v ∷ [])
one_more schema [] v all fits = (fits, tt)
one_more schema (w ∷ vs) v all fits = (all.0, one_more schema vs v all.1 fits)

abbrev pub IsDeltaOf : Shape → EntryMap → Type 0
IsDeltaOf schema d = IsDelta (record { schema = schema; entries = d })

-- ---- the version that a load makes

-- entries that fit make a delta
pub delta_all : (schema : Shape) (d : EntryMap) (es : List Entry) → AllByRecursion (FitsEntry schema) es → IsDeltaOf schema d → IsDeltaOf schema (set_entries schema d es)
delta_all schema d [] all was = was
delta_all schema d (e ∷ es) all was = delta_all schema (fin.insert d (entry_key schema e) e) es all.1 (delta_with (record { schema = schema; entries = d }) e was all.0)

pub delta_none : (schema : Shape) → IsDeltaOf schema fin.empty
delta_none schema = delta_empty schema

pub loaded_fits : (schema : Shape) → IsShape schema → (vs : List Version) (d : EntryMap) → AllByRecursion (FitsIn schema) vs → IsDeltaOf schema d
    → FitsIn schema (record { rows = merged (rows_in vs (length vs)) d; wrote = fin.keys d })
loaded_fits schema shape vs d all delta = record {
  table = table_merged (record { schema = schema; rows = rows_in vs (length vs) }) (record { schema = schema; entries = d }) refl (at_version schema vs all (length vs)).table delta;
  keys = λ q there.
      let found = some_at (fin.get d q) (fin.contains_key-keys d q ∙ there) in
      let fits = delta.each q found.0 found.1 in
      subst (FitsKey schema) fits.1 (entry_key_fits schema found.0 shape fits.0);
}

-- ---- blocks

either_true : (a b : Bool) → (a || b) ≡ true → (a ≡ true) ⊎ (b ≡ true)
either_true true b is = inl refl
either_true false b is = inr is

order : (m n : ℕ) → (m ≤ n) ⊎ (suc n ≤ m)
order m n = grind arith

module _ (schema : Shape) (vs : List Version) (all : AllByRecursion (FitsIn schema) vs) where
  wrote_fits : (i j : ℕ) (q : List Value) → has (wrote_by vs i j) q ≡ true → FitsKey schema q
  wrote_fits i zero q is = absurd cc
  wrote_fits i (suc j) q is = elim (order i j) as (λ _. FitsKey schema q) [
    | inl low ↦ elim (either_true (has (wrote_by vs i j) q) (has (version_in vs (suc j)).wrote q) (sym (has_more vs i j low q) ∙ is)) as (λ _. FitsKey schema q) [
      | inl before ↦ wrote_fits i j q before
      | inr here ↦ (at_version schema vs all (suc j)).keys q here
    ]
    | inr high ↦ absurd (let none = ap (λ (ks : List (List Value)). has ks q) (wrote_none vs i (suc j) high) in let clash : false ≡ true = sym none ∙ is in cc)
  ]

  gone_fits : (i j : ℕ) (q : List Value) → fin.get (rows_in vs j) q ≡ None → has (written vs i j) q ≡ true → FitsKey schema q
  gone_fits zero j q none is =
      absurd (let no_row : is_some (fin.get (rows_in vs j) q) ≡ false = ap (λ (o : Option (List Value)). is_some o) none in let clash : false ≡ true = sym no_row ∙ sym (written-0 vs j q) ∙ is in cc)
  gone_fits (suc i) j q none is = wrote_fits (suc i) j q (sym (ap (λ (ks : List (List Value)). has ks q) (written-wrote vs (suc i) j (omega arith))) ∙ is)

  entry_fits : (i j : ℕ) (q : List Value) (o : Option (List Value)) → fin.get (rows_in vs j) q ≡ o → has (written vs i j) q ≡ true → FitsEntry schema (entry_of q o) × (entry_key schema (entry_of q o) ≡ q)
  entry_fits i j q None none is = (gone_fits i j q none is, refl)
  entry_fits i j q (Some row) there is = (at_version schema vs all j).table.each q row there

  -- each key that was written between two versions fits
  pub written_fits : IsShape schema → (i j : ℕ) (q : List Value) → has (written vs i j) q ≡ true → FitsKey schema q
  written_fits shape i j q is =
      let e = entry_fits i j q (fin.get (rows_in vs j) q) refl is in
      subst (FitsKey schema) e.1 (entry_key_fits schema (entry_of q (fin.get (rows_in vs j) q)) shape e.0)

  pub block_fits : (i j : ℕ) → IsDeltaOf schema (block vs i j)
  block_fits i j = record { each = λ q e is. one q e (has (written vs i j) q) refl (sym (get-block vs i j q) ∙ is) }
    where
      one : (q : List Value) (e : Entry) (b : Bool) → has (written vs i j) q ≡ b → cond b (Some (entry_of q (fin.get (rows_in vs j) q))) None ≡ Some e → FitsEntry schema e × (entry_key schema e ≡ q)
      one q e true there is =
          let same : entry_of q (fin.get (rows_in vs j) q) ≡ e = cc in
          subst (λ (y : Entry). FitsEntry schema y × (entry_key schema y ≡ q)) same (entry_fits i j q (fin.get (rows_in vs j) q) refl there)
      one q e false gone is = absurd cc
