-- One version more.
use Rattle.std.proofs.Common.{◌≡◌, ◌⊎◌, inl, inr, ℕ, zero, suc, ◌+◌, ◌<◌, ◌≤◌, Bool, true, false, ◌||◌, cond, List, [], ◌∷◌, ◌++◌, length, Option, Some, None, is_some, refl, ap, sym, ◌∙◌, arith, if◌then◌else◌}
use Rattle.std.specs.Prelude.{nat_lt}
use Rattle.std.specs.FinMap as fin
use Rattle.std.proofs.lemmas.List.{length_push, get_or_append_left, get_or_push}
use Rattle.nova_value.specs.declared.value.Value.{Value}
use Rattle.nova_value.specs.declared.schema.Entry.{Entry}
use Rattle.nova_value.specs.declared.schema.Entry.TheVariants.{Put, Removal}
use Rattle.nova_delta.specs.Merge.{RowMap, EntryMap, merged, puts, after as left_by}
use Rattle.nova_delta.specs.ActionLaws.{same_entries, get-merged}
use Rattle.nova_machine.specs.Versions.{Version, has, no_version, version_in, rows_in, wrote_by, written, block, entry_of, Keeps}
use Rattle.nova_machine.proofs.Blocks.{get-block, has_more, written-wrote, puts_made, wrote_none}

pub version_before : (vs : List Version) (v : Version) (n : ℕ) → n ≤ length vs → version_in (vs ++ v ∷ []) n ≡ version_in vs n
version_before vs v zero le = refl
version_before vs v (suc n) le = get_or_append_left vs (v ∷ []) no_version n (omega arith)

pub version_new : (vs : List Version) (v : Version) → version_in (vs ++ v ∷ []) (suc (length vs)) ≡ v
version_new vs v = get_or_push vs v no_version (length vs) refl

pub keeps_more : (vs : List Version) (v : Version) → Keeps vs → ((q : List Value) → has v.wrote q ≡ false → fin.get v.rows q ≡ fin.get (rows_in vs (length vs)) q) → Keeps (vs ++ v ∷ [])
keeps_more vs v keeps new n lt q none =
    let split : (n < length vs) ⊎ (n ≡ length vs) = let long = length_push vs v in grind arith in
    elim split as (λ _. fin.get (rows_in (vs ++ v ∷ []) (suc n)) q ≡ fin.get (rows_in (vs ++ v ∷ []) n) q) [
      | inl low ↦
          let here = version_before vs v (suc n) (omega arith) in
          ap (λ (w : Version). fin.get w.rows q) here
          ∙ keeps n low q (ap (λ (w : Version). has w.wrote q) (sym here) ∙ none)
          ∙ ap (λ (w : Version). fin.get w.rows q) (sym (version_before vs v n (omega arith)))
      | inr e ↦
          let here : version_in (vs ++ v ∷ []) (suc n) ≡ v = ap (λ m. version_in (vs ++ v ∷ []) (suc m)) e ∙ version_new vs v in
          ap (λ (w : Version). fin.get w.rows q) here
          ∙ new q (ap (λ (w : Version). has w.wrote q) (sym here) ∙ none)
          ∙ ap (λ (w : Version). fin.get w.rows q) (sym (ap (version_in (vs ++ v ∷ [])) e ∙ version_before vs v (length vs) (omega arith)))
    ]

wrote_stays : (vs : List Version) (v : Version) (i j : ℕ) → j ≤ length vs → wrote_by (vs ++ v ∷ []) i j ≡ wrote_by vs i j
wrote_stays vs v i zero le = refl
wrote_stays vs v i (suc j) le = λ z. if nat_lt i (suc j) then wrote_stays vs v i j (omega arith) z ++ (version_before vs v (suc j) le z).wrote else []

written_stays : (vs : List Version) (v : Version) (i j : ℕ) → j ≤ length vs → written (vs ++ v ∷ []) i j ≡ written vs i j
unfolding written
written_stays vs v zero j le = ap (λ (w : Version). fin.keys w.rows) (version_before vs v j le)
written_stays vs v (suc i) j le = wrote_stays vs v (suc i) j le

-- a block that is there stays
pub block_stays : (vs : List Version) (v : Version) (i j : ℕ) → j ≤ length vs → block (vs ++ v ∷ []) i j ≡ block vs i j
block_stays vs v i j le = same_entries _ _ (λ q.
    get-block (vs ++ v ∷ []) i j q
    ∙ (λ z. cond (has (written_stays vs v i j le z) q) (Some (entry_of q (fin.get (version_before vs v j le z).rows q))) None)
    ∙ sym (get-block vs i j q))

-- the delta that made a version is its block, where it has the keys that were written, and each removal is of its key
made_at : (q : List Value) (b : Bool) (o : Option Entry) (r : Option (List Value)) → b ≡ is_some o → ((k : List Value) → o ≡ Some (Removal k) → k ≡ q) → cond b (Some (entry_of q (left_by o r))) None ≡ o
made_at q true None r e rem = cc
made_at q false None r e rem = refl
made_at q true (Some (Put row)) r e rem = refl
made_at q false (Some (Put row)) r e rem = cc
made_at q true (Some (Removal k)) r e rem = ap (λ l. Some (Removal l)) (sym (rem k refl))
made_at q false (Some (Removal k)) r e rem = cc

module _ (vs : List Version) (v : Version) (d : EntryMap) (rows : v.rows ≡ merged (rows_in vs (length vs)) d) where
  pub made_block : 0 < length vs → ((q : List Value) → has v.wrote q ≡ is_some (fin.get d q)) → ((q k : List Value) → fin.get d q ≡ Some (Removal k) → k ≡ q) → block (vs ++ v ∷ []) (length vs) (length vs + 1) ≡ d
  made_block pos wrote removes =
      let n = length vs in
      let e : n + 1 ≡ suc n = omega arith in
      ap (block (vs ++ v ∷ []) n) e ∙ same_entries _ _ (λ q.
      let new = version_new vs v in
      let said : has (written (vs ++ v ∷ []) n (suc n)) q ≡ is_some (fin.get d q) =
      ap (λ ks. has ks q) (written-wrote (vs ++ v ∷ []) n (suc n) pos) ∙ has_more (vs ++ v ∷ []) n n (omega arith) q
      ∙ (λ z. has (wrote_none (vs ++ v ∷ []) n n (omega arith) z) q || has (new z).wrote q) ∙ wrote q in
      get-block (vs ++ v ∷ []) n (suc n) q
      ∙ ap (λ (m : RowMap). cond (has (written (vs ++ v ∷ []) n (suc n)) q) (Some (entry_of q (fin.get m q))) None) (ap (λ (w : Version). w.rows) new ∙ rows)
      ∙ ap (λ r. cond (has (written (vs ++ v ∷ []) n (suc n)) q) (Some (entry_of q r)) None) (get-merged (rows_in vs n) d q)
      ∙ made_at q _ (fin.get d q) (fin.get (rows_in vs n) q) said (removes q))

  pub first_block : length vs ≡ 0 → block (vs ++ v ∷ []) (length vs) (length vs + 1) ≡ puts d
  first_block none =
      ap (λ n. block (vs ++ v ∷ []) n (n + 1)) none
      ∙ sym (puts_made d (vs ++ v ∷ []) 1 (ap (λ n. merged (rows_in vs n) d) (sym none) ∙ sym rows ∙ ap (λ (w : Version). w.rows) (sym (version_new vs v)) ∙ ap (λ n. rows_in (vs ++ v ∷ []) (suc n)) none))
