-- Blocks, at each key; chains of blocks.
use Rattle.std.proofs.Common.{◌≡◌, ◌⊎◌, inl, inr, ℕ, zero, suc, ◌<◌, ◌≤◌, Bool, true, false, cond, ◌||◌, List, [], ◌++◌, length, Option, Some, None, is_some, refl, ap, sym, ◌∙◌, arith, if◌then◌else◌}
use Rattle.std.specs.Prelude.{nat_lt}
use Rattle.std.proofs.lemmas.Bool.Decides.{nat_tests}
use Rattle.std.specs.Ordering.{eq_by_cmp}
use Rattle.std.specs.FinMap.{get, empty, get-empty, contains_key-keys}
use Rattle.nova_value.specs.declared.value.Value.{Value}
use Rattle.nova_value.specs.declared.schema.Entry.{Entry}
use Rattle.nova_value.specs.declared.schema.Entry.TheVariants.{Put, Removal}
use Rattle.nova_value.specs.Order.{key_cmp}
use Rattle.nova_value.specs.Orders.{keys_total, exact_keys}
use Rattle.nova_delta.specs.ActionLaws.{get-tabulated_listed, list_any-append}
use Rattle.nova_delta.specs.Merge.{EntryMap, after, later, merged, chained, put_only, puts}
use Rattle.nova_delta.specs.ActionLaws.{get-merged, get-chained, same_rows, same_entries}
use Rattle.nova_delta.proofs.Merging.{get-puts}
use Rattle.nova_machine.specs.Versions.{Version, has, version_in, rows_in, wrote_by, written, entry_of, block, Keeps}

-- a block at a key
pub get-block : (vs : List Version) (i j : ℕ) (q : List Value) → get (block vs i j) q ≡ cond (has (written vs i j) q) (Some (entry_of q (get (rows_in vs j) q))) None
unfolding block
get-block vs i j q = get-tabulated_listed exact_keys q _ keys_total (written vs i j)

-- from 0 the keys are those of the table
pub written-0 : (vs : List Version) (j : ℕ) (q : List Value) → has (written vs 0 j) q ≡ is_some (get (rows_in vs j) q)
unfolding written
written-0 vs j q = sym (contains_key-keys (rows_in vs j) q)

pub written-wrote : (vs : List Version) (i j : ℕ) → 0 < i → written vs i j ≡ wrote_by vs i j
unfolding written
written-wrote vs zero j lt = absurd (omega (arith, lt))
written-wrote vs (suc i) j lt = refl

or_false : (a b : Bool) → (a || b) ≡ false → (a ≡ false) × (b ≡ false)
or_false true b e = cc
or_false false b e = (refl, e)

pub wrote_none : (vs : List Version) (i j : ℕ) → j ≤ i → wrote_by vs i j ≡ []
wrote_none vs i zero le = refl
wrote_none vs i (suc j) le = let no : nat_lt i (suc j) ≡ false = grind (arith, nat_tests) in ap (λ b. if b then wrote_by vs i j ++ (version_in vs (suc j)).wrote else []) no

wrote_more : (vs : List Version) (i j : ℕ) → i ≤ j → wrote_by vs i (suc j) ≡ wrote_by vs i j ++ (version_in vs (suc j)).wrote
wrote_more vs i j le = let yes : nat_lt i (suc j) ≡ true = grind (arith, nat_tests) in ap (λ b. if b then wrote_by vs i j ++ (version_in vs (suc j)).wrote else []) yes

pub has-append : (ks ls : List (List Value)) (q : List Value) → has (ks ++ ls) q ≡ (has ks q || has ls q)
has-append ks ls q = list_any-append (eq_by_cmp key_cmp q) ks ls

or_assoc : (a b c : Bool) → ((a || b) || c) ≡ (a || (b || c))
or_assoc true b c = refl
or_assoc false b c = refl

or_nothing : (a : Bool) → a ≡ (a || false)
or_nothing true = refl
or_nothing false = refl

pub has_more : (vs : List Version) (i j : ℕ) → i ≤ j → (q : List Value) → has (wrote_by vs i (suc j)) q ≡ (has (wrote_by vs i j) q || has (version_in vs (suc j)).wrote q)
has_more vs i j le q = ap (λ ks. has ks q) (wrote_more vs i j le) ∙ has-append (wrote_by vs i j) _ q

-- what two stretches wrote is what the whole wrote
pub wrote_both : (vs : List Version) (i k j : ℕ) → i ≤ k → k ≤ j → (q : List Value) → has (wrote_by vs i j) q ≡ (has (wrote_by vs i k) q || has (wrote_by vs k j) q)
wrote_both vs i k zero p r q = ap (λ ks. has ks q) (sym (wrote_none vs i k (omega arith))) ∙ or_nothing (has (wrote_by vs i k) q)
wrote_both vs i k (suc j) p r q =
    let split : (k ≤ j) ⊎ (k ≡ suc j) = grind arith in
    elim split as (λ _. has (wrote_by vs i (suc j)) q ≡ (has (wrote_by vs i k) q || has (wrote_by vs k (suc j)) q)) [
      | inl le ↦ has_more vs i j (omega arith) q ∙ ap (λ b. b || has (version_in vs (suc j)).wrote q) (wrote_both vs i k j p le q) ∙ or_assoc (has (wrote_by vs i k) q) (has (wrote_by vs k j) q) (has (version_in vs (suc j)).wrote q) ∙ ap (λ b. has (wrote_by vs i k) q || b) (sym (has_more vs k j le q))
      | inr e ↦ or_nothing _ ∙ (λ z. has (wrote_by vs i (sym e z)) q || has (sym (wrote_none vs k (suc j) (omega arith)) z) q)
    ]

-- a key that nothing wrote between i and j has the same row at both
pub same_between : (vs : List Version) → Keeps vs → (i j : ℕ) → i ≤ j → j ≤ length vs → (q : List Value) → has (wrote_by vs i j) q ≡ false → get (rows_in vs j) q ≡ get (rows_in vs i) q
same_between vs keeps i zero le short q none = let z : i ≡ zero = omega arith in ap (λ n. get (rows_in vs n) q) (sym z)
same_between vs keeps i (suc j) le short q none =
    let split : (i ≤ j) ⊎ (i ≡ suc j) = grind arith in
    elim split as (λ _. get (rows_in vs (suc j)) q ≡ get (rows_in vs i) q) [
      | inl low ↦
          let both = or_false _ _ (sym (has_more vs i j low q) ∙ none) in
          keeps j (omega arith) q both.1 ∙ same_between vs keeps i j low (omega arith) q both.0
      | inr e ↦ ap (λ n. get (rows_in vs n) q) (sym e)
    ]

chain_at : (a b : Bool) (x y : Entry) → (b ≡ false → y ≡ x) → later (cond b (Some x) None) (cond a (Some y) None) ≡ cond (a || b) (Some x) None
chain_at true true x y e = refl
chain_at true false x y e = ap Some (e refl)
chain_at false true x y e = refl
chain_at false false x y e = refl

module _ (vs : List Version) (keeps : Keeps vs) where
  -- above 0, chained blocks are the block of the ends
  pub blocks_chain : (i k j : ℕ) → 0 < i → i ≤ k → k ≤ j → j ≤ length vs → chained (block vs i k) (block vs k j) ≡ block vs i j
  blocks_chain i k j up le le' short = same_entries _ _ (λ q.
      let ik = ap (λ ks. has ks q) (written-wrote vs i k up) in
      let kj = ap (λ ks. has ks q) (written-wrote vs k j (omega arith)) in
      let ij = ap (λ ks. has ks q) (written-wrote vs i j up) in
      get-chained (block vs i k) (block vs k j) q
      ∙ (λ z. later (get-block vs k j q z) (get-block vs i k q z))
      ∙ chain_at (has (written vs i k) q) (has (written vs k j) q) (entry_of q (get (rows_in vs j) q)) (entry_of q (get (rows_in vs k) q))
      (λ none. ap (entry_of q) (sym (same_between vs keeps k j le' short q (sym kj ∙ none))))
      ∙ ap (λ b. cond b (Some (entry_of q (get (rows_in vs j) q))) None) ((λ z. ik z || kj z) ∙ sym (wrote_both vs i k j le le' q) ∙ sym ij)
      ∙ sym (get-block vs i j q))

after_entry : (k : List Value) (o r : Option (List Value)) → after (Some (entry_of k o)) r ≡ o
after_entry k None r = refl
after_entry k (Some row) r = refl

after_cond : (b : Bool) (k : List Value) (o r : Option (List Value)) → (b ≡ false → o ≡ r) → after (cond b (Some (entry_of k o)) None) r ≡ o
after_cond true k o r e = after_entry k o r
after_cond false k o r e = sym (e refl)

not_some : (o : Option (List Value)) → is_some o ≡ false → o ≡ None
not_some None e = refl
not_some (Some x) e = cc

-- a block from 0, merged to the empty table, is the table of its end
pub merge_block-0 : (vs : List Version) (j : ℕ) → merged empty (block vs 0 j) ≡ rows_in vs j
merge_block-0 vs j = same_rows _ _ (λ q.
    get-merged empty (block vs 0 j) q
    ∙ (λ z. after (get-block vs 0 j q z) (get-empty key_cmp q z))
    ∙ after_cond (has (written vs 0 j) q) q (get (rows_in vs j) q) None (λ no. not_some _ (sym (written-0 vs j q) ∙ no)))

-- a block merged to the table of its start is the table of its end: from 0 always, and above 0 where the versions keep what they didn't write
pub merge_block : (vs : List Version) (i j : ℕ) → (i ≡ 0) ⊎ Keeps vs → i ≤ j → j ≤ length vs → merged (rows_in vs i) (block vs i j) ≡ rows_in vs j
merge_block vs zero j keeps le short = merge_block-0 vs j
merge_block vs (suc i) j (inl zeros) le short = absurd (omega (arith, zeros))
merge_block vs (suc i) j (inr keeps) le short = same_rows _ _ (λ q.
    get-merged (rows_in vs (suc i)) (block vs (suc i) j) q
    ∙ ap (λ o. after o (get (rows_in vs (suc i)) q)) (get-block vs (suc i) j q)
    ∙ after_cond (has (written vs (suc i) j) q) q (get (rows_in vs j) q) (get (rows_in vs (suc i)) q)
    (λ no. same_between vs keeps (suc i) j le short q (sym (ap (λ ks. has ks q) (written-wrote vs (suc i) j (omega arith))) ∙ no)))

-- a delta without removals is told by what it makes of the empty table
abbrev put_of : Option (List Value) → Option Entry
put_of None = None
put_of (Some row) = Some (Put row)

only_after : (o : Option Entry) → put_only o ≡ put_of (after o None)
only_after None = refl
only_after (Some (Put row)) = refl
only_after (Some (Removal k)) = refl

block_put : (k : List Value) (b : Bool) (o : Option (List Value)) → b ≡ is_some o → cond b (Some (entry_of k o)) None ≡ put_of o
block_put k true None e = cc
block_put k true (Some r) e = refl
block_put k false None e = refl
block_put k false (Some r) e = cc

pub puts_made : (d : EntryMap) (vs : List Version) (j : ℕ) → merged empty d ≡ rows_in vs j → puts d ≡ block vs 0 j
puts_made d vs j e = same_entries _ _ (λ q.
    get-puts d q ∙ only_after (get d q)
    ∙ ap put_of ((λ z. after (get d q) (sym (get-empty key_cmp q) z)) ∙ sym (get-merged empty d q) ∙ ap (λ m. get m q) e)
    ∙ sym (get-block vs 0 j q ∙ block_put q _ (get (rows_in vs j) q) (written-0 vs j q)))

-- from i to i nothing was written
pub block_none : (vs : List Version) (i : ℕ) → 0 < i → block vs i i ≡ empty
block_none vs i up = same_entries _ _ (λ q.
    get-block vs i i q
    ∙ ap (λ ks. cond (has ks q) (Some (entry_of q (get (rows_in vs i) q))) None) (written-wrote vs i i up ∙ wrote_none vs i i (omega arith))
    ∙ sym (get-empty key_cmp q))
