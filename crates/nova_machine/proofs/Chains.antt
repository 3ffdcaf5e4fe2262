-- Chaining the blocks of a path gives the block of its ends.
use Rattle.std.proofs.Common.{◌≡◌, ◌⊎◌, inl, inr, ℕ, zero, suc, ◌<◌, ◌≤◌, List, [], ◌∷◌, length, ap, sym, ◌∙◌, arith, fold}
use Rattle.std.specs.FinMap.{empty}
use Rattle.nova_delta.specs.Merge.{RowMap, EntryMap, merged, chained}
use Rattle.nova_delta.specs.ActionLaws.{merged-chained, merged-empty}
use Rattle.nova_delta.proofs.Folded.{folded}
use Rattle.nova_path.specs.Lists.{IsOneOf}
use Rattle.nova_path.specs.Shelf.{Span, IsPath, Rises}
use Rattle.nova_path.proofs.Paths.{path_rises}
use Rattle.nova_machine.specs.Versions.{Version, rows_in, block, Keeps, IsKept, read_of, blocks_along}
use Rattle.nova_machine.proofs.Blocks.{blocks_chain, merge_block, puts_made, block_none}

at_start : (vs : List Version) (shelf : List Span) → IsKept vs shelf → (x : Span) → IsOneOf shelf x → (x.from ≡ 0) ⊎ Keeps vs
at_start vs shelf (inl keeps) x h = inr keeps
at_start vs shelf (inr base) x h = inl (base x h)

module _ (vs : List Version) (shelf : List Span) (up : Rises shelf) (kept : IsKept vs shelf) where
  -- merging the blocks of a path in turn leads from table to table
  pub merge_path : (i j : ℕ) (p : List Span) → IsPath shelf i j p → j ≤ length vs → fold merged (rows_in vs i) (blocks_along vs p) ≡ rows_in vs j
  merge_path i j [] h short = ap (rows_in vs) h
  merge_path i j (x ∷ xs) h short =
      let far = path_rises shelf up x.to j xs h.2 in
      let here : merged (rows_in vs i) (block vs x.from x.to) ≡ rows_in vs x.to =
      (λ z. merged (rows_in vs (sym h.1 z)) (block vs x.from x.to)) ∙ merge_block vs x.from x.to (at_start vs shelf kept x h.0) (let lt = up x h.0 in omega arith) (omega arith) in
      ap (λ (m : RowMap). fold merged m (blocks_along vs xs)) here ∙ merge_path x.to j xs h.2 short

  -- and so does the chain of them
  pub merge_chain_path : (i j : ℕ) (p : List Span) → IsPath shelf i j p → j ≤ length vs → merged (rows_in vs i) (fold chained empty (blocks_along vs p)) ≡ rows_in vs j
  merge_chain_path i j p h short = sym (folded merged chained empty merged-chained merged-empty (rows_in vs i) (blocks_along vs p)) ∙ merge_path i j p h short

  -- above 0, by blocks that are chained already up to k
  chain_on : Keeps vs → (i k j : ℕ) → 0 < i → i ≤ k → (p : List Span) → IsPath shelf k j p → j ≤ length vs → fold chained (block vs i k) (blocks_along vs p) ≡ block vs i j
  chain_on keeps i k j pos le [] h short = ap (block vs i) h
  chain_on keeps i k j pos le (x ∷ xs) h short =
      let far = path_rises shelf up x.to j xs h.2 in
      let lt = up x h.0 in
      let here : chained (block vs i k) (block vs x.from x.to) ≡ block vs i x.to =
      (λ z. chained (block vs i k) (block vs (h.1 z) x.to)) ∙ blocks_chain vs keeps i k x.to pos le (omega (arith, h.1)) (omega arith) in
      ap (λ (d : EntryMap). fold chained d (blocks_along vs xs)) here ∙ chain_on keeps i x.to j pos (omega (arith, h.1)) xs h.2 short

  -- a shelf of bases has no path above 0 but the empty one
  chain_base : ((x : Span) → IsOneOf shelf x → x.from ≡ 0) → (i j : ℕ) → 0 < i → (p : List Span) → IsPath shelf i j p → fold chained empty (blocks_along vs p) ≡ block vs i j
  chain_base base i j pos [] h = sym (block_none vs i pos) ∙ ap (block vs i) h
  chain_base base i j pos (x ∷ xs) h = absurd (omega (arith, base x h.0, h.1))

  chain_above : (i j : ℕ) → 0 < i → (p : List Span) → IsPath shelf i j p → j ≤ length vs → fold chained empty (blocks_along vs p) ≡ block vs i j
  chain_above i j pos p h short = elim kept as (λ _. fold chained empty (blocks_along vs p) ≡ block vs i j) [
    | inl keeps ↦ ap (λ (d : EntryMap). fold chained d (blocks_along vs p)) (sym (block_none vs i pos)) ∙ chain_on keeps i i j pos (omega arith) p h short
    | inr base ↦ chain_base base i j pos p h
  ]

  -- reading the blocks of a path from i to j gives the block from i to j
  pub read_path : (i j : ℕ) (p : List Span) → IsPath shelf i j p → j ≤ length vs → read_of i (blocks_along vs p) ≡ block vs i j
  read_path zero j p h short = puts_made (fold chained empty (blocks_along vs p)) vs j (merge_chain_path zero j p h short)
  read_path (suc i) j p h short = chain_above (suc i) j (omega arith) p h short
