-- Bytes are always read: as an entry or a delta, or with a fault.
use Rattle.std.proofs.Common.{◌≡◌, ◌⊎◌, inl, inr, ℕ, zero, suc, ◌+◌, ◌-◌, ◌<◌, ◌≤◌, ◌^◌, Bool, true, false, List, [], ◌∷◌, ◌++◌, length, take, drop, Result, Ok, Err, refl, sym, ap, subst, ◌∙◌, arith}
use Rattle.std.specs.Prelude.{T}
use Rattle.std.specs.Int.{w64, from_be_bytes}
use Rattle.std.proofs.lemmas.Bool.{cases_lt}
use Rattle.std.proofs.lemmas.List.{length-append, take-append-drop}
use Rattle.nova_value.specs.declared.schema.Entry.{Entry}
use Rattle.nova_value.specs.Rows.{Shape}
use Rattle.nova_value.specs.Entries.{FitsEntry}
use Rattle.nova_delta.specs.Merge.{DeltaValue}
use Rattle.nova_delta.specs.Listed.{rises, delta_of}
use Rattle.nova_delta.proofs.InOrder.{rising_delta}
use Rattle.nova_row_codec.specs.declared.fault.CodecFault.{CodecFault}
use Rattle.nova_row_codec.specs.declared.fault.CodecFault.TheVariants.{Short, BadTag, OutOfOrder}
use Rattle.nova_row_codec.specs.Spelling.{entry_bytes}
use Rattle.nova_row_codec.specs.Faults.{EntryFails, StopsAfter, StopsAt}
use Rattle.nova_row_codec.specs.Faults as fault
use Rattle.nova_row_codec.specs.Written.{IsBytes, ReadsEntry, ReadsBlock, IsBlockOf, ReadTo}
use Rattle.nova_row_codec.specs.Reading.{entry_at}
use Rattle.nova_row_codec.specs.Statements.{EntriesRead, BlocksRead}
use Rattle.nova_row_codec.proofs.Fields.{bytes_drop, eight_back}
use Rattle.nova_row_codec.proofs.Entries.{entry_field}
use Rattle.nova_row_codec.proofs.Loop.{drop_past}
use Rattle.nova_row_codec.proofs.Once.{stands}
use Rattle.nova_row_codec.proofs.Blocks.{read_more, stops_at, whole_block, left_after, spells}

pub entries_read : EntriesRead
entries_read s bytes fits = by_reading (entry_at s bytes) refl
  where
    by_reading : (r : Result (Entry × List ℕ) CodecFault) → entry_at s bytes ≡ r → (one : Result (Entry × List ℕ) CodecFault) × ReadsEntry s bytes one
    by_reading (Ok a) is = let t = (entry_field s).takes bytes a fits is in (Ok a, (t.1, t.0.parts))
    by_reading (Err f) is = (Err f, (entry_field s).fails bytes f fits is)

-- the entries of the block that the bytes are, or the fault that stops it
abbrev Settles : Shape → List ℕ → Type 0
Settles s bytes = ((es : List Entry) × IsBlockOf s bytes es) ⊎ ((f : CodecFault) × (at : ℕ) × StopsAt s bytes f at)

not_false : (b : Bool) → b ≡ false → T b → ⊥
not_false true e h = absurd cc
not_false false e h = h

-- one entry more, and the others by what follows it
module _ (s : Shape) (bytes : List ℕ) (count at : ℕ) (es : List Entry) (counted : count < 2 ^ 64) (fits : IsBytes bytes) (read : ReadTo s bytes count at es) (lt : length es < count) (others : (after : ℕ) (e : Entry) → ReadTo s bytes count after (es ++ e ∷ []) → Settles s bytes) where
  stopped : (f : CodecFault) → StopsAfter s count es (drop at bytes) f → Settles s bytes
  stopped f stops = inr (f, at, stops_at s bytes count at es f counted read stops)

  by_order : (e : Entry) (rest : List ℕ) → at < length bytes → drop at bytes ≡ entry_bytes e ++ rest → FitsEntry s e → (b : Bool) → rises s (es ++ e ∷ []) ≡ b → Settles s bytes
  by_order e rest within parts fit true is = others (length bytes - length rest) e (read_more s bytes count at (length bytes - length rest) es e read (stands s bytes at e rest within fit parts) is)
  by_order e rest within parts fit false is =
      stopped OutOfOrder (subst (λ (b : List ℕ). StopsAfter s count es b OutOfOrder) (sym parts) (fault.falls e rest lt fit (not_false _ is)))

  by_entry : at < length bytes → (r : Result (Entry × List ℕ) CodecFault) → entry_at s (drop at bytes) ≡ r → Settles s bytes
  by_entry within (Ok a) is =
      let t = (entry_field s).takes (drop at bytes) a (bytes_drop at bytes fits) is in
      by_order a.0 a.1 within t.0.parts t.1 (rises s (es ++ a.0 ∷ [])) refl
  by_entry within (Err f) is = stopped f (fault.fails lt ((entry_field s).fails (drop at bytes) f (bytes_drop at bytes fits) is))

  one_more : (at < length bytes) ⊎ (length bytes ≤ at) → Settles s bytes
  one_more (inl within) = by_entry within (entry_at s (drop at bytes)) refl
  one_more (inr past) = stopped Short (fault.fails lt (subst (λ (b : List ℕ). EntryFails s b Short) (sym (drop_past at bytes past)) fault.empty))

no_more : (s : Shape) (bytes : List ℕ) (count at : ℕ) (es : List Entry) → count < 2 ^ 64 → ReadTo s bytes count at es → length es ≡ count → (at < length bytes) ⊎ (length bytes ≤ at) → Settles s bytes
no_more s bytes count at es counted read number (inl within) = inr (BadTag, at, stops_at s bytes count at es BadTag counted read (left_after s bytes count at es within number))
no_more s bytes count at es counted read number (inr past) = inl (es, whole_block s bytes count at es counted read past number)

settled : (s : Shape) (bytes : List ℕ) (count n at : ℕ) (es : List Entry) → count < 2 ^ 64 → IsBytes bytes → ReadTo s bytes count at es → count ≡ length es + n → Settles s bytes
settled s bytes count zero at es counted fits read number = no_more s bytes count at es counted read (omega (arith, number)) (cases_lt at (length bytes))
settled s bytes count (suc n) at es counted fits read number =
    one_more s bytes count at es counted fits read (omega (arith, number))
    (λ after e more. settled s bytes count n after (es ++ e ∷ []) counted fits more (let m = length-append es (e ∷ []) in omega (arith, number, m)))
    (cases_lt at (length bytes))

pub blocks_read : BlocksRead
blocks_read s bytes fits = by_length (cases_lt (length bytes) 8)
  where
    by_parts : Settles s bytes → (one : Result DeltaValue (CodecFault × ℕ)) × ReadsBlock s bytes one
    by_parts (inl (es, block)) = (Ok (delta_of s es), spells s bytes es (delta_of s es) block refl (rising_delta s es block.fit))
    by_parts (inr (f, at, stops)) = (Err (f, at), inr stops)

    at_first : 8 ≤ length bytes → Settles s bytes
    at_first long =
        let b = eight_back bytes fits long in
        let count = from_be_bytes w64 (take 8 bytes) in
        settled s bytes count count 8 [] b.1 fits (record {
          fit = tt;
          rise = tt;
          is = sym (take-append-drop 8 bytes) ∙ ap (λ (t : List ℕ). t ++ drop 8 bytes) (sym b.0);
          place = refl;
        }) (omega arith)

    by_length : (length bytes < 8) ⊎ (8 ≤ length bytes) → (one : Result DeltaValue (CodecFault × ℕ)) × ReadsBlock s bytes one
    by_length (inl short) = (Err (Short, 0), inl (short, (refl, refl)))
    by_length (inr long) = by_parts (at_first long)
