-- Entries are told by their bytes.
use Rattle.std.proofs.Common.{◌≡◌, ℕ, ◌+◌, ◌-◌, ◌<◌, ◌≤◌, List, ◌++◌, length, drop, [], Result, Ok, Err, refl, sym, ap, ◌∙◌, arith}
use Rattle.std.proofs.lemmas.List.{append-nil, length-append, length-drop, drop-drop, drop_at}
use Rattle.nova_value.specs.declared.schema.Entry.{Entry}
use Rattle.nova_value.specs.Rows.{Shape}
use Rattle.nova_value.specs.Entries.{FitsEntry}
use Rattle.nova_row_codec.specs.declared.fault.CodecFault.{CodecFault}
use Rattle.nova_row_codec.specs.Spelling.{entry_bytes}
use Rattle.nova_row_codec.specs.Written.{ReadsEntry, StandsAt}
use Rattle.nova_row_codec.specs.Reading.{entry_at}
use Rattle.nova_row_codec.specs.Statements.{EntriesReadOneWay, NoneBeginsAnother}
use Rattle.nova_row_codec.proofs.Fields.{ok_is}
use Rattle.nova_row_codec.proofs.Entries.{entry_field}

pub entry_is : (s : Shape) (bytes : List ℕ) (r : Result (Entry × List ℕ) CodecFault) → ReadsEntry s bytes r → entry_at s bytes ≡ r
entry_is s bytes (Ok found) reads = ap (entry_at s) reads.1 ∙ (entry_field s).again found.0 found.1 reads.0
entry_is s bytes (Err f) reads = (entry_field s).refuses bytes f reads

pub entries_read_one_way : EntriesReadOneWay
entries_read_one_way s bytes one other a b = sym (entry_is s bytes one a) ∙ entry_is s bytes other b

pub none_begins_another : NoneBeginsAnother
none_begins_another s d e more f g is =
    ap (λ (p : Entry × List ℕ). p.0) (ok_is (d, []) (e, more) (entries_read_one_way s (entry_bytes d) (Ok (d, [])) (Ok (e, more)) (f, sym (append-nil (entry_bytes d))) (g, is)))

-- the place after an entry
pub shorter : (bytes : List ℕ) (at : ℕ) (e : Entry) (rest : List ℕ) → drop at bytes ≡ entry_bytes e ++ rest → length rest ≤ length bytes
shorter bytes at e rest is =
    let n = sym (length-drop at bytes) ∙ ap (λ (b : List ℕ). length b) is ∙ length-append (entry_bytes e) rest in
    omega (arith, n)

pub stands : (s : Shape) (bytes : List ℕ) (at : ℕ) (e : Entry) (rest : List ℕ) → at < length bytes → FitsEntry s e → drop at bytes ≡ entry_bytes e ++ rest → StandsAt s bytes at (e, length bytes - length rest)
stands s bytes at e rest within fits is =
    let n : length bytes - at ≡ length (entry_bytes e) + length rest = sym (length-drop at bytes) ∙ ap (λ (b : List ℕ). length b) is ∙ length-append (entry_bytes e) rest in
    let after : length bytes - length rest ≡ at + length (entry_bytes e) = omega (arith, n, within) in
    let left : drop (at + length (entry_bytes e)) bytes ≡ rest = sym (drop-drop (length (entry_bytes e)) at bytes) ∙ ap (drop (length (entry_bytes e))) is ∙ drop_at (entry_bytes e) rest (length (entry_bytes e)) refl in
    record {
      fits = fits;
      is = is ∙ ap (λ (r : List ℕ). entry_bytes e ++ r) (sym left ∙ ap (λ (k : ℕ). drop k bytes) (sym after));
      after = after;
    }
