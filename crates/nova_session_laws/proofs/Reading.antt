-- The lines of a load are read one after the other.
use Rattle.std.proofs.Common.{◌≡◌, ℕ, ◌+◌, List, [], ◌∷◌, ◌++◌, length, Result, Ok, Err, refl, ap, sym, ◌∙◌, subst, arith}
use Rattle.nova_value.specs.declared.schema.Entry.{Entry}
use Rattle.nova_value.specs.declared.fault.RowFault.{RowFault}
use Rattle.nova_value.specs.Rows.{Shape}
use Rattle.nova_value.specs.Line.{row_of_text}
use Rattle.nova_machine.specs.Commands.{entry_before, read_before, read_rows}
use Rattle.nova_session_laws.specs.Rows.{AreEntries, IsFirstBadLine}
use Rattle.nova_session_laws.specs.Statements.{RowsAreRead, RowsRead}

module _ (schema : Shape) where
  entries_read : (first : ℕ) (lines : List (List ℕ)) (entries : List Entry) → AreEntries schema lines entries → read_rows schema first lines ≡ Ok entries
  entries_read first [] [] are = refl
  entries_read first [] (e ∷ es) are = absurd are
  entries_read first (l ∷ ls) [] are = absurd are
  entries_read first (l ∷ ls) (e ∷ es) are =
      ap (λ (r : Result Entry RowFault). read_before first r (read_rows schema (first + 1) ls)) are.0
      ∙ ap (entry_before e) (entries_read (first + 1) ls es are.1)

  bad_read : (first : ℕ) (before : List (List ℕ)) (entries : List Entry) (bad : List ℕ) (behind : List (List ℕ)) (fault : RowFault)
      → AreEntries schema before entries → row_of_text bad schema ≡ Err fault → read_rows schema first (before ++ bad ∷ behind) ≡ Err (first + length before)
  bad_read first [] [] bad behind fault are none =
      ap (λ (r : Result Entry RowFault). read_before first r (read_rows schema (first + 1) behind)) none ∙ ap Err (omega arith)
  bad_read first [] (e ∷ es) bad behind fault are none = absurd are
  bad_read first (l ∷ ls) [] bad behind fault are none = absurd are
  bad_read first (l ∷ ls) (e ∷ es) bad behind fault are none =
      ap (λ (r : Result Entry RowFault). read_before first r (read_rows schema (first + 1) (ls ++ bad ∷ behind))) are.0
      ∙ ap (entry_before e) (bad_read (first + 1) ls es bad behind fault are.1 none) ∙ ap Err (omega arith)

  -- ---- and back

  abbrev Told : ℕ → List (List ℕ) → Result (List Entry) ℕ → Type 0
  Told first lines (Ok entries) = AreEntries schema lines entries
  Told first lines (Err number) = IsFirstBadLine schema first lines number

  with_line : (first : ℕ) (l : List ℕ) (ls : List (List ℕ)) (e : Entry) → row_of_text l schema ≡ Ok e → (rest : Result (List Entry) ℕ) → Told (first + 1) ls rest → Told first (l ∷ ls) (entry_before e rest)
  with_line first l ls e is (Ok es) told = (is, told)
  with_line first l ls e is (Err number) told = record {
    before = l ∷ told.before;
    entries = e ∷ told.entries;
    rows = (is, told.rows);
    bad = told.bad;
    behind = told.behind;
    parts = ap (λ (lines : List (List ℕ)). l ∷ lines) told.parts;
    fault = told.fault;
    none = told.none;
    is = told.is ∙ omega arith;
  }

  told : (first : ℕ) (lines : List (List ℕ)) → Told first lines (read_rows schema first lines)
  told first [] = tt
  told first (l ∷ ls) = by_line (told (first + 1) ls) (row_of_text l schema) refl
    where
      by_line : Told (first + 1) ls (read_rows schema (first + 1) ls) → (r : Result Entry RowFault) → row_of_text l schema ≡ r → Told first (l ∷ ls) (read_before first r (read_rows schema (first + 1) ls))
      by_line later (Ok e) is = with_line first l ls e is (read_rows schema (first + 1) ls) later
      by_line later (Err fault) is = record {
        before = [];
        entries = [];
        rows = tt;
        bad = l;
        behind = ls;
        parts = refl;
        fault = fault;
        none = is;
        is = omega arith;
      }

pub rows_are_read : RowsAreRead
rows_are_read schema first lines = (
  entries_read schema first lines,
  λ number is. ap (read_rows schema first) is.parts ∙ bad_read schema first is.before is.entries is.bad is.behind is.fault is.rows is.none ∙ ap Err (sym is.is),
)

pub rows_read : RowsRead
rows_read schema first lines = (
  λ entries is. subst (Told schema first lines) is (told schema first lines),
  λ number is. subst (Told schema first lines) is (told schema first lines),
)
