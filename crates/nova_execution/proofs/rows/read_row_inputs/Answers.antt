use Rattle.std.proofs.Common.{◌≡◌, ℕ, suc, ◌+◌, ◌-◌, List, ◌∷◌, ◌++◌, length, map, take, drop, get_or, ap, sym, ◌∙◌, subst, arith}
use Rattle.std.specs.List.{All}
use Rattle.std.proofs.lemmas.List.{map-append}
use Rattle.std.proofs.lemmas.Result.{err_from_is_err_and}
use Rattle.nova_value.specs.Rows.{Shape}
use Rattle.nova_outside.specs.History.{Event, current}
use Rattle.nova_delta.specs.Merge.{TableValue}
use Rattle.nova_workflow.specs.declared.flow.Input.{Input}
use Rattle.nova_machine.specs.Workflow.{no_input}
use Rattle.nova_execution.specs.Reads.{AreTables, HasRoute, IsDamaged, IsReadDamage, OneTold, Read, RunTold, reads_size, schema_at, whole_reads}
use Rattle.nova_execution.specs.Rows.{IsNew, since}
use Rattle.nova_execution.proofs.RowReads.{all_before, all_behind, at_main, each_from_nothing, new_read, none_damaged, size_of_parts, sliced, tables_read, told_before, told_later, told_there}
use Rattle.nova_execution.proofs.rows.read_row_inputs.Goals as goal

pub read_inputs-requires-clause-paths : goal.read_inputs-requires-clause-paths
read_inputs-requires-clause-paths g c = all_before (HasRoute c.args.catalog.now) c.args.main c.args.from c.args.inputs.now c.args.versions.now c.requires.paths

pub read_new-requires-clause-path : goal.read_new-requires-clause-path
read_new-requires-clause-path g c = at_main (HasRoute c.args.catalog.now) c.args.main c.args.from c.args.inputs.now c.args.versions.now c.requires.paths

pub read_inputs-requires-2-clause-paths : goal.read_inputs-requires-2-clause-paths
read_inputs-requires-2-clause-paths g c =
    let is = sliced c.args.inputs.now c.args.main in
    let vs = sliced c.args.versions.now c.args.main in
    subst (λ (rs : List Read). All (HasRoute c.args.catalog.now) rs) (λ n. whole_reads (sym is n) (sym vs n))
    (all_behind (HasRoute c.args.catalog.now) c.args.main c.args.from c.args.inputs.now c.args.versions.now c.requires.paths)

-- ---- faults

pub returns-in_err-lookups-clause-told : goal.returns-in_err-lookups-clause-told
returns-in_err-lookups-clause-told g c honest =
    let files = current (g.H.Host.history c.args.host.now) in
    let before = whole_reads (take c.args.main c.args.inputs.now) (take c.args.main c.args.versions.now) in
    let there = since (get_or c.args.inputs.now c.args.main no_input) c.args.from (get_or c.args.versions.now c.args.main 0) in
    let behind = whole_reads (drop (suc c.args.main) c.args.inputs.now) (drop (suc c.args.main) c.args.versions.now) in
    let all = told_before c.args.channels.now c.args.catalog.now files before (there ∷ behind) c.in_err-lookups.field-0.0 (c.in_err-lookups.ensures.told honest) in
    let p = err_from_is_err_and c.from_residual.result c.from_residual.ensures.1 in
    rw (p.1, p.2) all

pub returns-in_err-new-clause-told : goal.returns-in_err-new-clause-told
returns-in_err-new-clause-told g c honest =
    let files = current (g.H.Host.history c.args.host.now) in
    let channels = c.args.channels.now in
    let cat = c.args.catalog.now in
    let before = whole_reads (take c.args.main c.args.inputs.now) (take c.args.main c.args.versions.now) in
    let there = since (get_or c.args.inputs.now c.args.main no_input) c.args.from (get_or c.args.versions.now c.args.main 0) in
    let behind = whole_reads (drop (suc c.args.main) c.args.inputs.now) (drop (suc c.args.main) c.args.versions.now) in
    let told = subst (λ (h : List Event). OneTold channels cat (current h) there c.in_err-new.field-0.0) (c.read_inputs.ensures.same honest) (c.in_err-new.ensures.told honest) in
    let read = tables_read channels cat files before c.in_ok-lookups.lookups.items (each_from_nothing (take c.args.main c.args.inputs.now) (take c.args.main c.args.versions.now)) (c.in_ok-lookups.ensures.reads honest) in
    let all = told_there channels cat files before there behind c.in_err-new.field-0.0 read told in
    let p = err_from_is_err_and c.from_residual-in_err-new.result c.from_residual-in_err-new.ensures.1 in
    rw (p.1, p.2) all

pub returns-in_err-behind-clause-told : goal.returns-in_err-behind-clause-told
returns-in_err-behind-clause-told g c honest =
    let files = current (g.H.Host.history c.args.host.now) in
    let channels = c.args.channels.now in
    let cat = c.args.catalog.now in
    let is = sliced c.args.inputs.now c.args.main in
    let vs = sliced c.args.versions.now c.args.main in
    let before = whole_reads (take c.args.main c.args.inputs.now) (take c.args.main c.args.versions.now) in
    let there = since (get_or c.args.inputs.now c.args.main no_input) c.args.from (get_or c.args.versions.now c.args.main 0) in
    let behind = whole_reads (drop (suc c.args.main) c.args.inputs.now) (drop (suc c.args.main) c.args.versions.now) in
    let parts : whole_reads (take (length c.args.inputs.now - (c.args.main + 1)) (drop (c.args.main + 1) c.args.inputs.now)) (take (length c.args.versions.now - (c.args.main + 1)) (drop (c.args.main + 1) c.args.versions.now)) ≡ behind = λ n. whole_reads (is n) (vs n) in
    let same = c.read_new.ensures.same honest ∙ c.read_inputs.ensures.same honest in
    let told = subst (λ (rs : List Read). RunTold channels cat files rs c.in_err-behind.field-0.0) parts
    (subst (λ (h : List Event). RunTold channels cat (current h) (whole_reads (take (length c.args.inputs.now - (c.args.main + 1)) (drop (c.args.main + 1) c.args.inputs.now)) (take (length c.args.versions.now - (c.args.main + 1)) (drop (c.args.main + 1) c.args.versions.now))) c.in_err-behind.field-0.0) same (c.in_err-behind.ensures.told honest)) in
    let read = tables_read channels cat files before c.in_ok-lookups.lookups.items (each_from_nothing (take c.args.main c.args.inputs.now) (take c.args.main c.args.versions.now)) (c.in_ok-lookups.ensures.reads honest) in
    let new = subst (λ (h : List Event). IsNew channels cat (current h) there c.in_ok-new.new) (c.read_inputs.ensures.same honest) (c.in_ok-new.ensures.reads honest) in
    let all = told_later channels cat files before there behind c.in_err-behind.field-0.0 read (new_read channels cat files there c.in_ok-new.new new) told in
    let p = err_from_is_err_and c.from_residual-in_err-behind.result c.from_residual-in_err-behind.ensures.1 in
    rw (p.1, p.2) all

-- ---- what was read

pub returns-clause-reads : goal.returns-clause-reads
returns-clause-reads g c honest =
    let channels = c.args.channels.now in
    let cat = c.args.catalog.now in
    let is = sliced c.args.inputs.now c.args.main in
    let vs = sliced c.args.versions.now c.args.main in
    let there = since (get_or c.args.inputs.now c.args.main no_input) c.args.from (get_or c.args.versions.now c.args.main 0) in
    let first : List Event = g.H.Host.history c.args.host.now in
    let same = c.read_new.ensures.same honest ∙ c.read_inputs.ensures.same honest in
    record {
      before = c.in_ok-lookups.lookups.items;
      behind = c.in_ok-behind.behind.items;
      parts = c.in_ok-add_tables.ensures;
      first = c.in_ok-lookups.ensures.reads honest;
      main = subst (λ (h : List Event). IsNew channels cat (current h) there c.in_ok-new.new) (c.read_inputs.ensures.same honest) (c.in_ok-new.ensures.reads honest);
      rest = subst (λ (rs : List Read). AreTables channels cat (current first) rs c.in_ok-behind.behind.items) (λ n. whole_reads (is n) (vs n))
          (subst (λ (h : List Event). AreTables channels cat (current h) (whole_reads (take (length c.args.inputs.now - (c.args.main + 1)) (drop (c.args.main + 1) c.args.inputs.now)) (take (length c.args.versions.now - (c.args.main + 1)) (drop (c.args.main + 1) c.args.versions.now))) c.in_ok-behind.behind.items) same (c.in_ok-behind.ensures.reads honest));
    }

pub returns-clause-undamaged : goal.returns-clause-undamaged
returns-clause-undamaged g c honest =
    let files = current (g.H.Host.history c.args.host.now) in
    let channels = c.args.channels.now in
    let cat = c.args.catalog.now in
    let is = sliced c.args.inputs.now c.args.main in
    let vs = sliced c.args.versions.now c.args.main in
    let before = whole_reads (take c.args.main c.args.inputs.now) (take c.args.main c.args.versions.now) in
    let there = since (get_or c.args.inputs.now c.args.main no_input) c.args.from (get_or c.args.versions.now c.args.main 0) in
    let behind = whole_reads (drop (suc c.args.main) c.args.inputs.now) (drop (suc c.args.main) c.args.versions.now) in
    let same = c.read_new.ensures.same honest ∙ c.read_inputs.ensures.same honest in
    let new = subst (λ (h : List Event). (f n : ℕ) → IsDamaged channels cat (current h) there f n → ⊥) (c.read_inputs.ensures.same honest) (c.in_ok-new.ensures.undamaged honest) in
    let later = subst (λ (rs : List Read). (f n : ℕ) → IsReadDamage channels cat files rs f n → ⊥) (λ n. whole_reads (is n) (vs n))
    (subst (λ (h : List Event). (f n : ℕ) → IsReadDamage channels cat (current h) (whole_reads (take (length c.args.inputs.now - (c.args.main + 1)) (drop (c.args.main + 1) c.args.inputs.now)) (take (length c.args.versions.now - (c.args.main + 1)) (drop (c.args.main + 1) c.args.versions.now))) f n → ⊥) same (c.in_ok-behind.ensures.undamaged honest)) in
    none_damaged channels cat files before there behind (c.in_ok-lookups.ensures.undamaged honest) new later

pub returns-clause-schemas : goal.returns-clause-schemas
returns-clause-schemas g c =
    let channels = c.args.channels.now in
    let one : Input → Shape = λ i. schema_at channels i.channel in
    let is = sliced c.args.inputs.now c.args.main in
    let before = c.in_ok-lookups.ensures.schemas in
    let behind = c.in_ok-behind.ensures.schemas ∙ ap (map one) is in
    ap (map (λ (t : TableValue). t.schema)) c.in_ok-add_tables.ensures
    ∙ map-append (λ (t : TableValue). t.schema) c.in_ok-lookups.lookups.items c.in_ok-behind.behind.items
    ∙ (λ n. before n ++ behind n)
    ∙ sym (map-append one (take c.args.main c.args.inputs.now) (drop (suc c.args.main) c.args.inputs.now))

-- ---- bytes

pub returns-in_err-behind-clause-bytes_read : goal.returns-in_err-behind-clause-bytes_read
returns-in_err-behind-clause-bytes_read g c =
    let cat = c.args.catalog.now in
    let is = sliced c.args.inputs.now c.args.main in
    let vs = sliced c.args.versions.now c.args.main in
    let there = since (get_or c.args.inputs.now c.args.main no_input) c.args.from (get_or c.args.versions.now c.args.main 0) in
    let all = size_of_parts cat (whole_reads (take c.args.main c.args.inputs.now) (take c.args.main c.args.versions.now)) there (whole_reads (drop (suc c.args.main) c.args.inputs.now) (drop (suc c.args.main) c.args.versions.now)) in
    let parts : reads_size cat (whole_reads (take (length c.args.inputs.now - (c.args.main + 1)) (drop (c.args.main + 1) c.args.inputs.now)) (take (length c.args.versions.now - (c.args.main + 1)) (drop (c.args.main + 1) c.args.versions.now))) ≡ reads_size cat (whole_reads (drop (suc c.args.main) c.args.inputs.now) (drop (suc c.args.main) c.args.versions.now)) = λ n. reads_size cat (whole_reads (is n) (vs n)) in
    let one = c.read_inputs.ensures.bytes_read in
    let two = c.read_new.ensures.bytes_read in
    let three = c.read_inputs-2.ensures.bytes_read in
    omega (arith, all, parts, one, two, three)

pub returns-in_err-add_tables-clause-bytes_read : goal.returns-in_err-add_tables-clause-bytes_read
returns-in_err-add_tables-clause-bytes_read g c =
    let cat = c.args.catalog.now in
    let is = sliced c.args.inputs.now c.args.main in
    let vs = sliced c.args.versions.now c.args.main in
    let there = since (get_or c.args.inputs.now c.args.main no_input) c.args.from (get_or c.args.versions.now c.args.main 0) in
    let all = size_of_parts cat (whole_reads (take c.args.main c.args.inputs.now) (take c.args.main c.args.versions.now)) there (whole_reads (drop (suc c.args.main) c.args.inputs.now) (drop (suc c.args.main) c.args.versions.now)) in
    let parts : reads_size cat (whole_reads (take (length c.args.inputs.now - (c.args.main + 1)) (drop (c.args.main + 1) c.args.inputs.now)) (take (length c.args.versions.now - (c.args.main + 1)) (drop (c.args.main + 1) c.args.versions.now))) ≡ reads_size cat (whole_reads (drop (suc c.args.main) c.args.inputs.now) (drop (suc c.args.main) c.args.versions.now)) = λ n. reads_size cat (whole_reads (is n) (vs n)) in
    let one = c.read_inputs.ensures.bytes_read in
    let two = c.read_new.ensures.bytes_read in
    let three = c.read_inputs-2.ensures.bytes_read in
    omega (arith, all, parts, one, two, three)

pub returns-clause-bytes_read : goal.returns-clause-bytes_read
returns-clause-bytes_read g c =
    let cat = c.args.catalog.now in
    let is = sliced c.args.inputs.now c.args.main in
    let vs = sliced c.args.versions.now c.args.main in
    let there = since (get_or c.args.inputs.now c.args.main no_input) c.args.from (get_or c.args.versions.now c.args.main 0) in
    let all = size_of_parts cat (whole_reads (take c.args.main c.args.inputs.now) (take c.args.main c.args.versions.now)) there (whole_reads (drop (suc c.args.main) c.args.inputs.now) (drop (suc c.args.main) c.args.versions.now)) in
    let parts : reads_size cat (whole_reads (take (length c.args.inputs.now - (c.args.main + 1)) (drop (c.args.main + 1) c.args.inputs.now)) (take (length c.args.versions.now - (c.args.main + 1)) (drop (c.args.main + 1) c.args.versions.now))) ≡ reads_size cat (whole_reads (drop (suc c.args.main) c.args.inputs.now) (drop (suc c.args.main) c.args.versions.now)) = λ n. reads_size cat (whole_reads (is n) (vs n)) in
    let one = c.read_inputs.ensures.bytes_read in
    let two = c.read_new.ensures.bytes_read in
    let three = c.read_inputs-2.ensures.bytes_read in
    omega (arith, all, parts, one, two, three)
