use Rattle.std.proofs.Common.{◌≡◌, inl, inr, ◌++◌, ◌∷◌, [], ◌+◌, ◌<◌, ℕ, List, length, map, take, drop, get_or, suc, ap, sym, ◌∙◌, subst, arith}
use Rattle.std.proofs.lemmas.Result.{err_from_is_err_and}
use Rattle.std.proofs.lemmas.List.{take_all, take_more}
use Rattle.std.proofs.lemmas.List.Elements.{All-get_or}
use Rattle.nova_outside.specs.History.{Event, current}
use Rattle.nova_delta.specs.Merge.{TableValue}
use Rattle.nova_workflow.specs.declared.flow.Input.{Input}
use Rattle.nova_machine.specs.Workflow.{no_input}
use Rattle.nova_execution.specs.Reads.{AreTables, HasRoute, IsDamaged, IsReadDamage, IsTable, OneTold, Read, read_size, whole, whole_reads}
use Rattle.nova_execution.proofs.Reading.{as_many, damage_of, from_nothing, no_read, nth_read, schemas_more, size_more, size_within, split_at, tables_more, told_behind}
use Rattle.nova_execution.proofs.inputs.read_inputs.Goals as goal

pub bounds-versions-at : goal.bounds-versions-at
bounds-versions-at g c = let each = c.requires.each in let lt = c.loop-at-test.true in omega (arith, each, lt)

pub read_input-requires-clause-within : goal.read_input-requires-clause-within
read_input-requires-clause-within g c = All-get_or (λ (i : Input). i.channel < length c.args.channels.now) c.args.inputs.now c.loop-at.at no_input c.loop-at-test.true c.requires.within

pub read_input-requires-clause-path : goal.read_input-requires-clause-path
read_input-requires-clause-path g c =
    let is = c.args.inputs.now in
    let vs = c.args.versions.now in
    let many = as_many is vs c.requires.each in
    let lt = c.loop-at-test.true in
    subst (HasRoute c.args.catalog.now) (nth_read is vs c.loop-at.at no_input c.requires.each lt) (All-get_or (HasRoute c.args.catalog.now) (whole_reads is vs) c.loop-at.at no_read (omega (arith, many, lt)) c.requires.paths)

pub returns-in_err-table-clause-told : goal.returns-in_err-table-clause-told
returns-in_err-table-clause-told g c honest =
    let files = current (g.H.Host.history c.args.host.now) in
    let channels = c.args.channels.now in
    let cat = c.args.catalog.now in
    let is = c.args.inputs.now in
    let vs = c.args.versions.now in
    let i = c.loop-at.at in
    let rs = whole_reads is vs in
    let many = as_many is vs c.requires.each in
    let lt = c.loop-at-test.true in
    let nth = nth_read is vs i no_input c.requires.each lt in
    let told = subst (λ (h : List Event). OneTold channels cat (current h) (whole (get_or is i no_input) (get_or vs i 0)) c.in_err-table.field-0.0) (c.loop-at.invariant.same honest) (c.in_err-table.ensures.told honest) in
    let here = subst (λ (r : Read). OneTold channels cat files r c.in_err-table.field-0.0) (sym nth) told in
    let all = told_behind channels cat files rs (take i rs) c.loop-at.tables.items (get_or rs i no_read) (drop (suc i) rs) c.in_err-table.field-0.0 (split_at rs i (omega (arith, many, lt))) (from_nothing is vs i) (c.loop-at.invariant.reads honest) here in
    let p = err_from_is_err_and c.from_residual-in_err-table.result c.from_residual-in_err-table.ensures.1 in
    rw (p.1, p.2) all

pub returns-in_err-table-clause-bytes_read : goal.returns-in_err-table-clause-bytes_read
returns-in_err-table-clause-bytes_read g c =
    let is = c.args.inputs.now in
    let vs = c.args.versions.now in
    let lt = c.loop-at-test.true in
    let many = as_many is vs c.requires.each in
    let before = c.loop-at.invariant.bytes_read in
    let here = c.read_input.ensures.bytes_read in
    let nth = ap (read_size c.args.catalog.now) (nth_read is vs c.loop-at.at no_input c.requires.each lt) in
    let more = size_within c.args.catalog.now (whole_reads is vs) c.loop-at.at (omega (arith, many, lt)) in
    omega (arith, before, here, nth, more)

pub returns-in_err-add_table-clause-bytes_read : goal.returns-in_err-add_table-clause-bytes_read
returns-in_err-add_table-clause-bytes_read g c =
    let is = c.args.inputs.now in
    let vs = c.args.versions.now in
    let lt = c.loop-at-test.true in
    let many = as_many is vs c.requires.each in
    let before = c.loop-at.invariant.bytes_read in
    let here = c.read_input.ensures.bytes_read in
    let nth = ap (read_size c.args.catalog.now) (nth_read is vs c.loop-at.at no_input c.requires.each lt) in
    let more = size_within c.args.catalog.now (whole_reads is vs) c.loop-at.at (omega (arith, many, lt)) in
    omega (arith, before, here, nth, more)

pub loop-at-preserved : goal.loop-at-preserved
loop-at-preserved g c =
    let files = current (g.H.Host.history c.args.host.now) in
    let channels = c.args.channels.now in
    let cat = c.args.catalog.now in
    let is = c.args.inputs.now in
    let vs = c.args.versions.now in
    let i = c.loop-at.at in
    let rs = whole_reads is vs in
    let many = as_many is vs c.requires.each in
    let lt = c.loop-at-test.true in
    let low : i < length rs = omega (arith, many, lt) in
    let nth = nth_read is vs i no_input c.requires.each lt in
    let next : take (i + 1) rs ≡ take i rs ++ get_or rs i no_read ∷ [] = take_more rs i no_read low in
    let before = c.loop-at.invariant.bytes_read in
    let here = c.read_input.ensures.bytes_read in
    let size = ap (read_size cat) nth in
    let more = size_more cat rs i low in
    record {
      reads = λ honest.
          let read = subst (λ (h : List Event). IsTable channels cat (current h) (whole (get_or is i no_input) (get_or vs i 0)) c.in_ok-table.table) (c.loop-at.invariant.same honest) (c.in_ok-table.ensures.reads honest) in
          let one = subst (λ (r : Read). IsTable channels cat files r c.in_ok-table.table) (sym nth) read in
          subst (λ (ts : List TableValue). AreTables channels cat files (take (i + 1) rs) ts) (sym c.in_ok-add_table.ensures)
          (subst (λ (xs : List Read). AreTables channels cat files xs (c.loop-at.tables.items ++ c.in_ok-table.table ∷ [])) (sym next) (tables_more channels cat files (take i rs) c.loop-at.tables.items (get_or rs i no_read) c.in_ok-table.table (c.loop-at.invariant.reads honest) one));
      undamaged = λ honest file at damage.
          let whole_one = subst (λ (h : List Event). (f n : ℕ) → IsDamaged channels cat (current h) (whole (get_or is i no_input) (get_or vs i 0)) f n → ⊥) (c.loop-at.invariant.same honest) (c.in_ok-table.ensures.undamaged honest) in
          let one = subst (λ (r : Read). (f n : ℕ) → IsDamaged channels cat files r f n → ⊥) (sym nth) whole_one in
          elim (damage_of channels cat files (take i rs) (get_or rs i no_read) file at (subst (λ (xs : List Read). IsReadDamage channels cat files xs file at) next damage)) [
            | inl old ↦ c.loop-at.invariant.undamaged honest file at old
            | inr new ↦ one file at new
          ];
      schemas = ap (map (λ (x : TableValue). x.schema)) c.in_ok-add_table.ensures ∙ schemas_more channels is c.loop-at.tables.items i no_input c.in_ok-table.table lt c.loop-at.invariant.schemas c.in_ok-table.ensures.schema;
      same = λ honest. c.read_input.ensures.same honest ∙ c.loop-at.invariant.same honest;
      later = let a = c.loop-at.invariant.later in let b = c.read_input.ensures.later in omega (arith, a, b);
      reply_faults = c.read_input.ensures.reply_faults ∙ c.loop-at.invariant.reply_faults;
      bytes_read = omega (arith, before, here, size, more);
    }

pub returns-clause-reads : goal.returns-clause-reads
returns-clause-reads g c honest =
    let rs = whole_reads c.args.inputs.now c.args.versions.now in
    let many = as_many c.args.inputs.now c.args.versions.now c.requires.each in
    let end = c.loop-at-test.false in
    subst (λ (xs : List Read). AreTables c.args.channels.now c.args.catalog.now (current (g.H.Host.history c.args.host.now)) xs c.loop-at.tables.items) (take_all c.loop-at.at rs (omega (arith, many, end))) (c.loop-at.invariant.reads honest)

pub returns-clause-undamaged : goal.returns-clause-undamaged
returns-clause-undamaged g c honest =
    let rs = whole_reads c.args.inputs.now c.args.versions.now in
    let many = as_many c.args.inputs.now c.args.versions.now c.requires.each in
    let end = c.loop-at-test.false in
    subst (λ (xs : List Read). (file at : ℕ) → IsReadDamage c.args.channels.now c.args.catalog.now (current (g.H.Host.history c.args.host.now)) xs file at → ⊥) (take_all c.loop-at.at rs (omega (arith, many, end))) (c.loop-at.invariant.undamaged honest)
