-- A load and one more line.
use Rattle.std.proofs.Common.{refl, ◌≡◌, ℕ, ◌+◌, ◌<◌, ◌≤◌, List, [], ◌∷◌, ◌++◌, Bool, true, false, ◌||◌, Option, Some, None, Result, Ok, Err, IfOk, length, take, min, sym, ap, ◌∙◌, subst, arith, length-append}
use Rattle.std.specs.List.{AllByRecursion, list_any}
use Rattle.std.specs.FinMap as fin
use Rattle.std.specs.Prelude.{is_some, is_none, map}
use Rattle.std.proofs.lemmas.Bool.Decides.{nat_tests}
use Rattle.std.proofs.lemmas.List.{take_min, length-map}
use Rattle.std.proofs.Math.Seq.{take-length}
use Rattle.nova_value.specs.Rows.{Shape}
use Rattle.nova_value.specs.Entries.{FitsEntry}
use Rattle.nova_value.specs.declared.fault.RowFault.{RowFault}
use Rattle.nova_value.specs.declared.schema.Entry.{Entry}
use Rattle.nova_value.specs.Line.{row_of_text}
use Rattle.nova_delta.specs.Merge.{DeltaValue}
use Rattle.nova_delta.specs.Seen.{with_entry}
use Rattle.nova_script.specs.Forms.{is_too_long}
use Rattle.nova_script.specs.Session.{load_end}
use Rattle.nova_script.proofs.Fronts.{front_decides}
use Rattle.nova_script.specs.declared.context.Request.{Request}
use Rattle.nova_script.specs.declared.context.Request.TheVariants as r
use Rattle.nova_script.specs.declared.refusal.Refusal.{Refusal}
use Rattle.nova_script.specs.declared.refusal.Refusal.TheVariants.{BadRow, LineTooLong}
use Rattle.nova_workflow.specs.declared.flow.Channel.{Channel}
use Rattle.nova_workflow.specs.declared.flow.Task.{Task}
use Rattle.nova_machine.specs.Workflow.{Workflow, channel_in, is_input, schema_in}
use Rattle.nova_machine.specs.State.{State}
use Rattle.nova_machine.specs.Steps.{load_delta}
use Rattle.nova_machine.specs.Commands.{bad_row, loaded_channel, read_rows, rows_for}
use Rattle.nova_machine.proofs.Reading.{read_rows-row, read_rows-bad_line, read_rows-bad, set_entries-more}
use Rattle.nova_runner.specs.Around.{around_held}
use Rattle.nova_runner.specs.Held.{Held}
use Rattle.nova_engine.specs.declared.load.Pending.{Pending}
use Rattle.nova_engine.specs.declared.load.Pending.TheVariants.{Refused, Rows}
use Rattle.nova_engine.specs.declared.load.Rows.{Rows as KeptRows}
use Rattle.nova_engine.specs.Loading.{AreRead, BeginsLoad, HasRows, IsMet, TakesRow, load_asks}
use Rattle.nova_engine.specs.Positions.{IsFront}

-- ---- lines over the limit

or_true : (b : Bool) → (b || true) ≡ true
or_true true = refl
or_true false = refl

any_long : (rows : List (List ℕ)) (line : List ℕ) → is_too_long line ≡ true → list_any is_too_long (rows ++ line ∷ []) ≡ true
any_long [] line is = ap (λ b. b || false) is
any_long (l ∷ ls) line is = ap (λ b. is_too_long l || b) (any_long ls line is) ∙ or_true (is_too_long l)

any_kept : (rows : List (List ℕ)) (line : List ℕ) → is_too_long line ≡ false → list_any is_too_long (rows ++ line ∷ []) ≡ list_any is_too_long rows
any_kept [] line is = ap (λ b. b || false) is
any_kept (l ∷ ls) line is = ap (λ b. is_too_long l || b) (any_kept ls line is)

-- what is held of a line tells whether it is over the limit, and is all of it where it isn't
pub front_long : (held line : List ℕ) → IsFront held line → is_too_long held ≡ is_too_long line
front_long held line front = ap is_too_long front.is ∙ front_decides.long front.count line front.enough

pub front_whole : (held line : List ℕ) → IsFront held line → is_too_long held ≡ false → held ≡ line
front_whole held line front short =
    let own : is_too_long line ≡ false = sym (front_long held line front) ∙ short in
    let below : length line ≤ 4194304 = grind (arith, nat_tests) in
    let enough = front.enough in
    let m : min front.count (length line) ≡ length line = omega (arith, below, enough) in
    front.is ∙ sym (take_min front.count line) ∙ ap (λ k. take k line) m ∙ take-length line

-- ---- refusals

long_asks : (s : State) (met : Result Request Refusal) (rows : List (List ℕ)) (is_ended : Bool) → list_any is_too_long rows ≡ true → load_asks s met rows is_ended ≡ Err LineTooLong
long_asks s met rows is_ended is = ap (λ b. load_end b met (bad_row (rows_for s (loaded_channel met) rows)) is_ended) is

bad_stays : (s : State) (channel : Option ℕ) (rows : List (List ℕ)) (line : List ℕ) (k : ℕ) → rows_for s channel rows ≡ Err k → rows_for s channel (rows ++ line ∷ []) ≡ Err k
bad_stays s None rows line k is = absurd (cc)
bad_stays s (Some c) rows line k is = read_rows-bad (schema_in s.flow c) 1 k rows line is

-- by what was read of the rows so far
by_rows : (request : Request) (read more : Result (List Entry) ℕ) (refusal : Refusal) → ((k : ℕ) → read ≡ Err k → more ≡ Err k)
    → load_end false (Ok request) (bad_row read) true ≡ Err refusal → load_end false (Ok request) (bad_row more) true ≡ Err refusal
by_rows request (Ok entries) more refusal stays is = absurd (cc)
by_rows request (Err k) more refusal stays is = ap (λ (x : Result (List Entry) ℕ). load_end false (Ok request) (bad_row x) true) (stays k refl) ∙ is

by_met : (s : State) (met : Result Request Refusal) (rows : List (List ℕ)) (line : List ℕ) (refusal : Refusal)
    → load_end false met (bad_row (rows_for s (loaded_channel met) rows)) true ≡ Err refusal → load_end false met (bad_row (rows_for s (loaded_channel met) (rows ++ line ∷ []))) true ≡ Err refusal
by_met s (Err own) rows line refusal is = is
by_met s (Ok request) rows line refusal is =
    by_rows request (rows_for s (loaded_channel (Ok request)) rows) (rows_for s (loaded_channel (Ok request)) (rows ++ line ∷ [])) refusal (λ k bad. bad_stays s (loaded_channel (Ok request)) rows line k bad) is

by_length : (b : Bool) (s : State) (met : Result Request Refusal) (rows : List (List ℕ)) (line : List ℕ) (refusal : Refusal)
    → load_end b met (bad_row (rows_for s (loaded_channel met) rows)) true ≡ Err refusal → load_end b met (bad_row (rows_for s (loaded_channel met) (rows ++ line ∷ []))) true ≡ Err refusal
by_length true s met rows line refusal is = is
by_length false s met rows line refusal is = by_met s met rows line refusal is

-- a refused load stays refused behind a line within the limit
refused_stays : (s : State) (met : Result Request Refusal) (rows : List (List ℕ)) (line : List ℕ) (refusal : Refusal) → is_too_long line ≡ false
    → load_asks s met rows true ≡ Err refusal → load_asks s met (rows ++ line ∷ []) true ≡ Err refusal
refused_stays s met rows line refusal short is =
    ap (λ b. load_end b met (bad_row (rows_for s (loaded_channel met) (rows ++ line ∷ []))) true) (any_kept rows line short)
    ∙ by_length (list_any is_too_long rows) s met rows line refusal is

-- ---- rows

fit_more : (schema : Shape) (es : List Entry) (e : Entry) → AllByRecursion (FitsEntry schema) es → FitsEntry schema e → AllByRecursion (FitsEntry schema) (es ++ e ∷ [])
fit_more schema [] e are is = (is, tt)
fit_more schema (x ∷ es) e are is = (are.0, fit_more schema es e are.1 is)

delta_more : (schema : Shape) (d : DeltaValue) (es : List Entry) (e : Entry) → d ≡ record { schema = schema; entries = load_delta schema es } → with_entry d e ≡ record { schema = schema; entries = load_delta schema (es ++ e ∷ []) }
delta_more schema d es e is =
    ap (λ (x : DeltaValue). with_entry x e) is
    ∙ ap (λ m. let made : DeltaValue = record { schema = schema; entries = m } in made) (sym (set_entries-more schema fin.empty es e))

-- one more row
are_more : (schema : Shape) (rows : List (List ℕ)) (lines : ℕ) (d : DeltaValue) (line : List ℕ) (e : Entry) → is_too_long line ≡ false → row_of_text line schema ≡ Ok e → FitsEntry schema e
    → AreRead schema rows lines d → AreRead schema (rows ++ line ∷ []) (lines + 1) (with_entry d e)
are_more schema rows lines d line e short read fits are = record {
  short = any_kept rows line short ∙ are.short;
  entries = are.entries ++ e ∷ [];
  read = read_rows-row schema 1 rows line are.entries e are.read read;
  fit = fit_more schema are.entries e are.fit fits;
  made = delta_more schema d are.entries e are.made;
  counted = omega (arith, are.counted, length-append rows (line ∷ []));
}

-- one more line that is no row
bad_more : (s : State) (c : ℕ) (rows : List (List ℕ)) (lines : ℕ) (d : DeltaValue) (line : List ℕ) (f : RowFault) → is_too_long line ≡ false → row_of_text line (schema_in s.flow c) ≡ Err f
    → AreRead (schema_in s.flow c) rows lines d → load_asks s (Ok (r.Load c)) (rows ++ line ∷ []) true ≡ Err (BadRow (lines + 1))
bad_more s c rows lines d line f short read are =
    let bad = read_rows-bad_line (schema_in s.flow c) 1 (lines + 1) rows line are.entries f (omega (arith, are.counted)) are.read read in
    ap (λ b. load_end b (Ok (r.Load c)) (bad_row (read_rows (schema_in s.flow c) 1 (rows ++ line ∷ []))) true) (any_kept rows line short ∙ are.short)
    ∙ ap (λ (x : Result (List Entry) ℕ). load_end false (Ok (r.Load c)) (bad_row x) true) bad

-- ---- as the code has them

pub takes_long : (pending : Pending) (line : List ℕ) → is_too_long line ≡ true → TakesRow pending (Refused LineTooLong) line
takes_long pending line long s met rows holds = long_asks s met (rows ++ line ∷ []) true (any_long rows line long)

pub takes_refused : (refusal : Refusal) (line : List ℕ) → is_too_long line ≡ false → TakesRow (Refused refusal) (Refused refusal) line
takes_refused refusal line short s met rows holds = refused_stays s met rows line refusal short holds

schema_of : (d : DeltaValue) (schema : Shape) (es : List Entry) → d ≡ record { schema = schema; entries = load_delta schema es } → d.schema ≡ schema
schema_of d schema es is = ap (λ (x : DeltaValue). x.schema) is

pub takes_row : (old : KeptRows) (new : Pending) (line : List ℕ) (e : Entry) → is_too_long line ≡ false → row_of_text line old.delta.schema ≡ Ok e → FitsEntry old.delta.schema e
    → HasRows new old.channel (with_entry old.delta e) (old.lines + 1) → TakesRow (Rows old) new line
takes_row old (Refused refusal) line e short read fits has s met rows holds = absurd has
takes_row old (Rows new) line e short read fits has s met rows holds =
    let same = schema_of old.delta (schema_in s.flow old.channel) holds.are.entries holds.are.made in
    let are = are_more (schema_in s.flow old.channel) rows old.lines old.delta line e short (rw same at read) (rw same at fits) holds.are in
    rw (has.0, has.1, has.2) (record { asks = holds.asks; in_range = holds.in_range; input = holds.input; are = are })

pub takes_fault : (old : KeptRows) (new : Pending) (line : List ℕ) (f : RowFault) → is_too_long line ≡ false → row_of_text line old.delta.schema ≡ Err f
    → new ≡ Refused (BadRow (old.lines + 1)) → TakesRow (Rows old) new line
takes_fault old new line f short read is s met rows holds =
    let same = schema_of old.delta (schema_in s.flow old.channel) holds.are.entries holds.are.made in
    let bad = bad_more s old.channel rows old.lines old.delta line f short (rw same at read) holds.are in
    rw is (subst (λ m. load_asks s m (rows ++ line ∷ []) true ≡ Err (BadRow (old.lines + 1))) (sym holds.asks) bad)

-- ---- a load that begins

pub writer_none : (w : Option ℕ) → is_some w ≡ false → is_none w ≡ true
writer_none None is = refl
writer_none (Some t) is = absurd (cc)

pub count_names : (flow : Workflow) → length (map (λ (c : Channel). c.name) flow.channels) ≡ length flow.channels
count_names flow = length-map flow.channels (λ (c : Channel). c.name)

pub count_tasks : (flow : Workflow) → length (map (λ (t : Task). t.name) flow.tasks) ≡ length flow.tasks
count_tasks flow = length-map flow.tasks (λ (t : Task). t.name)

pub begins_rows : (store : Held) (c : ℕ) (new : Pending) → IsMet (around_held store) (Ok (r.Load c)) → HasRows new c (record { schema = schema_in store.flow c; entries = fin.empty }) 0
    → BeginsLoad store (Ok (r.Load c)) new
begins_rows store c (Refused refusal) met has s flow same = absurd has
begins_rows store c (Rows new) met has s flow same =
    let long = count_names store.flow in
    let below : c < length store.flow.channels = omega (arith, met.0, long) in
    let schema : schema_in store.flow c ≡ schema_in s.flow c = ap (λ (f : Workflow). schema_in f c) flow in
    let empty : record { schema = schema_in store.flow c; entries = fin.empty } ≡ record { schema = schema_in s.flow c; entries = fin.empty } = ap (λ (t : Shape). let made : DeltaValue = record { schema = t; entries = fin.empty } in made) schema in
    let input : is_input s.flow c ≡ true = ap (λ (f : Workflow). is_none (channel_in f c).writer) (sym flow) ∙ writer_none (channel_in store.flow c).writer met.1 in
    rw (has.0, has.1, has.2) (record {
      asks = refl;
      in_range = rw flow at below;
      input = input;
      are = record { short = refl; entries = []; read = refl; fit = tt; made = empty; counted = refl };
    })

pub begins_any : {E : Type 0} (res : Result Pending E) (store : Held) (met : Result Request Refusal) (c : ℕ) → met ≡ Ok (r.Load c) → IsMet (around_held store) met
    → IfOk res (λ p. HasRows p c (record { schema = schema_in store.flow c; entries = fin.empty }) 0) → IfOk res (BeginsLoad store met)
begins_any (Err e) store met c is range has = tt
begins_any (Ok new) store met c is range has = subst (λ m. BeginsLoad store m new) (sym is) (begins_rows store c new (subst (IsMet (around_held store)) is range) has)

-- what follows of what a call that may find no memory answers
pub if_ok : {A E : Type 0} (res : Result A E) (P Q : A → Type 0) → ((x : A) → P x → Q x) → IfOk res P → IfOk res Q
if_ok (Ok x) P Q is has = is x has
if_ok (Err e) P Q is has = tt
