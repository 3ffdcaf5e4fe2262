-- A load's commit leads to the state behind the load.
use Rattle.std.proofs.Common.{◌≡◌, ℕ, ◌+◌, ◌<◌, ◌≤◌, ◌==◌, Bool, true, false, ◌&&◌, cond, List, [], ◌∷◌, ◌++◌, length, map, Some, None, refl, ap, sym, ◌∙◌, arith, if◌then◌else◌, length-append}
use Rattle.std.specs.Prelude.{slice_index_or, slice_set}
use Rattle.std.specs.List.{AllByRecursion}
use Rattle.std.specs.FinMap as fin
use Rattle.std.specs.Ordering.{eq_by_cmp}
use Rattle.std.proofs.lemmas.Bool.Decides.{nat_tests}
use Rattle.std.proofs.lemmas.List.{get_or-set_same, map-set}
use Rattle.std.proofs.Math.ListN.{get_or-map}
use Rattle.nova_value.specs.declared.value.Value.{Value}
use Rattle.nova_value.specs.declared.schema.Entry.{Entry}
use Rattle.nova_value.specs.declared.schema.Entry.TheVariants.{Put, Removal}
use Rattle.nova_value.specs.Order.{key_cmp}
use Rattle.nova_value.specs.Orders.{keys_total, same_keys}
use Rattle.nova_value.specs.Rows.{Shape}
use Rattle.nova_value.specs.Entries.{entry_key}
use Rattle.nova_delta.specs.Merge.{DeltaValue, EntryMap, puts}
use Rattle.nova_path.specs.Shelf.{Span, is_span}
use Rattle.nova_path.specs.Intervals.{span, spans}
use Rattle.nova_path.specs.declared.interval.Interval.{Interval}
use Rattle.nova_row_codec.specs.Spelling.{spelling_of}
use Rattle.nova_meta.specs.Catalog.{Entered, Shelved, applied, interval_of, is_before, next_shelf, nothing_shelved, placed, shelf_at}
use Rattle.nova_meta.specs.Wired.{is_based}
use Rattle.nova_meta.specs.declared.wiring.Wiring.{Wiring}
use Rattle.nova_commit.specs.declared.commit.Commit.TheVariants as commit
use Rattle.nova_machine.specs.Workflow.{is_based as flow_based, is_input as flow_input, schema_in}
use Rattle.nova_machine.specs.Versions.{Version, block}
use Rattle.nova_machine.specs.State.{State, Kept, kept_at, nothing_kept, with_span}
use Rattle.nova_machine.specs.Steps.{Load, add_version, after, load_delta, loaded_version, set_entries, with_version}
use Rattle.nova_machine.proofs.Composing.{versions_are_blocks}
use Rattle.nova_machine.proofs.Turns.{flow_after}
use Rattle.nova_runner.specs.Acts.{load_block}
use Rattle.nova_runner.specs.Stands.{drawn, drawn_kept, drawn_shelved, sketch, Drawn, Sketch}
use Rattle.nova_runner.specs.LoadLaws.{LoadsBring, LoadsDraw}
use Rattle.nova_runner.proofs.Flows.{free as loose, free_known}

-- ---- drawings

pub drawings : (cat : Entered) (s : State) → drawn cat ≡ sketch s → map drawn_shelved cat.channels ≡ map drawn_kept s.channels
unfolding drawn sketch
drawings cat s same = ap (λ (k : Sketch). k.channels) same

pub drawn_at : (cat : Entered) (s : State) → map drawn_shelved cat.channels ≡ map drawn_kept s.channels → (c : ℕ) → drawn_shelved (shelf_at cat c) ≡ drawn_kept (kept_at s c)
drawn_at cat s same c =
    sym (get_or-map drawn_shelved cat.channels c nothing_shelved)
    ∙ ap (λ (ds : List Drawn). slice_index_or ds c (record { version = 0; shelf = [] })) same
    ∙ get_or-map drawn_kept s.channels c nothing_kept

spans_if : (b : Bool) (xs ys : List Interval) → spans (if b then xs else ys) ≡ (if b then spans xs else spans ys)
spans_if true xs ys = refl
spans_if false xs ys = refl

apart_end : (x y : Span) → y.to < x.to → is_span x y ≡ false
apart_end x y lt = second_false (y.from == x.from) (y.to == x.to) (grind (arith, nat_tests))
  where
    second_false : (a b : Bool) → b ≡ false → (a && b) ≡ false
    second_false true b e = e
    second_false false b e = refl

-- an interval that ends above all others is placed where its span is
pub spans_placed : (x : Interval) (ys : List Interval) (n : ℕ) → AllByRecursion (λ (y : Interval). y.to ≤ n) ys → n < x.to → spans (placed x ys) ≡ with_span (span x) (spans ys)
spans_placed x [] n low lt = refl
spans_placed x (y ∷ ys) n low lt =
    let first : y.to ≤ n = low.0 in
    let apart : is_span (span x) (span y) ≡ false = apart_end (span x) (span y) (omega (arith, first, lt)) in
    spans_if (is_before x y) (x ∷ (y ∷ ys)) (y ∷ placed x ys)
    ∙ ap (λ (zs : List Span). if is_before x y then span x ∷ (span y ∷ spans ys) else span y ∷ zs) (spans_placed x ys n low.1 lt)
    ∙ sym (ap (λ (b : Bool). if is_before x y then span x ∷ (span y ∷ spans ys) else (if b then span y ∷ spans ys else span y ∷ with_span (span x) (spans ys))) apart)

-- a version more, in the catalog and in the state
pub grown : (sh : Shelved) (k : Kept) (v : Version) (based anew : Bool) (b z : ℕ) → based ≡ anew → AllByRecursion (λ (y : Interval). y.to ≤ sh.version) sh.intervals →
    drawn_shelved sh ≡ drawn_kept k → drawn_shelved (next_shelf based sh b z) ≡ drawn_kept (with_version anew k v)
grown sh k v based anew b z is low same =
    let number : sh.version ≡ length k.versions = ap (λ (d : Drawn). d.version) same in
    let shelf : spans sh.intervals ≡ k.shelf = ap (λ (d : Drawn). d.shelf) same in
    let long : length (k.versions ++ v ∷ []) ≡ length k.versions + 1 = length-append k.versions (v ∷ []) in
    let begins : (if based then 0 else sh.version) ≡ (if anew then 0 else length k.versions) =
    λ j. if is j then 0 else number j in
    λ i. record {
      version = (ap (λ n. n + 1) number ∙ sym long) i;
      shelf = (spans_placed (interval_of (if based then 0 else sh.version) (sh.version + 1) b z) sh.intervals sh.version low (omega arith)
          ∙ (λ j. with_span (record { from = begins j; to = number j + 1 }) (shelf j))) i;
    }

-- the state with a version more of a channel is drawn as the catalog with its commit
pub like_added : (cat : Entered) (s : State) (c b z : ℕ) (v : Version) → is_based cat.wiring c ≡ false → flow_based s.flow c ≡ false → AllByRecursion (λ (y : Interval). y.to ≤ (shelf_at cat c).version) (shelf_at cat c).intervals →
    drawn cat ≡ sketch s → drawn (applied cat (commit.Load c b z)) ≡ sketch (add_version s c v)
unfolding drawn sketch
like_added cat s c b z v free loose low same =
    let all = drawings cat s same in
    λ i. record {
      channels = (
          map-set drawn_shelved cat.channels c (next_shelf (is_based cat.wiring c) (shelf_at cat c) b z)
          ∙ (λ j. slice_set (all j) c (grown (shelf_at cat c) (kept_at s c) v (is_based cat.wiring c) (flow_based s.flow c) b z (free ∙ sym loose) low (drawn_at cat s all c) j))
          ∙ sym (map-set drawn_kept s.channels c (with_version (flow_based s.flow c) (kept_at s c) v))) i;
      tasks = ap (λ (k : Sketch). k.tasks) same i;
      moment = ap (λ (k : Sketch). k.moment) same i;
    }

-- a load of a channel that no task writes
pub loaded : (s : State) (c : ℕ) (entries : List Entry) → flow_input s.flow c ≡ true → after s (Load c entries) ≡ add_version s c (loaded_version s c entries)
loaded s c entries input = ap (λ (b : Bool). if b then add_version s c (loaded_version s c entries) else s) input

pub like_after : LoadsDraw
like_after cat s c b z entries read wired input shelved same =
    let free : is_based cat.wiring c ≡ false = ap (λ (w : Wiring). is_based w c) wired ∙ free_known s.flow read c input in
    like_added cat s c b z (loaded_version s c entries) free (loose s.flow read c input) shelved.low same
    ∙ ap sketch (sym (loaded s c entries input))

-- ---- the block of a load

removal_key : (schema : Shape) (e : Entry) (k : List Value) → e ≡ Removal k → k ≡ entry_key schema e
removal_key schema (Put row) k is = absurd (cc)
removal_key schema (Removal other) k is = cc

some_entry : (x y : Entry) → Some x ≡ Some y → x ≡ y
some_entry x y e = cc

removals : (schema : Shape) (d : EntryMap) (es : List Entry) → ((q k : List Value) → fin.get d q ≡ Some (Removal k) → k ≡ q) → (q k : List Value) → fin.get (set_entries schema d es) q ≡ Some (Removal k) → k ≡ q
removals schema d [] was = was
removals schema d (e ∷ es) was = removals schema (fin.insert d (entry_key schema e) e) es (λ q k is. one q k (eq_by_cmp key_cmp q (entry_key schema e)) refl (sym (fin.get-insert keys_total d (entry_key schema e) e q) ∙ is))
  where
    one : (q k : List Value) (b : Bool) → eq_by_cmp key_cmp q (entry_key schema e) ≡ b → cond (eq_by_cmp key_cmp q (entry_key schema e)) (Some e) (fin.get d q) ≡ Some (Removal k) → k ≡ q
    one q k true ties is = removal_key schema e k (some_entry e (Removal k) (sym (ap (λ c. cond c (Some e) (fin.get d q)) ties) ∙ is)) ∙ sym ((same_keys q (entry_key schema e)).0 ties)
    one q k false apart is = was q k (sym (ap (λ c. cond c (Some e) (fin.get d q)) apart) ∙ is)

pub load_bytes : LoadsBring
load_bytes cat s c entries delta below input same is =
    let schema = schema_in s.flow c in
    let d = load_delta schema entries in
    let vs = (kept_at s c).versions in
    let made = loaded_version s c entries in
    let next : Kept = with_version (flow_based s.flow c) (kept_at s c) made in
    let kept : kept_at (after s (Load c entries)) c ≡ next = ap (λ (t : State). kept_at t c) (loaded s c entries input) ∙ get_or-set_same s.channels c next nothing_kept below in
    let flow : (after s (Load c entries)).flow ≡ s.flow = flow_after s (Load c entries) in
    let number : (shelf_at cat c).version ≡ length vs = ap (λ (x : Drawn). x.version) (drawn_at cat s (drawings cat s same) c) in
    let block_is = versions_are_blocks vs made d refl (λ q. sym (fin.contains_key-keys d q)) (removals schema fin.empty entries (λ q k none. absurd (let no : None ≡ Some (Removal k) = sym (fin.get-empty key_cmp q) ∙ none in cc))) in
    ap (λ (x : DeltaValue). spelling_of (load_block cat c x)) is
    ∙ ap (λ n. spelling_of (record { schema = schema; entries = if n == 0 then puts d else d })) number
    ∙ ap (λ (m : EntryMap). spelling_of (record { schema = schema; entries = m })) (sym block_is)
    ∙ (λ i. spelling_of (record { schema = schema_in (sym flow i) c; entries = block (sym kept i).versions (length vs) (length vs + 1) }))
