-- The commit of a load leads to the state behind it.
use Rattle.std.proofs.Common.{◌≡◌, ◌⊎◌, inl, inr, ℕ, ◌+◌, ◌<◌, ◌≤◌, Bool, true, false, List, [], ◌∷◌, length, refl, ap, sym, ◌∙◌, subst, arith, if◌then◌else◌}
use Rattle.nova_value.specs.declared.schema.Entry.{Entry}
use Rattle.nova_delta.specs.Merge.{DeltaValue, EntryMap}
use Rattle.nova_path.specs.Lists.{IsOneOf}
use Rattle.nova_path.specs.Shelf.{Span}
use Rattle.nova_path.specs.Intervals.{span, spans}
use Rattle.nova_path.specs.declared.interval.Interval.{Interval}
use Rattle.nova_row_codec.specs.Spelling.{spelling_of}
use Rattle.nova_meta.specs.Catalog.{Entered, Shelved, applied, interval_of, is_before, next_shelf, nothing_shelved, placed, shelf_at}
use Rattle.nova_meta.specs.Named.{Channel, Content, Names, State as StatePart}
use Rattle.nova_meta.specs.Wired.{is_based}
use Rattle.nova_meta.specs.declared.wiring.Wiring.{Wiring}
use Rattle.nova_commit.specs.declared.commit.Commit.TheVariants as commit
use Rattle.nova_machine.specs.Workflow.{is_based as flow_based, is_input as flow_input, schema_in}
use Rattle.nova_machine.specs.Versions.{Version, block}
use Rattle.nova_machine.specs.State.{State, Kept, ended, kept_at, newest, nothing_kept}
use Rattle.nova_machine.specs.Steps.{Load, add_version, load_delta, loaded_version, with_version}
use Rattle.nova_machine.specs.Reachable.{IsReachable}
use Rattle.nova_machine.proofs.Composing.{blocks_stay}
use Rattle.nova_machine.proofs.Counted.{channels_are_kept}
use Rattle.nova_machine.proofs.Ended.{ended_reachable}
use Rattle.nova_machine.proofs.Growth.{at_set}
use Rattle.nova_machine.proofs.Reached.{hops_have_paths, reachable_more}
use Rattle.nova_histories.specs.Planned.{IsPlannedFlow}
use Rattle.nova_runner.specs.Acts.{load_block, load_commit}
use Rattle.nova_runner.specs.Committing.{IsFresh, Leads}
use Rattle.nova_runner.specs.Files.{IsNamed, bytes_of}
use Rattle.nova_runner.specs.Laws.{LoadsLead}
use Rattle.nova_runner.specs.Stands.{drawn, sketch, Drawn}
use Rattle.nova_runner.specs.Workflow.{wiring_of}
use Rattle.nova_runner.specs.declared.ready.Fresh.{Fresh}
use Rattle.nova_runner.proofs.Flights.{bytes_ended, fresh_ended, sketch_ended}
use Rattle.nova_runner.proofs.Flows.{free as loose, free_known, own, well_wired}
use Rattle.nova_runner.proofs.Loading.{drawings, drawn_at, like_added, load_bytes, loaded}
use Rattle.nova_runner.proofs.StateParts.{kept_ended, kept_stays, part_stays}
use Rattle.nova_groups.specs.Parts.{part, part_of}
use Rattle.nova_runner.proofs.Stored.{fine}
use Rattle.nova_meta.proofs.Sound.{catalogs_are_sound}

pub one_span : (xs : List Interval) (y : Interval) → IsOneOf xs y → IsOneOf (spans xs) (span y)
one_span [] y is = absurd is
one_span (x ∷ xs) y (inl e) = inl (ap span e)
one_span (x ∷ xs) y (inr more) = inr (one_span xs y more)

on_if : {X : Type 0} (b : Bool) (xs ys : List X) (x : X) (P : Type 0) → (IsOneOf xs x → P) → (IsOneOf ys x → P) → IsOneOf (if b then xs else ys) x → P
on_if true xs ys x P f g = f
on_if false xs ys x P f g = g

placed_only : (x : Interval) (ys : List Interval) (z : Interval) → IsOneOf (placed x ys) z → (x ≡ z) ⊎ IsOneOf ys z
placed_only x [] z (inl e) = inl e
placed_only x [] z (inr none) = absurd none
placed_only x (y ∷ ys) z is = on_if (is_before x y) (x ∷ (y ∷ ys)) (y ∷ placed x ys) z ((x ≡ z) ⊎ IsOneOf (y ∷ ys) z) front (behind (placed_only x ys z)) is
  where
    front : IsOneOf (x ∷ (y ∷ ys)) z → (x ≡ z) ⊎ IsOneOf (y ∷ ys) z
    front (inl e) = inl e
    front (inr more) = inr more

    behind : (IsOneOf (placed x ys) z → (x ≡ z) ⊎ IsOneOf ys z) → IsOneOf (y ∷ placed x ys) z → (x ≡ z) ⊎ IsOneOf (y ∷ ys) z
    behind rest (inl e) = inr (inl e)
    behind rest (inr more) = elim (rest more) as (λ _. (x ≡ z) ⊎ IsOneOf (y ∷ ys) z) [ inl e ↦ inl e | inr m ↦ inr (inr m) ]

module _ (cat : Entered) (c size : ℕ) where
  abbrev pub new_one : Interval
  new_one = interval_of (if is_based cat.wiring c then 0 else (shelf_at cat c).version) ((shelf_at cat c).version + 1) cat.next size

  -- an interval of the catalog behind a load was there, or is the new one
  pub which : (d : ℕ) (y : Interval) → IsOneOf (shelf_at (applied cat (commit.Load c cat.next size)) d).intervals y → IsOneOf (shelf_at cat d).intervals y ⊎ ((d ≡ c) × (new_one ≡ y))
  which d y is = at_set (λ n (k : Shelved). IsOneOf k.intervals y → IsOneOf (shelf_at cat n).intervals y ⊎ ((n ≡ c) × (new_one ≡ y)))
      cat.channels c (next_shelf (is_based cat.wiring c) (shelf_at cat c) cat.next size) nothing_shelved
      (λ n old. inl old)
      (λ more. elim (placed_only new_one (shelf_at cat c).intervals y more) as (λ _. IsOneOf (shelf_at cat c).intervals y ⊎ ((c ≡ c) × (new_one ≡ y))) [ inl e ↦ inr (refl, e) | inr old ↦ inl old ])
      d is

module _ (cat : Entered) (s : State) (c : ℕ) (entries : List Entry) (delta : DeltaValue) (fresh : Fresh)
    (low : (d : ℕ) (x : Span) → IsOneOf (kept_at s d).shelf x → x.to ≤ newest s d) (free : is_based cat.wiring c ≡ false) (input : flow_input s.flow c ≡ true) (same : drawn cat ≡ sketch s) (below : c < length s.channels)
    (is : delta ≡ record { schema = schema_in s.flow c; entries = load_delta (schema_in s.flow c) entries })
    (planned : IsPlannedFlow s.flow) (reached : IsReachable s)
    (number : fresh.block ≡ cat.next) (bytes : fresh.bytes.items ≡ spelling_of (load_block cat c delta)) where
  abbrev pub made : Version
  made = loaded_version s c entries

  abbrev pub next : State
  next = add_version s c made

  stay_content : (w : Content) (b z : ℕ) → Names cat w b z → bytes_of next w ≡ bytes_of s w
  stay_content (StatePart u part) b z named = part_stays s planned reached u part c made
  stay_content (Channel d i j) b z named =
      let here : IsOneOf (kept_at s d).shelf (record { from = i; to = j }) = subst (λ (x : Drawn). IsOneOf x.shelf (record { from = i; to = j })) (drawn_at cat s (drawings cat s same) d) (one_span (shelf_at cat d).intervals (interval_of i j b z) named) in
      ap (λ (m : EntryMap). spelling_of (record { schema = schema_in s.flow d; entries = m }))
      (at_set (λ n (k : Kept). j ≤ newest s n → block k.versions i j ≡ block (kept_at s n).versions i j) s.channels c (with_version (flow_based s.flow c) (kept_at s c) made) nothing_kept
      (λ n le. refl) (λ le. blocks_stay (kept_at s c).versions made i j le) d (low d (record { from = i; to = j }) here))

  named_content : (w : Content) (b z : ℕ) → Names (applied cat (commit.Load c cat.next (length (spelling_of (load_block cat c delta))))) w b z → Names cat w b z ⊎ IsFresh next (fresh ∷ []) (record { content = w; block = b; size = z })
  named_content (StatePart u part) b z named = inl named
  named_content (Channel d i j) b z named = elim (which cat c (length (spelling_of (load_block cat c delta))) d (interval_of i j b z) named) as (λ _. Names cat (Channel d i j) b z ⊎ IsFresh next (fresh ∷ []) (record { content = Channel d i j; block = b; size = z })) [
    | inl old ↦ inl old
    | inr new ↦
        let e = new.1 in
        let version : (shelf_at cat c).version ≡ newest s c = ap (λ (x : Drawn). x.version) (drawn_at cat s (drawings cat s same) c) in
        let begins : newest s c ≡ i = sym version ∙ sym (ap (λ (b : Bool). if b then 0 else (shelf_at cat c).version) free) ∙ ap (λ (x : Interval). x.from) e in
        let ends : newest s c + 1 ≡ j = ap (λ n. n + 1) (sym version) ∙ ap (λ (x : Interval). x.to) e in
        let block_is : fresh.block ≡ b = number ∙ ap (λ (x : Interval). x.block) e in
        let bytes_are : fresh.bytes.items ≡ bytes_of next (Channel d i j) = bytes ∙ load_bytes cat s c entries delta below input same is
        ∙ ap (λ (t : State). bytes_of t (Channel c (newest s c) (newest s c + 1))) (loaded s c entries input) ∙ (λ k. bytes_of next (Channel (sym new.0 k) (begins k) (ends k))) in
        let long : z ≡ length fresh.bytes.items = sym (ap (λ (x : Interval). x.size) e) ∙ ap length (sym bytes) in
        inr (fresh, inl refl, block_is, bytes_are, long)
  ]

pub loads_lead : LoadsLead
loads_lead x commits cat files s c entries delta fresh reached wired by is_made is number bytes fits allowed =
    let input = is_made.1 in
    let taken = loaded s c entries input in
    let planned = (own s.flow by.agrees.read).planned in
    let free : is_based cat.wiring c ≡ false = ap (λ (w : Wiring). is_based w c) wired ∙ free_known s.flow by.agrees.read c input in
    let shelved = (catalogs_are_sound (wiring_of s.flow) commits cat (well_wired s.flow by.agrees.read) by.agrees.catalog.is).shelved c in
    let below : c < length s.channels = let n = channels_are_kept s reached in let m = is_made.0 in omega (arith, n, m) in
    let low = λ (d : ℕ). (fine x commits cat files s reached by d).low in
    let v = loaded_version s c entries in
    let t = add_version s c v in
    let reached_then : IsReachable t = subst IsReachable taken (reachable_more s (Load c entries) reached is_made) in
    let begins = by.agrees.same in
    let here : drawn cat ≡ sketch s = begins ∙ sketch_ended s in
    subst (λ (u : State). Leads cat s u (load_commit cat c delta) (fresh ∷ [])) (sym taken) (record {
      fits = fits;
      allowed = allowed;
      flow = refl;
      reached = reached_then;
      flights = refl;
      like = like_added cat (ended s) c cat.next (length (spelling_of (load_block cat c delta))) v free (loose s.flow by.agrees.read c input) shelved.low begins;
      stay = λ p named later. bytes_ended t p.content ∙ stay_content cat s c entries delta fresh low free input here below is planned reached number bytes p.content p.block p.size named ∙ sym (bytes_ended s p.content);
      named = λ p named. elim (named_content cat s c entries delta fresh low free input here below is planned reached number bytes p.content p.block p.size named) as (λ _. IsNamed cat p ⊎ IsFresh (ended t) (fresh ∷ []) p) [
        | inl old ↦ inl old
        | inr new ↦ inr (fresh_ended t (fresh ∷ []) p new)
      ];
      empty = λ u number grouping none. ap (part_of part number) (kept_ended t u ∙ kept_stays s planned reached u c v ∙ sym (kept_ended s u)) ∙ by.empty u number grouping none;
      paths = λ d h one. let led = hops_have_paths (ended t) (own s.flow by.agrees.read).news (ended_reachable t reached_then) d h one in (led.0, led.2);
    })
