-- Rows stand at their keys.
use Rattle.std.proofs.Common.{◌≡◌, ◌⊎◌, inl, inr, ℕ, zero, suc, ◌<◌, ◌≤◌, ◌==◌, Bool, true, false, cond, List, [], ◌∷◌, ◌++◌, length, Option, Some, None, refl, ap, sym, ◌∙◌, subst, arith, if◌then◌else◌}
use Rattle.std.specs.Prelude.{nat_le}
use Rattle.std.specs.Ordering.{eq_by_cmp}
use Rattle.std.specs.Map.{lookup}
use Rattle.std.specs.BTreeMap.{is_at}
use Rattle.std.specs.FinMap as fin
use Rattle.std.proofs.lemmas.List.{get_or_past, length_push}
use Rattle.nova_value.specs.declared.value.Value.{Value}
use Rattle.nova_value.specs.declared.schema.Entry.{Entry}
use Rattle.nova_value.specs.declared.schema.Entry.TheVariants.{Put, Removal}
use Rattle.nova_value.specs.Order.{key_cmp}
use Rattle.nova_value.specs.Orders.{keys_total, same_keys}
use Rattle.nova_value.specs.Rows.{Shape, key_at}
use Rattle.nova_value.specs.Entries.{entry_key}
use Rattle.nova_delta.specs.Merge.{RowMap, EntryMap, merged, after}
use Rattle.nova_delta.specs.ActionLaws.{get-merged}
use Rattle.nova_delta.specs.Seen.{keyed, row_map}
use Rattle.nova_delta.proofs.OrderedMap.{get-seen}
use Rattle.nova_machine.specs.Workflow.{output_in, plan_in, schema_in, is_based, is_input}
use Rattle.nova_machine.specs.Versions.{Version, no_version, version_in, rows_in}
use Rattle.nova_machine.specs.State.{State, Kept, Capture, start, nothing_kept, kept_at, done_at, newest}
use Rattle.nova_machine.specs.Due.{capture_of}
use Rattle.nova_machine.specs.Results.{result_rows}
use Rattle.nova_machine.specs.Writing.{made_version}
use Rattle.nova_machine.specs.Steps.{Step, Load, Tick, Begin, Drop, Finish, Run, Worked, Compact, Chain, Collect, Show, Blocks, Refused, after_all, set_kept, with_hop, with_version, add_version, loaded_version, load_delta, set_entries, add_run, landing, may_begin, may_chain}
use Rattle.nova_machine.specs.Steps as steps
use Rattle.nova_machine.specs.ReachableLaws.{IsKeyed, RowsStandAtTheirKeys}
use Rattle.nova_machine.proofs.Growing.{version_before, version_new}
use Rattle.nova_machine.proofs.Growth.{at_set}
use Rattle.nova_machine.proofs.Kept.{same_everywhere}
use Rattle.nova_machine.proofs.Collecting.{kept_collected}

abbrev of : State → ℕ → List Version
of s c = (kept_at s c).versions

abbrev pub PutsKeyed : List ℕ → EntryMap → Type 0
PutsKeyed key d = (q r : List Value) → fin.get d q ≡ Some (Put r) → key_at key r ≡ q

found : (key : List ℕ) (rows : List (List Value)) (q r : List Value) → lookup (is_at (key_cmp q)) (keyed key rows) ≡ Some r → key_at key r ≡ q
found key [] q r e = cc
found key (x ∷ xs) q r e = elim (eq_by_cmp key_cmp q (key_at key x)) as (λ b. eq_by_cmp key_cmp q (key_at key x) ≡ b → cond b (Some x) (lookup (is_at (key_cmp q)) (keyed key xs)) ≡ Some r → key_at key r ≡ q) [
  | true ↦ λ ties is. let same : x ≡ r = cc in ap (key_at key) (sym same) ∙ sym ((same_keys q (key_at key x)).0 ties)
  | false ↦ λ apart is. found key xs q r is
] refl e

-- any table of rows
pub keyed_rows : (key : List ℕ) (rows : List (List Value)) → IsKeyed key (row_map (keyed key rows))
keyed_rows key rows q r e = found key rows q r (sym (get-seen keys_total (keyed key rows) q) ∙ e)

left_keyed : (key : List ℕ) (o : Option Entry) (m : Option (List Value)) (q r : List Value) → after o m ≡ Some r → ((s : List Value) → o ≡ Some (Put s) → key_at key s ≡ q) → ((s : List Value) → m ≡ Some s → key_at key s ≡ q) → key_at key r ≡ q
left_keyed key None m q r e put old = old r e
left_keyed key (Some (Put s)) m q r e put old = let same : s ≡ r = cc in ap (key_at key) (sym same) ∙ put s refl
left_keyed key (Some (Removal k)) m q r e put old = cc

pub keyed_merged : (key : List ℕ) (m : RowMap) (d : EntryMap) → IsKeyed key m → PutsKeyed key d → IsKeyed key (merged m d)
keyed_merged key m d is puts q r e = left_keyed key (fin.get d q) (fin.get m q) q r (sym (get-merged m d q) ∙ e) (puts q) (is q)

-- each version of each channel
abbrev pub VersionsKeyed : List ℕ → List Version → Type 0
VersionsKeyed key vs = (n : ℕ) → IsKeyed key (rows_in vs n)

abbrev pub AllKeyed : State → Type 0
AllKeyed s = (c : ℕ) → VersionsKeyed (schema_in s.flow c).key (of s c)

pub keyed_empty : (key : List ℕ) → IsKeyed key fin.empty
keyed_empty key q r e = let never : None ≡ Some r = sym (fin.get-empty key_cmp q) ∙ e in cc

keyed_push : (key : List ℕ) (vs : List Version) (v : Version) → VersionsKeyed key vs → IsKeyed key v.rows → VersionsKeyed key (vs ++ v ∷ [])
keyed_push key vs v is new n =
    let split : (n ≤ length vs) ⊎ ((n ≡ suc (length vs)) ⊎ (suc (length vs) < n)) = grind arith in
    elim split as (λ _. IsKeyed key (rows_in (vs ++ v ∷ []) n)) [
      | inl low ↦ subst (λ (w : Version). IsKeyed key w.rows) (sym (version_before vs v n low)) (is n)
      | inr (inl e) ↦ subst (λ (w : Version). IsKeyed key w.rows) (sym (ap (version_in (vs ++ v ∷ [])) e ∙ version_new vs v)) new
      | inr (inr high) ↦ past n high
    ]
  where
    past : (m : ℕ) → suc (length vs) < m → IsKeyed key (rows_in (vs ++ v ∷ []) m)
    past zero lt = absurd (omega (arith, lt))
    past (suc m) lt = subst (λ (w : Version). IsKeyed key w.rows) (sym (get_or_past (vs ++ v ∷ []) m no_version (let long = length_push vs v in omega (arith, long, lt)))) (keyed_empty key)

puts_insert : (schema : Shape) (d : EntryMap) (e : Entry) → PutsKeyed schema.key d → PutsKeyed schema.key (fin.insert d (entry_key schema e) e)
puts_insert schema d e is q r got = elim (eq_by_cmp key_cmp q (entry_key schema e)) as (λ b. eq_by_cmp key_cmp q (entry_key schema e) ≡ b → cond b (Some e) (fin.get d q) ≡ Some (Put r) → key_at schema.key r ≡ q) [
  | true ↦ λ ties f. let same : e ≡ Put r = cc in sym ((same_keys q (entry_key schema e)).0 ties ∙ ap (entry_key schema) same)
  | false ↦ λ apart f. is q r f
] refl (sym (fin.get-insert keys_total d (entry_key schema e) e q) ∙ got)

puts_set : (schema : Shape) (d : EntryMap) (es : List Entry) → PutsKeyed schema.key d → PutsKeyed schema.key (set_entries schema d es)
puts_set schema d [] is = is
puts_set schema d (e ∷ es) is = puts_set schema (fin.insert d (entry_key schema e) e) es (puts_insert schema d e is)

keyed_if : (b : Bool) (s t : State) → AllKeyed s → AllKeyed t → AllKeyed (if b then s else t)
keyed_if true s t f g = f
keyed_if false s t f g = g

keyed_set : (s : State) (c : ℕ) (k : Kept) → AllKeyed s → VersionsKeyed (schema_in s.flow c).key k.versions → AllKeyed (set_kept s c k)
keyed_set s c k is new = at_set (λ n (l : Kept). VersionsKeyed (schema_in s.flow n).key l.versions) s.channels c k nothing_kept is new

keyed_version : (s : State) (c : ℕ) (v : Version) → AllKeyed s → IsKeyed (schema_in s.flow c).key v.rows → AllKeyed (add_version s c v)
keyed_version s c v is new = keyed_set s c (with_version (is_based s.flow c) (kept_at s c) v) is (keyed_push (schema_in s.flow c).key (of s c) v (is c) new)

keyed_made : (s : State) (t : ℕ) (run : Capture) → IsKeyed (schema_in s.flow (output_in s.flow t)).key (made_version s t run).rows
unfolding made_version
keyed_made s t run = keyed_rows (schema_in s.flow (output_in s.flow t)).key (result_rows (plan_in s.flow t).pattern s t (done_at s t).runs run)

keyed_finish : (s : State) (t : ℕ) (o : Option Capture) → AllKeyed s → AllKeyed (elim o as (λ _. State) [ None ↦ s | Some run ↦ add_run s t run ])
keyed_finish s t None is = is
keyed_finish s t (Some run) is = keyed_version s (output_in s.flow t) (made_version s t run) is (keyed_made s t run)

keyed_after : (s : State) (x : Step) → AllKeyed s → AllKeyed (steps.after s x)
keyed_after s (Load c es) is = keyed_if (is_input s.flow c) (add_version s c (loaded_version s c es)) s
    (keyed_version s c (loaded_version s c es) is (keyed_merged (schema_in s.flow c).key _ (load_delta (schema_in s.flow c) es) (is c (newest s c))
    (puts_set (schema_in s.flow c) fin.empty es (λ q r e. let never : None ≡ Some (Put r) = sym (fin.get-empty key_cmp q) ∙ e in cc)))) is
keyed_after s (Tick m) is = keyed_if (nat_le s.moment m) (record s { moment = m }) s is is
keyed_after s (Begin t) is = keyed_if (may_begin s t) _ s is is
keyed_after s (Drop t) is = is
keyed_after s (Finish t) is = keyed_finish s t (landing s t) is
keyed_after s (Run t) is = keyed_if (may_begin s t) (add_run s t (capture_of s t)) s (keyed_version s (output_in s.flow t) (made_version s t (capture_of s t)) is (keyed_made s t (capture_of s t))) is
keyed_after s (Worked k) is = is
keyed_after s (Compact c) is = keyed_if (newest s c == 0) s (set_kept s c (with_hop (kept_at s c) 0 (newest s c))) is (keyed_set s c _ is (is c))
keyed_after s (Chain c i j) is = keyed_if (may_chain s c i j) (set_kept s c (with_hop (kept_at s c) i j)) s (keyed_set s c _ is (is c)) is
keyed_after s Collect is = λ c. subst (λ (k : Kept). VersionsKeyed (schema_in s.flow c).key k.versions) (sym (kept_collected s c)) (is c)
keyed_after s (Show c) is = is
keyed_after s (Blocks c) is = is
keyed_after s (Refused line) is = is

keyed_all : (s : State) (xs : List Step) → AllKeyed s → AllKeyed (after_all s xs)
keyed_all s [] is = is
keyed_all s (x ∷ xs) is = keyed_all (steps.after s x) xs (keyed_after s x is)

-- of every reachable state, with no condition
pub all_keyed : RowsStandAtTheirKeys
all_keyed s at = subst AllKeyed (sym at.is) (keyed_all (start s.flow) at.steps (λ c n q r e. absurd (no_rows c n q r e)))
  where
    no_rows : (c n : ℕ) (q r : List Value) → fin.get (rows_in (of (start s.flow) c) n) q ≡ Some r → ⊥
    no_rows c n q r e = none_in n (ap (λ (k : Kept). k.versions) (same_everywhere s.flow.channels c nothing_kept)) e
      where
        none_in : {vs : List Version} (m : ℕ) → vs ≡ [] → fin.get (rows_in vs m) q ≡ Some r → ⊥
        none_in {vs = vs} m is f = nothing m (subst (λ ws. fin.get (rows_in ws m) q ≡ Some r) is f)
          where
            nothing : (m : ℕ) → fin.get (rows_in [] m) q ≡ Some r → ⊥
            nothing zero f = let never : None ≡ Some r = sym (fin.get-empty key_cmp q) ∙ f in cc
            nothing (suc m) f = let never : None ≡ Some r = sym (fin.get-empty key_cmp q) ∙ f in cc
