-- A run of a stateless or of a lookup task writes the keys of its delta.
use Rattle.std.specs.Prelude.{◌≡◌, ◌⊎◌, ℕ, Bool, true, false, cond, ◌||◌, List, [], ◌∷◌, flat_map, Option, Some, None, is_some, refl}
use Rattle.std.proofs.Common.{ap, sym, ◌∙◌, inl, inr, subst}
use Rattle.std.specs.Ordering.{eq_by_cmp}
use Rattle.std.specs.FinMap.{get}
use Rattle.nova_value.specs.declared.schema.Entry.{Entry}
use Rattle.nova_value.specs.Order.{key_cmp}
use Rattle.nova_value.specs.Orders.{same_keys}
use Rattle.nova_value.specs.Rows.{Shape, IsShape}
use Rattle.nova_delta.specs.Merge.{EntryMap, DeltaValue, IsDelta}
use Rattle.nova_pig_algebra.specs.Meaning.{Row}
use Rattle.nova_pig_algebra.specs.Keys.{shape_at}
use Rattle.nova_pig_algebra.specs.Plan.{Plan}
use Rattle.nova_pig_algebra.specs.Statements.{In}
use Rattle.nova_pig_algebra.proofs.Lists.{in_flattened}
use Rattle.nova_pig_pattern.specs.declared.task.PatternKind.{PatternKind}
use Rattle.nova_pig_pattern.specs.declared.task.PatternKind.TheVariants.{Stateless, Lookup}
use Rattle.nova_pig_pattern.specs.OutputKeys.{output_keys}
use Rattle.nova_machine.specs.Workflow.{task_in, plan_in, schema_in, main_place}
use Rattle.nova_machine.specs.Versions.{Version, has, rows_in, written, entry_of, block}
use Rattle.nova_machine.specs.State.{State, Capture, kept_at, done_at}
use Rattle.nova_machine.specs.Due.{seen_at, cursor}
use Rattle.nova_machine.specs.Results.{captured_rows, result_of}
use Rattle.nova_machine.specs.Writing.{written_keys, made_version}
use Rattle.nova_machine.proofs.Blocks.{get-block}
use Rattle.nova_rowwise.specs.Derived.{plan_keys, derived}
use Rattle.nova_rowwise.specs.Runs.{without, IsRowTask, main_channel, run_delta, DeltasAreWritten}
use Rattle.nova_rowwise.specs.Sources.{Key}
use Rattle.nova_rowwise.specs.Statements.{IsAnswer, main_shape, of_entries}
use Rattle.nova_rowwise.proofs.EachKey.{at_each_key}
use Rattle.nova_rowwise.proofs.LookupRuns.{shape_there}
use Rattle.nova_rowwise.proofs.Members.{in_flat}

any_in : (q : Key) (ks : List Key) → has ks q ≡ true → In q ks
any_in q [] e = absurd cc
any_in q (k ∷ ks) e = go (eq_by_cmp key_cmp q k) refl e (λ f. any_in q ks f)
  where
    go : (b : Bool) → eq_by_cmp key_cmp q k ≡ b → (b || has ks q) ≡ true → (has ks q ≡ true → In q ks) → In q (k ∷ ks)
    go true same f rest = inl ((same_keys q k).0 same)
    go false other f rest = inr (rest f)

in_any : (q : Key) (ks : List Key) → In q ks → has ks q ≡ true
in_any q [] i = absurd i
in_any q (k ∷ ks) (inl e) = ap (λ b. b || has ks q) ((same_keys q k).1 e)
in_any q (k ∷ ks) (inr i) = go (eq_by_cmp key_cmp q k) (in_any q ks i)
  where
    go : (b : Bool) → has ks q ≡ true → (b || has ks q) ≡ true
    go true f = refl
    go false f = f

module _ (s : State) (t : ℕ) (is : IsRowTask s.flow t) (run : Capture) where
  abbrev p : Plan
  p = (plan_in s.flow t).plan

  abbrev k : ℕ
  k = main_place (task_in s.flow t).inputs

  abbrev vs : List Version
  vs = (kept_at s (main_channel s t)).versions

  abbrev i : ℕ
  i = cursor s t k

  abbrev j : ℕ
  j = seen_at run k

  abbrev pub d : EntryMap
  d = block vs i j

  abbrev pub lookups : List (List Row)
  lookups = without k (captured_rows s t run)

  abbrev made : List Key
  made = flat_map (output_keys p k) (written vs i j)

  pub schema_is : schema_in s.flow (main_channel s t) ≡ main_shape p
  schema_is = sym (ap (shape_at p.inputs) is.main ∙ ap (λ ins. shape_at ins k) is.inputs ∙ shape_there s (task_in s.flow t).inputs k is.place)

  pub shape : IsShape (main_shape p)
  shape = subst IsShape schema_is is.shape

  keys_are : (key : Key) → plan_keys p key ≡ output_keys p k key
  keys_are key = ap (λ n. output_keys p n key) is.main

  abbrev pub made_delta : DeltaValue
  made_delta = derived p lookups (of_entries (main_shape p) d)

  pub delta_is : run_delta s t (done_at s t).runs run ≡ made_delta
  delta_is = ap (λ (z : Shape). derived p lookups (record { schema = z; entries = d })) schema_is

  -- a key of the block was written, and a written key is one of the block
  in_block : (key : Key) → In key (written vs i j) → get d key ≡ Some (entry_of key (get (rows_in vs j) key))
  in_block key at = get-block vs i j key ∙ ap (λ b. cond b (Some (entry_of key (get (rows_in vs j) key))) None) (in_any key (written vs i j) at)

  was_written : (key : Key) (e : Entry) → get d key ≡ Some e → In key (written vs i j)
  was_written key e got = any_in key (written vs i j) (present (has (written vs i j) key) (sym (get-block vs i j key) ∙ got))
    where
      present : (b : Bool) → cond b (Some (entry_of key (get (rows_in vs j) key))) None ≡ Some e → b ≡ true
      present true f = refl
      present false f = absurd cc

  module _ (is_d : IsDelta (of_entries (main_shape p) d)) (q : Key) where
    there : In q made → (e : Entry) × (get made_delta.entries q ≡ Some e)
    there at =
        let r = in_flattened (output_keys p k) q (written vs i j) at in
        let entry = entry_of r.0 (get (rows_in vs j) r.0) in
        let a : IsAnswer p lookups d q _ = record { key = r.0; entry = entry; given = in_block r.0 r.1; output = subst (In q) (sym (keys_are r.0)) r.2; is = refl } in
        (_, (at_each_key p is.row shape lookups d is_d q _).1 a)

    back : (e : Entry) → get made_delta.entries q ≡ Some e → In q made
    back e got =
        let a = (at_each_key p is.row shape lookups d is_d q e).0 got in
        in_flat (output_keys p k) a.key q (written vs i j) (was_written a.key a.entry a.given) (subst (In q) (keys_are a.key) a.output)

    same : has made q ≡ is_some (get made_delta.entries q)
    same = go (has made q) (get made_delta.entries q) refl refl
      where
        go : (b : Bool) (o : Option Entry) → has made q ≡ b → get made_delta.entries q ≡ o → has made q ≡ is_some (get made_delta.entries q)
        go true (Some e) f g = f ∙ sym (ap is_some g)
        go false None f g = f ∙ sym (ap is_some g)
        go true None f g = let r = there (any_in q made f) in let no : None ≡ Some r.0 = sym g ∙ r.1 in absurd cc
        go false (Some e) f g = let no : false ≡ true = sym f ∙ in_any q made (back e g) in absurd cc

  -- by the pattern
  wrote_is : ((plan_in s.flow t).pattern ≡ Stateless) ⊎ ((plan_in s.flow t).pattern ≡ Lookup) → (made_version s t run).wrote ≡ made
  unfolding made_version
  wrote_is (inl e) = ap (λ (kind : PatternKind). written_keys kind p k vs i j (result_of s t (done_at s t).runs run).rows) e
  wrote_is (inr e) = ap (λ (kind : PatternKind). written_keys kind p k vs i j (result_of s t (done_at s t).runs run).rows) e

pub deltas_are_written : DeltasAreWritten
deltas_are_written s t pattern is run is_d q =
    ap (λ ks. has ks q) (wrote_is s t is run pattern)
    ∙ same s t is run (subst (λ (z : Shape). IsDelta (record { schema = z; entries = d s t is run })) (schema_is s t is run) is_d) q
    ∙ sym (ap (λ (x : DeltaValue). is_some (get x.entries q)) (delta_is s t is run))
