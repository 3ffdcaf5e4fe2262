-- The keys of a load's entries.
use Rattle.std.proofs.Common.{◌≡◌, Bool, true, false, ◌||◌, cond, List, [], ◌∷◌, Option, Some, is_some, refl, ap, sym, ◌∙◌}
use Rattle.std.specs.FinMap as fin
use Rattle.std.specs.Ordering.{eq_by_cmp}
use Rattle.nova_value.specs.declared.value.Value.{Value}
use Rattle.nova_value.specs.declared.schema.Entry.{Entry}
use Rattle.nova_value.specs.Order.{key_cmp}
use Rattle.nova_value.specs.Orders.{keys_total}
use Rattle.nova_value.specs.Rows.{Shape}
use Rattle.nova_value.specs.Entries.{entry_key}
use Rattle.nova_delta.specs.Merge.{EntryMap}
use Rattle.nova_machine.specs.Workflow.{schema_in}
use Rattle.nova_machine.specs.Steps.{load_delta, set_entries}
use Rattle.nova_session_laws.specs.Statements.{LoadsWriteTheirKeys, names_key}

or_false : (a : Bool) → (a || false) ≡ a
or_false true = refl
or_false false = refl

or_moved : (a b c : Bool) → ((a || b) || c) ≡ (b || (a || c))
or_moved true true c = refl
or_moved true false c = refl
or_moved false true c = refl
or_moved false false c = refl

some_if : (b : Bool) (e : Entry) (o : Option Entry) → is_some (cond b (Some e) o) ≡ (b || is_some o)
some_if true e o = refl
some_if false e o = refl

module _ (schema : Shape) (q : List Value) where
  abbrev at : Entry → Bool
  at e = eq_by_cmp key_cmp q (entry_key schema e)

  set_keys : (d : EntryMap) (entries : List Entry) → is_some (fin.get (set_entries schema d entries) q) ≡ (is_some (fin.get d q) || names_key schema entries q)
  set_keys d [] = sym (or_false (is_some (fin.get d q)))
  set_keys d (e ∷ es) =
      set_keys (fin.insert d (entry_key schema e) e) es
      ∙ ap (λ (b : Bool). b || names_key schema es q) (ap is_some (fin.get-insert keys_total d (entry_key schema e) e q) ∙ some_if (at e) e (fin.get d q))
      ∙ or_moved (at e) (is_some (fin.get d q)) (names_key schema es q)

  abbrev nothing : EntryMap
  nothing = fin.empty

  no_key : is_some (fin.get nothing q) ≡ false
  no_key = ap is_some (fin.get-empty key_cmp q)

pub loads_write_their_keys : LoadsWriteTheirKeys
loads_write_their_keys s c entries q =
    let schema = schema_in s.flow c in
    sym (fin.contains_key-keys (load_delta schema entries) q) ∙ set_keys schema q fin.empty entries ∙ ap (λ (b : Bool). b || names_key schema entries q) (no_key schema q)
