-- A state in parts. Each key of a contribution and each group is of one part. Today all are of the first.
use Rattle.std.specs.Prelude.{ℕ, ◌==◌, Bool, true, false, cond, List, Option, Some, None}
use Rattle.std.specs.FinMap.{retain_keys}
use Rattle.nova_value.specs.declared.value.Value.{Value}
use Rattle.nova_groups.specs.declared.group.Share.{Share}
use Rattle.nova_pig_tree.specs.declared.expression.CallKind.{CallKind}
use Rattle.nova_groups.specs.State.{GroupMap, StateValue, change_group, put_share}

-- how many parts a state has
abbrev pub part_count : ℕ
part_count = 16

-- the part of a key, or of BY values
abbrev pub part : List Value → ℕ
part values = 0

module _ (part : List Value → ℕ) where
  -- the part with this number
  abbrev pub part_of : ℕ → StateValue → StateValue
  part_of s st = record { shares = retain_keys st.shares (λ k. part k == s); groups = retain_keys st.groups (λ by. part by == s) }

  -- one member more or fewer, if the group is of this part
  abbrev pub change_in : ℕ → Bool → List CallKind → GroupMap → Option Share → GroupMap
  change_in s grows ks gs None = gs
  change_in s grows ks gs (Some x) = cond (part x.by == s) (change_group grows ks gs (Some x)) gs

  -- what one key's old and new share do to one part
  abbrev pub moved_part : ℕ → List CallKind → StateValue → List Value → Option Share → Option Share → StateValue
  moved_part s ks st k old new = record {
    shares = cond (part k == s) (put_share st.shares k new) st.shares;
    groups = change_in s true ks (change_in s false ks st.groups old) new;
  }

-- the part with this number, where the state holds it: each state holds all of them
abbrev pub slot : ℕ → StateValue → Option StateValue
slot s st = Some (part_of part s st)
