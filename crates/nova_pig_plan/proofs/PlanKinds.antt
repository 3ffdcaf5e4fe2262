-- An answered plan has kinds.
use Rattle.std.proofs.Common.{◌≡◌, ◌<◌, ℕ, zero, suc, Bool, true, false, ◌&&◌, if◌then◌else◌, nat_eq, nat_le, List, [], ◌∷◌, ◌++◌, map, length, Option, Some, None, Result, Ok, Err, slice_get, refl, ap, sym, ◌∙◌, subst, arith}
use Rattle.nova_value.specs.declared.value.Kind.{Kind}
use Rattle.nova_value.specs.declared.value.Kind.TheVariants as kind
use Rattle.nova_value.specs.declared.schema.Column.{Column}
use Rattle.nova_pig_tree.specs.declared.expression.Field.{Field}
use Rattle.nova_pig_tree.specs.declared.statement.Op.{Op}
use Rattle.nova_pig_tree.specs.declared.statement.Op.TheVariants as op
use Rattle.nova_pig_tree.specs.declared.statement.Body.{Body}
use Rattle.nova_pig_tree.specs.declared.statement.Body.TheVariants as body
use Rattle.nova_pig_tree.specs.declared.statement.Statement.{Statement}
use Rattle.nova_pig_algebra.specs.declared.node.Node.{Node}
use Rattle.nova_pig_plan.specs.declared.fault.Cause.{Cause}
use Rattle.nova_pig_plan.specs.declared.fault.Cause.TheVariants as fault
use Rattle.nova_pig_plan.specs.declared.scope.ScopeColumn.{ScopeColumn}
use Rattle.nova_pig_plan.specs.declared.scope.Scope.{Scope}
use Rattle.nova_pig_plan.specs.declared.scope.Scope.TheVariants.{Rows, Group}
use Rattle.nova_pig_plan.specs.declared.scope.Defined.{Defined}
use Rattle.nova_pig_plan.specs.declared.scope.Channels.{Channels}
use Rattle.nova_pig_plan.specs.declared.scope.Graph.{Graph}
use Rattle.nova_pig_plan.specs.Answers.{Answer, first, if_not}
use Rattle.nova_pig_plan.specs.Columns.{same_text, field_of}
use Rattle.nova_pig_plan.specs.Items.{same_kind, column_at}
use Rattle.nova_value.specs.Rows.{Shape}
use Rattle.nova_pig_algebra.specs.declared.node.Node.TheVariants as node
use Rattle.nova_pig_plan.specs.Plans.{all_known, all_alike, none_grouped, first_rows, row_columns, defined, fields_of, columns_at, same_kinds_at, from_alias, find, some_or, Aliases, fresh, known, ungrouped, load, group, join, union, op_of, define, store, test, same_kinds, channel_columns, statement_of, at_statement, graph, graph_after, graph_of}
use Rattle.nova_pig_plan.specs.Sorts.{Over, Row, over, kinds}
use Rattle.nova_pig_plan.specs.Kinded.{are_rows, all_rows, union_over, and_kind, kinds_at, as_bag, same_list, group_over, join_over, as_rows, node_over, overs, input_kinds, Kinded, nodes_over, and_then, output_over, IsKinded}
use Rattle.nova_pig_plan.proofs.Sorted.{field_within}
use Rattle.nova_pig_plan.proofs.NodeKinds.{on_known, on_rows, found_in, known_at, filter_kinded, foreach_kinded, distinct_kinded}

one_kind : (k j : Kind) → same_kind k j ≡ true → k ≡ j
one_kind kind.Long kind.Long e = refl
one_kind kind.Text kind.Text e = refl
one_kind kind.Long kind.Text e = absurd cc
one_kind kind.Text kind.Long e = absurd cc

both_true : (a b : Bool) → (a && b) ≡ true → (a ≡ true) × (b ≡ true)
both_true true b e = (refl, e)
both_true false b e = absurd cc

one_list : (cs ds : List ScopeColumn) → same_kinds cs ds ≡ true → kinds cs ≡ kinds ds
one_list [] [] e = refl
one_list [] (d ∷ ds) e = absurd cc
one_list (c ∷ cs) [] e = absurd cc
one_list (c ∷ cs) (d ∷ ds) e = let r = both_true (same_kind c.kind d.kind) (same_kinds cs ds) e in let a = one_kind c.kind d.kind r.0 in let b = one_list cs ds r.1 in λ i. a i ∷ b i

channel_kinds : (cs : List Column) → kinds (channel_columns cs) ≡ map (λ c. c.kind) cs
channel_kinds [] = refl
channel_kinds (c ∷ cs) = ap (λ ks. c.kind ∷ ks) (channel_kinds cs)

load_kinded : (ch : Channels) (done : Aliases) (channel : List ℕ) → Kinded ch done (load ch channel)
load_kinded ch done channel = step (find channel 0 ch.inputs) refl
  where
    step : (o : Option (ℕ × Shape)) → find channel 0 ch.inputs ≡ o → Kinded ch done (first (some_or fault.UnknownChannel o) (λ i. Ok (record { node = node.Load i.0; scope = Rows (channel_columns i.1.columns) })))
    step (Some x) e =
        let r = found_in (λ (s : Shape). map (λ c. c.kind) s.columns) channel 0 ch.inputs x.0 x.1 e in
        let at : r.0 ≡ x.0 = omega (arith, r.1.0) in
        ap as_rows (subst (λ i. slice_get (input_kinds ch) i ≡ Some (map (λ c. c.kind) x.1.columns)) at r.1.1) ∙ ap (λ ks. Some (Row ks)) (sym (channel_kinds x.1.columns))
    step None e = tt

abbrev AllIn : List ScopeColumn → List ℕ → Type 0
AllIn cs [] = Unit {0}
AllIn cs (k ∷ ks) = (k < length cs) × AllIn cs ks

column_got : (cs : List ScopeColumn) (k : ℕ) → k < length cs → slice_get (kinds cs) k ≡ Some (column_at cs k).kind
column_got [] k lt = absurd (omega arith)
column_got (c ∷ cs) zero lt = refl
column_got (c ∷ cs) (suc k) lt = column_got cs k (omega arith)

all_got : (cs : List ScopeColumn) (ks : List ℕ) → AllIn cs ks → kinds_at (kinds cs) ks ≡ Some (kinds (columns_at cs ks))
all_got cs [] h = refl
all_got cs (k ∷ ks) h = let a = column_got cs k h.0 in let b = all_got cs ks h.1 in λ i. and_kind (a i) (b i)

in_more : (cs : List ScopeColumn) (ks : List ℕ) (k : ℕ) → AllIn cs ks → k < length cs → AllIn cs (ks ++ k ∷ [])
in_more cs [] k h lt = (lt, tt)
in_more cs (j ∷ ks) k h lt = (h.0, in_more cs ks k h.1 lt)

fields_in : (cs : List ScopeColumn) (ks : List ℕ) (fs : List Field) (r : List ℕ) → AllIn cs ks → fields_of cs ks fs ≡ Ok r → AllIn cs r
fields_in cs ks [] r h e = let same : ks ≡ r = cc in subst (AllIn cs) same h
fields_in cs ks (f ∷ fs) r h e = step (field_of cs f) refl e (λ k lt g. fields_in cs (ks ++ k ∷ []) fs r (in_more cs ks k h lt) g)
  where
    step : (a : Answer ℕ) → field_of cs f ≡ a → first a (λ k. fields_of cs (ks ++ k ∷ []) fs) ≡ Ok r → ((k : ℕ) → k < length cs → fields_of cs (ks ++ k ∷ []) fs ≡ Ok r → AllIn cs r) → AllIn cs r
    step (Ok k) is g go = go k (field_within cs f k is) g
    step (Err c) is g go = absurd cc

fields_got : (cs : List ScopeColumn) (fs : List Field) (r : List ℕ) → fields_of cs [] fs ≡ Ok r → kinds_at (kinds cs) r ≡ Some (kinds (columns_at cs r))
fields_got cs fs r e = all_got cs r (fields_in cs [] fs r tt e)

same_self : (ks : List Kind) → same_list (Some ks) (Some ks) ≡ true
same_self [] = refl
same_self (kind.Long ∷ ks) = same_self ks
same_self (kind.Text ∷ ks) = same_self ks

from_kinds : (alias : List ℕ) (cs : List ScopeColumn) → kinds (from_alias alias cs) ≡ kinds cs
from_kinds alias [] = refl
from_kinds alias (c ∷ cs) = ap (λ ks. c.kind ∷ ks) (from_kinds alias cs)

both_kinds : (cs ds : List ScopeColumn) → kinds (cs ++ ds) ≡ kinds cs ++ kinds ds
both_kinds [] ds = refl
both_kinds (c ∷ cs) ds = ap (λ ks. c.kind ∷ ks) (both_kinds cs ds)

group_kinded : (ch : Channels) (done : Aliases) (from : List ℕ) (by : List Field) → Kinded ch done (group done from by)
group_kinded ch done from by = on_known ch done from _ (λ k s at. on_rows ch done s _ (λ cs is. step k cs (at ∙ ap (λ z. Some (over z)) is) (fields_of cs [] by) refl))
  where
    step : (k : ℕ) (cs : List ScopeColumn) → slice_get (overs done) k ≡ Some (Row (kinds cs)) → (a : Answer (List ℕ)) → fields_of cs [] by ≡ a
        → Kinded ch done (first a (λ ks. Ok (record { node = node.Group k ks; scope = Group from (columns_at cs ks) cs })))
    step k cs at (Ok ks) e = ap (group_over ks) at ∙ ap (as_bag (kinds cs)) (fields_got cs by ks e)
    step k cs at (Err c) e = tt

join_kinded : (ch : Channels) (done : Aliases) (l : List ℕ) (lb : List Field) (r : List ℕ) (rb : List Field) → Kinded ch done (join done l lb r rb)
join_kinded ch done l lb r rb =
    on_known ch done l _ (λ k s at. on_known ch done r _ (λ j t is. on_rows ch done s _ (λ cs a. on_rows ch done t _ (λ ds b.
    step k cs (at ∙ ap (λ z. Some (over z)) a) j ds (is ∙ ap (λ z. Some (over z)) b) (fields_of cs [] lb) refl (fields_of ds [] rb) refl))))
  where
    last : (k : ℕ) (cs : List ScopeColumn) → slice_get (overs done) k ≡ Some (Row (kinds cs)) → (j : ℕ) (ds : List ScopeColumn) → slice_get (overs done) j ≡ Some (Row (kinds ds))
        → (ks js : List ℕ) → fields_of cs [] lb ≡ Ok ks → fields_of ds [] rb ≡ Ok js → (b c d : Bool) → same_kinds_at cs ds ks js ≡ c
        → Kinded ch done (first (test fault.SchemaDiffers b) (λ _. first (test fault.WrongType c) (λ _. if_not fault.TooWide d (record { node = node.Join k ks j js; scope = Rows (from_alias l cs ++ from_alias r ds) }))))
    last k cs at j ds is ks js e f false c d g = tt
    last k cs at j ds is ks js e f true false d g = tt
    last k cs at j ds is ks js e f true true false g = tt
    last k cs at j ds is ks js e f true true true g =
        (λ i. join_over ks js (at i) (is i))
        ∙ (λ i. if same_list (fields_got cs lb ks e i) (fields_got ds rb js f i) then Some (Row (kinds cs ++ kinds ds)) else None)
        ∙ ap (λ z. if same_list (Some z) (Some (kinds (columns_at ds js))) then Some (Row (kinds cs ++ kinds ds)) else None) (one_list (columns_at cs ks) (columns_at ds js) g)
        ∙ ap (λ z. if z then Some (Row (kinds cs ++ kinds ds)) else None) (same_self (kinds (columns_at ds js)))
        ∙ ap (λ z. Some (Row z)) (sym (both_kinds (from_alias l cs) (from_alias r ds) ∙ (λ i. from_kinds l cs i ++ from_kinds r ds i)))

    step : (k : ℕ) (cs : List ScopeColumn) → slice_get (overs done) k ≡ Some (Row (kinds cs)) → (j : ℕ) (ds : List ScopeColumn) → slice_get (overs done) j ≡ Some (Row (kinds ds))
        → (a : Answer (List ℕ)) → fields_of cs [] lb ≡ a → (b : Answer (List ℕ)) → fields_of ds [] rb ≡ b
        → Kinded ch done (first a (λ ks. first b (λ js. first (test fault.SchemaDiffers (nat_eq (length ks) (length js))) (λ _. first (test fault.WrongType (same_kinds_at cs ds ks js)) (λ _.
        defined (node.Join k ks j js) (from_alias l cs ++ from_alias r ds))))))
    step k cs at j ds is (Ok ks) e (Ok js) f = last k cs at j ds is ks js e f (nat_eq (length ks) (length js)) (same_kinds_at cs ds ks js) (nat_le (length (from_alias l cs ++ from_alias r ds)) 64) refl
    step k cs at j ds is (Ok ks) e (Err c) f = tt
    step k cs at j ds is (Err c) e b f = tt

module _ (done : Aliases) where
  rows_more : (ks : List Kind) (acc : List ℕ) (k : ℕ) → all_rows (overs done) ks acc ≡ true → are_rows ks (slice_get (overs done) k) ≡ true → all_rows (overs done) ks (acc ++ k ∷ []) ≡ true
  rows_more ks [] k h g = ap (λ b. b && true) g
  rows_more ks (j ∷ acc) k h g = let r = both_true (are_rows ks (slice_get (overs done) j)) (all_rows (overs done) ks acc) h in let a = r.0 in let b = rows_more ks acc k r.1 g in λ i. a i && b i

  alike_arms : (cs : List ScopeColumn) (arms : List (List ℕ)) (acc ks : List ℕ) (u : Unit {0}) → all_rows (overs done) (kinds cs) acc ≡ true → all_known done acc arms ≡ Ok ks → all_alike done cs arms ≡ Ok u → all_rows (overs done) (kinds cs) ks ≡ true
  alike_arms cs [] acc ks u h e f = let same : acc ≡ ks = cc in subst (λ z. all_rows (overs done) (kinds cs) z ≡ true) same h
  alike_arms cs (a ∷ rest) acc ks u h e f = step (known done a) refl e f (λ k g e f. alike_arms cs rest (acc ++ k ∷ []) ks u g e f)
    where
      tested : (k : ℕ) (ds : List ScopeColumn) → slice_get (overs done) k ≡ Some (Row (kinds ds)) → all_known done (acc ++ k ∷ []) rest ≡ Ok ks → (b : Bool) → same_kinds cs ds ≡ b
          → first (test fault.SchemaDiffers b) (λ _. all_alike done cs rest) ≡ Ok u
          → ((k : ℕ) → all_rows (overs done) (kinds cs) (acc ++ k ∷ []) ≡ true → all_known done (acc ++ k ∷ []) rest ≡ Ok ks → all_alike done cs rest ≡ Ok u → all_rows (overs done) (kinds cs) ks ≡ true)
          → all_rows (overs done) (kinds cs) ks ≡ true
      tested k ds at e true is f go = go k (rows_more (kinds cs) acc k h (ap (are_rows (kinds cs)) at ∙ ap (λ z. same_list (Some (kinds cs)) (Some z)) (sym (one_list cs ds is)) ∙ same_self (kinds cs))) e f
      tested k ds at e false is f go = absurd cc

      scope : (k : ℕ) (s : Scope) → slice_get (overs done) k ≡ Some (over s) → all_known done (acc ++ k ∷ []) rest ≡ Ok ks
          → first (ungrouped s) (λ ds. first (test fault.SchemaDiffers (same_kinds cs ds)) (λ _. all_alike done cs rest)) ≡ Ok u
          → ((k : ℕ) → all_rows (overs done) (kinds cs) (acc ++ k ∷ []) ≡ true → all_known done (acc ++ k ∷ []) rest ≡ Ok ks → all_alike done cs rest ≡ Ok u → all_rows (overs done) (kinds cs) ks ≡ true)
          → all_rows (overs done) (kinds cs) ks ≡ true
      scope k (Rows ds) at e f go = tested k ds at e (same_kinds cs ds) refl f go
      scope k (Group bag by ds) at e f go = absurd cc

      step : (y : Answer (ℕ × Scope)) → known done a ≡ y → first y (λ k. all_known done (acc ++ k.0 ∷ []) rest) ≡ Ok ks
          → first (first y (λ k. ungrouped k.1)) (λ ds. first (test fault.SchemaDiffers (same_kinds cs ds)) (λ _. all_alike done cs rest)) ≡ Ok u
          → ((k : ℕ) → all_rows (overs done) (kinds cs) (acc ++ k ∷ []) ≡ true → all_known done (acc ++ k ∷ []) rest ≡ Ok ks → all_alike done cs rest ≡ Ok u → all_rows (overs done) (kinds cs) ks ≡ true)
          → all_rows (overs done) (kinds cs) ks ≡ true
      step (Ok x) is e f go = scope x.0 x.1 (known_at a done x.0 x.1 is) e f go
      step (Err c) is e f go = absurd cc

  -- places that are known begin with what was there
  begins : (k : ℕ) (acc : List ℕ) (arms : List (List ℕ)) (ks : List ℕ) → all_known done (k ∷ acc) arms ≡ Ok ks → (more : List ℕ) × (ks ≡ k ∷ more)
  begins k acc [] ks e = let same : ks ≡ k ∷ acc = cc in (acc, same)
  begins k acc (a ∷ rest) ks e = step (known done a) e (λ j g. begins k (acc ++ j ∷ []) rest ks g)
    where
      step : (y : Answer (ℕ × Scope)) → first y (λ j. all_known done (k ∷ acc ++ j.0 ∷ []) rest) ≡ Ok ks → ((j : ℕ) → all_known done (k ∷ acc ++ j ∷ []) rest ≡ Ok ks → (more : List ℕ) × (ks ≡ k ∷ more)) → (more : List ℕ) × (ks ≡ k ∷ more)
      step (Ok x) g go = go x.0 g
      step (Err c) g go = absurd cc

  -- the first arm's place has the first arm's columns
  heads : (a : List ℕ) (rest : List (List ℕ)) (ks : List ℕ) (cs : List ScopeColumn) → all_known done [] (a ∷ rest) ≡ Ok ks → row_columns done a ≡ Ok cs → (k : ℕ) × ((more : List ℕ) × ((ks ≡ k ∷ more) × (slice_get (overs done) k ≡ Some (Row (kinds cs)))))
  heads a rest ks cs e f = step (known done a) refl e f
    where
      scope : (s : Scope) → ungrouped s ≡ Ok cs → over s ≡ Row (kinds cs)
      scope (Rows ds) g = let same : ds ≡ cs = cc in ap (λ z. Row (kinds z)) same
      scope (Group bag by ds) g = absurd cc

      step : (y : Answer (ℕ × Scope)) → known done a ≡ y → first y (λ k. all_known done (k.0 ∷ []) rest) ≡ Ok ks → first y (λ k. ungrouped k.1) ≡ Ok cs → (k : ℕ) × ((more : List ℕ) × ((ks ≡ k ∷ more) × (slice_get (overs done) k ≡ Some (Row (kinds cs)))))
      step (Ok x) is g h = let b = begins x.0 [] rest ks g in (x.0, (b.0, (b.1, known_at a done x.0 x.1 is ∙ ap Some (scope x.1 h))))
      step (Err c) is g h = absurd cc

union_kinded : (ch : Channels) (done : Aliases) (arms : List (List ℕ)) → Kinded ch done (union done arms)
union_kinded ch done arms = known_step (all_known done [] arms) refl
  where
    node_kinds : (bs : List (List ℕ)) (ks : List ℕ) (cs : List ScopeColumn) (u : Unit {0}) → all_known done [] bs ≡ Ok ks → first_rows done bs ≡ Ok cs → all_alike done cs bs ≡ Ok u → node_over (input_kinds ch) (overs done) (node.Union ks) ≡ Some (Row (kinds cs))
    node_kinds [] ks cs u e f g =
        let a : [] ≡ ks = cc in
        let b : [] ≡ cs = cc in
        λ i. (ap (λ z. node_over (input_kinds ch) (overs done) (node.Union z)) (sym a) ∙ ap (λ z. Some (Row (kinds z))) b) i
    node_kinds (b ∷ bs) ks cs u e f g =
        let h = heads done b bs ks cs e f in
        let all = alike_arms done cs (b ∷ bs) [] ks u refl e g in
        ap (λ z. node_over (input_kinds ch) (overs done) (node.Union z)) h.1.1.0
        ∙ ap (union_over (overs done) (h.0 ∷ h.1.0)) h.1.1.1
        ∙ ap (λ z. if z then Some (Row (kinds cs)) else None) (ap (all_rows (overs done) (kinds cs)) (sym h.1.1.0) ∙ all)

    alike_step : (ks : List ℕ) → all_known done [] arms ≡ Ok ks → (cs : List ScopeColumn) → first_rows done arms ≡ Ok cs → (a : Answer (Unit {0})) → all_alike done cs arms ≡ a → Kinded ch done (first a (λ _. Ok (record { node = node.Union ks; scope = Rows cs })))
    alike_step ks e cs f (Ok u) g = node_kinds arms ks cs u e f g
    alike_step ks e cs f (Err c) g = tt

    rows_step : (ks : List ℕ) → all_known done [] arms ≡ Ok ks → (a : Answer (List ScopeColumn)) → first_rows done arms ≡ a → Kinded ch done (first a (λ cs. first (all_alike done cs arms) (λ _. Ok (record { node = node.Union ks; scope = Rows cs }))))
    rows_step ks e (Ok cs) f = alike_step ks e cs f (all_alike done cs arms) refl
    rows_step ks e (Err c) f = tt

    group_step : (ks : List ℕ) → all_known done [] arms ≡ Ok ks → (a : Answer (Unit {0})) → Kinded ch done (first a (λ _. first (first_rows done arms) (λ cs. first (all_alike done cs arms) (λ _. Ok (record { node = node.Union ks; scope = Rows cs })))))
    group_step ks e (Ok x) = rows_step ks e (first_rows done arms) refl
    group_step ks e (Err c) = tt

    known_step : (a : Answer (List ℕ)) → all_known done [] arms ≡ a → Kinded ch done (first a (λ ks. first (none_grouped done arms) (λ _. first (first_rows done arms) (λ cs. first (all_alike done cs arms) (λ _. Ok (record { node = node.Union ks; scope = Rows cs }))))))
    known_step (Ok ks) e = group_step ks e (none_grouped done arms)
    known_step (Err c) e = tt

op_kinded : (ch : Channels) (done : Aliases) (o : Op) → Kinded ch done (op_of ch done o)
op_kinded ch done (op.Load channel) = load_kinded ch done channel
op_kinded ch done (op.Filter from x) = filter_kinded ch done from x
op_kinded ch done (op.Foreach from items) = foreach_kinded ch done from items
op_kinded ch done (op.Group from by) = group_kinded ch done from by
op_kinded ch done (op.Join l lb r rb) = join_kinded ch done l lb r rb
op_kinded ch done (op.Union arms) = union_kinded ch done arms
op_kinded ch done (op.Distinct from) = distinct_kinded ch done from

define_kinded : (ch : Channels) (done : Aliases) (alias : List ℕ) (o : Op) → Kinded ch done (define ch done alias o)
define_kinded ch done alias o = step (fresh done alias)
  where
    step : (a : Answer (Unit {0})) → Kinded ch done (first a (λ _. op_of ch done o))
    step (Ok x) = op_kinded ch done o
    step (Err c) = tt

-- nodes one after another
nodes_more : (inputs : List (List Kind)) (done all : List Over) (ns : List Node) (n : Node) (o : Over) → nodes_over inputs done ns ≡ Some all → node_over inputs all n ≡ Some o → nodes_over inputs done (ns ++ n ∷ []) ≡ Some (all ++ o ∷ [])
nodes_more inputs done all [] n o h g = let same : done ≡ all = cc in rw same (ap (λ z. and_then z (λ x. Some (all ++ x ∷ []))) g)
nodes_more inputs done all (m ∷ ns) n o h g = step (node_over inputs done m) h (λ x k. nodes_more inputs (done ++ x ∷ []) all ns n o k g)
  where
    step : (z : Option Over) → and_then z (λ x. nodes_over inputs (done ++ x ∷ []) ns) ≡ Some all
        → ((x : Over) → nodes_over inputs (done ++ x ∷ []) ns ≡ Some all → nodes_over inputs (done ++ x ∷ []) (ns ++ n ∷ []) ≡ Some (all ++ o ∷ []))
        → and_then z (λ x. nodes_over inputs (done ++ x ∷ []) (ns ++ n ∷ [])) ≡ Some (all ++ o ∷ [])
    step (Some x) k go = go x k
    step None k go = absurd cc

overs_more : (done : Aliases) (alias : List ℕ) (s : Scope) → overs (done ++ (alias, s) ∷ []) ≡ overs done ++ over s ∷ []
overs_more [] alias s = refl
overs_more (d ∷ done) alias s = ap (λ z. over d.1 ∷ z) (overs_more done alias s)

-- the stored alias has the kinds of the output
store_kinded : (ch : Channels) (done : Aliases) (alias channel : List ℕ) (k : ℕ) → store ch done alias channel ≡ Ok k → slice_get (overs done) k ≡ Some (output_over ch)
store_kinded ch done alias channel k e = step (known done alias) refl e
  where
    last : (i : ℕ) (s : Scope) → slice_get (overs done) i ≡ Some (over s) → first (test fault.UnknownChannel (same_text channel ch.output.0)) (λ _. first (ungrouped s) (λ cs. if_not fault.SchemaDiffers (same_kinds cs (channel_columns ch.output.1.columns)) i)) ≡ Ok k
        → slice_get (overs done) k ≡ Some (output_over ch)
    last i s at h = named (same_text channel ch.output.0) h
      where
        alike : (cs : List ScopeColumn) → s ≡ Rows cs → (b : Bool) → same_kinds cs (channel_columns ch.output.1.columns) ≡ b → if_not fault.SchemaDiffers b i ≡ Ok k → slice_get (overs done) k ≡ Some (output_over ch)
        alike cs is true same g =
            let place : i ≡ k = cc in
            subst (λ j. slice_get (overs done) j ≡ Some (output_over ch)) place (at ∙ ap (λ z. Some (over z)) is ∙ ap (λ ks. Some (Row ks)) (one_list cs (channel_columns ch.output.1.columns) same ∙ channel_kinds ch.output.1.columns))
        alike cs is false same g = absurd cc

        rows : (z : Scope) → s ≡ z → first (ungrouped z) (λ cs. if_not fault.SchemaDiffers (same_kinds cs (channel_columns ch.output.1.columns)) i) ≡ Ok k → slice_get (overs done) k ≡ Some (output_over ch)
        rows (Rows cs) is g = alike cs is (same_kinds cs (channel_columns ch.output.1.columns)) refl g
        rows (Group bag by cs) is g = absurd cc

        named : (b : Bool) → first (test fault.UnknownChannel b) (λ _. first (ungrouped s) (λ cs. if_not fault.SchemaDiffers (same_kinds cs (channel_columns ch.output.1.columns)) i)) ≡ Ok k → slice_get (overs done) k ≡ Some (output_over ch)
        named true g = rows s refl g
        named false g = absurd cc

    step : (a : Answer (ℕ × Scope)) → known done alias ≡ a
        → first a (λ x. first (test fault.UnknownChannel (same_text channel ch.output.0)) (λ _. first (ungrouped x.1) (λ cs. if_not fault.SchemaDiffers (same_kinds cs (channel_columns ch.output.1.columns)) x.0))) ≡ Ok k
        → slice_get (overs done) k ≡ Some (output_over ch)
    step (Ok x) is g = last x.0 x.1 (known_at alias done x.0 x.1 is) g
    step (Err c) is g = absurd cc

abbrev PlanKinded : Channels → Result Graph (Cause × ℕ) → Type 0
PlanKinded ch (Ok p) = IsKinded ch p
PlanKinded ch (Err c) = Unit {0}

after_kinded : (ch : Channels) (n : ℕ) (done : Aliases) (nodes : List Node) (ss : List Statement) → nodes_over (input_kinds ch) [] nodes ≡ Some (overs done) → PlanKinded ch (graph_after ch n done nodes ss)
after_kinded ch n done nodes [] h = tt
after_kinded ch n done nodes (s ∷ ss) h = step s.body (λ more all g. after_kinded ch (suc n) more all ss g)
  where
    defines : (alias : List ℕ) (a : Answer Defined) → Kinded ch done a → ((more : Aliases) (all : List Node) → nodes_over (input_kinds ch) [] all ≡ Some (overs more) → PlanKinded ch (graph_after ch (suc n) more all ss))
        → PlanKinded ch (at_statement n a (λ d. graph_after ch (suc n) (done ++ (alias, d.scope) ∷ []) (nodes ++ d.node ∷ []) ss))
    defines alias (Ok d) k next = next _ _ (nodes_more (input_kinds ch) [] (overs done) nodes d.node (over d.scope) h k ∙ ap Some (sym (overs_more done alias d.scope)))
    defines alias (Err c) k next = tt

    stores : (a : Answer ℕ) → ((k : ℕ) → a ≡ Ok k → slice_get (overs done) k ≡ Some (output_over ch)) → PlanKinded ch (at_statement n a (λ k. Ok (graph nodes k)))
    stores (Ok k) g = record { all = overs done; nodes = h; stored = g k refl }
    stores (Err c) g = tt

    step : (b : Body) → ((more : Aliases) (all : List Node) → nodes_over (input_kinds ch) [] all ≡ Some (overs more) → PlanKinded ch (graph_after ch (suc n) more all ss)) → PlanKinded ch (statement_of ch n done nodes b (λ more all. graph_after ch (suc n) more all ss))
    step (body.Define alias o) next = defines alias (define ch done alias o) (define_kinded ch done alias o) next
    step (body.Store alias channel) next = stores (store ch done alias channel) (store_kinded ch done alias channel)

-- an answered plan has kinds
pub plan_kinded : (ss : List Statement) (ch : Channels) (p : Graph) → graph_of ss ch ≡ Ok p → IsKinded ch p
plan_kinded ss ch p e = subst (PlanKinded ch) e (after_kinded ch 1 [] [] ss refl)
