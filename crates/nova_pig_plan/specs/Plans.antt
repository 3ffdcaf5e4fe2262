-- Plans of scripts: each rule of a statement in its order.
use Rattle.std.specs.Prelude.{◌≡◌, ℕ, suc, Bool, true, false, ◌&&◌, if◌then◌else◌, nat_eq, nat_le, List, [], ◌∷◌, ◌++◌, map, length, Option, Some, None, Result, Ok, Err}
use Rattle.nova_value.specs.declared.schema.Column.{Column}
use Rattle.nova_pig_tree.specs.declared.expression.Field.{Field}
use Rattle.nova_pig_tree.specs.declared.expression.Expr.{Expr}
use Rattle.nova_pig_tree.specs.declared.statement.Item.{Item}
use Rattle.nova_pig_tree.specs.declared.statement.Op.{Op}
use Rattle.nova_pig_tree.specs.declared.statement.Op.TheVariants as op
use Rattle.nova_pig_tree.specs.declared.statement.Body.{Body}
use Rattle.nova_pig_tree.specs.declared.statement.Body.TheVariants as body
use Rattle.nova_pig_tree.specs.declared.statement.Statement.{Statement}
use Rattle.nova_pig_algebra.specs.declared.node.Node.{Node}
use Rattle.nova_pig_algebra.specs.declared.node.Node.TheVariants as node
use Rattle.nova_pig_plan.specs.declared.fault.Cause.{Cause}
use Rattle.nova_pig_plan.specs.declared.fault.Cause.TheVariants as fault
use Rattle.nova_pig_plan.specs.declared.fault.Stop.{Stop}
use Rattle.nova_pig_plan.specs.declared.fault.Stop.TheVariants.{Fault, NoMemory}
use Rattle.nova_pig_plan.specs.declared.fault.FaultAt.{FaultAt}
use Rattle.nova_pig_plan.specs.declared.fault.FaultAt.TheVariants as stop
use Rattle.nova_pig_plan.specs.declared.scope.ScopeColumn.{ScopeColumn}
use Rattle.nova_pig_plan.specs.declared.scope.Scope.{Scope}
use Rattle.nova_pig_plan.specs.declared.scope.Scope.TheVariants.{Rows, Group}
use Rattle.nova_pig_plan.specs.declared.scope.Defined.{Defined}
use Rattle.nova_pig_plan.specs.declared.scope.Channels.{Channels}
use Rattle.nova_pig_plan.specs.declared.scope.Graph.{Graph}
use Rattle.nova_pig_plan.specs.Answers.{Answer, first, if_not}
use Rattle.nova_pig_plan.specs.Columns.{same_text, field_of}
use Rattle.nova_pig_plan.specs.Exprs.{is_condition, expr_of}
use Rattle.nova_pig_plan.specs.Items.{column_with, same_kind, column_at, items_of, nothing}

-- the first of this name, with its place, counted from n
abbrev pub find : {A : Type 0} → List ℕ → ℕ → List (List ℕ × A) → Option (ℕ × A)
find name n [] = None
find name n (e ∷ es) = if same_text name e.0 then Some (n, e.1) else find name (suc n) es

-- the aliases that are defined, in the order of their statements; the place of an alias is the number of its node
abbrev pub Aliases : Type 0
Aliases = List (List ℕ × Scope)

abbrev pub test : Cause → Bool → Answer (Unit {0})
test cause holds = if_not {A = Unit {0}} cause holds tt

abbrev pub some_or : {A : Type 0} → Cause → Option A → Answer A
some_or cause (Some x) = Ok x
some_or cause None = Err cause

-- AliasTwice: the statement defines an alias that an earlier one defines
abbrev pub none_or : {A : Type 0} → Cause → Option A → Answer (Unit {0})
none_or cause (Some x) = Err cause
none_or cause None = Ok tt

abbrev pub fresh : Aliases → List ℕ → Answer (Unit {0})
fresh done alias = none_or fault.AliasTwice (find alias 0 done)

-- UnknownAlias: an operand or the stored alias isn't defined before
abbrev pub known : Aliases → List ℕ → Answer (ℕ × Scope)
known done name = some_or fault.UnknownAlias (find name 0 done)

-- BagMisused: a grouped alias is an operand of anything but FOREACH
abbrev pub ungrouped : Scope → Answer (List ScopeColumn)
ungrouped (Rows cs) = Ok cs
ungrouped (Group bag by cs) = Err fault.BagMisused

-- TooWide: the alias would have more than 64 columns
abbrev pub defined : Node → List ScopeColumn → Answer Defined
defined n cs = if_not fault.TooWide (nat_le (length cs) 64) (record { node = n; scope = Rows cs })

-- the fields of a BY list, from left to right
abbrev pub fields_of : List ScopeColumn → List ℕ → List Field → Answer (List ℕ)
fields_of cs ks [] = Ok ks
fields_of cs ks (f ∷ fs) = first (field_of cs f) (λ k. fields_of cs (ks ++ k ∷ []) fs)

abbrev pub columns_at : List ScopeColumn → List ℕ → List ScopeColumn
columns_at cs ks = map (column_at cs) ks

abbrev pub same_kinds : List ScopeColumn → List ScopeColumn → Bool
same_kinds [] [] = true
same_kinds [] (d ∷ ds) = false
same_kinds (c ∷ cs) [] = false
same_kinds (c ∷ cs) (d ∷ ds) = same_kind c.kind d.kind && same_kinds cs ds

abbrev pub same_kinds_at : List ScopeColumn → List ScopeColumn → List ℕ → List ℕ → Bool
same_kinds_at a b ks js = same_kinds (columns_at a ks) (columns_at b js)

-- columns of a channel have its names and no origin
abbrev pub channel_columns : List Column → List ScopeColumn
channel_columns cs = map (λ c. column_with c.kind (Some c.name) None) cs

-- columns of a JOIN have their alias as origin
abbrev pub from_alias : List ℕ → List ScopeColumn → List ScopeColumn
from_alias alias cs = map (λ c. column_with c.kind c.name (Some alias)) cs

abbrev pub load : Channels → List ℕ → Answer Defined
load ch channel = first (some_or fault.UnknownChannel (find channel 0 ch.inputs)) (λ i. Ok (record { node = node.Load i.0; scope = Rows (channel_columns i.1.columns) }))

abbrev pub filter_rows : Aliases → List ℕ → Expr → Answer Defined
filter_rows done from x =
    first (known done from) (λ k. first (ungrouped k.1) (λ cs. first (expr_of (Rows cs) x)
    (λ t. if_not fault.WrongType (is_condition t.sort) (record { node = node.Filter k.0 t.expr; scope = Rows cs }))))

abbrev pub foreach : Aliases → List ℕ → List Item → Answer Defined
foreach done from items = first (known done from) (λ k. first (items_of k.1 nothing items) (λ m. defined (node.Foreach k.0 m.exprs) m.columns))

abbrev pub group : Aliases → List ℕ → List Field → Answer Defined
group done from by =
    first (known done from) (λ k. first (ungrouped k.1) (λ cs. first (fields_of cs [] by)
    (λ ks. Ok (record { node = node.Group k.0 ks; scope = Group from (columns_at cs ks) cs }))))

-- JOIN: SchemaDiffers of its BY lists, then WrongType of their kinds
abbrev pub join_rows : ℕ → List ℕ → List ScopeColumn → List Field → ℕ → List ℕ → List ScopeColumn → List Field → Answer Defined
join_rows l left cs left_by r right ds right_by =
    first (fields_of cs [] left_by) (λ ks. first (fields_of ds [] right_by) (λ js.
    first (test fault.SchemaDiffers (nat_eq (length ks) (length js))) (λ _. first (test fault.WrongType (same_kinds_at cs ds ks js)) (λ _.
    defined (node.Join l ks r js) (from_alias left cs ++ from_alias right ds)))))

abbrev pub join : Aliases → List ℕ → List Field → List ℕ → List Field → Answer Defined
join done left left_by right right_by =
    first (known done left) (λ l. first (known done right) (λ r. first (ungrouped l.1) (λ cs. first (ungrouped r.1) (λ ds.
    join_rows l.0 left cs left_by r.0 right ds right_by))))

abbrev pub all_known : Aliases → List ℕ → List (List ℕ) → Answer (List ℕ)
all_known done ks [] = Ok ks
all_known done ks (a ∷ rest) = first (known done a) (λ k. all_known done (ks ++ k.0 ∷ []) rest)

abbrev pub row_columns : Aliases → List ℕ → Answer (List ScopeColumn)
row_columns done name = first (known done name) (λ k. ungrouped k.1)

abbrev pub none_grouped : Aliases → List (List ℕ) → Answer (Unit {0})
none_grouped done [] = Ok tt
none_grouped done (a ∷ rest) = first (row_columns done a) (λ cs. none_grouped done rest)

-- SchemaDiffers: the arms differ in number or kinds of columns
abbrev pub all_alike : Aliases → List ScopeColumn → List (List ℕ) → Answer (Unit {0})
all_alike done cs [] = Ok tt
all_alike done cs (a ∷ rest) = first (row_columns done a) (λ ds. first (test fault.SchemaDiffers (same_kinds cs ds)) (λ _. all_alike done cs rest))

abbrev pub first_rows : Aliases → List (List ℕ) → Answer (List ScopeColumn)
first_rows done [] = Ok []
first_rows done (a ∷ rest) = row_columns done a

abbrev pub union : Aliases → List (List ℕ) → Answer Defined
union done arms =
    first (all_known done [] arms) (λ ks. first (none_grouped done arms) (λ _. first (first_rows done arms) (λ cs. first (all_alike done cs arms)
    (λ _. Ok (record { node = node.Union ks; scope = Rows cs })))))

abbrev pub distinct : Aliases → List ℕ → Answer Defined
distinct done from = first (known done from) (λ k. first (ungrouped k.1) (λ cs. Ok (record { node = node.Distinct k.0; scope = Rows cs })))

abbrev pub op_of : Channels → Aliases → Op → Answer Defined
op_of ch done (op.Load channel) = load ch channel
op_of ch done (op.Filter from x) = filter_rows done from x
op_of ch done (op.Foreach from items) = foreach done from items
op_of ch done (op.Group from by) = group done from by
op_of ch done (op.Join left left_by right right_by) = join done left left_by right right_by
op_of ch done (op.Union arms) = union done arms
op_of ch done (op.Distinct from) = distinct done from

abbrev pub define : Channels → Aliases → List ℕ → Op → Answer Defined
define ch done alias o = first (fresh done alias) (λ _. op_of ch done o)

abbrev pub store : Channels → Aliases → List ℕ → List ℕ → Answer ℕ
store ch done alias channel =
    first (known done alias) (λ k. first (test fault.UnknownChannel (same_text channel ch.output.0)) (λ _. first (ungrouped k.1)
    (λ cs. if_not fault.SchemaDiffers (same_kinds cs (channel_columns ch.output.1.columns)) k.0)))

-- the answer of the statement with this number, and what follows
abbrev pub at_statement : {A B : Type 0} → ℕ → Answer A → (A → Result B (Cause × ℕ)) → Result B (Cause × ℕ)
at_statement n (Ok x) next = next x
at_statement n (Err c) next = Err (c, n)

abbrev pub graph : List Node → ℕ → Graph
graph nodes k = record { nodes = nodes; stored = k }

-- the aliases and the nodes so far
abbrev pub State : Type 0
State = Aliases × List Node

-- and with what a statement defines
abbrev pub and_defined : Aliases → List Node → List ℕ → Defined → Answer State
and_defined done nodes alias d = Ok (done ++ (alias, d.scope) ∷ [], nodes ++ d.node ∷ [])

-- a statement with the number n, after these aliases and nodes, and what follows it
abbrev pub statement_of : Channels → ℕ → Aliases → List Node → Body → (Aliases → List Node → Result Graph (Cause × ℕ)) → Result Graph (Cause × ℕ)
statement_of ch n done nodes (body.Define alias o) go_on = at_statement n (define ch done alias o) (λ d. go_on (done ++ (alias, d.scope) ∷ []) (nodes ++ d.node ∷ []))
statement_of ch n done nodes (body.Store alias channel) go_on = at_statement n (store ch done alias channel) (λ k. Ok (graph nodes k))

-- the statements from number n on. NoStore: there is no STORE; the statement is one past the last
abbrev pub graph_after : Channels → ℕ → Aliases → List Node → List Statement → Result Graph (Cause × ℕ)
graph_after ch n done nodes [] = Err (fault.NoStore, n)
graph_after ch n done nodes (s ∷ rest) = statement_of ch n done nodes s.body (λ more all. graph_after ch (suc n) more all rest)

abbrev pub graph_of : List Statement → Channels → Result Graph (Cause × ℕ)
graph_of statements ch = graph_after ch 1 [] [] statements

abbrev pub placed : Stop → ℕ → FaultAt
placed (Fault c) n = stop.At c n
placed NoMemory n = stop.NoMemory

abbrev pub GivesGraph : Result Graph FaultAt → Result Graph (Cause × ℕ) → Type 0
GivesGraph (Ok p) answer = answer ≡ Ok p
GivesGraph (Err (stop.At c n)) answer = answer ≡ Err (c, n)
GivesGraph (Err stop.NoMemory) answer = Unit {0}
