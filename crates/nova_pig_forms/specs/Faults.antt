-- The plan of a script, one case for each operator, and its first fault, one case for each row of
-- the table of faults: the fault, the statement, and the cause at the first such place.
use Rattle.std.specs.Prelude.{◌≡◌, ◌≢◌, ◌↔◌, ℕ, suc, ◌<◌, ◌≤◌, List, [], ◌∷◌, ◌++◌, length, Ok, Err}
use Rattle.std.specs.List.{AllByRecursion}
use Rattle.nova_value.specs.Rows.{Shape, IsShape}
use Rattle.nova_pig_tree.specs.declared.expression.Field.{Field}
use Rattle.nova_pig_tree.specs.declared.expression.Expr.{Expr}
use Rattle.nova_pig_tree.specs.declared.statement.Item.{Item}
use Rattle.nova_pig_tree.specs.declared.statement.Op.{Op}
use Rattle.nova_pig_tree.specs.declared.statement.Op.TheVariants as op
use Rattle.nova_pig_tree.specs.declared.statement.Body.{Body}
use Rattle.nova_pig_tree.specs.declared.statement.Body.TheVariants as body
use Rattle.nova_pig_tree.specs.declared.statement.Statement.{Statement}
use Rattle.nova_pig_algebra.specs.Plan.{Plan}
use Rattle.nova_pig_algebra.specs.declared.node.PlanExpr.{PlanExpr}
use Rattle.nova_pig_algebra.specs.declared.node.Node.{Node}
use Rattle.nova_pig_algebra.specs.declared.node.Node.TheVariants as node
use Rattle.nova_pig_algebra.specs.declared.node.Sort.{Sort}
use Rattle.nova_pig_algebra.specs.declared.node.Sort.TheVariants.{Condition}
use Rattle.nova_pig_plan.specs.declared.fault.Cause.{Cause}
use Rattle.nova_pig_plan.specs.declared.fault.Cause.TheVariants.{AliasTwice, UnknownAlias, UnknownChannel, BagMisused, SchemaDiffers, WrongType, TooWide, NoStore}
use Rattle.nova_pig_plan.specs.declared.scope.ScopeColumn.{ScopeColumn}
use Rattle.nova_pig_plan.specs.declared.scope.Scope.{Scope}
use Rattle.nova_pig_plan.specs.declared.scope.Scope.TheVariants.{Rows, Group}
use Rattle.nova_pig_plan.specs.declared.scope.Channels.{Channels}
use Rattle.nova_pig_plan.specs.Plans.{Aliases, channel_columns, from_alias, graph}
use Rattle.nova_pig_plan.specs.Resolve.{plan, plan_of}
use Rattle.nova_pig_plan.specs.Sorts.{kinds}
use Rattle.nova_pig_forms.specs.References.{Names, NameFails}
use Rattle.nova_pig_forms.specs.Resolves.{Resolves, ExprFails, ItemsMake, ItemsFail}

-- of entries with names the first of a name, with its place
pub data IsFirst {A : Type 0} (name : List ℕ) : List (List ℕ × A) → ℕ → A → Type 0 where
  here : {x : A} {es : List (List ℕ × A)} → IsFirst name ((name, x) ∷ es) 0 x
  after : {other : List ℕ} {x y : A} {es : List (List ℕ × A)} {k : ℕ} → name ≢ other → IsFirst name es k x → IsFirst name ((other, y) ∷ es) (suc k) x

-- no entry has the name
abbrev pub IsMissing : {A : Type 0} → List ℕ → List (List ℕ × A) → Type 0
IsMissing name es = AllByRecursion (λ e. name ≢ e.0) es

-- it holds of one among these
pub data Among {A : Type 0} (P : A → Type 0) : List A → Type 0 where
  here : {x : A} {xs : List A} → P x → Among P (x ∷ xs)
  after : {x : A} {xs : List A} → Among P xs → Among P (x ∷ xs)

-- after these aliases, each with its number and what is known of it
module _ (done : Aliases) where
  -- the alias is defined before
  abbrev pub IsDefined : List ℕ → Type 0
  IsDefined a = (k : ℕ) × (s : Scope) × IsFirst a done k s

  -- the alias is defined before, and isn't grouped
  abbrev pub RowsOf : List ℕ → ℕ → List ScopeColumn → Type 0
  RowsOf a k cs = IsFirst a done k (Rows cs)

  -- the alias is a grouped one
  abbrev pub IsGrouped : List ℕ → Type 0
  IsGrouped a = (k : ℕ) × (bag : List ℕ) × (by : List ScopeColumn) × (cs : List ScopeColumn) × IsFirst a done k (Group bag by cs)

-- the operands of an operator, from left to right
abbrev pub operands : Op → List (List ℕ)
operands (op.Load channel) = []
operands (op.Filter from x) = from ∷ []
operands (op.Foreach from items) = from ∷ []
operands (op.Group from by) = from ∷ []
operands (op.Join left left_by right right_by) = left ∷ right ∷ []
operands (op.Union arms) = arms
operands (op.Distinct from) = from ∷ []

-- anything but FOREACH
abbrev pub TakesRows : Op → Type 0
TakesRows (op.Foreach from items) = ⊥
TakesRows _ = Unit {0}

-- the columns that the fields of a BY list name
pub data FieldsName (cs : List ScopeColumn) : List Field → List ℕ → List ScopeColumn → Type 0 where
  none : FieldsName cs [] [] []
  more : {f : Field} {fs : List Field} {k : ℕ} {ks : List ℕ} {d : ScopeColumn} {ds : List ScopeColumn} → Names cs f k d → FieldsName cs fs ks ds → FieldsName cs (f ∷ fs) (k ∷ ks) (d ∷ ds)

-- of the fields of a BY list the first that fails
pub data FieldsFail (cs : List ScopeColumn) : List Field → Cause → Type 0 where
  here : {f : Field} {fs : List Field} {cause : Cause} → NameFails cs f cause → FieldsFail cs (f ∷ fs) cause
  after : {f : Field} {fs : List Field} {k : ℕ} {d : ScopeColumn} {cause : Cause} → Names cs f k d → FieldsFail cs fs cause → FieldsFail cs (f ∷ fs) cause

-- the numbers and the columns of UNION's arms
pub data ArmsAre (done : Aliases) : List (List ℕ) → List ℕ → List (List ScopeColumn) → Type 0 where
  none : ArmsAre done [] [] []
  more : {a : List ℕ} {us : List (List ℕ)} {k : ℕ} {ks : List ℕ} {cs : List ScopeColumn} {css : List (List ScopeColumn)} → RowsOf done a k cs → ArmsAre done us ks css
      → ArmsAre done (a ∷ us) (k ∷ ks) (cs ∷ css)

-- the columns of the first arm
abbrev pub first_arm : List (List ScopeColumn) → List ScopeColumn
first_arm [] = []
first_arm (cs ∷ css) = cs

-- the arms are alike in number and kinds of columns
abbrev pub AreAlike : List (List ScopeColumn) → Type 0
AreAlike css = AllByRecursion (λ cs. kinds (first_arm css) ≡ kinds cs) css

-- the node that an operator makes, and the columns of its alias, where no field, call, expression or kind fails
pub data Makes (ch : Channels) (done : Aliases) : Op → Node → Scope → Type 0 where
  -- LOAD gives the channel's names without origin
  load : {channel : List ℕ} {k : ℕ} {shape : Shape} → IsFirst channel ch.inputs k shape → Makes ch done (op.Load channel) (node.Load k) (Rows (channel_columns shape.columns))
  -- FILTER and DISTINCT keep all
  filter : {from : List ℕ} {k : ℕ} {cs : List ScopeColumn} {c : Expr} {x : PlanExpr} → RowsOf done from k cs → Resolves (Rows cs) c x Condition
      → Makes ch done (op.Filter from c) (node.Filter k x) (Rows cs)
  distinct : {from : List ℕ} {k : ℕ} {cs : List ScopeColumn} → RowsOf done from k cs → Makes ch done (op.Distinct from) (node.Distinct k) (Rows cs)
  foreach : {from : List ℕ} {k : ℕ} {s : Scope} {items : List Item} {xs : List PlanExpr} {cs : List ScopeColumn} → IsFirst from done k s → ItemsMake s items xs cs
      → Makes ch done (op.Foreach from items) (node.Foreach k xs) (Rows cs)
  -- a grouped alias has `group`, made of the BY columns in their order, and a bag of the rows, named by the grouped alias
  group : {from : List ℕ} {k : ℕ} {cs ds : List ScopeColumn} {by : List Field} {ks : List ℕ} → RowsOf done from k cs → FieldsName cs by ks ds
      → Makes ch done (op.Group from by) (node.Group k ks) (Group from ds cs)
  -- JOIN gives the left columns and then the right ones, each with its alias as origin; the BY lists have equal kinds
  join : {left right : List ℕ} {i j : ℕ} {cs ds us bs : List ScopeColumn} {left_by right_by : List Field} {is js : List ℕ} → RowsOf done left i cs → RowsOf done right j ds
      → FieldsName cs left_by is us → FieldsName ds right_by js bs → length left_by ≡ length right_by → kinds us ≡ kinds bs
      → Makes ch done (op.Join left left_by right right_by) (node.Join i is j js) (Rows (from_alias left cs ++ from_alias right ds))
  -- UNION has the first arm's names and origins
  union : {arms : List (List ℕ)} {ks : List ℕ} {css : List (List ScopeColumn)} → ArmsAre done arms ks css → AreAlike css → Makes ch done (op.Union arms) (node.Union ks) (Rows (first_arm css))

-- how many columns an alias has: a grouped one has two, `group` and its bag
abbrev pub width : Scope → ℕ
width (Rows cs) = length cs
width (Group bag by cs) = 2

-- the first fault of a statement that defines an alias. Each case holds only where those before it don't.
pub data DefineFails (ch : Channels) (done : Aliases) (alias : List ℕ) : Op → Cause → Type 0 where
  -- 1. the statement defines an alias that an earlier one defines
  alias_twice : {o : Op} → IsDefined done alias → DefineFails ch done alias o AliasTwice
  -- 2. an operand isn't defined before
  unknown_alias : {o : Op} → IsMissing alias done → Among (λ a. IsMissing a done) (operands o) → DefineFails ch done alias o UnknownAlias
  -- 3. LOAD names no input of the task
  unknown_channel : {channel : List ℕ} → IsMissing alias done → IsMissing channel ch.inputs → DefineFails ch done alias (op.Load channel) UnknownChannel
  -- 4. a grouped alias is an operand of anything but FOREACH
  bag_misused : {o : Op} → IsMissing alias done → AllByRecursion (IsDefined done) (operands o) → TakesRows o → Among (IsGrouped done) (operands o)
      → DefineFails ch done alias o BagMisused
  -- 5. fields, calls, expressions and items, from left to right: UnknownField, Ambiguous, BagMisused, WrongType
  in_filter : {from : List ℕ} {k : ℕ} {cs : List ScopeColumn} {c : Expr} {cause : Cause} → IsMissing alias done → RowsOf done from k cs → ExprFails (Rows cs) c cause
      → DefineFails ch done alias (op.Filter from c) cause
  no_condition : {from : List ℕ} {k : ℕ} {cs : List ScopeColumn} {c : Expr} {x : PlanExpr} {r : Sort} → IsMissing alias done → RowsOf done from k cs → Resolves (Rows cs) c x r → r ≢ Condition
      → DefineFails ch done alias (op.Filter from c) WrongType
  in_foreach : {from : List ℕ} {k : ℕ} {s : Scope} {items : List Item} {cause : Cause} → IsMissing alias done → IsFirst from done k s → ItemsFail s items cause
      → DefineFails ch done alias (op.Foreach from items) cause
  in_group : {from : List ℕ} {k : ℕ} {cs : List ScopeColumn} {by : List Field} {cause : Cause} → IsMissing alias done → RowsOf done from k cs → FieldsFail cs by cause
      → DefineFails ch done alias (op.Group from by) cause
  in_left : {left right : List ℕ} {i j : ℕ} {cs ds : List ScopeColumn} {left_by right_by : List Field} {cause : Cause} → IsMissing alias done → RowsOf done left i cs → RowsOf done right j ds
      → FieldsFail cs left_by cause → DefineFails ch done alias (op.Join left left_by right right_by) cause
  in_right : {left right : List ℕ} {i j : ℕ} {cs ds us : List ScopeColumn} {left_by right_by : List Field} {is : List ℕ} {cause : Cause} → IsMissing alias done → RowsOf done left i cs → RowsOf done right j ds
      → FieldsName cs left_by is us → FieldsFail ds right_by cause → DefineFails ch done alias (op.Join left left_by right right_by) cause
  -- 6. JOIN's BY lists differ in length, then in kinds
  by_lengths : {left right : List ℕ} {i j : ℕ} {cs ds us bs : List ScopeColumn} {left_by right_by : List Field} {is js : List ℕ} → IsMissing alias done → RowsOf done left i cs → RowsOf done right j ds
      → FieldsName cs left_by is us → FieldsName ds right_by js bs → length left_by ≢ length right_by → DefineFails ch done alias (op.Join left left_by right right_by) SchemaDiffers
  by_kinds : {left right : List ℕ} {i j : ℕ} {cs ds us bs : List ScopeColumn} {left_by right_by : List Field} {is js : List ℕ} → IsMissing alias done → RowsOf done left i cs → RowsOf done right j ds
      → FieldsName cs left_by is us → FieldsName ds right_by js bs → length left_by ≡ length right_by → kinds us ≢ kinds bs → DefineFails ch done alias (op.Join left left_by right right_by) WrongType
  -- 7. UNION's arms differ in number or kinds of columns
  schema_differs : {arms : List (List ℕ)} {ks : List ℕ} {css : List (List ScopeColumn)} → IsMissing alias done → ArmsAre done arms ks css → (AreAlike css → ⊥)
      → DefineFails ch done alias (op.Union arms) SchemaDiffers
  -- 8. the alias would have more than 64 columns
  too_wide : {o : Op} {n : Node} {s : Scope} → IsMissing alias done → Makes ch done o n s → 64 < width s → DefineFails ch done alias o TooWide

-- the stored alias has this number: STORE names the output, whose columns are those of the alias in number and kinds
pub data Stores (ch : Channels) (done : Aliases) (alias : List ℕ) : List ℕ → ℕ → Type 0 where
  stores : {k : ℕ} {cs : List ScopeColumn} → RowsOf done alias k cs → kinds cs ≡ kinds (channel_columns ch.output.1.columns) → Stores ch done alias ch.output.0 k

-- the first fault of STORE
pub data StoreFails (ch : Channels) (done : Aliases) (alias : List ℕ) : List ℕ → Cause → Type 0 where
  -- 2. the stored alias isn't defined before
  unknown_alias : {channel : List ℕ} → IsMissing alias done → StoreFails ch done alias channel UnknownAlias
  -- 3. STORE names another channel than the output
  unknown_channel : {channel : List ℕ} → IsDefined done alias → channel ≢ ch.output.0 → StoreFails ch done alias channel UnknownChannel
  -- 4. a grouped alias is an operand of anything but FOREACH
  bag_misused : IsGrouped done alias → StoreFails ch done alias ch.output.0 BagMisused
  -- 7. STORE's alias and the output channel differ in number or kinds of columns
  schema_differs : {k : ℕ} {cs : List ScopeColumn} → RowsOf done alias k cs → kinds cs ≢ kinds (channel_columns ch.output.1.columns) → StoreFails ch done alias ch.output.0 SchemaDiffers

pub data StatementFails (ch : Channels) (done : Aliases) : Body → Cause → Type 0 where
  define : {alias : List ℕ} {o : Op} {cause : Cause} → DefineFails ch done alias o cause → StatementFails ch done (body.Define alias o) cause
  store : {alias channel : List ℕ} {cause : Cause} → StoreFails ch done alias channel cause → StatementFails ch done (body.Store alias channel) cause

-- statements without a fault that define these aliases, in their order, each with its node
pub data Defines (ch : Channels) : List Statement → Aliases → List Node → Type 0 where
  none : Defines ch [] [] []
  more : {before : List Statement} {done : Aliases} {nodes : List Node} (x : Statement) {alias : List ℕ} {o : Op} {n : Node} {s : Scope} → Defines ch before done nodes
      → x.body ≡ body.Define alias o → IsMissing alias done → Makes ch done o n s → width s ≤ 64
      → Defines ch (before ++ x ∷ []) (done ++ (alias, s) ∷ []) (nodes ++ n ∷ [])

-- the plan of a script: the nodes up to its STORE, and the stored one
pub data IsPlanOf (ch : Channels) : List Statement → Plan → Type 0 where
  stored : {before : List Statement} {done : Aliases} {nodes : List Node} (x : Statement) (rest : List Statement) {alias channel : List ℕ} {k : ℕ} → Defines ch before done nodes
      → x.body ≡ body.Store alias channel → Stores ch done alias channel k → IsPlanOf ch (before ++ x ∷ rest) (plan ch (graph nodes k))

-- the first fault of a script, with the number of its statement, from 1
pub data FailsAt (ch : Channels) : List Statement → Cause → ℕ → Type 0 where
  statement : {before : List Statement} {done : Aliases} {nodes : List Node} (x : Statement) (rest : List Statement) {cause : Cause} → Defines ch before done nodes
      → StatementFails ch done x.body cause → FailsAt ch (before ++ x ∷ rest) cause (suc (length before))
  -- there is no STORE; the statement is one past the last
  no_store : {script : List Statement} {done : Aliases} {nodes : List Node} → Defines ch script done nodes → FailsAt ch script NoStore (suc (length script))

-- the inputs have schemas
abbrev pub HaveSchemas : Channels → Type 0
HaveSchemas ch = AllByRecursion (λ i. IsShape i.1) ch.inputs

-- `plan_of` answers exactly the plan
abbrev pub PlansAreForms : Type 0
PlansAreForms = (ch : Channels) → HaveSchemas ch → (script : List Statement) (p : Plan) → (plan_of script ch ≡ Ok p) ↔ IsPlanOf ch script p

-- and otherwise exactly the first fault
abbrev pub FaultsAreRows : Type 0
FaultsAreRows = (ch : Channels) → HaveSchemas ch → (script : List Statement) (cause : Cause) (n : ℕ) → (plan_of script ch ≡ Err (cause, n)) ↔ FailsAt ch script cause n
