-- A task has one pattern with one plan, or one first fault.
use Rattle.std.specs.Prelude.{◌≡◌, ◌≢◌, ◌⊎◌, ℕ, Bool, true, false, List, Some, Result, Ok, Err, refl}
use Rattle.std.proofs.Common.{ap, sym, ◌∙◌, inl, inr, subst}
use Rattle.nova_pig_tree.specs.declared.statement.Statement.{Statement}
use Rattle.nova_pig_parse.specs.declared.text.ParseFault.{ParseFault}
use Rattle.nova_pig_parse.specs.declared.text.ParseFault.TheVariants as parse
use Rattle.nova_pig_parse.specs.Script as text
use Rattle.nova_pig_algebra.specs.Plan.{Plan, tree_of_plan, plan_key}
use Rattle.nova_pig_plan.specs.declared.fault.Cause.{Cause}
use Rattle.nova_pig_plan.specs.declared.fault.Cause.TheVariants as cause
use Rattle.nova_pig_plan.specs.declared.fault.PlanFault.{PlanFault}
use Rattle.nova_pig_plan.specs.declared.fault.PlanFault.TheVariants as plan
use Rattle.nova_pig_plan.specs.declared.scope.Channels.{Channels}
use Rattle.nova_pig_plan.specs.Resolve.{Place, plan_of as resolved, said, IsFirst}
use Rattle.nova_admit.specs.declared.script.ScriptFault.{ScriptFault}
use Rattle.nova_admit.specs.declared.script.ScriptFault.TheVariants as script
use Rattle.nova_admit.specs.Texts.{GivesPlan}
use Rattle.nova_pig_pattern.specs.declared.task.PatternKind.{PatternKind}
use Rattle.nova_pig_pattern.specs.declared.task.PatternKind.TheVariants.{NonIncremental, Stateless, Lookup, Stateful}
use Rattle.nova_pig_pattern.specs.declared.task.TaskFault.{TaskFault}
use Rattle.nova_pig_pattern.specs.declared.task.TaskFault.TheVariants as task
use Rattle.nova_pig_pattern.specs.OutputKey.{HasOutputKey}
use Rattle.nova_pig_pattern.specs.Statements.{AdmittedHaveShapes}
use Rattle.nova_workflow.specs.declared.flow.Task.{Task}
use Rattle.nova_workflow.specs.declared.flow.Flow.{Flow}
use Rattle.nova_admit.specs.declared.plans.Pattern.{Pattern}
use Rattle.nova_admit.specs.declared.plans.Pattern.TheVariants.{N, S, L, F}
use Rattle.nova_admit.specs.declared.fault.AdmitFault.{AdmitFault}
use Rattle.nova_admit.specs.declared.fault.AdmitFault.TheVariants.{NoMemory}
use Rattle.nova_admit.specs.TaskPlans.{plan_of, kind_of, admitted}
use Rattle.nova_admit.specs.Flows.{channels_of, inputs_of, fault_of, told, script_fault, pattern_of, HasPattern, HasFault}
use Rattle.nova_admit.specs.Settled.{TasksAreSettled}

-- ---- answers
ok_same : {A B : Type 0} (x y : A) → (let r : Result A B = Ok x in r) ≡ Ok y → x ≡ y
ok_same x y e = cc

err_same : {A B : Type 0} (x y : B) → (let r : Result A B = Err x in r) ≡ Err y → x ≡ y
err_same x y e = cc

never : {A B : Type 0} (x : A) (y : B) → Ok x ≡ Err y → ⊥
never x y e = absurd cc

-- ---- what a script's text gives is one thing
-- it isn't want of memory
abbrev IsTold : Result Plan ScriptFault → Type 0
IsTold (Ok p) = Unit {0}
IsTold (Err (script.Parse x)) = x ≢ parse.NoMemory
IsTold (Err (script.Plan x)) = x ≢ plan.NoMemory

-- the fault that says a cause at a statement
abbrev fault_at : Cause → ℕ → PlanFault
fault_at cause.UnknownAlias n = plan.UnknownAlias n
fault_at cause.UnknownField n = plan.UnknownField n
fault_at cause.Ambiguous n = plan.Ambiguous n
fault_at cause.WrongType n = plan.WrongType n
fault_at cause.SchemaDiffers n = plan.SchemaDiffers n
fault_at cause.UnknownChannel n = plan.UnknownChannel n
fault_at cause.TooWide n = plan.TooWide n
fault_at cause.BagMisused n = plan.BagMisused n
fault_at cause.NoStore n = plan.NoStore n
fault_at cause.AliasTwice n = plan.AliasTwice n

-- a fault that says a place is told by it
abbrev Meant : PlanFault → Result Plan Place → Type 0
Meant x a = (c : Cause) × (n : ℕ) × (a ≡ Err (c, n)) × (x ≡ fault_at c n)

meant : (x : PlanFault) (a : Result Plan Place) → x ≢ plan.NoMemory → IsFirst (said x) a → Meant x a
meant (plan.UnknownAlias n) a k h = (cause.UnknownAlias, n, h, refl)
meant (plan.UnknownField n) a k h = (cause.UnknownField, n, h, refl)
meant (plan.Ambiguous n) a k h = (cause.Ambiguous, n, h, refl)
meant (plan.WrongType n) a k h = (cause.WrongType, n, h, refl)
meant (plan.SchemaDiffers n) a k h = (cause.SchemaDiffers, n, h, refl)
meant (plan.UnknownChannel n) a k h = (cause.UnknownChannel, n, h, refl)
meant (plan.TooWide n) a k h = (cause.TooWide, n, h, refl)
meant (plan.BagMisused n) a k h = (cause.BagMisused, n, h, refl)
meant (plan.NoStore n) a k h = (cause.NoStore, n, h, refl)
meant (plan.AliasTwice n) a k h = (cause.AliasTwice, n, h, refl)
meant plan.NoMemory a k h = absurd (k refl)

same_meant : (x y : PlanFault) (a : Result Plan Place) → Meant x a → Meant y a → x ≡ y
same_meant x y a mx my =
    let same : (mx.0, mx.1) ≡ (my.0, my.1) = err_same {A = Plan} {B = Place} (mx.0, mx.1) (my.0, my.1) (sym mx.2 ∙ my.2) in
    mx.3 ∙ ap (λ (z : Place). fault_at z.0 z.1) same ∙ sym my.3

module _ (t : List ℕ) (ch : Channels) (settled : text.IsSettled t) where
  one_plan : (p q : Plan) → GivesPlan t ch (Ok p) → GivesPlan t ch (Ok q) → p ≡ q
  one_plan p q a b = ok_same p q (sym a.2 ∙ ap (λ (s : List Statement). resolved s ch) (settled.one_script a.0 b.0 a.1 b.1) ∙ b.2)

  no_parse_fault : (p : Plan) (y : ParseFault) → y ≢ parse.NoMemory → GivesPlan t ch (Ok p) → GivesPlan t ch (Err (script.Parse y)) → ⊥
  no_parse_fault p y k a b = settled.never_both a.0 y a.1 (b k)

  no_plan_fault : (p : Plan) (y : PlanFault) → y ≢ plan.NoMemory → GivesPlan t ch (Ok p) → GivesPlan t ch (Err (script.Plan y)) → ⊥
  no_plan_fault p y k a b =
      let m = meant y (resolved b.0 ch) k b.2 in never p (m.0, m.1) (sym a.2 ∙ ap (λ (s : List Statement). resolved s ch) (settled.one_script a.0 b.0 a.1 b.1) ∙ m.2)

  one_sort : (x : ParseFault) (y : PlanFault) → x ≢ parse.NoMemory → GivesPlan t ch (Err (script.Parse x)) → GivesPlan t ch (Err (script.Plan y)) → ⊥
  one_sort x y k a b = settled.never_both b.0 x b.1 (a k)

  one_plan_fault : (x y : PlanFault) → x ≢ plan.NoMemory → y ≢ plan.NoMemory → GivesPlan t ch (Err (script.Plan x)) → GivesPlan t ch (Err (script.Plan y)) → x ≡ y
  one_plan_fault x y k l a b =
      let same = settled.one_script a.0 b.0 a.1 b.1 in
      same_meant x y (resolved b.0 ch) (subst (λ (s : List Statement). Meant x (resolved s ch)) same (meant x (resolved a.0 ch) k a.2)) (meant y (resolved b.0 ch) l b.2)

  one_given : (g h : Result Plan ScriptFault) → IsTold g → IsTold h → GivesPlan t ch g → GivesPlan t ch h → g ≡ h
  one_given (Ok p) (Ok q) k l a b = ap (λ (z : Plan). let r : Result Plan ScriptFault = Ok z in r) (one_plan p q a b)
  one_given (Ok p) (Err (script.Parse y)) k l a b = absurd (no_parse_fault p y l a b)
  one_given (Ok p) (Err (script.Plan y)) k l a b = absurd (no_plan_fault p y l a b)
  one_given (Err (script.Parse x)) (Ok q) k l a b = absurd (no_parse_fault q x k b a)
  one_given (Err (script.Parse x)) (Err (script.Parse y)) k l a b =
      ap (λ (z : ParseFault). let r : Result Plan ScriptFault = Err (script.Parse z) in r) (settled.one_fault x y (a k) (b l))
  one_given (Err (script.Parse x)) (Err (script.Plan y)) k l a b = absurd (one_sort x y k a b)
  one_given (Err (script.Plan x)) (Ok q) k l a b = absurd (no_plan_fault q x k b a)
  one_given (Err (script.Plan x)) (Err (script.Parse y)) k l a b = absurd (one_sort y x l b a)
  one_given (Err (script.Plan x)) (Err (script.Plan y)) k l a b = ap (λ (z : PlanFault). let r : Result Plan ScriptFault = Err (script.Plan z) in r) (one_plan_fault x y k l a b)

-- ---- a fault that isn't want of memory is of what was told
fault_told : (f : Flow) (t : Task) (g : Result Plan ScriptFault) (e : AdmitFault) → e ≢ NoMemory → pattern_of f t g ≡ Err e → IsTold g
fault_told f t (Ok p) e k h = tt
fault_told f t (Err (script.Parse x)) e k h = λ is.
    k (sym (err_same {A = PatternKind} NoMemory e (subst (λ (z : ParseFault). pattern_of f t (Err (script.Parse z)) ≡ Err e) is h)))
fault_told f t (Err (script.Plan x)) e k h = λ is.
    k (sym (err_same {A = PatternKind} NoMemory e (subst (λ (z : PlanFault). pattern_of f t (Err (script.Plan z)) ≡ Err e) is h)))

-- ---- a text without a script, and a script without a plan, have a fault
parse_tells : {t : List ℕ} {x : ParseFault} (name : List ℕ) → text.IsFaultOf t x → script_fault name (script.Parse x) ≢ NoMemory
parse_tells name (text.long h) = λ e. absurd cc
parse_tells name (text.token h i) = λ e. absurd cc
parse_tells name (text.number h i) = λ e. absurd cc
parse_tells name (text.many_semicolons h i j) = λ e. absurd cc
parse_tells name (text.deep h i j l) = λ e. absurd cc
parse_tells name (text.many_assigns h i j l m) = λ e. absurd cc
parse_tells name (text.syntax h i j l) = λ e. absurd cc

abbrev Tells : List ℕ → Cause → ℕ → Type 0
Tells name c n = (said (fault_at c n) ≡ Some (c, n)) × (script_fault name (script.Plan (fault_at c n)) ≢ NoMemory)

plan_tells : (name : List ℕ) (c : Cause) (n : ℕ) → Tells name c n
plan_tells name cause.UnknownAlias n = (refl, λ e. absurd cc)
plan_tells name cause.UnknownField n = (refl, λ e. absurd cc)
plan_tells name cause.Ambiguous n = (refl, λ e. absurd cc)
plan_tells name cause.WrongType n = (refl, λ e. absurd cc)
plan_tells name cause.SchemaDiffers n = (refl, λ e. absurd cc)
plan_tells name cause.UnknownChannel n = (refl, λ e. absurd cc)
plan_tells name cause.TooWide n = (refl, λ e. absurd cc)
plan_tells name cause.BagMisused n = (refl, λ e. absurd cc)
plan_tells name cause.NoStore n = (refl, λ e. absurd cc)
plan_tells name cause.AliasTwice n = (refl, λ e. absurd cc)

task_tells : (f : Flow) (name : List ℕ) (x : TaskFault) → fault_of f name x ≢ NoMemory
task_tells f name task.NoKey = λ e. absurd cc
task_tells f name task.KeyDiffers = λ e. absurd cc
task_tells f name (task.BaseReadAsNew channel) = λ e. absurd cc
task_tells f name task.NotAPattern = λ e. absurd cc

-- ---- a task has a pattern or a fault
abbrev patterned : PatternKind → Plan → Pattern
patterned NonIncremental p = N p
patterned Stateless p = S p
patterned Lookup p = L p
patterned Stateful p = F p

same_plan : (k : PatternKind) (p : Plan) → plan_of (patterned k p) ≡ p
same_plan NonIncremental p = refl
same_plan Stateless p = refl
same_plan Lookup p = refl
same_plan Stateful p = refl

same_kind : (k : PatternKind) (p : Plan) → kind_of (patterned k p) ≡ k
same_kind NonIncremental p = refl
same_kind Stateless p = refl
same_kind Lookup p = refl
same_kind Stateful p = refl

abbrev Either : Flow → Task → Type 0
Either f t = ((q : Pattern) × HasPattern f t q) ⊎ ((e : AdmitFault) × (e ≢ NoMemory) × HasFault f t e)

module _ (shapes : AdmittedHaveShapes) (f : Flow) (t : Task) where
  with_fault : (g : Result Plan ScriptFault) (e : AdmitFault) → e ≢ NoMemory → GivesPlan t.script (channels_of f t) g → pattern_of f t g ≡ Err e → Either f t
  with_fault g e k gives h = inr (e, k, record { given = g; gives = gives; fault = h })

  by_kind : (p : Plan) (kind : PatternKind) → GivesPlan t.script (channels_of f t) (Ok p) → admitted p (inputs_of f t) t.based ≡ Ok kind → Either f t
  by_kind p kind gives e =
      let plan_is = same_plan kind p in
      inl (
        patterned kind p,
        record {
          plan = subst (λ (z : Plan). GivesPlan t.script (channels_of f t) (Ok z)) (sym plan_is) gives;
          kind = ap (λ (z : Plan). pattern_of f t (Ok z)) plan_is ∙ ap (told f t.name) e ∙ ap (λ (z : PatternKind). let r : Result PatternKind AdmitFault = Ok z in r) (sym (same_kind kind p));
          key = subst HasOutputKey (sym plan_is) (shapes p.inputs (inputs_of f t) t.based p.output.key (tree_of_plan p) (plan_key p) kind e).0;
        },
      )

  by_admission : (p : Plan) → GivesPlan t.script (channels_of f t) (Ok p) → (a : Result PatternKind TaskFault) → admitted p (inputs_of f t) t.based ≡ a → Either f t
  by_admission p gives (Ok kind) e = by_kind p kind gives e
  by_admission p gives (Err x) e = with_fault (Ok p) (fault_of f t.name x) (task_tells f t.name x) gives (ap (told f t.name) e)

  by_script : (xs : List Statement) → text.IsScriptOf t.script xs → (a : Result Plan Place) → resolved xs (channels_of f t) ≡ a → Either f t
  by_script xs is (Ok p) e = by_admission p (xs, is, e) (admitted p (inputs_of f t) t.based) refl
  by_script xs is (Err place) e =
      let tells = plan_tells t.name place.0 place.1 in
      let x = fault_at place.0 place.1 in
      with_fault (Err (script.Plan x)) (script_fault t.name (script.Plan x)) tells.1 (xs, is, subst (λ o. IsFirst o (resolved xs (channels_of f t))) (sym tells.0) e) refl

  by_text : text.IsSettled t.script → Either f t
  by_text settled = go settled.some
    where
      go : ((xs : List Statement) × text.IsScriptOf t.script xs) ⊎ ((x : ParseFault) × text.IsFaultOf t.script x) → Either f t
      go (inl s) = by_script s.0 s.1 (resolved s.0 (channels_of f t)) refl
      go (inr x) = with_fault (Err (script.Parse x.0)) (script_fault t.name (script.Parse x.0)) (parse_tells t.name x.1) (λ _. x.1) refl

pub settled : text.TextsAreSettled → AdmittedHaveShapes → TasksAreSettled
settled texts shapes f t = record {
  some = by_text shapes f t (texts t.script);
  one_pattern = λ q r a b.
      let same = one_plan t.script (channels_of f t) (texts t.script) (plan_of q) (plan_of r) a.plan b.plan in
      (ok_same {B = AdmitFault} (kind_of q) (kind_of r) (sym a.kind ∙ ap (λ (z : Plan). pattern_of f t (Ok z)) same ∙ b.kind), same);
  one_fault = λ d e k l a b.
      let same = one_given t.script (channels_of f t) (texts t.script) a.given b.given (fault_told f t a.given d k a.fault) (fault_told f t b.given e l b.fault) a.gives b.gives in
      err_same {A = PatternKind} d e (sym a.fault ∙ ap (pattern_of f t) same ∙ b.fault);
  never_both = λ q e l a b.
      let same = one_given t.script (channels_of f t) (texts t.script) (Ok (plan_of q)) b.given tt (fault_told f t b.given e l b.fault) a.plan b.gives in
      never (kind_of q) e (sym a.kind ∙ ap (pattern_of f t) same ∙ b.fault);
}
