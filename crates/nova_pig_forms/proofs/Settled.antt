-- A script has the plan, or the first fault, that the relations say.
use Rattle.std.proofs.Common.{◌≡◌, ◌≤◌, ℕ, suc, List, [], ◌∷◌, ◌++◌, length, Result, Ok, Err, refl, ap, sym, ◌∙◌, subst, arith, append_assoc, append-nil, length-append}
use Rattle.std.specs.List.{AllByRecursion}
use Rattle.nova_pig_tree.specs.declared.statement.Op.{Op}
use Rattle.nova_pig_tree.specs.declared.statement.Body.{Body}
use Rattle.nova_pig_tree.specs.declared.statement.Body.TheVariants as body
use Rattle.nova_pig_tree.specs.declared.statement.Statement.{Statement}
use Rattle.nova_pig_algebra.specs.Plan.{Plan}
use Rattle.nova_pig_algebra.specs.declared.node.Node.{Node}
use Rattle.nova_pig_plan.specs.declared.fault.Cause.{Cause}
use Rattle.nova_pig_plan.specs.declared.fault.Cause.TheVariants as fault
use Rattle.nova_pig_plan.specs.declared.scope.Defined.{Defined}
use Rattle.nova_pig_plan.specs.declared.scope.Channels.{Channels}
use Rattle.nova_pig_plan.specs.declared.scope.Graph.{Graph}
use Rattle.nova_pig_plan.specs.Answers.{Answer}
use Rattle.nova_pig_plan.specs.Plans.{Aliases, define, store, at_statement, graph, statement_of, graph_after, graph_of}
use Rattle.nova_pig_plan.specs.Resolve.{Place, plan, with_channels, plan_of}
use Rattle.nova_pig_forms.specs.Faults.{IsMissing, Makes, width, StatementFails, Stores, StoreFails, Defines, IsPlanOf, FailsAt, HaveSchemas, PlansAreForms, FaultsAreRows}
use Rattle.nova_pig_forms.specs.Faults as r
use Rattle.nova_pig_forms.proofs.Defining.{Narrow, Defining, define_found, define_read, define_failed, Storing, store_found, store_read, store_failed}

all_and_one : {A : Type 0} (P : A → Type 0) (xs : List A) (x : A) → AllByRecursion P xs → P x → AllByRecursion P (xs ++ x ∷ [])
all_and_one P [] x all h = (h, tt)
all_and_one P (y ∷ xs) x all h = (all.0, all_and_one P xs x all.1 h)

abbrev Answer_of : Type 0
Answer_of = Result Graph Place

module _ (ch : Channels) (schemas : HaveSchemas ch) where
  narrow : {before : List Statement} {done : Aliases} {nodes : List Node} → Defines ch before done nodes → Narrow done
  narrow r.none = tt
  narrow (r.more {done = done} x {alias = alias} {s = s} h is new m le) = all_and_one (λ e. width e.1 ≤ 64) done (alias, s) (narrow h) le

  abbrev go_on : ℕ → List Statement → Aliases → List Node → Answer_of
  go_on n rest more all = graph_after ch (suc n) more all rest

  -- statements without a fault lead to what follows them
  defined_read : {before : List Statement} {done : Aliases} {nodes : List Node} (rest : List Statement) → Defines ch before done nodes
      → graph_of (before ++ rest) ch ≡ graph_after ch (suc (length before)) done nodes rest
  defined_read rest r.none = refl
  defined_read rest (r.more {before = before} {done = done} {nodes = nodes} x {alias = alias} {o = o} {n = n} {s = s} h is new m le) =
      let k : ℕ = suc (length before) in
      let count : k ≡ length (before ++ x ∷ []) = let l = length-append before (x ∷ []) in omega (arith, l) in
      ap (λ ss. graph_of ss ch) (append_assoc before (x ∷ []) rest)
      ∙ defined_read (x ∷ rest) h
      ∙ ap (λ b. statement_of ch k done nodes b (go_on k rest)) is
      ∙ ap (λ a. at_statement k a (λ d. go_on k rest (done ++ (alias, d.scope) ∷ []) (nodes ++ d.node ∷ []))) (define_read ch schemas done (narrow h) alias new m le)
      ∙ ap (λ j. graph_after ch (suc j) (done ++ (alias, s) ∷ []) (nodes ++ n ∷ []) rest) count

  -- what is answered of a script
  abbrev Settles : List Statement → Answer_of → Type 0
  Settles script (Ok g) = IsPlanOf ch script (plan ch g)
  Settles script (Err f) = FailsAt ch script f.0 f.1

  settles_after : (rest before : List Statement) (done : Aliases) (nodes : List Node) → Defines ch before done nodes → Settles (before ++ rest) (graph_after ch (suc (length before)) done nodes rest)
  settles_after [] before done nodes h = subst (λ ss. FailsAt ch ss fault.NoStore (suc (length before))) (sym (append-nil before)) (r.no_store h)
  settles_after (x ∷ rest) before done nodes h = by_body x.body refl (λ front all them g. settles_after rest front all them g)
    where
      go_on_found : (alias : List ℕ) (o : Op) → x.body ≡ body.Define alias o → (d : Defined) → IsMissing alias done → Makes ch done o d.node d.scope → width d.scope ≤ 64
          → ((front : List Statement) (all : Aliases) (them : List Node) → Defines ch front all them → Settles (front ++ rest) (graph_after ch (suc (length front)) all them rest)) → Settles (before ++ x ∷ rest) (graph_after ch (suc (suc (length before))) (done ++ (alias, d.scope) ∷ []) (nodes ++ d.node ∷ []) rest)
      go_on_found alias o is d new m le after =
          let all = done ++ (alias, d.scope) ∷ [] in
          let them = nodes ++ d.node ∷ [] in
          let count : length (before ++ x ∷ []) ≡ suc (length before) = let l = length-append before (x ∷ []) in omega (arith, l) in
          subst (λ j. Settles (before ++ x ∷ rest) (graph_after ch (suc j) all them rest)) count
          (subst (λ ss. Settles ss (graph_after ch (suc (length (before ++ x ∷ []))) all them rest)) (append_assoc before (x ∷ []) rest)
          (after (before ++ x ∷ []) all them (r.more x h is new m le)))

      by_define : (alias : List ℕ) (o : Op) → x.body ≡ body.Define alias o → (a : Answer Defined) → Defining ch schemas done (narrow h) alias o a
          → ((front : List Statement) (all : Aliases) (them : List Node) → Defines ch front all them → Settles (front ++ rest) (graph_after ch (suc (length front)) all them rest)) → Settles (before ++ x ∷ rest) (at_statement (suc (length before)) a (λ d. graph_after ch (suc (suc (length before))) (done ++ (alias, d.scope) ∷ []) (nodes ++ d.node ∷ []) rest))
      by_define alias o is (Ok d) found after = go_on_found alias o is d found.0 found.1 found.2 after
      by_define alias o is (Err cause) found after = r.statement x rest h (subst (λ b. StatementFails ch done b cause) (sym is) (r.define found))

      by_store : (alias channel : List ℕ) → x.body ≡ body.Store alias channel → (a : Answer ℕ) → Storing ch schemas done (narrow h) alias channel a
          → Settles (before ++ x ∷ rest) (at_statement (suc (length before)) a (λ k. Ok (graph nodes k)))
      by_store alias channel is (Ok k) found = r.stored x rest h is found
      by_store alias channel is (Err cause) found = r.statement x rest h (subst (λ b. StatementFails ch done b cause) (sym is) (r.store found))

      by_body : (b : Body) → x.body ≡ b → ((front : List Statement) (all : Aliases) (them : List Node) → Defines ch front all them → Settles (front ++ rest) (graph_after ch (suc (length front)) all them rest)) → Settles (before ++ x ∷ rest) (statement_of ch (suc (length before)) done nodes b (go_on (suc (length before)) rest))
      by_body (body.Define alias o) is after = by_define alias o is (define ch done alias o) (define_found ch schemas done (narrow h) alias o) after
      by_body (body.Store alias channel) is after = by_store alias channel is (store ch done alias channel) (store_found ch schemas done (narrow h) alias channel)

  settled : (script : List Statement) → Settles script (graph_of script ch)
  settled script = settles_after script [] [] [] r.none

  plan_read : {script : List Statement} {p : Plan} → IsPlanOf ch script p → plan_of script ch ≡ Ok p
  plan_read (r.stored {before = before} {done = done} {nodes = nodes} x rest {alias = alias} {channel = channel} {k = k} h is stored) =
      let n : ℕ = suc (length before) in
      ap (with_channels ch)
      (defined_read (x ∷ rest) h ∙ ap (λ b. statement_of ch n done nodes b (go_on n rest)) is
      ∙ ap (λ a. at_statement n a (λ k. Ok (graph nodes k))) (store_read ch schemas done (narrow h) stored))

  statement_failed : {done : Aliases} {b : Body} {cause : Cause} (narrowed : Narrow done) (n : ℕ) (nodes : List Node) (rest : List Statement) → StatementFails ch done b cause
      → statement_of ch n done nodes b (go_on n rest) ≡ Err (cause, n)
  statement_failed {done} narrowed n nodes rest (r.define {alias = alias} h) =
      ap (λ a. at_statement n a (λ d. go_on n rest (done ++ (alias, d.scope) ∷ []) (nodes ++ d.node ∷ []))) (define_failed ch schemas done narrowed alias h)
  statement_failed {done} narrowed n nodes rest (r.store h) = ap (λ a. at_statement n a (λ k. Ok (graph nodes k))) (store_failed ch schemas done narrowed h)

  fault_read : {script : List Statement} {cause : Cause} {n : ℕ} → FailsAt ch script cause n → plan_of script ch ≡ Err (cause, n)
  fault_read (r.statement {before = before} {nodes = nodes} x rest h failed) =
      ap (with_channels ch) (defined_read (x ∷ rest) h ∙ statement_failed (narrow h) (suc (length before)) nodes rest failed)
  fault_read (r.no_store {script = script} h) =
      ap (with_channels ch) (ap (λ ss. graph_of ss ch) (sym (append-nil script)) ∙ defined_read [] h)

  plan_found : (script : List Statement) (p : Plan) → plan_of script ch ≡ Ok p → IsPlanOf ch script p
  plan_found script p e = step (graph_of script ch) (settled script) e
    where
      step : (a : Answer_of) → Settles script a → with_channels ch a ≡ Ok p → IsPlanOf ch script p
      step (Ok g) h is = let same : plan ch g ≡ p = cc in subst (IsPlanOf ch script) same h
      step (Err f) h is = absurd cc

  fault_found : (script : List Statement) (cause : Cause) (n : ℕ) → plan_of script ch ≡ Err (cause, n) → FailsAt ch script cause n
  fault_found script cause n e = step (graph_of script ch) (settled script) e
    where
      step : (a : Answer_of) → Settles script a → with_channels ch a ≡ Err (cause, n) → FailsAt ch script cause n
      step (Ok g) h is = absurd cc
      step (Err f) h is =
          let same : f ≡ (cause, n) = cc in
          subst (λ (z : Place). FailsAt ch script z.0 z.1) same h

pub plans_are_forms : PlansAreForms
plans_are_forms ch schemas script p = (plan_found ch schemas script p, plan_read ch schemas)

pub faults_are_rows : FaultsAreRows
faults_are_rows ch schemas script cause n = (fault_found ch schemas script cause n, fault_read ch schemas)
