-- The fields of a row plan's output keys are columns of its main input's key, and constants.
use Rattle.std.specs.Prelude.{◌≡◌, ◌⊎◌, ℕ, true, List, [], ◌∷◌, map, length, Option, Some, refl}
use Rattle.std.proofs.Common.{ap, sym, ◌∙◌, inl, inr, subst}
use Rattle.nova_value.specs.declared.value.Value.{Value}
use Rattle.nova_value.specs.Rows.{Shape}
use Rattle.nova_pig_algebra.specs.declared.node.PlanExpr.{PlanExpr}
use Rattle.nova_pig_algebra.specs.Tree.{Tree, Nothing, Load, Filter, Foreach, Grouped, Join, Union, Distinct, Arms, End, Arm}
use Rattle.nova_pig_algebra.specs.Keys.{Plain, Column, By, Constant, Computed, is_column, places_of, with_column, column_set, constant_at, item_constant, item_constants, unknowns, in_arms, are_apart, shape_at, facts, arm_facts}
use Rattle.nova_pig_algebra.specs.Plan.{Plan, tree_of_plan}
use Rattle.nova_pig_algebra.specs.Statements.{In, Every}
use Rattle.nova_pig_algebra.proofs.Keyed.{union_parts, foreach_parts, apart_parts}
use Rattle.nova_pig_algebra.proofs.Lists.{every_more}
use Rattle.nova_pig_algebra.proofs.Sets.{in_with, set_in}
use Rattle.nova_pig_pattern.specs.Shapes.{IsStateless, AreStateless, IsLookup}
use Rattle.nova_pig_pattern.specs.Tests.{has_join}
use Rattle.nova_admit.specs.Shaped.{IsRowPlan}
use Rattle.nova_rowwise.specs.Sources.{item_at, through, as_fields}
use Rattle.nova_rowwise.specs.Derived.{main_of}
use Rattle.nova_rowwise.proofs.Kept.{comes_from}
use Rattle.nova_rowwise.proofs.Origins.{set_from, stateless_main, lookup_main}
use Rattle.nova_rowwise.proofs.Paths.{EachKey, each_has, item_of_constant, left_key, none_there, placed_at}

every_map : {X Y : Type 0} (P : Y → Type 0) (f : X → Y) (xs : List X) → Every (λ x. P (f x)) xs → Every P (map f xs)
every_map P f [] all = tt
every_map P f (x ∷ xs) all = (all.0, every_map P f xs all.1)

-- a column or a constant
abbrev pub IsPlain : Plain → Type 0
IsPlain (Column c) = Unit {0}
IsPlain (Constant v) = Unit {0}
IsPlain (By c) = ⊥
IsPlain Computed = ⊥

module _ (inputs : List Shape) (main : ℕ) where
  -- a column of the main input's key, or a constant
  abbrev pub IsKeyField : Plain → Type 0
  IsKeyField (Column c) = In c (shape_at inputs main).key
  IsKeyField (Constant v) = Unit {0}
  IsKeyField (By c) = ⊥
  IsKeyField Computed = ⊥

  abbrev mutual
    -- each path leads these fields to the main input's key, and to constants
    pub Leads : Tree → List Plain → Type 0
    Leads (Load i) fs = (i ≡ main) × Every IsKeyField fs
    Leads (Filter from cond) fs = Leads from fs
    Leads (Foreach from items) fs = Every (λ p. IsPlain (through items p)) fs × Leads from (map (through items) fs)
    Leads (Join left left_by right right_by) fs = Leads left fs
    Leads (Union arms) fs = LeadArms arms fs
    Leads Nothing fs = Unit {0}
    Leads (Grouped from columns items) fs = Unit {0}
    Leads (Distinct from) fs = Unit {0}

    pub LeadArms : Arms → List Plain → Type 0
    LeadArms End fs = Unit {0}
    LeadArms (Arm arm arms) fs = Leads arm fs × LeadArms arms fs

  -- a column of the key, a constant column, or a constant
  abbrev Told : List (Option Value) → List ℕ → Plain → Type 0
  Told cs key (Column c) = In c key ⊎ ((v : Value) × (constant_at cs c ≡ Some v))
  Told cs key (Constant v) = Unit {0}
  Told cs key (By c) = ⊥
  Told cs key Computed = ⊥

  -- a column of the key
  abbrev InKey : List ℕ → Plain → Type 0
  InKey key (Column c) = In c key
  InKey key (Constant v) = ⊥
  InKey key (By c) = ⊥
  InKey key Computed = ⊥

  column_through : (items : List PlanExpr) (own key : List ℕ) → places_of is_column items own ≡ Some key → (c : ℕ) → In c key → (k : ℕ) × In k own × (item_at items c ≡ Column k)
  column_through items own key e c i = let r = comes_from items own key e c i in (r.0, r.1, placed_at inputs main [] [] r.0 items c r.2)

  abbrev Next : List (Option Value) → List ℕ → Plain → Type 0
  Next cs own q = IsPlain q × Told cs own q

  constant_through : (cs : List (Option Value)) (own : List ℕ) (v : Value) (q : Plain) → item_constant cs q ≡ Some v → Next cs own q
  constant_through cs own v (Column k) e = (tt, inr (v, e))
  constant_through cs own v (Constant w) e = (tt, tt)
  constant_through cs own v (By k) e = absurd cc
  constant_through cs own v Computed e = absurd cc

  told_through : (items : List PlanExpr) (cs : List (Option Value)) (own key : List ℕ) → places_of is_column items own ≡ Some key → (p : Plain) → Told (item_constants cs items) key p → Next cs own (through items p)
  told_through items cs own key e (Column c) (inl i) = let r = column_through items own key e c i in subst (Next cs own) (sym r.2) (tt, inl r.1)
  told_through items cs own key e (Column c) (inr h) = constant_through cs own h.0 (item_at items c) (item_of_constant cs items c h.0 h.1)
  told_through items cs own key e (Constant v) h = (tt, tt)
  told_through items cs own key e (By c) h = absurd h
  told_through items cs own key e Computed h = absurd h

  in_key_through : (items : List PlanExpr) (own key : List ℕ) → places_of is_column items own ≡ Some key → (p : Plain) → InKey key p → IsPlain (through items p) × InKey own (through items p)
  in_key_through items own key e (Column c) i = let r = column_through items own key e c i in subst (λ q. IsPlain q × InKey own q) (sym r.2) (tt, r.1)
  in_key_through items own key e (Constant v) h = absurd h
  in_key_through items own key e (By c) h = absurd h
  in_key_through items own key e Computed h = absurd h

  at_load : (n : ℕ) → n ≡ main → (key : List ℕ) → column_set (shape_at inputs n).key ≡ key → (c : ℕ) → In c key → In c (shape_at inputs main).key
  at_load n is key its c i = subst (λ m. In c (shape_at inputs m).key) is (set_from c (shape_at inputs n).key (subst (In c) (sym its) i))

  told_at_load : (n : ℕ) → n ≡ main → (key : List ℕ) → column_set (shape_at inputs n).key ≡ key → (p : Plain) → Told (facts inputs (Load n)).constants key p → IsKeyField p
  told_at_load n is key its (Column c) (inl i) = at_load n is key its c i
  told_at_load n is key its (Column c) (inr h) = absurd (none_there (length (shape_at inputs n).columns) c h.0 h.1)
  told_at_load n is key its (Constant v) h = tt
  told_at_load n is key its (By c) h = absurd h
  told_at_load n is key its Computed h = absurd h

  in_key_at_load : (n : ℕ) → n ≡ main → (key : List ℕ) → column_set (shape_at inputs n).key ≡ key → (p : Plain) → InKey key p → IsKeyField p
  in_key_at_load n is key its (Column c) i = at_load n is key its c i
  in_key_at_load n is key its (Constant v) h = absurd h
  in_key_at_load n is key its (By c) h = absurd h
  in_key_at_load n is key its Computed h = absurd h

  -- in each arm the column that tells arms apart is constant
  told_in_arm : (n : ℕ) (cs : List (Option Value)) (own key : List ℕ) (column : ℕ) (v : Value) → constant_at cs column ≡ Some v → with_column column own ≡ key → (p : Plain) → Told (unknowns n) key p → Told cs own p
  told_in_arm n cs own key column v has is (Column c) (inl i) = go (in_with c column own (subst (In c) (sym is) i))
    where
      go : (c ≡ column) ⊎ In c own → Told cs own (Column c)
      go (inl same) = inr (v, ap (constant_at cs) same ∙ has)
      go (inr j) = inl j
  told_in_arm n cs own key column v has is (Column c) (inr h) = absurd (none_there n c h.0 h.1)
  told_in_arm n cs own key column v has is (Constant w) h = tt
  told_in_arm n cs own key column v has is (By c) h = absurd h
  told_in_arm n cs own key column v has is Computed h = absurd h

  mutual
    pub stateless_leads : (t : Tree) → IsStateless main t → (key : List ℕ) → (facts inputs t).key ≡ Some key → (fs : List Plain) → Every (Told (facts inputs t).constants key) fs → Leads t fs
    stateless_leads (Load n) w key e fs all = let its : column_set (shape_at inputs n).key ≡ key = cc in (w, every_more (Told (facts inputs (Load n)).constants key) IsKeyField fs all (λ p i h. told_at_load n w key its p h))
    stateless_leads (Filter from cond) w key e fs all = stateless_leads from w key e fs all
    stateless_leads (Foreach from items) w key e fs all =
        let p = foreach_parts items (facts inputs from).key key e in
        let cs = (facts inputs from).constants in (
          every_more (Told (item_constants cs items) key) (λ q. IsPlain (through items q)) fs all (λ q i h. (told_through items cs p.0 key p.2 q h).0),
          stateless_leads from w p.0 p.1 (map (through items) fs)
              (every_map (Told cs p.0) (through items) fs (every_more (Told (item_constants cs items) key) (λ q. Told cs p.0 (through items q)) fs all (λ q i h. (told_through items cs p.0 key p.2 q h).1))),
        )
    stateless_leads (Union End) w key e fs all = tt
    stateless_leads (Union (Arm arm arms)) w key e fs all =
        let u = union_parts (facts inputs arm) (arm_facts inputs arms) key e in
        arms_lead (length (facts inputs arm).constants) (Arm arm arms) w u.own u.column key (u.first_key, each_has inputs main [] [] u.own (arm_facts inputs arms) u.others) u.apart u.is fs all
    stateless_leads Nothing w key e fs all = absurd w
    stateless_leads (Grouped from columns items) w key e fs all = absurd w
    stateless_leads (Join left left_by right right_by) w key e fs all = absurd w
    stateless_leads (Distinct from) w key e fs all = absurd w

    arms_lead : (n : ℕ) (arms : Arms) → AreStateless main arms → (own : List ℕ) (column : ℕ) (key : List ℕ) → EachKey inputs main [] [] own (arm_facts inputs arms) → are_apart (in_arms column (arm_facts inputs arms)) ≡ true
        → with_column column own ≡ key → (fs : List Plain) → Every (Told (unknowns n) key) fs → LeadArms arms fs
    arms_lead n End w own column key have apart is fs all = tt
    arms_lead n (Arm arm arms) w own column key have apart is fs all =
        let a = apart_parts (constant_at (facts inputs arm).constants column) (in_arms column (arm_facts inputs arms)) apart in (
          stateless_leads arm w.0 own have.0 fs (every_more (Told (unknowns n) key) (Told (facts inputs arm).constants own) fs all (λ q i h. told_in_arm n (facts inputs arm).constants own key column a.0 a.1 is q h)),
          arms_lead n arms w.1 own column key have.1 a.3 is fs all,
        )

  pub lookup_leads : (t : Tree) → IsLookup inputs main t → (key : List ℕ) → (facts inputs t).key ≡ Some key → (fs : List Plain) → Every (InKey key) fs → Leads t fs
  lookup_leads (Load n) w key e fs all = let its : column_set (shape_at inputs n).key ≡ key = cc in (w, every_more (InKey key) IsKeyField fs all (λ p i h. in_key_at_load n w key its p h))
  lookup_leads (Filter from cond) w key e fs all = lookup_leads from w key e fs all
  lookup_leads (Foreach from items) w key e fs all =
      let p = foreach_parts items (facts inputs from).key key e in (
        every_more (InKey key) (λ q. IsPlain (through items q)) fs all (λ q i h. (in_key_through items p.0 key p.2 q h).0),
        lookup_leads from w p.0 p.1 (map (through items) fs) (every_map (InKey p.0) (through items) fs (every_more (InKey key) (λ q. InKey p.0 (through items q)) fs all (λ q i h. (in_key_through items p.0 key p.2 q h).1))),
      )
  lookup_leads (Join left left_by right right_by) w key e fs all =
      lookup_leads left w.0 key (left_key inputs main [] [] (facts inputs left).key (facts inputs right).key right_by (length (facts inputs left).constants) key w.1.1 e) fs all
  lookup_leads (Union arms) w key e fs all = absurd w
  lookup_leads Nothing w key e fs all = absurd w
  lookup_leads (Grouped from columns items) w key e fs all = absurd w
  lookup_leads (Distinct from) w key e fs all = absurd w

  -- the key's columns are in the key
  pub columns_told : (cs : List (Option Value)) (key : List ℕ) (ks : List ℕ) → ((c : ℕ) → In c ks → In c key) → Every (Told cs key) (as_fields ks)
  columns_told cs key [] within = tt
  columns_told cs key (c ∷ ks) within = (inl (within c (inl refl)), columns_told cs key ks (λ d i. within d (inr i)))

  pub columns_in : (key : List ℕ) (ks : List ℕ) → ((c : ℕ) → In c ks → In c key) → Every (InKey key) (as_fields ks)
  columns_in key [] within = tt
  columns_in key (c ∷ ks) within = (within c (inl refl), columns_in key ks (λ d i. within d (inr i)))

-- the fields of a row plan's output keys
pub plan_leads : (p : Plan) → IsRowPlan p → Leads p.inputs (main_of (tree_of_plan p)) (tree_of_plan p) (as_fields p.output.key)
plan_leads p is = go is.shape
  where
    key : List ℕ
    key = column_set p.output.key

    go : IsStateless 0 (tree_of_plan p) ⊎ ((main : ℕ) × IsLookup p.inputs main (tree_of_plan p) × (has_join (tree_of_plan p) ≡ true)) → Leads p.inputs (main_of (tree_of_plan p)) (tree_of_plan p) (as_fields p.output.key)
    go (inl w) = subst (λ n. Leads p.inputs n (tree_of_plan p) (as_fields p.output.key)) (sym (stateless_main (tree_of_plan p) w))
        (stateless_leads p.inputs 0 (tree_of_plan p) w key is.key (as_fields p.output.key) (columns_told p.inputs 0 (facts p.inputs (tree_of_plan p)).constants key p.output.key (λ c i. set_in c p.output.key i)))
    go (inr w) = subst (λ n. Leads p.inputs n (tree_of_plan p) (as_fields p.output.key)) (sym (lookup_main p.inputs w.0 (tree_of_plan p) w.1))
        (lookup_leads p.inputs w.0 (tree_of_plan p) w.1 key is.key (as_fields p.output.key) (columns_in p.inputs w.0 key p.output.key (λ c i. set_in c p.output.key i)))
