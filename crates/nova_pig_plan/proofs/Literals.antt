-- Literals that are values: the equations of `has_values`, one per variant, and lists with one more.
use Rattle.std.proofs.Common.{◌≡◌, ℕ, ℤ, List, [], ◌∷◌, ◌++◌, Bool, true, false, ◌&&◌, Option, refl, ap, sym, subst, ◌∙◌}
use Rattle.std.specs.Cmp.Derive.{both_true}
use Rattle.nova_pig_tree.specs.declared.expression.CallKind.{CallKind}
use Rattle.nova_pig_tree.specs.declared.expression.CompareOp.{CompareOp}
use Rattle.nova_pig_algebra.specs.declared.node.PlanExpr.{PlanExpr}
use Rattle.nova_pig_algebra.specs.declared.node.PlanExpr.TheOpen.{PlanExpr-F}
use Rattle.nova_pig_algebra.specs.declared.node.PlanExpr.TheVariants as p
use Rattle.nova_pig_algebra.specs.declared.node.PlanExpr.TheFolds.{fold-roll-PlanExpr}
use Rattle.nova_pig_algebra.specs.declared.node.Node.{Node}
use Rattle.nova_pig_algebra.specs.Literals.{is_long, is_text, has_values, literals_step, all_have_values, node_has_values, nodes_have_values}

has-Num : (n : ℤ) → has_values (p.Num n) ≡ literals_step (PlanExpr-F.Num n)
unfolding has_values
has-Num n = ap has_values (sym (p.rolls-Num n)) ∙ fold-roll-PlanExpr Bool literals_step (PlanExpr-F.Num n)

has-Lit : (t : List ℕ) → has_values (p.Lit t) ≡ literals_step (PlanExpr-F.Lit t)
unfolding has_values
has-Lit t = ap has_values (sym (p.rolls-Lit t)) ∙ fold-roll-PlanExpr Bool literals_step (PlanExpr-F.Lit t)

has-Column : (k : ℕ) → has_values (p.Column k) ≡ literals_step (PlanExpr-F.Column k)
unfolding has_values
has-Column k = ap has_values (sym (p.rolls-Column k)) ∙ fold-roll-PlanExpr Bool literals_step (PlanExpr-F.Column k)

has-GroupColumn : (k : ℕ) → has_values (p.GroupColumn k) ≡ literals_step (PlanExpr-F.GroupColumn k)
unfolding has_values
has-GroupColumn k = ap has_values (sym (p.rolls-GroupColumn k)) ∙ fold-roll-PlanExpr Bool literals_step (PlanExpr-F.GroupColumn k)

has-Agg : (c : CallKind) (k : Option ℕ) → has_values (p.Agg c k) ≡ literals_step (PlanExpr-F.Agg c k)
unfolding has_values
has-Agg c k = ap has_values (sym (p.rolls-Agg c k)) ∙ fold-roll-PlanExpr Bool literals_step (PlanExpr-F.Agg c k)

has-Neg : (a : PlanExpr) → has_values (p.Neg a) ≡ literals_step (PlanExpr-F.Neg (has_values a))
unfolding has_values
has-Neg a = ap has_values (sym (p.rolls-Neg a)) ∙ fold-roll-PlanExpr Bool literals_step (PlanExpr-F.Neg a)

has-Not : (a : PlanExpr) → has_values (p.Not a) ≡ literals_step (PlanExpr-F.Not (has_values a))
unfolding has_values
has-Not a = ap has_values (sym (p.rolls-Not a)) ∙ fold-roll-PlanExpr Bool literals_step (PlanExpr-F.Not a)

has-Add : (a b : PlanExpr) → has_values (p.Add a b) ≡ literals_step (PlanExpr-F.Add (has_values a) (has_values b))
unfolding has_values
has-Add a b = ap has_values (sym (p.rolls-Add a b)) ∙ fold-roll-PlanExpr Bool literals_step (PlanExpr-F.Add a b)

has-Sub : (a b : PlanExpr) → has_values (p.Sub a b) ≡ literals_step (PlanExpr-F.Sub (has_values a) (has_values b))
unfolding has_values
has-Sub a b = ap has_values (sym (p.rolls-Sub a b)) ∙ fold-roll-PlanExpr Bool literals_step (PlanExpr-F.Sub a b)

has-Mul : (a b : PlanExpr) → has_values (p.Mul a b) ≡ literals_step (PlanExpr-F.Mul (has_values a) (has_values b))
unfolding has_values
has-Mul a b = ap has_values (sym (p.rolls-Mul a b)) ∙ fold-roll-PlanExpr Bool literals_step (PlanExpr-F.Mul a b)

has-And : (a b : PlanExpr) → has_values (p.And a b) ≡ literals_step (PlanExpr-F.And (has_values a) (has_values b))
unfolding has_values
has-And a b = ap has_values (sym (p.rolls-And a b)) ∙ fold-roll-PlanExpr Bool literals_step (PlanExpr-F.And a b)

has-Or : (a b : PlanExpr) → has_values (p.Or a b) ≡ literals_step (PlanExpr-F.Or (has_values a) (has_values b))
unfolding has_values
has-Or a b = ap has_values (sym (p.rolls-Or a b)) ∙ fold-roll-PlanExpr Bool literals_step (PlanExpr-F.Or a b)

has-If : (c a b : PlanExpr) → has_values (p.If c a b) ≡ literals_step (PlanExpr-F.If (has_values c) (has_values a) (has_values b))
unfolding has_values
has-If c a b = ap has_values (sym (p.rolls-If c a b)) ∙ fold-roll-PlanExpr Bool literals_step (PlanExpr-F.If c a b)

has-Compare : (op : CompareOp) (a b : PlanExpr) → has_values (p.Compare op a b) ≡ literals_step (PlanExpr-F.Compare op (has_values a) (has_values b))
unfolding has_values
has-Compare op a b = ap has_values (sym (p.rolls-Compare op a b)) ∙ fold-roll-PlanExpr Bool literals_step (PlanExpr-F.Compare op a b)

-- ---- an expression whose parts have values has values
pub num : (n : ℤ) → is_long n ≡ true → has_values (p.Num n) ≡ true
num n h = has-Num n ∙ h

pub lit : (t : List ℕ) → is_text t ≡ true → has_values (p.Lit t) ≡ true
lit t h = has-Lit t ∙ h

pub col : (k : ℕ) → has_values (p.Column k) ≡ true
col k = has-Column k

pub group_col : (k : ℕ) → has_values (p.GroupColumn k) ≡ true
group_col k = has-GroupColumn k

pub agg : (c : CallKind) (k : Option ℕ) → has_values (p.Agg c k) ≡ true
agg c k = has-Agg c k

pub neg : (a : PlanExpr) → has_values a ≡ true → has_values (p.Neg a) ≡ true
neg a h = has-Neg a ∙ h

pub negated : (a : PlanExpr) → has_values a ≡ true → has_values (p.Not a) ≡ true
negated a h = has-Not a ∙ h

pub add : (a b : PlanExpr) → has_values a ≡ true → has_values b ≡ true → has_values (p.Add a b) ≡ true
add a b h g = has-Add a b ∙ both_true h g

pub sub : (a b : PlanExpr) → has_values a ≡ true → has_values b ≡ true → has_values (p.Sub a b) ≡ true
sub a b h g = has-Sub a b ∙ both_true h g

pub mul : (a b : PlanExpr) → has_values a ≡ true → has_values b ≡ true → has_values (p.Mul a b) ≡ true
mul a b h g = has-Mul a b ∙ both_true h g

pub compare : (op : CompareOp) (a b : PlanExpr) → has_values a ≡ true → has_values b ≡ true → has_values (p.Compare op a b) ≡ true
compare op a b h g = has-Compare op a b ∙ both_true h g

pub and : (a b : PlanExpr) → has_values a ≡ true → has_values b ≡ true → has_values (p.And a b) ≡ true
and a b h g = has-And a b ∙ both_true h g

pub or : (a b : PlanExpr) → has_values a ≡ true → has_values b ≡ true → has_values (p.Or a b) ≡ true
or a b h g = has-Or a b ∙ both_true h g

pub choice : (c a b : PlanExpr) → has_values c ≡ true → has_values a ≡ true → has_values b ≡ true → has_values (p.If c a b) ≡ true
choice c a b f h g = has-If c a b ∙ both_true f (both_true h g)

-- ---- lists
sides : (a b : Bool) → (a && b) ≡ true → (a ≡ true) × (b ≡ true)
sides true b e = (refl, e)
sides false b e = absurd cc

-- one expression more
all_more : (es : List PlanExpr) (e : PlanExpr) → all_have_values es ≡ true → has_values e ≡ true → all_have_values (es ++ e ∷ []) ≡ true
all_more [] e h g = both_true g refl
all_more (x ∷ es) e h g = let p = sides (has_values x) (all_have_values es) h in both_true p.0 (all_more es e p.1 g)

-- one node more
nodes_more : (ns : List Node) (n : Node) → nodes_have_values ns ≡ true → node_has_values n ≡ true → nodes_have_values (ns ++ n ∷ []) ≡ true
nodes_more [] n h g = both_true g refl
nodes_more (x ∷ ns) n h g = let p = sides (node_has_values x) (nodes_have_values ns) h in both_true p.0 (nodes_more ns n p.1 g)

-- ---- what a push makes
pub all_pushed : (new old : List PlanExpr) (e : PlanExpr) → new ≡ old ++ e ∷ [] → all_have_values old ≡ true → has_values e ≡ true → all_have_values new ≡ true
all_pushed new old e is h g = subst (λ z. all_have_values z ≡ true) (sym is) (all_more old e h g)

pub nodes_pushed : (new old : List Node) (n : Node) → new ≡ old ++ n ∷ [] → nodes_have_values old ≡ true → node_has_values n ≡ true → nodes_have_values new ≡ true
nodes_pushed new old n is h g = subst (λ z. nodes_have_values z ≡ true) (sym is) (nodes_more old n h g)
