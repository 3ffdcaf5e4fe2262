-- Steps in turn: their commits, the catalog behind them, and what they read.
use Rattle.std.proofs.Common.{◌≡◌, ◌+◌, Bool, true, false, List, [], ◌∷◌, ◌++◌, Option, Some, None, if◌then◌else◌, refl, sym, ap, ◌∙◌, append_assoc, arith}
use Rattle.std.proofs.lemmas.List.{append-nil}
use Rattle.nova_commit.specs.declared.commit.Commit.{Commit}
use Rattle.nova_meta.specs.Catalog.{Entered, allows, applied, with_commit}
use Rattle.nova_meta.specs.Named.{IsCatalogOf}
use Rattle.nova_meta.specs.declared.wiring.Wiring.{Wiring}
use Rattle.nova_meta.proofs.Once.{commits_compose}
use Rattle.nova_machine.specs.State.{State}
use Rattle.nova_machine.specs.Steps.{Step, after, after_all}
use Rattle.nova_runner.specs.Acts.{behind, catalog_behind, own_commit}
use Rattle.nova_engine.specs.Turns.{catalog_after, own_commits, read_sizes}

pub own_commits-append : (cat : Entered) (s : State) (xs ys : List Step) → own_commits cat s (xs ++ ys) ≡ own_commits cat s xs ++ own_commits (catalog_after cat s xs) (after_all s xs) ys
own_commits-append cat s [] ys = refl
own_commits-append cat s (x ∷ xs) ys =
    let own = own_commit cat s x in
    ap (λ cs. behind [] own ++ cs) (own_commits-append (catalog_behind cat own) (after s x) xs ys)
    ∙ sym (append_assoc (behind [] own) (own_commits (catalog_behind cat own) (after s x) xs) (own_commits (catalog_after (catalog_behind cat own) (after s x) xs) (after_all (after s x) xs) ys))

pub catalog_after-append : (cat : Entered) (s : State) (xs ys : List Step) → catalog_after cat s (xs ++ ys) ≡ catalog_after (catalog_after cat s xs) (after_all s xs) ys
catalog_after-append cat s [] ys = refl
catalog_after-append cat s (x ∷ xs) ys = catalog_after-append (catalog_behind cat (own_commit cat s x)) (after s x) xs ys

pub read_sizes-append : (cat : Entered) (s : State) (xs ys : List Step) → read_sizes cat s (xs ++ ys) ≡ read_sizes cat s xs + read_sizes (catalog_after cat s xs) (after_all s xs) ys
read_sizes-append cat s [] ys = omega arith
read_sizes-append cat s (x ∷ xs) ys =
    let more = read_sizes-append (catalog_behind cat (own_commit cat s x)) (after s x) xs ys in
    omega (arith, more)

-- a step's own commit behind the others
pub behind_is : (commits : List Commit) (own : Option Commit) → behind commits own ≡ commits ++ (behind [] own ++ [])
behind_is commits None = sym (append-nil commits)
behind_is commits (Some c) = refl

-- the catalog of commits with one more behind them
one_more : (cat new : Entered) (c : Commit) (b : Bool) → (if b then Some (applied cat c) else None) ≡ Some new → new ≡ applied cat c
one_more cat new c true is = some (applied cat c) new is
  where
    some : (f g : Entered) → Some f ≡ Some g → g ≡ f
    some f g e = cc
one_more cat new c false is = absurd (cc)

pub next_catalog : (w : Wiring) (commits : List Commit) (cat new : Entered) (own : Option Commit) → IsCatalogOf w commits cat → IsCatalogOf w (behind commits own) new → new ≡ catalog_behind cat own
next_catalog w commits cat new None was now = same cat new (sym was.is ∙ now.is)
  where
    same : (f g : Entered) → Some f ≡ Some g → g ≡ f
    same f g e = cc
next_catalog w commits cat new (Some c) was now =
    one_more cat new c (allows cat c) (ap (λ o. with_commit o c) (sym was.is) ∙ sym (commits_compose w commits c) ∙ now.is)
