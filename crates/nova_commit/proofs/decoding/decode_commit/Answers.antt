use Rattle.std.proofs.Common.{◌≡◌, List, Option, Some, None, Result, Ok, Err, ℕ, sym, ap, subst, ◌∙◌, arith}
use Rattle.std.specs.Result.{IfOk}
use Rattle.nova_commit.specs.declared.fault.MetaFault.{MetaFault}
use Rattle.nova_commit.specs.declared.fault.MetaFault.TheVariants.{BadRecord}
use Rattle.nova_commit.specs.declared.commit.Commit.{Commit}
use Rattle.nova_commit.specs.Commits.{Fits, commit_bytes}
use Rattle.nova_commit.specs.Fields.{Gives, commit_of}
use Rattle.nova_commit.proofs.Items.{IsBytes}
use Rattle.nova_commit.proofs.Reading.{commit_takes, commit_again}
use Rattle.nova_commit.proofs.decoding.decode_commit.Goals as goal

is_found : (bytes : List ℕ) (r : Result Commit MetaFault) → IsBytes bytes → Gives (λ a. a) r (commit_of bytes) → IfOk r (λ commit. Fits commit × (bytes ≡ commit_bytes commit))
is_found bytes (Ok c) fits given = let t = commit_takes bytes c fits given in (t.1, t.0)
is_found bytes (Err e) fits given = tt

never_some : (commit : Commit) → ◌≡◌ {A = Option Commit} None (Some commit) → ⊥
never_some commit h = cc

none_spelled : (bytes : List ℕ) (r : Result Commit MetaFault) → Gives (λ a. a) r (commit_of bytes) → r ≡ Err BadRecord → (commit : Commit) → Fits commit → bytes ≡ commit_bytes commit → ⊥
none_spelled bytes r given e commit fits is =
    let none : commit_of bytes ≡ None = subst (λ (x : Result Commit MetaFault). Gives (λ a. a) x (commit_of bytes)) e given in
    never_some commit (sym none ∙ ap commit_of is ∙ commit_again commit fits)

pub returns-clause-found : goal.returns-clause-found
returns-clause-found c = is_found c.args.bytes.now c.commit_from.result (λ i. omega (arith, c.type_inv.bytes i)) c.commit_from.ensures

pub returns-clause-refused : goal.returns-clause-refused
returns-clause-refused c = none_spelled c.args.bytes.now c.commit_from.result c.commit_from.ensures
