-- No task's last run is later than the clock.
use Rattle.std.proofs.Common.{◌≡◌, ◌≤◌, Bool, true, false, List, [], ◌∷◌, Some, None, refl, sym, subst, arith, if◌then◌else◌}
use Rattle.std.specs.Prelude.{nat_le}
use Rattle.std.proofs.lemmas.Bool.Decides.{nat_tests}
use Rattle.nova_commit.specs.declared.commit.Commit.{Commit}
use Rattle.nova_commit.specs.declared.commit.Commit.TheVariants as commit
use Rattle.nova_meta.specs.declared.progress.Progress.{Progress}
use Rattle.nova_meta.specs.declared.wiring.Wiring.{Wiring}
use Rattle.nova_meta.specs.Catalog.{Entered, allows, applied, blank, catalog_of, is_task, is_timely, last_moment, next_progress, no_run, progress_at, with_commits}
use Rattle.nova_meta.proofs.Allowed.{and_both}
use Rattle.nova_machine.proofs.Growth.{at_set}
use Rattle.nova_machine.proofs.Kept.{same_everywhere}
use Rattle.nova_runner.specs.Readable.{IsTimely}

none_stays : (cs : List Commit) (cat : Entered) → with_commits None cs ≡ Some cat → ⊥
none_stays [] cat is = cc
none_stays (c ∷ cs) cat is = none_stays cs cat is

-- a commit that is allowed keeps it so
pub timely_more : (cat : Entered) (c : Commit) → IsTimely cat → allows cat c ≡ true → IsTimely (applied cat c)
timely_more cat (commit.Flow text) is allowed = is
timely_more cat (commit.Load c b z) is allowed = is
timely_more cat (commit.Tick m) is allowed = λ t.
    let later : nat_le cat.moment m ≡ true = (and_both cat.begun _ allowed).1 in
    let before = is t in
    let up : cat.moment ≤ m = grind (arith, nat_tests) in
    omega (arith, before, up)
timely_more cat (commit.Run t vs m seen b z ps) is allowed =
    let may = (and_both (is_task cat t) _ (and_both cat.begun _ allowed).1).1 in
    let timely = (and_both (is_timely cat t m seen) _ may).0 in
    let here : nat_le m cat.moment ≡ true = (and_both (nat_le m cat.moment) _ (and_both (nat_le (last_moment (progress_at cat t).last) m) _ timely).1).0 in
    at_set (λ n (p : Progress). last_moment p.last ≤ cat.moment) cat.tasks t (next_progress (progress_at cat t) vs m seen ps) no_run is (grind (arith, nat_tests))
timely_more cat (commit.Joined c i j b z) is allowed = is
timely_more cat (commit.Collected kept) is allowed = is

timely_by : (old : Entered) (c : Commit) (cs : List Commit) (cat : Entered) (b : Bool) → IsTimely old → allows old c ≡ b → with_commits (if b then Some (applied old c) else None) cs ≡ Some cat → IsTimely cat
timely_by old c cs cat false is not_so made = absurd (none_stays cs cat made)
timely_by old c [] cat true is so made = subst IsTimely (one (applied old c) cat made) (timely_more old c is so)
  where
    one : (f g : Entered) → Some f ≡ Some g → f ≡ g
    one f g e = cc
timely_by old c (d ∷ ds) cat true is so made = timely_by (applied old c) d ds cat (allows (applied old c) d) (timely_more old c is so) refl made

pub blank_timely : (w : Wiring) → IsTimely (blank w)
blank_timely w t = subst (λ (p : Progress). last_moment p.last ≤ 0) (sym (same_everywhere w.tasks t no_run)) (omega arith)

-- so it is with each catalog of commits in order
pub timely : (w : Wiring) (commits : List Commit) (cat : Entered) → catalog_of w commits ≡ Some cat → IsTimely cat
timely w [] cat made = subst IsTimely (one (blank w) cat made) (blank_timely w)
  where
    one : (f g : Entered) → Some f ≡ Some g → f ≡ g
    one f g e = cc
timely w (c ∷ cs) cat made = timely_by (blank w) c cs cat (allows (blank w) c) (blank_timely w) refl made
