-- Catalogs of commits in order are readable.
use Rattle.std.proofs.Common.{◌≡◌, inl, inr, ℕ, ◌<◌, ◌^◌, Bool, true, false, List, [], ◌∷◌, length, Some, None, refl, ap, sym, ◌∙◌, subst, arith, if◌then◌else◌}
use Rattle.std.specs.List.{AllByRecursion}
use Rattle.nova_path.specs.Lists.{IsOneOf}
use Rattle.nova_path.specs.declared.interval.Interval.{Interval}
use Rattle.nova_meta.specs.Catalog.{Entered, allows, applied, blank, catalog_of, shelf_at, with_commits}
use Rattle.nova_meta.specs.Named.{Channel}
use Rattle.nova_meta.specs.Wired.{IsWiring}
use Rattle.nova_commit.specs.declared.commit.Commit.{Commit}
use Rattle.nova_commit.specs.declared.commit.Commit.TheVariants as commit
use Rattle.nova_meta.specs.declared.wiring.Wiring.{Wiring}
use Rattle.nova_meta.proofs.Allowed.{and_both}
use Rattle.nova_meta.specs.Sound.{IsSound}
use Rattle.nova_meta.proofs.Sound.{catalogs_are_sound}
use Rattle.nova_meta.proofs.Numbered.{blocks_are_numbered}
use Rattle.std.proofs.lemmas.List.{length-map}
use Rattle.nova_workflow.specs.declared.flow.Channel.{Channel as FlowChannel}
use Rattle.nova_machine.specs.Workflow.{Workflow}
use Rattle.nova_runner.specs.Held.{Held}
use Rattle.nova_runner.specs.Workflow.{wiring_of}
use Rattle.nova_runner.specs.Readable.{IsKept, IsReadable}
use Rattle.nova_runner.proofs.Timely.{timely}

all_one : (P : Interval → Type 0) (xs : List Interval) → ((x : Interval) → IsOneOf xs x → P x) → AllByRecursion P xs
all_one P [] each = tt
all_one P (x ∷ xs) each = (each x (inl refl), all_one P xs (λ y is. each y (inr is)))

pub readable : (w : Wiring) (commits : List Commit) (cat : Entered) → IsWiring w → catalog_of w commits ≡ Some cat → IsReadable cat
readable w commits cat wired is =
    let sound = catalogs_are_sound w commits cat wired is in
    let numbered = blocks_are_numbered w commits cat wired is in
    record {
      below = λ p named. numbered.below p.content p.block p.size named;
      numbered = λ c. all_one (λ (x : Interval). x.block < 2 ^ 62) (shelf_at cat c).intervals (λ x one. let lt = numbered.below (Channel c x.from x.to) x.block x.size one in let most = sound.bounded.next in omega (arith, lt, most));
      sound = subst (λ (v : Wiring). IsSound v cat) (sym sound.same) sound;
      timely = timely w commits cat is;
    }

pub wired : (w : Wiring) (commits : List Commit) (cat : Entered) → IsWiring w → catalog_of w commits ≡ Some cat → cat.wiring ≡ w
wired w commits cat right is = (catalogs_are_sound w commits cat right is).same

-- what was allowed is begun behind it
begins : (cat : Entered) (c : Commit) → allows cat c ≡ true → (applied cat c).begun ≡ true
begins cat (commit.Flow text) allowed = refl
begins cat (commit.Load c b z) allowed = (and_both cat.begun _ allowed).0
begins cat (commit.Tick m) allowed = (and_both cat.begun _ allowed).0
begins cat (commit.Run t vs m seen b z ps) allowed = (and_both cat.begun _ allowed).0
begins cat (commit.Joined c i j b z) allowed = (and_both cat.begun _ allowed).0
begins cat (commit.Collected kept) allowed = (and_both cat.begun _ allowed).0

none_stays : (cs : List Commit) (cat : Entered) → with_commits None cs ≡ Some cat → ⊥
none_stays [] cat is = cc
none_stays (c ∷ cs) cat is = none_stays cs cat is

begun_by : (old : Entered) (c : Commit) (cs : List Commit) (cat : Entered) (b : Bool) → allows old c ≡ b → with_commits (if b then Some (applied old c) else None) cs ≡ Some cat → cat.begun ≡ true
begun_by old c cs cat false not_so is = absurd (none_stays cs cat is)
begun_by old c [] cat true so is = ap (λ (k : Entered). k.begun) (sym (one (applied old c) cat is)) ∙ begins old c so
  where
    one : (f g : Entered) → Some f ≡ Some g → f ≡ g
    one f g e = cc
begun_by old c (d ∷ ds) cat true so is = begun_by (applied old c) d ds cat (allows (applied old c) d) refl is

pub begun : (w : Wiring) (c : Commit) (cs : List Commit) (cat : Entered) → catalog_of w (c ∷ cs) ≡ Some cat → cat.begun ≡ true
begun w c cs cat is = begun_by (blank w) c cs cat (allows (blank w) c) refl is

-- a store has the channels of its workflow
pub same_count : (f : Workflow) → length (wiring_of f).writers ≡ length f.channels
unfolding wiring_of
same_count f = length-map f.channels (λ (x : FlowChannel). x.writer)

pub in_range : (held : Held) (c : ℕ) → IsKept held → c < length held.flow.channels → c < length held.catalog.channels
in_range held c kept lt =
    let many = kept.readable.sound.entered.channels in
    let same = ap (λ (w : Wiring). length w.writers) kept.wired in
    let long = same_count held.flow in
    omega (arith, lt, many, same, long)
