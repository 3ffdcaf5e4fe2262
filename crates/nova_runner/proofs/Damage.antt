-- Files that aren't a store's.
use Rattle.std.proofs.Common.{◌≡◌, ◌≢◌, ◌⊎◌, inl, inr, ℕ, ◌+◌, Bool, true, false, List, [], ◌∷◌, ◌++◌, length, map, Option, Some, None, refl, ap, sym, ◌∙◌, subst, if◌then◌else◌}
use Rattle.std.specs.List.{AllByRecursion}
use Rattle.nova_outside.specs.Disk.{Files}
use Rattle.nova_journal.specs.Fault.{IsDamaged}
use Rattle.nova_journal.specs.Log.{IsLog, Log, ReadTo, records}
use Rattle.nova_journal.specs.Marks.{IsMark}
use Rattle.nova_journal.proofs.OneWay.{one_place, whole_or_damaged}
use Rattle.nova_commit.specs.Commits.{Fits, commit_bytes}
use Rattle.nova_commit.specs.declared.commit.Commit.{Commit}
use Rattle.nova_commit.specs.declared.commit.Commit.TheVariants as commit
use Rattle.nova_commit.proofs.Reading.{spelled_once}
use Rattle.nova_meta.specs.Catalog.{Entered, allows, applied, blank, catalog_of, with_commit, with_commits}
use Rattle.nova_meta.specs.Named.{IsCatalogOf}
use Rattle.nova_machine.specs.Workflow.{Workflow}
use Rattle.nova_machine.specs.State.{State, ended}
use Rattle.nova_runner.specs.Files.{journal_file}
use Rattle.nova_runner.specs.Opening.{AreInOrder, AreTaken, HasBadPayload, IsFirstRefused, IsRefused, NoBadStore, NoStoreThere, OneBadStore}
use Rattle.nova_runner.specs.Stands.{Agrees, FilesStandBut}
use Rattle.nova_runner.specs.Texts.{HasFlow}
use Rattle.nova_runner.specs.Workflow.{wiring_of}
use Rattle.nova_runner.proofs.Marks.{none_or_one, one_journal, one_mark, one_reading}

-- ---- a list of commits in order

none_stays : (cs : List Commit) (cat : Entered) → with_commits None cs ≡ Some cat → ⊥
none_stays [] cat is = cc
none_stays (c ∷ cs) cat is = none_stays cs cat is

-- the commit behind a front of it is allowed by the front's catalog
pub record Goes (o : Option Entered) (front : List Commit) (c : Commit) : Type 0 where
  pub cat : Entered
  pub is : with_commits o front ≡ Some cat
  pub allowed : allows cat c ≡ true

allowed_next : (cat made : Entered) (c : Commit) (rest : List Commit) (b : Bool) → allows cat c ≡ b → with_commits (if b then Some (applied cat c) else None) rest ≡ Some made → allows cat c ≡ true
allowed_next cat made c rest true is goes = is
allowed_next cat made c rest false is goes = absurd (none_stays rest made goes)

goes_next : (o : Option Entered) (front : List Commit) (c : Commit) (rest : List Commit) (made : Entered) → with_commits o (front ++ c ∷ rest) ≡ Some made → Goes o front c
goes_next None [] c rest made is = absurd (none_stays rest made is)
goes_next (Some cat) [] c rest made is = record { cat = cat; is = refl; allowed = allowed_next cat made c rest (allows cat c) refl is }
goes_next o (d ∷ front) c rest made is =
    let next = goes_next (with_commit o d) front c rest made is in
    record { cat = next.cat; is = next.is; allowed = next.allowed }

-- commits whose spellings begin with those of others and this one begin with the others, and with a commit that is spelled so
pub record Splits (good commits : List Commit) (bad : List ℕ) : Type 0 where
  pub next : Commit
  pub rest : List Commit
  pub is : commits ≡ good ++ next ∷ rest
  pub spelled : bad ≡ commit_bytes next
  pub fits : Fits next

heads : (a b : List ℕ) (xs ys : List (List ℕ)) → a ∷ xs ≡ b ∷ ys → (a ≡ b) × (xs ≡ ys)
heads a b xs ys e = (cc, cc)

splits : (good commits : List Commit) (bad : List ℕ) (more : List (List ℕ)) → AllByRecursion Fits good → AllByRecursion Fits commits → map commit_bytes commits ≡ map commit_bytes good ++ bad ∷ more → Splits good commits bad
splits [] [] bad more f g e = absurd (cc)
splits [] (c ∷ cs) bad more f g e = record { next = c; rest = cs; is = refl; spelled = sym (heads (commit_bytes c) bad (map commit_bytes cs) more e).0; fits = g.0 }
splits (d ∷ ds) [] bad more f g e = absurd (cc)
splits (d ∷ ds) (c ∷ cs) bad more f g e =
    let parts = heads (commit_bytes c) (commit_bytes d) (map commit_bytes cs) (map commit_bytes ds ++ bad ∷ more) e in
    let same : c ≡ d = spelled_once c d g.0 f.0 parts.0 in
    let rest = splits ds cs bad more f.1 g.1 parts.1 in
    record { next = rest.next; rest = rest.rest; is = λ i. same i ∷ rest.is i; spelled = rest.spelled; fits = rest.fits }

-- ---- commits in order are a workflow's, and what its catalog allows

-- the first of them is a workflow's
pub record Opens (c : Commit) (cs : List Commit) (flow : Workflow) (cat : Entered) : Type 0 where
  pub text : List ℕ
  pub is : c ≡ commit.Flow text
  pub read : HasFlow text flow
  pub catalog : IsCatalogOf (wiring_of flow) (c ∷ cs) cat

opens : (c : Commit) (cs : List Commit) (flow : Workflow) (cat : Entered) → AreInOrder (c ∷ cs) flow cat → Opens c cs flow cat
opens (commit.Flow text) cs flow cat order = record { text = text; is = refl; read = order.0; catalog = order.1 }
opens (commit.Load c b z) cs flow cat order = absurd order
opens (commit.Tick m) cs flow cat order = absurd order
opens (commit.Run t vs m seen b z ps) cs flow cat order = absurd order
opens (commit.Joined c i j b z) cs flow cat order = absurd order
opens (commit.Collected kept) cs flow cat order = absurd order

in_order : (c d : Commit) (cs : List Commit) (text : List ℕ) (flow : Workflow) (cat : Entered) → c ≡ d → d ≡ commit.Flow text → HasFlow text flow → IsCatalogOf (wiring_of flow) (c ∷ cs) cat → AreInOrder (c ∷ cs) flow cat
in_order c d cs text flow cat same is read catalog =
    let whole : commit.Flow text ≡ c = sym (same ∙ is) in
    subst (λ (x : Commit). AreInOrder (x ∷ cs) flow cat) whole (read, subst (λ (x : Commit). IsCatalogOf (wiring_of flow) (x ∷ cs) cat) (sym whole) catalog)

fits_of : (commits : List Commit) → AreTaken commits → AllByRecursion Fits commits
fits_of [] taken = tt
fits_of (c ∷ cs) (flow, cat, order) = (opens c cs flow cat order).catalog.fit

-- what is refused behind some commits doesn't come in commits in order that begin with them
first_refused : (commits : List Commit) (bad : List ℕ) (s : Splits [] commits bad) → AreTaken commits → IsRefused [] bad → ⊥
first_refused [] bad s taken refused = let e = s.is in cc
first_refused (c ∷ cs) bad s (flow, cat, order) refused =
    let o = opens c cs flow cat order in
    let same : c ≡ s.next = (same_head s.is) in
    refused o.text flow (s.spelled ∙ ap commit_bytes (sym same ∙ o.is)) o.read
  where
    same_head : c ∷ cs ≡ s.next ∷ s.rest → c ≡ s.next
    same_head e = cc

later_refused : (g : Commit) (gs commits : List Commit) (bad : List ℕ) (s : Splits (g ∷ gs) commits bad) → AllByRecursion Fits (g ∷ gs) → AreTaken commits → IsRefused (g ∷ gs) bad → ⊥
later_refused g gs [] bad s fits taken refused = let e = s.is in cc
later_refused g gs (c ∷ cs) bad s fits (flow, cat, order) refused =
    let o = opens c cs flow cat order in
    let same : g ≡ c = same_head s.is in
    let goes = goes_next (Some (blank (wiring_of flow))) (g ∷ gs) s.next s.rest cat (sym (ap (catalog_of (wiring_of flow)) s.is) ∙ o.catalog.is) in
    let made : IsCatalogOf (wiring_of flow) (g ∷ gs) goes.cat = record { fit = fits; is = goes.is } in
    refused flow goes.cat s.next (in_order g c gs o.text flow goes.cat same o.is o.read made) s.fits s.spelled goes.allowed
  where
    same_head : c ∷ cs ≡ (g ∷ gs) ++ s.next ∷ s.rest → g ≡ c
    same_head e = cc

pub never_refused : (good commits : List Commit) (bad : List ℕ) (more : List (List ℕ)) → AreTaken good → IsRefused good bad → AreTaken commits → map commit_bytes commits ≡ map commit_bytes good ++ bad ∷ more → ⊥
never_refused [] commits bad more taken refused others is = first_refused commits bad (splits [] commits bad more tt (fits_of commits others) is) others refused
never_refused (g ∷ gs) commits bad more taken refused others is =
    let fits = fits_of (g ∷ gs) taken in
    later_refused g gs commits bad (splits (g ∷ gs) commits bad more fits (fits_of commits others) is) fits others refused

-- ---- a state's commits

taken_by : (commits : List Commit) (cat : Entered) (s : State) → Agrees commits cat s → AreTaken commits
taken_by commits cat s agrees = subst AreTaken (sym agrees.begins)
    (s.flow, cat, (agrees.read, subst (λ (cs : List Commit). IsCatalogOf (wiring_of s.flow) cs cat) agrees.begins agrees.catalog))

-- a journal of commits in order is none of a bad store
pub not_bad : (commits : List Commit) (c : Option (List ℕ)) (at : ℕ) → AreTaken commits → commits ≢ [] → IsLog (map commit_bytes commits) c → IsDamaged at c ⊎ HasBadPayload at c → ⊥
not_bad [] c at taken some log bad = some refl
not_bad (d ∷ ds) None at taken some (file, is, log) (inl bad) = cc
not_bad (d ∷ ds) (Some f) at taken some (file, is, log) (inl bad) =
    whole_or_damaged f (length (records (map commit_bytes (d ∷ ds))) + 1) at (map commit_bytes (d ∷ ds))
    (record { some = λ e. never e; log = subst (Log (map commit_bytes (d ∷ ds))) (one file f (sym is)) log; ends = refl }) bad
  where
    one : (x y : List ℕ) → Some x ≡ Some y → x ≡ y
    one x y e = cc

    never : commit_bytes d ∷ map commit_bytes ds ≡ [] → ⊥
    never e = cc
not_bad (d ∷ ds) c at taken some log (inr (payloads, end, (file, is, read), bad)) =
    let same = one_journal c (map commit_bytes (d ∷ ds)) payloads log (file, is, read.log) in
    never_refused bad.good (d ∷ ds) bad.bad bad.more bad.taken bad.refused taken (same ∙ bad.is)

pub no_bad_store : NoBadStore
unfolding FilesStandBut
no_bad_store files s file at (x, commits, cat, by) bad =
    let number : x ≡ bad.generation = one_mark files x bad.generation by.marked bad.marked in
    let log : IsLog (map commit_bytes commits) (files file) = subst (λ n. IsLog (map commit_bytes commits) (files n)) (ap journal_file number ∙ sym bad.file_is) by.log in
    not_bad commits (files file) at (taken_by commits cat (ended s) by.agrees) (λ none. let e = sym by.agrees.begins ∙ none in cc) log bad.place

-- ---- at one place

-- two ways to cut a list at an element: one front goes on behind the other, or they are one
cuts : (us vs xs ys : List (List ℕ)) (a b : List ℕ) → us ++ a ∷ xs ≡ vs ++ b ∷ ys →
    ((zs : List (List ℕ)) × (vs ≡ us ++ a ∷ zs)) ⊎ ((us ≡ vs) ⊎ ((zs : List (List ℕ)) × (us ≡ vs ++ b ∷ zs)))
cuts [] [] xs ys a b e = inr (inl refl)
cuts [] (c ∷ vs) xs ys a b e = inl (vs, ap (λ (p : List ℕ). p ∷ vs) (sym (heads a c xs (vs ++ b ∷ ys) e).0))
cuts (c ∷ us) [] xs ys a b e = inr (inr (us, ap (λ (p : List ℕ). p ∷ us) (heads c b (us ++ a ∷ xs) ys e).0))
cuts (c ∷ us) (d ∷ vs) xs ys a b e =
    let parts = heads c d (us ++ a ∷ xs) (vs ++ b ∷ ys) e in
    elim (cuts us vs xs ys a b parts.1) as (λ _. ((zs : List (List ℕ)) × (d ∷ vs ≡ c ∷ us ++ a ∷ zs)) ⊎ ((c ∷ us ≡ d ∷ vs) ⊎ ((zs : List (List ℕ)) × (c ∷ us ≡ d ∷ vs ++ b ∷ zs)))) [
      | inl (zs, is) ↦ inl (zs, λ i. sym parts.0 i ∷ is i)
      | inr (inl is) ↦ inr (inl (λ i. parts.0 i ∷ is i))
      | inr (inr (zs, is)) ↦ inr (inr (zs, λ i. parts.0 i ∷ is i))
    ]

one_refused : (payloads : List (List ℕ)) (at place : ℕ) → IsFirstRefused at payloads → IsFirstRefused place payloads → at ≡ place
one_refused payloads at place one other =
    elim (cuts (map commit_bytes one.good) (map commit_bytes other.good) one.more other.more one.bad other.bad (sym one.is ∙ other.is)) as (λ _. at ≡ place) [
      | inl (zs, is) ↦ absurd (never_refused one.good other.good one.bad zs one.taken one.refused other.taken is)
      | inr (inl same) ↦ one.place ∙ ap (λ (ps : List (List ℕ)). length (records ps) + 9) same ∙ sym other.place
      | inr (inr (zs, is)) ↦ absurd (never_refused other.good one.good other.bad zs other.taken other.refused one.taken is)
    ]

damaged_or_read : (c : Option (List ℕ)) (at place : ℕ) → IsDamaged at c → HasBadPayload place c → ⊥
damaged_or_read None at place damaged (payloads, end, (file, is, read), bad) = cc
damaged_or_read (Some f) at place damaged (payloads, end, (file, is, read), bad) =
    whole_or_damaged f end at payloads (subst (ReadTo end payloads) (one file f (sym is)) read) damaged
  where
    one : (x y : List ℕ) → Some x ≡ Some y → x ≡ y
    one x y e = cc

one_damage : (c : Option (List ℕ)) (at place : ℕ) → IsDamaged at c → IsDamaged place c → at ≡ place
one_damage None at place one other = one ∙ sym other
one_damage (Some f) at place one other = one_place f at place one other

one_bad_payload : (c : Option (List ℕ)) (at place : ℕ) → HasBadPayload at c → HasBadPayload place c → at ≡ place
one_bad_payload c at place (ps, end, read, bad) (qs, to, other, worse) =
    let same = one_reading c end to ps qs read other in
    one_refused qs at place (subst (IsFirstRefused at) same bad) worse

one_bad : (c : Option (List ℕ)) (at place : ℕ) → IsDamaged at c ⊎ HasBadPayload at c → IsDamaged place c ⊎ HasBadPayload place c → at ≡ place
one_bad c at place (inl one) (inl other) = one_damage c at place one other
one_bad c at place (inl one) (inr other) = absurd (damaged_or_read c at place one other)
one_bad c at place (inr one) (inl other) = absurd (damaged_or_read c place at other one)
one_bad c at place (inr one) (inr other) = one_bad_payload c at place one other

pub one_bad_store : OneBadStore
one_bad_store files file at other place one two =
    let number : one.generation ≡ two.generation = one_mark files one.generation two.generation one.marked two.marked in
    let same : file ≡ other = one.file_is ∙ ap journal_file number ∙ sym two.file_is in
    (same, one_bad (files other) at place (subst (λ n. IsDamaged at (files n) ⊎ HasBadPayload at (files n)) same one.place) two.place)

no_stand : (files : Files) (s : State) → IsMark files None → FilesStandBut files s → ⊥
unfolding FilesStandBut
no_stand files s none (x, commits, cat, by) = none_or_one files x none by.marked

pub no_store_there : NoStoreThere
no_store_there files none = (λ s stands. no_stand files s none stands, λ file at bad. none_or_one files bad.generation none bad.marked)
