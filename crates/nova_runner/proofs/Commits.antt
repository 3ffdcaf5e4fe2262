-- Commits that are read one after the other.
use Rattle.std.proofs.Common.{◌≡◌, inr, ℕ, suc, zero, ◌+◌, ◌<◌, Bool, true, false, List, [], ◌∷◌, ◌++◌, length, map, take, drop, get_or, Option, Some, None, Ok, refl, ap, sym, ◌∙◌, subst, arith}
use Rattle.std.proofs.lemmas.List.{length-append}
use Rattle.nova_journal.specs.Log.{IsPlaced, payloads_of, records, entry, length_bytes}
use Rattle.nova_journal.specs.declared.payload.Payload.{Payload}
use Rattle.nova_journal.proofs.Decoding.{length-length_bytes}
use Rattle.nova_commit.specs.Commits.{Fits, commit_bytes}
use Rattle.nova_meta.specs.Catalog.{Entered, allows, applied, blank, catalog_of}
use Rattle.nova_meta.specs.Named.{IsCatalogOf}
use Rattle.nova_meta.specs.Wired.{IsWiring}
use Rattle.nova_commit.specs.declared.commit.Commit.{Commit}
use Rattle.nova_commit.specs.declared.commit.Commit.TheVariants as commit
use Rattle.nova_meta.specs.declared.wiring.Wiring.{Wiring}
use Rattle.nova_commit.proofs.Reading.{spelled_once}
use Rattle.nova_meta.proofs.Sound.{catalogs_are_sound}
use Rattle.nova_machine.specs.Workflow.{Workflow}
use Rattle.nova_runner.specs.Opening.{AreInOrder, AreTaken, IsFirstFlow, IsFirstRefused, IsRefused, IsStuck, HasCommits, HasTaken, IsStuckTold, NotReadTold, TakesCommit}
use Rattle.nova_runner.specs.declared.opening.NotRead.{NotRead}
use Rattle.nova_runner.specs.declared.opening.NotRead.TheVariants as not_read
use Rattle.nova_runner.specs.Texts.{HasFlow}
use Rattle.nova_runner.specs.Workflow.{wiring_of}
use Rattle.nova_runner.proofs.Deciding.{catalog_more}
use Rattle.nova_runner.proofs.Flows.{tasks_known}
use Rattle.nova_runner.proofs.Texts.{one_flow}
use Rattle.nova_runner.proofs.Readables.{begun, readable, wired}

pub none_taken : (w : Wiring) → HasTaken w [] (blank w)
none_taken w = record { commits = []; are = refl; catalog = record { fit = tt; is = refl } }

bytes_more : (commits : List Commit) (own : Commit) → map commit_bytes commits ++ commit_bytes own ∷ [] ≡ map commit_bytes (commits ++ own ∷ [])
bytes_more [] own = refl
bytes_more (c ∷ cs) own = ap (λ (ps : List (List ℕ)). commit_bytes c ∷ ps) (bytes_more cs own)

taken_more : (w : Wiring) (payloads : List (List ℕ)) (payload : List ℕ) (old new : Entered) → HasTaken w payloads old →
    (c : Commit) → Fits c → payload ≡ commit_bytes c → allows old c ≡ true → new ≡ applied old c → HasTaken w (payloads ++ payload ∷ []) new
taken_more w payloads payload old new was c fits is allowed to = record {
  commits = was.commits ++ c ∷ [];
  are = (λ i. was.are i ++ is i ∷ []) ∙ bytes_more was.commits c;
  catalog = subst (IsCatalogOf w (was.commits ++ c ∷ [])) (sym to) (catalog_more w was.commits c old was.catalog fits allowed);
}

payloads_next : (ps : List Payload) (i : ℕ) (d : Payload) → i < length ps → payloads_of (take i ps) ++ (get_or ps i d).bytes.items ∷ [] ≡ payloads_of (take (i + 1) ps)
payloads_next [] i d lt = absurd (omega (arith, lt))
payloads_next (p ∷ ps) zero d lt = refl
payloads_next (p ∷ ps) (suc i) d lt =
    let k : suc (i + 1) ≡ suc i + 1 = omega arith in
    ap (λ (qs : List (List ℕ)). p.bytes.items ∷ qs) (payloads_next ps i d (omega (arith, lt))) ∙ ap (λ n. payloads_of (take n (p ∷ ps))) k

pub one_taken : (w : Wiring) (ps : List Payload) (i : ℕ) (d : Payload) (payload : List ℕ) (old new : Entered) → i < length ps → payload ≡ (get_or ps i d).bytes.items → HasTaken w (payloads_of (take i ps)) old →
    (c : Commit) × Fits c × (payload ≡ commit_bytes c) × (allows old c ≡ true) × (new ≡ applied old c) → HasTaken w (payloads_of (take (i + 1) ps)) new
one_taken w ps i d payload old new lt same was (c, fits, is, allowed, to) =
    subst (λ (qs : List (List ℕ)). HasTaken w qs new) (payloads_next ps i d lt) (taken_more w (payloads_of (take i ps)) (get_or ps i d).bytes.items old new was c fits (sym same ∙ is) allowed to)

-- the place of a payload behind others
place_behind : (at : ℕ) (ps : List Payload) (i : ℕ) (d : Payload) → IsPlaced at ps → i < length ps → (get_or ps i d).at ≡ at + length (records (payloads_of (take i ps))) + 9
place_behind at [] i d placed lt = absurd (omega (arith, lt))
place_behind at (p ∷ ps) zero d placed lt = let e = placed.0 in omega (arith, e)
place_behind at (p ∷ ps) (suc i) d placed lt =
    let rest = place_behind (at + 9 + length p.bytes.items) ps i d placed.1 (omega (arith, lt)) in
    let long = length-append (1 ∷ entry p.bytes.items) (records (payloads_of (take i ps))) in
    let one = length-append (length_bytes (length p.bytes.items)) p.bytes.items in
    let eight = length-length_bytes (length p.bytes.items) in
    omega (arith, rest, long, one, eight)

payloads_split : (ps : List Payload) (i : ℕ) (d : Payload) → i < length ps → payloads_of ps ≡ payloads_of (take i ps) ++ (get_or ps i d).bytes.items ∷ payloads_of (drop (suc i) ps)
payloads_split [] i d lt = absurd (omega (arith, lt))
payloads_split (p ∷ ps) zero d lt = refl
payloads_split (p ∷ ps) (suc i) d lt = ap (λ (qs : List (List ℕ)). p.bytes.items ∷ qs) (payloads_split ps i d (omega (arith, lt)))

pub stuck : (w : Wiring) (ps : List Payload) (i : ℕ) (d : Payload) (payload : List ℕ) (cat : Entered) → i < length ps → IsPlaced 0 ps → payload ≡ (get_or ps i d).bytes.items → HasTaken w (payloads_of (take i ps)) cat →
    ((c : Commit) → Fits c → payload ≡ commit_bytes c → allows cat c ≡ true → ⊥) → IsStuck w (get_or ps i d).at (payloads_of ps)
stuck w ps i d payload cat lt placed same was never = record {
  good = was.commits;
  bad = (get_or ps i d).bytes.items;
  more = payloads_of (drop (suc i) ps);
  is = payloads_split ps i d lt ∙ ap (λ (qs : List (List ℕ)). qs ++ (get_or ps i d).bytes.items ∷ payloads_of (drop (suc i) ps)) was.are;
  place = (let e = place_behind 0 ps i d placed lt in omega (arith, e)) ∙ ap (λ (qs : List (List ℕ)). length (records qs) + 9) was.are;
  cat = cat;
  catalog = was.catalog;
  refused = λ c fits is allowed. never c fits (same ∙ is) allowed;
}

-- ---- of a workflow

some_entered : (f g : Entered) → Some f ≡ Some g → f ≡ g
some_entered f g e = cc

heads : (a b : List ℕ) (xs ys : List (List ℕ)) → a ∷ xs ≡ b ∷ ys → a ≡ b
heads a b xs ys e = cc

module _ (flow : Workflow) (admitted : HasFlow flow.text flow) where
  -- a first commit with the spelling of the workflow's is that
  first_commit : (payload : List ℕ) (c : Commit) → payload ≡ commit_bytes (commit.Flow flow.text) → Fits c → payload ≡ commit_bytes c → commit.Flow flow.text ≡ c
  first_commit payload c first fits is = spelled_once (commit.Flow flow.text) c tt fits (sym first ∙ is)

  in_order : (cat : Entered) (c : Commit) (cs : List Commit) → commit.Flow flow.text ≡ c → IsCatalogOf (wiring_of flow) (c ∷ cs) cat → AreInOrder (c ∷ cs) flow cat
  in_order cat c cs same is = subst (λ (d : Commit). AreInOrder (d ∷ cs) flow cat) same (admitted, subst (λ (d : Commit). IsCatalogOf (wiring_of flow) (d ∷ cs) cat) (sym same) is)

  one_order : (other : Workflow) (cat kat : Entered) (c : Commit) (cs : List Commit) → commit.Flow flow.text ≡ c → IsCatalogOf (wiring_of flow) (c ∷ cs) cat → AreInOrder (c ∷ cs) other kat → cat ≡ kat
  one_order other cat kat c cs same is orders =
      let there : AreInOrder (commit.Flow flow.text ∷ cs) other kat = subst (λ (d : Commit). AreInOrder (d ∷ cs) other kat) (sym same) orders in
      let one : flow ≡ other = one_flow flow.text flow other admitted there.0 in
      let here = subst (λ (d : Commit). IsCatalogOf (wiring_of flow) (d ∷ cs) cat) (sym same) is in
      some_entered cat kat (sym here.is ∙ ap (λ (f : Workflow). catalog_of (wiring_of f) (commit.Flow flow.text ∷ cs)) one ∙ there.1.is)

  module _ (first : List ℕ) (rest : List (List ℕ)) (is_first : first ≡ commit_bytes (commit.Flow flow.text)) where
    order : (commits : List Commit) (cat : Entered) → first ∷ rest ≡ map commit_bytes commits → IsCatalogOf (wiring_of flow) commits cat → AreInOrder commits flow cat
    order [] cat are is = absurd (cc)
    order (c ∷ cs) cat are is = in_order cat c cs (first_commit first c is_first is.fit.0 (heads first (commit_bytes c) rest (map commit_bytes cs) are)) is

    pub has_commits : (w : Wiring) (cat : Entered) → IsWiring w → w ≡ wiring_of flow → HasTaken w (first ∷ rest) cat → HasCommits (first ∷ rest) flow cat
    has_commits w cat right same was =
        let taken = subst (λ (v : Wiring). HasTaken v (first ∷ rest) cat) same was in
        let well = subst IsWiring same right in
        record {
          commits = taken.commits;
          are = taken.are;
          in_order = order taken.commits cat taken.are taken.catalog;
          read = admitted;
          wired = wired (wiring_of flow) taken.commits cat well taken.catalog.is;
          begun = some_begun taken.commits cat taken.are taken.catalog;
          readable = readable (wiring_of flow) taken.commits cat well taken.catalog.is;
          tasks = (catalogs_are_sound (wiring_of flow) taken.commits cat well taken.catalog.is).entered.tasks ∙ ap (λ (v : Wiring). length v.tasks) (wired (wiring_of flow) taken.commits cat well taken.catalog.is) ∙ tasks_known flow admitted;
        }
      where
        some_begun : (commits : List Commit) (cat : Entered) → first ∷ rest ≡ map commit_bytes commits → IsCatalogOf (wiring_of flow) commits cat → cat.begun ≡ true
        some_begun [] cat are is = absurd (cc)
        some_begun (c ∷ cs) cat are is = begun (wiring_of flow) c cs cat is.is

    pub refused_first : (at : ℕ) → IsStuck (wiring_of flow) at (first ∷ rest) → IsFirstRefused at (first ∷ rest)
    refused_first at is = record { good = is.good; bad = is.bad; more = is.more; is = is.is; place = is.place; taken = taken is.good is.is is.catalog; refused = refused is.good is.is is.catalog }
      where
        begins : (c : Commit) (cs : List Commit) → first ∷ rest ≡ map commit_bytes (c ∷ cs) ++ is.bad ∷ is.more → Fits c → commit.Flow flow.text ≡ c
        begins c cs e fits = first_commit first c is_first fits (heads first (commit_bytes c) rest (map commit_bytes cs ++ is.bad ∷ is.more) e)

        taken : (good : List Commit) → first ∷ rest ≡ map commit_bytes good ++ is.bad ∷ is.more → IsCatalogOf (wiring_of flow) good is.cat → AreTaken good
        taken [] e orders = tt
        taken (c ∷ cs) e orders = (flow, is.cat, in_order is.cat c cs (begins c cs e orders.fit.0) orders)

        never_first : (text : List ℕ) → IsCatalogOf (wiring_of flow) [] is.cat → is.bad ≡ commit_bytes (commit.Flow text) → ⊥
        never_first text orders e = is.refused (commit.Flow text) tt e (ap (λ (k : Entered). allows k (commit.Flow text)) (sym (some_entered (blank (wiring_of flow)) is.cat orders.is)))

        refused : (good : List Commit) → first ∷ rest ≡ map commit_bytes good ++ is.bad ∷ is.more → IsCatalogOf (wiring_of flow) good is.cat → IsRefused good is.bad
        refused [] e orders = λ text other same admits. never_first text orders same
        refused (c ∷ cs) e orders = λ other kat next orders_too fits same allowed.
            let one = one_order other is.cat kat c cs (begins c cs e orders.fit.0) orders orders_too in
            is.refused next fits same (ap (λ (k : Entered). allows k next) one ∙ allowed)

-- ---- the answer of a commit that was tried

pub not_taken : (old new : Entered) (payload : List ℕ) (b : Bool) → b ≡ false → TakesCommit old new payload (Ok b) → (c : Commit) → Fits c → payload ≡ commit_bytes c → allows old c ≡ true → ⊥
not_taken old new payload true is takes = absurd (cc)
not_taken old new payload false is takes = takes

pub was_taken : (old new : Entered) (payload : List ℕ) (b : Bool) → b ≡ true → TakesCommit old new payload (Ok b) → (c : Commit) × Fits c × (payload ≡ commit_bytes c) × (allows old c ≡ true) × (new ≡ applied old c)
was_taken old new payload true is takes = takes
was_taken old new payload false is takes = absurd (cc)

-- ---- payloads of a store

module _ (ps : List Payload) (p : Payload) (qs : List Payload) (split : ps ≡ p ∷ qs) (bytes : List ℕ) (same : bytes ≡ p.bytes.items) where
  pub none_first : IsPlaced 0 ps → IsRefused [] bytes → IsFirstRefused p.at (payloads_of ps)
  none_first placed refused = subst (λ (xs : List Payload). IsFirstRefused p.at (payloads_of xs)) (sym split) (record {
    good = [];
    bad = p.bytes.items;
    more = payloads_of qs;
    is = refl;
    place = (subst (IsPlaced 0) split placed).0;
    taken = tt;
    refused = subst (IsRefused []) same refused;
  })

  pub all_read : (flow : Workflow) → IsFirstFlow bytes (Some flow) → (w : Wiring) (cat : Entered) → IsWiring w → w ≡ wiring_of flow → HasTaken w (payloads_of ps) cat → HasCommits (payloads_of ps) flow cat
  all_read flow first w cat right wiring taken = subst (λ (xs : List Payload). HasCommits (payloads_of xs) flow cat) (sym split)
      (has_commits flow first.1 p.bytes.items (payloads_of qs) (sym same ∙ first.0) w cat right wiring (subst (λ (xs : List Payload). HasTaken w (payloads_of xs) cat) split taken))

  pub stuck_read : (flow : Workflow) → IsFirstFlow bytes (Some flow) → (w : Wiring) → w ≡ wiring_of flow → (why : NotRead) → IsStuckTold w (payloads_of ps) why → NotReadTold why (payloads_of ps)
  stuck_read flow first w wiring (not_read.At at) told = inr (subst (λ (xs : List Payload). IsFirstRefused at (payloads_of xs)) (sym split)
      (refused_first flow first.1 p.bytes.items (payloads_of qs) (sym same ∙ first.0) at (subst (λ (v : Wiring). IsStuck v at (payloads_of (p ∷ qs))) wiring (subst (λ (xs : List Payload). IsStuck w at (payloads_of xs)) split told))))
  stuck_read flow first w wiring not_read.NoMemory told = tt

pub no_flow : (bytes : List ℕ) (o : Option Workflow) → o ≡ None → IsFirstFlow bytes o → IsRefused [] bytes
no_flow bytes None is first = first
no_flow bytes (Some flow) is first = absurd (cc)
