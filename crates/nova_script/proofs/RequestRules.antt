-- What a command asks for and why it is refused, rule by rule.
use Rattle.std.proofs.Common.{◌≡◌, ◌≢◌, ◌⊎◌, inl, inr, ℕ, zero, suc, ◌+◌, ◌<◌, ◌≤◌, Bool, true, false, List, [], ◌∷◌, get_or, Option, Some, None, Ok, Err, if◌then◌else◌, nat_lt, refl, sym, ap, ◌∙◌, subst, arith}
use Rattle.std.specs.Str.{bytes_eq}
use Rattle.std.proofs.lemmas.Slice.Eq.{bytes_eq-Decides}
use Rattle.std.proofs.lemmas.Bool.Decides.{nat_tests}
use Rattle.nova_script.specs.Session.{Surroundings, asked, found, place_from, request_of, unless}
use Rattle.nova_script.specs.Requests as rule
use Rattle.nova_script.specs.Requests.{Asks, Begins, Ends, IsNamed, IsUnknown, Meets, NamesChannel, NamesTask}
use Rattle.nova_script.specs.Laws.{MetAreCauses, RequestsAreRules}
use Rattle.nova_script.specs.declared.command.Command.{Command}
use Rattle.nova_script.specs.declared.command.Command.TheVariants as c
use Rattle.nova_script.specs.declared.context.Request.{Request}
use Rattle.nova_script.specs.declared.context.Request.TheVariants as r
use Rattle.nova_script.specs.declared.refusal.Refusal.{Refusal}
use Rattle.nova_script.specs.declared.refusal.Refusal.TheVariants as why

-- ---- a name's number

named_more : (y : List ℕ) (ys : List (List ℕ)) (name : List ℕ) (m : ℕ) → bytes_eq name y ≡ false → IsNamed ys name m → IsNamed (y ∷ ys) name (suc m)
named_more y ys name m other is = record { in_range = let low = is.in_range in omega (arith, low); here = is.here; first = first }
  where
    first : (k : ℕ) → k < suc m → get_or (y ∷ ys) k [] ≢ name
    first zero lt e = absurd (clash ((bytes_eq-Decides name y).1 (sym e)) other)
      where
        clash : bytes_eq name y ≡ true → bytes_eq name y ≡ false → ⊥
        clash p q = cc
    first (suc k) lt e = is.first k (omega (arith, lt)) e

named_here : (y : List ℕ) (ys : List (List ℕ)) (name : List ℕ) → name ≡ y → IsNamed (y ∷ ys) name 0
named_here y ys name same = record { in_range = omega arith; here = sym same; first = λ k lt. absurd (omega (arith, lt)) }

place_named : (k : ℕ) (names : List (List ℕ)) (name : List ℕ) (n : ℕ) → place_from k names name ≡ Some n → (m : ℕ) × (n ≡ k + m) × IsNamed names name m
place_named k [] name n e = absurd cc
place_named k (y ∷ ys) name n e = go (bytes_eq name y) refl e (place_named (k + 1) ys name n)
  where
    go : (b : Bool) → bytes_eq name y ≡ b → (if b then Some k else place_from (k + 1) ys name) ≡ Some n → (place_from (k + 1) ys name ≡ Some n → (m : ℕ) × (n ≡ (k + 1) + m) × IsNamed ys name m)
        → (m : ℕ) × (n ≡ k + m) × IsNamed (y ∷ ys) name m
    go true same f rest = let at : k ≡ n = cc in (0, omega (arith, at), named_here y ys name ((bytes_eq-Decides name y).0 same))
    go false other f rest = let p = rest f in let at = p.1 in (suc p.0, omega (arith, at), named_more y ys name p.0 other p.2)

place_unknown : (k : ℕ) (names : List (List ℕ)) (name : List ℕ) → place_from k names name ≡ None → IsUnknown names name
place_unknown k [] name e = λ j lt. absurd (omega (arith, lt))
place_unknown k (y ∷ ys) name e = go (bytes_eq name y) refl e (place_unknown (k + 1) ys name)
  where
    go : (b : Bool) → bytes_eq name y ≡ b → (if b then Some k else place_from (k + 1) ys name) ≡ None → (place_from (k + 1) ys name ≡ None → IsUnknown ys name) → IsUnknown (y ∷ ys) name
    go true same f rest j lt e = some f
      where
        some : Some k ≡ None → ⊥
        some g = cc
    go false other f rest zero lt e = absurd (clash ((bytes_eq-Decides name y).1 (sym e)) other)
      where
        clash : bytes_eq name y ≡ true → bytes_eq name y ≡ false → ⊥
        clash p q = cc
    go false other f rest (suc j) lt e = rest f j (omega (arith, lt)) e

-- another name's bytes are others
differs : (name y : List ℕ) → y ≢ name → bytes_eq name y ≡ false
differs name y ne = go (bytes_eq name y) refl
  where
    go : (b : Bool) → bytes_eq name y ≡ b → bytes_eq name y ≡ false
    go true same = absurd (ne (sym ((bytes_eq-Decides name y).0 same)))
    go false other = other

unknown_place : (k : ℕ) (names : List (List ℕ)) (name : List ℕ) → IsUnknown names name → place_from k names name ≡ None
unknown_place k [] name is = refl
unknown_place k (y ∷ ys) name is =
    ap (λ b. if b then Some k else place_from (k + 1) ys name) (differs name y (is 0 (omega arith)))
    ∙ unknown_place (k + 1) ys name (λ j lt. is (suc j) (omega (arith, lt)))

named_place : (k : ℕ) (names : List (List ℕ)) (name : List ℕ) (m : ℕ) → IsNamed names name m → place_from k names name ≡ Some (k + m)
named_place k [] name m is = let low = is.in_range in absurd (omega (arith, low))
named_place k (y ∷ ys) name zero is =
    ap (λ b. if b then Some k else place_from (k + 1) ys name) ((bytes_eq-Decides name y).1 (sym is.here)) ∙ ap Some (omega arith)
named_place k (y ∷ ys) name (suc m) is =
    ap (λ b. if b then Some k else place_from (k + 1) ys name) (differs name y (is.first 0 (omega arith)))
    ∙ named_place (k + 1) ys name m (record { in_range = let low = is.in_range in omega (arith, low); here = is.here; first = λ j lt. is.first (suc j) (omega (arith, lt)) })
    ∙ ap Some (omega arith)

first_named : (names : List (List ℕ)) (name : List ℕ) (n : ℕ) → place_from 0 names name ≡ Some n → IsNamed names name n
first_named names name n e =
    let p = place_named 0 names name n e in
    let at = p.1 in
    let same : p.0 ≡ n = omega (arith, at) in
    subst (IsNamed names name) same p.2

-- ---- a number with a test

always : ℕ → Bool
always n = false

tested_ok : (make : ℕ → Request) (test : ℕ → Bool) (refusal missing : Refusal) (o : Option ℕ) (q : Request) → asked make (unless test refusal (found missing o)) ≡ Ok q → (n : ℕ) × (o ≡ Some n) × (test n ≡ false) × (make n ≡ q)
tested_ok make test refusal missing None q e = absurd cc
tested_ok make test refusal missing (Some n) q e = go (test n) refl e
  where
    go : (b : Bool) → test n ≡ b → asked make (if b then Err refusal else Ok n) ≡ Ok q → (m : ℕ) × (Some n ≡ Some m) × (test m ≡ false) × (make m ≡ q)
    go true is f = absurd cc
    go false is f = let same : make n ≡ q = cc in (n, refl, is, same)

tested_err : (make : ℕ → Request) (test : ℕ → Bool) (refusal missing : Refusal) (o : Option ℕ) (told : Refusal) → asked make (unless test refusal (found missing o)) ≡ Err told
    → ((o ≡ None) × (missing ≡ told)) ⊎ ((n : ℕ) × (o ≡ Some n) × (test n ≡ true) × (refusal ≡ told))
tested_err make test refusal missing None told e = let same : missing ≡ told = cc in inl (refl, same)
tested_err make test refusal missing (Some n) told e = go (test n) refl e
  where
    go : (b : Bool) → test n ≡ b → asked make (if b then Err refusal else Ok n) ≡ Err told → ((Some n ≡ None) × (missing ≡ told)) ⊎ ((m : ℕ) × (Some n ≡ Some m) × (test m ≡ true) × (refusal ≡ told))
    go true is f = let same : refusal ≡ told = cc in inr (n, refl, is, same)
    go false is f = absurd cc

passes : (make : ℕ → Request) (test : ℕ → Bool) (refusal missing : Refusal) (o : Option ℕ) (n : ℕ) → o ≡ Some n → test n ≡ false → asked make (unless test refusal (found missing o)) ≡ Ok (make n)
passes make test refusal missing o n at is = rw (at, is) refl

stops : (make : ℕ → Request) (test : ℕ → Bool) (refusal missing : Refusal) (o : Option ℕ) (n : ℕ) → o ≡ Some n → test n ≡ true → asked make (unless test refusal (found missing o)) ≡ Err refusal
stops make test refusal missing o n at is = rw (at, is) refl

misses : (make : ℕ → Request) (test : ℕ → Bool) (refusal missing : Refusal) (o : Option ℕ) → o ≡ None → asked make (unless test refusal (found missing o)) ≡ Err missing
misses make test refusal missing o at = rw at refl

-- without a test
found_ok : (make : ℕ → Request) (missing : Refusal) (o : Option ℕ) (q : Request) → asked make (found missing o) ≡ Ok q → (n : ℕ) × (o ≡ Some n) × (make n ≡ q)
found_ok make missing None q e = absurd cc
found_ok make missing (Some n) q e = let same : make n ≡ q = cc in (n, refl, same)

found_err : (make : ℕ → Request) (missing : Refusal) (o : Option ℕ) (told : Refusal) → asked make (found missing o) ≡ Err told → (o ≡ None) × (missing ≡ told)
found_err make missing None told e = let same : missing ≡ told = cc in (refl, same)
found_err make missing (Some n) told e = absurd cc

-- the test of an execution that is to be ended, turned
turned : (b : Bool) → (if b then false else true) ≡ false → b ≡ true
turned true e = refl
turned false e = absurd cc

turned_true : (b : Bool) → (if b then false else true) ≡ true → b ≡ false
turned_true true e = absurd cc
turned_true false e = refl

-- ---- what it asks for

module _ (x : Surroundings) where
  asks_named : (command : Command) (names : List (List ℕ)) (name : List ℕ) (make : ℕ → Request) (missing : Refusal) (q : Request)
      → ((n : ℕ) → IsNamed names name n → Asks x command (make n)) → asked make (found missing (place_from 0 names name)) ≡ Ok q → Asks x command q
  asks_named command names name make missing q asks e =
      let p = found_ok make missing (place_from 0 names name) q e in
      subst (Asks x command) p.2 (asks p.0 (first_named names name p.0 p.1))

  asks_tested : (command : Command) (names : List (List ℕ)) (name : List ℕ) (make : ℕ → Request) (test : ℕ → Bool) (refusal missing : Refusal) (q : Request)
      → ((n : ℕ) → IsNamed names name n → test n ≡ false → Asks x command (make n)) → asked make (unless test refusal (found missing (place_from 0 names name))) ≡ Ok q → Asks x command q
  asks_tested command names name make test refusal missing q asks e =
      let p = tested_ok make test refusal missing (place_from 0 names name) q e in
      subst (Asks x command) p.3 (asks p.0 (first_named names name p.0 p.1) p.2)

  abbrev is_ended : ℕ → Bool
  is_ended t = if x.is_in_flight t then false else true

  asks : (command : Command) (q : Request) → request_of x command ≡ Ok q → Asks x command q
  asks (c.Load name) q e = asks_tested (c.Load name) x.channels name r.Load x.has_writer why.NotAnInputChannel why.UnknownChannel q (λ n is free. rule.load is free) e
  asks (c.Tick m) q e = go (nat_lt m x.moment) refl e
    where
      go : (b : Bool) → nat_lt m x.moment ≡ b → (if b then Err (why.ClockBack x.moment) else Ok (r.Tick m)) ≡ Ok q → Asks x (c.Tick m) q
      go true is f = absurd cc
      go false is f = let same : r.Tick m ≡ q = cc in subst (Asks x (c.Tick m)) same (rule.tick (grind (arith, nat_tests)))
  asks (c.Run name) q e = asks_tested (c.Run name) x.tasks name r.Run x.is_in_flight why.InFlight why.UnknownTask q (λ n is free. rule.run is free) e
  asks (c.Begin name) q e = asks_tested (c.Begin name) x.tasks name r.Begin x.is_in_flight why.InFlight why.UnknownTask q (λ n is free. rule.begin is free) e
  asks (c.Finish name) q e = asks_tested (c.Finish name) x.tasks name r.Finish is_ended why.NotInFlight why.UnknownTask q (λ n is free. rule.finish is (turned (x.is_in_flight n) free)) e
  asks (c.Drop name) q e = asks_tested (c.Drop name) x.tasks name r.Drop is_ended why.NotInFlight why.UnknownTask q (λ n is free. rule.drop is (turned (x.is_in_flight n) free)) e
  asks c.Work q e = let same : r.Work ≡ q = cc in subst (Asks x c.Work) same rule.work
  asks (c.Compact name) q e = asks_named (c.Compact name) x.channels name r.Compact why.UnknownChannel q (λ n is. rule.compact is) e
  asks (c.Chain name i j) q e = asks_named (c.Chain name i j) x.channels name (λ n. r.Chain n i j) why.UnknownChannel q (λ n is. rule.chain is) e
  asks c.Collect q e = let same : r.Collect ≡ q = cc in subst (Asks x c.Collect) same rule.collect
  asks (c.Show name) q e = asks_named (c.Show name) x.channels name r.Show why.UnknownChannel q (λ n is. rule.show is) e
  asks (c.Blocks name) q e = asks_named (c.Blocks name) x.channels name r.Blocks why.UnknownChannel q (λ n is. rule.blocks is) e

  at : (names : List (List ℕ)) (name : List ℕ) (n : ℕ) → IsNamed names name n → place_from 0 names name ≡ Some n
  at names name n is = named_place 0 names name n is ∙ ap Some (omega arith)

  not_before : (m last : ℕ) → last ≤ m → nat_lt m last ≡ false
  not_before m last le = grind (arith, nat_tests)

  before : (m last : ℕ) → m < last → nat_lt m last ≡ true
  before m last lt = grind (arith, nat_tests)

  asked_for : (command : Command) (q : Request) → Asks x command q → request_of x command ≡ Ok q
  asked_for _ _ (rule.load {name} {n} is free) = passes r.Load x.has_writer why.NotAnInputChannel why.UnknownChannel (place_from 0 x.channels name) n (at x.channels name n is) free
  asked_for _ _ (rule.tick {m} le) = rw (not_before m x.moment le) refl
  asked_for _ _ (rule.run {name} {n} is free) = passes r.Run x.is_in_flight why.InFlight why.UnknownTask (place_from 0 x.tasks name) n (at x.tasks name n is) free
  asked_for _ _ (rule.begin {name} {n} is free) = passes r.Begin x.is_in_flight why.InFlight why.UnknownTask (place_from 0 x.tasks name) n (at x.tasks name n is) free
  asked_for _ _ (rule.finish {name} {n} is flies) = passes r.Finish is_ended why.NotInFlight why.UnknownTask (place_from 0 x.tasks name) n (at x.tasks name n is) (rw flies refl)
  asked_for _ _ (rule.drop {name} {n} is flies) = passes r.Drop is_ended why.NotInFlight why.UnknownTask (place_from 0 x.tasks name) n (at x.tasks name n is) (rw flies refl)
  asked_for _ _ rule.work = refl
  asked_for _ _ (rule.compact {name} {n} is) = rw (at x.channels name n is) refl
  asked_for _ _ (rule.chain {name} {n} {i} {j} is) = rw (at x.channels name n is) refl
  asked_for _ _ rule.collect = refl
  asked_for _ _ (rule.show {name} {n} is) = rw (at x.channels name n is) refl
  asked_for _ _ (rule.blocks {name} {n} is) = rw (at x.channels name n is) refl

  -- ---- why it is refused

  no_channel : (command : Command) (name : List ℕ) (make : ℕ → Request) (told : Refusal) → NamesChannel command name → asked make (found why.UnknownChannel (place_from 0 x.channels name)) ≡ Err told → Meets x command told
  no_channel command name make told names e =
      let p = found_err make why.UnknownChannel (place_from 0 x.channels name) told e in
      subst (Meets x command) p.1 (rule.no_channel names (place_unknown 0 x.channels name p.0))

  refused_task : (command : Command) (name : List ℕ) (make : ℕ → Request) (test : ℕ → Bool) (refusal told : Refusal) → NamesTask command name → ((n : ℕ) → IsNamed x.tasks name n → test n ≡ true → Meets x command refusal)
      → asked make (unless test refusal (found why.UnknownTask (place_from 0 x.tasks name))) ≡ Err told → Meets x command told
  refused_task command name make test refusal told names met e = elim (tested_err make test refusal why.UnknownTask (place_from 0 x.tasks name) told e) as (λ _. Meets x command told) [
    | inl none ↦ subst (Meets x command) none.1 (rule.no_task names (place_unknown 0 x.tasks name none.0))
    | inr one ↦ subst (Meets x command) one.3 (met one.0 (first_named x.tasks name one.0 one.1) one.2)
  ]

  meets : (command : Command) (told : Refusal) → request_of x command ≡ Err told → Meets x command told
  meets (c.Load name) told e = elim (tested_err r.Load x.has_writer why.NotAnInputChannel why.UnknownChannel (place_from 0 x.channels name) told e) as (λ _. Meets x (c.Load name) told) [
    | inl none ↦ subst (Meets x (c.Load name)) none.1 (rule.no_channel rule.of_load (place_unknown 0 x.channels name none.0))
    | inr one ↦ subst (Meets x (c.Load name)) one.3 (rule.written (first_named x.channels name one.0 one.1) one.2)
  ]
  meets (c.Tick m) told e = go (nat_lt m x.moment) refl e
    where
      go : (b : Bool) → nat_lt m x.moment ≡ b → (if b then Err (why.ClockBack x.moment) else Ok (r.Tick m)) ≡ Err told → Meets x (c.Tick m) told
      go true is f = let same : why.ClockBack x.moment ≡ told = cc in subst (Meets x (c.Tick m)) same (rule.back (grind (arith, nat_tests)))
      go false is f = absurd cc
  meets (c.Run name) told e = refused_task (c.Run name) name r.Run x.is_in_flight why.InFlight told rule.of_run (λ n is flies. rule.in_flight rule.by_run is flies) e
  meets (c.Begin name) told e = refused_task (c.Begin name) name r.Begin x.is_in_flight why.InFlight told rule.of_begin (λ n is flies. rule.in_flight rule.by_begin is flies) e
  meets (c.Finish name) told e = refused_task (c.Finish name) name r.Finish is_ended why.NotInFlight told rule.of_finish (λ n is free. rule.not_in_flight rule.by_finish is (turned_true (x.is_in_flight n) free)) e
  meets (c.Drop name) told e = refused_task (c.Drop name) name r.Drop is_ended why.NotInFlight told rule.of_drop (λ n is free. rule.not_in_flight rule.by_drop is (turned_true (x.is_in_flight n) free)) e
  meets c.Work told e = absurd cc
  meets (c.Compact name) told e = no_channel (c.Compact name) name r.Compact told rule.of_compact e
  meets (c.Chain name i j) told e = no_channel (c.Chain name i j) name (λ n. r.Chain n i j) told rule.of_chain e
  meets c.Collect told e = absurd cc
  meets (c.Show name) told e = no_channel (c.Show name) name r.Show told rule.of_show e
  meets (c.Blocks name) told e = no_channel (c.Blocks name) name r.Blocks told rule.of_blocks e

  unknown_channel : (command : Command) (name : List ℕ) → NamesChannel command name → place_from 0 x.channels name ≡ None → request_of x command ≡ Err why.UnknownChannel
  unknown_channel _ _ rule.of_load none = rw none refl
  unknown_channel _ _ rule.of_compact none = rw none refl
  unknown_channel _ _ rule.of_chain none = rw none refl
  unknown_channel _ _ rule.of_show none = rw none refl
  unknown_channel _ _ rule.of_blocks none = rw none refl

  unknown_task : (command : Command) (name : List ℕ) → NamesTask command name → place_from 0 x.tasks name ≡ None → request_of x command ≡ Err why.UnknownTask
  unknown_task _ _ rule.of_run none = rw none refl
  unknown_task _ _ rule.of_begin none = rw none refl
  unknown_task _ _ rule.of_finish none = rw none refl
  unknown_task _ _ rule.of_drop none = rw none refl

  flies_still : (command : Command) (name : List ℕ) (n : ℕ) → Begins command name → place_from 0 x.tasks name ≡ Some n → x.is_in_flight n ≡ true → request_of x command ≡ Err why.InFlight
  flies_still _ _ n rule.by_run one flies = rw (one, flies) refl
  flies_still _ _ n rule.by_begin one flies = rw (one, flies) refl

  flies_not : (command : Command) (name : List ℕ) (n : ℕ) → Ends command name → place_from 0 x.tasks name ≡ Some n → x.is_in_flight n ≡ false → request_of x command ≡ Err why.NotInFlight
  flies_not _ _ n rule.by_finish one free = rw (one, free) refl
  flies_not _ _ n rule.by_drop one free = rw (one, free) refl

  refused : (command : Command) (told : Refusal) → Meets x command told → request_of x command ≡ Err told
  refused command _ (rule.no_channel {name} names is) = unknown_channel command name names (unknown_place 0 x.channels name is)
  refused command _ (rule.no_task {name} names is) = unknown_task command name names (unknown_place 0 x.tasks name is)
  refused _ _ (rule.written {name} {n} is written) = stops r.Load x.has_writer why.NotAnInputChannel why.UnknownChannel (place_from 0 x.channels name) n (at x.channels name n is) written
  refused _ _ (rule.back {m} lt) = rw (before m x.moment lt) refl
  refused command _ (rule.in_flight {name} {n} begins is flies) = flies_still command name n begins (at x.tasks name n is) flies
  refused command _ (rule.not_in_flight {name} {n} ends is free) = flies_not command name n ends (at x.tasks name n is) free

pub requests_are_rules : RequestsAreRules
requests_are_rules x command request = (asks x command request, asked_for x command request)

pub met_are_causes : MetAreCauses
met_are_causes x command refusal = (meets x command refusal, refused x command refusal)
