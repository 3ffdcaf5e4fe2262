-- Calls on one file: its outcomes, the other files, and each moment between.
use Rattle.std.proofs.Common.{◌≡◌, ◌≢◌, ◌⊎◌, inl, inr, ℕ, List, [], ◌∷◌, length, Bool, true, false, if◌then◌else◌, Option, Some, None, Result, Ok, Err, OnOk, OnErr, nat_eq, option_map, refl, sym, ◌∙◌, ap, subst, arith}
use Rattle.std.proofs.lemmas.Bool.{cases_eq}
use Rattle.std.proofs.lemmas.Bool.Decides.{nat_tests}
use Rattle.nova_outside.specs.Disk.{LeavesSameBut, OneChanges, Torn, Tears, TornFrom, overlaid}
use Rattle.nova_outside.specs.History.{Event, Change, ChangesInPart, Changed, Outcome, OutcomeOf, IfTrue, replies, current, Valid, LeftNow, Meanwhile}
use Rattle.nova_outside.specs.History.Event.{OnFile, Replied}
use Rattle.nova_outside.specs.History.Change.{Created, Written, Synced, SyncFailed, Removed}
use Rattle.nova_outside.proofs.Moments.{started, goes_on, and_then}

pub either : {T E P Q : Type 0} (r : Result T E) → OnOk r P → OnErr r Q → P ⊎ Q
either (Ok x) p q = inl p
either (Err e) p q = inr q

same_number : (n : ℕ) → nat_eq n n ≡ true
same_number n = grind (arith, nat_tests)

-- the outcomes of the file that the newest event changed
pub there : (change : Change) (file : ℕ) (now : Option (List ℕ)) (h : List Event) (c : Option (List ℕ)) → Outcome (OnFile change file now ∷ h) file c → OutcomeOf change now (Outcome h file) c
there change file now h c o = subst (λ (b : Bool). IfTrue b (OutcomeOf change now (Outcome h file) c) (Outcome h file c)) (same_number file) o

torn_none : (at n : ℕ) (file : List ℕ) → Torn at n file file
torn_none at n file = record { no_shorter = omega arith; no_longer = omega arith; below = λ i lt lt'. refl; above = λ i lt le. refl }

-- nothing torn is a torn write too
pub tears_none : (at n : ℕ) (c : Option (List ℕ)) → Tears at n c c
tears_none at n None = refl
tears_none at n (Some file) = (file, refl, torn_none at n file)

-- a write, whatever it answers
pub write_follows : (at n file : ℕ) (old new : List Event) → ChangesInPart (Written at n) file old new → (c : Option (List ℕ)) → Outcome new file c → TornFrom at n (Outcome old file) c
write_follows at n file old new (inl is) c o = (c, subst (λ (h : List Event). Outcome h file c) is o, tears_none at n c)
write_follows at n file old new (inr ch) c o = there (Written at n) file ch.now old c (subst (λ (h : List Event). Outcome h file c) ch.is o)

-- a failed sync leaves no more than before
pub sync_follows : (file : ℕ) (old new : List Event) → ChangesInPart SyncFailed file old new → (c : Option (List ℕ)) → Outcome new file c → Outcome old file c
sync_follows file old new (inl is) c o = subst (λ (h : List Event). Outcome h file c) is o
sync_follows file old new (inr ch) c o = there SyncFailed file ch.now old c (subst (λ (h : List Event). Outcome h file c) ch.is o)

here_or_not : (b : Bool) (P Q : Option (List ℕ) → Type 0) (x y : Option (List ℕ)) → P x → Q y → IfTrue b (P (if b then x else y)) (Q (if b then x else y))
here_or_not true P Q x y p q = p
here_or_not false P Q x y p q = q

by_number : (a b : ℕ) (P Q : Option (List ℕ) → Type 0) (x y : Option (List ℕ)) → (a ≡ b → P x) → Q y → IfTrue (nat_eq a b) (P (if nat_eq a b then x else y)) (Q (if nat_eq a b then x else y))
by_number a b P Q x y p q = pick (nat_eq a b) (λ t. p (same t))
  where
    same : nat_eq a b ≡ true → a ≡ b
    same t = grind (arith, nat_tests)

    pick : (t : Bool) → (t ≡ true → P x) → IfTrue t (P (if t then x else y)) (Q (if t then x else y))
    pick true f = f refl
    pick false f = q

-- what is read now is an outcome
pub stays : (h : List Event) (n : ℕ) → Valid h → Outcome h n (current h n)
stays [] n v = refl
stays (OnFile Created file now ∷ h) n v = here_or_not (nat_eq file n) (OutcomeOf Created now (Outcome h n)) (Outcome h n) now (current h n) tt (stays h n v.1)
stays (OnFile (Written at k) file now ∷ h) n v = by_number file n (OutcomeOf (Written at k) now (Outcome h n)) (Outcome h n) now (current h n) (λ is. (current h n, stays h n v.1, subst (λ (m : ℕ). Tears at k (current h m) now) is v.0)) (stays h n v.1)
stays (OnFile Synced file now ∷ h) n v = here_or_not (nat_eq file n) (OutcomeOf Synced now (Outcome h n)) (Outcome h n) now (current h n) refl (stays h n v.1)
stays (OnFile SyncFailed file now ∷ h) n v = by_number file n (Outcome h n) (Outcome h n) now (current h n) (λ is. subst (λ (o : Option (List ℕ)). Outcome h n o) (sym (v.0 ∙ ap (current h) is)) (stays h n v.1)) (stays h n v.1)
stays (OnFile Removed file now ∷ h) n v = here_or_not (nat_eq file n) (OutcomeOf Removed now (Outcome h n)) (Outcome h n) now (current h n) tt (stays h n v.1)
stays (Replied bytes ∷ h) n v = stays h n v

-- a call on a file leaves the others and the replies
pub others_kept : (change : Change) (file : ℕ) (old new : List Event) → ChangesInPart change file old new → LeavesSameBut file (Outcome old) (Outcome new) × (replies new ≡ replies old)
others_kept change file old new (inl is) = subst (λ (h : List Event). LeavesSameBut file (Outcome old) (Outcome h) × (replies h ≡ replies old)) (sym is) (λ other ne. (λ c o. o, λ c o. o), refl)
others_kept change file old new (inr ch) = subst (λ (h : List Event). LeavesSameBut file (Outcome old) (Outcome h) × (replies h ≡ replies old)) (sym ch.is) (λ other ne. elsewhere (nat_eq file other) (differ file other ne) (OutcomeOf change ch.now (Outcome old other)) (Outcome old other), refl)
  where
    differ : (a b : ℕ) → b ≢ a → nat_eq a b ≡ false
    differ a b ne = grind (arith, nat_tests)

    elsewhere : (b : Bool) → b ≡ false → (P Q : Option (List ℕ) → Type 0) → ((c : Option (List ℕ)) → IfTrue b (P c) (Q c) → Q c) × ((c : Option (List ℕ)) → Q c → IfTrue b (P c) (Q c))
    elsewhere b is P Q = subst (λ (x : Bool). ((c : Option (List ℕ)) → IfTrue x (P c) (Q c) → Q c) × ((c : Option (List ℕ)) → Q c → IfTrue x (P c) (Q c))) (sym is) (λ c q. q, λ c q. q)

pub leaves_then : (file : ℕ) (a b c : ℕ → Option (List ℕ) → Type 0) → LeavesSameBut file a b → LeavesSameBut file b c → LeavesSameBut file a c
leaves_then file a b c h k = λ other ne. (λ o now. (h other ne).0 o ((k other ne).0 o now), λ o was. (k other ne).1 o ((h other ne).1 o was))

-- a run of calls on one file, of which a crash at each moment leaves what has Q
pub record Span (Q : Option (List ℕ) → Type 0) (file : ℕ) (old new : List Event) : Type 0 where
  pub moments : Meanwhile (OneChanges file Q (Outcome old) (replies old)) old new
  pub others : LeavesSameBut file (Outcome old) (Outcome new)
  pub same : replies new ≡ replies old

-- before its first call
pub span : (Q : Option (List ℕ) → Type 0) (file : ℕ) (h : List Event) → ((c : Option (List ℕ)) → Outcome h file c → Q c) → Span Q file h h
span Q file h here = record {
  moments = started h _ (λ image said w. record { same_replies = w.1; here = here (image file) (w.0 file); others = λ other ne. w.0 other });
  others = λ other ne. (λ c o. o, λ c o. o);
  same = refl;
}

-- one call more, whatever it answers
pub call : (Q : Option (List ℕ) → Type 0) (change : Change) (file : ℕ) (old mid new : List Event) → Span Q file old mid → ChangesInPart change file mid new → ((c : Option (List ℕ)) → Outcome new file c → Q c) → Span Q file old new
call Q change file old mid new s (inl is) here = subst (Span Q file old) (sym is) s
call Q change file old mid new s (inr ch) here =
    let k = others_kept change file mid new (inr ch) in
    let others : LeavesSameBut file (Outcome old) (Outcome new) = leaves_then file (Outcome old) (Outcome mid) (Outcome new) s.others k.0 in
    let P = OneChanges file Q (Outcome old) (replies old) in
    record {
      moments = subst (Meanwhile P old) (sym ch.is) (goes_on P old mid (OnFile change file ch.now) s.moments (λ image said w. absurd w) (λ image said w. let w' : LeftNow new image said = subst (λ (h : List Event). LeftNow h image said) (sym ch.is) w in record { same_replies = w'.1 ∙ (k.1 ∙ s.same); here = here (image file) (w'.0 file); others = λ other ne. (others other ne).0 (image other) (w'.0 other) }));
      others = others;
      same = k.1 ∙ s.same;
    }

-- a write that answered Ok is a change; that it fits is said by the law of the host
pub written_fits : {D : Type 0} (history : D → List Event) (old new : D) (at : ℕ) (bytes : List ℕ) (file : ℕ) → Valid (history new)
    → history new ≡ OnFile (Written at (length bytes)) file (option_map (overlaid at bytes) (current (history old) file)) ∷ history old → Changed (Written at (length bytes)) file (history old) (history new)
written_fits history old new at bytes file valid is = record { now = _; fits = (subst Valid is valid).0; is = is }

pub created_fits : (old new : List Event) (file : ℕ) → new ≡ OnFile Created file (Some []) ∷ old → Changed Created file old new
created_fits old new file is = record { now = Some []; fits = inr refl; is = is }

-- what is read after a change of a file: of that file what it left, of every other what was read before
pub read_here : (change : Change) (file : ℕ) (now : Option (List ℕ)) (h : List Event) → current (OnFile change file now ∷ h) file ≡ now
read_here change file now h = ap (λ (b : Bool). if b then now else current h file) (same_number file)

pub read_other : (change : Change) (file other : ℕ) (now : Option (List ℕ)) (h : List Event) → other ≢ file → current (OnFile change file now ∷ h) other ≡ current h other
read_other change file other now h ne = ap (λ (b : Bool). if b then now else current h other) (apart file other ne)
  where
    apart : (a b : ℕ) → b ≢ a → nat_eq a b ≡ false
    apart a b ne = grind (arith, nat_tests)

-- a run of calls on one file, of which nothing is said
abbrev pub Free : ℕ → List Event → List Event → Type 0
Free file old new = Span (λ o. Unit {0}) file old new

pub free_start : (file : ℕ) (h : List Event) → Free file h h
free_start file h = span _ file h (λ o was. tt)

pub free_call : (change : Change) (file : ℕ) (old mid new : List Event) → Free file old mid → ChangesInPart change file mid new → Free file old new
free_call change file old mid new s step = call _ change file old mid new s step (λ o now. tt)

-- another run on the file
pub free_then : (Q : Option (List ℕ) → Type 0) (file : ℕ) (old mid new : List Event) → Free file old mid → Meanwhile (OneChanges file Q (Outcome mid) (replies mid)) mid new → LeavesSameBut file (Outcome mid) (Outcome new) → replies new ≡ replies mid → Free file old new
free_then Q file old mid new s run others same = record {
  moments = and_then (OneChanges file (λ o. Unit {0}) (Outcome old) (replies old)) (OneChanges file Q (Outcome mid) (replies mid)) old mid new s.moments run
      (λ image said q. record { same_replies = q.same_replies ∙ s.same; here = tt; others = λ other ne. (s.others other ne).0 (image other) (q.others other ne) });
  others = leaves_then file (Outcome old) (Outcome mid) (Outcome new) s.others others;
  same = same ∙ s.same;
}

-- a run of calls that leaves of each file at most what might have been left before
pub record Calm (old new : List Event) : Type 0 where
  pub moments : Meanwhile (LeftNow old) old new
  pub crash : (n : ℕ) (c : Option (List ℕ)) → Outcome new n c → Outcome old n c
  pub said : replies new ≡ replies old

pub calm_start : (h : List Event) → Calm h h
calm_start h = record { moments = started h (LeftNow h) (λ image said w. w); crash = λ n c o. o; said = refl }

pub calm_same : (old mid new : List Event) → Calm old mid → new ≡ mid → Calm old new
calm_same old mid new calm is = subst (Calm old) (sym is) calm

calm_event : (change : Change) (file : ℕ) (now : Option (List ℕ)) (old mid : List Event) → Calm old mid → ((c : Option (List ℕ)) → OutcomeOf change now (Outcome mid file) c → Outcome mid file c) → Calm old (OnFile change file now ∷ mid)
calm_event change file now old mid calm less = record {
  moments = goes_on (LeftNow old) old mid (OnFile change file now) calm.moments (λ image said w. absurd w) (λ image said w. (λ n. crash n (image n) (w.0 n), w.1 ∙ calm.said));
  crash = crash;
  said = calm.said;
}
  where
    fewer : (n : ℕ) (c : Option (List ℕ)) → Outcome (OnFile change file now ∷ mid) n c → Outcome mid n c
    fewer n c o = elim (cases_eq file n) [
      | inl e ↦ subst (λ (m : ℕ). Outcome mid m c) e (less c (there change file now mid c (subst (λ (m : ℕ). Outcome (OnFile change file now ∷ mid) m c) (sym e) o)))
      | inr ne ↦ subst (λ (b : Bool). IfTrue b (OutcomeOf change now (Outcome mid n) c) (Outcome mid n c)) (not_same ne) o
    ]
      where
        not_same : file ≢ n → nat_eq file n ≡ false
        not_same ne = grind (arith, nat_tests)

    crash : (n : ℕ) (c : Option (List ℕ)) → Outcome (OnFile change file now ∷ mid) n c → Outcome old n c
    crash n c o = calm.crash n c (fewer n c o)

-- a sync, whatever it answers
pub calm_sync : {T E : Type 0} (r : Result T E) (file : ℕ) (old mid new : List Event) → Calm old mid → Valid mid → OnOk r (new ≡ OnFile Synced file (current mid file) ∷ mid) → OnErr r (ChangesInPart SyncFailed file mid new) → Calm old new
calm_sync (Ok x) file old mid new calm valid ok err =
    subst (Calm old) (sym ok) (calm_event Synced file (current mid file) old mid calm (λ c is. subst (λ (o : Option (List ℕ)). Outcome mid file o) (sym is) (stays mid file valid)))
calm_sync (Err e) file old mid new calm valid ok (inl same) = calm_same old mid new calm same
calm_sync (Err e) file old mid new calm valid ok (inr ch) = subst (Calm old) (sym ch.is) (calm_event SyncFailed file ch.now old mid calm (λ c o. o))
