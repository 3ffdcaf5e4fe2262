-- Replies one after the other, some of them through a buffer.
use Rattle.std.proofs.Common.{◌≡◌, ℕ, ◌≤◌, Bool, List, [], ◌∷◌, ◌++◌, length, true, ◌==◌, IsTrue, Result, Ok, Err, OnOk, OnErr, sym, ap, ◌∙◌, append_assoc, refl, arith}
use Rattle.std.proofs.lemmas.Bool.Decides.{nat_tests}
use Rattle.std.proofs.lemmas.List.{append-nil, nil_from_length}
use Rattle.std.specs.Result.{MatchResult}
use Rattle.nova_outside.specs.declared.Host as host
use Rattle.nova_outside.specs.Causes.{HasCause}
use Rattle.nova_outside.specs.History.{Event, Replied, RepliesInPart}
use Rattle.nova_outside.specs.Replies.{Gives, GivesInPart}
use Rattle.nova_outside.proofs.ReplyLemmas.{replied_once, replied_nothing, replied_both, part_once, part_front, part_behind}
use Rattle.nova_script.specs.Buffered.{Holds}
use Rattle.nova_script.specs.Replying.{OnlyReplies, Pushes, Replies}

-- ---- what calls gave

-- one call of `reply`
pub gives_once : {E : Type 0} (h : Bool) (r : Result (Unit {0}) E) (old new : List Event) (bytes : List ℕ)
    → (IsTrue h → OnOk r (new ≡ Replied bytes ∷ old)) → (IsTrue h → OnErr r (RepliesInPart bytes old new))
    → MatchResult r (λ _. Gives h old new bytes) (λ _. GivesInPart h old new bytes)
gives_once h (Ok u) old new bytes ok err = λ honest. replied_once old new bytes (ok honest)
gives_once h (Err e) old new bytes ok err = λ honest. part_once old new bytes (err honest)

pub empty_is : (xs : List ℕ) (b : Bool) → b ≡ (length xs == 0) → b ≡ true → xs ≡ []
empty_is xs b e t = nil_from_length xs (grind (arith, nat_tests, e, t))

-- bytes that only went into the buffer
pub holds_nothing_given : (h : Bool) (old : List Event) (held left bytes : List ℕ) → left ≡ held ++ bytes → Holds h old old held left bytes
holds_nothing_given h old held left bytes is honest = record { given = []; replied = replied_nothing old; all = sym is }

-- what was held was replied, and the bytes stand in the buffer, which was empty
pub holds_flushed : (h : Bool) (old new : List Event) (held empty left bytes : List ℕ) → Gives h old new held → empty ≡ [] → left ≡ empty ++ bytes → Holds h old new held left bytes
holds_flushed h old new held empty left bytes gives is_empty is honest =
    record { given = held; replied = gives honest; all = ap (λ t. held ++ t) (sym (is ∙ ap (λ t. t ++ bytes) is_empty)) }

-- what was held was replied, and then the bytes, by a call of their own
holds_replied : (h : Bool) (a b c : List Event) (held left bytes : List ℕ) → left ≡ [] → Gives h a b held → Gives h b c bytes → Holds h a c held left bytes
holds_replied h a b c held left bytes none one two honest =
    record { given = held ++ bytes; replied = replied_both a b c held bytes (one honest) (two honest); all = sym (ap (λ t. (held ++ bytes) ++ t) none ∙ append-nil (held ++ bytes)) }

-- bytes after bytes
holds_both : (h : Bool) (a b c : List Event) (held mid left xs ys : List ℕ) → Holds h a b held mid xs → Holds h b c mid left ys → Holds h a c held left (xs ++ ys)
holds_both h a b c held mid left xs ys one two honest =
    let first = one honest in
    let second = two honest in
    record {
      given = first.given ++ second.given;
      replied = replied_both a b c first.given second.given first.replied second.replied;
      all = sym (append_assoc held xs ys) ∙ ap (λ t. t ++ ys) first.all ∙ append_assoc first.given mid ys ∙ ap (λ t. first.given ++ t) second.all ∙ sym (append_assoc first.given second.given left);
    }

-- and those that failed after them
part_held : (h : Bool) (a b c : List Event) (held mid xs ys : List ℕ) → Holds h a b held mid xs → GivesInPart h b c (mid ++ ys) → GivesInPart h a c (held ++ (xs ++ ys))
part_held h a b c held mid xs ys one two honest =
    let first = one honest in
    let all : first.given ++ (mid ++ ys) ≡ held ++ (xs ++ ys) = sym (append_assoc first.given mid ys) ∙ ap (λ t. t ++ ys) (sym first.all) ∙ append_assoc held xs ys in
    rw (← all) (part_behind a b c first.given (mid ++ ys) first.replied (two honest))

-- bytes that failed, with others to follow
part_held_front : (h : Bool) (old new : List Event) (held xs ys : List ℕ) → GivesInPart h old new (held ++ xs) → GivesInPart h old new (held ++ (xs ++ ys))
part_held_front h old new held xs ys part honest = rw (← append_assoc held xs ys) (part_front old new (held ++ xs) ys (part honest))

-- replies that failed behind others
part_given : (h : Bool) (a b c : List Event) (xs ys : List ℕ) → Gives h a b xs → GivesInPart h b c ys → GivesInPart h a c (xs ++ ys)
part_given h a b c xs ys one two honest = part_behind a b c xs ys (one honest) (two honest)

-- ---- what calls did

cause_after : {T E : Type 0} (r : Result T E) (a b c : ℕ) → a ≤ b → HasCause b c r → HasCause a c r
cause_after (Ok t) a b c later cause = let l = cause.later in record { later = omega (arith, later, l); failed = cause.failed }
cause_after (Err e) a b c later cause =
    let l = cause.later in
    let rose = cause.failed in
    record { later = omega (arith, later, l); failed = omega (arith, later, rose) }

-- a call that succeeded, and then another
pub after_ok : {D T E U F : Type 0} (H : host.Ghosts D) (value : T) (r : Result U F) (a b c : D) (First FirstPart Second SecondPart Whole Part : Type 0)
    → OnlyReplies {E = E} H a b First FirstPart (Ok value) → OnlyReplies H b c Second SecondPart r
    → (First → Second → Whole) → (First → SecondPart → Part)
    → OnlyReplies H a c Whole Part r
after_ok H value (Ok u) a b c First FirstPart Second SecondPart Whole Part one two whole part = record {
  given = whole one.given two.given;
  cause = cause_after (Ok u) _ _ _ one.cause.later two.cause;
  disk_faults = two.disk_faults ∙ one.disk_faults;
  bytes_read = two.bytes_read ∙ one.bytes_read;
}
after_ok H value (Err e) a b c First FirstPart Second SecondPart Whole Part one two whole part = record {
  given = part one.given two.given;
  cause = cause_after (Err e) _ _ _ one.cause.later two.cause;
  disk_faults = two.disk_faults ∙ one.disk_faults;
  bytes_read = two.bytes_read ∙ one.bytes_read;
}

-- a call that failed, and none after it
pub after_err : {D T E U F : Type 0} (H : host.Ghosts D) (fault : E) (again : F) (a b : D) (First FirstPart Whole Part : Type 0)
    → OnlyReplies {T = T} H a b First FirstPart (Err fault) → (FirstPart → Part) → OnlyReplies {T = U} H a b Whole Part (Err again)
after_err H fault again a b First FirstPart Whole Part one part = record {
  given = part one.given;
  cause = record { later = one.cause.later; failed = one.cause.failed };
  disk_faults = one.disk_faults;
  bytes_read = one.bytes_read;
}

-- ---- the same of bytes

-- bytes went behind those that are held, and then others
pub pushes_then : {D T E U F : Type 0} (H : host.Ghosts D) (value : T) (r : Result U F) (a b c : D) (held mid left xs ys : List ℕ)
    → Pushes {E = E} H a b held mid xs (Ok value) → Pushes H b c mid left ys r → Pushes H a c held left (xs ++ ys) r
pushes_then H value r a b c held mid left xs ys one two =
    after_ok H value r a b c _ _ _ _ _ _ one two
    (holds_both H.is_honest (H.history a) (H.history b) (H.history c) held mid left xs ys)
    (part_held H.is_honest (H.history a) (H.history b) (H.history c) held mid xs ys)

-- bytes failed, with others to follow
pub pushes_failed : {D T E U F : Type 0} (H : host.Ghosts D) (fault : E) (again : F) (a b : D) (held mid left xs ys all : List ℕ) → xs ++ ys ≡ all
    → Pushes {T = T} H a b held mid xs (Err fault) → Pushes {T = U} H a b held left all (Err again)
pushes_failed H fault again a b held mid left xs ys all is one =
    after_err H fault again a b _ _ _ _ one
    (λ part. rw (← is) (part_held_front H.is_honest (H.history a) (H.history b) held xs ys part))

-- nothing is done for no bytes
idle : {D E : Type 0} (H : host.Ghosts D) (a : D) (Whole Part : Type 0) → Whole → OnlyReplies {T = Unit {0}} {E = E} H a a Whole Part (Ok tt)
idle H a Whole Part whole = record {
  given = whole;
  cause = record { later = omega arith; failed = tt };
  disk_faults = refl;
  bytes_read = refl;
}

pub pushes_nothing : {D E : Type 0} (H : host.Ghosts D) (a : D) (held : List ℕ) → Pushes {T = Unit {0}} {E = E} H a a held held [] (Ok tt)
pushes_nothing H a held = idle H a _ _ (holds_nothing_given H.is_honest (H.history a) held held [] (sym (append-nil held)))

pub replies_nothing : {D E : Type 0} (H : host.Ghosts D) (a : D) (bytes : List ℕ) → bytes ≡ [] → Replies {T = Unit {0}} {E = E} H a a bytes (Ok tt)
replies_nothing H a bytes none = idle H a _ _ (λ honest. rw none (replied_nothing (H.history a)))

-- what was held was replied, and then the bytes, by a call of their own
pub pushes_replied : {D T E U F : Type 0} (H : host.Ghosts D) (value : T) (r : Result U F) (a b c : D) (held left bytes : List ℕ) → left ≡ []
    → Replies {E = E} H a b held (Ok value) → Replies H b c bytes r → Pushes H a c held left bytes r
pushes_replied H value r a b c held left bytes none one two =
    after_ok H value r a b c _ _ _ _ _ _ one two
    (holds_replied H.is_honest (H.history a) (H.history b) (H.history c) held left bytes none)
    (part_given H.is_honest (H.history a) (H.history b) (H.history c) held bytes)

-- bytes went into a buffer that held none, and all that it held was replied in the end
pub replies_flushed : {D T E U F : Type 0} (H : host.Ghosts D) (value : T) (r : Result U F) (a b c : D) (left bytes : List ℕ)
    → Pushes {E = E} H a b [] left bytes (Ok value) → Replies H b c left r → Replies H a c bytes r
replies_flushed H value r a b c left bytes one two =
    after_ok H value r a b c _ _ _ _ _ _ one two
    (λ first second honest. let f = first honest in rw f.all (replied_both (H.history a) (H.history b) (H.history c) f.given left f.replied (second honest)))
    (λ first second honest. let f = first honest in rw f.all (part_behind (H.history a) (H.history b) (H.history c) f.given left f.replied (second honest)))

-- or failed on its way
pub replies_failed : {D T E U F : Type 0} (H : host.Ghosts D) (fault : E) (again : F) (a b : D) (left bytes : List ℕ)
    → Pushes {T = T} H a b [] left bytes (Err fault) → Replies {T = U} H a b bytes (Err again)
replies_failed H fault again a b left bytes one = after_err H fault again a b _ _ _ _ one (λ part. part)
