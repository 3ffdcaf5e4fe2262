-- A file that is changed from outside: the deeds on it are forgotten, so it is settled as it is, and of every other file the history tells what it told.
use Rattle.std.proofs.Common.{◌≡◌, ◌≢◌, inl, inr, ℕ, zero, suc, ◌≤◌, List, [], ◌∷◌, ◌++◌, length, take, drop, reverse, filter, cond, nat_eq, not, if◌then◌else◌, Option, Some, None, option_map, vec_items, Bool, true, false, true≢false, refl, sym, ◌∙◌, ap, subst, arith}
use Rattle.std.proofs.lemmas.Bool.{cases_eq}
use Rattle.std.proofs.lemmas.Bool.Decides.{nat_tests}
use Rattle.std.proofs.lemmas.List.{append-nil, reverse-append}
use Rattle.std.proofs.lemmas.List.Elements.{filter-append}
use Rattle.nova_outside.specs.Disk.{Files, Only, SameBut, LeavesSameBut, overlaid}
use Rattle.nova_outside.specs.History.{Event, Change, IfTrue, Outcome, OutcomeOf, current, replies}
use Rattle.nova_outside.specs.History.Event.{OnFile, Replied as AddsReply}
use Rattle.nova_outside.specs.History.Change.{Created as IsCreated, Written as IsWritten, Synced as IsSynced, SyncFailed as IsSyncFailed, Removed as IsRemoved}
use Rattle.nova_mem.specs.Deeds.{with_file, files_before, replies_before, event_of, bytes_in, is_apart, settled, settled_file, told, wrote}
use Rattle.nova_mem.specs.declared.parts.Deed.{Deed}
use Rattle.nova_mem.specs.declared.parts.Deed.TheVariants.{Created, Written, Synced, Removed, Replied}
use Rattle.nova_mem.proofs.Told.{Stands, low, apart, replies_told}

-- two histories that tell the same of every file but this one
record Like (f : ℕ) (h k : List Event) : Type 0 where
  reads : SameBut f (current h) (current k)
  leaves : LeavesSameBut f (Outcome h) (Outcome k)

like_nothing : (f : ℕ) → Like f [] []
like_nothing f = record { reads = λ n ne. refl; leaves = λ n ne. (λ c o. o, λ c o. o) }

like_back : (f : ℕ) (h k : List Event) → Like f h k → Like f k h
like_back f h k l = record { reads = λ n ne. sym (l.reads n ne); leaves = λ n ne. ((l.leaves n ne).1, (l.leaves n ne).0) }

more_outcomes : (change : Change) (now : Option (List ℕ)) (P Q : Option (List ℕ) → Type 0) → ((c : Option (List ℕ)) → P c → Q c) → (c : Option (List ℕ)) → OutcomeOf change now P c → OutcomeOf change now Q c
more_outcomes IsCreated now P Q more c o = tt
more_outcomes (IsWritten at n) now P Q more c o = (o.0, more o.0 o.1, o.2)
more_outcomes IsSynced now P Q more c o = o
more_outcomes IsSyncFailed now P Q more c o = more c o
more_outcomes IsRemoved now P Q more c o = tt

if_more : (b : Bool) (P Q R S : Type 0) → (P → R) → (Q → S) → IfTrue b P Q → IfTrue b R S
if_more true P Q R S p q x = p x
if_more false P Q R S p q x = q x

-- one event more in both
like_both : (e : Event) (f : ℕ) (h k : List Event) → Like f h k → Like f (e ∷ h) (e ∷ k)
like_both (OnFile change g now) f h k l = record {
  reads = λ n ne. ap (λ (o : Option (List ℕ)). if nat_eq g n then now else o) (l.reads n ne);
  leaves = λ n ne. (
    λ c o. if_more (nat_eq g n) (OutcomeOf change now (Outcome k n) c) (Outcome k n c) (OutcomeOf change now (Outcome h n) c) (Outcome h n c) (more_outcomes change now (Outcome k n) (Outcome h n) (l.leaves n ne).0 c) ((l.leaves n ne).0 c) o,
    λ c o. if_more (nat_eq g n) (OutcomeOf change now (Outcome h n) c) (Outcome h n c) (OutcomeOf change now (Outcome k n) c) (Outcome k n c) (more_outcomes change now (Outcome h n) (Outcome k n) (l.leaves n ne).1 c) ((l.leaves n ne).1 c) o,
  );
}
like_both (AddsReply bytes) f h k l = record { reads = l.reads; leaves = l.leaves }

-- an event on the file, in one of them
like_one : (change : Change) (f g : ℕ) (now : Option (List ℕ)) (h k : List Event) → g ≡ f → Like f h k → Like f (OnFile change g now ∷ h) k
like_one change f g now h k is l = record {
  reads = λ n ne. l.reads n ne ∙ sym (ap (λ (b : Bool). if b then now else current h n) (off n ne));
  leaves = λ n ne. (
    λ c o. subst (λ (b : Bool). IfTrue b (OutcomeOf change now (Outcome h n) c) (Outcome h n c)) (sym (off n ne)) ((l.leaves n ne).0 c o),
    λ c o. (l.leaves n ne).1 c (subst (λ (b : Bool). IfTrue b (OutcomeOf change now (Outcome h n) c) (Outcome h n c)) (off n ne) o),
  );
}
  where
    off : (n : ℕ) → n ≢ f → nat_eq g n ≡ false
    off n ne = apart g n (λ e. ne (e ∙ is))

-- files that are settled

file_one : (f n : ℕ) (o : Option (List ℕ)) (h k : List Event) → n ≡ f → Like f h k → Like f (settled_file n o h) k
file_one f n None h k is l = l
file_one f n (Some bytes) h k is l = like_one IsSynced f n (Some bytes) (OnFile IsCreated n (Some bytes) ∷ h) k is (like_one IsCreated f n (Some bytes) h k is l)

file_both : (f n : ℕ) (o : Option (List ℕ)) (h k : List Event) → Like f h k → Like f (settled_file n o h) (settled_file n o k)
file_both f n None h k l = l
file_both f n (Some bytes) h k l = like_both (OnFile IsSynced n (Some bytes)) f (OnFile IsCreated n (Some bytes) ∷ h) (OnFile IsCreated n (Some bytes) ∷ k) (like_both (OnFile IsCreated n (Some bytes)) f h k l)

like_file : (f n : ℕ) (o p : Option (List ℕ)) (h k : List Event) → (n ≢ f → p ≡ o) → Like f h k → Like f (settled_file n o h) (settled_file n p k)
like_file f n o p h k same l = elim (cases_eq n f) [
  | inl is ↦ like_back f (settled_file n p k) (settled_file n o h) (file_one f n p k (settled_file n o h) is (like_back f (settled_file n o h) k (file_one f n o h k is l)))
  | inr ne ↦ subst (λ (q : Option (List ℕ)). Like f (settled_file n o h) (settled_file n q k)) (sym (same ne)) (file_both f n o h k l)
]

like_settled : (f base : ℕ) (old new : Files) → SameBut f old new → Like f (settled base old) (settled base new)
unfolding settled
like_settled f zero old new a = like_file f 0 (old 0) (new 0) [] [] (a 0) (like_nothing f)
like_settled f (suc n) old new a = like_file f (suc n) (old (suc n)) (new (suc n)) (settled n old) (settled n new) (a (suc n)) (like_settled f n old new a)

-- deeds

at_itself : (f g : ℕ) → g ≡ f → nat_eq g f ≡ true
at_itself f g is = grind (arith, nat_tests)

is_on : (f g : ℕ) → not (nat_eq g f) ≡ false → g ≡ f
is_on f g e = elim (cases_eq g f) [
  | inl is ↦ is
  | inr ne ↦ absurd (true≢false (sym (ap not (apart g f (λ p. ne (sym p)))) ∙ e))
]

is_off : (f g : ℕ) → not (nat_eq g f) ≡ true → g ≢ f
is_off f g e = λ is. true≢false (sym e ∙ ap not (at_itself f g is))

put_same : (g n : ℕ) (F : Option (List ℕ) → Option (List ℕ)) (old new : Files) → new n ≡ old n → with_file g (F (new g)) new n ≡ with_file g (F (old g)) old n
put_same g n F old new is = elim (cases_eq g n) [
  | inl e ↦ subst (λ (m : ℕ). with_file m (F (new m)) new n ≡ with_file m (F (old m)) old n) (sym e) (λ i. if nat_eq n n then F (is i) else is i)
  | inr ne ↦ let no : nat_eq g n ≡ false = apart g n (λ e. ne (sym e)) in
      ap (λ (b : Bool). if b then F (new g) else new n) no ∙ is ∙ sym (ap (λ (b : Bool). if b then F (old g) else old n) no)
]

before_same : (d : Deed) (f : ℕ) (old new : Files) → SameBut f old new → SameBut f (files_before d old) (files_before d new)
before_same (Created g before) f old new a = λ n ne. ap (λ (o : Option (List ℕ)). if nat_eq g n then option_map vec_items before else o) (a n ne)
before_same (Written g at count over long) f old new a = λ n ne. put_same g n (option_map (λ (after : List ℕ). take long (overlaid at over.items after))) old new (a n ne)
before_same (Synced g) f old new a = a
before_same (Removed g before) f old new a = λ n ne. ap (λ (o : Option (List ℕ)). if nat_eq g n then option_map vec_items before else o) (a n ne)
before_same (Replied count) f old new a = a

put_other : (g f n : ℕ) (o : Option (List ℕ)) (files : Files) → g ≡ f → n ≢ f → with_file g o files n ≡ files n
put_other g f n o files is ne = ap (λ (b : Bool). if b then o else files n) (apart g n (λ e. ne (e ∙ is)))

before_other : (d : Deed) (f : ℕ) → is_apart f d ≡ false → (files : Files) → SameBut f (files_before d files) files
before_other (Created g before) f e files = λ n ne. sym (put_other g f n (option_map vec_items before) files (is_on f g e) ne)
before_other (Written g at count over long) f e files = λ n ne. sym (put_other g f n (option_map (λ (after : List ℕ). take long (overlaid at over.items after)) (files g)) files (is_on f g e) ne)
before_other (Synced g) f e files = λ n ne. refl
before_other (Removed g before) f e files = λ n ne. sym (put_other g f n (option_map vec_items before) files (is_on f g e) ne)
before_other (Replied count) f e files = λ n ne. refl

put_here : (g f : ℕ) (o : Option (List ℕ)) (files : Files) → g ≢ f → with_file g o files f ≡ files f
put_here g f o files ne = ap (λ (b : Bool). if b then o else files f) (apart g f (λ e. ne (sym e)))

before_here : (d : Deed) (f : ℕ) → is_apart f d ≡ true → (files : Files) → files_before d files f ≡ files f
before_here (Created g before) f e files = put_here g f (option_map vec_items before) files (is_off f g e)
before_here (Written g at count over long) f e files = put_here g f (option_map (λ (after : List ℕ). take long (overlaid at over.items after)) (files g)) files (is_off f g e)
before_here (Synced g) f e files = refl
before_here (Removed g before) f e files = put_here g f (option_map vec_items before) files (is_off f g e)
before_here (Replied count) f e files = refl

-- a deed on another file, or a reply, is told the same
event_same : (d : Deed) (f : ℕ) → is_apart f d ≡ true → (old new : Files) (said : List ℕ) (h k : List Event) → SameBut f old new → Like f h k → event_of d new said k ≡ event_of d old said h
event_same (Created g before) f e old new said h k a l = ap (λ (o : Option (List ℕ)). OnFile IsCreated g (Some (bytes_in o))) (a g (is_off f g e))
event_same (Written g at count over long) f e old new said h k a l =
    ap (λ (o : Option (List ℕ)). wrote at (take count (drop at (bytes_in o))) g k) (a g (is_off f g e))
    ∙ (let bytes = take count (drop at (bytes_in (old g))) in ap (λ (o : Option (List ℕ)). OnFile (IsWritten at (length bytes)) g (option_map (overlaid at bytes) o)) (l.reads g (is_off f g e)))
event_same (Synced g) f e old new said h k a l = ap (λ (o : Option (List ℕ)). OnFile IsSynced g o) (l.reads g (is_off f g e))
event_same (Removed g before) f e old new said h k a l = refl
event_same (Replied count) f e old new said h k a l = refl

-- a deed on the file is told in one of them
like_gone : (d : Deed) (f : ℕ) → is_apart f d ≡ false → (files : Files) (said : List ℕ) (h k : List Event) → Like f h k → Like f (event_of d files said h ∷ h) k
like_gone (Created g before) f e files said h k l = like_one IsCreated f g (Some (bytes_in (files g))) h k (is_on f g e) l
like_gone (Written g at count over long) f e files said h k l =
    let bytes = take count (drop at (bytes_in (files g))) in like_one (IsWritten at (length bytes)) f g (option_map (overlaid at bytes) (current h g)) h k (is_on f g e) l
like_gone (Synced g) f e files said h k l = like_one IsSynced f g (current h g) h k (is_on f g e) l
like_gone (Removed g before) f e files said h k l = like_one IsRemoved f g None h k (is_on f g e) l
like_gone (Replied count) f e files said h k l = absurd (true≢false e)

said_same : (d : Deed) (f : ℕ) → is_apart f d ≡ false → (said : List ℕ) → replies_before d said ≡ said
said_same (Created g before) f e said = refl
said_same (Written g at count over long) f e said = refl
said_same (Synced g) f e said = refl
said_same (Removed g before) f e said = refl
said_same (Replied count) f e said = absurd (true≢false e)

abbrev EachLike : ℕ → ℕ → List Deed → Type 0
EachLike f base ds = (old new : Files) (said : List ℕ) → SameBut f old new → Like f (told ds base old said) (told (filter (is_apart f) ds) base new said)

told_step : (f base : ℕ) (d : Deed) (ds : List Deed) → EachLike f base ds → EachLike f base (d ∷ ds)
told_step f base d ds ih old new said a = pick (is_apart f d) refl
  where
    pick : (b : Bool) → is_apart f d ≡ b → Like f (told (d ∷ ds) base old said) (told (cond b (d ∷ filter (is_apart f) ds) (filter (is_apart f) ds)) base new said)
    pick true e =
        let h = told ds base (files_before d old) (replies_before d said) in
        let k = told (filter (is_apart f) ds) base (files_before d new) (replies_before d said) in
        let l = ih (files_before d old) (files_before d new) (replies_before d said) (before_same d f old new a) in
        subst (λ (x : Event). Like f (event_of d old said h ∷ h) (x ∷ k)) (sym (event_same d f e old new said h k a l)) (like_both (event_of d old said h) f h k l)
    pick false e =
        let h = told ds base (files_before d old) (replies_before d said) in
        let l = ih (files_before d old) new (replies_before d said) (λ n ne. a n ne ∙ before_other d f e old n ne) in
        like_gone d f e old said h (told (filter (is_apart f) ds) base new said) (subst (λ (t : List ℕ). Like f h (told (filter (is_apart f) ds) base new t)) (said_same d f e said) l)

like_told : (f base : ℕ) (ds : List Deed) → EachLike f base ds
like_told f base [] = λ old new said a. like_both (AddsReply said) f (settled base old) (settled base new) (like_settled f base old new a)
like_told f base (d ∷ ds) = told_step f base d ds (like_told f base ds)

-- of the file itself

stands_past : (change : Change) (g f : ℕ) (now o : Option (List ℕ)) (h : List Event) → g ≢ f → Stands f o h → Stands f o (OnFile change g now ∷ h)
stands_past change g f now o h ne s =
    let no : nat_eq g f ≡ false = apart g f (λ e. ne (sym e)) in
    record {
      is = ap (λ (b : Bool). if b then now else current h f) no ∙ s.is;
      only = λ c left. s.only c (subst (λ (b : Bool). IfTrue b (OutcomeOf change now (Outcome h f) c) (Outcome h f c)) no left);
    }

stands_by : (d : Deed) (f : ℕ) → is_apart f d ≡ true → (files : Files) (said : List ℕ) (o : Option (List ℕ)) (h : List Event) → Stands f o h → Stands f o (event_of d files said h ∷ h)
stands_by (Created g before) f e files said o h s = stands_past IsCreated g f (Some (bytes_in (files g))) o h (is_off f g e) s
stands_by (Written g at count over long) f e files said o h s =
    let bytes = take count (drop at (bytes_in (files g))) in stands_past (IsWritten at (length bytes)) g f (option_map (overlaid at bytes) (current h g)) o h (is_off f g e) s
stands_by (Synced g) f e files said o h s = stands_past IsSynced g f (current h g) o h (is_off f g e) s
stands_by (Removed g before) f e files said o h s = stands_past IsRemoved g f None o h (is_off f g e) s
stands_by (Replied count) f e files said o h s = record { is = s.is; only = s.only }

abbrev Alone : ℕ → ℕ → List Deed → Type 0
Alone f base ds = (files : Files) (said : List ℕ) → Stands f (files f) (told (filter (is_apart f) ds) base files said)

alone_step : (f base : ℕ) (d : Deed) (ds : List Deed) → Alone f base ds → Alone f base (d ∷ ds)
alone_step f base d ds ih files said = pick (is_apart f d) refl
  where
    pick : (b : Bool) → is_apart f d ≡ b → Stands f (files f) (told (cond b (d ∷ filter (is_apart f) ds) (filter (is_apart f) ds)) base files said)
    pick true e =
        let h = told (filter (is_apart f) ds) base (files_before d files) (replies_before d said) in
        stands_by d f e files said (files f) h (subst (λ (o : Option (List ℕ)). Stands f o h) (before_here d f e files) (ih (files_before d files) (replies_before d said)))
    pick false e = ih files said

alone_told : (f base : ℕ) → f ≤ base → (ds : List Deed) → Alone f base ds
alone_told f base le [] = λ files said. let s = low base files f le in record { is = s.is; only = s.only }
alone_told f base le (d ∷ ds) = alone_step f base d ds (alone_told f base le ds)

-- the same of the newest first

reverse_cond : (d : Deed) (es fs : List Deed) → reverse es ≡ fs → (b : Bool) → reverse (cond b (d ∷ es) es) ≡ fs ++ cond b (d ∷ []) []
reverse_cond d es fs is true = reverse-append (d ∷ []) es ∙ ap (λ (l : List Deed). l ++ d ∷ []) is
reverse_cond d es fs is false = is ∙ sym (append-nil fs)

filter-reverse : (p : Deed → Bool) (ds : List Deed) → reverse (filter p ds) ≡ filter p (reverse ds)
filter-reverse p [] = refl
filter-reverse p (d ∷ ds) =
    reverse_cond d (filter p ds) (filter p (reverse ds)) (filter-reverse p ds) (p d) ∙ sym (ap (filter p) (reverse-append (d ∷ []) ds) ∙ filter-append p (reverse ds) (d ∷ []))

without : (f : ℕ) (ds es : List Deed) → es ≡ filter (is_apart f) ds → reverse es ≡ filter (is_apart f) (reverse ds)
without f ds es is = ap (λ (l : List Deed). reverse l) is ∙ filter-reverse (is_apart f) ds

-- one file was changed
pub changed_one : (f : ℕ) (now : Option (List ℕ)) (old new : Files) → ((n : ℕ) → new n ≡ with_file f now old n) → SameBut f old new
changed_one f now old new is = λ n ne. is n ∙ put_other f f n now old refl ne

like_without : (f base : ℕ) (ds es : List Deed) (old new : Files) (said : List ℕ) → es ≡ filter (is_apart f) ds → SameBut f old new → Like f (told (reverse ds) base old said) (told (reverse es) base new said)
like_without f base ds es old new said is a = subst (λ (l : List Deed). Like f (told (reverse ds) base old said) (told l base new said)) (sym (without f ds es is)) (like_told f base (reverse ds) old new said a)

stands_without : (f base : ℕ) → f ≤ base → (ds es : List Deed) (new : Files) (said : List ℕ) → es ≡ filter (is_apart f) ds → Stands f (new f) (told (reverse es) base new said)
stands_without f base le ds es new said is = subst (λ (l : List Deed). Stands f (new f) (told l base new said)) (sym (without f ds es is)) (alone_told f base le (reverse ds) new said)

pub kept_without : (f base : ℕ) → f ≤ base → (ds es : List Deed) (old new : Files) (said : List ℕ) → es ≡ filter (is_apart f) ds → SameBut f old new
    → ((n : ℕ) → current (told (reverse ds) base old said) n ≡ old n) → (n : ℕ) → current (told (reverse es) base new said) n ≡ new n
kept_without f base le ds es old new said is a kept n = elim (cases_eq f n) [
  | inl e ↦ subst (λ (m : ℕ). current (told (reverse es) base new said) m ≡ new m) e (stands_without f base le ds es new said is).is
  | inr ne ↦ (like_without f base ds es old new said is a).reads n (λ e. ne (sym e)) ∙ kept n ∙ sym (a n (λ e. ne (sym e)))
]

pub only_without : (f base : ℕ) → f ≤ base → (ds es : List Deed) (old new : Files) (said : List ℕ) → es ≡ filter (is_apart f) ds → SameBut f old new
    → ((n : ℕ) → current (told (reverse ds) base old said) n ≡ old n) → Only (current (told (reverse es) base new said) f) (Outcome (told (reverse es) base new said) f)
only_without f base le ds es old new said is a kept = λ c left. let s = stands_without f base le ds es new said is in s.only c left ∙ sym s.is

pub others_without : (f base : ℕ) → f ≤ base → (ds es : List Deed) (old new : Files) (said : List ℕ) → es ≡ filter (is_apart f) ds → SameBut f old new
    → LeavesSameBut f (Outcome (told (reverse ds) base old said)) (Outcome (told (reverse es) base new said))
others_without f base le ds es old new said is a = (like_without f base ds es old new said is a).leaves

pub replies_without : (base : ℕ) (ds es : List Deed) (old new : Files) (said : List ℕ) → replies (told (reverse es) base new said) ≡ replies (told (reverse ds) base old said)
replies_without base ds es old new said = replies_told (reverse es) base new said ∙ sym (replies_told (reverse ds) base old said)
