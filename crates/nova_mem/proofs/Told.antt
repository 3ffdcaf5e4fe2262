-- The history of a disk in memory: what it tells of files and replies, that it is valid, and how it grows.
use Rattle.std.proofs.Common.{◌≡◌, ◌≢◌, inl, inr, ℕ, zero, suc, ◌-◌, ◌<◌, ◌≤◌, List, [], ◌∷◌, ◌++◌, length, take, drop, reverse, nat_eq, if◌then◌else◌, Option, Some, None, Result, Ok, Err, OnOk, OnErr, Bool, false, refl, sym, ◌∙◌, ap, subst, arith, length-append, take-append-drop}
use Rattle.std.proofs.lemmas.Bool.{cases_eq, cases_lt}
use Rattle.std.proofs.lemmas.Bool.Decides.{nat_tests}
use Rattle.std.proofs.lemmas.List.{reverse-append, take_at, drop_at}
use Rattle.nova_outside.specs.Disk.{Files, Only}
use Rattle.nova_outside.specs.History.{Event, Change, IfTrue, Outcome, current, replies}
use Rattle.nova_outside.specs.History.Event.{OnFile, Replied as AddsReply}
use Rattle.nova_outside.specs.History.Change.{Created as IsCreated, Synced as IsSynced}
use Rattle.nova_outside.proofs.Outcomes.{there}
use Rattle.nova_mem.specs.Deeds.{files_before, event_of, settled, settled_file, told}
use Rattle.nova_mem.specs.Does.{Does}
use Rattle.nova_mem.specs.declared.parts.Deed.{Deed}
use Rattle.nova_mem.specs.declared.parts.Deed.TheVariants.{Created, Written, Synced, Removed, Replied}
use Rattle.nova_mem.proofs.Changes.{here}

replies_settled_file : (n : ℕ) (o : Option (List ℕ)) (h : List Event) → replies h ≡ [] → replies (settled_file n o h) ≡ []
replies_settled_file n None h is = is
replies_settled_file n (Some bytes) h is = is

replies_settled : (base : ℕ) (files : Files) → replies (settled base files) ≡ []
unfolding settled
replies_settled zero files = replies_settled_file 0 (files 0) [] refl
replies_settled (suc n) files = replies_settled_file (suc n) (files (suc n)) (settled n files) (replies_settled n files)

-- the replies are those that are kept
pub replies_told : (ds : List Deed) (base : ℕ) (files : Files) (said : List ℕ) → replies (told ds base files said) ≡ said
replies_told [] base files said = ap (λ (l : List ℕ). l ++ said) (replies_settled base files)
replies_told (Created file before ∷ ds) base files said = replies_told ds base (files_before (Created file before) files) said
replies_told (Written file at count over length ∷ ds) base files said = replies_told ds base (files_before (Written file at count over length) files) said
replies_told (Synced file ∷ ds) base files said = replies_told ds base files said
replies_told (Removed file before ∷ ds) base files said = replies_told ds base (files_before (Removed file before) files) said
replies_told (Replied count ∷ ds) base files said = ap (λ (l : List ℕ). l ++ drop (length said - count) said) (replies_told ds base files (take (length said - count) said)) ∙ take-append-drop (length said - count) said

-- nothing done, nothing told
pub unchanged : (ds es : List Deed) (base : ℕ) (old new : Files) (said : List ℕ) → es ≡ ds → ((n : ℕ) → new n ≡ old n) → told (reverse es) base new said ≡ told (reverse ds) base old said
unchanged ds es base old new said is same = λ i. told (reverse (is i)) base (λ n. same n i) said

-- one event more
pub told_more : (change : Change) (file : ℕ) (now : Option (List ℕ)) (ds es : List Deed) (base : ℕ) (old new : Files) (said : List ℕ) → Does change file now ds es old new
    → current (told (reverse ds) base old said) file ≡ old file → told (reverse es) base new said ≡ OnFile change file now ∷ told (reverse ds) base old said
told_more change file now ds es base old new said d kept =
    let h = told (reverse ds) base old said in
    ap (λ (l : List Deed). told l base new said) d.newest ∙ (λ i. let earlier = told (reverse ds) base (λ n. d.undone n i) (d.said said i) in event_of d.deed new said earlier ∷ earlier) ∙ ap (λ (e : Event). e ∷ h) (d.event said h kept)

pub kept_more : (change : Change) (file : ℕ) (now : Option (List ℕ)) (ds es : List Deed) (base : ℕ) (old new : Files) (said : List ℕ) → Does change file now ds es old new
    → ((n : ℕ) → current (told (reverse ds) base old said) n ≡ old n) → (n : ℕ) → current (told (reverse es) base new said) n ≡ new n
kept_more change file now ds es base old new said d kept n =
    ap (λ (h : List Event). current h n) (told_more change file now ds es base old new said d (kept file)) ∙ ap (λ (o : Option (List ℕ)). if nat_eq file n then now else o) (kept n) ∙ sym (d.files n)

pub replied_more : (ds es : List Deed) (base : ℕ) (files : Files) (said new bytes : List ℕ) → es ≡ ds ++ Replied (length bytes) ∷ [] → new ≡ said ++ bytes → told (reverse es) base files new ≡ AddsReply bytes ∷ told (reverse ds) base files said
replied_more ds es base files said new bytes is added =
    let cut : length (said ++ bytes) - length bytes ≡ length said = omega (arith, length-append said bytes) in
    (λ i. told (reverse (is i)) base files (added i)) ∙ ap (λ (l : List Deed). told l base files (said ++ bytes)) (reverse-append ds (Replied (length bytes) ∷ []))
    ∙ (λ i. AddsReply (drop (cut i) (said ++ bytes)) ∷ told (reverse ds) base files (take (cut i) (said ++ bytes)))
    ∙ (λ i. AddsReply (drop_at said bytes (length said) refl i) ∷ told (reverse ds) base files (take_at said bytes (length said) refl i))

-- files that are settled

pub apart : (n m : ℕ) → m ≢ n → nat_eq n m ≡ false
apart n m ne = grind (arith, nat_tests)

file_is : (n : ℕ) (o : Option (List ℕ)) (h : List Event) → current h n ≡ None → current (settled_file n o h) n ≡ o
file_is n None h is = is
file_is n (Some bytes) h is = here n (Some bytes) (current (OnFile IsCreated n (Some bytes) ∷ h) n)

file_other : (n m : ℕ) (o : Option (List ℕ)) (h : List Event) → m ≢ n → current (settled_file n o h) m ≡ current h m
file_other n m None h ne = refl
file_other n m (Some bytes) h ne = let e = apart n m ne in ap (λ (b : Bool). if b then Some bytes else (if b then Some bytes else current h m)) e

only_is : (n : ℕ) (o : Option (List ℕ)) (h : List Event) → Only None (Outcome h n) → Only o (Outcome (settled_file n o h) n)
only_is n None h only = only
only_is n (Some bytes) h only = λ c left. there IsSynced n (Some bytes) (OnFile IsCreated n (Some bytes) ∷ h) c left

only_other : (n m : ℕ) (o file : Option (List ℕ)) (h : List Event) → m ≢ n → Only file (Outcome h m) → Only file (Outcome (settled_file n o h) m)
only_other n m None file h ne only = only
only_other n m (Some bytes) file h ne only = λ c left. only c (subst (λ (b : Bool). IfTrue b (c ≡ Some bytes) (IfTrue b (Unit {0}) (Outcome h m c))) (apart n m ne) left)

-- what is read of files that are settled, and what a crash leaves of them
pub record Stands (n : ℕ) (file : Option (List ℕ)) (h : List Event) : Type 0 where
  pub is : current h n ≡ file
  pub only : Only file (Outcome h n)

none_yet : (n : ℕ) → Stands n None []
none_yet n = record { is = refl; only = λ c left. left }

stands_is : (n : ℕ) (o : Option (List ℕ)) (h : List Event) → Stands n None h → Stands n o (settled_file n o h)
stands_is n o h s = record { is = file_is n o h s.is; only = only_is n o h s.only }

stands_other : (n m : ℕ) (o file : Option (List ℕ)) (h : List Event) → m ≢ n → Stands m file h → Stands m file (settled_file n o h)
stands_other n m o file h ne s = record { is = file_other n m o h ne ∙ s.is; only = only_other n m o file h ne s.only }

high : (base : ℕ) (files : Files) (n : ℕ) → base < n → Stands n None (settled base files)
unfolding settled
high zero files n lt = stands_other 0 n (files 0) None [] (omega (arith, lt)) (none_yet n)
high (suc k) files n lt = stands_other (suc k) n (files (suc k)) None (settled k files) (omega (arith, lt)) (high k files n (omega (arith, lt)))

pub low : (base : ℕ) (files : Files) (n : ℕ) → n ≤ base → Stands n (files n) (settled base files)
unfolding settled
low zero files n le = let e : 0 ≡ n = omega (arith, le) in subst (λ (m : ℕ). Stands m (files m) (settled_file 0 (files 0) [])) e (stands_is 0 (files 0) [] (none_yet 0))
low (suc k) files n le = elim (cases_eq (suc k) n) [
  | inl e ↦ subst (λ (m : ℕ). Stands m (files m) (settled_file (suc k) (files (suc k)) (settled k files))) e (stands_is (suc k) (files (suc k)) (settled k files) (high k files (suc k) (omega arith)))
  | inr ne ↦ stands_other (suc k) n (files (suc k)) (files n) (settled k files) (omega (arith, ne)) (low k files n (omega (arith, le, ne)))
]

stands_none : (base : ℕ) (files : Files) → ((n : ℕ) → files n ≡ None) → (n : ℕ) → Stands n None (settled base files)
stands_none base files none n = elim (cases_lt base n) [
  | inl lt ↦ high base files n lt
  | inr le ↦ subst (λ (o : Option (List ℕ)). Stands n o (settled base files)) (none n) (low base files n le)
]

-- where no file was ever there
pub kept_nothing : (ds : List Deed) (base : ℕ) (files : Files) (said : List ℕ) → ds ≡ [] → ((n : ℕ) → files n ≡ None) → (n : ℕ) → current (told (reverse ds) base files said) n ≡ files n
kept_nothing ds base files said is none n = ap (λ (l : List Deed). current (told (reverse l) base files said) n) is ∙ (stands_none base files none n).is ∙ sym (none n)

pub only_nothing : (ds : List Deed) (base : ℕ) (files : Files) (said : List ℕ) → ds ≡ [] → ((n : ℕ) → files n ≡ None) → (n : ℕ) → Only None (Outcome (told (reverse ds) base files said) n)
only_nothing ds base files said is none n = subst (λ (l : List Deed). Only None (Outcome (told (reverse l) base files said) n)) (sym is) (stands_none base files none n).only

-- the same after a call, whatever it answers
pub kept_after : {T E : Type 0} (change : Change) (file : ℕ) (now : Option (List ℕ)) (ds es : List Deed) (base : ℕ) (old new : Files) (said : List ℕ) (r : Result T E) → OnOk r (Does change file now ds es old new) → OnErr r ((es ≡ ds) × ((n : ℕ) → new n ≡ old n))
    → ((n : ℕ) → current (told (reverse ds) base old said) n ≡ old n) → (n : ℕ) → current (told (reverse es) base new said) n ≡ new n
kept_after change file now ds es base old new said (Ok x) ok err kept n = kept_more change file now ds es base old new said ok kept n
kept_after change file now ds es base old new said (Err e) ok err kept n = ap (λ (h : List Event). current h n) (unchanged ds es base old new said err.0 err.1) ∙ kept n ∙ sym (err.1 n)
