-- A file of a state part is read one way.
use Rattle.std.proofs.Common.{◌≡◌, ◌≢◌, ◌⊎◌, inl, inr, ◌<◌, ◌≤◌, ℕ, List, [], length, Option, Some, None, Result, Ok, Err, refl, sym, ap, subst, ◌∙◌, arith}
use Rattle.std.proofs.lemmas.Bool.{cases_lt}
use Rattle.std.specs.Result.{IfOk, IfErr}
use Rattle.nova_row_codec.specs.Written.{IsBytes}
use Rattle.nova_block.specs.Files.{ContentsTold, GetCause, IsNotOf}
use Rattle.nova_block.specs.declared.fault.BlockFault.{BlockFault}
use Rattle.nova_block.specs.declared.fault.BlockFault.TheVariants.{Disk, Damaged, NoMemory}
use Rattle.nova_groups.specs.State.{StateValue}
use Rattle.nova_group_codec.specs.Sorts.{SortsValue}
use Rattle.nova_group_codec.specs.Written.{IsRefused, ReadsState, SpellsState, StateFails}
use Rattle.nova_group_codec.specs.declared.fault.StateFault.{StateFault}
use Rattle.nova_group_codec.specs.declared.fault.StateFault.TheVariants as state
use Rattle.nova_group_codec.proofs.States.{states_read, states_read_one_way}
use Rattle.nova_state_part.specs.Files.{HoldsPart, DamagedPartAt, PartTold, ReadsPart, damage_of}
use Rattle.nova_state_part.specs.Files as files
use Rattle.nova_state_part.specs.Statements.{PartsRead, PartsReadOneWay}

some_is : (x y : List ℕ) → Some x ≡ Some y → x ≡ y
some_is x y e = cc

ok_same : (a b : StateValue) → ◌≡◌ {A = Result StateValue ℕ} (Ok a) (Ok b) → a ≡ b
ok_same a b e = cc

err_same : (a b : ℕ) → ◌≡◌ {A = Result StateValue ℕ} (Err a) (Err b) → a ≡ b
err_same a b e = cc

ok_err : (st : StateValue) (at : ℕ) → ◌≡◌ {A = Result StateValue ℕ} (Ok st) (Err at) → ⊥
ok_err st at e = cc

-- ---- what a read says of the file

no_contents : (s : SortsValue) (size : ℕ) (c : Option (List ℕ)) → IsNotOf size c → DamagedPartAt s size c 0
no_contents s size None other = files.absent
no_contents s size (Some file) other = files.other_length other

pub contents_told : (s : SortsValue) (size : ℕ) (c : Option (List ℕ)) (e : BlockFault) → ContentsTold size c e → PartTold s size c e
contents_told s size c Disk told = tt
contents_told s size c NoMemory told = tt
contents_told s size c (Damaged f at) told = subst (DamagedPartAt s size c) (sym told.0) (no_contents s size c told.1)

pub holds : (s : SortsValue) (size : ℕ) (c : Option (List ℕ)) (bytes : List ℕ) (r : Result StateValue BlockFault) → (c ≡ Some bytes) × (length bytes ≡ size) → IfOk r (SpellsState s bytes) → IfOk r (HoldsPart s size c)
holds s size c bytes (Ok st) is spells = (bytes, is.0, is.1, spells)
holds s size c bytes (Err e) is spells = tt

pub told : (s : SortsValue) (size : ℕ) (c : Option (List ℕ)) (bytes : List ℕ) (r : Result StateValue BlockFault) → (c ≡ Some bytes) × (length bytes ≡ size) → IfErr r (PartTold s (length bytes) (Some bytes)) → IfErr r (PartTold s size c)
told s size c bytes (Ok st) is t = tt
told s size c bytes (Err e) is t = subst (λ (n : ℕ). PartTold s n c e) is.1 (subst (λ (o : Option (List ℕ)). PartTold s (length bytes) o e) (sym is.0) t)

pub damage_told : (s : SortsValue) (bytes : List ℕ) (fault : StateFault) (file : ℕ) → IsRefused s bytes fault → PartTold s (length bytes) (Some bytes) (damage_of fault file)
damage_told s bytes (state.Damaged at) file bad = files.no_state refl bad
damage_told s bytes state.NoMemory file bad = tt

pub damage_cause : (fault : StateFault) (file : ℕ) → GetCause 0 0 file (damage_of fault file)
damage_cause (state.Damaged at) file = refl
damage_cause state.NoMemory file = tt

-- ---- one way

module _ (s : SortsValue) (size : ℕ) where
  held : (file : List ℕ) (st : StateValue) → HoldsPart s size (Some file) st → (length file ≡ size) × SpellsState s file st
  held file st (other, is, len, spells) =
      let same : other ≡ file = sym (some_is file other is) in
      subst (λ (f : List ℕ). (length f ≡ size) × SpellsState s f st) same (len, spells)

  abbrev Damage : List ℕ → ℕ → Type 0
  Damage file at = ((length file ≢ size) × (at ≡ 0)) ⊎ ((length file ≡ size) × StateFails s file at)

  damaged : {file : List ℕ} {at : ℕ} → DamagedPartAt s size (Some file) at → Damage file at
  damaged (files.other_length other) = inl (other, refl)
  damaged (files.no_state len bad) = inr (len, bad)

  absent : {at : ℕ} → DamagedPartAt s size None at → at ≡ 0
  absent files.absent = refl

  never : (st : StateValue) → HoldsPart s size None st → ⊥
  never st (other, is, len, spells) = cc

  two_places : (file : List ℕ) (a b : ℕ) → Damage file a → Damage file b → a ≡ b
  two_places file a b (inl one) (inl other) = one.1 ∙ sym other.1
  two_places file a b (inl one) (inr other) = absurd (one.0 other.0)
  two_places file a b (inr one) (inl other) = absurd (other.0 one.0)
  two_places file a b (inr one) (inr other) = err_same a b (states_read_one_way s file (Err a) (Err b) one.1 other.1)

  not_both : (file : List ℕ) (st : StateValue) (a : ℕ) → (length file ≡ size) × SpellsState s file st → Damage file a → ⊥
  not_both file st a one (inl other) = other.0 one.0
  not_both file st a one (inr other) = ok_err st a (states_read_one_way s file (Ok st) (Err a) one.1 other.1)

  one_way : (c : Option (List ℕ)) (one other : Result StateValue ℕ) → ReadsPart s size c one → ReadsPart s size c other → one ≡ other
  one_way None (Ok st) other a b = absurd (never st a)
  one_way None (Err at) (Ok st) a b = absurd (never st b)
  one_way None (Err at) (Err also) a b = ap (λ (n : ℕ). Err n) (absent a ∙ sym (absent b))
  one_way (Some file) (Ok x) (Ok y) a b = states_read_one_way s file (Ok x) (Ok y) (held file x a).1 (held file y b).1
  one_way (Some file) (Ok st) (Err at) a b = absurd (not_both file st at (held file st a) (damaged b))
  one_way (Some file) (Err at) (Ok st) a b = absurd (not_both file st at (held file st b) (damaged a))
  one_way (Some file) (Err at) (Err also) a b = ap (λ (n : ℕ). Err n) (two_places file at also (damaged a) (damaged b))

module _ (s : SortsValue) (size : ℕ) (file : List ℕ) where
  of_bytes : length file ≡ size → (one : Result StateValue ℕ) × ReadsState s file one → (one : Result StateValue ℕ) × ReadsPart s size (Some file) one
  of_bytes len (Ok st, spells) = (Ok st, (file, refl, len, spells))
  of_bytes len (Err at, bad) = (Err at, files.no_state len bad)

  by_length : ((length file < size) ⊎ (size ≤ length file)) → ((size < length file) ⊎ (length file ≤ size)) → IsBytes file → (one : Result StateValue ℕ) × ReadsPart s size (Some file) one
  by_length (inl short) other fits = (Err 0, files.other_length (λ e. absurd (omega (arith, e, short))))
  by_length (inr reaches) (inl long) fits = (Err 0, files.other_length (λ e. absurd (omega (arith, e, long))))
  by_length (inr reaches) (inr ends) fits = of_bytes (omega (arith, reaches, ends)) (states_read s file fits)

pub parts_read : PartsRead
parts_read s size None fits = (Err 0, files.absent)
parts_read s size (Some file) fits = by_length s size file (cases_lt (length file) size) (cases_lt size (length file)) fits

pub parts_read_one_way : PartsReadOneWay
parts_read_one_way s size c one other a b = one_way s size c one other a b

-- no file is two states
pub one_part : (s : SortsValue) (size : ℕ) (c : Option (List ℕ)) (a b : StateValue) → HoldsPart s size c a → HoldsPart s size c b → a ≡ b
one_part s size c a b x y = ok_same a b (one_way s size c (Ok a) (Ok b) x y)

-- nor a state and damaged
pub not_damaged : (s : SortsValue) (size : ℕ) (c : Option (List ℕ)) (at : ℕ) (st : StateValue) → DamagedPartAt s size c at → HoldsPart s size c st → ⊥
not_damaged s size c at st bad is = ok_err st at (one_way s size c (Ok st) (Err at) is bad)
