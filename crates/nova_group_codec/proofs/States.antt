-- States are told by their bytes, and bytes that spell none have one first flaw.
use Rattle.std.proofs.Common.{◌≡◌, ℕ, ◌<◌, ◌^◌, List, [], ◌∷◌, ◌++◌, length, Result, Ok, Err, refl, sym, ap, subst, ◌∙◌}
use Rattle.std.specs.List.{AllByRecursion}
use Rattle.std.specs.FinMap as fin
use Rattle.std.specs.FinMap.{entries_sorted, same_entries_map}
use Rattle.std.proofs.lemmas.List.{append-nil}
use Rattle.nova_value.specs.declared.value.Value.{Value}
use Rattle.nova_value.specs.Order.{key_cmp}
use Rattle.nova_value.specs.Orders.{keys_total, exact_keys}
use Rattle.nova_row_codec.specs.Written.{IsBytes}
use Rattle.nova_row_codec.proofs.Fields.{Takes}
use Rattle.nova_groups.specs.declared.group.Share.{Share}
use Rattle.nova_groups.specs.Kinds.{Group}
use Rattle.nova_groups.specs.State.{StateValue}
use Rattle.nova_groups.specs.Seen.{share_seen, group_seen}
use Rattle.nova_group_codec.specs.declared.fault.Flaw.{Flaw}
use Rattle.nova_group_codec.specs.declared.fault.Flaw.TheVariants.{Short, Broken, NoMemory}
use Rattle.nova_group_codec.specs.Sorts.{SortsValue}
use Rattle.nova_group_codec.specs.Spelling.{share_bytes, group_bytes, list_bytes, FitsShare, FitsGroup}
use Rattle.nova_group_codec.specs.Reading.{Listed, FailsAt, Parts, list_at, share_at, group_at, ends, then_groups, parts_at, place}
use Rattle.nova_group_codec.specs.Faults.{SharesFail, GroupsFail}
use Rattle.nova_group_codec.specs.Written.{SpellsState, AreShares, AreGroups, PartsFail, StateFails, ReadsState, IsRefused, fault_at}
use Rattle.nova_group_codec.specs.Written as written
use Rattle.nova_group_codec.specs.Statements.{SpelledOnce, StatesRead, StatesReadOneWay}
use Rattle.nova_group_codec.proofs.Rising.{entries_rising}
use Rattle.nova_group_codec.proofs.Lists.{IsListField, list_field, listed_ok, listed_err, listed_no_err}
use Rattle.nova_group_codec.proofs.Items.{share_field, group_field}

abbrev Shares : Type 0
Shares = List (List Value × Share)

abbrev Groups : Type 0
Groups = List (List Value × Group)

-- ---- contributions and groups

share_list : (s : SortsValue) → IsListField (list_at key_cmp (share_at s)) share_bytes (AreShares s) (SharesFail s)
share_list s =
    let field = list_field keys_total (share_field s) in
    record {
      takes = λ bytes a fits e. let t = field.takes bytes a fits e in (t.0, record { fit = t.1.fit; rise = t.1.rise; few = t.1.few });
      again = λ es rest are. field.again es rest (record { fit = are.fit; rise = are.rise; few = are.few });
      fails = field.fails;
      refuses = field.refuses;
    }

group_list : (s : SortsValue) → IsListField (list_at key_cmp (group_at s)) group_bytes (AreGroups s) (GroupsFail s)
group_list s =
    let field = list_field keys_total (group_field s) in
    record {
      takes = λ bytes a fits e. let t = field.takes bytes a fits e in (t.0, record { fit = t.1.fit; rise = t.1.rise; few = t.1.few });
      again = λ es rest are. field.again es rest (record { fit = are.fit; rise = are.rise; few = are.few });
      fails = field.fails;
      refuses = field.refuses;
    }

-- Bytes that are these contributions and groups, and nothing more.
pub record AreParts (s : SortsValue) (bytes : List ℕ) (p : Parts) : Type 0 where
  pub is : bytes ≡ list_bytes share_bytes p.0 ++ list_bytes group_bytes p.1
  pub shares : AreShares s p.0
  pub groups : AreGroups s p.1

module _ (s : SortsValue) where
  pub parts_take : (bytes : List ℕ) (p : Parts) → IsBytes bytes → parts_at s bytes ≡ Ok p → AreParts s bytes p
  unfolding parts_at
  parts_take bytes p fits e = by_shares (list_at key_cmp (share_at s) bytes) refl e
    where
      by_rest : (a : Shares × List ℕ) → Takes bytes (list_bytes share_bytes a.0) a.1 × AreShares s a.0 → (groups : Groups) (rest : List ℕ) → Takes a.1 (list_bytes group_bytes groups) rest × AreGroups s groups → ends a.0 (Ok (groups, rest)) ≡ Ok p → AreParts s bytes p
      by_rest a t groups [] u e = subst (AreParts s bytes) (listed_ok (a.0, groups) p e) (record {
        is = t.0.parts ∙ ap (λ (b : List ℕ). list_bytes share_bytes a.0 ++ b) (u.0.parts ∙ append-nil (list_bytes group_bytes groups));
        shares = t.1;
        groups = u.1;
      })
      by_rest a t groups (c ∷ cs) u e = absurd (listed_no_err p (Broken, length (c ∷ cs)) (sym e))

      by_groups : (a : Shares × List ℕ) → Takes bytes (list_bytes share_bytes a.0) a.1 × AreShares s a.0 → (r : Listed (List Value × Group)) → list_at key_cmp (group_at s) a.1 ≡ r → ends a.0 r ≡ Ok p → AreParts s bytes p
      by_groups a t (Ok b) is e = by_rest a t b.0 b.1 ((group_list s).takes a.1 b t.0.rest_fits is) e
      by_groups a t (Err g) is e = absurd (listed_no_err p g (sym e))

      by_shares : (r : Listed (List Value × Share)) → list_at key_cmp (share_at s) bytes ≡ r → then_groups s r ≡ Ok p → AreParts s bytes p
      by_shares (Ok a) is e = by_groups a ((share_list s).takes bytes a fits is) (list_at key_cmp (group_at s) a.1) refl e
      by_shares (Err g) is e = absurd (listed_no_err p g (sym e))

  parts_again : (shares : Shares) (groups : Groups) → AreShares s shares → AreGroups s groups → parts_at s (list_bytes share_bytes shares ++ list_bytes group_bytes groups) ≡ Ok (shares, groups)
  unfolding parts_at
  parts_again shares groups are also =
      ap (then_groups s) ((share_list s).again shares (list_bytes group_bytes groups) are)
      ∙ ap (λ (b : List ℕ). ends shares (list_at key_cmp (group_at s) b)) (sym (append-nil (list_bytes group_bytes groups)))
      ∙ ap (ends shares) ((group_list s).again groups [] also)

  parts_fail : (bytes : List ℕ) (f : Flaw) (left : ℕ) → IsBytes bytes → parts_at s bytes ≡ Err (f, left) → PartsFail s bytes f left
  unfolding parts_at
  parts_fail bytes f left fits e = by_shares (list_at key_cmp (share_at s) bytes) refl e
    where
      by_rest : (shares : Shares) → AreShares s shares → (groups : Groups) (rest : List ℕ) → AreGroups s groups → ends shares (Ok (groups, rest)) ≡ Err (f, left) → PartsFail s (list_bytes share_bytes shares ++ (list_bytes group_bytes groups ++ rest)) f left
      by_rest shares are groups [] also e = absurd (listed_no_err (shares, groups) (f, left) e)
      by_rest shares are groups (c ∷ cs) also e =
          subst (λ (g : Flaw × ℕ). PartsFail s (list_bytes share_bytes shares ++ (list_bytes group_bytes groups ++ c ∷ cs)) g.0 g.1) (listed_err {A = Parts} (Broken, length (c ∷ cs)) (f, left) e)
          (written.behind shares groups c cs are also)

      by_groups : (a : Shares × List ℕ) → AreShares s a.0 → IsBytes a.1 → (r : Listed (List Value × Group)) → list_at key_cmp (group_at s) a.1 ≡ r → ends a.0 r ≡ Err (f, left) → PartsFail s (list_bytes share_bytes a.0 ++ a.1) f left
      by_groups a are fits (Ok b) is e =
          let u = (group_list s).takes a.1 b fits is in
          subst (λ (c : List ℕ). PartsFail s (list_bytes share_bytes a.0 ++ c) f left) (sym u.0.parts) (by_rest a.0 are b.0 b.1 u.1 e)
      by_groups a are fits (Err g) is e = written.in_groups a.0 a.1 are ((group_list s).fails a.1 f left fits (is ∙ ap (λ (h : Flaw × ℕ). Err h) (listed_err {A = Parts} g (f, left) e)))

      by_shares : (r : Listed (List Value × Share)) → list_at key_cmp (share_at s) bytes ≡ r → then_groups s r ≡ Err (f, left) → PartsFail s bytes f left
      by_shares (Ok a) is e =
          let t = (share_list s).takes bytes a fits is in
          subst (λ (b : List ℕ). PartsFail s b f left) (sym t.0.parts) (by_groups a t.1 t.0.rest_fits (list_at key_cmp (group_at s) a.1) refl e)
      by_shares (Err g) is e = written.in_shares ((share_list s).fails bytes f left fits (is ∙ ap (λ (h : Flaw × ℕ). Err h) (listed_err {A = Parts} g (f, left) e)))

parts_refuse : {s : SortsValue} {bytes : List ℕ} {f : Flaw} {left : ℕ} → PartsFail s bytes f left → parts_at s bytes ≡ Err (f, left)
unfolding parts_at
parts_refuse {s = s} (written.in_shares {bytes = bytes} {flaw = f} {left = left} bad) = ap (then_groups s) ((share_list s).refuses bytes f left bad)
parts_refuse {s = s} (written.in_groups {flaw = f} {left = left} shares bytes are bad) = ap (then_groups s) ((share_list s).again shares bytes are) ∙ ap (ends shares) ((group_list s).refuses bytes f left bad)
parts_refuse {s = s} (written.behind shares groups byte bytes are also) =
    ap (then_groups s) ((share_list s).again shares (list_bytes group_bytes groups ++ byte ∷ bytes) are) ∙ ap (ends shares) ((group_list s).again groups (byte ∷ bytes) also)

-- ---- states

abbrev pub state_of : Parts → StateValue
state_of p = record { shares = share_seen p.0; groups = group_seen p.1 }

pub spells : (s : SortsValue) (bytes : List ℕ) (p : Parts) → AreParts s bytes p → SpellsState s bytes (state_of p)
spells s bytes p are =
    let shares : fin.entries (share_seen p.0) ≡ p.0 = entries_rising keys_total exact_keys p.0 are.shares.rise in
    let groups : fin.entries (group_seen p.1) ≡ p.1 = entries_rising keys_total exact_keys p.1 are.groups.rise in
    record {
      shares = subst (λ (es : Shares). AllByRecursion (FitsShare s) es) (sym shares) are.shares.fit;
      groups = subst (λ (es : Groups). AllByRecursion (FitsGroup s) es) (sym groups) are.groups.fit;
      few_shares = subst (λ (es : Shares). length es < 2 ^ 64) (sym shares) are.shares.few;
      few_groups = subst (λ (es : Groups). length es < 2 ^ 64) (sym groups) are.groups.few;
      is = are.is ∙ ap (λ (es : Shares). list_bytes share_bytes es ++ list_bytes group_bytes p.1) (sym shares)
          ∙ ap (λ (es : Groups). list_bytes share_bytes (fin.entries (share_seen p.0)) ++ list_bytes group_bytes es) (sym groups);
    }

state_reads : (s : SortsValue) (bytes : List ℕ) (st : StateValue) → SpellsState s bytes st → parts_at s bytes ≡ Ok (fin.entries st.shares, fin.entries st.groups)
state_reads s bytes st spelled =
    ap (parts_at s) spelled.is
    ∙ parts_again s (fin.entries st.shares) (fin.entries st.groups)
    (record { fit = spelled.shares; rise = entries_sorted st.shares; few = spelled.few_shares })
    (record { fit = spelled.groups; rise = entries_sorted st.groups; few = spelled.few_groups })

-- the flaw that bytes without a state have
record Flawed (s : SortsValue) (bytes : List ℕ) (at : ℕ) : Type 0 where
  flaw : Flaw × ℕ
  is : at ≡ place (length bytes) flaw
  reads : parts_at s bytes ≡ Err flaw

flawed_at : {s : SortsValue} {bytes : List ℕ} {at : ℕ} → StateFails s bytes at → Flawed s bytes at
flawed_at (written.flawed flaw left bad) = record { flaw = (flaw, left); is = refl; reads = parts_refuse bad }

pub spelled_once : SpelledOnce
spelled_once s bytes one other a b =
    let same = listed_ok (fin.entries one.shares, fin.entries one.groups) (fin.entries other.shares, fin.entries other.groups) (sym (state_reads s bytes one a) ∙ state_reads s bytes other b) in
    let shares = same_entries_map one.shares other.shares (ap (λ (p : Parts). p.0) same) in
    let groups = same_entries_map one.groups other.groups (ap (λ (p : Parts). p.1) same) in
    λ i. record { shares = shares i; groups = groups i }

pub states_read_one_way : StatesReadOneWay
states_read_one_way s bytes (Ok a) (Ok b) one other = ap (λ (st : StateValue). Ok st) (spelled_once s bytes a b one other)
states_read_one_way s bytes (Ok a) (Err n) one other = let f = flawed_at other in absurd (listed_no_err (fin.entries a.shares, fin.entries a.groups) f.flaw (sym (state_reads s bytes a one) ∙ f.reads))
states_read_one_way s bytes (Err m) (Ok b) one other = let f = flawed_at one in absurd (listed_no_err (fin.entries b.shares, fin.entries b.groups) f.flaw (sym (state_reads s bytes b other) ∙ f.reads))
states_read_one_way s bytes (Err m) (Err n) one other =
    let f = flawed_at one in
    let g = flawed_at other in
    let same = listed_err {A = Parts} f.flaw g.flaw (sym f.reads ∙ g.reads) in
    ap (λ (k : ℕ). Err k) (f.is ∙ ap (place (length bytes)) same ∙ sym g.is)

pub states_read : StatesRead
states_read s bytes fits = by_parts (parts_at s bytes) refl
  where
    by_parts : (r : Result Parts (Flaw × ℕ)) → parts_at s bytes ≡ r → (one : Result StateValue ℕ) × ReadsState s bytes one
    by_parts (Ok p) is = (Ok (state_of p), spells s bytes p (parts_take s bytes p fits is))
    by_parts (Err f) is = (Err (place (length bytes) f), written.flawed f.0 f.1 (parts_fail s bytes f.0 f.1 fits is))

pub refused : (s : SortsValue) (bytes : List ℕ) (f : Flaw) (left : ℕ) → IsBytes bytes → FailsAt f left (parts_at s bytes) → IsRefused s bytes (fault_at (length bytes) (f, left))
refused s bytes Short left fits is = written.flawed Short left (parts_fail s bytes Short left fits is)
refused s bytes Broken left fits is = written.flawed Broken left (parts_fail s bytes Broken left fits is)
refused s bytes NoMemory left fits is = tt
