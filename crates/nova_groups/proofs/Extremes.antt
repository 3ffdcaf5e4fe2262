-- The ends of a counted ordered map are the least and the greatest of the values.
use Rattle.std.proofs.Common.{◌≡◌, ℕ, zero, suc, pos, Bool, true, false, ◌||◌, if◌then◌else◌, List, [], ◌∷◌, map, fold, Some, refl, ap, sym, ◌∙◌, arith, slice_get}
use Rattle.std.specs.Prelude.{is_some, All}
use Rattle.std.specs.declared.cmp.Ordering.{Ordering}
use Rattle.std.specs.declared.cmp.Ordering.TheVariants.{Less, Equal, Greater}
use Rattle.std.specs.Ordering.{eq_by_cmp, is_eq, is_lt, is_gt, ordering_reverse}
use Rattle.std.specs.Cmp.{eq_by_cmp_equiv}
use Rattle.std.specs.List.{list_any}
use Rattle.std.specs.FinMap as fin
use Rattle.std.specs.FinMap.{contains_key-keys, get-from_entries, from_entries}
use Rattle.std.specs.FinMap.Entries.{is_some-find}
use Rattle.std.proofs.lemmas.Cmp.{back_total, tied_itself}
use Rattle.nova_value.specs.declared.value.Value.{Value}
use Rattle.nova_value.specs.declared.value.Value.TheVariants.{Long}
use Rattle.nova_value.specs.Order.{value_cmp}
use Rattle.nova_value.specs.Orders.{values_total, exact_values}
use Rattle.nova_pig_algebra.specs.Meaning.{pick, least, greatest}
use Rattle.nova_groups.specs.Numbers.{count_seen}
use Rattle.nova_groups.proofs.Best.{best_same}

abbrev firsts : List (Value × ℕ) → List Value
firsts es = map (λ (e : Value × ℕ). e.0) es

keys_seen : (es : List (Value × ℕ)) (v : Value) → list_any (eq_by_cmp value_cmp v) (fin.keys (count_seen es)) ≡ list_any (eq_by_cmp value_cmp v) (firsts es)
keys_seen es v = sym (contains_key-keys (from_entries {R = value_cmp} es) v) ∙ ap is_some (get-from_entries values_total es v) ∙ is_some-find value_cmp v es

any-same : (p q : Value → Bool) → ((v : Value) → p v ≡ q v) → (vs : List Value) → list_any p vs ≡ list_any q vs
any-same p q h [] = refl
any-same p q h (v ∷ vs) = λ i. h v i || any-same p q h vs i

turn : (v : Value) (vs : List Value) → list_any (λ w. is_eq (value_cmp w v)) vs ≡ list_any (eq_by_cmp value_cmp v) vs
turn v vs = any-same (λ w. is_eq (value_cmp w v)) (eq_by_cmp value_cmp v) (λ w. (eq_by_cmp_equiv values_total).symm w v) vs

-- none is before v
abbrev Behind : (Value → Value → Ordering) → Value → List Value → Type 0
Behind R v [] = Unit {0}
Behind R v (w ∷ ws) = (is_lt (R w v) ≡ false) × Behind R v ws

stays : (R : Value → Value → Ordering) (v : Value) (vs : List Value) → Behind R v vs → fold (pick R) v vs ≡ v
stays R v [] h = refl
stays R v (w ∷ ws) h = ap (λ b. fold (pick R) (if b then w else v) ws) h.0 ∙ stays R v ws h.1

both : (a b : Bool) → (a ≡ true → b ≡ true) → (a || b) ≡ b
both true b h = sym (h refl)
both false b h = refl

behind_all : (R : Value → Value → Ordering) (v : Value) (P : Value → Type 0) → ((w : Value) → P w → is_lt (R w v) ≡ false) → (ws : List Value) → All P ws → Behind R v ws
behind_all R v P f [] h = tt
behind_all R v P f (w ∷ ws) h = (f w (h 0 v (omega arith)), behind_all R v P f ws (λ k d lt. h (suc k) d (omega (arith, lt))))

not_less : (o p : Ordering) → p ≡ ordering_reverse o → is_gt o ≡ false → is_lt p ≡ false
not_less Less Greater e h = refl
not_less Less Less e h = cc
not_less Less Equal e h = cc
not_less Equal Equal e h = refl
not_less Equal Less e h = cc
not_less Equal Greater e h = refl
not_less Greater p e h = absurd cc

pub least_is : (es : List (Value × ℕ)) (v : Value) (n : ℕ) → slice_get es 0 ≡ Some (v, n) → All (λ q. is_gt (value_cmp v q) ≡ false) (firsts es) → v ≡ least (fin.keys (count_seen es))
least_is [] v n at all = absurd cc
least_is (e ∷ es) v n at all =
    let first : e.0 ≡ v = cc in
    let behind = behind_all value_cmp v (λ q. is_gt (value_cmp v q) ≡ false) (λ w h. not_less (value_cmp v w) (value_cmp w v) (values_total.antisymm w v) h) (firsts es) (λ k d lt. all (suc k) d (omega (arith, lt))) in
    sym (best_same value_cmp values_total exact_values (fin.keys (count_seen (e ∷ es))) (firsts (e ∷ es)) (λ x. keys_seen (e ∷ es) x)
    ∙ ap (λ w. fold (pick value_cmp) w (firsts es)) first ∙ stays value_cmp v (firsts es) behind)

abbrev back : Value → Value → Ordering
back a b = value_cmp b a

at_place : (es : List (Value × ℕ)) (k : ℕ) (v : Value) (n : ℕ) → slice_get es k ≡ Some (v, n) → list_any (eq_by_cmp value_cmp v) (firsts es) ≡ true
at_place [] k v n at = absurd cc
at_place (e ∷ es) zero v n at =
    let first : e.0 ≡ v = cc in
    ap (λ w. eq_by_cmp value_cmp v w || list_any (eq_by_cmp value_cmp v) (firsts es)) first ∙ ap (λ o. is_eq o || list_any (eq_by_cmp value_cmp v) (firsts es)) (tied_itself values_total v)
at_place (e ∷ es) (suc k) v n at = or_right (eq_by_cmp value_cmp v e.0) _ (at_place es k v n at)
  where
    or_right : (a b : Bool) → b ≡ true → (a || b) ≡ true
    or_right true b h = refl
    or_right false b h = h

pub greatest_is : (es : List (Value × ℕ)) (k : ℕ) (v : Value) (n : ℕ) → slice_get es k ≡ Some (v, n) → All (λ q. is_lt (value_cmp v q) ≡ false) (firsts es) → v ≡ greatest (fin.keys (count_seen es))
greatest_is es k v n at all =
    let alike : (x : Value) → list_any (eq_by_cmp back x) (fin.keys (count_seen es)) ≡ list_any (eq_by_cmp back x) (v ∷ firsts es) =
    λ x. turn x (fin.keys (count_seen es)) ∙ keys_seen es x
    ∙ sym (turn x (v ∷ firsts es) ∙ both (eq_by_cmp value_cmp x v) (list_any (eq_by_cmp value_cmp x) (firsts es)) (λ ties. ap (λ w. list_any (eq_by_cmp value_cmp w) (firsts es)) (exact_values x v (tie _ ties)) ∙ at_place es k v n at)) in
    sym (best_same back (back_total values_total) (λ a b e. sym (exact_values b a e)) (fin.keys (count_seen es)) (v ∷ firsts es) alike
    ∙ stays back v (firsts es) (behind_all back v (λ q. is_lt (value_cmp v q) ≡ false) (λ w h. h) (firsts es) all))
  where
    tie : (o : Ordering) → is_eq o ≡ true → o ≡ Equal
    tie Less e = cc
    tie Equal e = refl
    tie Greater e = cc

pub none_least : (es : List (Value × ℕ)) → es ≡ [] → Long (pos 0) ≡ least (fin.keys (count_seen es))
none_least es e = sym (ap (λ (fs : List (Value × ℕ)). least (fin.keys (count_seen fs))) e ∙ best_same value_cmp values_total exact_values (fin.keys (count_seen [])) [] (λ x. keys_seen [] x))

pub none_greatest : (es : List (Value × ℕ)) → es ≡ [] → Long (pos 0) ≡ greatest (fin.keys (count_seen es))
none_greatest es e =
    sym (ap (λ (fs : List (Value × ℕ)). greatest (fin.keys (count_seen fs))) e
    ∙ best_same back (back_total values_total) (λ a b e. sym (exact_values b a e)) (fin.keys (count_seen [])) [] (λ x. turn x (fin.keys (count_seen [])) ∙ keys_seen [] x))
