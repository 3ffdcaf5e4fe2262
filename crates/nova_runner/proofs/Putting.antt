-- Blocks that are put one after the other.
use Rattle.std.proofs.Common.{◌≡◌, ◌≢◌, ◌⊎◌, inl, inr, ℕ, zero, suc, ◌<◌, List, [], ◌∷◌, ◌++◌, length, take, get_or, refl, sym, ◌∙◌, subst, arith}
use Rattle.nova_outside.specs.Disk.{LeavesSameBut, SameBut}
use Rattle.nova_outside.specs.History.{Event, Outcome, current}
use Rattle.nova_path.specs.Lists.{IsOneOf}
use Rattle.nova_path.proofs.Paths.{one_either}
use Rattle.nova_channel.specs.Reading.{block_file}
use Rattle.nova_runner.specs.Committing.{ArePut, IsPut, LeavesAllBut}
use Rattle.nova_runner.specs.declared.ready.Fresh.{Fresh}

pub one_at : (fresh : List Fresh) (i : ℕ) (d : Fresh) → i < length fresh → IsOneOf fresh (get_or fresh i d)
one_at [] i d lt = absurd (omega (arith, lt))
one_at (f ∷ fs) zero d lt = inl refl
one_at (f ∷ fs) (suc i) d lt = inr (one_at fs i d (omega arith))

one_in : (fresh : List Fresh) (i : ℕ) (f : Fresh) → IsOneOf (take i fresh) f → IsOneOf fresh f
one_in fresh zero f is = absurd is
one_in [] (suc i) f is = absurd is
one_in (g ∷ gs) (suc i) f (inl e) = inl e
one_in (g ∷ gs) (suc i) f (inr more) = inr (one_in gs i f more)

same_or_not : (a b : ℕ) → (a ≡ b) ⊎ (a ≢ b)
same_or_not a b = grind arith

pub all_but_itself : (fresh : List Fresh) (h : List Event) → LeavesAllBut fresh h h
all_but_itself fresh h = record { reads = λ n apart. refl; leaves = λ n apart. (λ c is. is, λ c is. is) }

module _ (fresh : List Fresh) (g : Fresh) (a b c : List Event) (there : IsOneOf fresh g)
    (reads : SameBut (block_file g.block) (current b) (current c)) (leaves : LeavesSameBut (block_file g.block) (Outcome b) (Outcome c)) where
  pub all_but_more : LeavesAllBut fresh a b → LeavesAllBut fresh a c
  all_but_more is = record {
    reads = λ n apart. reads n (apart g there) ∙ is.reads n apart;
    leaves = λ n apart. let one = is.leaves n apart in let two = leaves n (apart g there) in (λ o h. one.0 o (two.0 o h), λ o h. two.1 o (one.1 o h));
  }

  -- those that were put stay so
  pub put_stays : (i : ℕ) → ((e f : Fresh) → IsOneOf fresh e → IsOneOf fresh f → e.block ≡ f.block → e ≡ f) → ArePut (take i fresh) b → IsPut c g → ArePut (take i fresh ++ g ∷ []) c
  put_stays i apart put new f is = elim (one_either (take i fresh) (g ∷ []) f is) as (λ _. IsPut c f) [
    | inl old ↦ elim (same_or_not f.block g.block) as (λ _. IsPut c f) [
      | inl e ↦ subst (IsPut c) (apart g f there (one_in fresh i f old) (sym e)) new
      | inr ne ↦
          let other : block_file f.block ≢ block_file g.block = λ e. ne (omega (arith, e)) in
          let was = put f old in
          (reads (block_file f.block) other ∙ was.0, λ o h. was.1 o ((leaves (block_file f.block) other).0 o h))
    ]
    | inr (inl e) ↦ subst (IsPut c) e new
    | inr (inr none) ↦ absurd none
  ]
