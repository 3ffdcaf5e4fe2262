-- What a plan's delta has at each key.
use Rattle.std.specs.Prelude.{◌≡◌, [], ◌∷◌, Some, refl}
use Rattle.std.proofs.Common.{ap, sym, ◌∙◌, subst}
use Rattle.std.specs.FinMap.{get}
use Rattle.nova_value.specs.declared.schema.Entry.{Entry}
use Rattle.nova_value.specs.Entries.{entry_key}
use Rattle.nova_delta.specs.Merge.{DeltaValue}
use Rattle.nova_pig_algebra.specs.Plan.{tree_of_plan}
use Rattle.nova_pig_algebra.specs.Statements.{In}
use Rattle.nova_rowwise.specs.Derived.{made_of, plan_keys, derived}
use Rattle.nova_rowwise.specs.Statements.{DerivedAtEachKey, IsAnswer, main_shape, of_entries}
use Rattle.nova_rowwise.proofs.AtOnceIs.{answered, answers_at}
use Rattle.nova_rowwise.proofs.Merges.{entry_got, got_entry}
use Rattle.nova_rowwise.proofs.RowPlans.{keys_tell}

pub at_each_key : DerivedAtEachKey
at_each_key p row shape lookups d is_d q e = (there, back)
  where
    delta : DeltaValue
    delta = of_entries (main_shape p) d

    there : get (derived p lookups (of_entries (main_shape p) d)).entries q ≡ Some e → IsAnswer p lookups d q e
    there has =
        let a = answered (main_shape p) p.output (plan_keys p) shape (keys_tell p row shape) (λ r. made_of (tree_of_plan p) lookups (r ∷ [])) delta refl is_d q e has in
        record { key = entry_key (main_shape p) a.0.e; entry = a.0.e; given = entry_got delta a.0.e is_d a.0.there; output = a.0.key; is = a.1 }

    back : IsAnswer p lookups d q e → get (derived p lookups (of_entries (main_shape p) d)).entries q ≡ Some e
    back a =
        let at = is_d.each a.key a.entry a.given in
        answers_at (main_shape p) p.output (plan_keys p) shape (keys_tell p row shape) (λ r. made_of (tree_of_plan p) lookups (r ∷ [])) delta refl is_d q
        (record { e = a.entry; there = got_entry delta a.key a.entry a.given; key = subst (λ k. In q (plan_keys p k)) (sym at.1) a.output })
        ∙ ap (λ (e : Entry). Some e) (sym a.is)
