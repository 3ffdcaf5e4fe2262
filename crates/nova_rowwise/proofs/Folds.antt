-- Entries that are set in turn.
use Rattle.std.specs.Prelude.{◌≡◌, List, [], ◌∷◌, ◌++◌, map, refl}
use Rattle.std.proofs.Common.{ap, sym, ◌∙◌, subst}
use Rattle.nova_value.specs.declared.schema.Entry.{Entry}
use Rattle.nova_value.specs.declared.schema.Entry.TheVariants.{Removal}
use Rattle.nova_delta.specs.Merge.{DeltaValue}
use Rattle.nova_delta.specs.Seen.{with_entry}
use Rattle.nova_rowwise.specs.Sources.{Key}
use Rattle.nova_rowwise.specs.Derived.{set_all}
use Rattle.nova_rowwise.specs.AtOnce.{removals}
use Rattle.nova_rowwise.specs.Fits.{Each}

pub set_append : (d : DeltaValue) (xs ys : List Entry) → set_all d (xs ++ ys) ≡ set_all (set_all d xs) ys
set_append d [] ys = refl
set_append d (x ∷ xs) ys = set_append (with_entry d x) xs ys

pub set_schema : (es : List Entry) (d : DeltaValue) → (set_all d es).schema ≡ d.schema
set_schema [] d = refl
set_schema (e ∷ es) d = set_schema es (with_entry d e)

module _ (outs : Key → List Key) (k : Key) (e : Entry) (before after : List (Key × Entry)) (step : before ≡ (k, e) ∷ after) where
  pub removed_on : (d made all : DeltaValue) → made ≡ set_all d (map Removal (outs k)) → set_all d (removals outs (map (λ p. p.0) before)) ≡ all → set_all made (removals outs (map (λ p. p.0) after)) ≡ all
  removed_on d made all is rest =
      ap (λ x. set_all x (removals outs (map (λ p. p.0) after))) is
      ∙ sym (set_append d (map Removal (outs k)) (removals outs (map (λ p. p.0) after)))
      ∙ ap (λ ps. set_all d (removals outs (map (λ p. p.0) ps))) (sym step) ∙ rest

  pub fits_on : (P : Key → Type 0) → Each P (map (λ p. p.0) before) → Each P (map (λ p. p.0) after)
  fits_on P all = (subst (λ ps. Each P (map (λ p. p.0) ps)) step all).1
