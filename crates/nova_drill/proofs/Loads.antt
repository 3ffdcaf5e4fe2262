-- What holds of a load that is made an entry at a time.
use Rattle.std.proofs.Common.{◌≡◌, ℕ, ◌<◌, [], ◌∷◌, drop, map}
use Rattle.nova_delta.specs.Merge.{DeltaValue}
use Rattle.nova_drill.specs.Entries as spec
use Rattle.nova_drill.specs.Numbers.{number_after, numbers_after}

-- this many entries of a load of requests are left: they make of the delta the whole load, and the numbers go on to its last
pub record IsLoading (left number last : ℕ) (delta : DeltaValue) : Type 0 where
  pub schema : delta.schema ≡ spec.raw_schema
  pub bound : last < 65537
  pub goes_on : number_after left last ≡ number_after 8 number
  pub rest : spec.with_entries delta (map spec.raw_entry (numbers_after left last)) ≡ spec.raw_load number

-- the pages from this one on are left
pub record IsLoadingPages (page : ℕ) (delta : DeltaValue) : Type 0 where
  pub schema : delta.schema ≡ spec.pages_schema
  pub rest : spec.with_entries delta (map spec.page_entry (drop page (0 ∷ 1 ∷ 2 ∷ 3 ∷ []))) ≡ spec.pages_load
