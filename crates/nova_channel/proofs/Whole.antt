-- A read along a path has found each of its blocks.
use Rattle.std.proofs.Common.{◌≡◌, ◌⊎◌, inl, inr, ℕ, ◌==◌, Bool, true, false, ◌&&◌, List, [], ◌∷◌, Option, Some, refl, ap, sym, ◌∙◌, subst, arith}
use Rattle.std.specs.List.{AllByRecursion}
use Rattle.std.proofs.lemmas.Bool.Decides.{nat_tests}
use Rattle.nova_value.specs.Rows.{Shape}
use Rattle.nova_outside.specs.Disk.{Files}
use Rattle.nova_delta.specs.Merge.{EntryMap}
use Rattle.nova_path.specs.Lists.{IsOneOf}
use Rattle.nova_path.specs.Shelf.{Span, is_span}
use Rattle.nova_path.specs.Intervals.{AreApart, span, spans}
use Rattle.nova_path.specs.declared.interval.Interval.{Interval}
use Rattle.nova_block.specs.Files.{DamagedAt}
use Rattle.nova_channel.specs.Reading.{block_file, AreRead, IsDamage, IsFirstBad, IsRoute}
use Rattle.nova_channel.specs.Laws.{OneDamage, ReadsAreWhole, TablesAreWhole}
use Rattle.nova_channel.proofs.Routes.{not_damaged, one_place}

both_true : (a b : Bool) → a ≡ true → b ≡ true → (a && b) ≡ true
both_true true b is and = and
both_true false b is and = cc

span_itself : (x : Span) → is_span x x ≡ true
span_itself x = both_true (x.from == x.from) (x.to == x.to) (same x.from) (same x.to)
  where
    same : (n : ℕ) → (n == n) ≡ true
    same n = grind (arith, nat_tests)

none_behind : (z : Interval) (zs : List Interval) (y : Interval) → AllByRecursion (λ (w : Interval). is_span (span w) (span z) ≡ false) zs → IsOneOf zs y → span y ≡ span z → ⊥
none_behind z [] y apart is same = is
none_behind z (w ∷ ws) y apart (inl e) same =
    let one : is_span (span z) (span z) ≡ false = subst (λ (s : Span). is_span s (span z) ≡ false) (ap span e ∙ same) apart.0 in
    let clash : true ≡ false = sym (span_itself (span z)) ∙ one in cc
none_behind z (w ∷ ws) y apart (inr more) same = none_behind z ws y apart.1 more same

-- a span of the shelf is that of one interval
one_of_span : (shelf : List Interval) (x y : Interval) → AreApart shelf → IsOneOf shelf x → IsOneOf shelf y → span x ≡ span y → x ≡ y
one_of_span [] x y apart is also same = absurd is
one_of_span (z ∷ zs) x y apart (inl e) (inl f) same = sym e ∙ f
one_of_span (z ∷ zs) x y apart (inl e) (inr more) same = absurd (none_behind z zs y apart.0 more (sym same ∙ sym (ap span e)))
one_of_span (z ∷ zs) x y apart (inr more) (inl f) same = absurd (none_behind z zs x apart.0 more (same ∙ sym (ap span f)))
one_of_span (z ∷ zs) x y apart (inr more) (inr also) same = one_of_span zs x y apart.1 more also same

head_is : (a b : Span) (ys zs : List Span) → a ∷ ys ≡ b ∷ zs → a ≡ b
head_is a b ys zs e = cc

tail_is : (a b : Span) (ys zs : List Span) → a ∷ ys ≡ b ∷ zs → ys ≡ zs
tail_is a b ys zs e = cc

one_route : (shelf xs ys : List Interval) → AreApart shelf → AllByRecursion (IsOneOf shelf) xs → AllByRecursion (IsOneOf shelf) ys → spans xs ≡ spans ys → xs ≡ ys
one_route shelf [] [] apart all also same = refl
one_route shelf [] (y ∷ ys) apart all also same = cc
one_route shelf (x ∷ xs) [] apart all also same = cc
one_route shelf (x ∷ xs) (y ∷ ys) apart all also same =
    let first = one_of_span shelf x y apart all.0 also.0 (head_is (span x) (span y) (spans xs) (spans ys) same) in
    let rest = one_route shelf xs ys apart all.1 also.1 (tail_is (span x) (span y) (spans xs) (spans ys) same) in
    λ i. first i ∷ rest i

some_is : (a b : List Span) → Some a ≡ Some b → a ≡ b
some_is a b e = cc

module _ (s : Shape) (files : Files) where
  none_bad : (xs : List Interval) (ds : List EntryMap) (file at : ℕ) → AreRead s files xs ds → IsFirstBad s files xs file at → ⊥
  none_bad [] ds file at read bad = bad
  none_bad (x ∷ xs) [] file at read bad = read
  none_bad (x ∷ xs) (d ∷ ds) file at read (inl bad) = not_damaged s x.size (files (block_file x.block)) at (record { schema = s; entries = d }) (subst (λ n. DamagedAt s x.size (files n) at) bad.0 bad.1) read.0
  none_bad (x ∷ xs) (d ∷ ds) file at read (inr more) = none_bad xs ds file at read.1 more.2

  whole : (shelf : List Interval) (from to : ℕ) (xs ys : List Interval) (ds : List EntryMap) (file at : ℕ) → AreApart shelf → IsRoute shelf from to xs → IsRoute shelf from to ys → AreRead s files xs ds → IsFirstBad s files ys file at → ⊥
  whole shelf from to xs ys ds file at apart one other read bad =
      let same = one_route shelf xs ys apart one.within other.within (some_is (spans xs) (spans ys) (sym one.chosen ∙ other.chosen)) in
      none_bad xs ds file at read (subst (λ (zs : List Interval). IsFirstBad s files zs file at) (sym same) bad)

  damaged : (x : Interval) (file at : ℕ) → file ≡ block_file x.block → DamagedAt s x.size (files file) at → DamagedAt s x.size (files (block_file x.block)) at
  damaged x file at is = subst (λ n. DamagedAt s x.size (files n) at) is

  one_bad : (xs : List Interval) (file at other place : ℕ) → IsFirstBad s files xs file at → IsFirstBad s files xs other place → (file ≡ other) × (at ≡ place)
  one_bad [] file at other place one also = absurd one
  one_bad (x ∷ xs) file at other place (inl one) (inl also) =
      (one.0 ∙ sym also.0, one_place s x.size (files (block_file x.block)) at place (damaged x file at one.0 one.1) (damaged x other place also.0 also.1))
  one_bad (x ∷ xs) file at other place (inl one) (inr also) = absurd (not_damaged s x.size (files (block_file x.block)) at also.0 (damaged x file at one.0 one.1) also.1)
  one_bad (x ∷ xs) file at other place (inr one) (inl also) = absurd (not_damaged s x.size (files (block_file x.block)) place one.0 (damaged x other place also.0 also.1) one.1)
  one_bad (x ∷ xs) file at other place (inr one) (inr also) = one_bad xs file at other place one.2 also.2

pub reads_are_whole : ReadsAreWhole
reads_are_whole s files shelf from to entries file at apart is damage = whole s files shelf from to is.route damage.route is.blocks file at apart is.chosen damage.chosen is.read damage.bad

pub one_damage : OneDamage
one_damage s files shelf from to file at other place apart one also =
    let same = one_route shelf also.route one.route apart also.chosen.within one.chosen.within (some_is (spans also.route) (spans one.route) (sym also.chosen.chosen ∙ one.chosen.chosen)) in
    one_bad s files one.route file at other place one.bad (subst (λ (xs : List Interval). IsFirstBad s files xs other place) same also.bad)

pub tables_are_whole : TablesAreWhole
tables_are_whole s files shelf to rows file at apart is damage = whole s files shelf 0 to is.route damage.route is.merges.blocks file at apart is.chosen damage.chosen is.merges.read damage.bad
