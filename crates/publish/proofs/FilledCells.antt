-- Cells that each hold what their two sums give are the published ones. Assumes nothing.
use mathlib.Core.List.{List}
use mathlib.Core.Path.{◌≡◌, refl, ◌∙◌}
use Prim.Native.Nat.{ℕ}
use native.Mathlib.Omega.{arith}
use lib.ListN.{length, get_or}
use Rattle.std.proofs.Common.{Some, slice_get}
use Rattle.std.proofs.lemmas.Option.{slice_get-get_or}
use Rattle.arithmetic.specs.Places.{table}
use Rattle.arithmetic.proofs.Places.{table_of}
use Rattle.limits.specs.declared.weighting.Weighting.{Weighting}
use Rattle.limits.specs.declared.weighting.Weighting.TheVariants.{Plain, ByQuality}
use Rattle.tally.specs.LentSums.{Sums, Cells, cells_held}
use Rattle.publish.specs.Publish.{dividends, divisors, published_mean, published_quality, published_cells}
use Rattle.publish.specs.PublishRoom.{Publishable}

-- each cell holds what f gives of its sum and its divisor
abbrev pub Given : (ℕ → ℕ → ℕ) → List ℕ → List ℕ → List ℕ → Type 0
Given f sums divisors cells = (k s d q : ℕ) → slice_get sums k ≡ Some s → slice_get divisors k ≡ Some d → slice_get cells k ≡ Some q → q ≡ f s d

filled : (f : ℕ → ℕ → ℕ) (sums divisors cells : List ℕ) {n : ℕ} → length sums ≡ n → length divisors ≡ n → length cells ≡ n → Given f sums divisors cells → cells ≡ table (λ c. f (get_or sums c 0) (get_or divisors c 0)) n
filled f sums divisors cells s d l given =
    table_of _ _ cells l (λ k h. given k _ _ _ (slice_get-get_or sums k 0 (omega arith)) (slice_get-get_or divisors k 0 (omega arith)) (slice_get-get_or cells k 0 (omega arith)))

module _ {sums : Sums} {before : Cells} (room : Publishable sums before) where
  dividends_length : (weighting : Weighting) → length (dividends weighting sums) ≡ length sums.counts
  unfolding dividends
  dividends_length Plain = room.value_sums_length
  dividends_length ByQuality = room.weighted_sums_length

  divisors_length : (weighting : Weighting) → length (divisors weighting sums) ≡ length sums.counts
  unfolding divisors
  divisors_length Plain = refl
  divisors_length ByQuality = room.quality_sums_length

  pub cells_filled : (weighting : Weighting) {asked : Weighting} {means qualities : List ℕ} → asked ≡ weighting → length means ≡ length before.means → length qualities ≡ length before.qualities → Given published_mean (dividends weighting sums) (divisors weighting sums) means → Given published_quality sums.quality_sums sums.counts qualities → cells_held means qualities ≡ published_cells asked sums
  unfolding published_cells
  cells_filled weighting {means} {qualities} is m q given-means given-qualities =
      let of_means = filled published_mean _ _ means (dividends_length weighting) (divisors_length weighting) (m ∙ room.means_length) given-means in
      let of_qualities = filled published_quality _ _ qualities room.quality_sums_length refl (q ∙ room.cell_qualities_length) given-qualities in
      rw is (λ i. record { means = of_means i; qualities = of_qualities i })
