-- Document 01, "Exact reference", line by line beside Position.antt: no floor, Q read as 1, sines by the series, K the exact
-- product. A star marks an exact value. Assumes nothing.
use Rattle.std.specs.Prelude.{ℕ, pos, ◌-ℤ◌}
use Rattle.arithmetic.specs.Fraction.{Fraction, whole, opposite, ◌⊕◌, ◌⊖◌, ◌⊗◌, ◌⊘◌}
use Rattle.sine.specs.ExactSine.{exact_sine_of, exact_cosine_of}
use Rattle.grid.specs.declared.sphere.Sphere.{Sphere}
use Rattle.limits.specs.declared.site.Site.{Site}
use Rattle.grid.specs.Sphere.{exact_k}
use Rattle.projection.specs.ExactArc.{sd*, cd*}

module _ (sphere : Sphere) (site : Site) (azimuth range : ℕ) where
  unfoldable pub sp* : Fraction
  sp* = exact_sine_of site.latitude

  unfoldable pub cp* : Fraction
  cp* = exact_cosine_of site.latitude

  unfoldable pub sl* : Fraction
  sl* = exact_sine_of (site.longitude -ℤ sphere.meridian)

  unfoldable pub cl* : Fraction
  cl* = exact_cosine_of (site.longitude -ℤ sphere.meridian)

  unfoldable pub sa* : Fraction
  sa* = exact_sine_of (pos azimuth)

  unfoldable pub ca* : Fraction
  ca* = exact_cosine_of (pos azimuth)

  unfoldable pub w* : Fraction
  w* = sd* sphere.radius range ⊗ ca*

  unfoldable pub e* : Fraction
  e* = sd* sphere.radius range ⊗ sa*

  unfoldable pub n* : Fraction
  n* = sp* ⊗ cd* sphere.radius range ⊕ cp* ⊗ w*

  unfoldable pub m* : Fraction
  m* = cp* ⊗ cd* sphere.radius range ⊖ sp* ⊗ w*

  unfoldable pub u* : Fraction
  u* = e* ⊗ cl* ⊕ m* ⊗ sl*

  unfoldable pub v* : Fraction
  v* = m* ⊗ cl* ⊖ e* ⊗ sl*

  -- 1 + n, which is positive for every accepted site: theorem `exact_divisor_positive`
  unfoldable pub divisor* : Fraction
  divisor* = whole (pos 1) ⊕ n*

  unfoldable pub X* : Fraction
  X* = exact_k sphere.radius ⊗ u* ⊘ divisor*

  unfoldable pub Y* : Fraction
  Y* = opposite (exact_k sphere.radius) ⊗ v* ⊘ divisor*
