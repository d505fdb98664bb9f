-- The arc in natural numbers, and the bounds of its sine and cosine. Assumes nothing.
use mathlib.Core.Path.{◌≡◌, ◌∙◌, ap}
use Prim.Native.Nat.{ℕ, ◌+◌, ◌-◌, ◌*◌, ◌/◌, ◌≤◌}
use native.Mathlib.Nat.{mul-le-mul, mul-le-mul_right, le_refl, div-le_of_le-mul}
use native.Mathlib.Omega.{arith}
use lib.IntN.{ℤ, pos, ◌+ℤ◌, ◌-ℤ◌}
use lib.Signed.{◌≤ℤ◌}
use Rattle.arithmetic.specs.Magnitude.{Magnitude}
use Rattle.arithmetic.proofs.Integer.{difference_pos, differences, same_difference}
use Rattle.arithmetic.proofs.Order.{pos_≤ℤ}
use Rattle.sine_series.specs.Tables.{Q}
use Rattle.projection.specs.Arc.{d, d2, d3, d4, d5, sd, cd}
use Rattle.projection.specs.Terms.{arc_sine_limit, least_arc_cosine, arc_cosine_limit}

-- what the code works out
module _ (R r : ℕ) where
  unfoldable pub D : ℕ
  D = r * Q / R

  unfoldable pub D2 : ℕ
  D2 = D * D / Q

  unfoldable pub D3 : ℕ
  D3 = D2 * D / Q

  unfoldable pub D4 : ℕ
  D4 = D2 * D2 / Q

  unfoldable pub D5 : ℕ
  D5 = D4 * D / Q

  unfoldable pub SD : ℕ
  SD = D - D3 / 6 + D5 / 120

  unfoldable pub CD : ℕ
  CD = Q - D2 / 2 + D4 / 24

-- ---- the definitions' integers are these

sum_less : (a b c : ℕ) → b ≤ a → pos a -ℤ pos b +ℤ pos c ≡ pos (a - b + c)
sum_less a b c h =
    ap (λ (z : ℤ). pos a -ℤ z +ℤ pos c) (difference_pos b) ∙ simp differences (same_difference _ _ _ _ (omega arith))

module _ (R r : ℕ) (hR : 637004000 ≤ R) (hr : r ≤ 46000000) where
  pub D_most : D R r ≤ 77538170
  unfolding D
  D_most = div-le_of_le-mul R (omega (arith, mul-le-mul hR (le_refl 77538170)))

  pub D2_most : D2 R r ≤ 5599268
  unfolding D2
  D2_most = div-le_of_le-mul Q (omega (arith, mul-le-mul D_most D_most))

  pub D3_most : D3 R r ≤ 404341
  unfolding D3
  D3_most = div-le_of_le-mul Q (omega (arith, mul-le-mul D2_most D_most))

  pub D4_most : D4 R r ≤ 29199
  unfolding D4
  D4_most = div-le_of_le-mul Q (omega (arith, mul-le-mul D2_most D2_most))

  pub D5_most : D5 R r ≤ 2109
  unfolding D5
  D5_most = div-le_of_le-mul Q (omega (arith, mul-le-mul D4_most D_most))

  -- a term taken away is no larger than what it is taken from
  pub D2_part : D2 R r / 2 ≤ Q
  D2_part = omega (arith, D2_most)

  pub D3_part : D3 R r / 6 ≤ D R r
  unfolding D3
  D3_part = omega (arith, mul-le-mul_right (D R r) D2_most)

  pub sd_natural : sd R r ≡ pos (SD R r)
  unfolding sd d d2 d3 d4 d5 SD D D2 D3 D4 D5
  sd_natural = sum_less (D R r) (D3 R r / 6) (D5 R r / 120) D3_part

  pub cd_natural : cd R r ≡ pos (CD R r)
  unfolding cd d d2 d4 CD D D2 D4
  cd_natural = sum_less Q (D2 R r / 2) (D4 R r / 24) D2_part

  pub SD_most : SD R r ≤ arc_sine_limit
  unfolding SD
  SD_most = omega (arith, D_most, D5_most)

  pub CD_most : CD R r ≤ arc_cosine_limit
  unfolding CD
  CD_most = omega (arith, D4_most)

  pub sd_limit : Magnitude (sd R r) arc_sine_limit
  sd_limit = rw sd_natural (record { bound = SD_most })

  pub cd_limit : Magnitude (cd R r) arc_cosine_limit
  cd_limit = rw cd_natural (record { bound = CD_most })

  pub cd_least : pos least_arc_cosine ≤ℤ cd R r
  unfolding CD
  cd_least = rw cd_natural (pos_≤ℤ (omega (arith, D2_most)))
