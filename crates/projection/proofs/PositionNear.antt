-- Demand 3: X and Y are near the exact ones. Each line's numbers are the error, in hundredths of a unit, and the limit of the
-- exact value; the last line's unit is the centimetre. Assumes nothing.
use mathlib.Core.Path.{◌≡◌, subst}
use Prim.Native.Nat.{ℕ, ◌*◌, ◌<◌, ◌≤◌}
use native.Mathlib.Nat.{mul-le-mul_right}
use native.Mathlib.Omega.{arith}
use lib.Dec.{lit<, lit≤}
use lib.IntN.{ℤ, pos, nat_abs, ◌+ℤ◌, ◌-ℤ◌, ◌*ℤ◌}
use Rattle.arithmetic.specs.Fraction.{Fraction}
use Rattle.arithmetic.specs.Nearness.{Near, Within, gap}
use Rattle.arithmetic.proofs.Integer.{as_difference, same_difference, differences}
use Rattle.arithmetic.proofs.Nearness.{near_whole, near_sum, near_opposite, near_product, near_floor, near_weaken}
use Rattle.arithmetic.proofs.Quotient.{near_quotient, divisor_fraction_positive}
use Rattle.sine_series.specs.Tables.{Q}
use Rattle.sine.proofs.SineNear.{sine_near, cosine_near}
use Rattle.projection.specs.declared.arc.ArcTerms.{ArcTerms}
use Rattle.grid.specs.declared.sphere.Sphere.{Sphere}
use Rattle.projection.specs.declared.position.RayTerms.{RayTerms}
use Rattle.limits.specs.declared.site.Site.{Site}
use Rattle.projection.specs.declared.position.SiteTerms.{SiteTerms}
use Rattle.projection.specs.Arc.{arc_terms}
use Rattle.projection.specs.ExactPosition.{w*, e*, n*, m*, u*, v*, divisor*, X*, Y*, sp*, cp*, sl*, cl*, sa*, ca*}
use Rattle.projection.specs.Nearness.{position_error}
use Rattle.projection.specs.Position.{site_terms, ray_terms, w, e, n, m, u, v, divisor, X, Y}
use Rattle.projection.proofs.ArcNear.{sd_near, cd_near}
use Rattle.projection.proofs.GateTerms.{GoodSphere, GoodGate, sound}
use Rattle.projection.proofs.PositionBounds.{least_divisor, divisor_positive}

-- a number within so many hundredths of a fraction
one_gap : (x n : ℤ) (c : ℕ) → gap 1 x n c ≡ x *ℤ pos c -ℤ n
unfolding gap
one_gap x n c = rw (as_difference x, as_difference n) (simp differences (same_difference _ _ _ _ (omega arith)))

pub near_within : {E M : ℕ} {x : ℤ} {f : Fraction} (bound : ℕ) → E ≤ bound * 100 → Near 1 E M x f → Within bound x f
near_within {E} {M} {x} {f} bound k h = record {
  positive = h.positive;
  close = rw (← (one_gap x f.num f.den)) (omega (arith, h.close, mul-le-mul_right f.den k));
}

-- a positive number over a positive one
pub record Positive (f : Fraction) : Type 0 where
  pub numerator_is : f.num ≡ pos (nat_abs f.num)
  pub numerator_positive : 0 < nat_abs f.num
  pub denominator_positive : 0 < f.den

module _ (sphere : Sphere) (site : Site) (azimuth range : ℕ) (H : GoodSphere sphere) (G : GoodGate site azimuth range) where
  abbrev s : SiteTerms
  s = site_terms sphere.meridian site

  abbrev a : RayTerms
  a = ray_terms azimuth

  abbrev c : ArcTerms
  c = arc_terms sphere.radius range

  w_near : Near Q 440 77740902 (w s a c) (w* sphere site azimuth range)
  unfolding w w* ray_terms arc_terms ca*
  w_near = near_floor {s = Q} Q (lit< tt) (near_product (sd_near sphere.radius range H.radius_least G.range_most) (cosine_near (pos azimuth)))

  e_near : Near Q 440 77740902 (e s a c) (e* sphere site azimuth range)
  unfolding e e* ray_terms arc_terms sa*
  e_near = near_floor {s = Q} Q (lit< tt) (near_product (sd_near sphere.radius range H.radius_least G.range_most) (sine_near (pos azimuth)))

  n_near : Near Q 1075 1156296330 (n s a c) (n* sphere site azimuth range)
  unfolding n n* site_terms arc_terms sp* cp*
  n_near =
      near_floor {s = Q} Q (lit< tt)
      (near_sum
      (near_product (sine_near site.latitude) (cd_near sphere.radius range H.radius_least G.range_most))
      (near_product (cosine_near site.latitude) w_near))

  m_near : Near Q 1075 1156296330 (m s a c) (m* sphere site azimuth range)
  unfolding m m* site_terms arc_terms sp* cp*
  m_near =
      near_floor {s = Q} Q (lit< tt)
      (near_sum
      (near_product (cosine_near site.latitude) (cd_near sphere.radius range H.radius_least G.range_most))
      (near_opposite (near_product (sine_near site.latitude) w_near)))

  u_near : Near Q 1907 1236189052 (u s a c) (u* sphere site azimuth range)
  unfolding u u* site_terms sl* cl*
  u_near =
      near_floor {s = Q} Q (lit< tt)
      (near_sum
      (near_product e_near (cosine_near (site.longitude -ℤ sphere.meridian)))
      (near_product m_near (sine_near (site.longitude -ℤ sphere.meridian))))

  v_near : Near Q 1907 1236189052 (v s a c) (v* sphere site azimuth range)
  unfolding v v* site_terms sl* cl*
  v_near =
      near_floor {s = Q} Q (lit< tt)
      (near_sum
      (near_product m_near (cosine_near (site.longitude -ℤ sphere.meridian)))
      (near_opposite (near_product e_near (sine_near (site.longitude -ℤ sphere.meridian)))))

  divisor_is : (pos Q +ℤ n s a c ≡ pos (divisor s a c)) × (least_divisor ≤ divisor s a c)
  divisor_is = divisor_positive s a c sphere.k (sound sphere site azimuth range H G)

  divisor_near : Near Q 1075 2230038154 (pos (divisor s a c)) (divisor* sphere site azimuth range)
  unfolding divisor*
  divisor_near =
      subst (λ (z : ℤ). Near Q 1075 2230038154 z (divisor* sphere site azimuth range)) divisor_is.0
      (near_sum (near_whole Q (pos 1)) n_near)

  -- the exact divisor is positive
  pub exact_divisor_positive : Positive (divisor* sphere site azimuth range)
  exact_divisor_positive =
      let known = divisor_fraction_positive Q (divisor s a c) 1359798925 1075 _ _ divisor_near.close (omega (arith, divisor_is.1)) (lit< tt) divisor_near.positive in
      record { numerator_is = known.0; numerator_positive = omega (arith, known.1, divisor_near.positive); denominator_positive = divisor_near.positive }

  X_near : Near 1 position_error 1080809139 (X s a c sphere.k) (X* sphere site azimuth range)
  unfolding X X*
  X_near =
      near_weaken position_error 1080809139
      (near_quotient {s = Q} 1359798925 (divisor s a c) (lit< tt) (lit< tt) (omega (arith, divisor_is.1))
      (near_product H.k_near u_near) divisor_near)
      (lit≤ tt) (lit≤ tt)

  Y_near : Near 1 position_error 1080809139 (Y s a c sphere.k) (Y* sphere site azimuth range)
  unfolding Y Y*
  Y_near =
      near_weaken position_error 1080809139
      (near_quotient {s = Q} 1359798925 (divisor s a c) (lit< tt) (lit< tt) (omega (arith, divisor_is.1))
      (near_product (near_opposite H.k_near) v_near) divisor_near)
      (lit≤ tt) (lit≤ tt)

  module _ (bound : ℕ) (reached : position_error ≤ bound * 100) where
    pub X_within : Within bound (X s a c sphere.k) (X* sphere site azimuth range)
    X_within = near_within bound reached X_near

    pub Y_within : Within bound (Y s a c sphere.k) (Y* sphere site azimuth range)
    Y_within = near_within bound reached Y_near
