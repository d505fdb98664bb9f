-- Bounds of the numbers of a position, from those of its eight terms: every product fits 64 bits, and the divisor is positive.
-- Assumes nothing.
use mathlib.Core.Path.{◌≡◌}
use Prim.Native.Nat.{ℕ, ◌<◌, ◌≤◌}
use native.Mathlib.Nat.{le_refl}
use native.Mathlib.Omega.{arith}
use lib.Dec.{lit<, lit≤}
use lib.IntN.{ℤ, pos, ◌+ℤ◌, ◌*ℤ◌}
use lib.Signed.{◌≤ℤ◌}
use Rattle.arithmetic.specs.Magnitude.{Magnitude}
use Rattle.arithmetic.proofs.Magnitude.{magnitude_sum, magnitude_difference, magnitude_product, magnitude_floor, magnitude_negation, nat_abs_sum}
use Rattle.arithmetic.proofs.Order.{at_least, at_least_sum, at_least_less, at_least_product, at_least_floor, pos_≤ℤ}
use Rattle.sine_series.specs.Tables.{Q}
use Rattle.projection.specs.declared.arc.ArcTerms.{ArcTerms}
use Rattle.projection.specs.declared.position.RayTerms.{RayTerms}
use Rattle.projection.specs.declared.position.SiteTerms.{SiteTerms}
use Rattle.projection.specs.Position.{w, e, n, m, u, v, divisor, X, Y}
use Rattle.projection.specs.Terms.{Sound}

-- the least divisor: Q, and what n is at least
abbrev pub least_divisor : ℕ
least_divisor = 1359800000

module _ (s : SiteTerms) (a : RayTerms) (c : ArcTerms) (k : ℤ) (h : Sound s a c k) where
  pub w_limit : Magnitude (w s a c) 77741300
  unfolding w
  w_limit = magnitude_floor 77741300 Q (lit< tt) (lit≤ tt) (magnitude_product h.sd_limit h.ray.ca_limit)

  pub e_limit : Magnitude (e s a c) 77741300
  unfolding e
  e_limit = magnitude_floor 77741300 Q (lit< tt) (lit≤ tt) (magnitude_product h.sd_limit h.ray.sa_limit)

  pub n_limit : Magnitude (n s a c) 1156297000
  unfolding n
  n_limit =
      magnitude_floor 1156297000 Q (lit< tt) (lit≤ tt)
      (magnitude_sum (magnitude_product h.site.sp_limit h.cd_limit) (magnitude_product h.site.cp_limit w_limit))

  pub m_limit : Magnitude (m s a c) 1156297000
  unfolding m
  m_limit =
      magnitude_floor 1156297000 Q (lit< tt) (lit≤ tt)
      (magnitude_difference (magnitude_product h.site.cp_limit h.cd_limit) (magnitude_product h.site.sp_limit w_limit))

  pub u_limit : Magnitude (u s a c) 1236191000
  unfolding u
  u_limit =
      magnitude_floor 1236191000 Q (lit< tt) (lit≤ tt)
      (magnitude_sum (magnitude_product e_limit h.site.cl_limit) (magnitude_product m_limit h.site.sl_limit))

  pub v_limit : Magnitude (v s a c) 1236191000
  unfolding v
  v_limit =
      magnitude_floor 1236191000 Q (lit< tt) (lit≤ tt)
      (magnitude_difference (magnitude_product m_limit h.site.cl_limit) (magnitude_product e_limit h.site.sl_limit))

  -- ---- the divisor

  pub n_least : pos 286058176 ≤ℤ n s a c
  unfolding n
  n_least =
      at_least_floor 286058176 Q (s.sp *ℤ c.cd +ℤ s.cp *ℤ w s a c) (lit< tt)
      (at_least_less (at_least_product h.site.sp_least h.cd_least) (magnitude_product h.site.cp_limit w_limit) (lit≤ tt))

  pub divisor_positive : (pos Q +ℤ n s a c ≡ pos (divisor s a c)) × (least_divisor ≤ divisor s a c)
  unfolding divisor
  divisor_positive = at_least least_divisor (pos Q +ℤ n s a c) (at_least_sum (pos_≤ℤ (le_refl Q)) n_least)

  pub divisor_most : divisor s a c ≤ 2230038824
  unfolding divisor
  divisor_most = omega (arith, nat_abs_sum (pos Q) (n s a c), n_limit.bound)

  -- ---- the position

  some : 0 < divisor s a c
  some = omega (arith, divisor_positive.1)

  pub X_limit : Magnitude (X s a c k) 10000000000
  unfolding X
  X_limit =
      magnitude_floor 10000000000 (divisor s a c) some (omega (arith, divisor_positive.1))
      (magnitude_product h.k_limit u_limit)

  pub Y_limit : Magnitude (Y s a c k) 10000000000
  unfolding Y
  Y_limit =
      magnitude_floor 10000000000 (divisor s a c) some (omega (arith, divisor_positive.1))
      (magnitude_product (magnitude_negation h.k_limit) v_limit)
