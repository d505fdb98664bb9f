-- Sine and cosine of the arc are near the exact ones. Each line's number is the error, in hundredths of a unit, and the limit
-- of the exact value, times Q. Assumes nothing.
use mathlib.Core.Path.{subst}
use Prim.Native.Nat.{ℕ, ◌*◌, ◌/◌, ◌+◌, ◌<◌, ◌≤◌}
use native.Mathlib.Nat.{mul_comm, div-lt_iff_lt-mul, div-eq_of_lt}
use native.Mathlib.Omega.{arith}
use lib.Dec.{lit<, lit≤}
use lib.IntN.{pos}
use Rattle.arithmetic.specs.Nearness.{Near}
use Rattle.arithmetic.proofs.Nearness.{near_whole, near_sum, near_opposite, near_product, near_part, near_floor, near_weaken}
use Rattle.sine_series.specs.Tables.{Q}
use Rattle.projection.specs.Arc.{d, d2, d3, d4, d5, sd, cd}
use Rattle.projection.specs.ExactArc.{d*, d2*, d3*, d4*, d5*, sd*, cd*}

module _ (R r : ℕ) (hR : 637004000 ≤ R) (hr : r ≤ 46000000) where
  d_error : 0 / R + 101 ≤ 101
  d_error = omega (arith, div-eq_of_lt {n = 0} {m = R} (omega arith))

  d_limit : Q * 46000000 / R + 1 ≤ 77538170
  d_limit =
      let some : 0 < R = omega arith in
      let below : Q * 46000000 / R < 77538170 = (div-lt_iff_lt-mul {k = R} some).1 (omega arith) in
      omega arith

  pub d_near : Near Q 101 77538170 (d R r) (d* R r)
  unfolding d d*
  d_near =
      subst (λ (z : ℕ). Near Q 101 77538170 (pos (z / R)) (d* R r)) (mul_comm Q r)
      (near_weaken 101 77538170
      (near_floor {s = Q} R (omega arith) (near_part R (omega arith) (near_weaken 0 (Q * 46000000) (near_whole Q (pos r)) (lit≤ tt) (omega arith))))
      d_error d_limit)

  pub d2_near : Near Q 115 5599268 (d2 R r) (d2* R r)
  unfolding d2 d2*
  d2_near = near_floor {s = Q} Q (lit< tt) (near_product d_near d_near)

  pub d3_near : Near Q 109 404341 (d3 R r) (d3* R r)
  unfolding d3 d3*
  d3_near = near_floor {s = Q} Q (lit< tt) (near_product d2_near d_near)

  pub d4_near : Near Q 102 29199 (d4 R r) (d4* R r)
  unfolding d4 d4*
  d4_near = near_floor {s = Q} Q (lit< tt) (near_product d2_near d2_near)

  pub d5_near : Near Q 108 2109 (d5 R r) (d5* R r)
  unfolding d5 d5*
  d5_near = near_floor {s = Q} Q (lit< tt) (near_product d4_near d_near)

  pub sd_near : Near Q 321 77605579 (sd R r) (sd* R r)
  unfolding sd sd*
  sd_near =
      near_sum
      (near_sum d_near (near_opposite (near_floor {s = Q} 6 (lit< tt) (near_part 6 (lit< tt) d3_near))))
      (near_floor {s = Q} 120 (lit< tt) (near_part 120 (lit< tt) d5_near))

  pub cd_near : Near Q 263 1076542676 (cd R r) (cd* R r)
  unfolding cd cd*
  cd_near =
      near_sum
      (near_sum (near_whole Q (pos 1)) (near_opposite (near_floor {s = Q} 2 (lit< tt) (near_part 2 (lit< tt) d2_near))))
      (near_floor {s = Q} 24 (lit< tt) (near_part 24 (lit< tt) d4_near))
