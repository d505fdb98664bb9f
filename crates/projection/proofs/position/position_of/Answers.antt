-- `projection::position::position_of` meets its contract, line by line of document 01. Assumes nothing.
use mathlib.Core.Path.{◌≡◌, ap₂}
use native.Mathlib.Omega.{arith}
use lib.IntN.{ℤ, pos, neg_ℤ, ◌+ℤ◌, ◌-ℤ◌, +ℤ_idl}
use mir.Facts.{to_z-of_z}
use mir.Syntax.{w64}
use mir.Val.{to_z, of_z}
use Rattle.arithmetic.proofs.Machine.{fits64, fits64_floor, fits_unsigned, fits_natural, read_back}
use Rattle.arithmetic.proofs.Magnitude.{magnitude_product, magnitude_negation}
use Rattle.sine_series.specs.Tables.{Q}
use Rattle.projection.specs.declared.position.Position.{Position}
use Rattle.projection.specs.Position.{u, v, divisor, X, Y, position_by}
use Rattle.projection.proofs.PositionBounds.{n_limit, u_limit, v_limit, divisor_positive, divisor_most}
use Rattle.projection.proofs.PositionSteps.{product_fits, sum_fits, difference_fits, sp_below, cp_below, sl_below, cl_below, sa_below, sd_below, cd_below, w_below, e_below, m_below, w_is, e_is, n_is, m_is, u_is, v_is}
use Rattle.projection.proofs.position.position_of.Goals as goal

-- ---- e, n, m, u and v: no product, sum or difference leaves 64 bits
pub overflow_mul-c-2 : goal.overflow_mul-c-2
overflow_mul-c-2 c = product_fits (sd_below c.requires) (sa_below c.requires)

pub overflow_mul-s : goal.overflow_mul-s
overflow_mul-s c = product_fits (sp_below c.requires) (cd_below c.requires)

pub overflow_mul-s-2 : goal.overflow_mul-s-2
overflow_mul-s-2 c = let h = c.requires in rw (w_is h c.over_q-w.ensures) (product_fits (cp_below h) (w_below h))

pub overflow_add-s : goal.overflow_add-s
overflow_add-s c =
    let h = c.requires in rw (w_is h c.over_q-w.ensures) (sum_fits (sp_below h) (cd_below h) (cp_below h) (w_below h))

pub overflow_mul-s-3 : goal.overflow_mul-s-3
overflow_mul-s-3 c = product_fits (cp_below c.requires) (cd_below c.requires)

pub overflow_mul-s-4 : goal.overflow_mul-s-4
overflow_mul-s-4 c = let h = c.requires in rw (w_is h c.over_q-w.ensures) (product_fits (sp_below h) (w_below h))

pub overflow_sub-s : goal.overflow_sub-s
overflow_sub-s c =
    let h = c.requires in rw (w_is h c.over_q-w.ensures) (difference_fits (cp_below h) (cd_below h) (sp_below h) (w_below h))

pub overflow_mul-e : goal.overflow_mul-e
overflow_mul-e c = let h = c.requires in rw (e_is h c.over_q-e.ensures) (product_fits (e_below h) (cl_below h))

pub overflow_mul-m : goal.overflow_mul-m
overflow_mul-m c =
    let h = c.requires in
    rw (m_is h (w_is h c.over_q-w.ensures) c.over_q-m.ensures) (product_fits (m_below h) (sl_below h))

pub overflow_add-e : goal.overflow_add-e
overflow_add-e c =
    let h = c.requires in
    rw (e_is h c.over_q-e.ensures, m_is h (w_is h c.over_q-w.ensures) c.over_q-m.ensures)
    (sum_fits (e_below h) (cl_below h) (m_below h) (sl_below h))

pub overflow_mul-m-2 : goal.overflow_mul-m-2
overflow_mul-m-2 c =
    let h = c.requires in
    rw (m_is h (w_is h c.over_q-w.ensures) c.over_q-m.ensures) (product_fits (m_below h) (cl_below h))

pub overflow_mul-e-2 : goal.overflow_mul-e-2
overflow_mul-e-2 c = let h = c.requires in rw (e_is h c.over_q-e.ensures) (product_fits (e_below h) (sl_below h))

pub overflow_sub-m : goal.overflow_sub-m
overflow_sub-m c =
    let h = c.requires in
    rw (m_is h (w_is h c.over_q-w.ensures) c.over_q-m.ensures, e_is h c.over_q-e.ensures)
    (difference_fits (m_below h) (cl_below h) (e_below h) (sl_below h))

-- ---- the divisor, Q + n
divisor_is : (c : goal.After-over_q-v) → pos Q +ℤ to_z w64 (of_z w64 c.over_q-n.result) ≡ pos (divisor c.args.s c.args.a c.args.c)
divisor_is c =
    let h = c.requires in
    rw (read_back (n_is h (w_is h c.over_q-w.ensures) c.over_q-n.ensures) (fits64 (n_limit _ _ _ _ h) tt)) (divisor_positive _ _ _ _ h).0

divisor-word : (c : goal.After-over_q-v) → to_z w64 (of_z w64 (pos Q +ℤ to_z w64 (of_z w64 c.over_q-n.result))) ≡ pos (divisor c.args.s c.args.a c.args.c)
divisor-word c = read_back (divisor_is c) (fits_natural (divisor_most _ _ _ _ c.requires) tt)

pub overflow_add-divisor : goal.overflow_add-divisor
overflow_add-divisor c = rw (divisor_is c) (fits_natural (divisor_most _ _ _ _ c.requires) tt)

pub overflow_cast-divisor : goal.overflow_cast-divisor
overflow_cast-divisor c = rw (divisor-word c) (tt, fits_unsigned (divisor_most _ _ _ _ c.requires) tt)

-- ---- X = floor(K x u / (Q + n))
u-word : (c : goal.After-over_q-v) → to_z w64 (of_z w64 c.over_q-u.result) ≡ u c.args.s c.args.a c.args.c
u-word c =
    let h = c.requires in
    read_back (u_is h (e_is h c.over_q-e.ensures) (m_is h (w_is h c.over_q-w.ensures) c.over_q-m.ensures) c.over_q-u.ensures)
    (fits64 (u_limit _ _ _ _ h) tt)

pub overflow_mul-k : goal.overflow_mul-k
overflow_mul-k c =
    let h = c.requires in
    rw (u-word c) (simp (to_z-of_z, fits64 h.k_limit tt) (fits64 (magnitude_product h.k_limit (u_limit _ _ _ _ h)) tt))

pub floor_div-requires : goal.floor_div-requires
floor_div-requires c = rw (divisor-word c) (omega (arith, (divisor_positive _ _ _ _ c.requires).1))

x-is : (c : goal.After-floor_div) → c.floor_div.result ≡ X c.args.s c.args.a c.args.c c.args.k
unfolding X
x-is c =
    let h = c.requires in
    let ku = fits64 (magnitude_product h.k_limit (u_limit _ _ _ _ h)) tt in
    simp (to_z-of_z, fits64 h.k_limit tt, ku) at (rw (u-word c.before, divisor-word c.before) at c.floor_div.ensures)

-- ---- Y = floor(-K x v / (Q + n))
minus-k : (c : goal.After-floor_div) → pos 0 -ℤ to_z w64 (of_z w64 c.args.k) ≡ neg_ℤ c.args.k
minus-k c = simp (to_z-of_z, fits64 c.requires.k_limit tt) (+ℤ_idl (neg_ℤ c.args.k))

minus-k-word : (c : goal.After-floor_div) → to_z w64 (of_z w64 (pos 0 -ℤ to_z w64 (of_z w64 c.args.k))) ≡ neg_ℤ c.args.k
minus-k-word c = read_back (minus-k c) (fits64 (magnitude_negation c.requires.k_limit) tt)

v-word : (c : goal.After-floor_div) → to_z w64 (of_z w64 c.over_q-v.result) ≡ v c.args.s c.args.a c.args.c
v-word c =
    let h = c.requires in
    read_back (v_is h (e_is h c.over_q-e.ensures) (m_is h (w_is h c.over_q-w.ensures) c.over_q-m.ensures) c.over_q-v.ensures)
    (fits64 (v_limit _ _ _ _ h) tt)

pub overflow_sub-k : goal.overflow_sub-k
overflow_sub-k c = rw (minus-k c) (fits64 (magnitude_negation c.requires.k_limit) tt)

pub overflow_mul-k-2 : goal.overflow_mul-k-2
overflow_mul-k-2 c =
    let h = c.requires in
    rw (minus-k-word c, v-word c) (fits64 (magnitude_product (magnitude_negation h.k_limit) (v_limit _ _ _ _ h)) tt)

pub floor_div-requires-2 : goal.floor_div-requires-2
floor_div-requires-2 c = floor_div-requires c.before

y-is : (c : goal.After-floor_div-2) → c.floor_div-2.result ≡ Y c.args.s c.args.a c.args.c c.args.k
unfolding Y
y-is c =
    let h = c.requires in
    let kv = fits64 (magnitude_product (magnitude_negation h.k_limit) (v_limit _ _ _ _ h)) tt in
    simp (to_z-of_z, kv) at (rw (minus-k-word c.before, v-word c.before, divisor-word c.before.before) at c.floor_div-2.ensures)

pub returns : goal.returns
unfolding position_by X Y
returns c =
    let h = c.requires in
    let ku = fits64 (magnitude_product h.k_limit (u_limit _ _ _ _ h)) tt in
    let kv = fits64 (magnitude_product (magnitude_negation h.k_limit) (v_limit _ _ _ _ h)) tt in
    ap₂ {C = Position} (λ (x y : ℤ). record { x = x; y = y })
    (read_back (x-is c.before) (fits64_floor (divisor c.args.s c.args.a c.args.c) ku))
    (read_back (y-is c) (fits64_floor (divisor c.args.s c.args.a c.args.c) kv))
