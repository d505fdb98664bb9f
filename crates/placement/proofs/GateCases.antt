-- The cases of a single gate that evaluation alone does not settle: X on the central meridian and its column of the mesh, and the columns
-- on both sides of an edge. Assumes nothing.
use mathlib.Core.Path.{◌≡◌, refl, ap, ap₂, ◌∙◌}
use Prim.Native.Nat.{ℕ, ◌-◌, ◌<◌}
use native.Mathlib.Nat.{zero-div}
use native.Mathlib.Omega.{arith}
use lib.Dec.{lit<}
use lib.IntN.{ℤ, pos, negsuc, ◌+ℤ◌, ◌-ℤ◌, ◌*ℤ◌, zero-*ℤ, *ℤ-zero}
use Rattle.arithmetic.specs.Floor.{◌÷◌, ◌modulo◌}
use Rattle.arithmetic.specs.Fraction.{◌⊕◌, opposite}
use Rattle.arithmetic.specs.Nearness.{nearest}
use Rattle.arithmetic.proofs.Floor.{floor_only}
use Rattle.arithmetic.proofs.Integer.{as_difference, same_difference, differences}
use Rattle.sine.specs.Quarters.{by_quarters, in_turn, in_quarter}
use Rattle.sine_series.specs.Series.{arc, arc_unit, factorial, term, alternating, sine_series, cosine_series}
use Rattle.sine.specs.Sine.{quarter_sine, sine_of}
use Rattle.sine_series.specs.Tables.{Q, S, F, G}
use Rattle.projection.specs.declared.arc.ArcTerms.{ArcTerms}
use Rattle.limits.specs.declared.grid.Grid.{Grid}
use Rattle.limits.specs.declared.grid.Grid.TheVariants.{Radolan, Hrap}
use Rattle.projection.specs.declared.position.RayTerms.{RayTerms}
use Rattle.limits.specs.declared.site.Site.{Site}
use Rattle.projection.specs.declared.position.SiteTerms.{SiteTerms}
use Rattle.projection.specs.Arc.{d, d2, d3, d4, d5, sd, arc_terms}
use Rattle.placement.specs.GateCases.{x_is_zero, mesh_column_of_zero, example_grid, any_radolan, GateHolds, column_at}
use Rattle.projection.specs.Position.{site_terms, e, m, u, divisor, X, position_by, position_of}
use Rattle.grid.specs.Sphere.{sphere_of, radolan_sphere, hrap_sphere}
use Rattle.grid.specs.Window.{window_of, index_of}

-- the sine of 0
sine_of_zero : sine_of (pos 0) ≡ pos 0
unfolding sine_of by_quarters in_turn in_quarter ◌modulo◌ quarter_sine S F G nearest sine_series cosine_series alternating term factorial arc arc_unit ◌⊕◌ opposite
sine_of_zero = refl

-- ---- X on the central meridian

-- where sd and sl are 0, so are u and X
zero_sum : (y z p : ℤ) → (pos 0 *ℤ y ÷ Q *ℤ z +ℤ p *ℤ pos 0) ÷ Q ≡ pos 0
zero_sum y z p =
    ap₂ (λ (a b : ℤ). (a ÷ Q *ℤ z +ℤ b) ÷ Q) (zero-*ℤ y) (*ℤ-zero p) ∙ ap (λ (a : ℤ). (a +ℤ pos 0) ÷ Q) (zero-*ℤ z)

u_zero : (s : SiteTerms) (a : RayTerms) (c : ArcTerms) → c.sd ≡ pos 0 → s.sl ≡ pos 0 → u s a c ≡ pos 0
unfolding u e
u_zero s a c h k =
    ap₂ (λ (x y : ℤ). (x *ℤ a.sa ÷ Q *ℤ s.cl +ℤ m s a c *ℤ y) ÷ Q) h k ∙ zero_sum a.sa s.cl (m s a c)

x_zero : (s : SiteTerms) (a : RayTerms) (c : ArcTerms) (K : ℤ) → c.sd ≡ pos 0 → s.sl ≡ pos 0 → X s a c K ≡ pos 0
unfolding X
x_zero s a c K h k = rw (u_zero s a c h k, *ℤ-zero K) (ap pos (zero-div (divisor s a c)))

sine_of_no_angle : (z : ℤ) → z ≡ pos 0 → sine_of z ≡ pos 0
sine_of_no_angle z h = ap sine_of h ∙ sine_of_zero

on_meridian : (grid : Grid) (site : Site) (azimuth : ℕ) → site.longitude ≡ (sphere_of grid).meridian → (position_of (sphere_of grid) site azimuth 0).x ≡ pos 0
unfolding position_of position_by site_terms arc_terms sphere_of radolan_sphere hrap_sphere sd d d2 d3 d4 d5
on_meridian (Radolan g) site azimuth h = x_zero _ _ _ _ refl (sine_of_no_angle _ (rw h))
on_meridian (Hrap g) site azimuth h = x_zero _ _ _ _ refl (sine_of_no_angle _ (rw h))

pub hrap_meridian : GateHolds (x_is_zero example_grid (negsuc 1049999))
unfolding GateHolds example_grid sphere_of hrap_sphere
hrap_meridian = on_meridian example_grid

pub radolan_meridian : GateHolds (x_is_zero any_radolan (pos 100000))
unfolding GateHolds any_radolan sphere_of radolan_sphere
radolan_meridian = on_meridian any_radolan

-- ---- a column is rounded down, on either side of an edge

-- an X that is so many sides and a rest
column_is : (x column : ℤ) (side rest : ℕ) → rest < side → x -ℤ pos 0 ≡ column *ℤ pos side +ℤ pos rest → index_of (pos 0) side x ≡ column
unfolding index_of
column_is x column side rest h e = ap (λ (z : ℤ). z ÷ side) e ∙ floor_only column side rest h

pub west_of_edge : GateHolds (column_at (λ side. negsuc 0) (negsuc 0))
unfolding GateHolds
west_of_edge side h = column_is _ _ side (side - 1) (omega arith) (simp differences (same_difference _ _ _ _ (omega arith)))

pub on_edge : GateHolds (column_at (λ side. pos 0) (pos 0))
unfolding GateHolds
on_edge side h = column_is _ _ side 0 h (simp differences (same_difference _ _ _ _ (omega arith)))

pub west_of_next_edge : GateHolds (column_at (λ side. pos (side - 1)) (pos 0))
unfolding GateHolds
west_of_next_edge side h = column_is _ _ side (side - 1) (omega arith) (simp differences (same_difference _ _ _ _ (omega arith)))

pub on_next_edge : GateHolds (column_at (λ side. pos side) (pos 1))
unfolding GateHolds
on_next_edge side h = column_is _ _ side 0 h (simp differences (same_difference _ _ _ _ (omega arith)))

-- ---- the mesh column of X = 0

from_corner : (i : ℤ) → pos 0 -ℤ (i -ℤ pos 401) *ℤ pos 476250 ≡ (pos 401 -ℤ i) *ℤ pos 476250 +ℤ pos 0
from_corner i = rw (as_difference i) (simp differences (same_difference _ _ _ _ (omega arith)))

back_to_mesh : (i : ℤ) → i +ℤ (pos 401 -ℤ i) ≡ pos 401
back_to_mesh i = rw (as_difference i) (simp differences (same_difference _ _ _ _ (omega arith)))

mesh_column : (i : ℤ) → i +ℤ (pos 0 -ℤ (i -ℤ pos 401) *ℤ pos 476250) ÷ 476250 ≡ pos 401
mesh_column i = rw (from_corner i, floor_only (pos 401 -ℤ i) 476250 0 (lit< tt)) (back_to_mesh i)

pub mesh_column_of_zero_lem : GateHolds (mesh_column_of_zero (pos 401))
unfolding GateHolds index_of window_of
mesh_column_of_zero_lem g = mesh_column g.i
