-- What is accepted, as bounds of its numbers. Assumes nothing.
use mathlib.Core.Path.{◌≡◌}
use mathlib.Core.Bool.{true, ◌&&◌}
use Prim.Native.Nat.{ℕ, ◌+◌, ◌*◌, ◌≤◌}
use native.Mathlib.Nat.{le_refl}
use borrow.Author.Tests.{leb-true}
use lib.IntN.{ℤ, pos, negsuc, ◌-ℤ◌, ◌*ℤ◌}
use Rattle.arithmetic.specs.Magnitude.{Magnitude}
use Rattle.arithmetic.proofs.Test.{and_true}
use Rattle.arithmetic.proofs.Magnitude.{magnitude_pos, magnitude_difference, magnitude_product}
use Rattle.limits.specs.declared.grid.Grid.TheVariants.{Radolan, Hrap}
use Rattle.limits.specs.declared.grid.HrapGrid.{HrapGrid}
use Rattle.limits.specs.declared.grid.RadolanGrid.{RadolanGrid}
use Rattle.limits.specs.declared.site.Site.{Site}
use Rattle.refusal.specs.Checks.{in_range, in_signed_range}
use Rattle.limits.specs.Accepted.{range_accepted, azimuth_accepted, site_accepted, size_accepted, grid_accepted}
use Rattle.refusal.proofs.RangeBounds.{range_bounds, range_magnitude, range_natural}

-- ---- range, azimuth, site

pub accepted_range : (range : ℕ) → range_accepted range ≡ true → range ≤ 46000000
unfolding range_accepted
accepted_range range e = leb-true range 46000000 e

pub accepted_azimuth : (azimuth : ℕ) → azimuth_accepted azimuth ≡ true → azimuth ≤ 3599999
unfolding azimuth_accepted
accepted_azimuth azimuth e = leb-true azimuth 3599999 e

pub record AcceptedSite (site : Site) : Type 0 where
  pub latitude : (p : ℕ) × (site.latitude ≡ pos p) × (200000 ≤ p) × (p ≤ 750000)
  pub longitude : Magnitude site.longitude 1800000

pub accepted_site : (site : Site) → site_accepted site ≡ true → AcceptedSite site
unfolding site_accepted
accepted_site site e =
    let h = and_true (in_signed_range (pos 200000) (pos 750000) site.latitude) (in_signed_range (negsuc 1799999) (pos 1800000) site.longitude) e in
    record {
      latitude = range_natural 200000 750000 site.latitude h.0;
      longitude = range_magnitude 1799999 site.longitude h.1;
    }

-- ---- grid

pub record AcceptedSize (columns rows : ℕ) : Type 0 where
  pub columns_least : 1 ≤ columns
  pub columns_most : columns ≤ 1500
  pub rows_least : 1 ≤ rows
  pub rows_most : rows ≤ 1500

accepted_size : (columns rows : ℕ) → size_accepted columns rows ≡ true → AcceptedSize columns rows
unfolding size_accepted
accepted_size columns rows e =
    let h = and_true (in_range 1 1500 columns) (in_range 1 1500 rows) e in
    let c = range_bounds 1 1500 columns h.0 in
    let r = range_bounds 1 1500 rows h.1 in
    record { columns_least = c.0; columns_most = c.1; rows_least = r.0; rows_most = r.1 }

pub record AcceptedRadolan (g : RadolanGrid) : Type 0 where
  pub x_limit : Magnitude g.x 2000000000
  pub y_limit : Magnitude g.y 2000000000
  pub side_least : 10000 ≤ g.side
  pub side_most : g.side ≤ 10000000
  pub size : AcceptedSize g.columns g.rows

pub accepted_radolan : (g : RadolanGrid) → grid_accepted (Radolan g) ≡ true → AcceptedRadolan g
unfolding grid_accepted
accepted_radolan g e =
    let x = in_signed_range (negsuc 1999999999) (pos 2000000000) g.x in
    let y = in_signed_range (negsuc 1999999999) (pos 2000000000) g.y in
    let side = in_range 10000 10000000 g.side in
    let h = and_true (x && y && side) (size_accepted g.columns g.rows) e in
    let k = and_true (x && y) side h.0 in
    let l = and_true x y k.0 in
    let s = range_bounds 10000 10000000 g.side k.1 in
    record {
      x_limit = range_magnitude 1999999999 g.x l.0;
      y_limit = range_magnitude 1999999999 g.y l.1;
      side_least = s.0;
      side_most = s.1;
      size = accepted_size g.columns g.rows h.1;
    }

pub record AcceptedHrap (g : HrapGrid) : Type 0 where
  pub i_limit : Magnitude g.i 10000
  pub j_limit : Magnitude g.j 10000
  pub size : AcceptedSize g.columns g.rows

pub accepted_hrap : (g : HrapGrid) → grid_accepted (Hrap g) ≡ true → AcceptedHrap g
unfolding grid_accepted
accepted_hrap g e =
    let i = in_signed_range (negsuc 9999) (pos 10000) g.i in
    let j = in_signed_range (negsuc 9999) (pos 10000) g.j in
    let h = and_true (i && j) (size_accepted g.columns g.rows) e in
    let k = and_true i j h.0 in
    record {
      i_limit = range_magnitude 9999 g.i k.0;
      j_limit = range_magnitude 9999 g.j k.1;
      size = accepted_size g.columns g.rows h.1;
    }

-- the corner of an HRAP grid on either axis, where z is its first column or row and k the pole's
pub hrap_distance : {z : ℤ} (k : ℕ) → Magnitude z 10000 → Magnitude (z -ℤ pos k) (10000 + k)
hrap_distance k h = magnitude_difference h (magnitude_pos (le_refl k))

pub hrap_corner : {z : ℤ} (k : ℕ) → Magnitude z 10000 → Magnitude ((z -ℤ pos k) *ℤ pos 476250) ((10000 + k) * 476250)
hrap_corner k h = magnitude_product (hrap_distance k h) (magnitude_pos (le_refl 476250))
