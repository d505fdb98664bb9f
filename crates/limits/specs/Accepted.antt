-- Document 01, "The scan": what is allowed of a range, an azimuth, a site and a grid. Assumes nothing.
use Rattle.std.specs.Prelude.{Bool, ◌&&◌, ℕ, leb, pos, negsuc}
use Rattle.limits.specs.declared.grid.Grid.{Grid}
use Rattle.limits.specs.declared.grid.Grid.TheVariants.{Radolan, Hrap}
use Rattle.limits.specs.declared.site.Site.{Site}
use Rattle.refusal.specs.Checks.{in_range, in_signed_range}

unfoldable pub range_accepted : ℕ → Bool
range_accepted range = leb range 46000000

unfoldable pub azimuth_accepted : ℕ → Bool
azimuth_accepted azimuth = leb azimuth 3599999

-- latitude 200,000 to 750,000, longitude -1,800,000 to 1,800,000
unfoldable pub site_accepted : Site → Bool
site_accepted site =
    in_signed_range (pos 200000) (pos 750000) site.latitude
    && in_signed_range (negsuc 1799999) (pos 1800000) site.longitude

-- columns and rows 1 to 1,500
unfoldable pub size_accepted : ℕ → ℕ → Bool
size_accepted columns rows = in_range 1 1500 columns && in_range 1 1500 rows

-- RADOLAN: corner -2,000,000,000 to 2,000,000,000, side 10,000 to 10,000,000; HRAP: I and J -10,000 to 10,000
unfoldable pub grid_accepted : Grid → Bool
grid_accepted (Radolan g) =
    in_signed_range (negsuc 1999999999) (pos 2000000000) g.x
    && in_signed_range (negsuc 1999999999) (pos 2000000000) g.y
    && in_range 10000 10000000 g.side
    && size_accepted g.columns g.rows
grid_accepted (Hrap g) =
    in_signed_range (negsuc 9999) (pos 10000) g.i
    && in_signed_range (negsuc 9999) (pos 10000) g.j
    && size_accepted g.columns g.rows
