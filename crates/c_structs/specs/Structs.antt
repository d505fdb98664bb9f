-- Site, grid and scan head as the structs of signed numbers in which they cross to C, each a list of its numbers. Assumes nothing.
use Rattle.std.specs.Prelude.{Bool, false, cond, List, [], ◌∷◌, ℕ, ◌+◌, eqb, ℤ, pos, negsuc, get_or}
use Rattle.limits.specs.declared.grid.Grid.{Grid}
use Rattle.limits.specs.declared.grid.Grid.TheVariants.{Radolan, Hrap}
use Rattle.limits.specs.declared.site.Site.{Site}
use Rattle.refusal.specs.Unsigned.{unsigned32}
use Rattle.limits.specs.declared.weighting.Weighting.{Weighting}
use Rattle.limits.specs.declared.weighting.Weighting.TheVariants.{Plain, ByQuality}
use Rattle.scan.specs.declared.head.ScanHead.{ScanHead}
use Rattle.record_contents.specs.RecordBytes.{weighting_byte}
use Rattle.c_structs.specs.declared.GridNumbers.{GridNumbers}

-- the integer is this number
unfoldable pub is_number : ℕ → ℤ → Bool
is_number n (pos m) = eqb m n
is_number n (negsuc m) = false

-- ---- from C

-- latitude, longitude
unfoldable pub site_at : List ℤ → ℕ → Site
site_at numbers start = record { latitude = get_or numbers start (pos 0); longitude = get_or numbers (start + 1) (pos 0) }

-- kind, x, y, side, columns, rows
unfoldable pub grid_at : List ℤ → ℕ → GridNumbers
grid_at numbers start = record {
  kind = get_or numbers start (pos 0);
  x = get_or numbers (start + 1) (pos 0);
  y = get_or numbers (start + 2) (pos 0);
  side = get_or numbers (start + 3) (pos 0);
  columns = get_or numbers (start + 4) (pos 0);
  rows = get_or numbers (start + 5) (pos 0);
}

-- a grid of no kind: its side, columns and rows are refused
unfoldable pub no_grid : Grid
no_grid = Radolan (record { x = pos 0; y = pos 0; side = 0; columns = 0; rows = 0 })

-- kind 1 RADOLAN; kind 2 HRAP, where x and y are I and J and the side plays no part
unfoldable pub grid_of : GridNumbers → Grid
grid_of g =
    cond (is_number 1 g.kind)
    (Radolan (record { x = g.x; y = g.y; side = unsigned32 g.side; columns = unsigned32 g.columns; rows = unsigned32 g.rows }))
    (cond (is_number 2 g.kind)
    (Hrap (record { i = g.x; j = g.y; columns = unsigned32 g.columns; rows = unsigned32 g.rows }))
    no_grid)

-- 0 plain, any other number by quality
unfoldable pub weighting_of : ℤ → Weighting
weighting_of z = cond (is_number 0 z) Plain ByQuality

-- site, rays, gates, first centre, spacing, grid, weighting: thirteen numbers
unfoldable pub head_of : List ℤ → ScanHead
head_of numbers = record {
  site = site_at numbers 0;
  rays = unsigned32 (get_or numbers 2 (pos 0));
  gates = unsigned32 (get_or numbers 3 (pos 0));
  first = unsigned32 (get_or numbers 4 (pos 0));
  spacing = unsigned32 (get_or numbers 5 (pos 0));
  grid = grid_of (grid_at numbers 6);
  weighting = weighting_of (get_or numbers 12 (pos 0));
}

-- ---- to C

-- of HRAP, the side is that of its mesh
unfoldable pub grid_numbers : Grid → GridNumbers
grid_numbers (Radolan g) = record { kind = pos 1; x = g.x; y = g.y; side = pos g.side; columns = pos g.columns; rows = pos g.rows }
grid_numbers (Hrap g) = record { kind = pos 2; x = g.i; y = g.j; side = pos 476250; columns = pos g.columns; rows = pos g.rows }

unfoldable pub head_numbers : ScanHead → List ℤ
head_numbers head =
    let grid = grid_numbers head.grid in
    head.site.latitude
    ∷ head.site.longitude
    ∷ pos head.rays
    ∷ pos head.gates
    ∷ pos head.first
    ∷ pos head.spacing
    ∷ grid.kind
    ∷ grid.x
    ∷ grid.y
    ∷ grid.side
    ∷ grid.columns
    ∷ grid.rows
    ∷ pos (weighting_byte head.weighting)
    ∷ []
