-- Document 01, "Scan record", as it is read: where each number stands in the bytes. Fields are counted from 0 here: field k has the tag
-- k + 1. Past the end of the bytes 0 stands, so that every definition has a value; such a record is refused. Assumes nothing.
use Rattle.std.specs.Prelude.{cond, List, [], ◌∷◌, ℕ, ◌+◌, ◌*◌, eqb, get_or}
use Rattle.arithmetic.specs.Places.{sum_to}
use Rattle.limits.specs.declared.grid.Grid.{Grid}
use Rattle.limits.specs.declared.grid.Grid.TheVariants.{Radolan, Hrap}
use Rattle.limits.specs.declared.site.Site.{Site}
use Rattle.limits.specs.declared.weighting.Weighting.{Weighting}
use Rattle.limits.specs.declared.weighting.Weighting.TheVariants.{Plain, ByQuality}
use Rattle.scan.specs.declared.head.ScanHead.{ScanHead}
use Rattle.scan.specs.Scan.{Scan}
use Rattle.big_endian.specs.BigEndian.{number_at, numbers_at, signed_at}

-- 0 plain, 1 by quality
unfoldable pub weighting_of : ℕ → Weighting
weighting_of byte = cond (eqb byte 0) Plain ByQuality

module _ (bytes : List ℕ) where
  unfoldable pub rays_in : ℕ
  rays_in = number_at 2 bytes 14

  -- all gates of the scan
  unfoldable pub gates_in : ℕ
  gates_in = number_at 2 bytes 14 * number_at 2 bytes 16

  -- field 3 may have 17 or 9
  unfoldable pub grid_length : ℕ
  grid_length = cond (eqb (number_at 2 bytes 27) 17) 17 9

  -- the content's length that the earlier fields imply
  unfoldable pub content_length : ℕ → ℕ
  content_length k = get_or (8 ∷ 12 ∷ grid_length ∷ 1 ∷ 4 * rays_in ∷ 2 * gates_in ∷ gates_in ∷ []) k 0

  -- each field: three header bytes, then content
  unfoldable pub field_start : ℕ → ℕ
  field_start k = sum_to (λ j. 3 + content_length j) k

  unfoldable pub content_start : ℕ → ℕ
  content_start k = field_start k + 3

  -- ---- what stands there

  unfoldable pub site_in : Site
  site_in = record { latitude = signed_at 4 bytes 3; longitude = signed_at 4 bytes 7 }

  -- the kind stands at 29
  unfoldable pub grid_in : Grid
  grid_in =
      cond (eqb grid_length 17)
      (Radolan (record {
        x = signed_at 4 bytes 30;
        y = signed_at 4 bytes 34;
        side = number_at 4 bytes 38;
        columns = number_at 2 bytes 42;
        rows = number_at 2 bytes 44;
      }))
      (Hrap (record {
        i = signed_at 2 bytes 30;
        j = signed_at 2 bytes 32;
        columns = number_at 2 bytes 34;
        rows = number_at 2 bytes 36;
      }))

  unfoldable pub head_in : ScanHead
  head_in = record {
    site = site_in;
    rays = number_at 2 bytes 14;
    gates = number_at 2 bytes 16;
    first = number_at 4 bytes 18;
    spacing = number_at 4 bytes 22;
    grid = grid_in;
    weighting = weighting_of (get_or bytes (content_start 3) 0);
  }

  unfoldable pub azimuths_in : List ℕ
  azimuths_in = numbers_at 4 bytes (content_start 4) rays_in

  unfoldable pub values_in : List ℕ
  values_in = numbers_at 2 bytes (content_start 5) gates_in

  unfoldable pub qualities_in : List ℕ
  qualities_in = numbers_at 1 bytes (content_start 6) gates_in

  -- the scan of the record
  unfoldable pub scan_in : Scan
  scan_in = record { head = head_in; azimuths = azimuths_in; values = values_in; qualities = qualities_in }
