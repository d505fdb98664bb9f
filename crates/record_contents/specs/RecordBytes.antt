-- Document 01, "Scan record", as it is written: the bytes of a scan. Assumes nothing.
use Rattle.std.specs.Prelude.{List, [], ◌∷◌, ◌++◌, ℕ, suc, length}
use Rattle.limits.specs.declared.grid.Grid.{Grid}
use Rattle.limits.specs.declared.grid.Grid.TheVariants.{Radolan, Hrap}
use Rattle.limits.specs.declared.site.Site.{Site}
use Rattle.limits.specs.declared.weighting.Weighting.{Weighting}
use Rattle.limits.specs.declared.weighting.Weighting.TheVariants.{Plain, ByQuality}
use Rattle.scan.specs.declared.head.ScanHead.{ScanHead}
use Rattle.scan.specs.Scan.{Scan}
use Rattle.big_endian.specs.BigEndian.{bytes_of, all_bytes_of, signed_bytes_of}

-- 1: latitude, longitude (4 bytes each, two's complement)
unfoldable pub site_bytes : Site → List ℕ
site_bytes site = signed_bytes_of 4 site.latitude ++ signed_bytes_of 4 site.longitude

-- 2: rays, gates (2 each), first centre, spacing (4 each)
unfoldable pub gates_bytes : ScanHead → List ℕ
gates_bytes head = bytes_of 2 head.rays ++ bytes_of 2 head.gates ++ bytes_of 4 head.first ++ bytes_of 4 head.spacing

-- 3, kind 1: corner x, y (4 each, two's complement), side (4), columns, rows (2 each), 17 bytes with the kind
--    kind 2: I, J (2 each, two's complement), columns, rows (2 each), 9 bytes
unfoldable pub grid_bytes : Grid → List ℕ
grid_bytes (Radolan g) =
    bytes_of 1 1 ++ signed_bytes_of 4 g.x ++ signed_bytes_of 4 g.y ++ bytes_of 4 g.side ++ bytes_of 2 g.columns ++ bytes_of 2 g.rows
grid_bytes (Hrap g) =
    bytes_of 1 2 ++ signed_bytes_of 2 g.i ++ signed_bytes_of 2 g.j ++ bytes_of 2 g.columns ++ bytes_of 2 g.rows

-- 4: weighting: 0 plain, 1 by quality
unfoldable pub weighting_byte : Weighting → ℕ
weighting_byte Plain = 0
weighting_byte ByQuality = 1

-- the contents of the seven fields, in order; 5: azimuths (4 each), 6: values (2 each), 7: qualities (1 each)
unfoldable pub contents_of : Scan → List (List ℕ)
contents_of scan =
    site_bytes scan.head.site
    ∷ gates_bytes scan.head
    ∷ grid_bytes scan.head.grid
    ∷ bytes_of 1 (weighting_byte scan.head.weighting)
    ∷ all_bytes_of 4 scan.azimuths
    ∷ all_bytes_of 2 scan.values
    ∷ all_bytes_of 1 scan.qualities
    ∷ []

-- a field: a one-byte tag and a two-byte length, then content
unfoldable pub header_bytes : ℕ → ℕ → List ℕ
header_bytes tag count = bytes_of 1 tag ++ bytes_of 2 count

unfoldable pub field_bytes : ℕ → List ℕ → List ℕ
field_bytes tag content = header_bytes tag (length content) ++ content

-- one field behind the other, the first with the given tag
unfoldable pub fields_bytes : ℕ → List (List ℕ) → List ℕ
fields_bytes tag [] = []
fields_bytes tag (content ∷ contents) = field_bytes tag content ++ fields_bytes (suc tag) contents

unfoldable pub record_of : Scan → List ℕ
record_of scan = fields_bytes 1 (contents_of scan)
