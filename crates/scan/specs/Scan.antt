-- Document 01, "The scan": a scan with its lists as given, its rays, how many gates and cells it has. Assumes nothing.
use Rattle.std.specs.Prelude.{List, ℕ, ◌*◌}
use Rattle.grid.specs.Window.{window_of}
use Rattle.scan.specs.declared.head.ScanHead.{ScanHead}
use Rattle.scan.specs.declared.lists.Rays.{Rays}
use Rattle.scan.specs.Rays.{Ray, regular_rays}

-- an azimuth for each ray; a value and a quality for each gate, ray by ray
pub record Scan : Type 0 where
  pub head : ScanHead
  pub azimuths : List ℕ
  pub values : List ℕ
  pub qualities : List ℕ

abbrev pub scan_held : ScanHead → List ℕ → List ℕ → List ℕ → Scan
scan_held head azimuths values qualities = record { head = head; azimuths = azimuths; values = values; qualities = qualities }

-- a scan whose lists these slices are
abbrev pub scan_of : ScanHead → Rays → Scan
scan_of head rays = scan_held head rays.azimuths.now rays.values.now rays.qualities.now

unfoldable pub rays_of : Scan → List Ray
rays_of scan = regular_rays scan.head.gates scan.azimuths

unfoldable pub gates_of : ScanHead → ℕ
gates_of head = head.rays * head.gates

unfoldable pub cells_of : ScanHead → ℕ
cells_of head = (window_of head.grid).columns * (window_of head.grid).rows
