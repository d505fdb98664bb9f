-- What the writer's private functions ask of a scan and of the buffer. Every scan that the writer accepts meets it. Assumes nothing.
use Rattle.std.specs.Prelude.{true, ◌≡◌, ℕ, ◌+◌, ◌*◌, ◌≤◌, length}
use Rattle.limits.specs.Accepted.{site_accepted, grid_accepted}
use Rattle.scan.specs.declared.head.ScanHead.{ScanHead}
use Rattle.scan.specs.Scan.{Scan, gates_of}
use Rattle.record_contents.specs.RecordBytes.{grid_bytes}

-- seven headers, 8 bytes of site, 12 of gates, the grid, 1 of weighting, 4 a ray, 2 and 1 a gate
unfoldable pub record_length : ScanHead → ℕ
record_length head = 42 + length (grid_bytes head.grid) + 4 * head.rays + 3 * gates_of head

pub record Writable (scan : Scan) (room : ℕ) : Type 0 where
  pub rays_most : scan.head.rays ≤ 720
  pub gates_most : gates_of scan.head ≤ 32767
  pub site : site_accepted scan.head.site ≡ true
  pub grid : grid_accepted scan.head.grid ≡ true
  pub azimuths_length : length scan.azimuths ≡ scan.head.rays
  pub values_length : length scan.values ≡ gates_of scan.head
  pub qualities_length : length scan.qualities ≡ gates_of scan.head
  pub room_least : record_length scan.head ≤ room
