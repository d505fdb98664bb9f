-- Document 01, "On both sides of the line": the table of the cases marked with a star. Assumes nothing.
use Rattle.std.specs.Prelude.{true, List, [], ◌∷◌, ◌≡◌, ℕ, ◌-◌, ℤ, pos, negsuc}
use Rattle.refusal.specs.Answer.{afterwards}
use Rattle.placement.specs.GateCases.{GateCase, x_is_zero, mesh_column_of_zero, column_at, range_refusal, latitude_refusal, azimuth_refusal, example_grid, any_radolan, GateHolds}
use Rattle.limits.specs.declared.weighting.Weighting.{Weighting}
use Rattle.limits.specs.declared.weighting.Weighting.TheVariants.{Plain, ByQuality}
use Rattle.tally.specs.LentSums.{Sums, Cells}
use Rattle.publish.specs.Publication.{equally_long, publish_refusal}
use Rattle.publish.specs.Publish.{published_cells}
use Rattle.scan.specs.declared.head.ScanHead.{ScanHead}
use Rattle.scan.specs.LentLists.{Lists}
use Rattle.accepted_tally.specs.TalliedLists.{tallied_lists}
use Rattle.scan.specs.Scan.{Scan}
use Rattle.scan.specs.ScanRefusal.{lists_exact, refusal_for}

pub data StarredCase : Type 0 where
  -- a case of a single gate
  a_gate : GateCase → StarredCase
  -- the example's scan with these values and qualities, tallied and then published in this weighting: this is the mean of its cell 1
  cell_mean : Weighting → List ℕ → List ℕ → ℕ → StarredCase
  -- the same: this is the quality of its cell 1
  cell_quality : Weighting → List ℕ → List ℕ → ℕ → StarredCase
  -- the example's scan with these values and qualities, tallied: this is the count of its cell 1
  cell_count : List ℕ → List ℕ → ℕ → StarredCase
  -- the example's scan with this last centre: its refusal number, or 0 where it passes
  scan_last_centre : ℕ → ℕ → StarredCase
  -- the example's scan with this latitude: the same
  scan_latitude : ℤ → ℕ → StarredCase
  -- the example's scan with this azimuth: the same
  scan_azimuth : ℕ → ℕ → StarredCase
  -- the example's scan with these values and qualities: the same
  scan_qualities : List ℕ → List ℕ → ℕ → StarredCase
  -- the example's scan with no rays and this latitude: the same
  scan_without_rays : ℤ → ℕ → StarredCase

-- the scan that the cases vary: the example of document 01, two gates with a spacing of 100,000
unfoldable pub example_head : ℤ → ℕ → ℕ → ScanHead
unfolding example_grid
example_head latitude rays lastCentre = record {
  site = record { latitude = latitude; longitude = negsuc 1049999 };
  rays = rays;
  gates = 2;
  first = lastCentre - 100000;
  spacing = 100000;
  grid = example_grid;
  weighting = ByQuality;
}

-- the example
unfoldable pub example : ScanHead
example = example_head (pos 600000) 1 100000

-- the example's lists, with these values and qualities
unfoldable pub example_scan : ScanHead → List ℕ → List ℕ → Scan
example_scan head values qualities = record { head = head; azimuths = 0 ∷ []; values = values; qualities = qualities }

-- its own
unfoldable pub example_with : ScanHead → Scan
example_with head = example_scan head (1 ∷ 7 ∷ []) (90 ∷ 10 ∷ [])

-- the refusal number of the scan, or 0 where it passes, with any lent lists of the right lengths
unfoldable pub RefusedBy : Scan → ℕ → Type 0
RefusedBy scan number = (lists : Lists) → lists_exact scan lists ≡ true → refusal_for scan lists ≡ number

-- what the sums of the two cells are that the tally leaves, whatever the lists held before
unfoldable pub sums_after : Scan → Lists → Sums
sums_after scan lists = (afterwards (refusal_for scan lists) lists (tallied_lists scan)).sums

-- its counts: cell 0 is empty
unfoldable pub CountIs : Scan → ℕ → Type 0
CountIs scan given = (lists : Lists) → lists_exact scan lists ≡ true → (sums_after scan lists).counts ≡ 0 ∷ given ∷ []

-- what a list of the two cells holds once these sums are published, whatever it held before: cell 0 is empty
unfoldable pub CellsHold : Weighting → Scan → (Cells → List ℕ) → ℕ → ℕ → Type 0
CellsHold weighting scan list empty given =
    (lists : Lists) (cells : Cells) → lists_exact scan lists ≡ true → equally_long (sums_after scan lists) cells ≡ true → list (afterwards (publish_refusal (sums_after scan lists) cells) cells (published_cells weighting (sums_after scan lists))) ≡ empty ∷ given ∷ []

unfoldable pub Holds : StarredCase → Type 0
Holds (a_gate case) = GateHolds case
Holds (cell_mean weighting values qualities mean) = CellsHold weighting (example_scan example values qualities) (λ cells. cells.means) 65535 mean
Holds (cell_quality weighting values qualities quality) = CellsHold weighting (example_scan example values qualities) (λ cells. cells.qualities) 0 quality
Holds (cell_count values qualities count) = CountIs (example_scan example values qualities) count
Holds (scan_last_centre given number) = RefusedBy (example_with (example_head (pos 600000) 1 given)) number
Holds (scan_latitude given number) = RefusedBy (example_with (example_head given 1 100000)) number
Holds (scan_azimuth given number) = RefusedBy (record { head = example; azimuths = given ∷ []; values = 1 ∷ 7 ∷ []; qualities = 90 ∷ 10 ∷ [] }) number
Holds (scan_qualities values qualities number) = RefusedBy (example_scan example values qualities) number
Holds (scan_without_rays latitude number) = RefusedBy (record { head = example_head latitude 0 100000; azimuths = []; values = []; qualities = [] }) number

unfoldable pub AllHold : List StarredCase → Type 0
AllHold [] = Unit {0}
AllHold (case ∷ cases) = Holds case × AllHold cases

-- in document 01's order
unfoldable pub starred_cases : List StarredCase
starred_cases =
    a_gate (x_is_zero example_grid (negsuc 1049999))
    ∷ a_gate (mesh_column_of_zero (pos 401))
    ∷ a_gate (x_is_zero any_radolan (pos 100000))
    ∷ a_gate (column_at (λ side. negsuc 0) (negsuc 0))
    ∷ a_gate (column_at (λ side. pos 0) (pos 0))
    ∷ a_gate (column_at (λ side. pos (side - 1)) (pos 0))
    ∷ a_gate (column_at (λ side. pos side) (pos 1))
    ∷ cell_mean Plain (1 ∷ 7 ∷ []) (90 ∷ 10 ∷ []) 4
    ∷ cell_mean ByQuality (1 ∷ 7 ∷ []) (90 ∷ 10 ∷ []) 1
    ∷ cell_quality ByQuality (1 ∷ 7 ∷ []) (90 ∷ 10 ∷ []) 50
    ∷ cell_mean ByQuality (1 ∷ 7 ∷ []) (0 ∷ 0 ∷ []) 65535
    ∷ cell_count (1 ∷ 7 ∷ []) (0 ∷ 0 ∷ []) 2
    ∷ cell_quality ByQuality (1 ∷ 7 ∷ []) (0 ∷ 0 ∷ []) 0
    ∷ cell_mean Plain (65534 ∷ 7 ∷ []) (90 ∷ 10 ∷ []) 3
    ∷ scan_last_centre 46000000 0
    ∷ scan_last_centre 46000001 3
    ∷ a_gate (range_refusal 46000000 0)
    ∷ a_gate (range_refusal 46000001 3)
    ∷ scan_latitude (pos 200000) 0
    ∷ scan_latitude (pos 750000) 0
    ∷ scan_latitude (pos 199999) 4
    ∷ scan_latitude (pos 750001) 4
    ∷ a_gate (latitude_refusal (pos 200000) 0)
    ∷ a_gate (latitude_refusal (pos 750000) 0)
    ∷ a_gate (latitude_refusal (pos 199999) 4)
    ∷ a_gate (latitude_refusal (pos 750001) 4)
    ∷ scan_azimuth 3599999 0
    ∷ scan_azimuth 3600000 7
    ∷ a_gate (azimuth_refusal 3599999 0)
    ∷ a_gate (azimuth_refusal 3600000 7)
    ∷ scan_qualities (65535 ∷ 7 ∷ []) (101 ∷ 10 ∷ []) 8
    ∷ scan_without_rays (pos 0) 1
    ∷ []
