-- Document 01, "The scan" for what is allowed, "Refusal numbers" for the order of a scan's checks. Assumes nothing.
use Rattle.std.specs.Prelude.{Bool, ◌&&◌, [], ◌∷◌, ℕ, ◌+◌, ◌*◌, ◌-◌, leb, eqb, length}
use Rattle.arithmetic.specs.Places.{all_of}
use Rattle.refusal.specs.Checks.{in_range, ◌unless◌, first_refusal}
use Rattle.limits.specs.Accepted.{azimuth_accepted, site_accepted, grid_accepted}
use Rattle.scan.specs.declared.head.ScanHead.{ScanHead}
use Rattle.scan.specs.LentLists.{Lists}
use Rattle.scan.specs.Scan.{Scan, gates_of, cells_of}

-- first centre 0 to 46,000,000, spacing 1 to 1,000,000, last centre at most 46,000,000
unfoldable pub centres_accepted : ℕ → ℕ → ℕ → Bool
centres_accepted gates first spacing =
    leb first 46000000 && in_range 1 1000000 spacing && leb (first + (gates - 1) * spacing) 46000000

unfoldable pub quality_accepted : ℕ → Bool
quality_accepted quality = leb quality 100

-- ---- the lengths of the lists

-- of the scan's own: rays; rays x gates
unfoldable pub lists_accepted : ScanHead → ℕ → ℕ → ℕ → Bool
lists_accepted head azimuths values qualities =
    eqb azimuths head.rays && eqb values (gates_of head) && eqb qualities (gates_of head)

unfoldable pub given_exact : Scan → Bool
given_exact scan = lists_accepted scan.head (length scan.azimuths) (length scan.values) (length scan.qualities)

-- of all lists: ledger and marks rays x gates too; each cell list columns x rows
unfoldable pub lists_exact : Scan → Lists → Bool
lists_exact scan lists =
    given_exact scan
    && eqb (length lists.ledger) (gates_of scan.head)
    && eqb (length lists.marks) (gates_of scan.head)
    && eqb (length lists.sums.counts) (cells_of scan.head)
    && eqb (length lists.sums.quality_sums) (cells_of scan.head)
    && eqb (length lists.sums.value_sums) (cells_of scan.head)
    && eqb (length lists.sums.weighted_sums) (cells_of scan.head)

-- ---- which number is given

-- the lowest number that applies: of the numbers, of the lists' lengths, of the azimuths and of the qualities
unfoldable pub scan_number : ScanHead → Bool → Bool → Bool → ℕ
scan_number head lengths azimuths qualities =
    first_refusal (
    (1 unless in_range 1 720 head.rays)
    ∷ (2 unless in_range 1 1000 head.gates)
    ∷ (3 unless centres_accepted head.gates head.first head.spacing)
    ∷ (4 unless site_accepted head.site)
    ∷ (5 unless grid_accepted head.grid)
    ∷ (6 unless lengths)
    ∷ (7 unless azimuths)
    ∷ (8 unless qualities)
    ∷ [])

-- the number of a scan whose lists were tested for their lengths
unfoldable pub scan_refusal : Scan → Bool → ℕ
scan_refusal scan lengths =
    scan_number scan.head lengths (all_of azimuth_accepted scan.azimuths) (all_of quality_accepted scan.qualities)

-- the number of a scan with the lists that are lent for it
unfoldable pub refusal_for : Scan → Lists → ℕ
refusal_for scan lists = scan_refusal scan (lists_exact scan lists)
