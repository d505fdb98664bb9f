-- Document 01, "Refusal numbers": the order of the writer's checks. Assumes nothing.
use Rattle.std.specs.Prelude.{[], ◌∷◌, ℕ, leb, length}
use Rattle.refusal.specs.Checks.{◌unless◌, first_refusal, ◌then◌}
use Rattle.scan.specs.Scan.{Scan, gates_of}
use Rattle.scan.specs.ScanRefusal.{given_exact, scan_refusal}
use Rattle.record_contents.specs.RecordBytes.{record_of}

-- 1 to 8, where 6 is for the scan's own lists, then 15, 16; the buffer's length comes last
unfoldable pub write_refusal : Scan → ℕ → ℕ
write_refusal scan room =
    scan_refusal scan (given_exact scan)
    then first_refusal ((15 unless leb (gates_of scan.head) 32767) ∷ (16 unless leb (length (record_of scan)) room) ∷ [])
