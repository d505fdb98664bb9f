-- Document 01, "Ledger and cells": the ledger of rays; document 02, T-02: their marks. Assumes nothing.
use Rattle.std.specs.Prelude.{List, ℕ}
use Rattle.placement.specs.Gate.{PlaceAnswer, placement_of, entry_of, mark_of}
use Rattle.scan.specs.declared.head.ScanHead.{ScanHead}
use Rattle.scan.specs.Rays.{Ray, all_gates}

-- what is told of each gate of the rays, measured or not
unfoldable pub gates_told : (PlaceAnswer → ℕ) → ScanHead → List Ray → List ℕ
gates_told told head rays = all_gates (λ ray range. told (placement_of head.site head.grid ray.azimuth range)) head.first head.spacing rays

-- its entry
abbrev pub ledger_of : ScanHead → List Ray → List ℕ
ledger_of head rays = gates_told entry_of head rays

-- its mark, 1 or 0
abbrev pub marks_of : ScanHead → List Ray → List ℕ
marks_of head rays = gates_told mark_of head rays
