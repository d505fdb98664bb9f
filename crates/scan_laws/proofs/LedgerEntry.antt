-- Document 01, "The scan" and "Ledger and cells": gates are numbered ray by ray, gate g of a ray has its centre at first + g x spacing, and
-- the ledger has the entry of each; document 02, T-02: the marks have its mark. Assumes nothing.
use mathlib.Core.Path.{◌≡◌, ap, ◌∙◌}
use Prim.Native.Nat.{ℕ, ◌+◌, ◌*◌, ◌<◌}
use lib.ListN.{length, get_or}
use Rattle.placement.specs.Gate.{placement_of, entry_of, mark_of}
use Rattle.scan_ledger.specs.ScanLedger.{gates_told}
use Rattle.accepted_tally.specs.TalliedLists.{tallied_lists}
use Rattle.scan.specs.Rays.{Ray, all_gates, regular_rays}
use Rattle.scan.specs.Scan.{Scan, rays_of}
use Rattle.scan.proofs.RayLaws.{gate_at, gates_length, regular_gates}

-- whatever is given for each gate of a scan, it is as many numbers as the scan has gates
pub so_many_gates : (scan : Scan) (given : Ray → ℕ → ℕ) → length scan.azimuths ≡ scan.head.rays → length (all_gates given scan.head.first scan.head.spacing (rays_of scan)) ≡ scan.head.rays * scan.head.gates
unfolding rays_of
so_many_gates scan given rays =
    gates_length given _ _ (regular_rays scan.head.gates scan.azimuths) ∙ regular_gates scan.head.gates scan.azimuths ∙ ap (λ (n : ℕ). n * scan.head.gates) rays

-- gate g of ray i
pub ledger_entry : (scan : Scan) (i g : ℕ) → i < length scan.azimuths → g < scan.head.gates → get_or (tallied_lists scan).ledger (i * scan.head.gates + g) 0 ≡ entry_of (placement_of scan.head.site scan.head.grid (get_or scan.azimuths i 0) (scan.head.first + g * scan.head.spacing))
unfolding tallied_lists gates_told rays_of
ledger_entry scan i g h k = gate_at _ _ _ scan.head.gates scan.azimuths i g h k

pub gate_mark : (scan : Scan) (i g : ℕ) → i < length scan.azimuths → g < scan.head.gates → get_or (tallied_lists scan).marks (i * scan.head.gates + g) 0 ≡ mark_of (placement_of scan.head.site scan.head.grid (get_or scan.azimuths i 0) (scan.head.first + g * scan.head.spacing))
unfolding tallied_lists gates_told rays_of
gate_mark scan i g h k = gate_at _ _ _ scan.head.gates scan.azimuths i g h k
