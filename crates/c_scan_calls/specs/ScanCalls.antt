-- What is answered and left of what C lends, for one gate, for a scan that is tallied and for sums that are published: each over a contract's
-- parameters. Assumes nothing.
use Rattle.std.specs.Prelude.{List, ℕ, ℤ}
use denote.Triple.Both.{Both}
use Rattle.limits.specs.declared.weighting.Weighting.{Weighting}
use Rattle.refusal.specs.Answer.{Answers}
use Rattle.refusal.specs.Unsigned.{unsigned32}
use Rattle.placement.specs.Gate.{PlacedGate, placed_gate}
use Rattle.placement.specs.GateRefusal.{gate_refusal}
use Rattle.tally.specs.LentSums.{Sums, Cells}
use Rattle.publish.specs.Publication.{publish_refusal}
use Rattle.publish.specs.Publish.{published_cells}
use Rattle.scan.specs.LentLists.{Lists}
use Rattle.scan.specs.Scan.{Scan}
use Rattle.scan.specs.ScanRefusal.{refusal_for}
use Rattle.accepted_tally.specs.TalliedLists.{tallied_lists}
use Rattle.c_structs.specs.Structs.{site_at, grid_at, grid_of}

abbrev pub PlacesGate : List ℤ → List ℤ → ℤ → ℤ → Both PlacedGate PlacedGate → ℕ → Type 0
PlacesGate site grid azimuth range gate answer =
    let at = site_at site 0 in
    let on = grid_of (grid_at grid 0) in
    Answers (gate_refusal at on (unsigned32 azimuth) (unsigned32 range)) (placed_gate at on (unsigned32 azimuth) (unsigned32 range)) gate answer

abbrev pub TalliesScan : Scan → Both Lists Lists → ℕ → Type 0
TalliesScan scan lists answer = Answers (refusal_for scan lists.entry) (tallied_lists scan) lists answer

abbrev pub PublishesSums : Weighting → Sums → Both Cells Cells → ℕ → Type 0
PublishesSums weighting sums cells answer = Answers (publish_refusal sums cells.entry) (published_cells weighting sums) cells answer
