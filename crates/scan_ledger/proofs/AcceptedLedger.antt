-- What is told of accepted rays' gates, their entries and marks: what the survey gives is what the rules say. Assumes nothing.
use mathlib.Core.Bool.{true, ◌&&◌}
use mathlib.Core.List.{List}
use mathlib.Core.Path.{◌≡◌}
use Prim.Native.Nat.{ℕ, ◌+◌, ◌*◌, ◌-◌, ◌<◌, ◌≤◌}
use native.Mathlib.Nat.{mul-le-mul_right}
use native.Mathlib.Omega.{arith}
use borrow.Author.Tests.{leb-true, le-leb}
use lib.Dec.{leb}
use Rattle.arithmetic.specs.Places.{all_of}
use Rattle.arithmetic.proofs.Test.{and_true}
use Rattle.refusal.specs.Checks.{in_range, first_refusal}
use Rattle.limits.specs.Accepted.{range_accepted, azimuth_accepted, site_accepted, grid_accepted}
use Rattle.projection.specs.Position.{position_of}
use Rattle.placement.specs.Gate.{PlaceAnswer, placement_of, unless_refused}
use Rattle.placement.specs.GateRefusal.{gate_refusal}
use Rattle.placement.specs.Survey.{survey_of, surveyed, surveyed_gate}
use Rattle.scan.specs.declared.head.ScanHead.{ScanHead}
use Rattle.scan.specs.Rays.{regular_rays}
use Rattle.scan.specs.ScanRefusal.{centres_accepted}
use Rattle.scan.proofs.RayLaws.{gates_same}
use Rattle.scan_ledger.specs.LedgerRoom.{surveyed_gates}
use Rattle.scan_ledger.specs.ScanLedger.{gates_told}

-- the last centre is the farthest
pub centres_most : (gates first spacing g : ℕ) → centres_accepted gates first spacing ≡ true → g < gates → first + g * spacing ≤ 46000000
unfolding centres_accepted
centres_most gates first spacing g e h =
    let last = leb-true (first + (gates - 1) * spacing) 46000000 (and_true (leb first 46000000 && in_range 1 1000000 spacing) _ e).1 in
    omega (arith, last, mul-le-mul_right {m = g} {n = gates - 1} spacing (omega arith))

module _ (head : ScanHead) (centres : centres_accepted head.gates head.first head.spacing ≡ true) (site : site_accepted head.site ≡ true) (grid : grid_accepted head.grid ≡ true) where
  -- no gate of accepted numbers is refused
  pub gate_accepted : (azimuth g : ℕ) → azimuth_accepted azimuth ≡ true → g < head.gates → gate_refusal head.site head.grid azimuth (head.first + g * head.spacing) ≡ 0
  unfolding gate_refusal first_refusal range_accepted
  gate_accepted azimuth g good h =
      let range : leb (head.first + g * head.spacing) 46000000 ≡ true = le-leb _ _ (centres_most head.gates head.first head.spacing g centres h) in
      rw (range, site, grid, good)

  module _ (told : PlaceAnswer → ℕ) where
    -- a gate that is not refused is told by its survey
    accepted_gate : (azimuth range : ℕ) → gate_refusal head.site head.grid azimuth range ≡ 0 → surveyed_gate told (survey_of head.site head.grid) azimuth range ≡ told (placement_of head.site head.grid azimuth range)
    unfolding surveyed_gate surveyed survey_of placement_of unless_refused position_of
    accepted_gate azimuth range e = rw e

    pub accepted_gates : (azimuths : List ℕ) → all_of azimuth_accepted azimuths ≡ true → surveyed_gates told (survey_of head.site head.grid) (record { first = head.first; spacing = head.spacing }) (regular_rays head.gates azimuths) ≡ gates_told told head (regular_rays head.gates azimuths)
    unfolding gates_told surveyed_gates
    accepted_gates azimuths good =
        gates_same _ _ _ _ head.gates azimuth_accepted azimuths good
        (λ azimuth g a h. accepted_gate azimuth (head.first + g * head.spacing) (gate_accepted azimuth g a h))
