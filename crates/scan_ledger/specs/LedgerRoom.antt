-- What the ledger pass asks of rays. Every accepted scan meets it. Assumes nothing.
use Rattle.std.specs.Prelude.{List, ℕ, ◌*◌, ◌≤◌, ◌<◌, length}
use Rattle.placement.specs.declared.centres.Centres.{Centres}
use Rattle.placement.specs.SurveyTerms.{SurveyTerms}
use Rattle.placement.specs.Centres.{centre_of}
use Rattle.placement.specs.Gate.{PlaceAnswer}
use Rattle.placement.specs.Survey.{surveyed_gate}
use Rattle.scan.specs.Rays.{Ray, all_gates}

-- ledger and marks each have at least a place for each gate of rays of equal length, and no gate lies beyond the greatest range
pub record RaysSpan (gates : ℕ) (centres : Centres) (azimuths ledger marks : List ℕ) : Type 0 where
  pub gates_most : gates ≤ 1000
  pub ledger_most : length azimuths * gates ≤ length ledger
  pub marks_most : length azimuths * gates ≤ length marks
  pub ranges : (g : ℕ) → g < gates → centre_of centres g ≤ 46000000

-- what is told of the rays' gates, from the survey of the site and grid
unfoldable pub surveyed_gates : (PlaceAnswer → ℕ) → SurveyTerms → Centres → List Ray → List ℕ
surveyed_gates told survey centres rays = all_gates (λ ray range. surveyed_gate told survey ray.azimuth range) centres.first centres.spacing rays
