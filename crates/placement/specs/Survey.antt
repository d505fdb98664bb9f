-- What a site and a grid give once for all of their gates, and a gate's placement from it. Assumes nothing.
use Rattle.std.specs.Prelude.{List, Ok, ℕ, ◌≤◌, ◌<◌, length}
use Rattle.arithmetic.specs.Places.{table}
use Rattle.placement.specs.declared.centres.Centres.{Centres}
use Rattle.placement.specs.declared.gate.Placement.{Placement}
use Rattle.limits.specs.declared.grid.Grid.{Grid}
use Rattle.projection.specs.declared.position.RayTerms.{RayTerms}
use Rattle.limits.specs.declared.site.Site.{Site}
use Rattle.placement.specs.SurveyTerms.{SurveyTerms}
use Rattle.projection.specs.Arc.{arc_terms}
use Rattle.projection.specs.Position.{site_terms, ray_terms, position_by}
use Rattle.grid.specs.Sphere.{sphere_of}
use Rattle.grid.specs.Window.{window_of}
use Rattle.placement.specs.Centres.{centre_of}
use Rattle.placement.specs.Gate.{PlaceAnswer}
use Rattle.placement.specs.Located.{located}

unfoldable pub survey_of : Site → Grid → SurveyTerms
survey_of site grid = record {
  terms = site_terms (sphere_of grid).meridian site;
  sphere = sphere_of grid;
  window = window_of grid;
}

unfoldable pub surveyed : SurveyTerms → RayTerms → ℕ → Placement
surveyed survey ray range =
    located survey.window (position_by survey.terms ray (arc_terms survey.sphere.radius range) survey.sphere.k)

-- what is told of a gate: its ledger entry (`entry_of`), or its mark (`mark_of`)
unfoldable pub surveyed_gate : (PlaceAnswer → ℕ) → SurveyTerms → ℕ → ℕ → ℕ
surveyed_gate told survey azimuth range = told (Ok (surveyed survey (ray_terms azimuth) range))

-- the same of each of a ray's gates
unfoldable pub surveyed_ray : (PlaceAnswer → ℕ) → SurveyTerms → Centres → ℕ → ℕ → List ℕ
surveyed_ray told survey centres azimuth gates = table (λ g. surveyed_gate told survey azimuth (centre_of centres g)) gates

-- the ledger has as many places as the ray has gates, the marks at least as many, and no gate lies beyond the greatest range
pub record RaySpan (centres : Centres) (ledger marks : List ℕ) : Type 0 where
  pub marks_most : length ledger ≤ length marks
  pub gates_most : length ledger ≤ 1000
  pub ranges : (g : ℕ) → g < length ledger → centre_of centres g ≤ 46000000
