-- What a contract sees of a survey, and what is known of every survey. Assumes nothing.
use Rattle.std.specs.Prelude.{◌≤◌}
use Rattle.arithmetic.specs.Magnitude.{Magnitude}
use Rattle.grid.specs.declared.sphere.Sphere.{Sphere}
use Rattle.grid.specs.declared.window.Window.{Window}
use Rattle.projection.specs.declared.position.SiteTerms.{SiteTerms}
use Rattle.projection.specs.Terms.{limit_of_k, SiteLimits}
use Rattle.placement.specs.CellRoom.{WindowLimits}

pub record SurveyTerms : Type 0 where
  pub terms : SiteTerms
  pub sphere : Sphere
  pub window : Window

-- what an accepted site and grid give
pub record Surveyed (survey : SurveyTerms) : Type 0 where
  pub radius_least : 637004000 ≤ survey.sphere.radius
  pub radius_most : survey.sphere.radius ≤ 637120000
  pub k_limit : Magnitude survey.sphere.k limit_of_k
  pub site : SiteLimits survey.terms
  pub window : WindowLimits survey.window
