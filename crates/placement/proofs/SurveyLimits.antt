-- What is known of the survey of an accepted site and grid, and so of each of its gates. Assumes nothing.
use mathlib.Core.Path.{◌≡◌}
use mathlib.Core.Bool.{true}
use Prim.Native.Nat.{ℕ, ◌≤◌}
use lib.Dec.{lit≤}
use Rattle.arithmetic.proofs.Magnitude.{magnitude_weaken}
use Rattle.limits.specs.declared.grid.Grid.{Grid}
use Rattle.limits.specs.declared.grid.Grid.TheVariants.{Radolan, Hrap}
use Rattle.projection.specs.declared.position.RayTerms.{RayTerms}
use Rattle.limits.specs.declared.site.Site.{Site}
use Rattle.placement.specs.SurveyTerms.{SurveyTerms, Surveyed}
use Rattle.projection.specs.Arc.{arc_terms}
use Rattle.projection.specs.Position.{position_by}
use Rattle.limits.specs.Accepted.{site_accepted, grid_accepted}
use Rattle.grid.specs.Sphere.{sphere_of}
use Rattle.placement.specs.Survey.{survey_of}
use Rattle.projection.specs.Terms.{RayLimits, Sound}
use Rattle.placement.specs.CellRoom.{WindowLimits, Reachable}
use Rattle.grid.specs.Window.{window_of}
use Rattle.limits.proofs.Accepted.{accepted_site, accepted_radolan, accepted_hrap, hrap_corner}
use Rattle.projection.proofs.GateTerms.{good_sphere, site_limits, sound_of}
use Rattle.projection.proofs.PositionBounds.{X_limit, Y_limit}

pub window_limits : (grid : Grid) → grid_accepted grid ≡ true → WindowLimits (window_of grid)
unfolding window_of
window_limits (Radolan g) e =
    let known = accepted_radolan g e in
    record {
      side_least = known.side_least;
      side_most = known.side_most;
      columns_most = known.size.columns_most;
      rows_most = known.size.rows_most;
      corner_x = magnitude_weaken known.x_limit (lit≤ tt);
      corner_y = magnitude_weaken known.y_limit (lit≤ tt);
    }
window_limits (Hrap g) e =
    let known = accepted_hrap g e in
    record {
      side_least = lit≤ tt;
      side_most = lit≤ tt;
      columns_most = known.size.columns_most;
      rows_most = known.size.rows_most;
      corner_x = magnitude_weaken (hrap_corner 401 known.i_limit) (lit≤ tt);
      corner_y = magnitude_weaken (hrap_corner 1601 known.j_limit) (lit≤ tt);
    }

pub surveyed_of : (site : Site) (grid : Grid) → site_accepted site ≡ true → grid_accepted grid ≡ true → Surveyed (survey_of site grid)
unfolding survey_of
surveyed_of site grid s g =
    let H = good_sphere grid in
    let latitude = (accepted_site site s).latitude in
    record {
      radius_least = H.radius_least;
      radius_most = H.radius_most;
      k_limit = H.k_limit;
      site = site_limits (sphere_of grid).meridian site latitude.0 latitude.1 latitude.2 latitude.3;
      window = window_limits grid g;
    }

module _ (survey : SurveyTerms) (ray : RayTerms) (range : ℕ) (known : Surveyed survey) (limits : RayLimits ray) (near : range ≤ 46000000) where
  pub survey_sound : Sound survey.terms ray (arc_terms survey.sphere.radius range) survey.sphere.k
  survey_sound = sound_of _ _ survey.sphere.radius range survey.sphere.k known.site limits known.radius_least near known.k_limit

  pub survey_reachable : Reachable survey.window (position_by survey.terms ray (arc_terms survey.sphere.radius range) survey.sphere.k)
  unfolding position_by
  survey_reachable = record {
    limits = known.window;
    x_limit = X_limit _ _ _ _ survey_sound;
    y_limit = Y_limit _ _ _ _ survey_sound;
  }
