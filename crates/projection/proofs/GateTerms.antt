-- The eight numbers and K of an accepted gate are sound. Assumes nothing.
use mathlib.Core.Path.{◌≡◌, subst, sym}
use mathlib.Core.Bool.{true}
use Prim.Native.Nat.{ℕ, ◌≤◌}
use lib.Dec.{lit<, lit≤}
use lib.IntN.{ℤ, pos}
use lib.Signed.{◌≤ℤ◌}
use Rattle.arithmetic.specs.Magnitude.{Magnitude}
use Rattle.arithmetic.specs.Nearness.{Near, gap}
use Rattle.arithmetic.proofs.Nearness.{near_number, near_weaken}
use Rattle.sine.specs.Bounds.{least_latitude_sine}
use Rattle.sine.specs.Sine.{sine_of}
use Rattle.sine.proofs.SineBounds.{sine_magnitude, cosine_magnitude, sine_of_latitude}
use Rattle.grid.specs.declared.sphere.Sphere.{Sphere}
use Rattle.limits.specs.declared.grid.Grid.{Grid}
use Rattle.limits.specs.declared.grid.Grid.TheVariants.{Radolan, Hrap}
use Rattle.projection.specs.declared.position.RayTerms.{RayTerms}
use Rattle.limits.specs.declared.site.Site.{Site}
use Rattle.projection.specs.declared.position.SiteTerms.{SiteTerms}
use Rattle.projection.specs.Arc.{arc_terms}
use Rattle.projection.specs.Position.{site_terms, ray_terms}
use Rattle.limits.specs.Accepted.{range_accepted, site_accepted}
use Rattle.grid.specs.Sphere.{exact_k, radolan_sphere, hrap_sphere, sphere_of}
use Rattle.projection.specs.Terms.{SiteLimits, RayLimits, Sound, limit_of_k}
use Rattle.limits.proofs.Accepted.{accepted_range, accepted_site}
use Rattle.projection.proofs.ArcBounds.{sd_limit, cd_limit, cd_least}

-- what is known of both spheres
pub record GoodSphere (sphere : Sphere) : Type 0 where
  pub radius_least : 637004000 ≤ sphere.radius
  pub radius_most : sphere.radius ≤ 637120000
  pub meridian_limit : Magnitude sphere.meridian 1050000
  pub k_limit : Magnitude sphere.k limit_of_k
  pub k_near : Near 1 50 1188882155 sphere.k (exact_k sphere.radius)

pub good_sphere : (grid : Grid) → GoodSphere (sphere_of grid)
unfolding sphere_of radolan_sphere hrap_sphere exact_k gap
good_sphere (Radolan g) = record {
  radius_least = lit≤ tt;
  radius_most = lit≤ tt;
  meridian_limit = record { bound = lit≤ tt };
  k_limit = record { bound = lit≤ tt };
  k_near = near_weaken 50 1188882155 (near_number {s = 1} {E = 50} {B = 1188665646} (lit< tt) (lit≤ tt) (record { bound = lit≤ tt })) (lit≤ tt) (lit≤ tt);
}
good_sphere (Hrap g) = record {
  radius_least = lit≤ tt;
  radius_most = lit≤ tt;
  meridian_limit = record { bound = lit≤ tt };
  k_limit = record { bound = lit≤ tt };
  k_near = near_number {s = 1} {E = 50} {B = 1188882105} (lit< tt) (lit≤ tt) (record { bound = lit≤ tt });
}

-- what is known of an accepted site, azimuth and range
pub record GoodGate (site : Site) (azimuth range : ℕ) : Type 0 where
  pub latitude : ℕ
  pub latitude_is : site.latitude ≡ pos latitude
  pub latitude_least : 200000 ≤ latitude
  pub latitude_most : latitude ≤ 750000
  pub longitude_limit : Magnitude site.longitude 1800000
  pub range_most : range ≤ 46000000

pub site_limits : (meridian : ℤ) (site : Site) (latitude : ℕ) → site.latitude ≡ pos latitude → 200000 ≤ latitude → latitude ≤ 750000 → SiteLimits (site_terms meridian site)
unfolding site_terms
site_limits meridian site latitude e least most = record {
  sp_limit = sine_magnitude _;
  sp_least = subst (λ (z : ℤ). pos least_latitude_sine ≤ℤ sine_of z) (sym e) (sine_of_latitude latitude least most);
  cp_limit = cosine_magnitude _;
  sl_limit = sine_magnitude _;
  cl_limit = cosine_magnitude _;
}

pub ray_limits : (azimuth : ℕ) → RayLimits (ray_terms azimuth)
unfolding ray_terms
ray_limits azimuth = record { sa_limit = sine_magnitude _; ca_limit = cosine_magnitude _ }

pub sound_of : (s : SiteTerms) (a : RayTerms) (R r : ℕ) (k : ℤ) → SiteLimits s → RayLimits a → 637004000 ≤ R → r ≤ 46000000 → Magnitude k limit_of_k → Sound s a (arc_terms R r) k
unfolding arc_terms
sound_of s a R r k site ray hR hr hk = record {
  site = site;
  ray = ray;
  sd_limit = sd_limit R r hR hr;
  cd_limit = cd_limit R r hR hr;
  cd_least = cd_least R r hR hr;
  k_limit = hk;
}

pub sound : (sphere : Sphere) (site : Site) (azimuth range : ℕ) → GoodSphere sphere → GoodGate site azimuth range → Sound (site_terms sphere.meridian site) (ray_terms azimuth) (arc_terms sphere.radius range) sphere.k
sound sphere site azimuth range H G =
    sound_of _ _ sphere.radius range sphere.k
    (site_limits sphere.meridian site G.latitude G.latitude_is G.latitude_least G.latitude_most)
    (ray_limits azimuth) H.radius_least G.range_most H.k_limit

pub good_gate : (site : Site) (azimuth range : ℕ) → range_accepted range ≡ true → site_accepted site ≡ true → GoodGate site azimuth range
good_gate site azimuth range r s =
    let known = accepted_site site s in
    record {
      latitude = known.latitude.0;
      latitude_is = known.latitude.1;
      latitude_least = known.latitude.2;
      latitude_most = known.latitude.3;
      longitude_limit = known.longitude;
      range_most = accepted_range range r;
    }
