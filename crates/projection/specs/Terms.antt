-- What the position asks of the eight numbers and of K, so that no product leaves 64 bits and the divisor is positive. Every
-- accepted site, ray and range meets it. Assumes nothing.
use Rattle.std.specs.Prelude.{ℕ, ℤ, pos, ◌≤ℤ◌}
use Rattle.arithmetic.specs.Magnitude.{Magnitude}
use Rattle.sine.specs.Bounds.{sine_limit, least_latitude_sine}
use Rattle.projection.specs.declared.arc.ArcTerms.{ArcTerms}
use Rattle.projection.specs.declared.position.RayTerms.{RayTerms}
use Rattle.projection.specs.declared.position.SiteTerms.{SiteTerms}

-- the largest sine of an arc, and the least and the largest cosine, times Q
abbrev pub arc_sine_limit : ℕ
arc_sine_limit = 77605900

abbrev pub least_arc_cosine : ℕ
least_arc_cosine = 1070900000

abbrev pub arc_cosine_limit : ℕ
arc_cosine_limit = 1076542939

abbrev pub limit_of_k : ℕ
limit_of_k = 1188882105

pub record SiteLimits (s : SiteTerms) : Type 0 where
  pub sp_limit : Magnitude s.sp sine_limit
  pub sp_least : pos least_latitude_sine ≤ℤ s.sp
  pub cp_limit : Magnitude s.cp sine_limit
  pub sl_limit : Magnitude s.sl sine_limit
  pub cl_limit : Magnitude s.cl sine_limit

pub record RayLimits (a : RayTerms) : Type 0 where
  pub sa_limit : Magnitude a.sa sine_limit
  pub ca_limit : Magnitude a.ca sine_limit

pub record Sound (s : SiteTerms) (a : RayTerms) (c : ArcTerms) (k : ℤ) : Type 0 where
  pub site : SiteLimits s
  pub ray : RayLimits a
  pub sd_limit : Magnitude c.sd arc_sine_limit
  pub cd_limit : Magnitude c.cd arc_cosine_limit
  pub cd_least : pos least_arc_cosine ≤ℤ c.cd
  pub k_limit : Magnitude k limit_of_k
