-- Document 01, "Position". Assumes nothing.
use Rattle.std.specs.Prelude.{ℕ, ℤ, pos, neg_ℤ, nat_abs, ◌+ℤ◌, ◌-ℤ◌, ◌*ℤ◌}
use Rattle.arithmetic.specs.Floor.{◌÷◌}
use Rattle.sine_series.specs.Tables.{Q}
use Rattle.sine.specs.Sine.{sine_of, cosine_of}
use Rattle.projection.specs.declared.arc.ArcTerms.{ArcTerms}
use Rattle.grid.specs.declared.sphere.Sphere.{Sphere}
use Rattle.projection.specs.declared.position.Position.{Position}
use Rattle.projection.specs.declared.position.RayTerms.{RayTerms}
use Rattle.limits.specs.declared.site.Site.{Site}
use Rattle.projection.specs.declared.position.SiteTerms.{SiteTerms}
use Rattle.projection.specs.Arc.{arc_terms}

-- sp, cp: sine and cosine of latitude; sl, cl: of longitude less central meridian
unfoldable pub site_terms : ℤ → Site → SiteTerms
site_terms meridian site = record {
  sp = sine_of site.latitude;
  cp = cosine_of site.latitude;
  sl = sine_of (site.longitude -ℤ meridian);
  cl = cosine_of (site.longitude -ℤ meridian);
}

-- sa, ca: sine and cosine of azimuth
unfoldable pub ray_terms : ℕ → RayTerms
ray_terms azimuth = record { sa = sine_of (pos azimuth); ca = cosine_of (pos azimuth) }

module _ (s : SiteTerms) (a : RayTerms) (c : ArcTerms) where
  unfoldable pub w : ℤ
  w = c.sd *ℤ a.ca ÷ Q

  unfoldable pub e : ℤ
  e = c.sd *ℤ a.sa ÷ Q

  unfoldable pub n : ℤ
  n = (s.sp *ℤ c.cd +ℤ s.cp *ℤ w) ÷ Q

  unfoldable pub m : ℤ
  m = (s.cp *ℤ c.cd -ℤ s.sp *ℤ w) ÷ Q

  unfoldable pub u : ℤ
  u = (e *ℤ s.cl +ℤ m *ℤ s.sl) ÷ Q

  unfoldable pub v : ℤ
  v = (m *ℤ s.cl -ℤ e *ℤ s.sl) ÷ Q

  -- Q + n, which is positive for every accepted site: theorem `divisor_positive`
  unfoldable pub divisor : ℕ
  divisor = nat_abs (pos Q +ℤ n)

  unfoldable pub X : ℤ → ℤ
  X K = K *ℤ u ÷ divisor

  unfoldable pub Y : ℤ → ℤ
  Y K = neg_ℤ K *ℤ v ÷ divisor

  unfoldable pub position_by : ℤ → Position
  position_by K = record { x = X K; y = Y K }

-- the position of a gate
unfoldable pub position_of : Sphere → Site → ℕ → ℕ → Position
position_of sphere site azimuth range =
    position_by (site_terms sphere.meridian site) (ray_terms azimuth) (arc_terms sphere.radius range) sphere.k
