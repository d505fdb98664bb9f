-- Document 01, "Refusal numbers": the order of a single gate's checks. Assumes nothing.
use Rattle.std.specs.Prelude.{[], ◌∷◌, ℕ}
use Rattle.limits.specs.declared.grid.Grid.{Grid}
use Rattle.limits.specs.declared.site.Site.{Site}
use Rattle.limits.specs.Accepted.{range_accepted, azimuth_accepted, site_accepted, grid_accepted}
use Rattle.refusal.specs.Checks.{◌unless◌, first_refusal}

-- one gate is checked by 3, 4, 5, 7
unfoldable pub gate_refusal : Site → Grid → ℕ → ℕ → ℕ
gate_refusal site grid azimuth range =
    first_refusal (
    (3 unless range_accepted range)
    ∷ (4 unless site_accepted site)
    ∷ (5 unless grid_accepted grid)
    ∷ (7 unless azimuth_accepted azimuth)
    ∷ [])
