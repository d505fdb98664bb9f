-- Demand 3: the position that is answered is near the exact one. Assumes nothing.
use Rattle.std.specs.Prelude.{Ok, Err, ℕ}
use Rattle.limits.specs.declared.grid.Grid.{Grid}
use Rattle.limits.specs.declared.site.Site.{Site}
use Rattle.projection.specs.Nearness.{WithinExact}
use Rattle.placement.specs.Gate.{PlaceAnswer}

-- whenever the answer is a position, it lies within so many centimetres of the exact one
unfoldable pub PositionWithin : ℕ → Site → Grid → ℕ → ℕ → PlaceAnswer → Type 0
PositionWithin bound site grid azimuth range (Ok placement) = WithinExact bound site grid azimuth range placement.x placement.y
PositionWithin bound site grid azimuth range (Err refusal) = Unit {0}
