-- Document 02, T-10: the cell of a gate by its exact position, line by line beside Located.antt and Gate.antt. A star marks an exact value.
-- Assumes nothing.
use Rattle.std.specs.Prelude.{Bool, false, ◌&&◌, cond, Option, Some, None, unwrap_or, Ok, Err, ◌≡◌, ℕ, ℤ}
use Rattle.arithmetic.specs.Fraction.{Fraction}
use Rattle.limits.specs.declared.grid.Grid.{Grid}
use Rattle.limits.specs.declared.site.Site.{Site}
use Rattle.grid.specs.declared.window.Window.{Window}
use Rattle.grid.specs.Sphere.{sphere_of}
use Rattle.grid.specs.Window.{window_of, index_of*, in_span, cell_number}
use Rattle.projection.specs.ExactPosition.{X*, Y*}
use Rattle.placement.specs.Gate.{PlaceAnswer, outside_entry}

module _ (window : Window) (x y : Fraction) where
  unfoldable pub column* : ℤ
  column* = index_of* window.x window.side x

  -- rows count northward
  unfoldable pub row* : ℤ
  row* = index_of* window.y window.side y

  unfoldable pub in_window* : Bool
  in_window* = in_span window.columns column* && in_span window.rows row*

  -- the cell, or none outside
  unfoldable pub located* : Option ℕ
  located* = cond in_window* (Some (cell_number window.columns row* column*)) None

-- the exact cell of a gate
unfoldable pub cell_of* : Site → Grid → ℕ → ℕ → Option ℕ
cell_of* site grid azimuth range =
    located* (window_of grid) (X* (sphere_of grid) site azimuth range) (Y* (sphere_of grid) site azimuth range)

-- its ledger entry: the cell, or 4,294,967,295
abbrev pub entry_of* : Option ℕ → ℕ
entry_of* cell = unwrap_or cell outside_entry

-- a gate that is not marked has the very cell of its exact position, or is outside in both
unfoldable pub ExactUnlessMarked : Site → Grid → ℕ → ℕ → PlaceAnswer → Type 0
ExactUnlessMarked site grid azimuth range (Ok placement) = placement.mark ≡ false → cell_of* site grid azimuth range ≡ placement.cell
ExactUnlessMarked site grid azimuth range (Err refusal) = Unit {0}
