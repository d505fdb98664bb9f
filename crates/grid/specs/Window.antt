-- The cells of a grid: document 01, "The scan" for corner and side, "Projection" for column and row; document 02, T-10, for the column and row of an
-- exact position. A star marks an exact value. Assumes nothing.
use Rattle.std.specs.Prelude.{Bool, ◌&&◌, ℕ, ◌+◌, ◌*◌, ℤ, pos, ◌-ℤ◌, ◌*ℤ◌, nat_abs}
use Rattle.std.specs.Int.Signed.{le_z, lt_z}
use Rattle.arithmetic.specs.Floor.{◌÷◌}
use Rattle.arithmetic.specs.Fraction.{Fraction, whole, floor, ◌⊖◌, ◌⊘◌}
use Rattle.limits.specs.declared.grid.Grid.{Grid}
use Rattle.limits.specs.declared.grid.Grid.TheVariants.{Radolan, Hrap}
use Rattle.grid.specs.declared.window.Window.{Window}

-- RADOLAN carries its corner and side; HRAP: side 476,250, corner at ((I - 401) x 476,250, (J - 1601) x 476,250)
unfoldable pub window_of : Grid → Window
window_of (Radolan g) = record { x = g.x; y = g.y; side = g.side; columns = g.columns; rows = g.rows }
window_of (Hrap g) = record {
  x = (g.i -ℤ pos 401) *ℤ pos 476250;
  y = (g.j -ℤ pos 1601) *ℤ pos 476250;
  side = 476250;
  columns = g.columns;
  rows = g.rows;
}

-- floor((X - corner x) / side), and the same for Y
unfoldable pub index_of : ℤ → ℕ → ℤ → ℤ
index_of corner side x = (x -ℤ corner) ÷ side

-- the same of an exact coordinate: the floor of the fraction less the corner, by the side
unfoldable pub index_of* : ℤ → ℕ → Fraction → ℤ
index_of* corner side x = floor ((x ⊖ whole corner) ⊘ whole (pos side))

-- from 0 to count - 1
unfoldable pub in_span : ℕ → ℤ → Bool
in_span count index = le_z (pos 0) index && lt_z index (pos count)

-- row x columns + column
unfoldable pub cell_number : ℕ → ℤ → ℤ → ℕ
cell_number columns row column = nat_abs row * columns + nat_abs column
