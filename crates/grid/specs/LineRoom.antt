-- What the test of a line asks. Every accepted grid and gate meets it. Assumes nothing.
use Rattle.std.specs.Prelude.{◌≡◌, ℕ, ◌≤◌, ℤ}
use Rattle.arithmetic.specs.Magnitude.{Magnitude}
use Rattle.grid.specs.Window.{index_of}

-- a side that is allowed, and the coordinate's own column or row
pub record LineRoom (corner : ℤ) (side : ℕ) (x index : ℤ) : Type 0 where
  pub side_least : 10000 ≤ side
  pub side_most : side ≤ 10000000
  pub corner_limit : Magnitude corner 10000000000
  pub x_limit : Magnitude x 10000000000
  pub index_is : index ≡ index_of corner side x
